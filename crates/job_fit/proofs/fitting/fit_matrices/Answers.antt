use Rattle.std.proofs.Common.{◌≡◌, ℕ, ◌+◌, length, map, refl, sym, ap, ◌∙◌, arith}
use Rattle.std.proofs.lemmas.List.{length-map}
use Rattle.mm_text.specs.Reading.{file_of}
use Rattle.model_defs.specs.Makers.{GivenMatrix}
use Rattle.job_fit.specs.Walk.{files_before, unfit_from}
use Rattle.job_fit.proofs.Positions.{files-there, files-next, fits-all}
use Rattle.job_fit.proofs.Compared.{is-matrix, misfit, fits}
use Rattle.job_fit.proofs.fitting.fit_matrices.Goals as goal

pub matrix_fits-requires : goal.matrix_fits-requires
matrix_fits-requires c =
    let k : ℕ = length c.args.job.now.vectors + length c.args.job.now.parts + c.loop-m.m in
    let is = is-matrix c.args.job.now c.loop-m.m c.as_slice-spec-items.result.now c.spec-item.result c.loop-m-test.true c.as_slice-spec-items.ensures.items c.spec-item.is in
    let all = length-map c.args.files.now file_of in
    let there = files-there c.args.job.now (map file_of c.args.files.now) k (c.args.first + c.loop-m.m) 1 (GivenMatrix c.spec-item.result) (all ∙ c.requires.count) is.0 is.1 (sym c.loop-m.invariant.at) refl in
    record { there = omega (arith, there, all) }

pub returns-then-not-matrix_fits-clause-misfits : goal.returns-then-not-matrix_fits-clause-misfits
returns-then-not-matrix_fits-clause-misfits c = λ value e.
    let k : ℕ = length c.args.job.now.vectors + length c.args.job.now.parts + c.loop-m.m in
    let is = is-matrix c.args.job.now c.loop-m.m c.as_slice-spec-items.result.now c.spec-item.result c.loop-m-test.true c.as_slice-spec-items.ensures.items c.spec-item.is in
    let number : length c.as_slice.result.now + length c.as_slice-2.result.now + c.loop-m.m ≡ value = cc e in
    misfit c.args.job.now (map file_of c.args.files.now) k (c.args.first + c.loop-m.m) value (GivenMatrix c.spec-item.result) c.matrix_fits.result is.0 is.1 (sym c.loop-m.invariant.at) c.loop-m.invariant.fits
    c.matrix_fits.ensures c.if-not-matrix_fits.true (sym (λ t. length (c.as_slice.ensures.items t) + length (c.as_slice-2.ensures.items t) + c.loop-m.m) ∙ number)

pub loop-m-preserved : goal.loop-m-preserved
loop-m-preserved c =
    let k : ℕ = length c.args.job.now.vectors + length c.args.job.now.parts + c.loop-m.m in
    let next : k + 1 ≡ length c.args.job.now.vectors + length c.args.job.now.parts + (c.loop-m.m + 1) = omega arith in
    let is = is-matrix c.args.job.now c.loop-m.m c.as_slice-spec-items.result.now c.spec-item.result c.loop-m-test.true c.as_slice-spec-items.ensures.items c.spec-item.is in
    record {
      at = sym (ap (files_before c.args.job.now) next) ∙ sym (files-next c.args.job.now (map file_of c.args.files.now) k (c.args.first + c.loop-m.m) 1 (GivenMatrix c.spec-item.result) is.0 is.1 (sym c.loop-m.invariant.at) refl)
          ∙ omega arith;
      fits = fits c.args.job.now (map file_of c.args.files.now) k (c.args.first + c.loop-m.m) (GivenMatrix c.spec-item.result) c.matrix_fits.result is.0 is.1 (sym c.loop-m.invariant.at) c.loop-m.invariant.fits
          c.matrix_fits.ensures c.if-not-matrix_fits.false
          ∙ ap (unfit_from c.args.job.now (map file_of c.args.files.now)) next;
    }

pub returns-clause-fits : goal.returns-clause-fits
returns-clause-fits c =
    let many = ap length c.as_slice-spec-items.ensures.items in
    let last : length c.args.job.now.vectors + length c.args.job.now.parts + c.loop-m.m ≡ length c.args.job.now.vectors + length c.args.job.now.parts + length c.args.job.now.matrices = omega arith in
    c.loop-m.invariant.fits ∙ ap (unfit_from c.args.job.now (map file_of c.args.files.now)) last ∙ fits-all c.args.job.now (map file_of c.args.files.now)
