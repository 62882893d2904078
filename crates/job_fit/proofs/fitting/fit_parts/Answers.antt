use Rattle.std.proofs.Common.{◌≡◌, ℕ, ◌+◌, length, map, refl, sym, ap, ◌∙◌, arith}
use Rattle.std.proofs.lemmas.List.{length-map}
use Rattle.mm_text.specs.Reading.{file_of}
use Rattle.model_defs.specs.Makers.{GivenParts}
use Rattle.job_fit.specs.Walk.{files_before, unfit_from}
use Rattle.job_fit.proofs.Positions.{files-there, files-next}
use Rattle.job_fit.proofs.Compared.{is-parts, parts-known, parts-few, misfit, fits}
use Rattle.job_fit.proofs.fitting.fit_parts.Goals as goal

pub each_part_fits-requires-clause-known : goal.each_part_fits-requires-clause-known
each_part_fits-requires-clause-known c =
    let is = is-parts c.args.job.now c.loop-m.m c.as_slice-spec-items.result.now c.spec-item.result c.loop-m-test.true c.as_slice-spec-items.ensures.items c.spec-item.is in
    parts-known c.args.job.now c.requires.valid (length c.args.job.now.vectors + c.loop-m.m) c.spec-item.result is.0 is.1

pub each_part_fits-requires-clause-few : goal.each_part_fits-requires-clause-few
each_part_fits-requires-clause-few c =
    let is = is-parts c.args.job.now c.loop-m.m c.as_slice-spec-items.result.now c.spec-item.result c.loop-m-test.true c.as_slice-spec-items.ensures.items c.spec-item.is in
    parts-few c.args.job.now c.requires.valid (length c.args.job.now.vectors + c.loop-m.m) c.spec-item.result is.0 is.1

pub each_part_fits-requires-clause-there : goal.each_part_fits-requires-clause-there
each_part_fits-requires-clause-there c =
    let k : ℕ = length c.args.job.now.vectors + c.loop-m.m in
    let is = is-parts c.args.job.now c.loop-m.m c.as_slice-spec-items.result.now c.spec-item.result c.loop-m-test.true c.as_slice-spec-items.ensures.items c.spec-item.is in
    let all = length-map c.args.files.now file_of in
    let there = files-there c.args.job.now (map file_of c.args.files.now) k c.loop-m.at _ (GivenParts c.spec-item.result) (all ∙ c.requires.count) is.0 is.1 c.loop-m.invariant.at refl in
    omega (arith, there, all)

pub returns-then-not-each_part_fits-clause-misfits : goal.returns-then-not-each_part_fits-clause-misfits
returns-then-not-each_part_fits-clause-misfits c = λ value e.
    let k : ℕ = length c.args.job.now.vectors + c.loop-m.m in
    let is = is-parts c.args.job.now c.loop-m.m c.as_slice-spec-items.result.now c.spec-item.result c.loop-m-test.true c.as_slice-spec-items.ensures.items c.spec-item.is in
    let before : length c.args.job.now.vectors ≡ length c.as_slice-vectors.result.now = sym (ap length c.as_slice-vectors.ensures.items) in
    let number : length c.as_slice-vectors.result.now + c.loop-m.m ≡ value = cc e in
    misfit c.args.job.now (map file_of c.args.files.now) k c.loop-m.at value (GivenParts c.spec-item.result) c.each_part_fits.result is.0 is.1 c.loop-m.invariant.at c.loop-m.invariant.fits
    c.each_part_fits.ensures c.if-not-each_part_fits.true (ap (λ n. n + c.loop-m.m) before ∙ number)

pub overflow_add-at : goal.overflow_add-at
overflow_add-at c =
    let k : ℕ = length c.args.job.now.vectors + c.loop-m.m in
    let is = is-parts c.args.job.now c.loop-m.m c.as_slice-spec-items.result.now c.spec-item.result c.loop-m-test.true c.as_slice-spec-items.ensures.items c.spec-item.is in
    let all = length-map c.args.files.now file_of in
    let there = files-there c.args.job.now (map file_of c.args.files.now) k c.loop-m.at c.count_of-at.result (GivenParts c.spec-item.result) (all ∙ c.requires.count) is.0 is.1 c.loop-m.invariant.at c.count_of-at.ensures.count in
    omega (arith, there, all)

pub loop-m-preserved : goal.loop-m-preserved
loop-m-preserved c =
    let k : ℕ = length c.args.job.now.vectors + c.loop-m.m in
    let next : k + 1 ≡ length c.args.job.now.vectors + (c.loop-m.m + 1) = omega arith in
    let is = is-parts c.args.job.now c.loop-m.m c.as_slice-spec-items.result.now c.spec-item.result c.loop-m-test.true c.as_slice-spec-items.ensures.items c.spec-item.is in
    record {
      at = files-next c.args.job.now (map file_of c.args.files.now) k c.loop-m.at c.count_of-at.result (GivenParts c.spec-item.result) is.0 is.1 c.loop-m.invariant.at c.count_of-at.ensures.count
          ∙ ap (files_before c.args.job.now) next;
      fits = fits c.args.job.now (map file_of c.args.files.now) k c.loop-m.at (GivenParts c.spec-item.result) c.each_part_fits.result is.0 is.1 c.loop-m.invariant.at c.loop-m.invariant.fits
          c.each_part_fits.ensures c.if-not-each_part_fits.false
          ∙ ap (unfit_from c.args.job.now (map file_of c.args.files.now)) next;
    }
