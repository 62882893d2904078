use Rattle.std.proofs.Common.{map, refl, ◌∙◌, arith}
use Rattle.std.proofs.lemmas.List.{length-map}
use Rattle.mm_text.specs.Reading.{file_of}
use Rattle.model_defs.specs.Makers.{GivenVector}
use Rattle.job_fit.proofs.Positions.{files-there, files-next}
use Rattle.job_fit.proofs.Compared.{is-vector, misfit, fits}
use Rattle.job_fit.proofs.fitting.fit_vectors.Goals as goal

pub vector_fits-requires : goal.vector_fits-requires
vector_fits-requires c =
    let is = is-vector c.args.job.now c.loop-k.k c.as_slice-spec-items.result.now c.spec-item.result c.loop-k-test.true c.as_slice-spec-items.ensures.items c.spec-item.is in
    let all = length-map c.args.files.now file_of in
    let there = files-there c.args.job.now (map file_of c.args.files.now) c.loop-k.k c.loop-k.at _ (GivenVector c.spec-item.result) (all ∙ c.requires.count) is.0 is.1 c.loop-k.invariant.at refl in
    record { there = omega (arith, there, all) }

pub returns-then-not-vector_fits-clause-misfits : goal.returns-then-not-vector_fits-clause-misfits
returns-then-not-vector_fits-clause-misfits c = λ value e.
    let is = is-vector c.args.job.now c.loop-k.k c.as_slice-spec-items.result.now c.spec-item.result c.loop-k-test.true c.as_slice-spec-items.ensures.items c.spec-item.is in
    misfit c.args.job.now (map file_of c.args.files.now) c.loop-k.k c.loop-k.at value (GivenVector c.spec-item.result) c.vector_fits.result is.0 is.1 c.loop-k.invariant.at c.loop-k.invariant.fits
    c.vector_fits.ensures c.if-not-vector_fits.true (cc e)

pub overflow_add-at : goal.overflow_add-at
overflow_add-at c =
    let is = is-vector c.args.job.now c.loop-k.k c.as_slice-spec-items.result.now c.spec-item.result c.loop-k-test.true c.as_slice-spec-items.ensures.items c.spec-item.is in
    let all = length-map c.args.files.now file_of in
    let there = files-there c.args.job.now (map file_of c.args.files.now) c.loop-k.k c.loop-k.at c.count_of-at.result (GivenVector c.spec-item.result) (all ∙ c.requires.count) is.0 is.1 c.loop-k.invariant.at c.count_of-at.ensures.count in
    omega (arith, there, all)

pub loop-k-preserved : goal.loop-k-preserved
loop-k-preserved c =
    let is = is-vector c.args.job.now c.loop-k.k c.as_slice-spec-items.result.now c.spec-item.result c.loop-k-test.true c.as_slice-spec-items.ensures.items c.spec-item.is in
    record {
      at = files-next c.args.job.now (map file_of c.args.files.now) c.loop-k.k c.loop-k.at c.count_of-at.result (GivenVector c.spec-item.result) is.0 is.1 c.loop-k.invariant.at c.count_of-at.ensures.count;
      fits = fits c.args.job.now (map file_of c.args.files.now) c.loop-k.k c.loop-k.at (GivenVector c.spec-item.result) c.vector_fits.result is.0 is.1 c.loop-k.invariant.at c.loop-k.invariant.fits
          c.vector_fits.ensures c.if-not-vector_fits.false;
    }
