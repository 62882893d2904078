use Rattle.std.proofs.Common.{◌≡◌, map}
use Rattle.mm_text.specs.Reading.{file_of}
use Rattle.model_defs.specs.Fitting.{first_unfit}
use Rattle.job_fit.specs.Walk.{files_before, unfit_from}
use Rattle.job_fit.proofs.fitting.fit_vectors.Given as goal

abbrev pub invariant-loop-k : goal.invariant-loop-k
invariant-loop-k l = record {
  at : l.at ≡ files_before l.job l.k;
  fits : first_unfit l.job (map file_of l.files) ≡ unfit_from l.job (map file_of l.files) l.k;
}
