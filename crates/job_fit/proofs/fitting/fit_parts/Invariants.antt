use Rattle.std.proofs.Common.{◌≡◌, ◌+◌, length, map}
use Rattle.mm_text.specs.Reading.{file_of}
use Rattle.model_defs.specs.Fitting.{first_unfit}
use Rattle.job_fit.specs.Walk.{files_before, unfit_from}
use Rattle.job_fit.proofs.fitting.fit_parts.Given as goal

abbrev pub invariant-loop-m : goal.invariant-loop-m
invariant-loop-m l = record {
  at : l.at ≡ files_before l.job (length l.job.vectors + l.m);
  fits : first_unfit l.job (map file_of l.files) ≡ unfit_from l.job (map file_of l.files) (length l.job.vectors + l.m);
}
