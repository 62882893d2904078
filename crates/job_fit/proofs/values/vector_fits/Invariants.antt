use Rattle.std.proofs.Common.{◌≡◌, ◌-◌, length, map}
use Rattle.std.specs.List.{list_all}
use Rattle.tables.specs.Indices.{count_from}
use Rattle.mm_text.specs.Reading.{file_of}
use Rattle.model_defs.specs.Given.{origin_files}
use Rattle.model_defs.specs.Makers.{GivenVector}
use Rattle.job_fit.specs.Walk.{part_fits, parts_fit}
use Rattle.job_fit.proofs.values.vector_fits.Given as goal

abbrev pub invariant-loop-part : goal.invariant-loop-part
invariant-loop-part l =
    parts_fit l.job (map file_of l.files) l.at (GivenVector l.spec)
    ≡ list_all (part_fits l.job (map file_of l.files) l.at (GivenVector l.spec)) (count_from l.part (length (origin_files l.spec.from) - l.part))
