use Rattle.std.proofs.Common.{◌∙◌, List, [], ◌∷◌, ◌++◌, map, ap}
use Rattle.mm_text.specs.declared.file_data.FileData.{FileData}
use Rattle.mm_text.specs.declared.file_data.Line.{Line}
use Rattle.mm_text.specs.declared.file_data.Mirror.TheVariants.{Plain}
use Rattle.mm_text.specs.Reading.{File, file_of}
use Rattle.rank_example.specs.SmallJob.{small_files}
use Rattle.rank_example.proofs.small_job.small_files.Goals as goal

pub returns : goal.returns
unfolding small_files
returns c =
    let with : List Line → File = λ xs. record { rows = 3; cols = 1; mirror = Plain; lines = xs } in
    let file : FileData = record { rows = 3; cols = 1; mirror = Plain; lines = c.in_ok-lines.field-0 } in
    let one = c.in_ok-push.ensures.items ∙ ap (λ (xs : List FileData). xs ++ file ∷ []) c.new-files.ensures.items in
    record { files = ap (λ (fs : List FileData). map file_of fs) one ∙ ap (λ (xs : List Line). with xs ∷ []) c.in_ok-lines.ensures.lines }
