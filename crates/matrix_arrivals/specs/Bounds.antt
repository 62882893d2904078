-- How large the letters of rows are.
use Rattle.std.specs.Prelude.{◌≡◌, ◌<◌, ◌≤◌, ◌^◌, ℕ, List, length}
use Rattle.letter_codec.specs.declared.kind.Kind.TheVariants.{Rows}
use Rattle.mm_text.specs.Reading.{File}
use Rattle.model_defs.specs.declared.job.Job.{Job}
use Rattle.model_defs.specs.Letters.{width}
use Rattle.model_defs.specs.Limits.{most_indices}
use Rattle.model_defs.specs.Makers.{value_count}
use Rattle.model_defs.specs.Phases.{send_kind}
use Rattle.model_defs.specs.Plans.{sent_rows}
use Rattle.model_defs.specs.declared.phase.Transfer.{Transfer}
use Rattle.model_defs.specs.Valid.{IsValid}
use Rattle.rank_stages.specs.LetterLaws.{row_words}

-- A transfer sends at most 2^24 rows to a rank,
abbrev pub SentRowsAreFew : Type 0
SentRowsAreFew = (job : Job) (files : List File) (t : Transfer) (p q : ℕ) → IsValid job → length (sent_rows job files t p q) ≤ most_indices

-- and a matrix has at most 2^24 columns.
abbrev pub MatricesAreNarrow : Type 0
MatricesAreNarrow = (job : Job) (files : List File) (k : ℕ) → IsValid job → k < value_count job → send_kind job k ≡ Rows → width job files k ≤ most_indices

-- So the words of its letters are few.
abbrev pub RowWordsAreFew : Type 0
RowWordsAreFew =
    (job : Job) (files : List File) (k stage p q : ℕ) → IsValid job → k < value_count job → send_kind job k ≡ Rows
    → length (row_words job files k stage p q) < 2 ^ 64
