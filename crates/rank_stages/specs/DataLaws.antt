-- The numbers of vectors and parts on their way: each row that is sent has all its columns.
use Rattle.std.specs.Prelude.{◌≡◌, ℕ, ◌<◌, ◌*◌, true, List, Option, None, Some, length, map}
use Rattle.std.specs.List.{flat_map}
use Rattle.tables.specs.declared.Cell.{Cell}
use Rattle.tables.specs.Indices.{count_from}
use Rattle.mm_text.specs.Reading.{File}
use Rattle.letter_codec.specs.Letters.{IsLetter}
use Rattle.letter_codec.specs.declared.kind.Kind.TheVariants.{Nums}
use Rattle.model_defs.specs.declared.job.Job.{Job}
use Rattle.model_defs.specs.declared.job.Step.TheVariants as step
use Rattle.model_defs.specs.Fitting.{IsFitting}
use Rattle.model_defs.specs.Makers.{Maker, Made, maker_of, value_count}
use Rattle.model_defs.specs.Shapes.{is_dense, shape}
use Rattle.model_defs.specs.Plans.{One, sent_rows}
use Rattle.model_defs.specs.Stages.{transfer_at}
use Rattle.model_defs.specs.Letters.{sent_places}
use Rattle.model_defs.specs.Phases.{send_kind}
use Rattle.model_defs.specs.Valid.{IsValid}
use Rattle.rank_stages.specs.LetterLaws.{row_words}

-- the value whose cells a statement sends as they are
abbrev pub copied_by : Maker → Option ℕ
copied_by (Made (step.Move name source m)) = Some source
copied_by (Made (step.Import name source onto mode)) = Some source
copied_by (Made (step.Export name source onto mode)) = Some source
copied_by (Made (step.Spread name source m)) = Some source
copied_by _ = None

-- the places of these rows, row after row, each in so many columns
abbrev pub row_places : ℕ → ℕ → List (Cell One)
row_places columns i = map (λ j. record { row = i; col = j; value = tt }) (count_from 0 columns)

abbrev pub full_places : ℕ → List ℕ → List (Cell One)
full_places columns rows = flat_map (row_places columns) rows

-- Value k is made of the cells of a vector or of parts, which are sent as they are.
pub record IsCopied (job : Job) (files : List File) (k source : ℕ) : Type 0 where
  pub valid : IsValid job
  pub fitting : IsFitting job files
  pub below : k < value_count job
  pub is : copied_by (maker_of job k) ≡ Some source
  pub dense : is_dense (shape job source).sort ≡ true

-- Each row that is sent has all columns of the value.
abbrev pub CopiesAreFull : Type 0
CopiesAreFull =
    (job : Job) (files : List File) (k source p q : ℕ) → IsCopied job files k source
    → sent_places job files k 0 p q ≡ full_places (shape job k).columns (sent_rows job files (transfer_at job k 0) p q)

-- So its letters are DATA, with the rows as words.
abbrev pub CopiesAreData : Type 0
CopiesAreData =
    (job : Job) (files : List File) (k source p q : ℕ) → IsCopied job files k source
    → (send_kind job k ≡ Nums) × (row_words job files k 0 p q ≡ sent_rows job files (transfer_at job k 0) p q)

abbrev pub CopiesHaveForm : Type 0
CopiesHaveForm =
    (job : Job) (files : List File) (k source p q : ℕ) (numbers : List ℕ) → IsCopied job files k source
    → length numbers ≡ 32 * length (sent_places job files k 0 p q)
    → IsLetter Nums (sent_rows job files (transfer_at job k 0) p q) numbers
