-- The letters of the numbers of vectors and parts, however these are made: each row that is sent has all columns.
use Rattle.std.specs.Prelude.{◌≡◌, ◌<◌, ℕ, true, List}
use Rattle.scalar_laws.specs.Semiring.{Semiring}
use Rattle.scalar_laws.specs.Conversions.{Conversions}
use Rattle.tables.specs.Tables.{Table}
use Rattle.letter_codec.specs.declared.kind.Kind.TheVariants.{Nums}
use Rattle.letter_codec.specs.Letters.{letter_bytes}
use Rattle.vector_moves.specs.Moves.{IsRowsLetter}
use Rattle.mm_text.specs.Reading.{File}
use Rattle.outside.specs.declared.name.Name.{Name}
use Rattle.model_defs.specs.declared.job.Job.{Job}
use Rattle.model_defs.specs.Fitting.{IsFitting}
use Rattle.model_defs.specs.Letters.{sent_places}
use Rattle.model_defs.specs.Machine.{letter_table, place_bytes}
use Rattle.model_defs.specs.Makers.{value_count}
use Rattle.model_defs.specs.Phases.{send_kind}
use Rattle.model_defs.specs.Plans.{sent_rows}
use Rattle.model_defs.specs.Shapes.{is_dense, shape}
use Rattle.model_defs.specs.Stages.{stage_count, transfer_at}
use Rattle.model_defs.specs.Valid.{IsValid}
use Rattle.rank_stages.specs.DataLaws.{full_places}
use Rattle.rank_stages.specs.LetterLaws.{IsRead, row_words}
use Rattle.rank_transfers.specs.Arrivals.{numbers_table, table_letter}

-- Value k of a valid job is a vector or parts, and has a transfer of this number.
pub record IsOfCells (job : Job) (files : List File) (k stage : ℕ) : Type 0 where
  pub valid : IsValid job
  pub fitting : IsFitting job files
  pub below : k < value_count job
  pub dense : is_dense (shape job k).sort ≡ true
  pub known : stage < stage_count job k

-- Each row that is sent has all columns of the value.
abbrev pub CellsAreFull : Type 0
CellsAreFull =
    (job : Job) (files : List File) (k stage p q : ℕ) → IsOfCells job files k stage
    → sent_places job files k stage p q ≡ full_places (shape job k).columns (sent_rows job files (transfer_at job k stage) p q)

-- So its letters are DATA, with the rows as words.
abbrev pub CellsAreData : Type 0
CellsAreData =
    (job : Job) (files : List File) (k stage p q : ℕ) → IsOfCells job files k stage
    → (send_kind job k ≡ Nums) × (row_words job files k stage p q ≡ sent_rows job files (transfer_at job k stage) p q)

module _ {S : Type 0} (R : Semiring S) (F : Conversions S) where
  -- The letter of the rows that are sent is the job's, by whatever table.
  abbrev pub CellsAreContent : Type 0
  CellsAreContent =
      (job : Job) (files : List File) (k stage p q : ℕ) (t : Table S) → IsOfCells job files k stage
      → table_letter R F (shape job k).columns t (sent_rows job files (transfer_at job k stage) p q)
      ≡ letter_bytes (send_kind job k) (row_words job files k stage p q) (place_bytes R F t (sent_places job files k stage p q))

  -- What a wire gives for it is a letter of these rows,
  abbrev pub CellsComeInRows : Type 0
  CellsComeInRows =
      (job : Job) (files : List File) (k stage : ℕ) (name : Name) (bytes : List ℕ) → IsOfCells job files k stage
      → IsRead R F job files name bytes k stage
      → IsRowsLetter (shape job k).columns bytes (sent_rows job files (transfer_at job k stage) name.from name.to)

  -- and its table is that of the job's letter.
  abbrev pub CellsAreTables : Type 0
  CellsAreTables =
      (job : Job) (files : List File) (k stage : ℕ) (name : Name) (bytes : List ℕ) → IsOfCells job files k stage
      → (letter : IsRowsLetter (shape job k).columns bytes (sent_rows job files (transfer_at job k stage) name.from name.to))
      → IsRead R F job files name bytes k stage
      → numbers_table F (shape job k).columns (sent_rows job files (transfer_at job k stage) name.from name.to) letter.numbers
      ≡ letter_table R F job files (name, bytes)
