-- The letters of rows: as they are packed they are the job's, and as they come they are letters of the job's rows.
use Rattle.std.specs.Prelude.{◌≡◌, ◌<◌, ℕ, List}
use Rattle.scalar_laws.specs.Semiring.{Semiring}
use Rattle.scalar_laws.specs.Conversions.{Conversions}
use Rattle.tables.specs.Tables.{Table, found}
use Rattle.letter_codec.specs.declared.kind.Kind.TheVariants.{Rows}
use Rattle.letter_codec.specs.Letters.{letter_bytes}
use Rattle.matrix_moves.specs.Arrivals.{IsPlacesLetter, cells_of_letter}
use Rattle.matrix_moves.specs.Sources.{rows_letter}
use Rattle.mm_text.specs.Reading.{File}
use Rattle.outside.specs.declared.name.Name.{Name}
use Rattle.model_defs.specs.declared.job.Job.{Job}
use Rattle.model_defs.specs.Laws.{HasPlaces}
use Rattle.model_defs.specs.Letters.{entry_places, sent_places, width}
use Rattle.model_defs.specs.Machine.{letter_table, place_bytes}
use Rattle.model_defs.specs.Makers.{value_count}
use Rattle.model_defs.specs.Phases.{send_kind}
use Rattle.model_defs.specs.Plans.{sent_rows}
use Rattle.model_defs.specs.Stages.{transfer_at}
use Rattle.model_defs.specs.Valid.{IsValid}
use Rattle.rank_stages.specs.LetterLaws.{IsRead, row_words}

-- Value k of a valid job has places, so its letters are ROWS.
pub record IsOfRows (job : Job) (k : ℕ) : Type 0 where
  pub valid : IsValid job
  pub below : k < value_count job
  pub rows : send_kind job k ≡ Rows

module _ {S : Type 0} (R : Semiring S) (F : Conversions S) where
  -- The letter of the rows that are sent, of a table with the places of the sender's entries, is the job's.
  abbrev pub RowsAreContent : Type 0
  RowsAreContent =
      (job : Job) (files : List File) (k stage p q : ℕ) (t : Table S) → send_kind job k ≡ Rows → HasPlaces t (entry_places job files p k stage)
      → rows_letter F (width job files k) t (sent_rows job files (transfer_at job k stage) p q)
      ≡ letter_bytes (send_kind job k) (row_words job files k stage p q) (place_bytes R F t (sent_places job files k stage p q))

  -- What a wire gives for it is a letter of these rows,
  abbrev pub LettersAreRows : Type 0
  LettersAreRows =
      (job : Job) (files : List File) (k stage : ℕ) (name : Name) (bytes : List ℕ) → IsOfRows job k → IsRead R F job files name bytes k stage
      → IsPlacesLetter bytes (sent_rows job files (transfer_at job k stage) name.from name.to)

  -- and its table, in whichever way it is read, is that of the job's letter.
  abbrev pub LettersAreTables : Type 0
  LettersAreTables =
      (job : Job) (files : List File) (k stage : ℕ) (name : Name) (bytes : List ℕ) → IsOfRows job k → IsRead R F job files name bytes k stage
      → (letter : IsPlacesLetter bytes (sent_rows job files (transfer_at job k stage) name.from name.to))
      → found (cells_of_letter F bytes (sent_rows job files (transfer_at job k stage) name.from name.to) letter)
      ≡ letter_table R F job files (name, bytes)
