-- The letters of a value that is made of a vector's cells: as they are packed they are the job's, and as they come they are
-- letters of the job's rows.
use Rattle.std.specs.Prelude.{◌≡◌, ℕ, List}
use Rattle.scalar_laws.specs.Semiring.{Semiring}
use Rattle.scalar_laws.specs.Conversions.{Conversions}
use Rattle.tables.specs.Tables.{Table}
use Rattle.letter_codec.specs.Letters.{letter_bytes}
use Rattle.vector_moves.specs.Moves.{IsRowsLetter}
use Rattle.mm_text.specs.Reading.{File}
use Rattle.outside.specs.declared.name.Name.{Name}
use Rattle.model_defs.specs.declared.job.Job.{Job}
use Rattle.model_defs.specs.Letters.{sent_places}
use Rattle.model_defs.specs.Machine.{letter_table, place_bytes}
use Rattle.model_defs.specs.Phases.{send_kind}
use Rattle.model_defs.specs.Plans.{sent_rows}
use Rattle.model_defs.specs.Shapes.{shape}
use Rattle.model_defs.specs.Stages.{transfer_at}
use Rattle.rank_stages.specs.DataLaws.{IsCopied}
use Rattle.rank_stages.specs.LetterLaws.{IsRead, row_words}
use Rattle.rank_transfers.specs.Arrivals.{numbers_table, table_letter}

module _ {S : Type 0} (R : Semiring S) (F : Conversions S) where
  -- The letter of the rows that are sent is the job's, by whatever table.
  abbrev pub LettersAreContent : Type 0
  LettersAreContent =
      (job : Job) (files : List File) (k source p q : ℕ) (t : Table S) → IsCopied job files k source
      → table_letter R F (shape job k).columns t (sent_rows job files (transfer_at job k 0) p q)
      ≡ letter_bytes (send_kind job k) (row_words job files k 0 p q) (place_bytes R F t (sent_places job files k 0 p q))

  -- What a wire gives for it is a letter of these rows,
  abbrev pub LettersAreRows : Type 0
  LettersAreRows =
      (job : Job) (files : List File) (k source : ℕ) (name : Name) (bytes : List ℕ) → IsCopied job files k source
      → IsRead R F job files name bytes k 0
      → IsRowsLetter (shape job k).columns bytes (sent_rows job files (transfer_at job k 0) name.from name.to)

  -- and its table is that of the job's letter.
  abbrev pub LettersAreTables : Type 0
  LettersAreTables =
      (job : Job) (files : List File) (k source : ℕ) (name : Name) (bytes : List ℕ) → IsCopied job files k source
      → (letter : IsRowsLetter (shape job k).columns bytes (sent_rows job files (transfer_at job k 0) name.from name.to))
      → (read : IsRead R F job files name bytes k 0)
      → numbers_table F (shape job k).columns (sent_rows job files (transfer_at job k 0) name.from name.to) letter.numbers
      ≡ letter_table R F job files (name, bytes)
