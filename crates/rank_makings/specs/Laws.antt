-- What comes stays what it is while letters of its phase come.
use Rattle.std.specs.Prelude.{◌≡◌, ◌≤◌, ◌<◌, ◌^◌, ◌++◌, ◌∷◌, [], ℕ, List, length, Some}
use Rattle.letter_codec.specs.declared.kind.Kind.{Kind}
use Rattle.letter_codec.specs.Letters.{IsLetter, letter_bytes}
use Rattle.outside.specs.declared.name.Name.{Name}
use Rattle.rank_stages.specs.LetterLaws.{row_words}
use Rattle.scalar_laws.specs.Semiring.{Semiring}
use Rattle.scalar_laws.specs.Conversions.{Conversions}
use Rattle.tables.specs.Tables.{Table}
use Rattle.mm_text.specs.Reading.{File}
use Rattle.peers.specs.Protocols.{Letter}
use Rattle.model_defs.specs.declared.job.Job.{Job}
use Rattle.crs_matrix.specs.Rows.{IsRowCells, RowCells, all_columns}
use Rattle.model_defs.specs.Fitting.{IsFitting}
use Rattle.model_defs.specs.Phases.{send_phase}
use Rattle.model_defs.specs.Plans.{rank_columns}
use Rattle.model_defs.specs.Valid.{IsValid}
use Rattle.value_phases.specs.ValuePhases.{IsStructured}
use Rattle.rank_pieces.specs.declared.pieces.Piece.{Piece}
use Rattle.rank_makings.specs.declared.coming.Coming.{Coming}
use Rattle.rank_makings.specs.Comings.{AreHeard, IsComing, IsComingIn, IsFilled, IsLetterFor, Scene}

abbrev pub ComingsStay : {S : Type 0} → Semiring S → Conversions S → Type 0
ComingsStay {S} R F =
    (job : Job) (files : List File) (me : ℕ) (pieces : List (Piece S)) (given : List Letter) (l : Letter) (k stage phase : ℕ) (now : Table S) (c : Coming S)
    → send_phase job k stage ≡ Some phase → phase ≤ l.0.phase
    → IsComing R F job files me pieces given k stage now c → IsComing R F job files me pieces (given ++ l ∷ []) k stage now c

-- A matrix under construction whose numbers came, as those of the values before it did, has the columns of the rank's column plan.
abbrev pub FillsHaveColumns : {S : Type 0} → Semiring S → Conversions S → Type 0
FillsHaveColumns {S} R F =
    (job : Job) (files : List File) (me : ℕ) (pieces : List (Piece S)) (given : List Letter) (k phase : ℕ) (fill : RowCells S) → IsValid job → IsFitting job files
    → IsStructured job k → ((stage m : ℕ) → send_phase job k stage ≡ Some m → m < phase) → ((v stage m : ℕ) → v < k → send_phase job v stage ≡ Some m → m < phase)
    → AreHeard job files me phase given
    → IsRowCells fill → IsFilled R F job files me pieces given k fill → all_columns fill ≡ rank_columns job files k me

-- The words of its letters have room,
abbrev pub WordsAreFew : Type 0
WordsAreFew =
    (job : Job) (files : List File) (k stage p q m : ℕ) → IsValid job → IsFitting job files → send_phase job k stage ≡ Some m
    → length (row_words job files k stage p q) < 2 ^ 64

-- and what a wire gives for them has a letter's form.
abbrev pub LettersHaveForm : {S : Type 0} → Semiring S → Conversions S → Type 0
LettersHaveForm {S} R F =
    (e : Scene S) (c : Coming S) (name : Name) (bytes : List ℕ) → IsComingIn R F e c → IsLetterFor R F e name bytes
    → (kind : Kind) × ((words : List ℕ) × ((numbers : List ℕ) × (IsLetter kind words numbers × (bytes ≡ letter_bytes kind words numbers))))
