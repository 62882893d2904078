-- The machine of the ranks: each letter is what its sender makes of the letters that were given to it before, and each
-- rank's pieces are what it makes of the letters given to it.
use Rattle.std.specs.Prelude.{ℕ, ◌+◌, ◌*◌, Bool, true, false, ◌&&◌, ◌==◌, nat_lt, List, [], ◌∷◌, map, length, take, drop, filter, Option, None, Some}
use Rattle.std.specs.List.{slice_index_or}
use Rattle.std.specs.Option.{option_map, unwrap_or}
use Rattle.letter_codec.specs.Letters.{letter_bytes, number_bytes}
use Rattle.scalar_laws.specs.Semiring.{Semiring}
use Rattle.scalar_laws.specs.Conversions.{Conversions}
use Rattle.tables.specs.declared.Cell.{Cell}
use Rattle.tables.specs.Tables.{Table, found, sum_of}
use Rattle.tables.specs.Indices.{each_rank}
use Rattle.mm_text.specs.Reading.{File}
use Rattle.outside.specs.declared.name.Name.{Name}
use Rattle.model_defs.specs.declared.job.Job.{Job}
use Rattle.model_defs.specs.Shapes.{shape, is_by_rank}
use Rattle.model_defs.specs.Pieces.{Value}
use Rattle.letter_codec.specs.declared.kind.Kind.TheVariants.{Reg}
use Rattle.model_defs.specs.Phases.{About, RegisterMap, SendNumbers, Phase, phases, phase_for, send_phase}
use Rattle.model_defs.specs.Plans.{One}
use Rattle.model_defs.specs.Stages.{Arrivals, rank_entries, pieces}
use Rattle.model_defs.specs.Letters.{letter_names, letter_words, letter_places}
use Rattle.peers.specs.Protocols.{Protocol, Letter, Results, only}

-- how long the index part of a letter is
abbrev pub index_length : List ℕ → ℕ
index_length words = 9 + 8 * length words

-- the numbers of a table at these places, each in 32 bytes
abbrev pub place_bytes : {S : Type 0} → Semiring S → Conversions S → Table S → List (Cell One) → List ℕ
place_bytes R F t places = number_bytes F (map (λ c. unwrap_or (t c.row c.col) R.nought) places)

-- the cells whose numbers these bytes are, at these places
abbrev pub cells_at : {S : Type 0} → Conversions S → List (Cell One) → List ℕ → List (Cell S)
cells_at F [] bytes = []
cells_at F (c ∷ cs) bytes = record { row = c.row; col = c.col; value = F.of_wire (take 32 bytes) } ∷ cells_at F cs (drop 32 bytes)

-- the letters to a rank of a phase, in the order in which they were given
abbrev pub letters_of : ℕ → ℕ → List Letter → List Letter
letters_of n p g = filter (λ l. (l.0.phase == n) && (l.0.to == p)) g

-- the names of the letters to its sender of the phases before its own
abbrev pub names_before : Name → List Name → List Name
names_before n ns = filter (λ m. (m.to == n.from) && nat_lt m.phase n.phase) ns

abbrev pub no_phase : Phase
no_phase = phase_for 0 Reg (RegisterMap 0)

module _ {S : Type 0} (R : Semiring S) (F : Conversions S) (job : Job) (files : List File) where
  abbrev pub phase_of : Name → Phase
  phase_of n = slice_index_or (phases job) n.phase no_phase

  -- the cells of a letter that was given
  abbrev pub letter_cells : Letter → List (Cell S)
  letter_cells l =
      cells_at F (letter_places job files (phase_of l.0) l.0) (drop (index_length (letter_words job files (phase_of l.0) l.0)) l.1)

  abbrev pub letter_table : Letter → Table S
  letter_table l = found (letter_cells l)

  abbrev pub tables_of_phase : ℕ → List Letter → Option ℕ → List (Table S)
  tables_of_phase p g None = []
  tables_of_phase p g (Some n) = map letter_table (letters_of n p g)

  -- what came to rank p in the transfers, in the order in which it was given
  abbrev pub arrivals : ℕ → List Letter → Arrivals R F job files
  arrivals p g k stage = tables_of_phase p g (send_phase job k stage)

  -- the numbers that the sender makes of the letters that it was given
  abbrev pub numbers_about : ℕ → About → ℕ → List (Cell One) → List Letter → List ℕ
  numbers_about k (SendNumbers stage) p places g = place_bytes R F (rank_entries R F job files p (arrivals p g) k stage) places
  numbers_about k _ p places g = []

  abbrev pub letter_of_phase : Phase → Name → List Letter → List ℕ
  letter_of_phase phase n g =
      letter_bytes phase.kind (letter_words job files phase n)
      (numbers_about phase.value phase.about n.from (letter_places job files phase n) g)

  -- the bytes of a letter: of the letters that were given, those to its sender of earlier phases matter
  abbrev pub letter_content : Name → List Letter → List ℕ
  letter_content n g = letter_of_phase (phase_of n) n (only (names_before n (letter_names job files)) g)

  -- rank p's piece of a value, where these letters were given
  abbrev pub piece : ℕ → ℕ → List Letter → Table S
  piece p v g = pieces R F job files p (arrivals p g) v

  -- the numbers of a rank's pieces, as bytes
  abbrev pub piece_bytes : ℕ → List Letter → Results
  piece_bytes p g v i j = option_map F.to_wire (piece p v g i j)

  abbrev pub job_protocol : Protocol
  job_protocol = record {
    ranks = job.ranks;
    names = letter_names job files;
    before = λ n. names_before n (letter_names job files);
    content = letter_content;
    results = piece_bytes;
  }

  -- the ranks' pieces together: of a whole value their union, else each by itself
  abbrev pub united : Bool → Value S → Value S
  united true ts = ts
  united false ts = λ p. sum_of R (each_rank job.ranks ts)

  abbrev pub gathered_value : ℕ → List Letter → Value S
  gathered_value v g = united (is_by_rank (shape job v).sort) (λ p. piece p v g)
