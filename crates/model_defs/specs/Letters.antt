-- The letters of a job: for each name its kind, its words and the places of its numbers. They follow from the maps and
-- the structures of the matrices, and from no number.
use Rattle.std.specs.Prelude.{ℕ, ◌+◌, Bool, true, false, not, ◌==◌, List, [], ◌∷◌, ◌++◌, map, filter, is_some}
use Rattle.std.specs.List.{flat_map}
use Rattle.std.specs.Option.{unwrap_or}
use Rattle.tables.specs.declared.Cell.{Cell}
use Rattle.tables.specs.Tables.{Table, all_cells}
use Rattle.tables.specs.Indices.{count_from}
use Rattle.map_core.specs.Layouts.{owner}
use Rattle.mm_text.specs.Reading.{File}
use Rattle.outside.specs.declared.name.Name.{Name}
use Rattle.model_defs.specs.declared.job.Job.{Job}
use Rattle.model_defs.specs.Maps.{layout_of, list_of, is_home_rank}
use Rattle.model_defs.specs.Shapes.{shape}
use Rattle.letter_codec.specs.Letters.{entry_words}
use Rattle.letter_codec.specs.declared.kind.Kind.{Kind}
use Rattle.letter_codec.specs.declared.kind.Kind.TheVariants.{Rows}
use Rattle.model_defs.specs.Transfers.{Plan, owner_map}
use Rattle.model_defs.specs.Phases.{About, RegisterMap, AskOwners, TellOwners, SharePlan, SendNumbers, Phase, phases}
use Rattle.model_defs.specs.Plans.{One, one_semiring, one_conversions, width_of, structure_before, lacking, remote, sent_rows}
use Rattle.model_defs.specs.Stages.{transfer_at, entries, all_pieces, met_after}

-- the word of an index that has no owner
abbrev pub no_owner : ℕ
no_owner = 4294967295

-- a row of a matrix in a letter: its index, the number of its places, and their columns, ascending
abbrev pub row_columns : {S : Type 0} → Table S → ℕ → ℕ → List ℕ
row_columns t width i = filter (λ j. is_some (t i j)) (count_from 0 width)

abbrev pub row_words : {S : Type 0} → Table S → ℕ → ℕ → List ℕ
row_words t width i = entry_words (record { row = i; columns = row_columns t width i })

-- all pairs of different ranks, by the first, then the second
abbrev pub others : ℕ → ℕ → List ℕ
others P p = filter (λ q. not (p == q)) (count_from 0 P)

abbrev pub names_from : ℕ → ℕ → ℕ → List Name
names_from P n p = map (λ q. record { phase = n; from = p; to = q }) (others P p)

abbrev pub names_of_phase : ℕ → ℕ → List Name
names_of_phase P n = flat_map (names_from P n) (count_from 0 P)

module _ (job : Job) (files : List File) where
  -- what rank p asks rank h
  abbrev pub asked : Plan → ℕ → ℕ → List ℕ
  asked plan p h = filter (is_home_rank job (owner_map job plan) h) (lacking job files plan p)

  abbrev pub owner_word : ℕ → ℕ → ℕ
  owner_word m g = unwrap_or (owner (layout_of job m) g) no_owner

  -- the entries of the letter from p to q of a phase for value k
  abbrev pub entries_about : ℕ → About → ℕ → ℕ → List ℕ
  entries_about k (RegisterMap m) p q = filter (is_home_rank job m q) (list_of job m p)
  entries_about k (AskOwners plan) p q = asked plan p q
  entries_about k (TellOwners plan) p q = map (owner_word (owner_map job plan)) (asked plan q p)
  entries_about k (SharePlan plan) p q = remote job files plan p q
  entries_about k (SendNumbers stage) p q = sent_rows job files (transfer_at job k stage) p q

  -- the places that rank p has for others at a stage of value k
  abbrev pub entry_places : ℕ → ℕ → ℕ → Table One
  entry_places p k stage =
      entries one_semiring one_conversions job files p k stage (all_pieces one_semiring one_conversions job files (structure_before job files k) p)
      (met_after one_semiring one_conversions job files (λ v i j. 0) k (structure_before job files k) stage p)

  abbrev pub width : ℕ → ℕ
  width k = width_of job (shape job k)

  -- the places of a letter's numbers, in their order
  abbrev pub sent_places : ℕ → ℕ → ℕ → ℕ → List (Cell One)
  sent_places k stage p q = all_cells (entry_places p k stage) (sent_rows job files (transfer_at job k stage) p q) (count_from 0 (width k))

  abbrev pub places_about : ℕ → About → ℕ → ℕ → List (Cell One)
  places_about k (SendNumbers stage) p q = sent_places k stage p q
  places_about k _ p q = []

  -- rows are written with their columns, other entries as they are
  abbrev pub words_of_rows : Kind → Table One → ℕ → List ℕ → List ℕ
  words_of_rows Rows t cols rows = flat_map (row_words t cols) rows
  words_of_rows _ t cols rows = rows

  abbrev pub words_about : Kind → ℕ → About → ℕ → ℕ → List ℕ
  words_about kind k (SendNumbers stage) p q = words_of_rows kind (entry_places p k stage) (width k) (sent_rows job files (transfer_at job k stage) p q)
  words_about kind k about p q = entries_about k about p q

  abbrev pub letter_entries : Phase → Name → List ℕ
  letter_entries phase n = entries_about phase.value phase.about n.from n.to

  abbrev pub letter_words : Phase → Name → List ℕ
  letter_words phase n = words_about phase.kind phase.value phase.about n.from n.to

  abbrev pub letter_places : Phase → Name → List (Cell One)
  letter_places phase n = places_about phase.value phase.about n.from n.to

  -- A letter of numbers without entries is left out.
  abbrev pub is_posted : About → List ℕ → Bool
  is_posted (SendNumbers stage) [] = false
  is_posted _ _ = true

  abbrev pub phase_names : ℕ → Phase → List Name
  phase_names n phase = filter (λ name. is_posted phase.about (letter_entries phase name)) (names_of_phase job.ranks n)

  -- the names of the letters of these phases, of which the first has this number: by phase, sender, receiver
  abbrev pub names_of_phases : ℕ → List Phase → List Name
  names_of_phases n [] = []
  names_of_phases n (phase ∷ rest) = phase_names n phase ++ names_of_phases (n + 1) rest

  abbrev pub letter_names : List Name
  letter_names = names_of_phases 0 (phases job)
