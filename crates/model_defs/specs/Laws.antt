-- The laws of the machine. That it computes the values on the global data rests on some laws for each way of making a
-- value, which name no letter, and on laws that name no way of making a value.
use Rattle.std.specs.Prelude.{◌≡◌, ◌<◌, ◌⊎◌, ◌&&◌, ℕ, Bool, true, false, nat_lt, List, [], Some, is_some, length, map}
use Rattle.std.specs.List.{flat_map}
use Rattle.scalar_laws.specs.Semiring.{Semiring}
use Rattle.scalar_laws.specs.Conversions.{Conversions}
use Rattle.tables.specs.Tables.{Table, all_cells}
use Rattle.tables.specs.Indices.{count_from}
use Rattle.mm_text.specs.Reading.{File}
use Rattle.map_core.specs.Layouts.{IsTotal, IsOneToOne, owner}
use Rattle.model_defs.specs.declared.job.Job.{Job}
use Rattle.model_defs.specs.Maps.{has_index, is_mapped, size_of, layout_of}
use Rattle.model_defs.specs.Makers.{maker_of, value_count}
use Rattle.model_defs.specs.Turns.{Each}
use Rattle.model_defs.specs.Shapes.{Shape, shape, Sort, Vector, Split, is_dense, is_by_rank}
use Rattle.model_defs.specs.Pieces.{Value, piece_of}
use Rattle.model_defs.specs.Eval.{Pick, eval, make_value}
use Rattle.letter_codec.specs.declared.kind.Kind.TheVariants.{Rows}
use Rattle.model_defs.specs.Phases.{send_phase}
use Rattle.model_defs.specs.Transfers.{owner_map}
use Rattle.model_defs.specs.Plans.{structure, sent_rows, rank_columns, rank_rows}
use Rattle.model_defs.specs.Stages.{Arrivals, stage_count, all_pieces, met_after, made_piece, rank_entries, entries, transfer_at}
use Rattle.outside.specs.declared.name.Name.{Name}
use Rattle.model_defs.specs.Letters.{entry_places, letter_names, width, row_words, words_of_rows, sent_places}
use Rattle.peers.specs.Protocols.{Letter, IsProtocol, stands_in, firsts}
use Rattle.outside.specs.MailRoom.{names_of}
use Rattle.model_defs.specs.CompleteRuns.{IsCompleteRun}
use Rattle.model_defs.specs.Machine.{place_bytes, job_protocol, gathered_value, arrivals, letters_of}
use Rattle.model_defs.specs.Picks.{pick_of}
use Rattle.model_defs.specs.Valid.{IsValid}
use Rattle.model_defs.specs.Fitting.{IsFitting}

-- Every job has a complete run over an honest wire.
abbrev pub JobsCanRun : {S : Type 0} → Semiring S → Conversions S → Type 0
JobsCanRun R F = (job : Job) (files : List File) → (g : List Letter) × IsCompleteRun (job_protocol R F job files) g

-- The letters of a job are a protocol, whatever the kind of number.
abbrev pub JobsAreProtocols : {S : Type 0} → Semiring S → Conversions S → Type 0
JobsAreProtocols R F = (job : Job) (files : List File) → IsProtocol (job_protocol R F job files)

-- Two transfers in the order in which they happen: of different values, or of one.
abbrev pub IsEarlierStage : ℕ → ℕ → ℕ → ℕ → Type 0
IsEarlierStage v s k t = (v < k) ⊎ ((v ≡ k) × (s < t))

-- An earlier transfer has an earlier phase, if both have one.
abbrev pub StagesAreInOrder : Type 0
StagesAreInOrder =
    (job : Job) (v s k t m n : ℕ) → IsEarlierStage v s k t → send_phase job v s ≡ Some m → send_phase job k t ≡ Some n → m < n

-- What a rank has for others depends on what came to it in earlier transfers alone.
abbrev pub EntriesAreEarly : {S : Type 0} → Semiring S → Conversions S → Type 0
EntriesAreEarly R F =
    (job : Job) (files : List File) (p k t : ℕ) (a b : Arrivals R F job files)
    → ((v s : ℕ) → IsEarlierStage v s k t → a v s ≡ b v s)
    → rank_entries R F job files p a k t ≡ rank_entries R F job files p b k t

-- So in the phase n that sends them they are the same for all lists that have the same letters of phases before n.
abbrev pub EarlierLetters : {S : Type 0} → Semiring S → Conversions S → Type 0
EarlierLetters R F =
    (job : Job) (files : List File) (p k t n : ℕ) (g h : List Letter) → send_phase job k t ≡ Some n
    → ((m : ℕ) → m < n → letters_of m p g ≡ letters_of m p h)
    → rank_entries R F job files p (arrivals R F job files p g) k t ≡ rank_entries R F job files p (arrivals R F job files p h) k t

-- Which cells a value has, by its shape: a vector and parts have each of their columns in each row of their maps, a matrix
-- has places within its sizes, and a whole value is the same for each part number.
abbrev pub has_cells : Job → Shape → Sort → ℕ → ℕ → Bool
has_cells job s Vector p i = is_mapped job s.rows i
has_cells job s _ p i = has_index job s.rows p i

pub record IsFormed {S : Type 0} (job : Job) (s : Shape) (v : Value S) : Type 0 where
  pub dense : is_dense s.sort ≡ true → (p i j : ℕ) → is_some (v p i j) ≡ (has_cells job s s.sort p i && nat_lt j s.columns)
  pub within : is_dense s.sort ≡ false → (p i j : ℕ) → is_some (v p i j) ≡ true → (i < size_of job s.rows) × (j < size_of job s.domain)
  pub whole : is_by_rank s.sort ≡ false → (p : ℕ) → v p ≡ v 0

-- the same places, whatever the numbers
abbrev pub HasPlaces : {S T : Type 0} → Table S → Table T → Type 0
HasPlaces t u = (i j : ℕ) → is_some (t i j) ≡ is_some (u i j)

-- the values before k, as the laws of value k take them
pub record AreBefore {S : Type 0} (job : Job) (files : List File) (k : ℕ) (values : Each (Value S)) : Type 0 where
  pub formed : (v : ℕ) → v < k → IsFormed job (shape job v) (values v)
  pub placed : (v p : ℕ) → v < k → HasPlaces (values v p) (structure job files v p)

-- The places of values do not depend on their numbers, nor on what is picked.
abbrev pub PlacesAreStructure : {S : Type 0} → Semiring S → Conversions S → Type 0
PlacesAreStructure R F =
    (job : Job) (files : List File) (pick : Pick) (v p : ℕ) → HasPlaces (eval R F job files pick v p) (structure job files v p)

-- The laws of value k. It has the cells of its shape.
abbrev pub IsFormedValue : {S : Type 0} → Semiring S → Conversions S → Job → List File → ℕ → Type 0
IsFormedValue {S} R F job files k =
    (pick : Pick) (values : Each (Value S)) → AreBefore job files k values
    → IsFormed job (shape job k) (make_value R F job files pick k values (maker_of job k))

-- The row law: what each rank makes of its pieces of the values before, and of all that the ranks have for each other, is
-- its piece of the value.
abbrev pub IsMadeByRanks : {S : Type 0} → Semiring S → Conversions S → Job → List File → ℕ → Type 0
IsMadeByRanks {S} R F job files k =
    (pick : Pick) (values : Each (Value S)) → AreBefore job files k values → (p : ℕ) → p < job.ranks
    → made_piece R F job files p k (all_pieces R F job files values p) (met_after R F job files pick k values (stage_count job k) p)
    ≡ piece_of job (shape job k) p (make_value R F job files pick k values (maker_of job k))

-- What a rank has for others at a stage has the places of the letters, within the columns of the value.
abbrev pub IsSendable : {S : Type 0} → Job → List File → ℕ → ℕ → ℕ → Table S → Type 0
IsSendable job files k t p entries =
    HasPlaces entries (entry_places job files p k t) × ((i j : ℕ) → is_some (entries i j) ≡ true → j < width job files k)

abbrev pub AreWithinWidth : {S : Type 0} → Semiring S → Conversions S → Job → List File → ℕ → Type 0
AreWithinWidth {S} R F job files k =
    (pick : Pick) (values : Each (Value S)) → AreBefore job files k values → (t p i j : ℕ) → t < stage_count job k
    → is_some (entries R F job files p k t (all_pieces R F job files values p) (met_after R F job files pick k values t p) i j) ≡ true
    → j < width job files k

-- Each index has one owner in the maps by which value k is made.
abbrev pub HaveOwners : Job → ℕ → Type 0
HaveOwners job k = (t : ℕ) → t < stage_count job k → IsOneToOne (layout_of job (owner_map job (transfer_at job k t).plan))

-- Each row of a whole value has one owner among the ranks; the rows of a matrix all have.
pub record IsOwned (job : Job) (s : Shape) : Type 0 where
  pub one : IsOneToOne (layout_of job s.rows)
  pub below : (i q : ℕ) → owner (layout_of job s.rows) i ≡ Some q → q < job.ranks
  pub total : is_dense s.sort ≡ false → IsTotal (layout_of job s.rows)

pub record HasRowLaws {S : Type 0} (R : Semiring S) (F : Conversions S) (job : Job) (files : List File) : Type 0 where
  pub formed : (k : ℕ) → k < value_count job → IsFormedValue R F job files k
  pub widths : (k : ℕ) → k < value_count job → AreWithinWidth R F job files k
  pub owners : (k : ℕ) → k < value_count job → HaveOwners job k
  pub owned : (k : ℕ) → k < value_count job → is_by_rank (shape job k).sort ≡ false → IsOwned job (shape job k)
  pub made : (k : ℕ) → k < value_count job → IsMadeByRanks R F job files k

-- The row laws hold of every valid job whose files fit.
abbrev pub RowLaws : {S : Type 0} → Semiring S → Conversions S → Type 0
RowLaws R F = (job : Job) (files : List File) → IsValid job → IsFitting job files → HasRowLaws R F job files

-- Once all letters to it of earlier phases have come, a rank's entries have the places of the structure. The letters have
-- whatever bytes: no wire need be honest.
abbrev pub EntriesArePlaced : {S : Type 0} → Semiring S → Conversions S → Type 0
EntriesArePlaced {S} R F =
    (job : Job) (files : List File) (g : List Letter) (p k t n : ℕ) → IsValid job → IsFitting job files
    → send_phase job k t ≡ Some n
    → ((m : Name) → stands_in (letter_names job files) m ≡ true → m.to ≡ p → m.phase < n → stands_in (names_of g) m ≡ true)
    → HasPlaces (rank_entries R F job files p (arrivals R F job files p g) k t) (entry_places job files p k t)

-- So the sender of a transfer's letter writes its own cells of the rows that are sent: their columns are the letter's words,
-- and their numbers, in order, are those at the letter's places.
abbrev pub OwnCellsAreSent : {S : Type 0} → Semiring S → Conversions S → Type 0
OwnCellsAreSent {S} R F =
    (job : Job) (files : List File) (p q k t : ℕ) (own : Table S) → HasPlaces own (entry_places job files p k t)
    → (flat_map (row_words own (width job files k)) (sent_rows job files (transfer_at job k t) p q)
    ≡ words_of_rows job files Rows (entry_places job files p k t) (width job files k) (sent_rows job files (transfer_at job k t) p q))
    × (place_bytes R F own (sent_places job files k t p q)
    ≡ flat_map (λ c. F.to_wire c.value) (all_cells own (sent_rows job files (transfer_at job k t) p q) (count_from 0 (width job files k))))

-- A matrix that shares the structure of another one has the same plans: they join the same maps with the same lists.
pub record HaveSamePlans (job : Job) (files : List File) (v w : ℕ) : Type 0 where
  pub sort : (shape job v).sort ≡ (shape job w).sort
  pub rows : (shape job v).rows ≡ (shape job w).rows
  pub domain : (shape job v).domain ≡ (shape job w).domain
  pub columns_of_ranks : (p : ℕ) → rank_columns job files v p ≡ rank_columns job files w p
  pub rows_of_ranks : (shape job v).sort ≡ Split → (p : ℕ) → rank_rows job files v p ≡ rank_rows job files w p

abbrev pub PlansAreShared : Type 0
PlansAreShared =
    (job : Job) (files : List File) (v : ℕ) → IsValid job → IsFitting job files → v < value_count job → is_dense (shape job v).sort ≡ false
    → HaveSamePlans job files v (shape job v).structure

-- With the row laws of a job, over an honest wire and whatever the order of the letters: from the ranks' pieces each value
-- is that of the global data.
abbrev pub RowLawsSuffice : {S : Type 0} → Semiring S → Conversions S → Type 0
RowLawsSuffice R F =
    (job : Job) (files : List File) → 0 < job.ranks → HasRowLaws R F job files
    → (g : List Letter) → IsCompleteRun (job_protocol R F job files) g
    → (v p : ℕ) → v < value_count job → p < job.ranks
    → gathered_value R F job files v (firsts g) p ≡ eval R F job files (pick_of job files (names_of g)) v p

-- Over an honest wire, whatever the order of the letters: from the ranks' pieces each value is that of the global data.
abbrev pub MachineIsEval : {S : Type 0} → Semiring S → Conversions S → Type 0
MachineIsEval R F =
    (job : Job) (files : List File) → IsValid job → IsFitting job files
    → (g : List Letter) → IsCompleteRun (job_protocol R F job files) g
    → (v p : ℕ) → v < value_count job → p < job.ranks
    → gathered_value R F job files v (firsts g) p ≡ eval R F job files (pick_of job files (names_of g)) v p

-- Two jobs that differ in their ranks and in the forms of their maps alone.
pub record DifferInLayout (a b : Job) : Type 0 where
  pub vectors : a.vectors ≡ b.vectors
  pub parts : (a.parts ≡ []) × (b.parts ≡ [])
  pub matrices : a.matrices ≡ b.matrices
  pub steps : a.steps ≡ b.steps
  pub sizes : map (λ m. m.size) a.maps ≡ map (λ m. m.size) b.maps
  pub total : (m : ℕ) → (m < length a.maps) → IsTotal (layout_of a m) × IsTotal (layout_of b m)
  pub whole : (k : ℕ) → k < value_count a → is_by_rank (shape a k).sort ≡ false

-- Whatever the layout: their values are the same, whatever is picked.
abbrev pub LayoutsDoNotMatter : {S : Type 0} → Semiring S → Conversions S → Type 0
LayoutsDoNotMatter R F =
    (a b : Job) (files : List File) (pick other : Pick) → IsValid a → IsValid b → IsFitting a files → DifferInLayout a b
    → (v : ℕ) → v < value_count a → eval R F a files pick v ≡ eval R F b files other v
