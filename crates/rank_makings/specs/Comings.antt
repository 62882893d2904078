-- A value in the making at a rank: its numbers come in a transfer.
use Rattle.std.specs.Prelude.{◌≡◌, ◌≤◌, ◌<◌, ℕ, true, false, if◌then◌else◌, List, length, Some, slice_get}
use Rattle.scalar_laws.specs.Semiring.{Semiring}
use Rattle.scalar_laws.specs.Conversions.{Conversions}
use Rattle.tables.specs.Tables.{Table}
use Rattle.combine_modes.specs.Modes.{after_one}
use Rattle.crs_matrix.specs.ByRow.{by_row}
use Rattle.crs_matrix.specs.Rows.{RowCells, row_table}
use Rattle.map_core.specs.Plans.{PlanLists}
use Rattle.mm_text.specs.Reading.{File}
use Rattle.multivector.specs.Vectors.{VectorState}
use Rattle.outside.specs.declared.name.Name.{Name}
use Rattle.outside.specs.MailRoom.{names_of}
use Rattle.peers.specs.Protocols.{Letter, stands_in}
use Rattle.model_defs.specs.declared.job.Job.{Job}
use Rattle.model_defs.specs.Fitting.{IsFitting}
use Rattle.model_defs.specs.Laws.{HasPlaces}
use Rattle.model_defs.specs.Letters.{entry_places, letter_names, sent_places}
use Rattle.model_defs.specs.Machine.{arrivals, letter_table, piece, place_bytes}
use Rattle.model_defs.specs.Maps.{list_of}
use Rattle.model_defs.specs.Makers.{value_count}
use Rattle.model_defs.specs.Phases.{send_kind}
use Rattle.model_defs.specs.Plans.{brought, rank_rows, sent_rows}
use Rattle.model_defs.specs.Shapes.{is_dense, is_split_sort, shape}
use Rattle.model_defs.specs.Stages.{is_fixed, rank_entries, stage_count, transfer_at}
use Rattle.model_defs.specs.Valid.{IsValid}
use Rattle.rank_stages.specs.JobStages.{gathered_so_far, target_so_far}
use Rattle.rank_stages.specs.LetterLaws.{IsRead, row_words}
use Rattle.letter_codec.specs.Letters.{letter_bytes}
use Rattle.rank_values.specs.Vectors.{global_table}
use Rattle.dense_arrivals.specs.DenseBegun.{AgreeOn}
use Rattle.matrix_arrivals.specs.RowPlans.{IsServing}
use Rattle.rank_pieces.specs.declared.pieces.Piece.{Piece}
use Rattle.rank_pieces.specs.declared.pieces.Piece.TheVariants.{Vector, Matrix}
use Rattle.rank_pieces.specs.declared.pieces.RankMatrix.{RankMatrix}
use Rattle.rank_makings.specs.declared.coming.CellSource.{CellSource}
use Rattle.rank_makings.specs.declared.coming.CellSource.TheVariants as cell
use Rattle.rank_makings.specs.declared.coming.RowSource.{RowSource}
use Rattle.rank_makings.specs.declared.coming.RowSource.TheVariants as row
use Rattle.rank_makings.specs.declared.coming.CellsComing.{CellsComing}
use Rattle.rank_makings.specs.declared.coming.RowsComing.{RowsComing}
use Rattle.rank_makings.specs.declared.coming.Coming.{Coming}
use Rattle.rank_makings.specs.declared.coming.Coming.TheVariants.{Cells, Rows}
use Rattle.rank_makings.specs.declared.coming.Came.{Came}
use Rattle.rank_makings.specs.declared.coming.Came.TheVariants as came
use Rattle.rank_makings.specs.Lists.{source_list, target_list}

-- All letters to a rank of the phases before this one have come.
abbrev pub AreHeard : Job → List File → ℕ → ℕ → List Letter → Type 0
AreHeard job files me phase given =
    (m : Name) → stands_in (letter_names job files) m ≡ true → m.to ≡ me → m.phase < phase → stands_in (names_of given) m ≡ true

-- the vector whose cells are sent: that of a piece, or one of sums
abbrev pub IsCellSource : {S : Type 0} → List (Piece S) → CellSource S → VectorState S → Type 0
IsCellSource pieces (cell.Piece v) x = slice_get pieces v ≡ Some (Vector x)
IsCellSource pieces (cell.Sums sums) x = sums ≡ x

-- the rows that are sent: those of a piece, or rows of the rank's own: of the part that was dealt to it, or of its transpose
abbrev pub IsSentRows : {S : Type 0} → List (Piece S) → RowSource S → RowCells S → Type 0
IsSentRows {S} pieces (row.Piece v) a = (m : RankMatrix S) × (slice_get pieces v ≡ Some (Matrix m)) × (by_row m.matrix ≡ a)
IsSentRows pieces (row.Own fill) a = fill ≡ a

module _ {S : Type 0} (R : Semiring S) (F : Conversions S) (job : Job) (files : List File) (me : ℕ) (pieces : List (Piece S)) (given : List Letter) where
  -- what the rank has for others at a stage of value k
  abbrev pub own_entries : ℕ → ℕ → Table S
  own_entries k stage = rank_entries R F job files me (arrivals R F job files me given) k stage

  -- what it gathers first: what it brings to itself, combined with what the value is gathered onto
  abbrev pub first_gathered : ℕ → ℕ → Table S
  first_gathered k stage i j =
      after_one R (target_so_far R F job files me given k stage).mode (is_fixed job k) ((target_so_far R F job files me given k stage).old i j)
      (brought job files (transfer_at job k stage) (own_entries k stage) me me i j)

  -- Numbers of value k come at a stage by a plan that serves its transfer, between the rank's lists.
  pub record IsBetween (k stage : ℕ) (source target : List ℕ) (plan : PlanLists) : Type 0 where
    pub valid : IsValid job
    pub fitting : IsFitting job files
    pub within : me < job.ranks
    pub below : k < value_count job
    pub known : stage < stage_count job k
    pub source_is : source ≡ source_list job files me pieces (transfer_at job k stage)
    pub target_is : target ≡ target_list job files me pieces (transfer_at job k stage)
    pub serves : IsServing job files (transfer_at job k stage) me source target plan

  -- Cells of a vector or of parts come; the vector that gathers them has this table by now.
  pub record AreCellsComing (k stage : ℕ) (now : Table S) (c : CellsComing S) : Type 0 where
    pub dense : is_dense (shape job k).sort ≡ true
    pub sent : VectorState S
    pub sent_is : IsCellSource pieces c.source sent
    pub between : IsBetween k stage sent.map c.arriving.vector.map c.arriving.plan
    pub sent_columns : sent.columns ≡ (shape job k).columns
    pub columns : c.arriving.vector.columns ≡ (shape job k).columns
    pub entries : AgreeOn job files (transfer_at job k stage) me (global_table sent) (own_entries k stage)
    pub mode : c.arriving.mode ≡ (target_so_far R F job files me given k stage).mode
    pub table : now ≡ global_table c.arriving.vector

  -- Rows of a matrix come; the matrix that gathers them has this table by now.
  pub record AreRowsComing (k stage : ℕ) (now : Table S) (c : RowsComing S) : Type 0 where
    pub sparse : is_dense (shape job k).sort ≡ false
    pub sent : RowCells S
    pub sent_is : IsSentRows pieces c.source sent
    pub between : IsBetween k stage sent.rows c.arriving.fill.rows c.arriving.plan
    pub entries : row_table sent ≡ own_entries k stage
    -- all letters of the phases before came, so it has all its places
    pub placed : HasPlaces (row_table sent) (entry_places job files me k stage)
    pub mode : c.arriving.mode ≡ (target_so_far R F job files me given k stage).mode
    pub table : now ≡ row_table c.arriving.fill

  abbrev pub IsComing : (k stage : ℕ) → Table S → Coming S → Type 0
  IsComing k stage now (Cells c) = AreCellsComing k stage now c
  IsComing k stage now (Rows c) = AreRowsComing k stage now c

  -- What came at the last stage of value k, or at one before: a vector on the target list of the transfer, with as many columns,
  -- that has all that was gathered.
  pub record HaveCome (k stage : ℕ) (v : VectorState S) : Type 0 where
    pub map : v.map ≡ target_list job files me pieces (transfer_at job k stage)
    pub columns : v.columns ≡ (shape job k).columns
    pub table : global_table v ≡ gathered_so_far R F job files me given k stage

  -- The rows of a matrix that came at a stage of value k: on the target list of the transfer, with all that was gathered.
  pub record HaveRowsCome (k stage : ℕ) (a : RowCells S) : Type 0 where
    pub rows : a.rows ≡ target_list job files me pieces (transfer_at job k stage)
    pub table : row_table a ≡ gathered_so_far R F job files me given k stage

  -- A matrix of value k under construction, with the rank's rows and its places.
  pub record IsFilled (k : ℕ) (a : RowCells S) : Type 0 where
    pub rows : a.rows ≡ (if is_split_sort (shape job k).sort then rank_rows job files k me else list_of job (shape job k).rows me)
    pub table : row_table a ≡ piece R F job files me k given

-- A value in the making, with all that says what it is: the job and its files, the rank with its pieces and the letters that were given
-- to it, the value and the stage, and the table that it has by now.
pub record Scene (S : Type 0) : Type 0 where
  pub job : Job
  pub files : List File
  pub me : ℕ
  pub pieces : List (Piece S)
  pub given : List Letter
  pub k : ℕ
  pub stage : ℕ
  pub now : Table S

-- the rows that rank p sends to q in it
abbrev pub rows_between : {S : Type 0} → Scene S → ℕ → ℕ → List ℕ
rows_between e p q = sent_rows e.job e.files (transfer_at e.job e.k e.stage) p q

-- it has a letter to this rank
pub record HasLetterTo {S : Type 0} (e : Scene S) (to : ℕ) : Type 0 where
  pub known : to < e.job.ranks
  pub some_row : 1 ≤ length (rows_between e e.me to)

module _ {S : Type 0} (R : Semiring S) (F : Conversions S) where
  abbrev pub IsComingIn : Scene S → Coming S → Type 0
  IsComingIn e c = IsComing R F e.job e.files e.me e.pieces e.given e.k e.stage e.now c

  -- the letter
  abbrev pub letter_to : Scene S → ℕ → List ℕ
  letter_to e to =
      letter_bytes (send_kind e.job e.k) (row_words e.job e.files e.k e.stage e.me to)
      (place_bytes R F (own_entries R F e.job e.files e.me e.pieces e.given e.k e.stage) (sent_places e.job e.files e.k e.stage e.me to))

  -- These bytes are a letter to it, under this name.
  pub record IsLetterFor (e : Scene S) (name : Name) (bytes : List ℕ) : Type 0 where
    pub from : name.from < e.job.ranks
    pub to : name.to ≡ e.me
    pub read : IsRead R F e.job e.files name bytes e.k e.stage

  -- once it was combined
  abbrev pub with_letter : Scene S → Name → List ℕ → Scene S
  with_letter e name bytes =
      record e {
        now = λ i j. after_one R (target_so_far R F e.job e.files e.me e.given e.k e.stage).mode (is_fixed e.job e.k) (e.now i j)
            (letter_table R F e.job e.files (name, bytes) i j);
      }

-- what came, once all did
abbrev pub came_of : {S : Type 0} → Coming S → Came S
came_of (Cells c) = came.Cells c.arriving.vector
came_of (Rows c) = came.Rows c.arriving.fill
