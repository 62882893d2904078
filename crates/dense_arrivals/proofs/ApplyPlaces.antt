-- What a rank has for others in an apply has all columns, in each row that it keeps or sends.
use Rattle.std.proofs.Common.{◌≡◌, ℕ, ℤ, zero, suc, ◌<◌, ◌⊎◌, inl, inr, Bool, true, false, cond, not, ◌&&◌, ltb, List, filter, get_or, length, Option, refl, sym, ap, ap₂, subst, ◌∙◌, arith}
use Rattle.std.specs.Prelude.{is_some}
use Rattle.std.specs.List.{list_any}
use Rattle.tables.specs.Indices.{count_from, stands}
use Rattle.tables.specs.Tables.{Table}
use Rattle.map_core.proofs.Members.{and_true, stands-filter}
use Rattle.mm_text.specs.Reading.{File}
use Rattle.combine_modes.specs.declared.mode.Mode.{Mode}
use Rattle.model_defs.specs.declared.job.Job.{Job}
use Rattle.model_defs.specs.declared.job.Step.TheVariants as step
use Rattle.model_defs.specs.declared.phase.Plan.{Plan}
use Rattle.model_defs.specs.declared.phase.Plan.TheVariants.{ColumnPlan, ImportPlan, RowPlan}
use Rattle.model_defs.specs.declared.phase.Transfer.{Transfer}
use Rattle.model_defs.specs.declared.phase.Way.{Way}
use Rattle.model_defs.specs.declared.phase.Way.TheVariants.{FromOwners, ToOwners}
use Rattle.model_defs.specs.declared.shape.Sort.TheVariants.{Matrix, Split}
use Rattle.model_defs.specs.Fitting.{IsFitting}
use Rattle.model_defs.specs.Laws.{AreBefore, has_cells}
use Rattle.model_defs.specs.Letters.{entry_places}
use Rattle.model_defs.specs.Makers.{Made, maker_of, value_count}
use Rattle.model_defs.specs.Maps.{has_index, size_of}
use Rattle.model_defs.specs.Operations.{filled, turned}
use Rattle.model_defs.specs.Pieces.{Value, has_row, piece_of}
use Rattle.model_defs.specs.Plans.{One, brought, dealt_places, is_target_row, lacking, one_conversions, one_semiring, owns, rank_columns, rank_list_by, rank_rows, rows_of, sent_by, sent_rows, structure, structure_before}
use Rattle.model_defs.specs.Shapes.{is_dense, is_split_sort, shape, shape_by}
use Rattle.model_defs.specs.Stages.{Target, all_pieces, entries, entries_by, is_fixed, met_after, near_x, plain_target, source_of, stage_count, target_at, target_by, transfer_at}
use Rattle.model_defs.specs.Transfers.{apply_transfers, from_owners, owner_map, transfers, transfers_by}
use Rattle.model_defs.specs.Valid.{IsValid, IsValidMaker}
use Rattle.model_defs.proofs.AllRows.{one_laws, row_laws}
use Rattle.model_defs.proofs.ApplyRows.{vector-piece}
use Rattle.model_defs.proofs.KnownShapes.{shape-of-made}
use Rattle.model_defs.proofs.MatrixRows.{column-there, matrix-piece, row-stands, split-piece}
use Rattle.model_defs.proofs.Rows.{list-mapped}
use Rattle.model_defs.proofs.Structures.{combined-some, cond-some, only-places, some-cond, some_after}
use Rattle.model_defs.proofs.Whole.{are_before}
use Rattle.dense_arrivals.proofs.Full.{column-place, product-full, row-place}

-- of the cells of a vector none is made and none is lost
some-fixed : (mode : Mode) (old came : Bool) → some_after mode true old came ≡ old
some-fixed mode old true = refl
some-fixed mode old false = refl

pub kept : (test : ℕ → Bool) (g : ℕ) (xs : List ℕ) → stands g (filter test xs) ≡ true → (stands g xs ≡ true) × (test g ≡ true)
kept test g xs e = and_true (stands g xs) (test g) (sym (stands-filter g test xs) ∙ e)

abbrev pub nth : List Transfer → ℕ → Transfer
nth ts stage = get_or ts stage (from_owners (ImportPlan 0 0))

module _ (job : Job) (files : List File) (valid : IsValid job) (fit : IsFitting job files) (k : ℕ) (below : k < value_count job)
    (name : List ℕ) (a x : ℕ) (y : Option ℕ) (alpha beta : ℤ) (transposed : Bool) (is : maker_of job k ≡ Made (step.Apply name a x y alpha beta transposed)) where
  good : IsValidMaker job k (Made (step.Apply name a x y alpha beta transposed))
  good = subst (λ m. IsValidMaker job k m) is (valid.values k below)

  shaped : shape job k ≡ shape_by k (shape job) (Made (step.Apply name a x y alpha beta transposed))
  shaped = shape-of-made job valid k below ∙ ap (λ m. shape_by k (shape job) m) is

  columns-are : (shape job k).columns ≡ (shape job x).columns
  columns-are = ap (λ s. s.columns) shaped

  dense : is_dense (shape job k).sort ≡ true
  dense = ap (λ s. is_dense s.sort) shaped ∙ ap is_dense good.2.1

  whole-sort : is_split_sort (shape job a).sort ≡ false → (shape job a).sort ≡ Matrix
  whole-sort s = by good.1
    where
      by : ((shape job a).sort ≡ Matrix) ⊎ ((shape job a).sort ≡ Split) → (shape job a).sort ≡ Matrix
      by (inl e) = e
      by (inr e) = let t = ap is_split_sort e in absurd (let bad : ⊥ = cc in bad)

  split-sort : is_split_sort (shape job a).sort ≡ true → (shape job a).sort ≡ Split
  split-sort s = by good.1
    where
      by : ((shape job a).sort ≡ Matrix) ⊎ ((shape job a).sort ≡ Split) → (shape job a).sort ≡ Split
      by (inl e) = let t = ap is_split_sort e in absurd (let bad : ⊥ = cc in bad)
      by (inr e) = e

  sparse : is_dense (shape job a).sort ≡ false
  sparse = by good.1
    where
      by : ((shape job a).sort ≡ Matrix) ⊎ ((shape job a).sort ≡ Split) → is_dense (shape job a).sort ≡ false
      by (inl e) = ap is_dense e
      by (inr e) = ap is_dense e

  rows-are : (b : Bool) → transposed ≡ b → (shape job x).rows ≡ cond b (shape job a).rows (shape job a).domain
  rows-are b t = good.3 ∙ ap (λ b. cond b (shape job a).rows (shape job a).domain) t

  transfers-are : (split b : Bool) → is_split_sort (shape job a).sort ≡ split → transposed ≡ b → transfers job k ≡ apply_transfers a split b
  transfers-are split b s t = ap (λ m. transfers_by job k m) is ∙ ap₂ (λ s t. apply_transfers a s t) s t

  -- ---- the values before, by their places

  abbrev values : ℕ → Value One
  values = structure_before job files k

  abbrev piece : ℕ → ℕ → Table One
  piece p v = all_pieces one_semiring one_conversions job files values p v

  abbrev met : ℕ → ℕ → Table One
  met p stage = met_after one_semiring one_conversions job files (λ v i j. 0) k values stage p

  abbrev near : ℕ → ℕ → Table One
  near p stage = near_x stage (piece p x) (met p stage)

  abbrev most : ℕ
  most = size_of job (shape job x).rows

  before : AreBefore job files k values
  before = are_before one_laws one_conversions job files (row_laws one_laws job files valid fit) (λ v i j. 0) k (omega (arith, below))

  -- x has all columns in its rows
  x-there : (p c j : ℕ) → is_some (piece p x c j) ≡ (has_index job (shape job x).rows p c && ltb j (shape job k).columns)
  x-there p c j =
      ap (λ t. is_some (t c j)) (vector-piece one_laws one_conversions job files k below (λ v i j. 0) values before p x good.2.1 p)
      ∙ cond-some (has_index job (shape job x).rows p c) (values x p c j)
      ∙ by (has_index job (shape job x).rows p c) refl
    where
      by : (b : Bool) → has_index job (shape job x).rows p c ≡ b → (b && is_some (values x p c j)) ≡ (b && ltb j (shape job k).columns)
      by true e =
          (before.formed x good.2.0).dense (ap is_dense good.2.1) p c j
          ∙ ap (λ s. has_cells job (shape job x) s p c && ltb j (shape job x).columns) good.2.1
          ∙ ap₂ (λ m n. m && ltb j n) (list-mapped job (shape job x).rows p c e) (sym columns-are)
      by false e = refl

  -- and so have the copies of it that came
  met-there : (first : Plan) → transfer_at job k 0 ≡ from_owners first → (p c j : ℕ)
      → is_some (met p 1 c j) ≡ (stands c (rank_list_by job files first p) && ltb j (shape job k).columns)
  met-there first e p c j =
      combined-some one_semiring onto.mode (is_fixed job k) job.ranks onto.old came (source_of job (transfer_at job k 0).way (transfer_at job k 0).plan (λ i j. 0)) c j
      ∙ ap (λ b. some_after onto.mode b (is_some (onto.old c j)) (list_any (λ q. is_some (came q c j)) (count_from 0 job.ranks))) dense
      ∙ some-fixed onto.mode (is_some (onto.old c j)) (list_any (λ q. is_some (came q c j)) (count_from 0 job.ranks))
      ∙ ap (λ t. is_some (t c j)) old-is
      ∙ some-cond (stands c (rank_list_by job files first p) && ltb j (shape job k).columns) tt
    where
      onto : Target One
      onto = target_at one_semiring one_conversions job files p k 0 (all_pieces one_semiring one_conversions job files values p)

      came : ℕ → Table One
      came q = brought job files (transfer_at job k 0) (entries one_semiring one_conversions job files q k 0 (all_pieces one_semiring one_conversions job files values q) (met q 0)) q p

      old-is : onto.old ≡ filled (is_target_row job files (from_owners first) p) (shape job k).columns tt
      old-is = λ s. (target_by (all_pieces one_semiring one_conversions job files values p) (plain_target (dense s) (e s).way (filled (is_target_row job files (e s) p) (shape job k).columns tt)) (is s)).old

  -- ---- the places of a rank's matrix

  -- a column of its places has one, and a row of them too
  in-column : (p i : ℕ) → stands i (rank_columns job files a p) ≡ true → (r : ℕ) × (r < size_of job (shape job a).rows) × (is_some (piece p a r i) ≡ true)
  in-column p i e =
      let place = column-place (size_of job (shape job a).domain) (size_of job (shape job a).rows) (piece_of job (shape job a) p (structure job files a)) i e in
      (place.0, place.1, only-places (has_row job (shape job a) p) (values a p) (structure job files a p) (before.placed a p good.0) place.0 i ∙ place.2)

  in-row : (p i : ℕ) → is_split_sort (shape job a).sort ≡ true → stands i (rank_rows job files a p) ≡ true → (c : ℕ) × (c < size_of job (shape job a).domain) × (is_some (piece p a i c) ≡ true)
  in-row p i s e =
      let place = row-place (size_of job (shape job a).rows) (size_of job (shape job a).domain) (structure job files a p) i
      (ap (λ b. stands i (rows_of (size_of job (shape job a).rows) (size_of job (shape job a).domain) (dealt_places job files b a p))) (sym s) ∙ e) in (
        place.0,
        place.1,
        ap (λ t. is_some (t i place.0)) (split-piece one_laws one_conversions job files k below (λ v i j. 0) values before p a (split-sort s) p)
            ∙ before.placed a p good.0 i place.0 ∙ place.2,
      )

  -- the row of a place of a whole matrix is the rank's, and that of a split one stands among its rows
  own-row : (p i j : ℕ) → is_split_sort (shape job a).sort ≡ false → is_some (piece p a i j) ≡ true → has_index job (shape job a).rows p i ≡ true
  own-row p i j s e =
      (and_true (has_index job (shape job a).rows p i) (is_some (values a p i j))
      (sym (cond-some (has_index job (shape job a).rows p i) (values a p i j))
      ∙ sym (ap (λ t. is_some (t i j)) (matrix-piece one_laws one_conversions job files k below (λ v i j. 0) values before p a (whole-sort s) p)) ∙ e)).0

  row-there : (p i j : ℕ) → is_split_sort (shape job a).sort ≡ true → is_some (piece p a i j) ≡ true → stands i (rank_rows job files a p) ≡ true
  row-there p i j s e =
      let there : is_some (values a p i j) ≡ true = sym (ap (λ t. is_some (t i j)) (split-piece one_laws one_conversions job files k below (λ v i j. 0) values before p a (split-sort s) p)) ∙ e in
      let place = (before.formed a good.0).within sparse p i j there in
      ap (λ b. stands i (rows_of (size_of job (shape job a).rows) (size_of job (shape job a).domain) (dealt_places job files b a p))) s
      ∙ row-stands (size_of job (shape job a).rows) (size_of job (shape job a).domain) (structure job files a p) i j place.0 place.1 (sym (before.placed a p good.0 i j) ∙ there)

  -- ---- the sums at a rank's places

  -- what is near has all columns in these rows, one of which meets a place of each row of the plan's list
  record IsMet (p stage : ℕ) (plan : Plan) : Type 0 where
    has : ℕ → Bool
    full : (c j : ℕ) → is_some (near p stage c j) ≡ (has c && ltb j (shape job k).columns)
    meets : (i : ℕ) → stands i (rank_list_by job files plan p) ≡ true
        → (c : ℕ) × (c < most) × (is_some (turned transposed (piece p a) i c) ≡ true) × (has c ≡ true)

  is-met : (split b : Bool) → is_split_sort (shape job a).sort ≡ split → transposed ≡ b → (p stage : ℕ) → stage < length (apply_transfers a split b)
      → (nth (apply_transfers a split b) stage).way ≡ ToOwners → IsMet p stage (nth (apply_transfers a split b) stage).plan
  is-met false false s t p zero l w = absurd (let bad : ⊥ = cc in bad)
  is-met false false s t p (suc stage) l w = absurd (omega arith)
  is-met false true s t p zero l w = record {
    has = has_index job (shape job x).rows p;
    full = x-there p;
    meets = λ i e.
        let place = in-column p i e in (
          place.0,
          subst (λ m. place.0 < size_of job m) (sym (rows-are true t)) place.1,
          ap (λ b. is_some (turned b (piece p a) i place.0)) t ∙ place.2,
          ap (λ m. has_index job m p place.0) (rows-are true t) ∙ own-row p place.0 i s place.2,
        );
  }
  is-met false true s t p (suc stage) l w = absurd (omega arith)
  is-met true false s t p zero l w = absurd (let bad : ⊥ = cc in bad)
  is-met true false s t p (suc zero) l w = record {
    has = λ c. stands c (rank_columns job files a p);
    full = met-there (ColumnPlan a) (ap (λ ts. nth ts 0) (transfers-are true false s t)) p;
    meets = λ i e.
        let place = in-row p i s e in (
          place.0,
          subst (λ m. place.0 < size_of job m) (sym (rows-are false t)) place.1,
          ap (λ b. is_some (turned b (piece p a) i place.0)) t ∙ place.2,
          column-there one_laws one_conversions job files k below (λ v i j. 0) values before p a good.0 sparse p i place.0 place.2,
        );
  }
  is-met true false s t p (suc (suc stage)) l w = absurd (omega arith)
  is-met true true s t p zero l w = absurd (let bad : ⊥ = cc in bad)
  is-met true true s t p (suc zero) l w = record {
    has = λ c. stands c (rank_rows job files a p);
    full = met-there (RowPlan a) (ap (λ ts. nth ts 0) (transfers-are true true s t)) p;
    meets = λ i e.
        let place = in-column p i e in (
          place.0,
          subst (λ m. place.0 < size_of job m) (sym (rows-are true t)) place.1,
          ap (λ b. is_some (turned b (piece p a) i place.0)) t ∙ place.2,
          row-there p place.0 i s place.2,
        );
  }
  is-met true true s t p (suc (suc stage)) l w = absurd (omega arith)

  all-transfers : transfers job k ≡ apply_transfers a (is_split_sort (shape job a).sort) transposed
  all-transfers = transfers-are (is_split_sort (shape job a).sort) transposed refl refl

  -- a rank's sums have all columns in the rows of its list
  pub sums-full : (p stage : ℕ) → stage < stage_count job k → (transfer_at job k stage).way ≡ ToOwners → (i j : ℕ)
      → stands i (rank_list_by job files (transfer_at job k stage).plan p) ≡ true → is_some (entry_places job files p k stage i j) ≡ ltb j (shape job k).columns
  sums-full p stage l w i j e =
      let m = is-met (is_split_sort (shape job a).sort) transposed refl refl p stage
      (subst (λ ts. stage < length ts) all-transfers l)
      (ap (λ ts. (nth ts stage).way) (sym all-transfers) ∙ w) in
      let c = m.meets i (ap (λ ts. stands i (rank_list_by job files (nth ts stage).plan p)) (sym all-transfers) ∙ e) in
      (λ s. is_some (entries_by one_semiring one_conversions job files p k (w s) stage (all_pieces one_semiring one_conversions job files values p) (met p stage) (is s) i j))
      ∙ product-full one_semiring most (shape job k).columns (turned transposed (piece p a)) (near p stage) m.has m.full i c.0 c.1 c.2 c.3 j

  -- ---- the rows that are sent

  -- x is on the map whose owners send
  x-owners : (split b : Bool) → is_split_sort (shape job a).sort ≡ split → transposed ≡ b → (stage : ℕ) → stage < length (apply_transfers a split b)
      → (nth (apply_transfers a split b) stage).way ≡ FromOwners → (shape job x).rows ≡ owner_map job (nth (apply_transfers a split b) stage).plan
  x-owners false false s t zero l w = rows-are false t
  x-owners false false s t (suc stage) l w = absurd (omega arith)
  x-owners false true s t zero l w = absurd (let bad : ⊥ = cc in bad)
  x-owners false true s t (suc stage) l w = absurd (omega arith)
  x-owners true false s t zero l w = rows-are false t
  x-owners true false s t (suc zero) l w = absurd (let bad : ⊥ = cc in bad)
  x-owners true false s t (suc (suc stage)) l w = absurd (omega arith)
  x-owners true true s t zero l w = rows-are true t
  x-owners true true s t (suc zero) l w = absurd (let bad : ⊥ = cc in bad)
  x-owners true true s t (suc (suc stage)) l w = absurd (omega arith)

  -- its cells of x too
  copies-full : (p q stage : ℕ) → stage < stage_count job k → (transfer_at job k stage).way ≡ FromOwners → (i j : ℕ)
      → stands i (sent_rows job files (transfer_at job k stage) p q) ≡ true → is_some (entry_places job files p k stage i j) ≡ ltb j (shape job k).columns
  copies-full p q stage l w i j e =
      let plan = (transfer_at job k stage).plan in
      let map-is = x-owners (is_split_sort (shape job a).sort) transposed refl refl stage
      (subst (λ ts. stage < length ts) all-transfers l)
      (ap (λ ts. (nth ts stage).way) (sym all-transfers) ∙ w)
      ∙ ap (λ ts. owner_map job (nth ts stage).plan) (sym all-transfers) in
      let own = (kept (owns job files plan p) i (lacking job files plan q) (ap (λ way. stands i (sent_by job files way plan p q)) (sym w) ∙ e)).1 in
      (λ s. is_some (entries_by one_semiring one_conversions job files p k (w s) stage (all_pieces one_semiring one_conversions job files values p) (met p stage) (is s) i j))
      ∙ x-there p i j
      ∙ ap (λ b. b && ltb j (shape job k).columns) (ap (λ m. has_index job m p i) map-is ∙ own)

  -- whatever it sends
  pub sent-full : (p q stage : ℕ) → stage < stage_count job k → (i j : ℕ) → stands i (sent_rows job files (transfer_at job k stage) p q) ≡ true
      → is_some (entry_places job files p k stage i j) ≡ ltb j (shape job k).columns
  sent-full p q stage l i j e = by (transfer_at job k stage).way refl
    where
      plan : Plan
      plan = (transfer_at job k stage).plan

      by : (way : Way) → (transfer_at job k stage).way ≡ way → is_some (entry_places job files p k stage i j) ≡ ltb j (shape job k).columns
      by FromOwners w = copies-full p q stage l w i j e
      by ToOwners w =
          sums-full p stage l w i j
          (kept (λ g. not (owns job files plan p g)) i (rank_list_by job files plan p)
          (kept (owns job files plan q) i (lacking job files plan p) (ap (λ way. stands i (sent_by job files way plan p q)) (sym w) ∙ e)).0).0
