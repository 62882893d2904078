-- The plans of an apply, and the rank's lists that they go between.
use Rattle.std.proofs.Common.{◌≡◌, ℕ, ◌<◌, ◌≤◌, ◌⊎◌, inl, inr, Bool, true, false, ◌||◌, ◌&&◌, eqb, leb, ltb, ltb-true, ◌+◌, List, [], ◌∷◌, filter, length, Some, refl, sym, ap, ◌∙◌, subst, arith}
use Rattle.std.specs.Prelude.{slice_get}
use Rattle.std.proofs.lemmas.Bool.{eq-eqb}
use Rattle.std.proofs.lemmas.Option.{same_Some}
use Rattle.tables.specs.Indices.{AreBelow, count_from, stands}
use Rattle.tables.proofs.Counting.{stands-count_from}
use Rattle.map_core.specs.Plans.{PlanLists, reversed}
use Rattle.map_core.proofs.Members.{and_true, stands-filter}
use Rattle.mm_text.specs.Reading.{File}
use Rattle.model_defs.specs.declared.job.Job.{Job}
use Rattle.model_defs.specs.declared.phase.Plan.{Plan}
use Rattle.model_defs.specs.declared.phase.Plan.TheVariants.{ColumnPlan, RowPlan}
use Rattle.model_defs.specs.Limits.{most_size}
use Rattle.model_defs.specs.Maps.{list_of, size_of}
use Rattle.model_defs.specs.Plans.{rank_list_by}
use Rattle.model_defs.specs.Shapes.{is_split_sort, shape}
use Rattle.model_defs.specs.Transfers.{from_owners, owner_map, to_owners}
use Rattle.model_defs.specs.Valid.{IsValid}
use Rattle.model_defs.proofs.Filters.{later}
use Rattle.model_defs.proofs.Bounds.{maps-are-layouts}
use Rattle.rank_matrices.specs.Matrices.{source_list}
use Rattle.rank_stages.proofs.ShortLists.{distinct-few}
use Rattle.rank_transfers.specs.Arrivals.{HasFewRows}
use Rattle.matrix_arrivals.specs.RowPlans.{IsServing}
use Rattle.matrix_arrivals.proofs.Served.{from-owners-serve, to-owners-serve}
use Rattle.rank_pieces.specs.declared.pieces.Piece.{Piece}
use Rattle.rank_pieces.specs.declared.pieces.Piece.TheVariants as of
use Rattle.rank_pieces.specs.declared.pieces.RankMatrix.{RankMatrix}
use Rattle.rank_pieces.specs.Pieces.{HasPlan, HasRows, IsMatrixOf}
use Rattle.rank_makings.specs.Lists.{columns_in, rows_in, shared_list}

-- ---- lists are short

stands-below : (n g : ℕ) → stands g (count_from 0 n) ≡ (leb 0 g && ltb g n)
stands-below n g = stands-count_from 0 n g ∙ ap (λ m. leb 0 g && ltb g m) (let e : 0 + n ≡ n = omega arith in e)

counted : (test : ℕ → Bool) (n g : ℕ) → stands g (filter test (count_from 0 n)) ≡ true → g < n
counted test n g e =
    let on : stands g (count_from 0 n) ≡ true = (and_true (stands g (count_from 0 n)) (test g) (sym (stands-filter g test (count_from 0 n)) ∙ e)).0 in
    ltb-true g n (and_true (leb 0 g) (ltb g n) (sym (stands-below n g) ∙ on)).1

-- the indices of a list by a plan of a structure are those of the map of its owners
list-below : (job : Job) (files : List File) (p a : ℕ) (shared : Plan) → (shared ≡ ColumnPlan a) ⊎ (shared ≡ RowPlan a) → (g : ℕ) → stands g (rank_list_by job files shared p) ≡ true
    → g < size_of job (owner_map job shared)
list-below job files p a shared (inl e) g on =
    subst (λ s. g < size_of job (owner_map job s)) (sym e) (counted _ (size_of job (shape job a).domain) g (ap (λ s. stands g (rank_list_by job files s p)) (sym e) ∙ on))
list-below job files p a shared (inr e) g on =
    subst (λ s. g < size_of job (owner_map job s)) (sym e) (counted _ (size_of job (shape job a).rows) g (ap (λ s. stands g (rank_list_by job files s p)) (sym e) ∙ on))

pub all-in : (n : ℕ) (xs : List ℕ) → ((g : ℕ) → stands g xs ≡ true → g < n) → AreBelow n xs
all-in n [] h = tt
all-in n (x ∷ xs) h = (h x (ap (λ b. b || stands x xs) (eq-eqb x x refl)), all-in n xs (λ g e. h g (later (eqb x g) (stands g xs) e)))

-- ---- a plan of a structure

module _ {S : Type 0} (job : Job) (files : List File) (me : ℕ) (pieces : List (Piece S)) where
  -- The plan of the rows or of the columns of a value, and the rank's list by it.
  pub record IsAlong (a : ℕ) (shared : Plan) (list : List ℕ) (plan : PlanLists) : Type 0 where
    pub structure : (shared ≡ ColumnPlan a) ⊎ (shared ≡ RowPlan a)
    pub has : HasPlan job files me shared (list_of job (owner_map job shared) me) list plan
    pub list_is : shared_list job files me pieces shared ≡ list

  module _ (valid : IsValid job) {a : ℕ} {shared : Plan} {list : List ℕ} {plan : PlanLists} (along : IsAlong a shared list plan) where
    abbrev pub owners : List ℕ
    owners = list_of job (owner_map job shared) me

    abbrev most : ℕ
    most = size_of job (owner_map job shared)

    most-small : most ≤ most_size
    most-small = (maps-are-layouts job (owner_map job shared) valid).1

    in-list : (g : ℕ) → stands g list ≡ true → g < most
    in-list g e = list-below job files me a shared along.structure g (sym (along.has.listed.listed g) ∙ e)

    pub below : AreBelow (size_of job (owner_map job shared)) list
    below = all-in most list in-list

    list-few : length list ≤ most_size
    list-few = let few = distinct-few most list along.has.listed.distinct_list in-list in let small = most-small in
        let n : length list ≤ most = few in omega arith

    owners-few : length owners ≤ most_size
    owners-few =
        let few = distinct-few most owners ((maps-are-layouts job (owner_map job shared) valid).0.distinct me) ((maps-are-layouts job (owner_map job shared) valid).0.below me) in
        let small = most-small in
        let n : length owners ≤ most = few in
        omega arith

    pub from-serves : IsServing job files (from_owners shared) me owners list plan
    from-serves = from-owners-serve job files shared me owners list plan valid along.has.listed along.has.from_owners

    pub to-serves : IsServing job files (to_owners shared) me list owners (reversed plan)
    to-serves = to-owners-serve job files shared me owners list plan valid along.has.listed along.has.from_owners

    pub from-few : HasFewRows plan
    from-few q = let one = from-serves.few q in let few = owners-few in omega arith

    pub to-few : HasFewRows (reversed plan)
    to-few q = let one = to-serves.few q in let few = list-few in omega arith

  -- ---- those of a matrix

  module _ {a : ℕ} {m : RankMatrix S} (is : IsMatrixOf job files me a m) (at : slice_get pieces a ≡ Some (of.Matrix m)) where
    pub columns-along : IsAlong a (ColumnPlan a) m.matrix.graph.cols m.columns
    columns-along = record { structure = inl refl; has = is.columns; list_is = ap columns_in at }

    pub rows-along : (split : Bool) → HasRows job files me split a m → (plan : PlanLists) → m.rows ≡ Some plan → IsAlong a (RowPlan a) m.matrix.graph.rows plan
    rows-along false rows plan e = absurd (let none = rows.1 in let bad : ⊥ = cc in bad)
    rows-along true rows plan e = record {
      structure = inr refl;
      has = subst (HasPlan job files me (RowPlan a) (list_of job (shape job a).rows me) m.matrix.graph.rows) (same_Some rows.0 plan (sym rows.1 ∙ e)) rows.2;
      list_is = ap (rows_in _) at;
    }

    -- the plan by rows or by columns
    abbrev pub by-rows : Bool → Plan
    by-rows false = ColumnPlan a
    by-rows true = RowPlan a

    pub along : (rows : Bool) (plan : PlanLists) → (rows ≡ false → plan ≡ m.columns) → (rows ≡ true → m.rows ≡ Some plan) → IsAlong a (by-rows rows) (source_list rows m.matrix.graph) plan
    along false plan columns rows = subst (IsAlong a (ColumnPlan a) m.matrix.graph.cols) (sym (columns refl)) columns-along
    along true plan columns rows = rows-along (is_split_sort (shape job a).sort) is.rows plan (rows refl)

    -- a matrix has a plan of its rows where it is split
    pub split-rows : (split : Bool) → HasRows job files me split a m → is_split_sort (shape job a).sort ≡ split → split ≡ true → (plan : PlanLists) × (m.rows ≡ Some plan)
    split-rows false rows e s = absurd (let bad : ⊥ = cc in bad)
    split-rows true rows e s = (rows.0, rows.1)
