-- Row laws: what a rank makes of its own pieces, and of all that the ranks have for each other, is its piece of the value.
use Rattle.std.proofs.Common.{◌≡◌, ℕ, ℤ, zero, suc, ◌<◌, ◌≤◌, Bool, true, false, cond, ◌&&◌, ◌||◌, eqb, ltb, List, [], ◌∷◌, ◌++◌, length, Option, Some, None, get_or, refl, sym, ap, ap₂, ◌∙◌, arith}
use Rattle.std.specs.Prelude.{is_some}
use Rattle.std.specs.List.{concat}
use Rattle.std.specs.Option.{unwrap_or, option_map}
use Rattle.scalar_laws.specs.Semiring.{Semiring}
use Rattle.scalar_laws.specs.Conversions.{Conversions}
use Rattle.tables.specs.Sums.{both_or_one}
use Rattle.tables.specs.Tables.{Table, nowhere, only_rows}
use Rattle.tables.specs.Indices.{stands, each_rank}
use Rattle.map_core.specs.Layouts.{IsOneToOne, owner}
use Rattle.mm_text.specs.Reading.{File}
use Rattle.combine_modes.specs.declared.mode.Mode.{Mode}
use Rattle.combine_modes.specs.declared.mode.Mode.TheVariants.{Replace}
use Rattle.combine_modes.specs.Modes.{combine, after_one, there, combined}
use Rattle.model_defs.specs.Operations.{filled, completed, scaled, combination}
use Rattle.model_defs.specs.declared.job.Job.{Job}
use Rattle.model_defs.specs.declared.job.VectorSpec.{VectorSpec}
use Rattle.model_defs.specs.declared.job.PartsSpec.{PartsSpec}
use Rattle.model_defs.specs.Maps.{layout_of, list_of, has_index, is_mapped}
use Rattle.model_defs.specs.Turns.{Each, in_turn}
use Rattle.model_defs.specs.Makers.{Maker, GivenVector, GivenParts, Made, maker_of, value_count}
use Rattle.model_defs.specs.Shapes.{Shape, shape, shape_by, moved_shape, no_shape, Vector, Parts, is_dense, is_by_rank}
use Rattle.model_defs.specs.Pieces.{Value, has_row, piece_of}
use Rattle.model_defs.specs.Eval.{Pick, make_value}
use Rattle.model_defs.specs.FileMatrix.{number_of}
use Rattle.model_defs.specs.Transfers.{FromOwners, Transfer, ImportPlan, ExportPlan, from_owners, to_owners, transfers_by}
use Rattle.model_defs.specs.Plans.{brought, is_target_row}
use Rattle.model_defs.specs.Stages.{Target, target_by, plain_target, entries_by, made_by, made_piece, last_way, all_pieces, met_after, stage_count, is_fixed, source_of}
use Rattle.model_defs.specs.Laws.{has_cells, AreBefore}
use Rattle.model_defs.proofs.Turns.{in_turn-is, in_turn-first}
use Rattle.model_defs.proofs.Transfers.{combined-to, combined-from}
use Rattle.model_defs.specs.declared.job.Step.TheVariants as step

-- ---- shapes

abbrev pub first_shapes : Job → ℕ → Each Shape
first_shapes job n = in_turn no_shape (λ k shapes. shape_by k shapes (maker_of job k)) n

pub shape-is : (job : Job) (k : ℕ) → k < value_count job → shape job k ≡ shape_by k (first_shapes job k) (maker_of job k)
shape-is job k l = in_turn-is no_shape (λ k shapes. shape_by k shapes (maker_of job k)) (value_count job) k l

pub shape-first : (job : Job) (k v : ℕ) → k ≤ value_count job → v < k → first_shapes job k v ≡ shape job v
shape-first job k v l m = in_turn-first no_shape (λ k shapes. shape_by k shapes (maker_of job k)) k v m ∙ sym (in_turn-first no_shape (λ k shapes. shape_by k shapes (maker_of job k)) (value_count job) v (omega arith))

-- ---- cells

pub cond-none : {S : Type 0} (b : Bool) → let absent : Option S = None in cond b absent None ≡ None
cond-none true = refl
cond-none false = refl

absent : {S : Type 0} (o : Option S) → is_some o ≡ false → o ≡ None
absent None e = refl
absent (Some v) e = cc

pub map-cond : {S T : Type 0} (f : S → T) (b : Bool) (o : Option S) → option_map f (cond b o None) ≡ cond b (option_map f o) None
map-cond f true o = refl
map-cond f false o = refl

both-cond : {S : Type 0} (f : S → S → S) (b : Bool) (o u : Option S) → both_or_one f (cond b o None) (cond b u None) ≡ cond b (both_or_one f o u) None
both-cond f true o u = refl
both-cond f false o u = refl

-- a fixed cell that is not there stays so
pub after-absent : {S : Type 0} (R : Semiring S) (mode : Mode) (v : Option S) → after_one R mode true None v ≡ None
after-absent R mode None = refl
after-absent R mode (Some v) = refl

-- an index of a rank's list is mapped
concat-has : (i p : ℕ) (ls : List (List ℕ)) → stands i (get_or ls p []) ≡ true → stands i (concat ls) ≡ true
concat-has i p [] e = cc
concat-has i zero (l ∷ ls) e = front l (concat ls) e
  where
    front : (xs ys : List ℕ) → stands i xs ≡ true → stands i (xs ++ ys) ≡ true
    front [] ys e = cc
    front (x ∷ xs) ys e = go (eqb x i) e (front xs ys)
      where
        go : (b : Bool) → b || stands i xs ≡ true → (stands i xs ≡ true → stands i (xs ++ ys) ≡ true) → b || stands i (xs ++ ys) ≡ true
        go true e rest = refl
        go false e rest = rest e
concat-has i (suc p) (l ∷ ls) e = behind l (concat ls) (concat-has i p ls e)
  where
    behind : (xs ys : List ℕ) → stands i ys ≡ true → stands i (xs ++ ys) ≡ true
    behind [] ys e = e
    behind (x ∷ xs) ys e = go (eqb x i) (behind xs ys e)
      where
        go : (b : Bool) → stands i (xs ++ ys) ≡ true → b || stands i (xs ++ ys) ≡ true
        go true e = refl
        go false e = e

pub list-mapped : (job : Job) (m p i : ℕ) → has_index job m p i ≡ true → is_mapped job m i ≡ true
list-mapped job m p i e = concat-has i p (layout_of job m).lists e

module _ {S : Type 0} (R : Semiring S) (F : Conversions S) (job : Job) (files : List File) (k : ℕ) (below : k < value_count job) (pick : Pick) (values : Each (Value S)) (before : AreBefore job files k values) (p : ℕ) where
  abbrev pub IsMade : Type 0
  IsMade = made_piece R F job files p k (all_pieces R F job files values p) (met_after R F job files pick k values (stage_count job k) p)
      ≡ piece_of job (shape job k) p (make_value R F job files pick k values (maker_of job k))

  -- what is made, by the maker
  abbrev pub made_as : Maker → Table S
  made_as m = made_by R F job files p k (last_way (transfers_by job k m)) (all_pieces R F job files values p) (met_after R F job files pick k values (stage_count job k) p) m

  -- what comes in one stage, by the maker
  abbrev first_transfer : Maker → Transfer
  first_transfer m = get_or (transfers_by job k m) 0 (from_owners (ImportPlan 0 0))

  abbrev target_one : Maker → Bool → Target S
  target_one m fixed =
      target_by (all_pieces R F job files values p)
      (plain_target fixed (first_transfer m).way (filled (is_target_row job files (first_transfer m) p) (shape job k).columns R.nought)) m

  abbrev met_one : Maker → Bool → Table S
  met_one m fixed =
      combined R (target_one m fixed).mode fixed job.ranks (target_one m fixed).old
      (λ q. brought job files (first_transfer m) (entries_by R F job files q k (first_transfer m).way 0 (all_pieces R F job files values q) nowhere m) q p)
      (source_of job (first_transfer m).way (first_transfer m).plan (pick k))

  pub one-stage : (m : Maker) (fixed : Bool) → maker_of job k ≡ m → is_fixed job k ≡ fixed → length (transfers_by job k m) ≡ 1
      → met_after R F job files pick k values (stage_count job k) p ≡ met_one m fixed
  one-stage m fixed e f l =
      ap (λ n. met_after R F job files pick k values n p) (ap (λ m. length (transfers_by job k m)) e ∙ l)
      ∙ (λ i. met_one (e i) (f i))

  -- a value's piece, by its sort
  piece-parts : (v : ℕ) → (shape job v).sort ≡ Parts → (q : ℕ) → all_pieces R F job files values q v ≡ values v q
  piece-parts v e q = ap (λ s. only_rows (λ i. is_by_rank s || has_index job (shape job v).rows q i) (values v q)) e

  piece-vector : (v : ℕ) → (shape job v).sort ≡ Vector → (q : ℕ) → all_pieces R F job files values q v ≡ only_rows (has_index job (shape job v).rows q) (values v q)
  piece-vector v e q = ap (λ s. only_rows (λ i. is_by_rank s || has_index job (shape job v).rows q i) (values v q)) e

  cells-vector : (v : ℕ) → v < k → (shape job v).sort ≡ Vector → (q i j : ℕ) → is_some (values v q i j) ≡ (is_mapped job (shape job v).rows i && ltb j (shape job v).columns)
  cells-vector v l e q i j = (before.formed v l).dense (ap is_dense e) q i j ∙ ap (λ s. has_cells job (shape job v) s q i && ltb j (shape job v).columns) e

  cells-parts : (v : ℕ) → v < k → (shape job v).sort ≡ Parts → (q i j : ℕ) → is_some (values v q i j) ≡ (has_index job (shape job v).rows q i && ltb j (shape job v).columns)
  cells-parts v l e q i j = (before.formed v l).dense (ap is_dense e) q i j ∙ ap (λ s. has_cells job (shape job v) s q i && ltb j (shape job v).columns) e

  whole-vector : (v : ℕ) → v < k → (shape job v).sort ≡ Vector → (q r : ℕ) → values v q ≡ values v r
  whole-vector v l e q r = (before.formed v l).whole (ap is_by_rank e) q ∙ sym ((before.formed v l).whole (ap is_by_rank e) r)

  -- ---- without letters

  -- ---- given, and cell by cell

  pub vector-made : (spec : VectorSpec) → maker_of job k ≡ GivenVector spec → IsMade
  vector-made spec e =
      ap made_as e
      ∙ sym (ap (λ m. piece_of job (shape job k) p (make_value R F job files pick k values m)) e)

  pub parts-made : (spec : PartsSpec) → maker_of job k ≡ GivenParts spec → IsMade
  parts-made spec e =
      ap made_as e
      ∙ sym (ap (λ m. piece_of job (shape job k) p (make_value R F job files pick k values m)) e)

  pub scale-made : (name : List ℕ) (v : ℕ) (alpha : ℤ) → maker_of job k ≡ Made (step.Scale name v alpha) → v < k → IsMade
  scale-made name v alpha e l =
      ap made_as e
      ∙ (λ t i j. map-cond (R.times (number_of R F alpha)) (has_row job (shape job v) p i) (values v p i j) t)
      ∙ ap (λ s. piece_of job s p (λ q. scaled R (number_of R F alpha) (values v q))) (sym same)
      ∙ sym (ap (λ m. piece_of job (shape job k) p (make_value R F job files pick k values m)) e)
    where
      same : shape job k ≡ shape job v
      same = shape-is job k below ∙ ap (shape_by k (first_shapes job k)) e ∙ shape-first job k v (omega arith) l

  pub update-made : (name : List ℕ) (x y : ℕ) (alpha beta : ℤ) → maker_of job k ≡ Made (step.Update name x y alpha beta) → x < k → (shape job x).sort ≡ (shape job y).sort → (shape job x).rows ≡ (shape job y).rows → IsMade
  update-made name x y alpha beta e l s r =
      ap made_as e
      ∙ (λ t. combination R (number_of R F alpha) (all_pieces R F job files values p x) (number_of R F beta) (only_rows (λ i. is_by_rank (sym s t) || has_index job (sym r t) p i) (values y p)))
      ∙ (λ t i j. both_or_one R.plus (map-cond (R.times (number_of R F alpha)) (has_row job (shape job x) p i) (values x p i j) t) (map-cond (R.times (number_of R F beta)) (has_row job (shape job x) p i) (values y p i j) t))
      ∙ (λ t i j. both-cond R.plus (has_row job (shape job x) p i) (scaled R (number_of R F alpha) (values x p) i j) (scaled R (number_of R F beta) (values y p) i j) t)
      ∙ ap (λ s. piece_of job s p (λ q. combination R (number_of R F alpha) (values x q) (number_of R F beta) (values y q))) (sym same)
      ∙ sym (ap (λ m. piece_of job (shape job k) p (make_value R F job files pick k values m)) e)
    where
      same : shape job k ≡ shape job x
      same = shape-is job k below ∙ ap (shape_by k (first_shapes job k)) e ∙ shape-first job k x (omega arith) l

  -- ---- export: what goes to owners

  pub export-made : (name : List ℕ) (source onto : ℕ) (mode : Mode) → maker_of job k ≡ Made (step.Export name source onto mode) → source < k → onto < k
      → (shape job source).sort ≡ Parts → (shape job onto).sort ≡ Vector → IsOneToOne (layout_of job (shape job onto).rows) → IsMade
  export-made name source onto mode e l m s o one =
      ap made_as e
      ∙ one-stage (Made (step.Export name source onto mode)) true e (ap (λ s. is_dense s.sort) same ∙ ap is_dense o) refl
      ∙ (λ t i j. (combined-to R F job files tr one refl (λ q. all_pieces R F job files values q source) within mode true job.ranks p (all_pieces R F job files values p onto) (pick k) i j ∙ at i j (has_index job (shape job onto).rows p i) refl) t)
      ∙ ap (λ s. piece_of job s p (λ q. combined R mode true job.ranks (values onto q) (values source) (pick k))) (sym same)
      ∙ sym (ap (λ m. piece_of job (shape job k) p (make_value R F job files pick k values m)) e)
    where
      same : shape job k ≡ shape job onto
      same = shape-is job k below ∙ ap (shape_by k (first_shapes job k)) e ∙ shape-first job k onto (omega arith) m

      tr : Transfer
      tr = to_owners (ExportPlan (shape job source).rows (shape job onto).rows)

      within : (q i j : ℕ) → is_some (all_pieces R F job files values q source i j) ≡ true → stands i (list_of job (shape job source).rows q) ≡ true
      within q i j h = first (has_index job (shape job source).rows q i) (ltb j (shape job source).columns) (sym (cells-parts source l s q i j) ∙ sym (λ t. is_some (piece-parts source s q t i j)) ∙ h)
        where
          first : (a b : Bool) → a && b ≡ true → a ≡ true
          first true b e = refl
          first false b e = cc

      at : (i j : ℕ) (b : Bool) → has_index job (shape job onto).rows p i ≡ b
          → cond b (combined R mode true job.ranks (all_pieces R F job files values p onto) (λ q. all_pieces R F job files values q source) (pick k) i j) (all_pieces R F job files values p onto i j)
          ≡ cond (has_row job (shape job onto) p i) (combined R mode true job.ranks (values onto p) (values source) (pick k) i j) None
      at i j true h =
          (λ t. combine R mode true (piece-vector onto o p t i j) (there (each_rank job.ranks (λ q. piece-parts source s q t i j))) (unwrap_or (piece-parts source s (pick k i j) t i j) R.nought))
          ∙ ap (λ b. combine R mode true (cond b (values onto p i j) None) (there (each_rank job.ranks (λ q. values source q i j))) (unwrap_or (values source (pick k i j) i j) R.nought)) h
          ∙ ap (λ b. cond b (combined R mode true job.ranks (values onto p) (values source) (pick k) i j) None) (sym h)
          ∙ (λ t. cond (is_by_rank (sym o t) || has_index job (shape job onto).rows p i) (combined R mode true job.ranks (values onto p) (values source) (pick k) i j) None)
      at i j false h =
          (λ t. piece-vector onto o p t i j) ∙ ap (λ b. cond b (values onto p i j) None) h
          ∙ ap (λ b. cond b (combined R mode true job.ranks (values onto p) (values source) (pick k) i j) None) (sym h)
          ∙ (λ t. cond (is_by_rank (sym o t) || has_index job (shape job onto).rows p i) (combined R mode true job.ranks (values onto p) (values source) (pick k) i j) None)

  -- ---- import, spread and move of a vector: what comes from owners

  module _ (source : ℕ) (l : source < k) (s : (shape job source).sort ≡ Vector) (one : IsOneToOne (layout_of job (shape job source).rows)) (ranked : (i q : ℕ) → owner (layout_of job (shape job source).rows) i ≡ Some q → q < job.ranks) where
    -- each rank has the rows of the vector that it owns
    owned-rows : (q : ℕ) → all_pieces R F job files values q source ≡ only_rows (has_index job (shape job source).rows q) (values source p)
    owned-rows q = piece-vector source s q ∙ ap (only_rows (has_index job (shape job source).rows q)) (whole-vector source l s q p)

    -- in any mode, onto any cells, of the target's lists
    fetched : (m : ℕ) (mode : Mode) (old : Table S) (i j : ℕ)
        → combined R mode true job.ranks old (λ q. brought job files (from_owners (ImportPlan (shape job source).rows m)) (all_pieces R F job files values q source) q p)
        (source_of job FromOwners (ImportPlan (shape job source).rows m) (pick k)) i j
        ≡ after_one R mode true (old i j) (cond (has_index job m p i && is_mapped job (shape job source).rows i) (values source p i j) None)
    fetched m mode old i j =
        (λ t. combined R mode true job.ranks old (λ q. brought job files (from_owners (ImportPlan (shape job source).rows m)) (owned-rows q t) q p)
        (source_of job FromOwners (ImportPlan (shape job source).rows m) (pick k)) i j)
        ∙ combined-from R F job files (from_owners (ImportPlan (shape job source).rows m)) one refl job.ranks ranked (values source p) mode true p old (pick k) i j

    pub import-made : (name : List ℕ) (onto : ℕ) (mode : Mode) → maker_of job k ≡ Made (step.Import name source onto mode) → onto < k → (shape job onto).sort ≡ Parts → IsMade
    import-made name onto mode e m o =
        ap made_as e
        ∙ one-stage (Made (step.Import name source onto mode)) true e (ap (λ s. is_dense s.sort) same ∙ ap is_dense o) refl
        ∙ (λ t i j. (fetched (shape job onto).rows mode (all_pieces R F job files values p onto) i j ∙ at i j) t)
        ∙ ap (λ s. piece_of job s p (λ q i j. after_one R mode true (values onto q i j) (values source q i j))) (sym same)
        ∙ sym (ap (λ m. piece_of job (shape job k) p (make_value R F job files pick k values m)) e)
      where
        same : shape job k ≡ shape job onto
        same = shape-is job k below ∙ ap (shape_by k (first_shapes job k)) e ∙ shape-first job k onto (omega arith) m

        -- a cell that is not in the list, or not in the vector
        drop : (i j : ℕ) (a b : Bool) → has_index job (shape job onto).rows p i ≡ a → is_mapped job (shape job source).rows i ≡ b
            → after_one R mode true (values onto p i j) (cond (a && b) (values source p i j) None) ≡ after_one R mode true (values onto p i j) (values source p i j)
        drop i j true true f g = refl
        drop i j true false f g = ap (after_one R mode true (values onto p i j)) (sym (absent (values source p i j) (cells-vector source l s p i j ∙ ap (λ b. b && ltb j (shape job source).columns) g)))
        drop i j false b f g =
            let gone = absent (values onto p i j) (cells-parts onto m o p i j ∙ ap (λ b. b && ltb j (shape job onto).columns) f) in
            ap (λ u. after_one R mode true u None) gone ∙ sym (ap (λ u. after_one R mode true u (values source p i j)) gone ∙ after-absent R mode (values source p i j))

        at : (i j : ℕ) → after_one R mode true (all_pieces R F job files values p onto i j) (cond (has_index job (shape job onto).rows p i && is_mapped job (shape job source).rows i) (values source p i j) None)
            ≡ cond (has_row job (shape job onto) p i) (after_one R mode true (values onto p i j) (values source p i j)) None
        at i j =
            (λ t. after_one R mode true (piece-parts onto o p t i j) (cond (has_index job (shape job onto).rows p i && is_mapped job (shape job source).rows i) (values source p i j) None))
            ∙ drop i j _ _ refl refl
            ∙ (λ t. cond (is_by_rank (sym o t) || has_index job (shape job onto).rows p i) (after_one R mode true (values onto p i j) (values source p i j)) None)

    -- noughts that are replaced by what comes
    replaced : (m columns : ℕ) → columns ≡ (shape job source).columns → (i j : ℕ)
        → after_one R Replace true (cond (has_index job m p i && ltb j columns) (Some R.nought) None) (cond (has_index job m p i && is_mapped job (shape job source).rows i) (values source p i j) None)
        ≡ cond (has_index job m p i && ltb j columns) (Some (unwrap_or (values source p i j) R.nought)) None
    replaced m columns c i j = go (has_index job m p i) (ltb j columns) refl (is_mapped job (shape job source).rows i) refl (values source p i j) refl
      where
        cells : (a b : Bool) → ltb j columns ≡ a → is_mapped job (shape job source).rows i ≡ b → is_some (values source p i j) ≡ (b && a)
        cells a b f g = cells-vector source l s p i j ∙ ap₂ (λ x y. x && y) g (ap (ltb j) (sym c) ∙ f)

        go : (h a : Bool) → ltb j columns ≡ a → (b : Bool) → is_mapped job (shape job source).rows i ≡ b → (o : Option S) → values source p i j ≡ o
            → after_one R Replace true (cond (h && a) (Some R.nought) None) (cond (h && b) o None) ≡ cond (h && a) (Some (unwrap_or o R.nought)) None
        go false a f b g o v = refl
        go true true f true g (Some x) v = refl
        go true true f true g None v = refl
        go true true f false g None v = refl
        go true true f false g (Some x) v = let t = cells true false f g in let u : is_some (values source p i j) ≡ true = ap is_some v in absurd (let bad : ⊥ = cc in bad)
        go true false f b g o v = after-absent R Replace (cond b o None)

    pub spread-made : (name : List ℕ) (m : ℕ) → maker_of job k ≡ Made (step.Spread name source m) → IsMade
    spread-made name m e =
        ap made_as e
        ∙ one-stage (Made (step.Spread name source m)) true e (ap (λ s. is_dense s.sort) same) refl
        ∙ (λ t i j. (fetched m Replace (filled (has_index job m p) (shape job k).columns R.nought) i j ∙ replaced m (shape job k).columns (ap (λ s. s.columns) same) i j) t)
        ∙ ap (λ s. only_rows (λ i. is_by_rank s.sort || has_index job s.rows p i) (completed R (has_index job m p) (shape job k).columns (values source p))) (sym same)
        ∙ sym (ap (λ m. piece_of job (shape job k) p (make_value R F job files pick k values m)) e)
      where
        parts : Shape → Shape
        parts s = record s { sort = Parts; rows = m }

        same : shape job k ≡ record (shape job source) { sort = Parts; rows = m }
        same = shape-is job k below ∙ ap (shape_by k (first_shapes job k)) e ∙ ap parts (shape-first job k source (omega arith) l)

    pub move-made : (name : List ℕ) (m : ℕ) → maker_of job k ≡ Made (step.Move name source m) → ((i : ℕ) → is_mapped job m i ≡ true → is_mapped job (shape job source).rows i ≡ true) → IsMade
    move-made name m e covers =
        ap made_as e
        ∙ one-stage (Made (step.Move name source m)) true e (ap is_dense sort) refl
        ∙ (λ t i j. (fetched m Replace (filled (has_index job m p) (shape job k).columns R.nought) i j ∙ replaced m (shape job k).columns (ap (λ s. s.columns) same) i j ∙ at i j (has_index job m p i) refl) t)
        ∙ (λ t. only_rows (λ i. is_by_rank (sym sort t) || has_index job (sym rows t) p i) (only_rows (is_mapped job m) (values source p)))
        ∙ sym (ap (λ m. piece_of job (shape job k) p (make_value R F job files pick k values m)) e)
      where
        moved : Shape → Shape
        moved s = moved_shape k s m

        same : shape job k ≡ moved_shape k (shape job source) m
        same = shape-is job k below ∙ ap (shape_by k (first_shapes job k)) e ∙ ap (λ s. moved_shape k s m) (shape-first job k source (omega arith) l)

        sort : (shape job k).sort ≡ Vector
        sort = ap (λ s. s.sort) same ∙ s

        rows : (shape job k).rows ≡ m
        rows = ap (λ s. s.rows) same

        columns : (shape job k).columns ≡ (shape job source).columns
        columns = ap (λ s. s.columns) same

        at : (i j : ℕ) (b : Bool) → has_index job m p i ≡ b
            → cond (b && ltb j (shape job k).columns) (Some (unwrap_or (values source p i j) R.nought)) None ≡ cond b (cond (is_mapped job m i) (values source p i j) None) None
        at i j false h = refl
        at i j true h = go (ltb j (shape job k).columns) refl (values source p i j) refl ∙ ap (λ b. cond b (values source p i j) None) (sym mapped)
          where
            mapped : is_mapped job m i ≡ true
            mapped = list-mapped job m p i h

            cells : (a : Bool) → ltb j (shape job k).columns ≡ a → is_some (values source p i j) ≡ a
            cells a f = cells-vector source l s p i j ∙ ap₂ (λ x y. x && y) (covers i mapped) (ap (ltb j) (sym columns) ∙ f)

            go : (a : Bool) → ltb j (shape job k).columns ≡ a → (o : Option S) → values source p i j ≡ o → cond a (Some (unwrap_or o R.nought)) None ≡ o
            go true f (Some x) v = refl
            go true f None v = let t = cells true f in let u : is_some (values source p i j) ≡ false = ap is_some v in absurd (let bad : ⊥ = cc in bad)
            go false f None v = refl
            go false f (Some x) v = let t = cells false f in let u : is_some (values source p i j) ≡ true = ap is_some v in absurd (let bad : ⊥ = cc in bad)
