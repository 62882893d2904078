-- The row law of an assembled matrix that is applied to a vector.
use Rattle.std.proofs.Common.{◌≡◌, ℕ, ℤ, ◌<◌, Bool, true, false, cond, ◌&&◌, ◌||◌, ltb, List, Option, Some, None, refl, sym, ap, ap₂, ◌∙◌, subst, arith, length, get_or}
use Rattle.std.specs.Prelude.{is_some}
use Rattle.std.specs.Option.{unwrap_or, option_map}
use Rattle.scalar_laws.specs.Semiring.{Semiring, IsSemiring}
use Rattle.scalar_laws.specs.Conversions.{Conversions}
use Rattle.tables.specs.Tables.{Table, only_rows}
use Rattle.tables.specs.Indices.{stands}
use Rattle.tables.proofs.Sums.{places-IsJoining, total_below-ext}
use Rattle.map_core.specs.Layouts.{IsOneToOne, IsTotal, owner}
use Rattle.mm_text.specs.Reading.{File}
use Rattle.combine_modes.specs.declared.mode.Mode.TheVariants.{Replace}
use Rattle.combine_modes.specs.Modes.{after_one, combined}
use Rattle.model_defs.specs.Operations.{product, times_there, grown, filled}
use Rattle.model_defs.specs.declared.job.Job.{Job}
use Rattle.model_defs.specs.Maps.{layout_of, has_index, is_mapped, size_of}
use Rattle.model_defs.specs.Turns.{Each}
use Rattle.model_defs.specs.Makers.{Made, maker_of, value_count}
use Rattle.model_defs.specs.Shapes.{shape, shape_by, Vector, Matrix, is_dense, is_by_rank, is_split_sort}
use Rattle.model_defs.specs.Pieces.{Value, piece_of}
use Rattle.model_defs.specs.Eval.{Pick, addend, assembled, make_value}
use Rattle.model_defs.specs.FileMatrix.{number_of}
use Rattle.model_defs.specs.Transfers.{Transfer, Way, FromOwners, ColumnPlan, ImportPlan, from_owners, apply_transfers}
use Rattle.model_defs.specs.Plans.{brought, rank_columns, is_target_row}
use Rattle.model_defs.specs.Stages.{all_pieces, met_after, stage_count, own_addend, source_of, apply_sums, apply_offers, plain_target, last_way}
use Rattle.model_defs.specs.Laws.{AreBefore, has_cells}
use Rattle.model_defs.proofs.Transfers.{combined-from}
use Rattle.model_defs.proofs.Rows.{one-stage, first_shapes, shape-is, shape-first, list-mapped, IsMade, made_as, map-cond}
use Rattle.model_defs.proofs.MatrixRows.{matrix-piece, matrix-whole, column-stands}
use Rattle.model_defs.specs.declared.job.Step.TheVariants as step

module _ {S : Type 0} {R : Semiring S} (L : IsSemiring R) (F : Conversions S) (job : Job) (files : List File) (k : ℕ) (below : k < value_count job) (pick : Pick) (values : Each (Value S)) (before : AreBefore job files k values) (p : ℕ) where
  pub vector-piece : (v : ℕ) → (shape job v).sort ≡ Vector → (q : ℕ) → all_pieces R F job files values q v ≡ only_rows (has_index job (shape job v).rows q) (values v q)
  vector-piece v e q = ap (λ s. only_rows (λ i. is_by_rank s || has_index job (shape job v).rows q i) (values v q)) e

  pub vector-whole : (v : ℕ) → v < k → (shape job v).sort ≡ Vector → (q r : ℕ) → values v q ≡ values v r
  vector-whole v l e q r = (before.formed v l).whole (ap is_by_rank e) q ∙ sym ((before.formed v l).whole (ap is_by_rank e) r)

  -- y of an apply, or noughts
  pub own-addend : (y : Option ℕ) → ((v : ℕ) → y ≡ Some v → ((shape job v).sort ≡ Vector) × ((shape job v).rows ≡ (shape job k).rows)) → (i j : ℕ)
      → own_addend R job p (shape job k) (all_pieces R F job files values p) y i j ≡ cond (has_index job (shape job k).rows p i) (addend R F job files (shape job k) values y p i j) None
  own-addend None fits i j = go (has_index job (shape job k).rows p i) refl
    where
      go : (b : Bool) → has_index job (shape job k).rows p i ≡ b → cond (b && ltb j (shape job k).columns) (Some R.nought) None ≡ cond b (cond (is_mapped job (shape job k).rows i && ltb j (shape job k).columns) (Some R.nought) None) None
      go true e = ap (λ m. cond (m && ltb j (shape job k).columns) (Some R.nought) None) (sym (list-mapped job (shape job k).rows p i e))
      go false e = refl
  own-addend (Some v) fits i j = λ t. cond (is_by_rank ((fits v refl).0 t) || has_index job ((fits v refl).1 t) p i) (values v p i j) None

  -- copies of x at the columns of the rank's places
  abbrev copies : ℕ → ℕ → Table S
  copies a x = combined R Replace true job.ranks (filled (λ i. stands i (rank_columns job files a p)) (shape job k).columns R.nought)
      (λ q. brought job files (from_owners (ColumnPlan a)) (all_pieces R F job files values q x) q p) (source_of job FromOwners (ColumnPlan a) (pick k))

  copied : (a x : ℕ) → x < k → (shape job x).sort ≡ Vector → (shape job x).rows ≡ (shape job a).domain → (shape job k).columns ≡ (shape job x).columns
      → IsOneToOne (layout_of job (shape job a).domain) → ((i q : ℕ) → owner (layout_of job (shape job a).domain) i ≡ Some q → q < job.ranks) → IsTotal (layout_of job (shape job a).domain)
      → (c j : ℕ) → stands c (rank_columns job files a p) ≡ true → c < size_of job (shape job a).domain → copies a x c j ≡ values x p c j
  copied a x l s r columns one ranked full c j has low =
      (λ t. combined R Replace true job.ranks (filled (λ i. stands i (rank_columns job files a p)) (shape job k).columns R.nought)
      (λ q. brought job files (from_owners (ColumnPlan a)) (rows q t) q p) (source_of job FromOwners (ColumnPlan a) (pick k)) c j)
      ∙ combined-from R F job files (from_owners (ColumnPlan a)) one refl job.ranks ranked (values x p) Replace true p (filled (λ i. stands i (rank_columns job files a p)) (shape job k).columns R.nought) (pick k) c j
      ∙ ap₂ (λ g h. after_one R Replace true (cond (g && ltb j (shape job k).columns) (Some R.nought) None) (cond (g && h) (values x p c j) None)) has (full c low)
      ∙ go (ltb j (shape job k).columns) refl (values x p c j) refl
    where
      rows : (q : ℕ) → all_pieces R F job files values q x ≡ only_rows (has_index job (shape job a).domain q) (values x p)
      rows q = vector-piece x s q ∙ ap₂ (λ m t. only_rows (has_index job m q) t) r (vector-whole x l s q p)

      cells : (b : Bool) → ltb j (shape job k).columns ≡ b → is_some (values x p c j) ≡ b
      cells b e =
          (before.formed x l).dense (ap is_dense s) p c j ∙ ap (λ s. has_cells job (shape job x) s p c && ltb j (shape job x).columns) s
          ∙ ap₂ (λ m n. m && n) (ap (λ m. is_mapped job m c) r ∙ full c low) (ap (ltb j) (sym columns) ∙ e)

      go : (b : Bool) → ltb j (shape job k).columns ≡ b → (o : Option S) → values x p c j ≡ o → after_one R Replace true (cond (true && b) (Some R.nought) None) (cond (true && true) o None) ≡ o
      go true e (Some v) f = refl
      go true e None f = let t = cells true e in let u : is_some (values x p c j) ≡ false = ap is_some f in absurd (let bad : ⊥ = cc in bad)
      go false e None f = refl
      go false e (Some v) f = let t = cells false e in let u : is_some (values x p c j) ≡ true = ap is_some f in absurd (let bad : ⊥ = cc in bad)

  pub apply-made : (name : List ℕ) (a x : ℕ) (y : Option ℕ) (alpha beta : ℤ) → maker_of job k ≡ Made (step.Apply name a x y alpha beta false) → a < k → x < k → (shape job a).sort ≡ Matrix → (shape job x).sort ≡ Vector
      → (shape job x).rows ≡ (shape job a).domain → ((v : ℕ) → y ≡ Some v → ((shape job v).sort ≡ Vector) × ((shape job v).rows ≡ (shape job k).rows))
      → IsOneToOne (layout_of job (shape job a).domain) → ((i q : ℕ) → owner (layout_of job (shape job a).domain) i ≡ Some q → q < job.ranks) → IsTotal (layout_of job (shape job a).domain)
      → IsMade R F job files k below pick values before p
  apply-made name a x y alpha beta e l m s v r fits one ranked full =
      ap (made_as R F job files k below pick values before p) e
      ∙ (λ t. finish (last_way (apply_transfers a (split t) false)) (met_after R F job files pick k values (stage_count job k) p))
      ∙ ap (finish FromOwners) (one-stage R F job files k below pick values before p (Made (step.Apply name a x y alpha beta false)) true e (ap is_dense sort) (ap (λ b. length (apply_transfers a b false)) split)
      ∙ ap (λ b. met_by (get_or (apply_transfers a b false) 0 (from_owners (ImportPlan 0 0)))) split)
      ∙ (λ t i j. at i j t)
      ∙ (λ t. only_rows (λ i. is_by_rank (sym sort t) || has_index job (shape job k).rows p i)
      (grown R (number_of R F alpha) (product R (size_of job (shape job x).rows) (whole t) (values x p)) (number_of R F beta) (addend R F job files (shape job k) values y p)))
      ∙ (λ t. piece_of job (shape job k) p (λ q. grown R (number_of R F alpha) (product R (size_of job (shape job x).rows) (assembled R F job files (sym split t) (values a)) (values x q)) (number_of R F beta) (addend R F job files (shape job k) values y q)))
      ∙ sym (ap (λ m. piece_of job (shape job k) p (make_value R F job files pick k values m)) e)
    where
      same : shape job k ≡ record (shape job x) { rows = (shape job a).rows }
      same = shape-is job k below ∙ ap (shape_by k (first_shapes job k)) e ∙ (λ t. record (shape-first job k x (omega arith) m t) { rows = (shape-first job k a (omega arith) l t).rows })

      sort : (shape job k).sort ≡ Vector
      sort = ap (λ s. s.sort) same ∙ v

      split : is_split_sort (shape job a).sort ≡ false
      split = ap is_split_sort s

      whole : values a p ≡ values a 0
      whole = matrix-whole L F job files k below pick values before p a l s p 0

      finish : Way → Table S → Table S
      finish way got =
          grown R (number_of R F alpha) (apply_sums R way (size_of job (shape job x).rows) (all_pieces R F job files values p a) got)
          (number_of R F beta) (own_addend R job p (shape job k) (all_pieces R F job files values p) y)

      met_by : Transfer → Table S
      met_by tr =
          combined R (plain_target true tr.way (filled (is_target_row job files tr p) (shape job k).columns R.nought)).mode true job.ranks
          (plain_target true tr.way (filled (is_target_row job files tr p) (shape job k).columns R.nought)).old
          (λ q. brought job files tr (apply_offers R tr.way (size_of job (shape job x).rows) (all_pieces R F job files values q a) (all_pieces R F job files values q x) (all_pieces R F job files values q x)) q p)
          (source_of job tr.way tr.plan (pick k))

      grow : ℕ → ℕ → Table S → S → S
      grow i j t old = R.plus (R.times (number_of R F alpha) (unwrap_or (t i j) R.nought)) (R.times (number_of R F beta) old)

      sums : (i j : ℕ) → has_index job (shape job k).rows p i ≡ true
          → product R (size_of job (shape job x).rows) (all_pieces R F job files values p a) (copies a x) i j ≡ product R (size_of job (shape job x).rows) (values a p) (values x p) i j
      sums i j h = total_below-ext (places-IsJoining L) (size_of job (shape job x).rows) _ _ (λ c low.
          (λ t. times_there R (matrix-piece L F job files k below pick values before p a s p t i c) (copies a x c j))
          ∙ ap (λ b. times_there R (cond b (values a p i c) None) (copies a x c j)) mine
          ∙ term c low (values a p i c) refl)
        where
          mine : has_index job (shape job a).rows p i ≡ true
          mine = (λ t. has_index job (sym same t).rows p i) ∙ h

          term : (c : ℕ) → c < size_of job (shape job x).rows → (u : Option S) → values a p i c ≡ u → times_there R u (copies a x c j) ≡ times_there R u (values x p c j)
          term c low None f = refl
          term c low (Some w) f = ap (times_there R (Some w))
              (copied a x m v r (ap (λ s. s.columns) same) one ranked full c j (column-stands L F job files k below pick values before p a l s p i c mine (ap is_some f)) (subst (λ m. c < size_of job m) r low))

      at : (i j : ℕ) → finish FromOwners (copies a x) i j
          ≡ cond (has_index job (shape job k).rows p i) (grown R (number_of R F alpha) (product R (size_of job (shape job x).rows) (values a p) (values x p)) (number_of R F beta) (addend R F job files (shape job k) values y p) i j) None
      at i j =
          ap (option_map (grow i j (product R (size_of job (shape job x).rows) (all_pieces R F job files values p a) (copies a x)))) (own-addend y fits i j)
          ∙ map-cond (grow i j (product R (size_of job (shape job x).rows) (all_pieces R F job files values p a) (copies a x))) (has_index job (shape job k).rows p i) (addend R F job files (shape job k) values y p i j)
          ∙ go (has_index job (shape job k).rows p i) refl
        where
          go : (b : Bool) → has_index job (shape job k).rows p i ≡ b
              → cond b (option_map (grow i j (product R (size_of job (shape job x).rows) (all_pieces R F job files values p a) (copies a x))) (addend R F job files (shape job k) values y p i j)) None
              ≡ cond b (grown R (number_of R F alpha) (product R (size_of job (shape job x).rows) (values a p) (values x p)) (number_of R F beta) (addend R F job files (shape job k) values y p) i j) None
          go true h = ap (λ o. option_map (λ old. R.plus (R.times (number_of R F alpha) (unwrap_or o R.nought)) (R.times (number_of R F beta) old)) (addend R F job files (shape job k) values y p i j)) (sums i j h)
          go false h = refl
