-- The row laws of an apply whose sums are made where the places are and then go to the owners of the result: the transposed
-- apply of an assembled matrix, and both applies of a split one.
use Rattle.std.proofs.Common.{◌≡◌, ℕ, zero, suc, ℤ, ◌<◌, ◌⊎◌, inl, inr, Bool, true, false, cond, ◌&&◌, ◌||◌, ltb, List, [], ◌∷◌, Option, Some, None, refl, sym, ap, ap₂, ◌∙◌, subst, arith, length, get_or}
use Rattle.std.specs.Prelude.{is_some}
use Rattle.std.specs.Option.{unwrap_or, option_map}
use Rattle.scalar_laws.specs.Semiring.{Semiring, IsSemiring}
use Rattle.scalar_laws.specs.Conversions.{Conversions}
use Rattle.tables.specs.Tables.{Table, only_rows, nowhere, sum_of}
use Rattle.tables.specs.Sums.{total_below, if_there}
use Rattle.tables.specs.Indices.{stands, each_rank}
use Rattle.tables.proofs.Sums.{places-IsJoining, total_below-ext, total_below-unit}
use Rattle.tables.proofs.Ranks.{total-each_rank, sum_of-each_rank}
use Rattle.map_core.specs.Layouts.{IsOneToOne, IsTotal, owner}
use Rattle.mm_text.specs.Reading.{File}
use Rattle.combine_modes.specs.declared.mode.Mode.TheVariants.{Replace, Add}
use Rattle.combine_modes.specs.Modes.{combine, there, after_one, combined}
use Rattle.model_defs.specs.Operations.{product, transpose, turned, times_there, grown, filled}
use Rattle.model_defs.specs.declared.job.Job.{Job}
use Rattle.model_defs.specs.Maps.{layout_of, has_index, is_mapped, size_of}
use Rattle.model_defs.specs.Turns.{Each}
use Rattle.model_defs.specs.Makers.{Maker, Made, maker_of, value_count}
use Rattle.model_defs.specs.Shapes.{shape, shape_by, Vector, Matrix, Split, is_dense, is_by_rank, is_split_sort}
use Rattle.model_defs.specs.Pieces.{Value, piece_of}
use Rattle.model_defs.specs.Eval.{Pick, addend, assembled, make_value}
use Rattle.model_defs.specs.FileMatrix.{number_of}
use Rattle.model_defs.specs.Transfers.{Plan, Transfer, Way, FromOwners, ToOwners, ColumnPlan, RowPlan, ImportPlan, from_owners, to_owners, apply_transfers, transfers_by, owner_map}
use Rattle.model_defs.specs.Plans.{brought, rank_columns, rank_rows, rows_of, dealt_places, structure, is_target_row, rank_list_by, owns}
use Rattle.model_defs.specs.Stages.{all_pieces, met_after, met_next, stage_count, own_addend, source_of, apply_sums, apply_offers, near_x, plain_target, target_by, entries_by, last_way}
use Rattle.model_defs.specs.Laws.{AreBefore, has_cells}
use Rattle.model_defs.proofs.Combining.{add-nought}
use Rattle.model_defs.proofs.Structures.{both-some}
use Rattle.model_defs.proofs.Transfers.{combined-from, combined-to}
use Rattle.model_defs.proofs.Rows.{first_shapes, shape-is, shape-first, IsMade, made_as, map-cond}
use Rattle.model_defs.proofs.MatrixRows.{matrix-rows, matrix-whole, split-piece, row-owner, row-stands, column-there}
use Rattle.model_defs.proofs.ApplyRows.{vector-piece, vector-whole, own-addend}
use Rattle.model_defs.proofs.Products.{product-owned, product-parts}
use Rattle.model_defs.specs.declared.job.Step.TheVariants as step

either : (a b : Bool) → a || b ≡ true → (a ≡ true) ⊎ (b ≡ true)
either true b e = inl refl
either false b e = inr e

-- where a sum is there, one of its terms is
pub below-there : {S : Type 0} (f : S → S → S) (n : ℕ) (g : ℕ → Option S) → is_some (total_below (if_there f) n g) ≡ true → (c : ℕ) × (c < n) × (is_some (g c) ≡ true)
below-there f zero g e = absurd (let bad : ⊥ = cc in bad)
below-there f (suc n) g e = by (either (is_some (total_below (if_there f) n g)) (is_some (g n)) (sym (both-some f (total_below (if_there f) n g) (g n)) ∙ e)) (below-there f n g)
  where
    by : (is_some (total_below (if_there f) n g) ≡ true) ⊎ (is_some (g n) ≡ true) → (is_some (total_below (if_there f) n g) ≡ true → (c : ℕ) × (c < n) × (is_some (g c) ≡ true)) → (c : ℕ) × (c < suc n) × (is_some (g c) ≡ true)
    by (inl h) rest = let t = rest h in (t.0, omega (arith, t.1), t.2)
    by (inr h) rest = (n, omega arith, h)

-- where a product is there, the matrix has a place in its row
pub product-there : {S : Type 0} (R : Semiring S) (n : ℕ) (a b : Table S) (i j : ℕ) → is_some (product R n a b i j) ≡ true → (c : ℕ) × (is_some (a i c) ≡ true)
product-there R n a b i j e = let t = below-there R.plus n (λ c. times_there R (a i c) (b c j)) e in (t.0, left (a i t.0) (b t.0 j) t.2)
  where
    left : (u v : Option _) → is_some (times_there R u v) ≡ true → is_some u ≡ true
    left None v h = absurd (let bad : ⊥ = cc in bad)
    left (Some s) v h = refl

module _ {S : Type 0} {R : Semiring S} (L : IsSemiring R) (F : Conversions S) (job : Job) (files : List File) (k : ℕ) (below : k < value_count job) (pick : Pick) (values : Each (Value S)) (before : AreBefore job files k values) (p : ℕ) where
  -- what an apply gathers at a stage, by the transfer
  abbrev apply_stage : (a x : ℕ) → Bool → Transfer → ℕ → Value S → Value S
  apply_stage a x transposed tr stage got r =
      combined R (plain_target true tr.way (filled (is_target_row job files tr r) (shape job k).columns R.nought)).mode true job.ranks
      (plain_target true tr.way (filled (is_target_row job files tr r) (shape job k).columns R.nought)).old
      (λ q. brought job files tr (apply_offers R tr.way (size_of job (shape job x).rows) (turned transposed (all_pieces R F job files values q a)) (all_pieces R F job files values q x) (near_x stage (all_pieces R F job files values q x) (got q))) q r)
      (source_of job tr.way tr.plan (pick k))

  abbrev nth : List Transfer → ℕ → Transfer
  nth ts stage = get_or ts stage (from_owners (ImportPlan 0 0))

  met-stage : (name : List ℕ) (a x : ℕ) (y : Option ℕ) (alpha beta : ℤ) (transposed split : Bool) → maker_of job k ≡ Made (step.Apply name a x y alpha beta transposed) → is_dense (shape job k).sort ≡ true → is_split_sort (shape job a).sort ≡ split
      → (stage : ℕ) (got : Value S) → met_next R F job files pick k values stage got ≡ apply_stage a x transposed (nth (apply_transfers a split transposed) stage) stage got
  met-stage name a x y alpha beta transposed split e f s stage got =
      (λ t r. by (e t) (f t) (nth (transfers_by job k (e t)) stage) r)
      ∙ ap (λ b. apply_stage a x transposed (nth (apply_transfers a b transposed) stage) stage got) s
    where
      by : Maker → Bool → Transfer → Value S
      by m fixed tr r =
          combined R (target_by (all_pieces R F job files values r) (plain_target fixed tr.way (filled (is_target_row job files tr r) (shape job k).columns R.nought)) m).mode fixed job.ranks
          (target_by (all_pieces R F job files values r) (plain_target fixed tr.way (filled (is_target_row job files tr r) (shape job k).columns R.nought)) m).old
          (λ q. brought job files tr (entries_by R F job files q k tr.way stage (all_pieces R F job files values q) (got q) m) q r)
          (source_of job tr.way tr.plan (pick k))

  -- copies of x at a rank's places, by any plan
  copied : (a x : ℕ) (transposed : Bool) (plan : Plan) → x < k → (shape job x).sort ≡ Vector → (shape job x).rows ≡ owner_map job plan → (shape job k).columns ≡ (shape job x).columns
      → IsOneToOne (layout_of job (owner_map job plan)) → ((i q : ℕ) → owner (layout_of job (owner_map job plan)) i ≡ Some q → q < job.ranks) → IsTotal (layout_of job (owner_map job plan))
      → (q c j : ℕ) → stands c (rank_list_by job files plan q) ≡ true → c < size_of job (owner_map job plan)
      → apply_stage a x transposed (from_owners plan) 0 (λ r. nowhere) q c j ≡ values x p c j
  copied a x transposed plan l s r columns one ranked full q c j has low =
      (λ t. combined R Replace true job.ranks (filled (λ i. stands i (rank_list_by job files plan q)) (shape job k).columns R.nought)
      (λ o. brought job files (from_owners plan) (rows o t) o q) (source_of job FromOwners plan (pick k)) c j)
      ∙ combined-from R F job files (from_owners plan) one refl job.ranks ranked (values x p) Replace true q (filled (λ i. stands i (rank_list_by job files plan q)) (shape job k).columns R.nought) (pick k) c j
      ∙ ap₂ (λ g h. after_one R Replace true (cond (g && ltb j (shape job k).columns) (Some R.nought) None) (cond (g && h) (values x p c j) None)) has (full c low)
      ∙ go (ltb j (shape job k).columns) refl (values x p c j) refl
    where
      rows : (o : ℕ) → all_pieces R F job files values o x ≡ only_rows (has_index job (owner_map job plan) o) (values x p)
      rows o = vector-piece L F job files k below pick values before p x s o ∙ ap₂ (λ m t. only_rows (has_index job m o) t) r (vector-whole L F job files k below pick values before p x l s o p)

      cells : (b : Bool) → ltb j (shape job k).columns ≡ b → is_some (values x p c j) ≡ b
      cells b e =
          (before.formed x l).dense (ap is_dense s) p c j ∙ ap (λ s. has_cells job (shape job x) s p c && ltb j (shape job x).columns) s
          ∙ ap₂ (λ m n. m && n) (ap (λ m. is_mapped job m c) r ∙ full c low) (ap (ltb j) (sym columns) ∙ e)

      go : (b : Bool) → ltb j (shape job k).columns ≡ b → (o : Option S) → values x p c j ≡ o → after_one R Replace true (cond (true && b) (Some R.nought) None) (cond (true && true) o None) ≡ o
      go true e (Some v) f = refl
      go true e None f = let t = cells true e in let u : is_some (values x p c j) ≡ false = ap is_some f in absurd (let bad : ⊥ = cc in bad)
      go false e None f = refl
      go false e (Some v) f = let t = cells false e in let u : is_some (values x p c j) ≡ true = ap is_some f in absurd (let bad : ⊥ = cc in bad)

  -- sums that come to the owner of a row
  summed : (tr : Transfer) → tr.way ≡ ToOwners → IsOneToOne (layout_of job (owner_map job tr.plan)) → (offers : ℕ → Table S)
      → ((q i j : ℕ) → is_some (offers q i j) ≡ true → stands i (rank_list_by job files tr.plan q) ≡ true)
      → (whole : Table S) → ((i j : ℕ) → total_below (if_there R.plus) job.ranks (λ q. offers q i j) ≡ whole i j)
      → ((i j : ℕ) → ltb j (shape job k).columns ≡ false → whole i j ≡ None) → (i j : ℕ) → owns job files tr.plan p i ≡ true
      → unwrap_or (combined R Add true job.ranks (filled (owns job files tr.plan p) (shape job k).columns R.nought) (λ q. brought job files tr (offers q) q p) (source_of job tr.way tr.plan (pick k)) i j) R.nought
      ≡ unwrap_or (whole i j) R.nought
  summed tr way one offers within whole sums beyond i j own =
      ap (λ o. unwrap_or o R.nought)
      (combined-to R F job files tr one way offers within Add true job.ranks p (filled (owns job files tr.plan p) (shape job k).columns R.nought) (pick k) i j
      ∙ ap (λ b. cond b (combined R Add true job.ranks (filled (owns job files tr.plan p) (shape job k).columns R.nought) offers (pick k) i j) (filled (owns job files tr.plan p) (shape job k).columns R.nought i j)) own
      ∙ ap (λ b. combine R Add true (cond (b && ltb j (shape job k).columns) (Some R.nought) None) came picked) own)
      ∙ by (ltb j (shape job k).columns) refl
    where
      came : List S
      came = there (each_rank job.ranks (λ q. offers q i j))

      picked : S
      picked = unwrap_or (offers (pick k i j) i j) R.nought

      gone : (ss : List S) → combine R Add true None ss picked ≡ None
      gone [] = refl
      gone (s ∷ ss) = refl

      by : (b : Bool) → ltb j (shape job k).columns ≡ b → unwrap_or (combine R Add true (cond (true && b) (Some R.nought) None) came picked) R.nought ≡ unwrap_or (whole i j) R.nought
      by true e =
          add-nought R L (each_rank job.ranks (λ q. offers q i j)) picked
          ∙ ap (λ o. unwrap_or o R.nought) (total-each_rank (places-IsJoining L) job.ranks (λ q. offers q i j) (λ o. o) ∙ sums i j)
      by false e = ap (λ o. unwrap_or o R.nought) (gone came ∙ sym (beyond i j e))

  -- the product has the columns of x alone
  beyond : (x : ℕ) → x < k → (shape job x).sort ≡ Vector → (shape job k).columns ≡ (shape job x).columns → (n : ℕ) (a : Table S) (i j : ℕ) → ltb j (shape job k).columns ≡ false → product R n a (values x p) i j ≡ None
  beyond x l s columns n a i j e =
      total_below-ext (places-IsJoining L) n _ (λ c. None) (λ c m. ap (times_there R (a i c)) (gone c (values x p c j) refl) ∙ none (a i c))
      ∙ total_below-unit (places-IsJoining L) n
    where
      none : (u : Option S) → times_there R u None ≡ None
      none None = refl
      none (Some v) = refl

      nothing : (b : Bool) → b && false ≡ false
      nothing true = refl
      nothing false = refl

      gone : (c : ℕ) (o : Option S) → values x p c j ≡ o → o ≡ None
      gone c None f = refl
      gone c (Some v) f =
          let t = (before.formed x l).dense (ap is_dense s) p c j ∙ ap (λ b. has_cells job (shape job x) (shape job x).sort p c && b) (ap (ltb j) (sym columns) ∙ e) ∙ nothing (has_cells job (shape job x) (shape job x).sort p c) in
          let u : is_some (values x p c j) ≡ true = ap is_some f in absurd (let bad : ⊥ = cc in bad)

  -- from the sums of each row to the row law
  module _ (name : List ℕ) (a x : ℕ) (y : Option ℕ) (alpha beta : ℤ) (transposed split : Bool) (e : maker_of job k ≡ Made (step.Apply name a x y alpha beta transposed)) (l : a < k) (m : x < k)
      (s : is_split_sort (shape job a).sort ≡ split) (v : (shape job x).sort ≡ Vector) (fits : (o : ℕ) → y ≡ Some o → ((shape job o).sort ≡ Vector) × ((shape job o).rows ≡ (shape job k).rows)) where
    same : shape job k ≡ record (shape job x) { rows = cond transposed (shape job a).domain (shape job a).rows }
    same = shape-is job k below ∙ ap (shape_by k (first_shapes job k)) e ∙ (λ t. record (shape-first job k x (omega arith) m t) { rows = cond transposed (shape-first job k a (omega arith) l t).domain (shape-first job k a (omega arith) l t).rows })

    sort : (shape job k).sort ≡ Vector
    sort = ap (λ s. s.sort) same ∙ v

    abbrev whole : Table S
    whole = product R (size_of job (shape job x).rows) (turned transposed (assembled R F job files split (values a))) (values x p)

    abbrev finish : Way → Table S → Table S
    finish way got =
        grown R (number_of R F alpha) (apply_sums R way (size_of job (shape job x).rows) (turned transposed (all_pieces R F job files values p a)) got)
        (number_of R F beta) (own_addend R job p (shape job k) (all_pieces R F job files values p) y)

    abbrev grow : ℕ → ℕ → Table S → S → S
    grow i j t old = R.plus (R.times (number_of R F alpha) (unwrap_or (t i j) R.nought)) (R.times (number_of R F beta) old)

    at : (got : Table S) → ((i j : ℕ) → has_index job (shape job k).rows p i ≡ true → unwrap_or (got i j) R.nought ≡ unwrap_or (whole i j) R.nought) → (i j : ℕ)
        → finish ToOwners got i j ≡ cond (has_index job (shape job k).rows p i) (grown R (number_of R F alpha) whole (number_of R F beta) (addend R F job files (shape job k) values y p) i j) None
    at got sums i j =
        ap (option_map (grow i j got)) (own-addend L F job files k below pick values before p y fits i j)
        ∙ map-cond (grow i j got) (has_index job (shape job k).rows p i) (addend R F job files (shape job k) values y p i j)
        ∙ go (has_index job (shape job k).rows p i) refl
      where
        go : (b : Bool) → has_index job (shape job k).rows p i ≡ b
            → cond b (option_map (grow i j got) (addend R F job files (shape job k) values y p i j)) None
            ≡ cond b (grown R (number_of R F alpha) whole (number_of R F beta) (addend R F job files (shape job k) values y p) i j) None
        go true h = ap (λ z. option_map (λ old. R.plus (R.times (number_of R F alpha) z) (R.times (number_of R F beta) old)) (addend R F job files (shape job k) values y p i j)) (sums i j h)
        go false h = refl

    made-of-sums : last_way (apply_transfers a split transposed) ≡ ToOwners → (got : Table S) → met_after R F job files pick k values (stage_count job k) p ≡ got
        → ((i j : ℕ) → has_index job (shape job k).rows p i ≡ true → unwrap_or (got i j) R.nought ≡ unwrap_or (whole i j) R.nought) → IsMade R F job files k below pick values before p
    made-of-sums last got is sums =
        ap (made_as R F job files k below pick values before p) e
        ∙ (λ t. finish (last_way (apply_transfers a (s t) transposed)) (is t))
        ∙ ap (λ w. finish w got) last
        ∙ (λ t i j. at got sums i j t)
        ∙ (λ t. only_rows (λ i. is_by_rank (sym sort t) || has_index job (shape job k).rows p i) (grown R (number_of R F alpha) whole (number_of R F beta) (addend R F job files (shape job k) values y p)))
        ∙ (λ t. piece_of job (shape job k) p (λ q. grown R (number_of R F alpha) (product R (size_of job (shape job x).rows) (turned transposed (assembled R F job files (sym s t) (values a))) (values x q)) (number_of R F beta) (addend R F job files (shape job k) values y q)))
        ∙ sym (ap (λ m. piece_of job (shape job k) p (make_value R F job files pick k values m)) e)

  pub transposed-made : (name : List ℕ) (a x : ℕ) (y : Option ℕ) (alpha beta : ℤ) → maker_of job k ≡ Made (step.Apply name a x y alpha beta true) → a < k → x < k → (shape job a).sort ≡ Matrix → (shape job x).sort ≡ Vector
      → (shape job x).rows ≡ (shape job a).rows → ((o : ℕ) → y ≡ Some o → ((shape job o).sort ≡ Vector) × ((shape job o).rows ≡ (shape job k).rows))
      → IsOneToOne (layout_of job (shape job a).rows) → ((i q : ℕ) → owner (layout_of job (shape job a).rows) i ≡ Some q → q < job.ranks) → IsTotal (layout_of job (shape job a).rows)
      → IsOneToOne (layout_of job (shape job a).domain) → IsMade R F job files k below pick values before p
  transposed-made name a x y alpha beta e l m s v r fits one ranked full two =
      made-of-sums name a x y alpha beta true false e l m (ap is_split_sort s) v fits refl
      (apply_stage a x true (to_owners (ColumnPlan a)) 0 (λ r. nowhere) p)
      (ap (λ n. met_after R F job files pick k values n p) count ∙ ap (λ f. f p) (met-stage name a x y alpha beta true false e (ap is_dense sort) (ap is_split_sort s) 0 (λ r. nowhere)))
      (λ i j h. summed (to_owners (ColumnPlan a)) refl two offers within (product R n (transpose (values a 0)) (values x p)) sums
      (beyond x m v (ap (λ s. s.columns) is) n (transpose (values a 0))) i j ((λ t. has_index job ((sym rows) t) p i) ∙ h))
    where
      n : ℕ
      n = size_of job (shape job x).rows

      is : shape job k ≡ record (shape job x) { rows = (shape job a).domain }
      is = same name a x y alpha beta true false e l m (ap is_split_sort s) v fits

      sort : (shape job k).sort ≡ Vector
      sort = ap (λ s. s.sort) is ∙ v

      rows : (shape job k).rows ≡ (shape job a).domain
      rows = ap (λ s. s.rows) is

      count : stage_count job k ≡ 1
      count = ap (λ m. length (transfers_by job k m)) e ∙ ap (λ b. length (apply_transfers a b true)) (ap is_split_sort s)

      offers : ℕ → Table S
      offers q = product R n (transpose (all_pieces R F job files values q a)) (all_pieces R F job files values q x)

      within : (q i j : ℕ) → is_some (offers q i j) ≡ true → stands i (rank_columns job files a q) ≡ true
      within q i j h =
          let t = product-there R n (transpose (all_pieces R F job files values q a)) (all_pieces R F job files values q x) i j h in
          column-there L F job files k below pick values before p a l (ap is_dense s) q t.0 i t.1

      x-rows : (q : ℕ) → all_pieces R F job files values q x ≡ only_rows (has_index job (shape job a).rows q) (values x p)
      x-rows q = vector-piece L F job files k below pick values before p x v q ∙ ap₂ (λ m t. only_rows (has_index job m q) t) r (vector-whole L F job files k below pick values before p x m v q p)

      sums : (i j : ℕ) → total_below (if_there R.plus) job.ranks (λ q. offers q i j) ≡ product R n (transpose (values a 0)) (values x p) i j
      sums i j =
          (λ t. total_below (if_there R.plus) job.ranks (λ q. product R n (transpose (matrix-rows L F job files k below pick values before p a l s q p t)) (x-rows q t) i j))
          ∙ product-owned L job.ranks n (λ q i. has_index job (shape job a).rows q i) (values a p) (values x p) (row-owner L F job files k below pick values before p a l s one ranked full) i j
          ∙ (λ t. product R n (transpose (matrix-whole L F job files k below pick values before p a l s p 0 t)) (values x p) i j)

  -- ---- of a split matrix

  -- the rows of a part's places stand among its rows
  row-there : (a : ℕ) → a < k → (shape job a).sort ≡ Split → (q i j : ℕ) → is_some (all_pieces R F job files values q a i j) ≡ true → stands i (rank_rows job files a q) ≡ true
  row-there a l s q i j h =
      let there : is_some (values a q i j) ≡ true = (λ t. is_some (sym (split-piece L F job files k below pick values before p a s q) t i j)) ∙ h in
      let place = (before.formed a l).within (ap is_dense s) q i j there in
      ap (λ b. stands i (rows_of (size_of job (shape job a).rows) (size_of job (shape job a).domain) (dealt_places job files b a q))) (ap is_split_sort s)
      ∙ row-stands (size_of job (shape job a).rows) (size_of job (shape job a).domain) (structure job files a q) i j place.0 place.1 (sym (before.placed a q l i j) ∙ there)

  -- two stages: copies of x come to the places, and the sums go to the owners
  module _ (name : List ℕ) (a x : ℕ) (y : Option ℕ) (alpha beta : ℤ) (transposed : Bool) (first last : Plan) (plans : apply_transfers a true transposed ≡ from_owners first ∷ to_owners last ∷ [])
      (e : maker_of job k ≡ Made (step.Apply name a x y alpha beta transposed)) (l : a < k) (m : x < k) (s : (shape job a).sort ≡ Split) (v : (shape job x).sort ≡ Vector)
      (fits : (o : ℕ) → y ≡ Some o → ((shape job o).sort ≡ Vector) × ((shape job o).rows ≡ (shape job k).rows)) (r : (shape job x).rows ≡ owner_map job first) (rows : (shape job k).rows ≡ owner_map job last)
      (one : IsOneToOne (layout_of job (owner_map job first))) (ranked : (i q : ℕ) → owner (layout_of job (owner_map job first)) i ≡ Some q → q < job.ranks) (full : IsTotal (layout_of job (owner_map job first)))
      (two : IsOneToOne (layout_of job (owner_map job last)))
      (near : (q i c : ℕ) → is_some (turned transposed (all_pieces R F job files values q a) i c) ≡ true → stands c (rank_list_by job files first q) ≡ true)
      (far : (q i c : ℕ) → is_some (turned transposed (all_pieces R F job files values q a) i c) ≡ true → stands i (rank_list_by job files last q) ≡ true) where
    abbrev n : ℕ
    n = size_of job (shape job x).rows

    is : shape job k ≡ record (shape job x) { rows = cond transposed (shape job a).domain (shape job a).rows }
    is = same name a x y alpha beta transposed true e l m (ap is_split_sort s) v fits

    columns : (shape job k).columns ≡ (shape job x).columns
    columns = ap (λ s. s.columns) is

    abbrev copies : Value S
    copies = apply_stage a x transposed (from_owners first) 0 (λ r. nowhere)

    abbrev offers : ℕ → Table S
    offers q = product R n (turned transposed (all_pieces R F job files values q a)) (copies q)

    stage-is : (stage : ℕ) (got : Value S) → met_next R F job files pick k values stage got ≡ apply_stage a x transposed (nth (from_owners first ∷ to_owners last ∷ []) stage) stage got
    stage-is stage got =
        met-stage name a x y alpha beta transposed true e (ap (λ s. is_dense s.sort) is ∙ ap is_dense v) (ap is_split_sort s) stage got
        ∙ ap (λ ts. apply_stage a x transposed (nth ts stage) stage got) plans

    count : stage_count job k ≡ 2
    count = ap (λ m. length (transfers_by job k m)) e ∙ ap (λ b. length (apply_transfers a b transposed)) (ap is_split_sort s) ∙ ap length plans

    met : met_after R F job files pick k values (stage_count job k) p ≡ apply_stage a x transposed (to_owners last) 1 copies p
    met =
        ap (λ n. met_after R F job files pick k values n p) count
        ∙ ap (λ f. f p) (ap (λ got. met_next R F job files pick k values 1 got) (stage-is 0 (λ r. nowhere)) ∙ stage-is 1 copies)

    -- each rank's sums are those with the whole of x
    near-sums : (q i j : ℕ) → offers q i j ≡ product R n (turned transposed (values a q)) (values x p) i j
    near-sums q i j =
        total_below-ext (places-IsJoining L) n _ _ (λ c low. term c low (turned transposed (all_pieces R F job files values q a) i c) refl)
        ∙ (λ t. product R n (turned transposed (split-piece L F job files k below pick values before p a s q t)) (values x p) i j)
      where
        term : (c : ℕ) → c < n → (u : Option S) → turned transposed (all_pieces R F job files values q a) i c ≡ u → times_there R u (copies q c j) ≡ times_there R u (values x p c j)
        term c low None f = refl
        term c low (Some w) f = ap (times_there R (Some w)) (copied a x transposed first m v r columns one ranked full q c j (near q i c (ap is_some f)) (subst (λ m. c < size_of job m) r low))

    parts : (b : Bool) (i j : ℕ) → total_below (if_there R.plus) job.ranks (λ q. product R n (turned b (values a q)) (values x p) i j) ≡ product R n (turned b (sum_of R (each_rank job.ranks (values a)))) (values x p) i j
    parts true i j =
        product-parts L job.ranks n (λ q. transpose (values a q)) (values x p) i j
        ∙ (λ t. product R n (λ i k. sym (sum_of-each_rank L job.ranks (values a) k i) t) (values x p) i j)
    parts false i j =
        product-parts L job.ranks n (values a) (values x p) i j
        ∙ (λ t. product R n (λ i k. sym (sum_of-each_rank L job.ranks (values a) i k) t) (values x p) i j)

    two-made : last_way (apply_transfers a true transposed) ≡ ToOwners → IsMade R F job files k below pick values before p
    two-made way =
        made-of-sums name a x y alpha beta transposed true e l m (ap is_split_sort s) v fits way
        (apply_stage a x transposed (to_owners last) 1 copies p) met
        (λ i j h. summed (to_owners last) refl two offers (λ q i j h. let t = product-there R n (turned transposed (all_pieces R F job files values q a)) (copies q) i j h in far q i t.0 t.1)
        (product R n (turned transposed (sum_of R (each_rank job.ranks (values a)))) (values x p))
        (λ i j. (λ t. total_below (if_there R.plus) job.ranks (λ q. near-sums q i j t)) ∙ parts transposed i j)
        (beyond x m v columns n (turned transposed (sum_of R (each_rank job.ranks (values a))))) i j ((λ t. has_index job ((sym rows) t) p i) ∙ h))

  pub split-apply-made : (name : List ℕ) (a x : ℕ) (y : Option ℕ) (alpha beta : ℤ) → maker_of job k ≡ Made (step.Apply name a x y alpha beta false) → a < k → x < k → (shape job a).sort ≡ Split → (shape job x).sort ≡ Vector
      → (shape job x).rows ≡ (shape job a).domain → ((o : ℕ) → y ≡ Some o → ((shape job o).sort ≡ Vector) × ((shape job o).rows ≡ (shape job k).rows))
      → IsOneToOne (layout_of job (shape job a).domain) → ((i q : ℕ) → owner (layout_of job (shape job a).domain) i ≡ Some q → q < job.ranks) → IsTotal (layout_of job (shape job a).domain)
      → IsOneToOne (layout_of job (shape job a).rows) → IsMade R F job files k below pick values before p
  split-apply-made name a x y alpha beta e l m s v r fits one ranked full two =
      two-made name a x y alpha beta false (ColumnPlan a) (RowPlan a) refl e l m s v fits r (ap (λ s. s.rows) (same name a x y alpha beta false true e l m (ap is_split_sort s) v fits)) one ranked full two
      (λ q i c h. column-there L F job files k below pick values before p a l (ap is_dense s) q i c h) (λ q i c h. row-there a l s q i c h) refl

  pub split-transposed-made : (name : List ℕ) (a x : ℕ) (y : Option ℕ) (alpha beta : ℤ) → maker_of job k ≡ Made (step.Apply name a x y alpha beta true) → a < k → x < k → (shape job a).sort ≡ Split → (shape job x).sort ≡ Vector
      → (shape job x).rows ≡ (shape job a).rows → ((o : ℕ) → y ≡ Some o → ((shape job o).sort ≡ Vector) × ((shape job o).rows ≡ (shape job k).rows))
      → IsOneToOne (layout_of job (shape job a).rows) → ((i q : ℕ) → owner (layout_of job (shape job a).rows) i ≡ Some q → q < job.ranks) → IsTotal (layout_of job (shape job a).rows)
      → IsOneToOne (layout_of job (shape job a).domain) → IsMade R F job files k below pick values before p
  split-transposed-made name a x y alpha beta e l m s v r fits one ranked full two =
      two-made name a x y alpha beta true (RowPlan a) (ColumnPlan a) refl e l m s v fits r (ap (λ s. s.rows) (same name a x y alpha beta true true e l m (ap is_split_sort s) v fits)) one ranked full two
      (λ q i c h. row-there a l s q c i h) (λ q i c h. column-there L F job files k below pick values before p a l (ap is_dense s) q c i h) refl
