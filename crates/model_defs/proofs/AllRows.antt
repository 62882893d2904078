-- The row laws of every valid job whose matrices' files fit, so the machine of the ranks computes its values.
use Rattle.std.proofs.Common.{All, ◌≡◌, ℕ, zero, suc, ◌<◌, ◌⊎◌, inl, inr, Bool, true, false, cond, ◌&&◌, ltb, List, [], ◌∷◌, length, Option, Some, None, get_or, refl, sym, ap, ◌∙◌, subst, arith}
use Rattle.std.specs.Prelude.{is_some}
use Rattle.std.proofs.lemmas.Bool.{ltb-true}
use Rattle.scalar_laws.specs.Semiring.{Semiring, IsSemiring}
use Rattle.scalar_laws.specs.Conversions.{Conversions, AreConversions}
use Rattle.map_core.specs.Layouts.{IsOneToOne, IsTotal, owner}
use Rattle.mm_text.specs.Reading.{File}
use Rattle.model_defs.specs.Operations.{turned, filled}
use Rattle.model_defs.specs.declared.job.Job.{Job}
use Rattle.model_defs.specs.Maps.{layout_of, size_of}
use Rattle.model_defs.specs.Turns.{Each}
use Rattle.model_defs.specs.Makers.{Maker, GivenVector, GivenParts, GivenMatrix, Made, maker_of, value_count}
use Rattle.model_defs.specs.Shapes.{shape, shape_by, Sort, Vector, Parts, Matrix, Split, is_dense, is_by_rank, is_split_sort}
use Rattle.model_defs.specs.Pieces.{Value, has_row}
use Rattle.model_defs.specs.Eval.{Pick}
use Rattle.model_defs.specs.Transfers.{owner_map, Transfer, Way, FromOwners, ToOwners, transfers_by, apply_transfers, from_owners, to_owners, ImportPlan, RowPlan}
use Rattle.model_defs.specs.Plans.{one_semiring, brought, is_target_row}
use Rattle.model_defs.specs.Stages.{all_pieces, entries, entries_by, met_after, transfer_at, plain_target, target_by, target_at, near_x, apply_offers, source_of, is_fixed}
use Rattle.model_defs.specs.Letters.{width}
use Rattle.model_defs.specs.Valid.{IsValid, IsValidMaker, IsOwnerMap, IsMatrixMap, IsAddend, IsBase}
use Rattle.model_defs.proofs.Mapped.{covered-total}
use Rattle.model_defs.specs.Given.{file_count, value_file}
use Rattle.model_defs.specs.Fitting.{IsFitting, IsExpected, expected_file}
use Rattle.model_defs.specs.Laws.{MachineIsEval, RowLaws, AreBefore, AreWithinWidth, HaveOwners, IsOwned, IsMadeByRanks, HasRowLaws, has_cells}
use Rattle.model_defs.proofs.Filters.{both}
use Rattle.model_defs.proofs.Machine.{row_laws_suffice}
use Rattle.model_defs.proofs.Structures.{cond-some, some-cond}
use Rattle.model_defs.proofs.Rows.{vector-made, parts-made, scale-made, update-made, export-made, import-made, spread-made, move-made, IsMade}
use Rattle.model_defs.proofs.MatrixRows.{assembled-made, split-made, move-matrix-made, sum-made, multiply-made, transpose-made, assemble-made}
use Rattle.model_defs.proofs.ApplyRows.{apply-made}
use Rattle.model_defs.proofs.SummedRows.{transposed-made, split-apply-made, split-transposed-made}
use Rattle.model_defs.proofs.KnownShapes.{IsKnownShape, not-dense, shape-of-made, shapes-known, ranked}
use Rattle.model_defs.proofs.Formed.{MatricesFit, all-within, fixed-low, factors-there, file-within, formed-value}
use Rattle.model_defs.specs.declared.job.Step.TheVariants as step

module _ {S : Type 0} {R : Semiring S} (L : IsSemiring R) (F : Conversions S) (job : Job) (files : List File) (valid : IsValid job) (fit : MatricesFit job files) where
  known : (v k : ℕ) → k < value_count job → v < k → IsKnownShape job (shape job v)
  known v k l m = shapes-known job valid v (omega arith)

  maps : (v k : ℕ) → k < value_count job → v < k → is_dense (shape job v).sort ≡ false → IsMatrixMap job (shape job v).rows × IsMatrixMap job (shape job v).domain
  maps v k l m d = (known v k l m).matrix d

  vector-map : (v k : ℕ) → k < value_count job → v < k → (shape job v).sort ≡ Vector → IsOwnerMap job (shape job v).rows
  vector-map v k l m s = (known v k l m).owner s

  -- ---- widths

  module _ (k : ℕ) (l : k < value_count job) (pick : Pick) (values : Each (Value S)) (before : AreBefore job files k values) (p : ℕ) where
    there : (v i j : ℕ) → is_some (all_pieces R F job files values p v i j) ≡ true → is_some (values v p i j) ≡ true
    there v i j e = (both (has_row job (shape job v) p i) (is_some (values v p i j)) (sym (cond-some (has_row job (shape job v) p i) (values v p i j)) ∙ e)).1

    -- the columns of a vector or of parts
    low-column : (v : ℕ) → v < k → is_dense (shape job v).sort ≡ true → (i j : ℕ) → is_some (all_pieces R F job files values p v i j) ≡ true → j < (shape job v).columns
    low-column v m d i j e =
        ltb-true j (shape job v).columns (both (has_cells job (shape job v) (shape job v).sort p i) (ltb j (shape job v).columns) (sym ((before.formed v m).dense d p i j) ∙ there v i j e)).1

    -- the places of a matrix
    low-place : (v : ℕ) → v < k → is_dense (shape job v).sort ≡ false → (i j : ℕ) → is_some (all_pieces R F job files values p v i j) ≡ true → (i < size_of job (shape job v).rows) × (j < size_of job (shape job v).domain)
    low-place v m d i j e = (before.formed v m).within d p i j (there v i j e)

    wide-dense : (j n : ℕ) → is_dense (shape job k).sort ≡ true → (shape job k).columns ≡ n → j < n → j < width job files k
    wide-dense j n d c m = subst (λ b. j < cond b (shape job k).columns (size_of job (shape job k).domain)) (sym d) (subst (λ n. j < n) (sym c) m)

    wide-sparse : (j n : ℕ) → is_dense (shape job k).sort ≡ false → size_of job (shape job k).domain ≡ n → j < n → j < width job files k
    wide-sparse j n d c m = subst (λ b. j < cond b (shape job k).columns (size_of job (shape job k).domain)) (sym d) (subst (λ n. j < n) (sym c) m)

    -- what an apply gathered has the columns of its result
    gathered-low : (name : _) (a x : ℕ) (y : Option ℕ) (alpha beta : _) (transposed : Bool) → maker_of job k ≡ Made (step.Apply name a x y alpha beta transposed) → is_dense (shape job k).sort ≡ true
        → (t i j : ℕ) → is_some (met_after R F job files pick k values (suc t) p i j) ≡ true → j < (shape job k).columns
    gathered-low name a x y alpha beta transposed e d t i j h =
        ltb-true j (shape job k).columns (both (is_target_row job files (transfer_at job k t) p i) (ltb j (shape job k).columns)
        (sym (some-cond (is_target_row job files (transfer_at job k t) p i && ltb j (shape job k).columns) R.nought)
        ∙ sym (noughts (transfer_at job k t).way)
        ∙ sym (λ s. is_some ((target_by (all_pieces R F job files values p) (plain_target (d s) (transfer_at job k t).way (filled (is_target_row job files (transfer_at job k t) p) (shape job k).columns R.nought)) (e s)).old i j))
        ∙ fixed-low R (target_at R F job files p k t (all_pieces R F job files values p)).mode (is_fixed job k) job.ranks (target_at R F job files p k t (all_pieces R F job files values p)).old
        (λ q. brought job files (transfer_at job k t) (entries R F job files q k t (all_pieces R F job files values q) (met_after R F job files pick k values t q)) q p)
        (source_of job (transfer_at job k t).way (transfer_at job k t).plan (pick k)) i j d h)).1
      where
        noughts : (way : Way) → is_some ((plain_target true way (filled (is_target_row job files (transfer_at job k t) p) (shape job k).columns R.nought)).old i j)
            ≡ is_some (filled (is_target_row job files (transfer_at job k t) p) (shape job k).columns R.nought i j)
        noughts FromOwners = refl
        noughts ToOwners = refl

    offered-low : (name : _) (a x : ℕ) (y : Option ℕ) (alpha beta : _) (transposed : Bool) → maker_of job k ≡ Made (step.Apply name a x y alpha beta transposed) → is_dense (shape job k).sort ≡ true
        → x < k → is_dense (shape job x).sort ≡ true → (shape job k).columns ≡ (shape job x).columns → (t i j : ℕ)
        → is_some (entries_by R F job files p k (transfer_at job k t).way t (all_pieces R F job files values p) (met_after R F job files pick k values t p) (Made (step.Apply name a x y alpha beta transposed)) i j) ≡ true → j < (shape job k).columns
    offered-low name a x y alpha beta transposed e d m s c t i j h = by (transfer_at job k t).way h
      where
        n : ℕ
        n = size_of job (shape job x).rows

        own : (i : ℕ) → is_some (all_pieces R F job files values p x i j) ≡ true → j < (shape job k).columns
        own i g = subst (λ n. j < n) (sym c) (low-column x m s i j g)

        near : (t i : ℕ) → is_some (near_x t (all_pieces R F job files values p x) (met_after R F job files pick k values t p) i j) ≡ true → j < (shape job k).columns
        near zero i g = own i g
        near (suc t) i g = gathered-low name a x y alpha beta transposed e d t i j g

        by : (way : Way) → is_some (apply_offers R way (size_of job (shape job x).rows) (turned transposed (all_pieces R F job files values p a)) (all_pieces R F job files values p x) (near_x t (all_pieces R F job files values p x) (met_after R F job files pick k values t p)) i j) ≡ true → j < (shape job k).columns
        by FromOwners g = own i g
        by ToOwners g =
            let f = factors-there R (size_of job (shape job x).rows) (turned transposed (all_pieces R F job files values p a)) (near_x t (all_pieces R F job files values p x) (met_after R F job files pick k values t p)) i j g in
            near t f.0 f.2

  widths : (k : ℕ) → k < value_count job → AreWithinWidth R F job files k
  widths k l pick values before t p i j m e = by (maker_of job k) refl (valid.values k l) (shape-of-made job valid k l) t m e
    where
      column : (v : ℕ) → v < k → is_dense (shape job v).sort ≡ true → (i j : ℕ) → is_some (all_pieces R F job files values p v i j) ≡ true → j < (shape job v).columns
      column v m d i j e = low-column k l pick values before p v m d i j e

      place : (v : ℕ) → v < k → is_dense (shape job v).sort ≡ false → (i j : ℕ) → is_some (all_pieces R F job files values p v i j) ≡ true → (i < size_of job (shape job v).rows) × (j < size_of job (shape job v).domain)
      place v m d i j e = low-place k l pick values before p v m d i j e

      dense : (n : ℕ) → is_dense (shape job k).sort ≡ true → (shape job k).columns ≡ n → j < n → j < width job files k
      dense n d c m = wide-dense k l pick values before p j n d c m

      sparse : (n : ℕ) → is_dense (shape job k).sort ≡ false → size_of job (shape job k).domain ≡ n → j < n → j < width job files k
      sparse n d c m = wide-sparse k l pick values before p j n d c m

      by : (m : Maker) → maker_of job k ≡ m → IsValidMaker job k m → shape job k ≡ shape_by k (shape job) m → (t : ℕ) → t < length (transfers_by job k m)
          → is_some (entries_by R F job files p k (transfer_at job k t).way t (all_pieces R F job files values p) (met_after R F job files pick k values t p) m i j) ≡ true → j < width job files k
      by (GivenVector spec) f v g t m e = absurd (omega arith)
      by (GivenParts spec) f v g t m e = absurd (omega arith)
      by (GivenMatrix spec) f v g t m e = sparse (size_of job spec.domain) (ap (λ s. is_dense s.sort) g ∙ thin spec.split) (ap (λ s. size_of job s.domain) g) (file-within R F job files valid fit k spec l f true p i j e).1
        where
          thin : (b : Bool) → is_dense (cond b Split Matrix) ≡ false
          thin true = refl
          thin false = refl
      by (Made (step.Move name source o)) f v g t m e = moved v.1
        where
          moved : ((shape job source).sort ≡ Vector) ⊎ (((shape job source).sort ≡ Matrix) × IsTotal (layout_of job o)) → j < width job files k
          moved (inl s) = dense (shape job source).columns (ap (λ s. is_dense s.sort) g ∙ ap is_dense s) (ap (λ s. s.columns) g) (column source v.0 (ap is_dense s) i j e)
          moved (inr s) = sparse (size_of job (shape job source).domain) (ap (λ s. is_dense s.sort) g ∙ ap is_dense s.0) (ap (λ s. size_of job s.domain) g) (place source v.0 (ap is_dense s.0) i j e).1
      by (Made (step.Import name source onto mode)) f v g t m e = dense (shape job source).columns (ap (λ s. is_dense s.sort) g ∙ ap is_dense v.1.1) (ap (λ s. s.columns) g ∙ sym v.3) (column source v.0.0 (ap is_dense v.0.1) i j e)
      by (Made (step.Export name source onto mode)) f v g t m e = dense (shape job source).columns (ap (λ s. is_dense s.sort) g ∙ ap is_dense v.1.1) (ap (λ s. s.columns) g ∙ sym v.3) (column source v.0.0 (ap is_dense v.0.1) i j e)
      by (Made (step.Spread name source o)) f v g t m e = dense (shape job source).columns (ap (λ s. is_dense s.sort) g) (ap (λ s. s.columns) g) (column source v.0.0 (ap is_dense v.0.1) i j e)
      by (Made (step.Update name x y alpha beta)) f v g t m e = absurd (omega arith)
      by (Made (step.Scale name value alpha)) f v g t m e = absurd (omega arith)
      by (Made (step.Apply name a x y alpha beta transposed)) f v g t m e =
          let d : is_dense (shape job k).sort ≡ true = ap (λ s. is_dense s.sort) g ∙ ap is_dense v.2.1 in
          dense (shape job k).columns d refl (offered-low k l pick values before p name a x y alpha beta transposed f d v.2.0 (ap is_dense v.2.1) (ap (λ s. s.columns) g) t i j e)
      by (Made (step.Transpose name a)) f v g t m e = sparse (size_of job (shape job a).rows) (ap (λ s. is_dense s.sort) g ∙ ap is_dense v.1) (ap (λ s. size_of job s.domain) g) (place a v.0 (ap is_dense v.1) j i e).0
      by (Made (step.Multiply name a b)) f v g t m e = sparse (size_of job (shape job b).domain) (ap (λ s. is_dense s.sort) g ∙ ap is_dense v.0.1) (ap (λ s. size_of job s.domain) g) (place b v.1.0 (ap is_dense v.1.1) i j e).1
      by (Made (step.Add name a b alpha beta)) f v g t m e = sparse (size_of job (shape job b).domain) (ap (λ s. is_dense s.sort) g ∙ ap is_dense v.0.1) (ap (λ s. size_of job s.domain) g ∙ v.3) (place b v.1.0 (ap is_dense v.1.1) i j e).1
      by (Made (step.Assemble name source onto mode)) f v g t m e = sparse (size_of job (shape job source).domain) (ap (λ s. is_dense s.sort) g) (ap (λ s. size_of job s.domain) g) (place source v.0.0 (ap is_dense v.0.1) i j e).1
      by (Made (step.Print value)) f v g t m e = absurd v

  -- ---- owners

  abbrev AreOwnedBy : List Transfer → Type 0
  AreOwnedBy ts = (t : ℕ) → t < length ts → IsOneToOne (layout_of job (owner_map job (get_or ts t (from_owners (ImportPlan 0 0))).plan))

  one-transfer : (tr : Transfer) → IsOneToOne (layout_of job (owner_map job tr.plan)) → AreOwnedBy (tr ∷ [])
  one-transfer tr one zero m = one
  one-transfer tr one (suc t) m = absurd (omega arith)

  two-transfers : (a b : Transfer) → IsOneToOne (layout_of job (owner_map job a.plan)) → IsOneToOne (layout_of job (owner_map job b.plan)) → AreOwnedBy (a ∷ b ∷ [])
  two-transfers a b one two zero m = one
  two-transfers a b one two (suc zero) m = two
  two-transfers a b one two (suc (suc t)) m = absurd (omega arith)

  owners : (k : ℕ) → k < value_count job → HaveOwners job k
  owners k l = by (maker_of job k) (valid.values k l) (shape-of-made job valid k l)
    where
      by : (m : Maker) → IsValidMaker job k m → shape job k ≡ shape_by k (shape job) m → AreOwnedBy (transfers_by job k m)
      by (GivenVector spec) v g = λ t m. absurd (omega arith)
      by (GivenParts spec) v g = λ t m. absurd (omega arith)
      by (GivenMatrix spec) v g = file spec.split
        where
          file : (b : Bool) → AreOwnedBy (cond b [] (to_owners (RowPlan k) ∷ []))
          file true = λ t m. absurd (omega arith)
          file false = one-transfer (to_owners (RowPlan k)) (subst (λ s. IsOneToOne (layout_of job s.rows)) (sym g) v.0.1)
      by (Made (step.Move name source o)) v g = one-transfer (from_owners (ImportPlan (shape job source).rows o)) (moved v.1)
        where
          moved : ((shape job source).sort ≡ Vector) ⊎ (((shape job source).sort ≡ Matrix) × IsTotal (layout_of job o)) → IsOneToOne (layout_of job (shape job source).rows)
          moved (inl s) = (vector-map source k l v.0 s).1
          moved (inr s) = (maps source k l v.0 (ap is_dense s.0)).0.1
      by (Made (step.Import name source onto mode)) v g = one-transfer _ (vector-map source k l v.0.0 v.0.1).1
      by (Made (step.Export name source onto mode)) v g = one-transfer _ (vector-map onto k l v.1.0 v.1.1).1
      by (Made (step.Spread name source o)) v g = one-transfer _ (vector-map source k l v.0.0 v.0.1).1
      by (Made (step.Update name x y alpha beta)) v g = λ t m. absurd (omega arith)
      by (Made (step.Scale name value alpha)) v g = λ t m. absurd (omega arith)
      by (Made (step.Apply name a x y alpha beta transposed)) v g = apply (is_split_sort (shape job a).sort) transposed
        where
          sides : IsMatrixMap job (shape job a).rows × IsMatrixMap job (shape job a).domain
          sides = maps a k l v.0 (not-dense (shape job a).sort v.1)

          apply : (split transposed : Bool) → AreOwnedBy (apply_transfers a split transposed)
          apply false false = one-transfer _ sides.1.1
          apply false true = one-transfer _ sides.1.1
          apply true false = two-transfers _ _ sides.1.1 sides.0.1
          apply true true = two-transfers _ _ sides.0.1 sides.1.1
      by (Made (step.Transpose name a)) v g = one-transfer _ (maps a k l v.0 (ap is_dense v.1)).1.1
      by (Made (step.Multiply name a b)) v g = one-transfer _ (maps a k l v.0.0 (ap is_dense v.0.1)).1.1
      by (Made (step.Add name a b alpha beta)) v g = one-transfer _ (maps b k l v.1.0 (ap is_dense v.1.1)).0.1
      by (Made (step.Assemble name source onto mode)) v g = one-transfer _ (maps source k l v.0.0 (ap is_dense v.0.1)).0.1
      by (Made (step.Print value)) v g = absurd v

  owned : (k : ℕ) → k < value_count job → is_by_rank (shape job k).sort ≡ false → IsOwned job (shape job k)
  owned k l w = by (shape job k).sort refl w
    where
      of_shape : IsKnownShape job (shape job k)
      of_shape = shapes-known job valid k l

      by : (s : Sort) → (shape job k).sort ≡ s → is_by_rank s ≡ false → IsOwned job (shape job k)
      by Vector e w = let o = of_shape.owner e in record { one = o.1; below = ranked job valid (shape job k).rows o.0; total = λ d. let t = ap is_dense e in absurd (let bad : ⊥ = cc in bad) }
      by Matrix e w = let o = (of_shape.matrix (ap is_dense e)).0 in record { one = o.1; below = ranked job valid (shape job k).rows o.0; total = λ d. o.2 }
      by Parts e w = absurd (let bad : ⊥ = cc in bad)
      by Split e w = absurd (let bad : ⊥ = cc in bad)

  -- ---- made

  -- whatever the number of the rank
  pub made-any : (k : ℕ) (l : k < value_count job) (pick : Pick) (values : Each (Value S)) (before : AreBefore job files k values) (p : ℕ) → IsMade R F job files k l pick values before p
  made-any k l pick values before p = by (maker_of job k) refl (valid.values k l) (shape-of-made job valid k l)
    where
      addend-fits : (y : Option ℕ) → IsAddend job k y → (o : ℕ) → y ≡ Some o → ((shape job o).sort ≡ Vector) × ((shape job o).rows ≡ (shape job k).rows)
      addend-fits None h o e = absurd (let bad : ⊥ = cc in bad)
      addend-fits (Some y) h o e = let same : y ≡ o = cc in subst (λ v. ((shape job v).sort ≡ Vector) × ((shape job v).rows ≡ (shape job k).rows)) same (h.0.1, h.1)

      base-fits : (source : ℕ) (onto : Option ℕ) → IsBase job k source onto → (o : ℕ) → onto ≡ Some o → ((shape job o).sort ≡ Matrix) × ((shape job o).rows ≡ (shape job source).rows)
      base-fits source None h o e = absurd (let bad : ⊥ = cc in bad)
      base-fits source (Some y) h o e = let same : y ≡ o = cc in subst (λ v. ((shape job v).sort ≡ Matrix) × ((shape job v).rows ≡ (shape job source).rows)) same (h.0.1, h.1)

      by : (m : Maker) → maker_of job k ≡ m → IsValidMaker job k m → shape job k ≡ shape_by k (shape job) m → IsMade R F job files k l pick values before p
      by (GivenVector spec) e v g = vector-made R F job files k l pick values before p spec e
      by (GivenParts spec) e v g = parts-made R F job files k l pick values before p spec e
      by (GivenMatrix spec) e v g = file spec.split refl
        where
          file : (b : Bool) → spec.split ≡ b → IsMade R F job files k l pick values before p
          file true s = split-made L F job files k l pick values before p spec (e ∙ (λ t. GivenMatrix (record spec { split = s t })))
          file false s =
              let f = fit k spec l e in
              assembled-made L F job files k l pick values before p spec (e ∙ (λ t. GivenMatrix (record spec { split = s t }))) valid.some v.0.1 (all-within (size_of job spec.rows) (size_of job spec.domain) _ f.places) f.square
      by (Made (step.Move name source o)) e v g = moved v.1
        where
          moved : ((shape job source).sort ≡ Vector) ⊎ (((shape job source).sort ≡ Matrix) × IsTotal (layout_of job o)) → IsMade R F job files k l pick values before p
          moved (inl s) =
              let w = vector-map source k l v.0 s in
              move-made R F job files k l pick values before p source v.0 s w.1 (ranked job valid (shape job source).rows w.0) name o e (v.4 s)
          moved (inr s) =
              let w = (maps source k l v.0 (ap is_dense s.0)).0 in
              move-matrix-made L F job files k l pick values before p name source o e v.0 s.0 w.1 (ranked job valid (shape job source).rows w.0) (covered-total job o (shape job source).rows (valid.layouts o v.3.0) w.2 v.2)
      by (Made (step.Import name source onto mode)) e v g =
          let w = vector-map source k l v.0.0 v.0.1 in
          import-made R F job files k l pick values before p source v.0.0 v.0.1 w.1 (ranked job valid (shape job source).rows w.0) name onto mode e v.1.0 v.1.1
      by (Made (step.Export name source onto mode)) e v g =
          export-made R F job files k l pick values before p name source onto mode e v.0.0 v.1.0 v.0.1 v.1.1 (vector-map onto k l v.1.0 v.1.1).1
      by (Made (step.Spread name source o)) e v g =
          let w = vector-map source k l v.0.0 v.0.1 in
          spread-made R F job files k l pick values before p source v.0.0 v.0.1 w.1 (ranked job valid (shape job source).rows w.0) name o e
      by (Made (step.Update name x y alpha beta)) e v g = update-made R F job files k l pick values before p name x y alpha beta e v.0 v.2 v.4
      by (Made (step.Scale name value alpha)) e v g = scale-made R F job files k l pick values before p name value alpha e v
      by (Made (step.Apply name a x y alpha beta transposed)) e v g = apply v.1 transposed e v.3
        where
          sides : IsMatrixMap job (shape job a).rows × IsMatrixMap job (shape job a).domain
          sides = maps a k l v.0 (not-dense (shape job a).sort v.1)

          of_rows : (i q : ℕ) → owner (layout_of job (shape job a).rows) i ≡ Some q → q < job.ranks
          of_rows = ranked job valid (shape job a).rows sides.0.0

          of_domain : (i q : ℕ) → owner (layout_of job (shape job a).domain) i ≡ Some q → q < job.ranks
          of_domain = ranked job valid (shape job a).domain sides.1.0

          apply : ((shape job a).sort ≡ Matrix) ⊎ ((shape job a).sort ≡ Split) → (b : Bool) → maker_of job k ≡ Made (step.Apply name a x y alpha beta b) → (shape job x).rows ≡ cond b (shape job a).rows (shape job a).domain → IsMade R F job files k l pick values before p
          apply (inl s) false e r = apply-made L F job files k l pick values before p name a x y alpha beta e v.0 v.2.0 s v.2.1 r (addend-fits y v.4) sides.1.1 of_domain sides.1.2
          apply (inl s) true e r = transposed-made L F job files k l pick values before p name a x y alpha beta e v.0 v.2.0 s v.2.1 r (addend-fits y v.4) sides.0.1 of_rows sides.0.2 sides.1.1
          apply (inr s) false e r = split-apply-made L F job files k l pick values before p name a x y alpha beta e v.0 v.2.0 s v.2.1 r (addend-fits y v.4) sides.1.1 of_domain sides.1.2 sides.0.1
          apply (inr s) true e r = split-transposed-made L F job files k l pick values before p name a x y alpha beta e v.0 v.2.0 s v.2.1 r (addend-fits y v.4) sides.0.1 of_rows sides.0.2 sides.1.1
      by (Made (step.Transpose name a)) e v g =
          let w = maps a k l v.0 (ap is_dense v.1) in
          transpose-made L F job files k l pick values before p name a e v.0 v.1 w.0.1 (ranked job valid (shape job a).rows w.0.0) w.0.2 w.1.1
      by (Made (step.Multiply name a b)) e v g =
          let w = (maps a k l v.0.0 (ap is_dense v.0.1)).1 in
          multiply-made L F job files k l pick values before p name a b e v.0.0 v.1.0 v.0.1 v.1.1 v.2 w.1 (ranked job valid (shape job a).domain w.0) w.2
      by (Made (step.Add name a b alpha beta)) e v g =
          let w = (maps b k l v.1.0 (ap is_dense v.1.1)).0 in
          sum-made L F job files k l pick values before p name a b alpha beta e v.0.0 v.1.0 v.0.1 v.1.1 w.1 (ranked job valid (shape job b).rows w.0) w.2
      by (Made (step.Assemble name source onto mode)) e v g =
          assemble-made L F job files k l pick values before p name source onto mode e v.0.0 v.0.1 (maps source k l v.0.0 (ap is_dense v.0.1)).0.1 (base-fits source onto v.1)
      by (Made (step.Print value)) e v g = absurd v

  made : (k : ℕ) → k < value_count job → IsMadeByRanks R F job files k
  made k l pick values before p m = made-any k l pick values before p

  pub row-laws : HasRowLaws R F job files
  row-laws = record { formed = formed-value R F job files valid fit; widths = widths; owners = owners; owned = owned; made = made }

-- numbers that are all one meet every law
pub one_laws : IsSemiring one_semiring
one_laws = record {
  plus_comm = λ a b. refl;
  plus_assoc = λ a b c. refl;
  plus_nought = λ a. refl;
  times_comm = λ a b. refl;
  times_assoc = λ a b c. refl;
  times_one = λ a. refl;
  times_nought = λ a. refl;
  times_plus = λ a b c. refl;
  top_comm = λ a b. refl;
  top_assoc = λ a b c. refl;
  top_nought = refl;
}

-- ---- jobs with files that fit

pub fitting : (job : Job) (files : List File) → IsFitting job files → MatricesFit job files
fitting job files fit k spec l e = record { places = places; square = λ m. sym f.rows_are ∙ f.sound.square m ∙ f.cols_are }
  where
    one : 0 < file_count (maker_of job k)
    one = subst (λ m. 0 < file_count m) (sym e) (omega arith)

    f : IsExpected (expected_file job (GivenMatrix spec) 0) (value_file job files k 0)
    f = subst (λ m. IsExpected (expected_file job m 0) (value_file job files k 0)) e (fit.each k 0 l one)

    places : All (λ line. (line.row < size_of job spec.rows) × (line.col < size_of job spec.domain)) (value_file job files k 0).lines
    places = subst (λ s. All (λ line. (line.row < s) × (line.col < size_of job spec.domain)) (value_file job files k 0).lines) f.rows_are
        (subst (λ s. All (λ line. (line.row < (value_file job files k 0).rows) × (line.col < s)) (value_file job files k 0).lines) f.cols_are f.sound.places)

pub row_laws : {S : Type 0} {R : Semiring S} {F : Conversions S} → IsSemiring R → RowLaws R F
row_laws {F = F} L = λ job files valid fit. row-laws L F job files valid (fitting job files fit)

pub machine_is_eval : {S : Type 0} {R : Semiring S} {F : Conversions S} → IsSemiring R → AreConversions F → MachineIsEval R F
machine_is_eval {F = F} L FL = λ job files valid fit g run complete v p l n. row_laws_suffice L FL job files valid.some (row_laws L job files valid fit) g run complete v p l n
