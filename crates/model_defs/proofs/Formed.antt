-- Each value of a valid job has the cells of its shape.
use Rattle.std.proofs.Common.{◌≡◌, ℕ, suc, ◌<◌, ◌⊎◌, inl, inr, Bool, true, false, cond, ◌&&◌, ◌||◌, ltb, List, [], ◌∷◌, map, Option, Some, None, refl, sym, ap, ap₂, ◌∙◌, subst, arith}
use Rattle.std.specs.Prelude.{is_some, ◌≢◌}
use Rattle.std.proofs.lemmas.Bool.{lt-ltb}
use Rattle.std.specs.List.{list_all, All}
use Rattle.std.specs.Option.{unwrap_or}
use Rattle.scalar_laws.specs.Semiring.{Semiring}
use Rattle.scalar_laws.specs.Conversions.{Conversions}
use Rattle.tables.specs.Tables.{Table, only_rows}
use Rattle.tables.specs.Indices.{count_from, each_rank, dealt}
use Rattle.map_core.specs.Layouts.{IsTotal}
use Rattle.mm_text.specs.declared.file_data.Line.{Line}
use Rattle.mm_text.specs.declared.file_data.Mirror.TheVariants.{Plain}
use Rattle.mm_text.specs.Reading.{File}
use Rattle.combine_modes.specs.declared.mode.Mode.{Mode}
use Rattle.combine_modes.specs.declared.mode.Mode.TheVariants.{Insert, Replace, Add, AbsMax, Zero}
use Rattle.combine_modes.specs.Modes.{combine, after_one, there, combined}
use Rattle.model_defs.specs.Operations.{product, times_there, transpose, turned, grown, completed, scaled, combination}
use Rattle.model_defs.specs.declared.job.Job.{Job}
use Rattle.model_defs.specs.declared.job.MatrixSpec.{MatrixSpec}
use Rattle.model_defs.specs.declared.job.Origin.{Origin}
use Rattle.model_defs.specs.declared.job.Origin.TheVariants.{Files, Fill}
use Rattle.model_defs.specs.Maps.{layout_of, has_index, is_mapped, size_of}
use Rattle.model_defs.specs.Makers.{Maker, GivenVector, GivenParts, GivenMatrix, Made, maker_of, value_count}
use Rattle.model_defs.specs.Shapes.{Shape, shape, shape_by, moved_shape, dense_shape, Sort, Vector, Parts, Matrix, Split, is_dense, is_by_rank, is_split_sort}
use Rattle.model_defs.specs.Pieces.{Value}
use Rattle.model_defs.specs.Given.{value_file, given, given_matrix, given_vector, given_part}
use Rattle.model_defs.specs.FileMatrix.{number_of}
use Rattle.model_defs.specs.Eval.{addend, assembled, onto_or_nowhere, make_value}
use Rattle.model_defs.specs.Valid.{IsValid, IsValidMaker, IsAddend, IsBase}
use Rattle.model_defs.specs.Laws.{IsFormed, has_cells, IsFormedValue}
use Rattle.model_defs.proofs.Filters.{both, and}
use Rattle.model_defs.proofs.Structures.{map-some, both-some, cond-some, some-cond, file-some}
use Rattle.model_defs.proofs.MatrixRows.{is_within, cells-within, all-dealt}
use Rattle.model_defs.proofs.SummedRows.{below-there}
use Rattle.model_defs.proofs.KnownShapes.{shape-of-made}
use Rattle.model_defs.specs.declared.job.Step.TheVariants as step

-- ---- fixed cells stay

combine-kept : {S : Type 0} (R : Semiring S) (mode : Mode) (o : Option S) (ss : List S) (x : S) → is_some (combine R mode true o ss x) ≡ is_some o
combine-kept R mode o [] x = refl
combine-kept R mode None (s ∷ ss) x = refl
combine-kept R Insert (Some o) (s ∷ ss) x = refl
combine-kept R Replace (Some o) (s ∷ ss) x = refl
combine-kept R Add (Some o) (s ∷ ss) x = refl
combine-kept R AbsMax (Some o) (s ∷ ss) x = refl
combine-kept R Zero (Some o) (s ∷ ss) x = refl

pub fixed-low : {S : Type 0} (R : Semiring S) (mode : Mode) (fixed : Bool) (P : ℕ) (old : Table S) (brought : ℕ → Table S) (pick : ℕ → ℕ → ℕ) (i j : ℕ) → fixed ≡ true
    → is_some (combined R mode fixed P old brought pick i j) ≡ true → is_some (old i j) ≡ true
fixed-low R mode fixed P old brought pick i j e h =
    sym (ap (λ b. is_some (combined R mode b P old brought pick i j)) e
    ∙ combine-kept R mode (old i j) (there (each_rank P (λ p. brought p i j))) (unwrap_or (brought (pick i j) i j) R.nought)) ∙ h

after-kept : {S : Type 0} (R : Semiring S) (mode : Mode) (o v : Option S) → is_some (after_one R mode true o v) ≡ is_some o
after-kept R mode o None = refl
after-kept R mode o (Some v) = combine-kept R mode o (v ∷ []) v

-- ---- what is there was there

pub either : (a b : Bool) → a || b ≡ true → (a ≡ true) ⊎ (b ≡ true)
either true b e = inl refl
either false b e = inr e

-- of each factor of a product
pub factors-there : {S : Type 0} (R : Semiring S) (n : ℕ) (a b : Table S) (i j : ℕ) → is_some (product R n a b i j) ≡ true → (c : ℕ) × (is_some (a i c) ≡ true) × (is_some (b c j) ≡ true)
factors-there R n a b i j e = let t = below-there R.plus n (λ c. times_there R (a i c) (b c j)) e in let u = sides (a i t.0) (b t.0 j) t.2 in (t.0, u.0, u.1)
  where
    sides : (u v : Option _) → is_some (times_there R u v) ≡ true → (is_some u ≡ true) × (is_some v ≡ true)
    sides None v h = absurd (let bad : ⊥ = cc in bad)
    sides (Some s) None h = absurd (let bad : ⊥ = cc in bad)
    sides (Some s) (Some w) h = (refl, refl)

came-there : {S : Type 0} (f : ℕ → Option S) (xs : List ℕ) → (there (map f xs) ≡ []) ⊎ ((q : ℕ) × (is_some (f q) ≡ true))
came-there f [] = inl refl
came-there f (x ∷ xs) = by (f x) refl (came-there f xs)
  where
    by : (o : Option _) → f x ≡ o → (there (map f xs) ≡ []) ⊎ ((q : ℕ) × (is_some (f q) ≡ true)) → (there (o ∷ map f xs) ≡ []) ⊎ ((q : ℕ) × (is_some (f q) ≡ true))
    by None e rest = rest
    by (Some v) e rest = inr (x, ap is_some e)

-- a combined place was there before, or comes from a rank
combined-there : {S : Type 0} (R : Semiring S) (mode : Mode) (fixed : Bool) (P : ℕ) (old : Table S) (brought : ℕ → Table S) (pick : ℕ → ℕ → ℕ) (i j : ℕ) → is_some (combined R mode fixed P old brought pick i j) ≡ true
    → (is_some (old i j) ≡ true) ⊎ ((q : ℕ) × (is_some (brought q i j) ≡ true))
combined-there R mode fixed P old brought pick i j e = by (came-there (λ q. brought q i j) (count_from 0 P))
  where
    by : (there (map (λ q. brought q i j) (count_from 0 P)) ≡ []) ⊎ ((q : ℕ) × (is_some (brought q i j) ≡ true)) → (is_some (old i j) ≡ true) ⊎ ((q : ℕ) × (is_some (brought q i j) ≡ true))
    by (inl h) = inl (sym (ap (λ ss. is_some (combine R mode fixed (old i j) ss (unwrap_or (brought (pick i j) i j) R.nought))) h) ∙ e)
    by (inr h) = inr h

-- ---- files

pub all-within : (rows cols : ℕ) (ls : List Line) → All (λ line. (line.row < rows) × (line.col < cols)) ls → list_all (is_within rows cols) ls ≡ true
all-within rows cols [] h = refl
all-within rows cols (l ∷ ls) h = and (is_within rows cols l) _ (and (ltb l.row rows) (ltb l.col cols) (lt-ltb l.row rows (h 0 l (omega arith)).0) (lt-ltb l.col cols (h 0 l (omega arith)).1)) (all-within rows cols ls (λ n d m. h (suc n) d (omega arith)))

-- a file whose lines lie within these sizes, which are equal where lines are mirrored
pub record AreLinesWithin (rows cols : ℕ) (file : File) : Type 0 where
  pub places : All (λ line. (line.row < rows) × (line.col < cols)) file.lines
  pub square : file.mirror ≢ Plain → rows ≡ cols

abbrev pub MatricesFit : Job → List File → Type 0
MatricesFit job files = (k : ℕ) (spec : MatrixSpec) → k < value_count job → maker_of job k ≡ GivenMatrix spec → AreLinesWithin (size_of job spec.rows) (size_of job spec.domain) (value_file job files k 0)

-- ---- formed values

module _ {S : Type 0} (job : Job) where
  formed-vector : (s : Shape) (v : Value S) → s.sort ≡ Vector → ((p i j : ℕ) → is_some (v p i j) ≡ (is_mapped job s.rows i && ltb j s.columns)) → ((p : ℕ) → v p ≡ v 0) → IsFormed job s v
  formed-vector s v e cells same = record {
    dense = λ d p i j. cells p i j ∙ sym (ap (λ sort. has_cells job s sort p i && ltb j s.columns) e);
    within = λ d p i j. let t = ap is_dense e in absurd (let bad : ⊥ = cc in bad);
    whole = λ w. same;
  }

  formed-parts : (s : Shape) (v : Value S) → s.sort ≡ Parts → ((p i j : ℕ) → is_some (v p i j) ≡ (has_index job s.rows p i && ltb j s.columns)) → IsFormed job s v
  formed-parts s v e cells = record {
    dense = λ d p i j. cells p i j ∙ sym (ap (λ sort. has_cells job s sort p i && ltb j s.columns) e);
    within = λ d p i j. let t = ap is_dense e in absurd (let bad : ⊥ = cc in bad);
    whole = λ w. let t = ap is_by_rank e in absurd (let bad : ⊥ = cc in bad);
  }

  formed-matrix : (s : Shape) (v : Value S) → is_dense s.sort ≡ false → ((p i j : ℕ) → is_some (v p i j) ≡ true → (i < size_of job s.rows) × (j < size_of job s.domain)) → (is_by_rank s.sort ≡ false → (p : ℕ) → v p ≡ v 0) → IsFormed job s v
  formed-matrix s v e places same = record {
    dense = λ d p i j. absurd (let bad : ⊥ = cc in bad);
    within = λ d. places;
    whole = same;
  }

  -- with the cells of another value
  formed-same : (s : Shape) (v w : Value S) → IsFormed job s v → ((p i j : ℕ) → is_some (w p i j) ≡ is_some (v p i j)) → (is_by_rank s.sort ≡ false → (p : ℕ) → w p ≡ w 0) → IsFormed job s w
  formed-same s v w h cells same = record {
    dense = λ d p i j. cells p i j ∙ h.dense d p i j;
    within = λ d p i j e. h.within d p i j (sym (cells p i j) ∙ e);
    whole = same;
  }

or-self : (a b : Bool) → b ≡ a → (a || b) ≡ a
or-self true b e = refl
or-self false b e = e

module _ {S : Type 0} (R : Semiring S) (F : Conversions S) (job : Job) (files : List File) (valid : IsValid job) (fit : MatricesFit job files) where
  -- the lines of a matrix are within its sizes, and so are those of each part
  pub file-within : (k : ℕ) (spec : MatrixSpec) → k < value_count job → maker_of job k ≡ GivenMatrix spec → (b : Bool) (p i j : ℕ) → is_some (given_matrix R F job files k b p i j) ≡ true → (i < size_of job spec.rows) × (j < size_of job spec.domain)
  file-within k spec l e true p i j h =
      let f = fit k spec l e in
      cells-within (size_of job spec.rows) (size_of job spec.domain) (value_file job files k 0).mirror f.square i j (dealt job.ranks p (value_file job files k 0).lines)
      (all-dealt (is_within (size_of job spec.rows) (size_of job spec.domain)) 0 job.ranks p (value_file job files k 0).lines (all-within (size_of job spec.rows) (size_of job spec.domain) (value_file job files k 0).lines f.places))
      (sym (file-some R F (value_file job files k 0).mirror (dealt job.ranks p (value_file job files k 0).lines) i j) ∙ h)
  file-within k spec l e false p i j h =
      let f = fit k spec l e in
      cells-within (size_of job spec.rows) (size_of job spec.domain) (value_file job files k 0).mirror f.square i j (value_file job files k 0).lines
      (all-within (size_of job spec.rows) (size_of job spec.domain) (value_file job files k 0).lines f.places)
      (sym (file-some R F (value_file job files k 0).mirror (value_file job files k 0).lines i j) ∙ h)

  pub formed-value : (k : ℕ) → k < value_count job → IsFormedValue R F job files k
  formed-value k l pick values before = by (maker_of job k) refl (valid.values k l) (shape-of-made job valid k l)
    where
      like : (v : ℕ) (w : Value S) → v < k → shape job k ≡ shape job v → ((p i j : ℕ) → is_some (w p i j) ≡ is_some (values v p i j)) → (is_by_rank (shape job v).sort ≡ false → (p : ℕ) → w p ≡ w 0) → IsFormed job (shape job k) w
      like v w m e cells same = subst (λ s. IsFormed job s w) (sym e) (formed-same job (shape job v) (values v) w (before.formed v m) cells same)

      whole : (v : ℕ) → v < k → is_by_rank (shape job v).sort ≡ false → (p : ℕ) → values v p ≡ values v 0
      whole v m e p = (before.formed v m).whole e p

      -- a place of a matrix
      inside : (v : ℕ) → v < k → is_dense (shape job v).sort ≡ false → (p i j : ℕ) → is_some (values v p i j) ≡ true → (i < size_of job (shape job v).rows) × (j < size_of job (shape job v).domain)
      inside v m d p i j e = (before.formed v m).within d p i j e

      to : (s : Shape) (w : Value S) → shape job k ≡ s → IsFormed job s w → IsFormed job (shape job k) w
      to s w e h = subst (λ s. IsFormed job s w) (sym e) h

      by : (m : Maker) → maker_of job k ≡ m → IsValidMaker job k m → shape job k ≡ shape_by k (shape job) m → IsFormed job (shape job k) (make_value R F job files pick k values m)
      by (GivenVector spec) g v e = to (dense_shape k Vector spec.map spec.columns) (given R F job files k (GivenVector spec)) e (formed-vector job (dense_shape k Vector spec.map spec.columns) (given R F job files k (GivenVector spec)) refl (cells spec.from) (λ p. refl))
        where
          cells : (o : Origin) (p i j : ℕ) → is_some (given_vector R F job files k spec o i j) ≡ (is_mapped job spec.map i && ltb j spec.columns)
          cells (Fill v) p i j = some-cond (is_mapped job spec.map i && ltb j spec.columns) _
          cells (Files texts) p i j = some-cond (is_mapped job spec.map i && ltb j spec.columns) _
      by (GivenParts spec) g v e = to (dense_shape k Parts spec.map spec.columns) (given R F job files k (GivenParts spec)) e (formed-parts job (dense_shape k Parts spec.map spec.columns) (given R F job files k (GivenParts spec)) refl (cells spec.from))
        where
          cells : (o : Origin) (p i j : ℕ) → is_some (given_part R F job files k spec o p i j) ≡ (has_index job spec.map p i && ltb j spec.columns)
          cells (Fill v) p i j = some-cond (has_index job spec.map p i && ltb j spec.columns) _
          cells (Files texts) p i j = some-cond (has_index job spec.map p i && ltb j spec.columns) _
      by (GivenMatrix spec) g v e = to _ (given_matrix R F job files k spec.split) e (formed-matrix job (record { sort = cond spec.split Split Matrix; rows = spec.rows; domain = spec.domain; columns = 0; structure = k })
          (given_matrix R F job files k spec.split) (thin spec.split) (file-within k spec l g spec.split) (one spec.split))
        where
          thin : (b : Bool) → is_dense (cond b Split Matrix) ≡ false
          thin true = refl
          thin false = refl

          one : (b : Bool) → is_by_rank (cond b Split Matrix) ≡ false → (p : ℕ) → given_matrix R F job files k b p ≡ given_matrix R F job files k b 0
          one true f p = absurd (let bad : ⊥ = cc in bad)
          one false f p = refl
      by (Made (step.Move name source m)) g v e = to (moved_shape k (shape job source) m) (λ p. only_rows (is_mapped job m) (values source p)) e (moved v.1)
        where
          moved : ((shape job source).sort ≡ Vector) ⊎ (((shape job source).sort ≡ Matrix) × IsTotal (layout_of job m)) → IsFormed job (moved_shape k (shape job source) m) (λ p. only_rows (is_mapped job m) (values source p))
          moved (inl vector) = formed-vector job (moved_shape k (shape job source) m) (λ p. only_rows (is_mapped job m) (values source p)) vector cells (λ p. ap (only_rows (is_mapped job m)) (whole source v.0 (ap is_by_rank vector) p))
            where
              cells : (p i j : ℕ) → is_some (cond (is_mapped job m i) (values source p i j) None) ≡ (is_mapped job m i && ltb j (shape job source).columns)
              cells p i j = cond-some (is_mapped job m i) (values source p i j) ∙ covered (is_mapped job m i) refl
                where
                  covered : (b : Bool) → is_mapped job m i ≡ b → (b && is_some (values source p i j)) ≡ (b && ltb j (shape job source).columns)
                  covered false f = refl
                  covered true f = (before.formed source v.0).dense (ap is_dense vector) p i j ∙ ap (λ s. has_cells job (shape job source) s p i && ltb j (shape job source).columns) vector ∙ ap (λ b. b && ltb j (shape job source).columns) (v.4 vector i f)
          moved (inr s) = formed-matrix job (moved_shape k (shape job source) m) (λ p. only_rows (is_mapped job m) (values source p)) (ap is_dense s.0) places (λ w p. ap (only_rows (is_mapped job m)) (whole source v.0 w p))
            where
              places : (p i j : ℕ) → is_some (cond (is_mapped job m i) (values source p i j) None) ≡ true → (i < size_of job m) × (j < size_of job (shape job source).domain)
              places p i j h =
                  let t = inside source v.0 (ap is_dense s.0) p i j (both (is_mapped job m i) (is_some (values source p i j)) (sym (cond-some (is_mapped job m i) (values source p i j)) ∙ h)).1 in
                  (subst (λ n. i < n) v.2 t.0, t.1)
      by (Made (step.Import name source onto mode)) g v e =
          like onto (λ p i j. after_one R mode true (values onto p i j) (values source p i j)) v.1.0 e (λ p i j. after-kept R mode (values onto p i j) (values source p i j)) (λ w. let t = ap is_by_rank v.1.1 in absurd (let bad : ⊥ = cc in bad))
      by (Made (step.Export name source onto mode)) g v e =
          like onto (λ p. combined R mode true job.ranks (values onto p) (values source) (pick k)) v.1.0 e (λ p i j. combine-kept R mode (values onto p i j) _ _)
          (λ w p. ap (λ t. combined R mode true job.ranks t (values source) (pick k)) (whole onto v.1.0 w p))
      by (Made (step.Spread name source m)) g v e = to (record (shape job source) { sort = Parts; rows = m }) (λ p. completed R (has_index job m p) (shape job k).columns (values source p)) e
          (formed-parts job (record (shape job source) { sort = Parts; rows = m }) (λ p. completed R (has_index job m p) (shape job k).columns (values source p)) refl
          (λ p i j. some-cond (has_index job m p i && ltb j (shape job k).columns) _ ∙ ap (λ c. has_index job m p i && ltb j c) (ap (λ s. s.columns) e)))
      by (Made (step.Update name x y alpha beta)) g v e =
          like x (λ p. combination R (number_of R F alpha) (values x p) (number_of R F beta) (values y p)) v.0 e
          (λ p i j. both-some R.plus (scaled R (number_of R F alpha) (values x p) i j) (scaled R (number_of R F beta) (values y p) i j)
          ∙ ap₂ (λ a b. a || b) (map-some (R.times (number_of R F alpha)) (values x p i j)) (map-some (R.times (number_of R F beta)) (values y p i j))
          ∙ or-self (is_some (values x p i j)) (is_some (values y p i j)) (alike p i j))
          (λ w p. ap₂ (λ t u. combination R (number_of R F alpha) t (number_of R F beta) u) (whole x v.0 w p) (whole y v.1 (sym (ap is_by_rank v.2) ∙ w) p))
        where
          alike : (p i j : ℕ) → is_some (values y p i j) ≡ is_some (values x p i j)
          alike p i j =
              (before.formed y v.1).dense (sym (ap is_dense v.2) ∙ v.3) p i j
              ∙ (λ t. cells_by (sym v.2 t) (sym v.4 t) p i && ltb j (sym v.5 t))
              ∙ sym ((before.formed x v.0).dense v.3 p i j)
            where
              cells_by : Sort → ℕ → ℕ → ℕ → Bool
              cells_by sort rows p i = has_cells job (record (shape job y) { rows = rows }) sort p i
      by (Made (step.Scale name value alpha)) g v e =
          like value (λ p. scaled R (number_of R F alpha) (values value p)) v e (λ p i j. map-some (R.times (number_of R F alpha)) (values value p i j)) (λ w p. ap (scaled R (number_of R F alpha)) (whole value v w p))
      by (Made (step.Apply name a x y alpha beta transposed)) g v e =
          formed-vector job (shape job k) (λ p. grow p) (ap (λ s. s.sort) e ∙ v.2.1) (λ p i j. map-some _ (addend R F job files (shape job k) values y p i j) ∙ cells y v.4 p i j)
          (λ p. ap₂ grown_by (whole x v.2.0 (ap is_by_rank v.2.1) p) (same y v.4 p))
        where
          grown_by : Table S → Table S → Table S
          grown_by u w = grown R (number_of R F alpha) (product R (size_of job (shape job x).rows) (turned transposed (assembled R F job files (is_split_sort (shape job a).sort) (values a))) u) (number_of R F beta) w

          grow : Value S
          grow p = grown_by (values x p) (addend R F job files (shape job k) values y p)

          cells : (o : Option ℕ) → IsAddend job k o → (p i j : ℕ) → is_some (addend R F job files (shape job k) values o p i j) ≡ (is_mapped job (shape job k).rows i && ltb j (shape job k).columns)
          cells None h p i j = some-cond (is_mapped job (shape job k).rows i && ltb j (shape job k).columns) R.nought
          cells (Some o) h p i j =
              (before.formed o h.0.0).dense (ap is_dense h.0.1) p i j ∙ ap (λ s. has_cells job (shape job o) s p i && ltb j (shape job o).columns) h.0.1
              ∙ ap₂ (λ m c. is_mapped job m i && ltb j c) h.1 h.2

          same : (o : Option ℕ) → IsAddend job k o → (p : ℕ) → addend R F job files (shape job k) values o p ≡ addend R F job files (shape job k) values o 0
          same None h p = refl
          same (Some o) h p = whole o h.0.0 (ap is_by_rank h.0.1) p
      by (Made (step.Transpose name a)) g v e = to (shape_by k (shape job) (Made (step.Transpose name a))) (λ p. transpose (values a p)) e
          (formed-matrix job (shape_by k (shape job) (Made (step.Transpose name a))) (λ p. transpose (values a p)) (ap is_dense v.1)
          (λ p i j h. let t = inside a v.0 (ap is_dense v.1) p j i h in (t.1, t.0)) (λ w p. ap transpose (whole a v.0 w p)))
      by (Made (step.Multiply name a b)) g v e = to (shape_by k (shape job) (Made (step.Multiply name a b))) (λ p. product R (size_of job (shape job a).domain) (values a p) (values b p)) e
          (formed-matrix job (shape_by k (shape job) (Made (step.Multiply name a b))) (λ p. product R (size_of job (shape job a).domain) (values a p) (values b p)) (ap is_dense v.0.1)
          (λ p i j h. let t = factors-there R (size_of job (shape job a).domain) (values a p) (values b p) i j h in ((inside a v.0.0 (ap is_dense v.0.1) p i t.0 t.1).0, (inside b v.1.0 (ap is_dense v.1.1) p t.0 j t.2).1))
          (λ w p. ap₂ (product R (size_of job (shape job a).domain)) (whole a v.0.0 w p) (whole b v.1.0 (ap is_by_rank v.1.1) p)))
      by (Made (step.Add name a b alpha beta)) g v e = to (shape_by k (shape job) (Made (step.Add name a b alpha beta))) (λ p. combination R (number_of R F alpha) (values a p) (number_of R F beta) (values b p)) e
          (formed-matrix job (shape_by k (shape job) (Made (step.Add name a b alpha beta))) (λ p. combination R (number_of R F alpha) (values a p) (number_of R F beta) (values b p)) (ap is_dense v.0.1) places
          (λ w p. ap₂ (λ t u. combination R (number_of R F alpha) t (number_of R F beta) u) (whole a v.0.0 w p) (whole b v.1.0 (ap is_by_rank v.1.1) p)))
        where
          places : (p i j : ℕ) → is_some (combination R (number_of R F alpha) (values a p) (number_of R F beta) (values b p) i j) ≡ true → (i < size_of job (shape job a).rows) × (j < size_of job (shape job a).domain)
          places p i j h = by_side (either (is_some (values a p i j)) (is_some (values b p i j))
              (sym (both-some R.plus (scaled R (number_of R F alpha) (values a p) i j) (scaled R (number_of R F beta) (values b p) i j)
              ∙ ap₂ (λ a b. a || b) (map-some (R.times (number_of R F alpha)) (values a p i j)) (map-some (R.times (number_of R F beta)) (values b p i j))) ∙ h))
            where
              by_side : (is_some (values a p i j) ≡ true) ⊎ (is_some (values b p i j) ≡ true) → (i < size_of job (shape job a).rows) × (j < size_of job (shape job a).domain)
              by_side (inl h) = inside a v.0.0 (ap is_dense v.0.1) p i j h
              by_side (inr h) = let t = inside b v.1.0 (ap is_dense v.1.1) p i j h in (subst (λ n. i < n) (sym v.2) t.0, subst (λ n. j < n) (sym v.3) t.1)
      by (Made (step.Assemble name source onto mode)) g v e = to (shape_by k (shape job) (Made (step.Assemble name source onto mode))) (λ p. combined R mode false job.ranks (onto_or_nowhere R F job files values onto p) (values source) (pick k)) e
          (formed-matrix job (shape_by k (shape job) (Made (step.Assemble name source onto mode))) (λ p. combined R mode false job.ranks (onto_or_nowhere R F job files values onto p) (values source) (pick k)) refl places
          (λ w p. ap (λ t. combined R mode false job.ranks t (values source) (pick k)) (same onto v.1 p)))
        where
          same : (o : Option ℕ) → IsBase job k source o → (p : ℕ) → onto_or_nowhere R F job files values o p ≡ onto_or_nowhere R F job files values o 0
          same None h p = refl
          same (Some o) h p = whole o h.0.0 (ap is_by_rank h.0.1) p

          old : (o : Option ℕ) → IsBase job k source o → (p i j : ℕ) → is_some (onto_or_nowhere R F job files values o p i j) ≡ true → (i < size_of job (shape job source).rows) × (j < size_of job (shape job source).domain)
          old None h p i j f = absurd (let bad : ⊥ = cc in bad)
          old (Some o) h p i j f = let t = inside o h.0.0 (ap is_dense h.0.1) p i j f in (subst (λ m. i < size_of job m) h.1 t.0, subst (λ m. j < size_of job m) h.2 t.1)

          places : (p i j : ℕ) → is_some (combined R mode false job.ranks (onto_or_nowhere R F job files values onto p) (values source) (pick k) i j) ≡ true → (i < size_of job (shape job source).rows) × (j < size_of job (shape job source).domain)
          places p i j h = by_side (combined-there R mode false job.ranks (onto_or_nowhere R F job files values onto p) (values source) (pick k) i j h)
            where
              by_side : (is_some (onto_or_nowhere R F job files values onto p i j) ≡ true) ⊎ ((q : ℕ) × (is_some (values source q i j) ≡ true)) → (i < size_of job (shape job source).rows) × (j < size_of job (shape job source).domain)
              by_side (inl f) = old onto v.1 p i j f
              by_side (inr f) = inside source v.0.0 (ap is_dense v.0.1) f.0 i j f.1
      by (Made (step.Print value)) g v e = absurd v
