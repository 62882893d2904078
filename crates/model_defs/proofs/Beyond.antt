-- Ranks beyond the last have nothing: no index, no place and no row for others.
use Rattle.std.proofs.Common.{◌≡◌, ℕ, zero, suc, ◌<◌, ◌≤◌, ◌+◌, ◌%◌, ◌⊎◌, inl, inr, Bool, true, false, cond, not, ◌&&◌, ◌||◌, eqb, ltb, List, [], ◌∷◌, length, get_or, refl, sym, ap, ◌∙◌, subst, arith}
use Rattle.std.specs.Prelude.{is_some, filter}
use Rattle.std.specs.List.{list_any, flat_map}
use Rattle.std.proofs.lemmas.Bool.{eq-eqb, eqb-true, cases_lt}
use Rattle.std.proofs.lemmas.Nat.{mod_below}
use Rattle.tables.specs.Tables.{names, nowhere}
use Rattle.tables.specs.Indices.{stands, count_from, dealt_from, dealt}
use Rattle.mm_text.specs.Reading.{File}
use Rattle.map_core.specs.Layouts.{IsTotal}
use Rattle.model_defs.specs.FileMatrix.{entry_cells}
use Rattle.model_defs.specs.declared.job.Job.{Job}
use Rattle.model_defs.specs.Maps.{no_map, map_at, size_of, layout_of, list_of, lists_of, has_index}
use Rattle.model_defs.specs.Makers.{Maker, GivenVector, GivenParts, GivenMatrix, Made, maker_of, value_count}
use Rattle.model_defs.specs.Turns.{Each, in_turn}
use Rattle.model_defs.specs.Shapes.{shape, shape_by, Sort, Vector, Parts, Matrix, Split, is_dense, is_by_rank, is_split_sort}
use Rattle.model_defs.specs.Given.{value_file, dealt_part}
use Rattle.model_defs.specs.Eval.{make_value}
use Rattle.model_defs.specs.Pieces.{piece_of, has_row}
use Rattle.model_defs.specs.Transfers.{Plan, ImportPlan, ExportPlan, ColumnPlan, RowPlan, owner_map, Way, FromOwners, ToOwners, Transfer}
use Rattle.model_defs.specs.Plans.{one_semiring, one_conversions, structure, structure_before, dealt_places, rank_list_by, owns, lacking, sent_by, sent_rows}
use Rattle.model_defs.specs.Valid.{IsValid, IsValidMaker, IsForm}
use Rattle.model_defs.specs.Laws.{HasRowLaws, has_cells}
use Rattle.model_defs.proofs.Structures.{map-some, cond-some, file-some}
use Rattle.model_defs.proofs.KnownShapes.{shape-of-made, lists-length}
use Rattle.model_defs.proofs.Whole.{are_before}
use Rattle.model_defs.proofs.SharedPlans.{structure-is, before-is}
use Rattle.model_defs.proofs.AllRows.{one_laws}
use Rattle.model_defs.specs.declared.job.Step.TheVariants as step

never : {A : Type 0} → true ≡ false → A
never e = absurd (let bad : ⊥ = cc in bad)

get-beyond : {A : Type 0} (xs : List A) (n : ℕ) (d : A) → length xs ≤ n → get_or xs n d ≡ d
get-beyond [] n d l = refl
get-beyond (x ∷ xs) zero d l = absurd (omega arith)
get-beyond (x ∷ xs) (suc n) d l = get-beyond xs n d (omega arith)

filter-nothing : {A : Type 0} (c : A → Bool) → ((x : A) → c x ≡ false) → (xs : List A) → filter c xs ≡ []
filter-nothing c h [] = refl
filter-nothing c h (x ∷ xs) = ap (λ b. cond b (x ∷ filter c xs) (filter c xs)) (h x) ∙ filter-nothing c h xs

any-nothing : {A : Type 0} (c : A → Bool) → ((x : A) → c x ≡ false) → (xs : List A) → list_any c xs ≡ false
any-nothing c h [] = refl
any-nothing c h (x ∷ xs) = ap (λ b. b || list_any c xs) (h x) ∙ any-nothing c h xs

dealt-beyond : {A : Type 0} (n P p : ℕ) → 0 < P → P ≤ p → (xs : List A) → dealt_from n P p xs ≡ []
dealt-beyond n P p some l [] = refl
dealt-beyond n P p some l (x ∷ xs) = ap (λ b. cond b (x ∷ dealt_from (n + 1) P p xs) (dealt_from (n + 1) P p xs)) (differ (eqb (n % P) p) refl) ∙ dealt-beyond (n + 1) P p some l xs
  where
    differ : (b : Bool) → eqb (n % P) p ≡ b → b ≡ false
    differ false e = refl
    differ true e = let low = mod_below n P some in let same = eqb-true (n % P) p e in absurd (omega (arith, low, same, l))

in_turn-beyond : {A : Type 0} (none : A) (rule : ℕ → Each A → A) (n v : ℕ) → n ≤ v → in_turn none rule n v ≡ none
in_turn-beyond none rule zero v l = refl
in_turn-beyond none rule (suc n) v l = ap (λ b. cond b (rule n (in_turn none rule n)) (in_turn none rule n v)) (differ (eqb v n) refl) ∙ in_turn-beyond none rule n v (omega arith)
  where
    differ : (b : Bool) → eqb v n ≡ b → b ≡ false
    differ false e = refl
    differ true e = let same = eqb-true v n e in absurd (omega (arith, same, l))

module _ (job : Job) (files : List File) (valid : IsValid job) (laws : HasRowLaws one_semiring one_conversions job files) (p : ℕ) (beyond : job.ranks ≤ p) where
  lists-are : (m : ℕ) → length (lists_of job.ranks (size_of job m) (map_at job m).form) ≡ job.ranks
  lists-are m = lists-length job.ranks (size_of job m) (map_at job m).form (form (cases_lt m (length job.maps)))
    where
      form : (m < length job.maps) ⊎ (length job.maps ≤ m) → IsForm job.ranks (size_of job m) (map_at job m).form
      form (inl l) = valid.forms m l
      form (inr l) = subst (λ s. IsForm job.ranks s.size s.form) (sym (get-beyond job.maps m no_map l)) tt

  no-list : (m : ℕ) → list_of job m p ≡ []
  no-list m = get-beyond (layout_of job m).lists p [] (let e = lists-are m in omega (arith, e, beyond))

  no-index : (m i : ℕ) → has_index job m p i ≡ false
  no-index m i = ap (stands i) (no-list m)

  no-dealt : (k i j : ℕ) → is_some (dealt_part one_semiring one_conversions job files k p i j) ≡ false
  no-dealt k i j =
      file-some one_semiring one_conversions (value_file job files k 0).mirror (dealt job.ranks p (value_file job files k 0).lines) i j
      ∙ ap (λ ls. list_any (names i j) (flat_map (entry_cells (value_file job files k 0).mirror) ls)) (dealt-beyond 0 job.ranks p valid.some beyond (value_file job files k 0).lines)

  -- ---- split matrices

  abbrev HasNoSplit : ℕ → Type 0
  HasNoSplit k = (shape job k).sort ≡ Split → (i j : ℕ) → is_some (structure job files k p i j) ≡ false

  next-split : (k : ℕ) → k < value_count job → ((v : ℕ) → v < k → HasNoSplit v) → HasNoSplit k
  next-split k l rest s i j = by (maker_of job k) refl (valid.values k l) (shape-of-made job valid k l)
    where
      other : (sort : Sort) → (shape job k).sort ≡ sort → is_split_sort sort ≡ false → is_some (structure job files k p i j) ≡ false
      other sort e f = never (ap is_split_sort (sym s ∙ e) ∙ f)

      made : (m : Maker) → maker_of job k ≡ m → is_some (structure job files k p i j) ≡ is_some (make_value one_semiring one_conversions job files (λ v i j. 0) k (structure_before job files k) m p i j)
      made m g = (λ t. is_some (structure-is job files valid laws k l t p i j)) ∙ (λ t. is_some (make_value one_semiring one_conversions job files (λ v i j. 0) k (structure_before job files k) (g t) p i j))

      by : (m : Maker) → maker_of job k ≡ m → IsValidMaker job k m → shape job k ≡ shape_by k (shape job) m → is_some (structure job files k p i j) ≡ false
      by (GivenVector spec) g v e = other Vector (ap (λ s. s.sort) e) refl
      by (GivenParts spec) g v e = other Parts (ap (λ s. s.sort) e) refl
      by (GivenMatrix spec) g v e = given spec.split refl
        where
          given : (b : Bool) → spec.split ≡ b → is_some (structure job files k p i j) ≡ false
          given true f = made (GivenMatrix (record spec { split = true })) (g ∙ (λ t. GivenMatrix (record spec { split = f t }))) ∙ no-dealt k i j
          given false f = other Matrix (ap (λ s. s.sort) e ∙ ap (λ b. cond b Split Matrix) f) refl
      by (Made (step.Move name source m)) g v e = moved v.1
        where
          moved : ((shape job source).sort ≡ Vector) ⊎ (((shape job source).sort ≡ Matrix) × IsTotal (layout_of job m)) → is_some (structure job files k p i j) ≡ false
          moved (inl f) = other Vector (ap (λ s. s.sort) e ∙ f) refl
          moved (inr f) = other Matrix (ap (λ s. s.sort) e ∙ f.0) refl
      by (Made (step.Import name source onto mode)) g v e = other Parts (ap (λ s. s.sort) e ∙ v.1.1) refl
      by (Made (step.Export name source onto mode)) g v e = other Vector (ap (λ s. s.sort) e ∙ v.1.1) refl
      by (Made (step.Spread name source m)) g v e = other Parts (ap (λ s. s.sort) e) refl
      by (Made (step.Update name x y alpha beta)) g v e = other (shape job x).sort (ap (λ s. s.sort) e) (dense (shape job x).sort v.3)
        where
          dense : (t : Sort) → is_dense t ≡ true → is_split_sort t ≡ false
          dense Vector f = refl
          dense Parts f = refl
          dense Matrix f = cc
          dense Split f = cc
      by (Made (step.Scale name value alpha)) g v e =
          made (Made (step.Scale name value alpha)) g ∙ map-some _ (structure_before job files k value p i j)
          ∙ (λ t. is_some (before-is job files valid laws k value (omega arith) v t p i j)) ∙ rest value v (sym (ap (λ s. s.sort) e) ∙ s) i j
      by (Made (step.Apply name a x y alpha beta transposed)) g v e = other Vector (ap (λ s. s.sort) e ∙ v.2.1) refl
      by (Made (step.Transpose name a)) g v e = other Matrix (ap (λ s. s.sort) e ∙ v.1) refl
      by (Made (step.Multiply name a b)) g v e = other Matrix (ap (λ s. s.sort) e ∙ v.0.1) refl
      by (Made (step.Add name a b alpha beta)) g v e = other Matrix (ap (λ s. s.sort) e ∙ v.0.1) refl
      by (Made (step.Assemble name source onto mode)) g v e = other Matrix (ap (λ s. s.sort) e) refl
      by (Made (step.Print value)) g v e = absurd v

  below-split : (n : ℕ) → n ≤ value_count job → (k : ℕ) → k < n → HasNoSplit k
  below-split zero l k m = absurd (omega arith)
  below-split (suc n) l k m = go (eqb k n) refl (below-split n (omega arith))
    where
      go : (b : Bool) → eqb k n ≡ b → ((v : ℕ) → v < n → HasNoSplit v) → HasNoSplit k
      go true e rest = next-split k (omega arith) (λ v m. let same = eqb-true k n e in rest v (omega arith))
      go false e rest = rest k (smaller (cases_lt k n))
        where
          smaller : (k < n) ⊎ (n ≤ k) → k < n
          smaller (inl a) = a
          smaller (inr a) = let same : k ≡ n = omega arith in let t = eq-eqb k n same in absurd (let bad : ⊥ = cc in bad)

  no-value : (v : ℕ) → value_count job ≤ v → structure job files v ≡ (λ p. nowhere)
  no-value v l = in_turn-beyond (λ p. nowhere) (λ k before. make_value one_semiring one_conversions job files (λ v i j. 0) k before (maker_of job k)) (value_count job) v l

  no-split : (v : ℕ) → HasNoSplit v
  no-split v s i j = by (cases_lt v (value_count job))
    where
      by : (v < value_count job) ⊎ (value_count job ≤ v) → is_some (structure job files v p i j) ≡ false
      by (inl l) = below-split (value_count job) (omega arith) v l s i j
      by (inr l) = λ t. is_some (no-value v l t p i j)

  no-piece : (v i j : ℕ) → is_some (piece_of job (shape job v) p (structure job files v) i j) ≡ false
  no-piece v i j = cond-some (has_row job (shape job v) p i) (structure job files v p i j) ∙ by (shape job v).sort refl
    where
      gone : (b : Bool) → b && false ≡ false
      gone true = refl
      gone false = refl

      parts : (shape job v).sort ≡ Parts → (v < value_count job) ⊎ (value_count job ≤ v) → is_some (structure job files v p i j) ≡ false
      parts e (inl l) =
          ((are_before one_laws one_conversions job files laws (λ v i j. 0) (value_count job) (omega arith)).formed v l).dense (ap is_dense e) p i j
          ∙ ap (λ s. has_cells job (shape job v) s p i && ltb j (shape job v).columns) e ∙ ap (λ b. b && ltb j (shape job v).columns) (no-index (shape job v).rows i)
      parts e (inr l) = λ t. is_some (no-value v l t p i j)

      by : (s : Sort) → (shape job v).sort ≡ s → (has_row job (shape job v) p i && is_some (structure job files v p i j)) ≡ false
      by Vector e = (λ t. (is_by_rank (e t) || no-index (shape job v).rows i t) && is_some (structure job files v p i j))
      by Matrix e = (λ t. (is_by_rank (e t) || no-index (shape job v).rows i t) && is_some (structure job files v p i j))
      by Parts e = ap (λ b. has_row job (shape job v) p i && b) (parts e (cases_lt v (value_count job))) ∙ gone (has_row job (shape job v) p i)
      by Split e = ap (λ b. has_row job (shape job v) p i && b) (no-split v e i j) ∙ gone (has_row job (shape job v) p i)

  -- ---- plans

  no-plan-list : (plan : Plan) → rank_list_by job files plan p ≡ []
  no-plan-list (ImportPlan source target) = no-list target
  no-plan-list (ExportPlan source target) = no-list source
  no-plan-list (ColumnPlan v) = filter-nothing _ (λ j. any-nothing (λ i. is_some (piece_of job (shape job v) p (structure job files v) i j)) (λ i. no-piece v i j) (count_from 0 (size_of job (shape job v).rows))) (count_from 0 (size_of job (shape job v).domain))
  no-plan-list (RowPlan v) = filter-nothing _ (λ i. any-nothing (λ j. is_some (dealt_places job files (is_split_sort (shape job v).sort) v p i j)) (λ j. places (shape job v).sort refl i j) (count_from 0 (size_of job (shape job v).domain))) (count_from 0 (size_of job (shape job v).rows))
    where
      places : (s : Sort) → (shape job v).sort ≡ s → (i j : ℕ) → is_some (dealt_places job files (is_split_sort (shape job v).sort) v p i j) ≡ false
      places Vector e i j = (λ t. is_some (dealt_places job files (is_split_sort (e t)) v p i j)) ∙ no-dealt v i j
      places Parts e i j = (λ t. is_some (dealt_places job files (is_split_sort (e t)) v p i j)) ∙ no-dealt v i j
      places Matrix e i j = (λ t. is_some (dealt_places job files (is_split_sort (e t)) v p i j)) ∙ no-dealt v i j
      places Split e i j = (λ t. is_some (dealt_places job files (is_split_sort (e t)) v p i j)) ∙ no-split v e i j

  not-owner : (plan : Plan) (i : ℕ) → owns job files plan p i ≡ false
  not-owner plan i = no-index (owner_map job plan) i

  no-lack : (plan : Plan) → lacking job files plan p ≡ []
  no-lack plan = ap (filter (λ g. not (owns job files plan p g))) (no-plan-list plan)

  -- nothing goes from it, and nothing to it
  pub sends-nothing : (t : Transfer) (q : ℕ) → sent_rows job files t p q ≡ []
  sends-nothing t q = by t.way
    where
      by : (way : Way) → sent_by job files way t.plan p q ≡ []
      by FromOwners = filter-nothing (owns job files t.plan p) (not-owner t.plan) (lacking job files t.plan q)
      by ToOwners = ap (filter (owns job files t.plan q)) (no-lack t.plan)

  pub gets-nothing : (t : Transfer) (q : ℕ) → sent_rows job files t q p ≡ []
  gets-nothing t q = by t.way
    where
      by : (way : Way) → sent_by job files way t.plan q p ≡ []
      by FromOwners = ap (filter (owns job files t.plan q)) (no-lack t.plan)
      by ToOwners = filter-nothing (owns job files t.plan p) (not-owner t.plan) (lacking job files t.plan q)

  pub keeps-nothing : (t : Transfer) (i : ℕ) → (stands i (rank_list_by job files t.plan p) && owns job files t.plan p i) ≡ false
  keeps-nothing t i = (λ s. stands i (no-plan-list t.plan s) && owns job files t.plan p i)

-- no rank sends to itself
pub sends-self-nothing : (job : Job) (files : List File) (t : Transfer) (p : ℕ) → sent_rows job files t p p ≡ []
sends-self-nothing job files t p = by t.way
  where
    none : (c : ℕ → Bool) (xs : List ℕ) → filter c (filter (λ g. not (c g)) xs) ≡ []
    none c [] = refl
    none c (x ∷ xs) = go (c x) refl (none c xs)
      where
        go : (b : Bool) → c x ≡ b → filter c (filter (λ g. not (c g)) xs) ≡ [] → filter c (cond (not b) (x ∷ filter (λ g. not (c g)) xs) (filter (λ g. not (c g)) xs)) ≡ []
        go true e rest = rest
        go false e rest = ap (λ b. cond b (x ∷ filter c (filter (λ g. not (c g)) xs)) (filter c (filter (λ g. not (c g)) xs))) e ∙ rest

    by : (way : Way) → sent_by job files way t.plan p p ≡ []
    by FromOwners = none (owns job files t.plan p) (rank_list_by job files t.plan p)
    by ToOwners = none (owns job files t.plan p) (rank_list_by job files t.plan p)
