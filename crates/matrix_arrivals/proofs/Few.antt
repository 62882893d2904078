-- How many rows are sent, and how many words they are.
use Rattle.std.proofs.Common.{◌≡◌, ℕ, zero, suc, ◌+◌, ◌*◌, ◌<◌, ◌≤◌, ◌^◌, Bool, true, false, cond, not, ◌||◌, eqb, leb, ltb, List, [], ◌∷◌, filter, length, get_or, inl, inr, refl, sym, ap, subst, ◌∙◌, arith, ltb-true, length-append}
use Rattle.std.specs.List.{concat, flat_map}
use Rattle.std.specs.Prelude.{is_some}
use Rattle.std.proofs.lemmas.Bool.{cases_lt, eq-eqb, ne_eqb}
use Rattle.std.proofs.lemmas.List.{get_or_past}
use Rattle.tables.specs.Indices.{AreDistinct, count_from, stands}
use Rattle.tables.specs.Tables.{Table}
use Rattle.tables.proofs.Counting.{stands-count_from}
use Rattle.map_core.proofs.Members.{AreDistinct-filter, and_true, stands-filter}
use Rattle.letter_codec.specs.declared.kind.Kind.{Kind}
use Rattle.letter_codec.specs.declared.kind.Kind.TheVariants.{Nums, Rows}
use Rattle.matrix_moves.proofs.Read.{distinct-count}
use Rattle.mm_text.specs.Reading.{File}
use Rattle.model_defs.specs.declared.job.Job.{Job}
use Rattle.model_defs.specs.declared.job.MapForm.{MapForm}
use Rattle.model_defs.specs.declared.job.MapForm.TheVariants.{Uniform, Blocks, Cyclic, Lists}
use Rattle.model_defs.specs.declared.phase.Plan.{Plan}
use Rattle.model_defs.specs.declared.phase.Plan.TheVariants.{ImportPlan, ExportPlan, ColumnPlan, RowPlan}
use Rattle.model_defs.specs.declared.phase.Transfer.{Transfer}
use Rattle.model_defs.specs.declared.phase.Way.{Way}
use Rattle.model_defs.specs.declared.phase.Way.TheVariants.{FromOwners, ToOwners}
use Rattle.model_defs.specs.Letters.{entry_places, row_columns, row_words as words_of_row, width, words_of_rows}
use Rattle.model_defs.specs.Limits.{IsSmallForm, most_indices}
use Rattle.model_defs.specs.Makers.{value_count}
use Rattle.model_defs.specs.Maps.{list_of, lists_of, map_at, no_map, size_of}
use Rattle.model_defs.specs.Phases.{send_kind}
use Rattle.model_defs.specs.Plans.{lacking, owns, rank_list_by, remote, sent_by, sent_rows}
use Rattle.model_defs.specs.Shapes.{is_dense, shape}
use Rattle.model_defs.specs.Stages.{transfer_at}
use Rattle.model_defs.specs.Transfers.{owner_map}
use Rattle.model_defs.specs.Valid.{IsMatrixMap, IsValid}
use Rattle.model_defs.proofs.Bounds.{maps-are-layouts}
use Rattle.model_defs.proofs.Filters.{and, later}
use Rattle.model_defs.proofs.KnownShapes.{shapes-known}
use Rattle.rank_stages.proofs.ShortLists.{distinct-few}
use Rattle.matrix_arrivals.specs.Bounds.{MatricesAreNarrow, RowWordsAreFew, SentRowsAreFew}

-- ---- lists

filter-few : (p : ℕ → Bool) (xs : List ℕ) → length (filter p xs) ≤ length xs
filter-few p [] = omega arith
filter-few p (x ∷ xs) = by (p x) (filter-few p xs)
  where
    by : (b : Bool) → length (filter p xs) ≤ length xs → length (cond b (x ∷ filter p xs) (filter p xs)) ≤ suc (length xs)
    by true l = omega (arith, l)
    by false l = omega (arith, l)

-- without an index that stands in it a list is shorter
removed : (x : ℕ) (ys : List ℕ) → stands x ys ≡ true → suc (length (filter (λ y. not (eqb x y)) ys)) ≤ length ys
removed x [] h = absurd (let bad : ⊥ = cc in bad)
removed x (y ∷ ys) h = by (eqb x y) refl (removed x ys)
  where
    more : eqb x y ≡ false → stands x ys ≡ true
    more e = sym (ap (λ b. b || stands x ys) (ne_eqb y x (λ same. let on = eq-eqb x y (sym same) in let bad : ⊥ = cc in bad))) ∙ h

    by : (b : Bool) → eqb x y ≡ b → (stands x ys ≡ true → suc (length (filter (λ z. not (eqb x z)) ys)) ≤ length ys)
        → suc (length (cond (not b) (y ∷ filter (λ z. not (eqb x z)) ys) (filter (λ z. not (eqb x z)) ys))) ≤ suc (length ys)
    by true e rest = let l = filter-few (λ z. not (eqb x z)) ys in omega (arith, l)
    by false e rest = let l = rest (more e) in omega (arith, l)

-- distinct indices of a list are at most as many as it has
pub subset-few : (xs ys : List ℕ) → AreDistinct xs → ((g : ℕ) → stands g xs ≡ true → stands g ys ≡ true) → length xs ≤ length ys
subset-few [] ys d h = omega arith
subset-few (x ∷ xs) ys d h =
    let one = removed x ys (h x (ap (λ b. b || stands x xs) (eq-eqb x x refl))) in
    let rest = subset-few xs (filter (λ y. not (eqb x y)) ys) d.1 inner in
    omega (arith, one, rest)
  where
    inner : (g : ℕ) → stands g xs ≡ true → stands g (filter (λ y. not (eqb x y)) ys) ≡ true
    inner g e =
        stands-filter g (λ y. not (eqb x y)) ys
        ∙ and (stands g ys) (not (eqb x g)) (h g (later (eqb x g) (stands g xs) e))
        (ap not (ne_eqb x g (λ same. let both : true ≡ false = sym e ∙ ap (λ y. stands y xs) (sym same) ∙ d.0 in let bad : ⊥ = cc in bad)))

length-count : (a n : ℕ) → length (count_from a n) ≡ n
length-count a zero = refl
length-count a (suc n) = ap suc (length-count (a + 1) n)

part-few : (ls : List (List ℕ)) (p : ℕ) → length (get_or ls p []) ≤ length (concat ls)
part-few [] p = omega arith
part-few (l ∷ ls) zero = let both = length-append l (concat ls) in omega (arith, both)
part-few (l ∷ ls) (suc p) = let both = length-append l (concat ls) in let rest = part-few ls p in omega (arith, both, rest)

-- ---- maps

module _ (job : Job) (valid : IsValid job) where
  list-few : (m p : ℕ) → length (list_of job m p) ≤ most_indices
  list-few m p = elim (cases_lt m (length job.maps)) [
    | inl known ↦ by (map_at job m).form refl (valid.limits.forms m no_map known)
    | inr past ↦ let none : size_of job m ≡ 0 = ap (λ s. s.size) (get_or_past job.maps m no_map past) in let l = short in omega (arith, none, l)
  ]
    where
      short : length (list_of job m p) ≤ size_of job m
      short = distinct-few (size_of job m) (list_of job m p) ((maps-are-layouts job m valid).0.distinct p) ((maps-are-layouts job m valid).0.below p)

      by : (form : MapForm) → (map_at job m).form ≡ form → IsSmallForm (size_of job m) form → length (list_of job m p) ≤ most_indices
      by Uniform e h = let l = short in omega (arith, l, h)
      by (Blocks counts) e h = let l = short in omega (arith, l, h)
      by Cyclic e h = let l = short in omega (arith, l, h)
      by (Lists lists) e h =
          let same : length (list_of job m p) ≡ length (get_or lists p []) = ap (λ f. length (get_or (lists_of job.ranks (size_of job m) f) p [])) e in
          let l = part-few lists p in
          let few = h.1 in
          omega (arith, same, l, few)

  -- a map of a matrix has few indices
  map-few : (m : ℕ) → IsMatrixMap job m → size_of job m ≤ most_indices
  map-few m is = by (map_at job m).form refl (valid.limits.forms m no_map is.0)
    where
      by : (form : MapForm) → (map_at job m).form ≡ form → IsSmallForm (size_of job m) form → size_of job m ≤ most_indices
      by Uniform e h = omega (arith, h)
      by (Blocks counts) e h = omega (arith, h)
      by Cyclic e h = omega (arith, h)
      by (Lists lists) e h =
          let covered : size_of job m ≤ length (concat lists) = all-listed in
          let few = h.1 in
          omega (arith, covered, few)
        where
          all-listed : size_of job m ≤ length (concat lists)
          all-listed =
              let l = subset-few (count_from 0 (size_of job m)) (concat lists) (distinct-count 0 (size_of job m))
              (λ g s. ap (λ f. stands g (concat (lists_of job.ranks (size_of job m) f))) (sym e) ∙ is.2 g (low g s)) in
              let size = length-count 0 (size_of job m) in
              omega (arith, l, size)
            where
              low : (g : ℕ) → stands g (count_from 0 (size_of job m)) ≡ true → g < size_of job m
              low g s =
                  let both = and_true (leb 0 g) (ltb g (0 + size_of job m)) (sym (stands-count_from 0 (size_of job m) g) ∙ s) in
                  let l = ltb-true g (0 + size_of job m) both.1 in
                  omega (arith, l)

  module _ (files : List File) where
    remote-few : (plan : Plan) (p q : ℕ) → AreDistinct (rank_list_by job files plan p) → length (remote job files plan p q) ≤ most_indices
    remote-few plan p q d =
        let l = subset-few (remote job files plan p q) (list_of job (owner_map job plan) q)
        (AreDistinct-filter (owns job files plan q) (lacking job files plan p) (AreDistinct-filter (λ g. not (owns job files plan p g)) (rank_list_by job files plan p) d))
        (λ g e. (and_true (stands g (lacking job files plan p)) (owns job files plan q g) (sym (stands-filter g (owns job files plan q) (lacking job files plan p)) ∙ e)).1) in
        let few = list-few (owner_map job plan) q in
        omega (arith, l, few)

    -- the list of a rank by a plan has no index twice
    pub list-distinct : (plan : Plan) (p : ℕ) → AreDistinct (rank_list_by job files plan p)
    list-distinct (ImportPlan source target) p = (maps-are-layouts job target valid).0.distinct p
    list-distinct (ExportPlan source target) p = (maps-are-layouts job source valid).0.distinct p
    list-distinct (ColumnPlan v) p = AreDistinct-filter _ (count_from 0 (size_of job (shape job v).domain)) (distinct-count 0 (size_of job (shape job v).domain))
    list-distinct (RowPlan v) p = AreDistinct-filter _ (count_from 0 (size_of job (shape job v).rows)) (distinct-count 0 (size_of job (shape job v).rows))

    pub sent-few : (t : Transfer) (p q : ℕ) → length (sent_rows job files t p q) ≤ most_indices
    sent-few t p q = by t.way
      where
        by : (way : Way) → length (sent_by job files way t.plan p q) ≤ most_indices
        by FromOwners = remote-few t.plan q p (list-distinct t.plan q)
        by ToOwners = remote-few t.plan p q (list-distinct t.plan p)

    -- ---- matrices

    thin : (b : Bool) → cond b Nums Rows ≡ Rows → b ≡ false
    thin true e = absurd (let bad : ⊥ = cc in bad)
    thin false e = refl

    pub narrow : (k : ℕ) → k < value_count job → send_kind job k ≡ Rows → width job files k ≤ most_indices
    narrow k below rows =
        let sparse = thin (is_dense (shape job k).sort) rows in
        let few = map-few (shape job k).domain ((shapes-known job valid k below).matrix sparse).1 in
        subst (λ b. cond b (shape job k).columns (size_of job (shape job k).domain) ≤ most_indices) (sym sparse) few

pub row-few : {S : Type 0} (t : Table S) (w i : ℕ) → length (row_columns t w i) ≤ w
row-few t w i = let l = filter-few (λ j. is_some (t i j)) (count_from 0 w) in let n = length-count 0 w in omega (arith, l, n)

pub words-few : {S : Type 0} (t : Table S) (w : ℕ) → w ≤ most_indices → (rows : List ℕ) → length (flat_map (words_of_row t w) rows) ≤ 16777218 * length rows
words-few t w narrow [] = omega arith
words-few t w narrow (i ∷ is) =
    let both = length-append (words_of_row t w i) (flat_map (words_of_row t w) is) in
    let row = row-few t w i in
    let rest = words-few t w narrow is in
    omega (arith, both, row, rest, narrow)

pub sent-rows-are-few : SentRowsAreFew
sent-rows-are-few job files t p q valid = sent-few job valid files t p q

pub matrices-are-narrow : MatricesAreNarrow
matrices-are-narrow job files k valid below rows = narrow job valid files k below rows

pub row-words-are-few : RowWordsAreFew
row-words-are-few job files k stage p q valid below rows =
    let P : Kind → Type 0 = λ kind. length (words_of_rows job files kind (entry_places job files p k stage) (width job files k) (sent_rows job files (transfer_at job k stage) p q)) < 2 ^ 64 in
    let few = words-few (entry_places job files p k stage) (width job files k) (narrow job valid files k below rows) (sent_rows job files (transfer_at job k stage) p q) in
    let many = sent-few job valid files (transfer_at job k stage) p q in
    let low : length (flat_map (words_of_row (entry_places job files p k stage) (width job files k)) (sent_rows job files (transfer_at job k stage) p q)) < 2 ^ 64 = omega (arith, few, many) in
    subst P (sym rows) low
