-- The sheets of a job can be written.
use Rattle.std.proofs.Common.{◌≡◌, ℕ, zero, suc, ◌+◌, ◌*◌, ◌<◌, ◌≤◌, inl, inr, Bool, true, false, not, cond, ◌||◌, ◌&&◌, eqb, ltb, List, [], ◌∷◌, ◌++◌, map, filter, length, get_or, Option, None, Some, Ok, All, if◌then◌else◌, lt-ltb, refl, sym, ap, ◌∙◌, subst, arith, length-append, nat_lt}
use Rattle.std.specs.Prelude.{is_some}
use Rattle.std.specs.List.{concat, flat_map, list_all}
use Rattle.std.proofs.lemmas.Bool.{cases_lt, and_parts, ltb-true}
use Rattle.std.proofs.lemmas.Bool.Decides.{nat_tests}
use Rattle.std.proofs.lemmas.List.{get_or_past, length-map}
use Rattle.std.proofs.lemmas.List.Elements.{All-append, All-map, All-weaker}
use Rattle.std.proofs.lemmas.List.Sums.{AllPass-from_list_all}
use Rattle.std.proofs.lemmas.List.Kept.{AllPairs-cons}
use Rattle.scalar_laws.specs.Semiring.{Semiring, IsSemiring}
use Rattle.scalar_laws.specs.Conversions.{Conversions}
use Rattle.tables.specs.declared.Cell.{Cell}
use Rattle.tables.specs.Tables.{AreInOrder, Table, all_cells, cell_if, cells_of, stands_before}
use Rattle.tables.specs.Indices.{count_from, stands}
use Rattle.tables.proofs.Listed.{AreInOrder-cells_of}
use Rattle.tables.proofs.Within.{AreWithin-cells_of}
use Rattle.tables.proofs.Orders.{before-to}
use Rattle.map_core.proofs.Members.{stands-filter}
use Rattle.mm_text.specs.Reading.{File}
use Rattle.mm_text.specs.Written.{ArePlacesInOrder, ArePlacesWithin, IsBefore}
use Rattle.outside.specs.declared.name.Name.{Name}
use Rattle.outside.specs.MailRoom.{names_of}
use Rattle.peers.specs.Protocols.{Letter, firsts, stands_in}
use Rattle.model_defs.specs.declared.job.Job.{Job}
use Rattle.model_defs.specs.declared.job.MapForm.{MapForm}
use Rattle.model_defs.specs.declared.job.MapForm.TheVariants.{Uniform, Blocks, Cyclic, Lists}
use Rattle.model_defs.specs.declared.job.Step.{Step}
use Rattle.model_defs.specs.declared.job.Step.TheVariants as step
use Rattle.model_defs.specs.declared.shape.Shape.{Shape}
use Rattle.model_defs.specs.declared.shape.Sort.{Sort}
use Rattle.model_defs.specs.declared.shape.Sort.TheVariants.{Vector, Parts, Matrix, Split}
use Rattle.model_defs.specs.declared.sheets.Sheet.{Sheet}
use Rattle.model_defs.specs.Eval.{Pick, eval}
use Rattle.model_defs.specs.Fitting.{IsFitting}
use Rattle.model_defs.specs.Laws.{IsFormed, has_cells}
use Rattle.model_defs.specs.Letters.{letter_names}
use Rattle.model_defs.specs.Limits.{IsSmallForm, most_columns, most_indices}
use Rattle.model_defs.specs.Machine.{gathered_value}
use Rattle.model_defs.specs.Makers.{Maker, GivenVector, GivenParts, GivenMatrix, Made, gives_value, maker_of, makers, value_count}
use Rattle.model_defs.specs.Maps.{is_mapped, lists_of, map_at, no_map, size_of}
use Rattle.model_defs.specs.Pieces.{Value}
use Rattle.model_defs.specs.Plans.{width_of}
use Rattle.model_defs.specs.Shapes.{is_dense, shape, shape_by}
use Rattle.model_defs.specs.Sheets.{array_sheet, column_cells, coordinate_sheet, is_total, sheets_by, sheets_of, step_sheets}
use Rattle.model_defs.specs.ShowText.{shown_cell}
use Rattle.model_defs.specs.Turns.{Each}
use Rattle.model_defs.specs.Valid.{IsValid, IsValidMaker}
use Rattle.model_defs.proofs.AllRows.{row_laws}
use Rattle.model_defs.proofs.KnownShapes.{shape-of-made}
use Rattle.model_defs.proofs.Whole.{are_before}
use Rattle.rank_sim.specs.declared.ends.End.{End}
use Rattle.rank_sim.specs.declared.ends.End.TheVariants as end
use Rattle.rank_sim.specs.Runs.{ShowsEnd, gathered_values}
use Rattle.rank_sim.specs.Writable.{HasPlacesInOrder, HasWritableSheets, IsWholeArray, IsWritable}
use Rattle.rank_sim.specs.Ranks.{PrintsBelow}
use Rattle.rank_sim.proofs.Alike.{prints-known}
use Rattle.rank_sim.proofs.GivenValues.{formed-is}

-- ---- sizes

-- a list that has each number below n is at least so long
abbrev without : ℕ → List ℕ → List ℕ
without x ys = filter (λ y. not (eqb y x)) ys

fewer : (x : ℕ) (ys : List ℕ) → length (without x ys) ≤ length ys
fewer x [] = omega arith
fewer x (y ∷ ys) = by (not (eqb y x)) (fewer x ys)
  where
    by : (b : Bool) → length (without x ys) ≤ length ys → length (cond b (y ∷ without x ys) (without x ys)) ≤ suc (length ys)
    by true l = omega arith
    by false l = omega arith

one-fewer : (x : ℕ) (ys : List ℕ) → stands x ys ≡ true → length (without x ys) < length ys
one-fewer x [] e = absurd (cc)
one-fewer x (y ∷ ys) e = by (eqb y x) refl e (one-fewer x ys)
  where
    by : (b : Bool) → eqb y x ≡ b → b || stands x ys ≡ true → (stands x ys ≡ true → length (without x ys) < length ys) → length (cond (not b) (y ∷ without x ys) (without x ys)) < suc (length ys)
    by true f e rest = let l = fewer x ys in omega arith
    by false f e rest = let l = rest e in omega arith

covers : (n : ℕ) (xs : List ℕ) → ((g : ℕ) → g < n → stands g xs ≡ true) → n ≤ length xs
covers zero xs h = omega arith
covers (suc n) xs h =
    let rest = covers n (without n xs) (λ g l. stands-filter g (λ y. not (eqb y n)) xs ∙ (λ t. h g (omega arith) t && not (apart g l t))) in
    let one = one-fewer n xs (h n (omega arith)) in
    omega arith
  where
    apart : (g : ℕ) → g < n → eqb g n ≡ false
    apart g l = grind (arith, nat_tests)

-- what a test over the first numbers says of each
each-below : (p : ℕ → Bool) (n k : ℕ) → list_all p (count_from n k) ≡ true → (i : ℕ) → n ≤ i → i < n + k → p i ≡ true
each-below p n zero e i l m = absurd (omega arith)
each-below p n (suc k) e i l m =
    let parts = and_parts (p n) (list_all p (count_from (n + 1) k)) e in
    elim (cases_lt n i) [
      | inl after ↦ each-below p (n + 1) k parts.1 i (omega arith) (omega arith)
      | inr here ↦ let same : n ≡ i = omega arith in ap p (sym same) ∙ parts.0
    ]

-- a total map is small
small-total : (P size : ℕ) (form : MapForm) → IsSmallForm size form → ((g : ℕ) → g < size → stands g (concat (lists_of P size form)) ≡ true) → size ≤ most_indices
small-total P size Uniform small total = small
small-total P size (Blocks counts) small total = small
small-total P size Cyclic small total = small
small-total P size (Lists lists) small total = let many = covers size (concat lists) total in let few = small.1 in omega arith

size-small : (job : Job) (m : ℕ) → IsValid job → is_total job m ≡ true → size_of job m ≤ most_indices
size-small job m valid total = elim (cases_lt m (length job.maps)) [
  | inl known ↦
      small-total job.ranks (size_of job m) (map_at job m).form (valid.limits.forms m no_map known)
      (λ g l. each-below (is_mapped job m) 0 (size_of job m) total g (omega arith) (omega arith))
  | inr past ↦ let none : size_of job m ≡ 0 = ap (λ spec. spec.size) (get_or_past job.maps m no_map past) in omega arith
]

-- ---- columns

abbrev HasFewColumns : Maker → Type 0
HasFewColumns (GivenVector spec) = spec.columns ≤ most_columns
HasFewColumns (GivenParts spec) = spec.columns ≤ most_columns
HasFewColumns m = Unit {0}

all-few : (job : Job) → IsValid job → All HasFewColumns (makers job)
all-few job valid =
    All-append HasFewColumns (map GivenVector job.vectors ++ map GivenParts job.parts ++ map GivenMatrix job.matrices) (map Made (filter gives_value job.steps))
    (All-append HasFewColumns (map GivenVector job.vectors ++ map GivenParts job.parts) (map GivenMatrix job.matrices)
    (All-append HasFewColumns (map GivenVector job.vectors) (map GivenParts job.parts)
    (All-map HasFewColumns GivenVector job.vectors (λ k d l. (valid.limits.vectors k d l).few)) (All-map HasFewColumns GivenParts job.parts (λ k d l. (valid.limits.parts k d l).few)))
    (All-map HasFewColumns GivenMatrix job.matrices (λ k d l. tt)))
    (All-map HasFewColumns Made (filter gives_value job.steps) (λ k d l. tt))

module _ (job : Job) (valid : IsValid job) where
  few-by : (k : ℕ) (m : Maker) → IsValidMaker job k m → HasFewColumns m → ((v : ℕ) → v < k → (shape job v).columns ≤ most_columns) → (shape_by k (shape job) m).columns ≤ most_columns
  few-by k (GivenVector spec) h few before = few
  few-by k (GivenParts spec) h few before = few
  few-by k (GivenMatrix spec) h few before = omega arith
  few-by k (Made (step.Move name source m)) h few before = before source h.0
  few-by k (Made (step.Import name source onto mode)) h few before = before onto h.1.0
  few-by k (Made (step.Export name source onto mode)) h few before = before onto h.1.0
  few-by k (Made (step.Spread name source m)) h few before = before source h.0.0
  few-by k (Made (step.Update name x y alpha beta)) h few before = before x h.0
  few-by k (Made (step.Scale name value alpha)) h few before = before value h
  few-by k (Made (step.Apply name a x y alpha beta transposed)) h few before = before x h.2.0
  few-by k (Made (step.Transpose name a)) h few before = before a h.0
  few-by k (Made (step.Multiply name a b)) h few before = before a h.0.0
  few-by k (Made (step.Add name a b alpha beta)) h few before = before a h.0.0
  few-by k (Made (step.Assemble name source onto mode)) h few before = before source h.0.0
  few-by k (Made (step.Print value)) h few before = absurd h

  few-first : (n k : ℕ) → k < n → k < value_count job → (shape job k).columns ≤ most_columns
  few-first zero k l m = absurd (omega arith)
  few-first (suc n) k l m =
      subst (λ s. s.columns ≤ most_columns) (sym (shape-of-made job valid k m))
      (few-by k (maker_of job k) (valid.values k m) (all-few job valid k (Made (step.Print 0)) m) (λ v low. few-first n v (omega arith) (omega arith)))

  few-columns : (k : ℕ) → k < value_count job → (shape job k).columns ≤ most_columns
  few-columns k l = few-first (suc k) k (omega arith) l

-- ---- cells

module _ {S : Type 0} (F : Conversions S) where
  before-all : (c : Cell S) (cs : List (Cell S)) → list_all (stands_before c) cs ≡ true → All (IsBefore (shown_cell F c)) (map (shown_cell F) cs)
  before-all c cs h =
      All-map (IsBefore (shown_cell F c)) (shown_cell F) cs
      (All-weaker (λ d. stands_before c d ≡ true) (λ d. IsBefore (shown_cell F c) (shown_cell F d)) (λ d t. before-to c d t) cs (AllPass-from_list_all (stands_before c) cs h))

  ascending : (cs : List (Cell S)) → AreInOrder cs → ArePlacesInOrder (map (shown_cell F) cs)
  ascending [] h = λ i j d l m. absurd (omega arith)
  ascending (c ∷ cs) h = AllPairs-cons IsBefore (shown_cell F c) (map (shown_cell F) cs) (before-all c cs h.0) (ascending cs h.1)

  in-range : (rows cols : ℕ) (c : Cell S) → (nat_lt c.row rows && nat_lt c.col cols) ≡ true → (c.row < rows) × (c.col < cols)
  in-range rows cols c h = let p = and_parts (nat_lt c.row rows) (nat_lt c.col cols) h in (ltb-true c.row rows p.0, ltb-true c.col cols p.1)

  within : (rows cols : ℕ) (t : Table S) → ArePlacesWithin rows cols (map (shown_cell F) (cells_of rows cols t))
  within rows cols t =
      All-map (λ s. (s.row < rows) × (s.col < cols)) (shown_cell F) (cells_of rows cols t)
      (All-weaker (λ c. (nat_lt c.row rows && nat_lt c.col cols) ≡ true) (λ c. (c.row < rows) × (c.col < cols)) (in-range rows cols) (cells_of rows cols t)
      (AllPass-from_list_all (λ c. nat_lt c.row rows && nat_lt c.col cols) (cells_of rows cols t) (AreWithin-cells_of rows cols t)))

  listed : (job : Job) (s : Shape) (part : Option ℕ) (t : Table S) → HasPlacesInOrder (coordinate_sheet F job s part t)
  listed job s part t = record {
    within = within (size_of job s.rows) (width_of job s) t;
    in_order = ascending (cells_of (size_of job s.rows) (width_of job s) t) (AreInOrder-cells_of (size_of job s.rows) (width_of job s) t);
  }

  -- a column of which each place is there has a cell for each row, and all columns together as many as there are places
  one-cell : (i j : ℕ) (o : Option S) → is_some o ≡ true → length (cell_if i j o ++ []) ≡ 1
  one-cell i j None e = absurd (cc)
  one-cell i j (Some x) e = refl

  column-count : (t : Table S) (j n k : ℕ) → ((i : ℕ) → i < n + k → is_some (t i j) ≡ true) → length (all_cells t (count_from n k) (j ∷ [])) ≡ k
  column-count t j n zero h = refl
  column-count t j n (suc k) h =
      length-append (cell_if n j (t n j) ++ []) (all_cells t (count_from (n + 1) k) (j ∷ []))
      ∙ (λ s. one-cell n j (t n j) (h n (omega arith)) s + column-count t j (n + 1) k (λ i l. h i (omega arith)) s)
      ∙ omega arith

  columns-count : (t : Table S) (rows n k : ℕ) → ((i j : ℕ) → i < rows → j < n + k → is_some (t i j) ≡ true) → length (flat_map (column_cells t rows) (count_from n k)) ≡ rows * k
  columns-count t rows n zero h = omega arith
  columns-count t rows n (suc k) h =
      length-append (column_cells t rows n) (flat_map (column_cells t rows) (count_from (n + 1) k))
      ∙ (λ s. column-count t n 0 rows (λ i l. h i n (omega arith) (omega arith)) s + columns-count t rows (n + 1) k (λ i j l m. h i j l (omega arith)) s)
      ∙ omega arith

  whole : (job : Job) (s : Shape) (v : Value S) → IsValid job → IsFormed job s v → s.sort ≡ Vector → s.columns ≤ most_columns → is_total job s.rows ≡ true → IsWholeArray (array_sheet F job s (v 0))
  whole job s v valid formed sort few total = record {
    rows = let low = size-small job s.rows valid total in omega arith;
    cols = omega (arith, wide, few);
    count = length-map (flat_map (column_cells (v 0) (size_of job s.rows)) (count_from 0 (width_of job s))) (shown_cell F)
        ∙ columns-count (v 0) (size_of job s.rows) 0 (width_of job s) there;
  }
    where
      dense : is_dense s.sort ≡ true
      dense = ap is_dense sort

      wide : width_of job s ≡ s.columns
      wide = ap (λ b. cond b s.columns (size_of job s.domain)) dense

      there : (i j : ℕ) → i < size_of job s.rows → j < 0 + width_of job s → is_some (v 0 i j) ≡ true
      there i j l m =
          formed.dense dense 0 i j
          ∙ (λ t. has_cells job s (sort t) 0 i && ltb j s.columns)
          ∙ (λ t. each-below (is_mapped job s.rows) 0 (size_of job s.rows) total i (omega arith) (omega arith) t && lt-ltb j s.columns (let w = wide in omega arith) t)

  -- ---- sheets

  one-sheet : (x : Sheet) → IsWritable x → All IsWritable (x ∷ [])
  one-sheet x h zero d l = h
  one-sheet x h (suc k) d l = absurd (omega arith)

  value-writable : (job : Job) (s : Shape) (v : Value S) → IsValid job → IsFormed job s v → s.columns ≤ most_columns → (sort : Sort) → s.sort ≡ sort → All IsWritable (sheets_by F job sort s v)
  value-writable job s v valid formed few Vector is = by (is_total job s.rows) refl
    where
      by : (b : Bool) → is_total job s.rows ≡ b → All IsWritable ((if b then array_sheet F job s (v 0) else coordinate_sheet F job s None (v 0)) ∷ [])
      by true total = one-sheet (array_sheet F job s (v 0)) (whole job s v valid formed is few total)
      by false total = one-sheet (coordinate_sheet F job s None (v 0)) (listed job s None (v 0))
  value-writable job s v valid formed few Parts is = All-map IsWritable (λ p. coordinate_sheet F job s (Some p) (v p)) (count_from 0 job.ranks) (λ k d l. listed job s (Some (get_or (count_from 0 job.ranks) k d)) (v (get_or (count_from 0 job.ranks) k d)))
  value-writable job s v valid formed few Matrix is = one-sheet (coordinate_sheet F job s None (v 0)) (listed job s None (v 0))
  value-writable job s v valid formed few Split is = λ k d l. absurd (omega arith)

  none-printed : All IsWritable []
  none-printed k d l = absurd (omega arith)

  step-writable : (job : Job) (values : Each (Value S)) → IsValid job → ((k : ℕ) → k < value_count job → IsFormed job (shape job k) (values k)) → (s : Step) → PrintsBelow (value_count job) s → All IsWritable (step_sheets F job values s)
  step-writable job values valid formed (step.Print k) l = value-writable job (shape job k) (values k) valid (formed k l) (few-columns job valid k l) (shape job k).sort refl
  step-writable job values valid formed (step.Update name x y alpha beta) l = none-printed
  step-writable job values valid formed (step.Scale name value alpha) l = none-printed
  step-writable job values valid formed (step.Move name source m) l = none-printed
  step-writable job values valid formed (step.Import name source onto mode) l = none-printed
  step-writable job values valid formed (step.Export name source onto mode) l = none-printed
  step-writable job values valid formed (step.Spread name source m) l = none-printed
  step-writable job values valid formed (step.Apply name a x y alpha beta transposed) l = none-printed
  step-writable job values valid formed (step.Transpose name a) l = none-printed
  step-writable job values valid formed (step.Multiply name a b) l = none-printed
  step-writable job values valid formed (step.Add name a b alpha beta) l = none-printed
  step-writable job values valid formed (step.Assemble name source onto mode) l = none-printed

  steps-writable : (job : Job) (values : Each (Value S)) → IsValid job → ((k : ℕ) → k < value_count job → IsFormed job (shape job k) (values k)) → (ss : List Step) → All (PrintsBelow (value_count job)) ss → All IsWritable (flat_map (step_sheets F job values) ss)
  steps-writable job values valid formed [] l = none-printed
  steps-writable job values valid formed (s ∷ ss) l =
      All-append IsWritable (step_sheets F job values s) (flat_map (step_sheets F job values) ss)
      (step-writable job values valid formed s (l 0 s (omega arith))) (steps-writable job values valid formed ss (λ k d m. l (suc k) d (omega arith)))

-- the sheets of the values on the global data
pub sheets-writable : {S : Type 0} {R : Semiring S} (L : IsSemiring R) (F : Conversions S) (job : Job) (files : List File) (pick : Pick) → IsValid job → IsFitting job files
    → All IsWritable (sheets_of F job (eval R F job files pick))
sheets-writable {R = R} L F job files pick valid fit =
    steps-writable F job (eval R F job files pick) valid
    (λ k l. (are_before L F job files (row_laws L job files valid fit) pick (value_count job) (omega arith)).formed k l) job.steps (prints-known job valid)

-- and those of the values that the ranks have, once all letters came
pub given-writable : {S : Type 0} (R : Semiring S) (F : Conversions S) (job : Job) (files : List File) (g : List Letter) → IsValid job → IsFitting job files
    → ((y : Name) → stands_in (letter_names job files) y ≡ true → stands_in (names_of g) y ≡ true)
    → All IsWritable (sheets_of F job (λ v. gathered_value R F job files v g))
given-writable R F job files g valid fit came =
    steps-writable F job (λ v. gathered_value R F job files v g) valid (λ k l. formed-is R F job files valid fit g came k l) job.steps (prints-known job valid)

-- so are those that a run shows
pub writable-end : {S : Type 0} (R : Semiring S) (F : Conversions S) (job : Job) (files : List File) (letters : List Letter) → IsValid job → IsFitting job files
    → ((y : Name) → stands_in (letter_names job files) y ≡ true → stands_in (names_of (firsts letters)) y ≡ true)
    → (x : End) → ShowsEnd F job files (gathered_values R F job files letters) x → HasWritableSheets (Ok x)
writable-end R F job files letters valid fit came (end.Done outcome) shows =
    subst (All IsWritable) (sym shows.0.sheets) (given-writable R F job files (firsts letters) valid fit came)
writable-end R F job files letters valid fit came end.Over shows = tt
writable-end R F job files letters valid fit came (end.Undelivered names) shows = tt
