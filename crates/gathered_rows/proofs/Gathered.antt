-- The sums of all that was dealt are the cells of the file's matrix.
use Rattle.std.proofs.Common.{◌≡◌, ◌≢◌, ℕ, ℤ, neg_ℤ, ◌+◌, ◌%◌, ◌<◌, arith, Bool, true, false, cond, ◌&&◌, ltb, All, List, [], ◌∷◌, ◌++◌, map, refl, sym, ap, ◌∙◌, subst, zero-add}
use Rattle.std.specs.Prelude.{◌==◌}
use Rattle.std.specs.List.{list_all, flat_map}
use Rattle.std.specs.List.Sorted.{IsPermutation}
use Rattle.std.proofs.lemmas.Bool.{and_parts, and_from, lt-ltb}
use Rattle.std.proofs.lemmas.List.Elements.{All-head, All-tail}
use Rattle.std.proofs.lemmas.List.Folds.{list_all-append}
use Rattle.std.proofs.lemmas.List.{append-nil}
use Rattle.std.proofs.lemmas.List.Concat.{flat_map-append}
use Rattle.std.proofs.lemmas.List.Sorted.{IsPermutation-trans, IsPermutation-append_left}
use Rattle.tables.proofs.Counting.{count_from-append}
use Rattle.scalar_laws.specs.Semiring.{Semiring, IsSemiring}
use Rattle.scalar_laws.specs.Conversions.{Conversions}
use Rattle.tables.specs.declared.Cell.{Cell}
use Rattle.tables.specs.Indices.{count_from, dealt, dealt_from}
use Rattle.tables.specs.Tables.{found, cells_of}
use Rattle.tables.proofs.Tables.{table_of-IsPermutation, table_of-flat_map}
use Rattle.tables.proofs.Cells.{table_of-found}
use Rattle.tables.proofs.Within.{cells_of-unique}
use Rattle.tables.proofs.Ranks.{sum_of-dealt_lines}
use Rattle.mm_text.specs.declared.file_data.Line.{Line}
use Rattle.mm_text.specs.declared.file_data.Mirror.{Mirror}
use Rattle.mm_text.specs.declared.file_data.Mirror.TheVariants.{Plain, Same, Negated}
use Rattle.model_defs.specs.FileMatrix.{number_cell, mirrored_cells, entry_numbers, file_matrix}
use Rattle.gathered_rows.specs.Sorting.{all_places, AreSums}
use Rattle.gathered_rows.proofs.Lists.{list_all-IsPermutation}

-- What is dealt passes a test that all pass.
list_all-dealt_from : {A : Type 0} (p : A → Bool) (n P r : ℕ) (xs : List A) → list_all p xs ≡ true → list_all p (dealt_from n P r xs) ≡ true
list_all-dealt_from p n P r [] h = refl
list_all-dealt_from {A} p n P r (x ∷ xs) h = let both = and_parts (p x) (list_all p xs) h in go ((n % P) == r) (dealt_from (n + 1) P r xs) both.0 (list_all-dealt_from p (n + 1) P r xs both.1)
  where
    go : (b : Bool) (ys : List A) → p x ≡ true → list_all p ys ≡ true → list_all p (cond b (x ∷ ys) ys) ≡ true
    go true ys f g = and_from _ _ f g
    go false ys f g = g

list_all-flat_map : {A X : Type 0} (p : X → Bool) (places : A → List X) (xs : List A) → list_all (λ x. list_all p (places x)) xs ≡ true → list_all p (flat_map places xs) ≡ true
list_all-flat_map p places [] h = refl
list_all-flat_map p places (x ∷ xs) h =
    let both = and_parts (list_all p (places x)) _ h in
    list_all-append p (places x) (flat_map places xs) ∙ and_from _ _ both.0 (list_all-flat_map p places xs both.1)

-- Whether a place is within the sizes.
abbrev pub is_within : ℕ → ℕ → ℕ → ℕ → Bool
is_within rows cols i j = ltb i rows && ltb j cols

module _ {S : Type 0} (R : Semiring S) (F : Conversions S) where
  mirrored_within : (rows cols : ℕ) (l : Line) (v : ℤ) → l.row < rows → l.col < cols → rows ≡ cols → all_places (is_within rows cols) (map (number_cell R F) (mirrored_cells l v)) ≡ true
  mirrored_within rows cols l v p q same = go (l.row == l.col)
    where
      go : (b : Bool) → all_places (is_within rows cols) (map (number_cell R F) (cond b [] (record { row = l.col; col = l.row; value = v } ∷ []))) ≡ true
      go true = refl
      go false = and_from _ _ (and_from _ _ (lt-ltb l.col rows (omega arith)) (lt-ltb l.row cols (omega arith))) refl

  -- The cells of an entry are within the sizes.
  entry_within : (rows cols : ℕ) (mirror : Mirror) (l : Line) → l.row < rows → l.col < cols → (mirror ≢ Plain → rows ≡ cols) → all_places (is_within rows cols) (entry_numbers R F mirror l) ≡ true
  entry_within rows cols Plain l p q square = and_from _ _ (and_from _ _ (lt-ltb l.row rows p) (lt-ltb l.col cols q)) refl
  entry_within rows cols Same l p q square = and_from _ _ (and_from _ _ (lt-ltb l.row rows p) (lt-ltb l.col cols q)) (mirrored_within rows cols l l.value p q (square (λ e. cc)))
  entry_within rows cols Negated l p q square = and_from _ _ (and_from _ _ (lt-ltb l.row rows p) (lt-ltb l.col cols q)) (mirrored_within rows cols l (neg_ℤ l.value) p q (square (λ e. cc)))

  entries_within : (rows cols : ℕ) (mirror : Mirror) (lines : List Line) → All (λ l. (l.row < rows) × (l.col < cols)) lines → (mirror ≢ Plain → rows ≡ cols)
      → list_all (λ l. all_places (is_within rows cols) (entry_numbers R F mirror l)) lines ≡ true
  entries_within rows cols mirror [] h square = refl
  entries_within rows cols mirror (l ∷ ls) h square =
      let here = All-head (λ l. (l.row < rows) × (l.col < cols)) l ls h in
      and_from _ _ (entry_within rows cols mirror l here.0 here.1 square) (entries_within rows cols mirror ls (All-tail (λ l. (l.row < rows) × (l.col < cols)) l ls h) square)

-- The cells that are dealt to the ranks below P, rank after rank.
abbrev pub dealt_cells : {A X : Type 0} → (A → List X) → ℕ → ℕ → List A → List X
dealt_cells places P count lines = flat_map (λ r. flat_map places (dealt P r lines)) (count_from 0 count)

module _ {S : Type 0} {R : Semiring S} (L : IsSemiring R) (F : Conversions S) where
  pub sums_are_cells : (rows cols P : ℕ) (mirror : Mirror) (lines : List Line) (all sums : List (Cell S)) → 0 < P
      → All (λ l. (l.row < rows) × (l.col < cols)) lines → (mirror ≢ Plain → rows ≡ cols)
      → IsPermutation (dealt_cells (entry_numbers R F mirror) P P lines) all → AreSums R all sums
      → sums ≡ cells_of rows cols (file_matrix R F mirror lines)
  sums_are_cells rows cols P mirror lines all sums some within square moved f =
      cells_of-unique rows cols (file_matrix R F mirror lines) sums f.in_order (f.places (is_within rows cols) inside) (λ i j p q t. matrix t i j)
    where
      places : Line → List (Cell S)
      places = entry_numbers R F mirror

      test : Cell S → Bool
      test c = is_within rows cols c.row c.col

      all_dealt : (ranks : List ℕ) → list_all test (flat_map (λ r. flat_map places (dealt P r lines)) ranks) ≡ true
      all_dealt [] = refl
      all_dealt (r ∷ rs) =
          list_all-append test (flat_map places (dealt P r lines)) _
          ∙ and_from _ _ (list_all-flat_map test places (dealt P r lines) (list_all-dealt_from (λ l. list_all test (places l)) 0 P r lines (entries_within R F rows cols mirror lines within square))) (all_dealt rs)

      inside : all_places (is_within rows cols) all ≡ true
      inside = list_all-IsPermutation test _ all moved ∙ all_dealt (count_from 0 P)

      matrix : found sums ≡ file_matrix R F mirror lines
      matrix =
          sym (table_of-found R sums f.in_order) ∙ f.matrix ∙ table_of-IsPermutation L _ all moved
          ∙ table_of-flat_map L (λ r. flat_map places (dealt P r lines)) (count_from 0 P)
          ∙ sum_of-dealt_lines L P some places lines

-- What is dealt to one more rank.
pub dealt_cells-more : {A X : Type 0} (places : A → List X) (P r : ℕ) (lines : List A) → dealt_cells places P (r + 1) lines ≡ dealt_cells places P r lines ++ flat_map places (dealt P r lines)
dealt_cells-more places P r lines =
    ap (flat_map (λ q. flat_map places (dealt P q lines))) (count_from-append 0 r 1)
    ∙ flat_map-append (λ q. flat_map places (dealt P q lines)) (count_from 0 r) (count_from (0 + r) 1)
    ∙ ap (λ xs. dealt_cells places P r lines ++ xs) (append-nil _ ∙ ap (λ q. flat_map places (dealt P q lines)) (zero-add r))

-- One more rank has sent what was dealt to it.
pub dealt_cells-sent : {A X : Type 0} (places : A → List X) (P r : ℕ) (lines : List A) (before after : List X)
    → IsPermutation (dealt_cells places P r lines) before → IsPermutation (before ++ flat_map places (dealt P r lines)) after → IsPermutation (dealt_cells places P (r + 1) lines) after
dealt_cells-sent places P r lines before after f g =
    subst (λ xs. IsPermutation xs after) (sym (dealt_cells-more places P r lines))
    (IsPermutation-trans (dealt_cells places P r lines ++ flat_map places (dealt P r lines)) (before ++ flat_map places (dealt P r lines)) after
    (IsPermutation-append_left (flat_map places (dealt P r lines)) (dealt_cells places P r lines) before f) g)
