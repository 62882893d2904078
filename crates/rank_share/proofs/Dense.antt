-- The entries of an array file.
use Rattle.std.proofs.Common.{◌≡◌, ◌≢◌, ℕ, zero, suc, ◌+◌, ◌*◌, ◌/◌, ◌%◌, ◌<◌, ◌≤◌, ◌⊎◌, inl, inr, Bool, true, false, cond, eqb, ◌&&◌, List, [], ◌∷◌, ◌++◌, length, get_or, take, filter, map, refl, sym, ap, ◌∙◌, subst, arith}
use Rattle.std.specs.Prelude.{ℤ}
use Rattle.std.specs.List.{flat_map}
use Rattle.std.proofs.Math.Nat.{mul-le-mul_right}
use Rattle.std.proofs.lemmas.Bool.{and_from, and_left, and_right, eq-eqb, ne_eqb, cases_eq}
use Rattle.std.proofs.lemmas.List.{flat_map_more, map_push, append_assoc, append-nil, take_more}
use Rattle.std.proofs.lemmas.List.Elements.{filter_more}
use Rattle.std.proofs.lemmas.Nat.{mod-mul-add, div-mul-add, div-add-mod'}
use Rattle.tables.specs.Indices.{count_from}
use Rattle.tables.proofs.Counting.{count_from-append}
use Rattle.mm_text.specs.declared.file_data.Line.{Line}
use Rattle.mm_text.specs.Reading.{File}
use Rattle.mm_text.specs.Sound.{IsDense}
use Rattle.rank_share.specs.CellLines.{names_place, named_lines, index_lines, filled_line, filled_index}

module _ {X : Type 0} (p : X → Bool) where
  none_pass : (xs : List X) (d : X) → ((m : ℕ) → m < length xs → p (get_or xs m d) ≡ false) → filter p xs ≡ []
  none_pass [] d h = refl
  none_pass (x ∷ xs) d h = ap (λ b. cond b (x ∷ filter p xs) (filter p xs)) (h 0 (omega arith)) ∙ none_pass xs d (λ m l. h (suc m) (omega arith))

  -- Where one element alone passes, it is what the filter leaves.
  one_passes : (xs : List X) (k : ℕ) (d : X) → k < length xs → p (get_or xs k d) ≡ true → ((m : ℕ) → m < length xs → m ≢ k → p (get_or xs m d) ≡ false) → filter p xs ≡ get_or xs k d ∷ []
  one_passes [] k d l here others = absurd (omega arith)
  one_passes (x ∷ xs) zero d l here others =
      ap (λ b. cond b (x ∷ filter p xs) (filter p xs)) here ∙ ap (λ ys. x ∷ ys) (none_pass xs d (λ m k. others (suc m) (omega arith) (λ e. absurd (omega arith))))
  one_passes (x ∷ xs) (suc k) d l here others =
      ap (λ b. cond b (x ∷ filter p xs) (filter p xs)) (others 0 (omega arith) (λ e. absurd (omega arith)))
      ∙ one_passes xs k d (omega arith) here (λ m n ne. others (suc m) (omega arith) (λ e. ne (omega arith)))

-- The place of an entry is within the file.
pub entry_within : (rows cols i j : ℕ) → i < rows → j < cols → j * rows + i < rows * cols
entry_within rows cols i j a b =
    let up : (j + 1) * rows ≤ cols * rows = mul-le-mul_right rows (let l : j + 1 ≤ cols = omega arith in l) in
    omega arith

-- In an array file the entry j rows + i is the one of row i and column j.
pub entry-dense : (file : File) → IsDense file → (i j : ℕ) → i < file.rows → j < file.cols → (d : Line) → filter (names_place i j) file.lines ≡ get_or file.lines (j * file.rows + i) d ∷ []
entry-dense file dense i j a b d = one_passes (names_place i j) file.lines (j * file.rows + i) d within here others
  where
    within : j * file.rows + i < length file.lines
    within = let w = entry_within file.rows file.cols i j a b in let c = dense.count in omega arith

    here : names_place i j (get_or file.lines (j * file.rows + i) d) ≡ true
    here =
        let at = dense.places (j * file.rows + i) d within in
        and_from _ _ (eq-eqb _ i (at.0 ∙ mod-mul-add j file.rows i a)) (eq-eqb _ j (at.1 ∙ div-mul-add j file.rows i a))

    others : (m : ℕ) → m < length file.lines → m ≢ j * file.rows + i → names_place i j (get_or file.lines m d) ≡ false
    others m l ne = go (cases_eq (get_or file.lines m d).row i) (cases_eq (get_or file.lines m d).col j)
      where
        go : ((get_or file.lines m d).row ≡ i) ⊎ ((get_or file.lines m d).row ≡ i → ⊥) → ((get_or file.lines m d).col ≡ j) ⊎ ((get_or file.lines m d).col ≡ j → ⊥)
            → names_place i j (get_or file.lines m d) ≡ false
        go (inl e) (inl f) =
            let at = dense.places m d l in
            let row : m % file.rows ≡ i = sym at.0 ∙ e in
            let col : m / file.rows ≡ j = sym at.1 ∙ f in
            absurd (ne (sym (div-add-mod' m file.rows) ∙ (λ t. col t * file.rows + row t)))
        go (inr n) other = and_left _ _ (ne_eqb _ i n)
        go (inl e) (inr n) = and_right _ _ (ne_eqb _ j n)

count-more : (n : ℕ) → count_from 0 (n + 1) ≡ count_from 0 n ++ n ∷ []
count-more n = count_from-append 0 n 1 ∙ ap (λ k. count_from 0 n ++ k ∷ []) (omega arith)

-- One more column of an index.
pub index_lines-more : (lines : List Line) (g i n : ℕ) (before taken : List Line) (line : Line) → taken ≡ before ++ index_lines lines n g i → named_lines lines g i n ≡ line ∷ []
    → taken ++ line ∷ [] ≡ before ++ index_lines lines (n + 1) g i
index_lines-more lines g i n before taken line is next =
    (λ t. is t ++ sym next t)
    ∙ flat_map_more (named_lines lines g i) before (count_from 0 n) n
    ∙ ap (λ ks. before ++ flat_map (named_lines lines g i) ks) (sym (count-more n))

pub filled_index-more : (v : ℤ) (g n : ℕ) (before taken : List Line) → taken ≡ before ++ filled_index v n g
    → taken ++ filled_line v g n ∷ [] ≡ before ++ filled_index v (n + 1) g
filled_index-more v g n before taken is =
    ap (λ xs. xs ++ filled_line v g n ∷ []) is
    ∙ append_assoc before (filled_index v n g) (filled_line v g n ∷ [])
    ∙ ap (λ xs. before ++ xs) (sym (map_push (filled_line v g) (count_from 0 n) n) ∙ ap (map (filled_line v g)) (sym (count-more n)))

-- One more index of a list.
pub flat_map-taken : {X A : Type 0} (f : X → List A) (xs : List X) (i : ℕ) (d : X) (done more : List A) → i < length xs → done ≡ flat_map f (take i xs) → more ≡ done ++ f (get_or xs i d)
    → more ≡ flat_map f (take (i + 1) xs)
flat_map-taken f xs i d done more l is step =
    step ∙ ap (λ ys. ys ++ f (get_or xs i d)) is
    ∙ flat_map_more f [] (take i xs) (get_or xs i d)
    ∙ ap (flat_map f) (sym (take_more xs i d l))

-- One more element of a filter.
pub filter-taken : {X : Type 0} (p : X → Bool) (xs : List X) (i : ℕ) (d : X) (done : List X) → i < length xs → done ≡ filter p (take i xs) → p (get_or xs i d) ≡ true
    → done ++ get_or xs i d ∷ [] ≡ filter p (take (i + 1) xs)
filter-taken p xs i d done l is h =
    ap (λ ys. ys ++ get_or xs i d ∷ []) is
    ∙ sym (filter_more p xs i d l ∙ ap (λ b. filter p (take i xs) ++ cond b (get_or xs i d ∷ []) []) h)

pub filter-passed : {X : Type 0} (p : X → Bool) (xs : List X) (i : ℕ) (d : X) (done : List X) → i < length xs → done ≡ filter p (take i xs) → p (get_or xs i d) ≡ false
    → done ≡ filter p (take (i + 1) xs)
filter-passed p xs i d done l is h =
    is ∙ sym (filter_more p xs i d l ∙ ap (λ b. filter p (take i xs) ++ cond b (get_or xs i d ∷ []) []) h ∙ append-nil (filter p (take i xs)))
