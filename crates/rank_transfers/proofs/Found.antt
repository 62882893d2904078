-- The cells of the numbers of a letter, as they are found at a place.
use Rattle.std.proofs.Common.{◌≡◌, ℕ, zero, suc, ◌+◌, ◌*◌, ◌<◌, Bool, true, false, ◌&&◌, cond, eqb, ltb, List, [], ◌∷◌, ◌++◌, map, Option, Some, None, refl, sym, ap, ◌∙◌, arith, length, take, drop}
use Rattle.std.specs.Prelude.{nat_eq}
use Rattle.std.specs.List.{position_or_len}
use Rattle.std.specs.Option.{option_and_then, option_map}
use Rattle.std.proofs.lemmas.Bool.{eqb-true, eqb-false, eq-eqb, ne_eqb, ltb-true, lt-ltb}
use Rattle.std.proofs.lemmas.Bool.Decides.{nat_tests}
use Rattle.scalar_laws.specs.Conversions.{Conversions}
use Rattle.tables.specs.declared.Cell.{Cell}
use Rattle.tables.specs.Indices.{count_from}
use Rattle.tables.specs.Tables.{found}
use Rattle.map_core.specs.Layouts.{local_index}
use Rattle.letter_codec.specs.Parts.{number_at}
use Rattle.distributor.proofs.Numbered.{drop-drop}
use Rattle.model_defs.specs.Machine.{cells_at}
use Rattle.model_defs.specs.Plans.{One}
use Rattle.rank_stages.specs.DataLaws.{full_places}

-- the local index in a list, one after the other
pub first-index : (x g : ℕ) (xs : List ℕ) → nat_eq g x ≡ true → local_index (x ∷ xs) g ≡ Some 0
first-index x g xs e =
    ap (λ k. cond (ltb k (suc (length xs))) (Some k) None) here
    ∙ ap (λ b. cond b (Some 0) None) (lt-ltb 0 (suc (length xs)) (omega arith))
  where
    here : position_or_len (nat_eq g) (x ∷ xs) ≡ 0
    here = rw e

pub later-index : (x g : ℕ) (xs : List ℕ) → nat_eq g x ≡ false → local_index (x ∷ xs) g ≡ option_map suc (local_index xs g)
later-index x g xs e =
    ap (λ k. cond (ltb k (suc (length xs))) (Some k) None) next
    ∙ by (ltb (position_or_len (nat_eq g) xs) (length xs)) refl
  where
    next : position_or_len (nat_eq g) (x ∷ xs) ≡ suc (position_or_len (nat_eq g) xs)
    next = rw e (omega arith)

    by : (b : Bool) → ltb (position_or_len (nat_eq g) xs) (length xs) ≡ b
        → cond (ltb (suc (position_or_len (nat_eq g) xs)) (suc (length xs))) (Some (suc (position_or_len (nat_eq g) xs))) None
        ≡ option_map suc (cond b (Some (position_or_len (nat_eq g) xs)) None)
    by true h =
        let low = ltb-true (position_or_len (nat_eq g) xs) (length xs) h in
        ap (λ b. cond b (Some (suc (position_or_len (nat_eq g) xs))) None) (lt-ltb (suc (position_or_len (nat_eq g) xs)) (suc (length xs)) (omega (arith, low)))
    by false h =
        let off : ltb (suc (position_or_len (nat_eq g) xs)) (suc (length xs)) ≡ false = grind (arith, nat_tests) in
        ap (λ b. cond b (Some (suc (position_or_len (nat_eq g) xs))) None) off

module _ {S : Type 0} (F : Conversions S) where
  abbrev place : ℕ → ℕ → Cell One
  place i j = record { row = i; col = j; value = tt }

  -- numbers behind others
  behind : (m k n : ℕ) (bytes : List ℕ) → m + k ≡ n → number_at F (drop (32 * m) bytes) k ≡ number_at F bytes n
  behind m k n bytes e =
      let there : 32 * m + 32 * k ≡ 32 * n = omega (arith, e) in
      ap (λ z. F.of_wire (take 32 z)) (drop-drop (32 * m) (32 * k) bytes ∙ ap (λ i. drop i bytes) there)

  dropped : (n : ℕ) (bytes : List ℕ) → drop (32 * n) (drop 32 bytes) ≡ drop (32 * suc n) bytes
  dropped n bytes = let there : 32 + 32 * n ≡ 32 * suc n = omega arith in drop-drop 32 (32 * n) bytes ∙ ap (λ i. drop i bytes) there

  -- a place that is none of a row's
  not-in-row : (i a n g j : ℕ) (rest : List (Cell One)) (bytes : List ℕ) → ((k : ℕ) → k < n → (eqb i g && eqb (a + k) j) ≡ false)
      → found (cells_at F (map (place i) (count_from a n) ++ rest) bytes) g j ≡ found (cells_at F rest (drop (32 * n) bytes)) g j
  not-in-row i a zero g j rest bytes h = refl
  not-in-row i a (suc n) g j rest bytes h =
      let here : a + 0 ≡ a = omega arith in
      ap (λ b. cond b (Some (F.of_wire (take 32 bytes))) (found (cells_at F (map (place i) (count_from (a + 1) n) ++ rest) (drop 32 bytes)) g j))
      (ap (λ k. eqb i g && eqb k j) (sym here) ∙ h 0 (omega arith))
      ∙ not-in-row i (a + 1) n g j rest (drop 32 bytes) (λ k l. let next : a + 1 + k ≡ a + suc k = omega arith in ap (λ m. eqb i g && eqb m j) next ∙ h (suc k) (omega (arith, l)))
      ∙ ap (λ z. found (cells_at F rest z) g j) (dropped n bytes)

  -- a place of a row
  in-row : (i a n k g j : ℕ) (rest : List (Cell One)) (bytes : List ℕ) → eqb i g ≡ true → j ≡ a + k → k < n
      → found (cells_at F (map (place i) (count_from a n) ++ rest) bytes) g j ≡ Some (number_at F bytes k)
  in-row i a zero k g j rest bytes e f l = absurd (omega (arith, l))
  in-row i a (suc n) zero g j rest bytes e f l =
      ap (λ b. cond (b && eqb a j) (Some (F.of_wire (take 32 bytes))) (found (cells_at F (map (place i) (count_from (a + 1) n) ++ rest) (drop 32 bytes)) g j)) e
      ∙ ap (λ b. cond b (Some (F.of_wire (take 32 bytes))) (found (cells_at F (map (place i) (count_from (a + 1) n) ++ rest) (drop 32 bytes)) g j)) (eq-eqb a j (omega (arith, f)))
  in-row i a (suc n) (suc k) g j rest bytes e f l =
      ap (λ b. cond (b && eqb a j) (Some (F.of_wire (take 32 bytes))) (found (cells_at F (map (place i) (count_from (a + 1) n) ++ rest) (drop 32 bytes)) g j)) e
      ∙ ap (λ b. cond b (Some (F.of_wire (take 32 bytes))) (found (cells_at F (map (place i) (count_from (a + 1) n) ++ rest) (drop 32 bytes)) g j)) (ne_eqb a j (λ same. absurd (omega (arith, f, same))))
      ∙ in-row i (a + 1) n k g j rest (drop 32 bytes) e (omega (arith, f)) (omega (arith, l))
      ∙ ap Some (behind 1 k (suc k) bytes (omega arith))

  -- the number of row l in a column
  abbrev pub number_of : ℕ → List ℕ → ℕ → ℕ → Option S
  number_of w bytes j l = cond (ltb j w) (Some (number_at F bytes (l * w + j))) None

  pub rows-found : (w : ℕ) (rows : List ℕ) (bytes : List ℕ) (g j : ℕ)
      → found (cells_at F (full_places w rows) bytes) g j ≡ option_and_then (number_of w bytes j) (local_index rows g)
  rows-found w [] bytes g j = refl
  rows-found w (i ∷ is) bytes g j = by (nat_eq g i) refl (rows-found w is (drop (32 * w) bytes) g j)
    where
      -- past the columns there is none
      past : ltb j w ≡ false → (at : List ℕ) (o : Option ℕ) → option_and_then (number_of w at j) o ≡ None
      past off at None = refl
      past off at (Some l) = ap (λ b. cond b (Some (number_at F at (l * w + j))) None) off

      next : (o : Option ℕ) → option_and_then (number_of w (drop (32 * w) bytes) j) o ≡ option_and_then (number_of w bytes j) (option_map suc o)
      next None = refl
      next (Some l) = ap (λ s. cond (ltb j w) (Some s) None) (behind w (l * w + j) (suc l * w + j) bytes (omega arith))

      never : (a b : Bool) → b ≡ false → (a && b) ≡ false
      never true b h = h
      never false b h = refl

      beyond : (k : ℕ) → k < w → 0 + k ≡ j → ltb j w ≡ false → ⊥
      beyond k l same off = let on = lt-ltb j w (omega (arith, l, same)) in absurd (cc)

      here : (b : Bool) → ltb j w ≡ b → nat_eq g i ≡ true
          → found (cells_at F (full_places w is) (drop (32 * w) bytes)) g j ≡ option_and_then (number_of w (drop (32 * w) bytes) j) (local_index is g)
          → found (cells_at F (full_places w (i ∷ is)) bytes) g j ≡ cond b (Some (number_at F bytes (0 * w + j))) None
      here true low e rest =
          let same : i ≡ g = sym (eqb-true g i e) in
          let start : j ≡ 0 * w + j = omega arith in
          in-row i 0 w j g j (full_places w is) bytes (eq-eqb i g same) (omega arith) (ltb-true j w low)
          ∙ ap (λ k. Some (number_at F bytes k)) start
      here false off e rest =
          not-in-row i 0 w g j (full_places w is) bytes (λ k l. never (eqb i g) (eqb (0 + k) j) (ne_eqb (0 + k) j (λ same. beyond k l same off)))
          ∙ rest
          ∙ past off (drop (32 * w) bytes) (local_index is g)

      by : (b : Bool) → nat_eq g i ≡ b
          → found (cells_at F (full_places w is) (drop (32 * w) bytes)) g j ≡ option_and_then (number_of w (drop (32 * w) bytes) j) (local_index is g)
          → found (cells_at F (full_places w (i ∷ is)) bytes) g j ≡ option_and_then (number_of w bytes j) (local_index (i ∷ is) g)
      by true e rest = here (ltb j w) refl e rest ∙ sym (ap (option_and_then (number_of w bytes j)) (first-index i g is e))
      by false e rest =
          not-in-row i 0 w g j (full_places w is) bytes
          (λ k l. ap (λ b. b && eqb (0 + k) j) (ne_eqb i g (λ same. eqb-false g i e (sym same))))
          ∙ rest
          ∙ next (local_index is g)
          ∙ sym (ap (option_and_then (number_of w bytes j)) (later-index i g is e))
