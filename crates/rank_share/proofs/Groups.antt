-- Lists in the order of a key, as the groups of their keys.
use Rattle.std.proofs.Common.{◌≡◌, ℕ, ◌<◌, ◌≤◌, ◌⊎◌, inl, inr, Bool, true, false, cond, eqb, ltb, leb, ◌||◌, ◌&&◌, List, [], ◌∷◌, ◌++◌, filter, refl, sym, ap, ◌∙◌, arith}
use Rattle.std.specs.Prelude.{All}
use Rattle.std.specs.List.{list_all, flat_map}
use Rattle.std.proofs.lemmas.Bool.{and_parts, eqb-true, eqb-false, eq-eqb, ne_eqb, leb-true, ltb-true}
use Rattle.std.proofs.lemmas.List.Elements.{All-head, All-tail}
use Rattle.tables.specs.Indices.{stands}
use Rattle.rank_share.proofs.Rising.{IsStrict, above}

-- Two ways to give each number of a list some elements.
pub flat_map-same : {A : Type 0} (f g : ℕ → List A) (ks : List ℕ) → ((k : ℕ) → stands k ks ≡ true → f k ≡ g k) → flat_map f ks ≡ flat_map g ks
flat_map-same f g [] h = refl
flat_map-same f g (k ∷ ks) h =
    let first : f k ≡ g k = h k (ap (λ b. b || stands k ks) (eq-eqb k k refl)) in
    let rest : flat_map f ks ≡ flat_map g ks = flat_map-same f g ks (λ j s. h j (either (eqb k j) (stands j ks) s)) in
    λ t. first t ++ rest t
  where
    either : (a b : Bool) → b ≡ true → (a || b) ≡ true
    either true b e = refl
    either false b e = e

flat_map-none : {A : Type 0} (ks : List ℕ) → let none : ℕ → List A = λ k. [] in flat_map none ks ≡ []
flat_map-none [] = refl
flat_map-none (k ∷ ks) = flat_map-none ks

module _ {X : Type 0} (key : X → ℕ) where
  -- the elements of a key
  abbrev pub of_key : ℕ → List X → List X
  of_key k xs = filter (λ x. eqb (key x) k) xs

  -- no key is below one before it
  abbrev pub IsRisingBy : List X → Type 0
  IsRisingBy [] = Unit {0}
  IsRisingBy (x ∷ xs) = (list_all (λ y. leb (key x) (key y)) xs ≡ true) × IsRisingBy xs

  none_below : (m k : ℕ) (xs : List X) → list_all (λ y. leb m (key y)) xs ≡ true → k < m → of_key k xs ≡ []
  none_below m k [] h l = refl
  none_below m k (x ∷ xs) h l =
      let both = and_parts (leb m (key x)) _ h in
      ap (λ b. cond b (x ∷ of_key k xs) (of_key k xs)) (ne_eqb (key x) k (λ e. let low = leb-true m (key x) both.0 in absurd (omega arith))) ∙ none_below m k xs both.1 l

  -- one more element at the front, with no key below its own
  groups-cons : (x : X) (xs : List X) (ks : List ℕ) → IsStrict ks → stands (key x) ks ≡ true → list_all (λ y. leb (key x) (key y)) xs ≡ true
      → flat_map (λ k. of_key k (x ∷ xs)) ks ≡ x ∷ flat_map (λ k. of_key k xs) ks
  groups-cons x xs [] o s h = absurd (let bad : ⊥ = cc in bad)
  groups-cons x xs (k ∷ ks) o s h = go (λ later. groups-cons x xs ks o.1 later h) (eqb (key x) k) refl
    where
      go : (stands (key x) ks ≡ true → flat_map (λ k. of_key k (x ∷ xs)) ks ≡ x ∷ flat_map (λ k. of_key k xs) ks)
          → (b : Bool) → eqb (key x) k ≡ b → flat_map (λ k. of_key k (x ∷ xs)) (k ∷ ks) ≡ x ∷ flat_map (λ k. of_key k xs) (k ∷ ks)
      go more true e =
          let others : flat_map (λ j. of_key j (x ∷ xs)) ks ≡ flat_map (λ j. of_key j xs) ks =
          flat_map-same _ _ ks (λ j m. ap (λ b. cond b (x ∷ of_key j xs) (of_key j xs)) (ne_eqb (key x) j (λ f. let l = above k j ks o.0 m in let g = eqb-true (key x) k e in absurd (omega arith)))) in
          (λ t. cond (e t) (x ∷ of_key k xs) (of_key k xs) ++ others t)
      go more false e =
          let off : eqb k (key x) ≡ false = ne_eqb k (key x) (λ f. eqb-false (key x) k e (sym f)) in
          let later : stands (key x) ks ≡ true = ap (λ b. b || stands (key x) ks) (sym off) ∙ s in
          let none : of_key k xs ≡ [] = none_below (key x) k xs h (above k (key x) ks o.0 later) in
          (λ t. cond (e t) (x ∷ of_key k xs) (of_key k xs) ++ more later t)
          ∙ (λ t. none t ++ (x ∷ flat_map (λ k. of_key k xs) ks))
          ∙ sym (λ t. x ∷ (none t ++ flat_map (λ k. of_key k xs) ks))

  -- A list in the order of its keys is its groups, one after the other.
  pub grouped : (xs : List X) (ks : List ℕ) → IsStrict ks → IsRisingBy xs → All (λ x. stands (key x) ks ≡ true) xs → xs ≡ flat_map (λ k. of_key k xs) ks
  grouped [] ks o r a = sym (flat_map-none ks)
  grouped (x ∷ xs) ks o r a =
      ap (λ ys. x ∷ ys) (grouped xs ks o r.1 (All-tail (λ x. stands (key x) ks ≡ true) x xs a))
      ∙ sym (groups-cons x xs ks o (All-head (λ x. stands (key x) ks ≡ true) x xs a) r.0)
