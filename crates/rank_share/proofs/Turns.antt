-- What is dealt to a rank, entry after entry.
use Rattle.std.proofs.Common.{◌≡◌, ℕ, suc, ◌+◌, ◌%◌, ◌<◌, Bool, true, false, cond, eqb, List, [], ◌∷◌, ◌++◌, length, get_or, take, refl, sym, ap, ◌∙◌, arith}
use Rattle.std.specs.List.{flat_map}
use Rattle.std.proofs.lemmas.Bool.{eq-eqb, ne_eqb}
use Rattle.std.proofs.lemmas.List.{take_more, length-take-le, flat_map_more, append-nil}
use Rattle.tables.specs.Indices.{dealt, dealt_from, with_passed}

module _ {A : Type 0} where
  dealt_from-push : (n P r : ℕ) (xs : List A) (x : A) → dealt_from n P r (xs ++ x ∷ []) ≡ dealt_from n P r xs ++ with_passed (eqb ((n + length xs) % P) r) x []
  dealt_from-push n P r [] x = ap (λ k. with_passed (eqb (k % P) r) x []) (omega arith)
  dealt_from-push n P r (y ∷ ys) x =
      ap (with_passed (eqb (n % P) r) y) (dealt_from-push (n + 1) P r ys x ∙ ap (λ k. dealt_from (n + 1) P r ys ++ with_passed (eqb (k % P) r) x []) (omega arith))
      ∙ go (eqb (n % P) r)
    where
      go : (b : Bool) → with_passed b y (dealt_from (n + 1) P r ys ++ with_passed (eqb ((n + length (y ∷ ys)) % P) r) x []) ≡ with_passed b y (dealt_from (n + 1) P r ys) ++ with_passed (eqb ((n + length (y ∷ ys)) % P) r) x []
      go true = refl
      go false = refl

  -- Entry k is dealt to the rank k mod P.
  dealt-more : (P r k : ℕ) (xs : List A) (d : A) → k < length xs → dealt P r (take (k + 1) xs) ≡ dealt P r (take k xs) ++ with_passed (eqb (k % P) r) (get_or xs k d) []
  dealt-more P r k xs d l =
      ap (dealt P r) (take_more xs k d l)
      ∙ dealt_from-push 0 P r (take k xs) (get_or xs k d)
      ∙ ap (λ n. dealt P r (take k xs) ++ with_passed (eqb (n % P) r) (get_or xs k d) []) (let long = length-take-le k xs (omega arith) in omega arith)

  -- The places of an entry that is dealt to the rank come last, and others are passed over.
  pub places-more : {B : Type 0} (f : A → List B) (P r k turn : ℕ) (xs : List A) (d : A) (done more : List B) → k < length xs → turn ≡ k % P
      → done ≡ flat_map f (dealt P r (take k xs)) → turn ≡ r → more ≡ done ++ f (get_or xs k d) → more ≡ flat_map f (dealt P r (take (k + 1) xs))
  places-more f P r k turn xs d done more l at is mine step =
      step ∙ ap (λ ys. ys ++ f (get_or xs k d)) is
      ∙ flat_map_more f [] (dealt P r (take k xs)) (get_or xs k d)
      ∙ ap (flat_map f) (sym (dealt-more P r k xs d l ∙ ap (λ b. dealt P r (take k xs) ++ with_passed b (get_or xs k d) []) (eq-eqb (k % P) r (sym at ∙ mine))))

  pub places-same : {B : Type 0} (f : A → List B) (P r k turn : ℕ) (xs : List A) (d : A) (done : List B) → k < length xs → turn ≡ k % P
      → done ≡ flat_map f (dealt P r (take k xs)) → (turn ≡ r → ⊥) → done ≡ flat_map f (dealt P r (take (k + 1) xs))
  places-same f P r k turn xs d done l at is other =
      is
      ∙ ap (flat_map f) (sym (dealt-more P r k xs d l ∙ ap (λ b. dealt P r (take k xs) ++ with_passed b (get_or xs k d) []) (ne_eqb (k % P) r (λ e. other (at ∙ e))) ∙ append-nil (dealt P r (take k xs))))
