-- Which of the values that came for a cell is picked, by the ranks that brought them.
use Rattle.std.proofs.Common.{◌≡◌, ℕ, Bool, true, false, cond, List, [], ◌∷◌, map, Option, None, Some, ◌⊎◌, inl, inr, eqb, refl, sym, ap, ◌∙◌}
use Rattle.std.specs.Prelude.{is_some, filter}
use Rattle.std.specs.Option.{unwrap_or}
use Rattle.scalar_laws.specs.Semiring.{Semiring}
use Rattle.std.proofs.lemmas.Bool.{eqb-true}
use Rattle.combine_modes.specs.declared.mode.Mode.{Mode}
use Rattle.combine_modes.specs.declared.mode.Mode.TheVariants.{Insert, Replace, Add, AbsMax, Zero}
use Rattle.combine_modes.specs.Modes.{there, last_or, picked_of}

module _ {S : Type 0} (R : Semiring S) (f : ℕ → Option S) where
  abbrev pub num_at : ℕ → S
  num_at q = unwrap_or (f q) R.nought

  abbrev pub came : List ℕ → List S
  came xs = there (map f xs)

  -- the last of those that have a number, and its number
  last-picked : (has : ℕ → Bool) → ((q : ℕ) → has q ≡ is_some (f q)) → (xs : List ℕ) (a : ℕ) (v : S) → num_at a ≡ v
      → num_at (last_or a (filter has xs)) ≡ last_or v (came xs)
  last-picked has h [] a v e = e
  last-picked has h (x ∷ xs) a v e = go (f x) refl (has x) refl (h x) (λ a v e. last-picked has h xs a v e)
    where
      go : (o : Option S) → f x ≡ o → (b : Bool) → has x ≡ b → has x ≡ is_some (f x)
          → ((a : ℕ) (v : S) → num_at a ≡ v → num_at (last_or a (filter has xs)) ≡ last_or v (came xs))
          → num_at (last_or a (cond b (x ∷ filter has xs) (filter has xs))) ≡ last_or v (there (o ∷ map f xs))
      go None g true k h rest = let t : is_some (f x) ≡ true = sym h ∙ k in let u : is_some (f x) ≡ false = ap is_some g in absurd (let bad : ⊥ = cc in bad)
      go None g false k h rest = rest a v e
      go (Some w) g true k h rest = rest x w (ap (λ o. unwrap_or o R.nought) g)
      go (Some w) g false k h rest = let t : is_some (f x) ≡ false = sym h ∙ k in let u : is_some (f x) ≡ true = ap is_some g in absurd (let bad : ⊥ = cc in bad)

  pub picked-by : (has : ℕ → Bool) → ((q : ℕ) → has q ≡ is_some (f q)) → (mode : Mode) (fixed : Bool) (p : ℕ) (xs : List ℕ)
      → (came xs ≡ []) ⊎ (num_at (picked_of mode fixed p (filter has xs)) ≡ picked_of mode fixed R.nought (came xs))
  picked-by has h mode fixed p [] = inl refl
  picked-by has h mode fixed p (x ∷ xs) = go (f x) refl (has x) refl (h x) (picked-by has h mode fixed p xs)
    where
      go : (o : Option S) → f x ≡ o → (b : Bool) → has x ≡ b → has x ≡ is_some (f x)
          → (came xs ≡ []) ⊎ (num_at (picked_of mode fixed p (filter has xs)) ≡ picked_of mode fixed R.nought (came xs))
          → (there (o ∷ map f xs) ≡ []) ⊎ (num_at (picked_of mode fixed p (cond b (x ∷ filter has xs) (filter has xs))) ≡ picked_of mode fixed R.nought (there (o ∷ map f xs)))
      go None g true k h rest = let t : is_some (f x) ≡ true = sym h ∙ k in let u : is_some (f x) ≡ false = ap is_some g in absurd (let bad : ⊥ = cc in bad)
      go None g false k h rest = rest
      go (Some w) g false k h rest = let t : is_some (f x) ≡ false = sym h ∙ k in let u : is_some (f x) ≡ true = ap is_some g in absurd (let bad : ⊥ = cc in bad)
      go (Some w) g true k e rest = inr (by mode fixed)
        where
          here : num_at x ≡ w
          here = ap (λ o. unwrap_or o R.nought) g

          last : num_at (last_or x (filter has xs)) ≡ last_or w (came xs)
          last = last-picked has h xs x w here

          by : (mode : Mode) (fixed : Bool) → num_at (picked_of mode fixed p (x ∷ filter has xs)) ≡ picked_of mode fixed R.nought (w ∷ came xs)
          by Insert false = here
          by Insert true = last
          by Replace fixed = last
          by Add fixed = last
          by AbsMax fixed = last
          by Zero fixed = last

  -- where one rank alone has a number, it is picked
  last-only : (o : ℕ) → ((q : ℕ) → eqb q o ≡ false → f q ≡ None) → (xs : List ℕ) (v : S) → v ≡ num_at o → last_or v (came xs) ≡ num_at o
  last-only o h [] v e = e
  last-only o h (x ∷ xs) v e = go (f x) refl (eqb x o) refl (last-only o h xs)
    where
      go : (u : Option S) → f x ≡ u → (b : Bool) → eqb x o ≡ b → ((v : S) → v ≡ num_at o → last_or v (came xs) ≡ num_at o) → last_or v (there (u ∷ map f xs)) ≡ num_at o
      go None g b k rest = rest v e
      go (Some w) g false k rest = let none = h x k in absurd (let t : None ≡ Some w = sym none ∙ g in let bad : ⊥ = cc in bad)
      go (Some w) g true k rest = rest w (ap (λ u. unwrap_or u R.nought) (sym g) ∙ ap num_at (eqb-true x o k))

  pub picked-only : (o : ℕ) → ((q : ℕ) → eqb q o ≡ false → f q ≡ None) → (mode : Mode) (fixed : Bool) (xs : List ℕ)
      → (came xs ≡ []) ⊎ (num_at o ≡ picked_of mode fixed R.nought (came xs))
  picked-only o h mode fixed [] = inl refl
  picked-only o h mode fixed (x ∷ xs) = go (f x) refl (eqb x o) refl (picked-only o h mode fixed xs)
    where
      go : (u : Option S) → f x ≡ u → (b : Bool) → eqb x o ≡ b → (came xs ≡ []) ⊎ (num_at o ≡ picked_of mode fixed R.nought (came xs))
          → (there (u ∷ map f xs) ≡ []) ⊎ (num_at o ≡ picked_of mode fixed R.nought (there (u ∷ map f xs)))
      go None g b k rest = rest
      go (Some w) g false k rest = let none = h x k in absurd (let t : None ≡ Some w = sym none ∙ g in let bad : ⊥ = cc in bad)
      go (Some w) g true k rest = inr (by mode fixed)
        where
          first : num_at o ≡ w
          first = ap num_at (sym (eqb-true x o k)) ∙ ap (λ u. unwrap_or u R.nought) g

          last : num_at o ≡ last_or w (came xs)
          last = sym (last-only o h xs w (sym first))

          by : (mode : Mode) (fixed : Bool) → num_at o ≡ picked_of mode fixed R.nought (w ∷ came xs)
          by Insert false = first
          by Insert true = last
          by Replace fixed = last
          by Add fixed = last
          by AbsMax fixed = last
          by Zero fixed = last
