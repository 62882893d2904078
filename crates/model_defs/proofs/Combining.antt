-- Values that come one after the other, in any order, give what the table of the combine modes says of them together.
use Rattle.std.proofs.Common.{◌≡◌, ℕ, Bool, true, false, cond, List, [], ◌∷◌, map, Option, None, Some, ◌⊎◌, inl, inr, ◌<◌, eqb, refl, sym, ap, ap₂, ◌∙◌}
use Rattle.std.specs.Prelude.{is_some, filter}
use Rattle.std.specs.Option.{unwrap_or}
use Rattle.scalar_laws.specs.Semiring.{Semiring, IsSemiring}
use Rattle.tables.specs.Sums.{Joining, IsJoining, total, sums, both_or_one, if_there}
use Rattle.tables.specs.Tables.{Table, nowhere}
use Rattle.tables.specs.Indices.{each_rank, stands, AreDistinct, AreBelow}
use Rattle.tables.proofs.Sums.{sums-IsJoining, places-IsJoining, tops-IsJoining, unit_right, total-map, total-all}
use Rattle.tables.proofs.Ranks.{total-each_rank}
use Rattle.std.proofs.lemmas.Bool.{eqb-true}
use Rattle.combine_modes.specs.declared.mode.Mode.{Mode}
use Rattle.combine_modes.specs.declared.mode.Mode.TheVariants.{Insert, Replace, Add, AbsMax, Zero}
use Rattle.combine_modes.specs.Modes.{top_of, combine, after_one, gathered, there, last_or, picked_of, combined}

module _ {S : Type 0} (R : Semiring S) where
  -- one cell after these came for it
  abbrev pub cell_after : Mode → Bool → Option S → List (Option S) → Option S
  cell_after mode fixed old [] = old
  cell_after mode fixed old (o ∷ os) = cell_after mode fixed (after_one R mode fixed old o) os

  abbrev pub run : Mode → Bool → Option S → List S → Option S
  run mode fixed old [] = old
  run mode fixed old (s ∷ ss) = run mode fixed (combine R mode fixed old (s ∷ []) s) ss

  pub gathered-cell : (mode : Mode) (fixed : Bool) (old : Table S) (ts : List (Table S)) (i j : ℕ)
      → gathered R mode fixed old ts i j ≡ cell_after mode fixed (old i j) (map (λ t. t i j) ts)
  gathered-cell mode fixed old [] i j = refl
  gathered-cell mode fixed old (t ∷ ts) i j = gathered-cell mode fixed (λ i j. after_one R mode fixed (old i j) (t i j)) ts i j

  cell-run : (mode : Mode) (fixed : Bool) (old : Option S) (os : List (Option S)) → cell_after mode fixed old os ≡ run mode fixed old (there os)
  cell-run mode fixed old [] = refl
  cell-run mode fixed old (None ∷ os) = cell-run mode fixed old os
  cell-run mode fixed old (Some s ∷ os) = cell-run mode fixed (combine R mode fixed old (s ∷ []) s) os

  -- a cell that is not there is not made
  run-none : (mode : Mode) (ss : List S) → run mode true None ss ≡ None
  run-none mode [] = refl
  run-none mode (s ∷ ss) = run-none mode ss

  replace-run : (fixed : Bool) (o : S) (ss : List S) → run Replace fixed (Some o) ss ≡ Some (last_or o ss)
  replace-run fixed o [] = refl
  replace-run true o (s ∷ ss) = replace-run true s ss
  replace-run false o (s ∷ ss) = replace-run false s ss

  replace-none : (ss : List S) → run Replace false None ss ≡ None
  replace-none [] = refl
  replace-none (s ∷ ss) = replace-none ss

  insert-run : (o : S) (ss : List S) → run Insert true (Some o) ss ≡ Some (last_or o ss)
  insert-run o [] = refl
  insert-run o (s ∷ ss) = insert-run s ss

  insert-stays : (o : S) (ss : List S) → run Insert false (Some o) ss ≡ Some o
  insert-stays o [] = refl
  insert-stays o (s ∷ ss) = insert-stays o ss

  top-run : (fixed : Bool) (o : S) (ss : List S) → run AbsMax fixed (Some o) ss ≡ Some (top_of R o ss)
  top-run fixed o [] = refl
  top-run true o (s ∷ ss) = top-run true (R.top o s) ss
  top-run false o (s ∷ ss) = top-run false (R.top o s) ss

  zero-run : (fixed : Bool) (ss : List S) → run Zero fixed (Some R.nought) ss ≡ Some R.nought
  zero-run fixed [] = refl
  zero-run true (s ∷ ss) = zero-run true ss
  zero-run false (s ∷ ss) = zero-run false ss

  zero-none : (ss : List S) → run Zero false None ss ≡ None
  zero-none [] = refl
  zero-none (s ∷ ss) = zero-none ss

  module _ (L : IsSemiring R) where
    add-run : (fixed : Bool) (o : S) (ss : List S) → run Add fixed (Some o) ss ≡ Some (R.plus o (total (sums R) (λ v. v) ss))
    add-run fixed o [] = ap Some (sym (unit_right (sums-IsJoining L) o))
    add-run true o (s ∷ ss) = add-run true (R.plus o (R.plus s R.nought)) ss ∙ ap (λ z. Some (R.plus z (total (sums R) (λ v. v) ss))) (ap (R.plus o) (unit_right (sums-IsJoining L) s)) ∙ ap Some (L.plus_assoc o s (total (sums R) (λ v. v) ss))
    add-run false o (s ∷ ss) = add-run false (R.plus o (R.plus s R.nought)) ss ∙ ap (λ z. Some (R.plus z (total (sums R) (λ v. v) ss))) (ap (R.plus o) (unit_right (sums-IsJoining L) s)) ∙ ap Some (L.plus_assoc o s (total (sums R) (λ v. v) ss))

    run-is : (mode : Mode) (fixed : Bool) (old : Option S) (ss : List S) → run mode fixed old ss ≡ combine R mode fixed old ss (picked_of mode fixed R.nought ss)
    run-is mode fixed old [] = refl
    run-is mode true None (s ∷ ss) = run-none mode ss
    run-is Add true (Some o) (s ∷ ss) = add-run true o (s ∷ ss)
    run-is Add false (Some o) (s ∷ ss) = add-run false o (s ∷ ss)
    run-is Add false None (s ∷ ss) = add-run false (R.plus s R.nought) ss ∙ ap (λ z. Some (R.plus z (total (sums R) (λ v. v) ss))) (unit_right (sums-IsJoining L) s)
    run-is Replace true (Some o) (s ∷ ss) = replace-run true o (s ∷ ss)
    run-is Replace false (Some o) (s ∷ ss) = replace-run false o (s ∷ ss)
    run-is Replace false None (s ∷ ss) = replace-none ss
    run-is Insert true (Some o) (s ∷ ss) = insert-run o (s ∷ ss)
    run-is Insert false (Some o) (s ∷ ss) = insert-stays o ss
    run-is Insert false None (s ∷ ss) = insert-stays s ss
    run-is AbsMax true (Some o) (s ∷ ss) = top-run true o (s ∷ ss)
    run-is AbsMax false (Some o) (s ∷ ss) = top-run false o (s ∷ ss)
    run-is AbsMax false None (s ∷ ss) = top-run false (R.top R.nought s) ss
    run-is Zero true (Some o) (s ∷ ss) = zero-run true ss
    run-is Zero false (Some o) (s ∷ ss) = zero-run false ss
    run-is Zero false None (s ∷ ss) = zero-none ss

    -- what comes one after the other is combined as the table says, the picked one being the last, or the first
    pub cell-is : (mode : Mode) (fixed : Bool) (old : Option S) (os : List (Option S))
        → cell_after mode fixed old os ≡ combine R mode fixed old (there os) (picked_of mode fixed R.nought (there os))
    cell-is mode fixed old os = cell-run mode fixed old os ∙ run-is mode fixed old (there os)

    -- The table depends on the sum, the greatest and the picked one alone.
    abbrev by_totals : Mode → Bool → Option S → Option S → Option S → S → Option S
    by_totals mode fixed old None greatest picked = old
    by_totals mode true None (Some sum) greatest picked = None
    by_totals Add fixed old (Some sum) greatest picked = both_or_one R.plus old (Some sum)
    by_totals Replace fixed None (Some sum) greatest picked = None
    by_totals Replace fixed (Some o) (Some sum) greatest picked = Some picked
    by_totals Insert true old (Some sum) greatest picked = Some picked
    by_totals Insert false None (Some sum) greatest picked = Some picked
    by_totals Insert false (Some o) (Some sum) greatest picked = Some o
    by_totals AbsMax fixed None (Some sum) greatest picked = both_or_one R.top (Some R.nought) greatest
    by_totals AbsMax fixed (Some o) (Some sum) greatest picked = both_or_one R.top (Some o) greatest
    by_totals Zero fixed None (Some sum) greatest picked = None
    by_totals Zero fixed (Some o) (Some sum) greatest picked = Some R.nought

    abbrev AreTotals : List S → Option S → Option S → Type 0
    AreTotals [] sum greatest = (sum ≡ None) × (greatest ≡ None)
    AreTotals (s ∷ ss) sum greatest = (sum ≡ Some (total (sums R) (λ v. v) (s ∷ ss))) × ((o : S) → both_or_one R.top (Some o) greatest ≡ Some (top_of R o (s ∷ ss)))

    abbrev sum_there : List (Option S) → Option S
    sum_there os = total (if_there R.plus) (λ o. o) os

    abbrev top_there : List (Option S) → Option S
    top_there os = total (if_there R.top) (λ o. o) os

    totals-more : (s : S) (ss : List S) (sum greatest : Option S) → AreTotals ss sum greatest → AreTotals (s ∷ ss) (both_or_one R.plus (Some s) sum) (both_or_one R.top (Some s) greatest)
    totals-more s [] sum greatest h = (
      ap (both_or_one R.plus (Some s)) h.0 ∙ ap Some (sym (unit_right (sums-IsJoining L) s)),
      λ o. ap (λ g. both_or_one R.top (Some o) (both_or_one R.top (Some s) g)) h.1,
    )
    totals-more s (t ∷ ts) sum greatest h = (
      ap (both_or_one R.plus (Some s)) h.0,
      λ o. sym ((tops-IsJoining L).assoc (Some o) (Some s) greatest) ∙ h.1 (R.top o s),
    )

    totals-there : (os : List (Option S)) → AreTotals (there os) (sum_there os) (top_there os)
    totals-there [] = (refl, refl)
    totals-there (None ∷ os) = totals-there os
    totals-there (Some s ∷ os) = totals-more s (there os) (sum_there os) (top_there os) (totals-there os)

    combine-totals : (mode : Mode) (fixed : Bool) (old : Option S) (ss : List S) (picked : S) (sum greatest : Option S) → AreTotals ss sum greatest
        → combine R mode fixed old ss picked ≡ by_totals mode fixed old sum greatest picked
    combine-totals mode fixed old [] picked sum greatest h = ap (λ z. by_totals mode fixed old z greatest picked) (sym h.0)
    combine-totals mode fixed old (s ∷ ss) picked sum greatest h = here mode fixed old ∙ ap (λ z. by_totals mode fixed old z greatest picked) (sym h.0)
      where
        here : (mode : Mode) (fixed : Bool) (old : Option S) → combine R mode fixed old (s ∷ ss) picked ≡ by_totals mode fixed old (Some (total (sums R) (λ v. v) (s ∷ ss))) greatest picked
        here mode true None = refl
        here Add true (Some o) = refl
        here Add false old = refl
        here Replace true (Some o) = refl
        here Replace false None = refl
        here Replace false (Some o) = refl
        here Insert true (Some o) = refl
        here Insert false None = refl
        here Insert false (Some o) = refl
        here AbsMax true (Some o) = sym (h.1 o)
        here AbsMax false None = sym (h.1 R.nought)
        here AbsMax false (Some o) = sym (h.1 o)
        here Zero true (Some o) = refl
        here Zero false None = refl
        here Zero false (Some o) = refl

    -- another listing with the same sum and greatest
    pub combine-listing : (mode : Mode) (fixed : Bool) (old : Option S) (os us : List (Option S)) (picked : S)
        → sum_there os ≡ sum_there us → top_there os ≡ top_there us → combine R mode fixed old (there os) picked ≡ combine R mode fixed old (there us) picked
    combine-listing mode fixed old os us picked e f =
        combine-totals mode fixed old (there os) picked (sum_there os) (top_there os) (totals-there os)
        ∙ ap₂ (λ a b. by_totals mode fixed old a b picked) e f
        ∙ sym (combine-totals mode fixed old (there us) picked (sum_there us) (top_there us) (totals-there us))

    -- sums onto no place are the sum of those that are there
    pub add-nowhere : (os : List (Option S)) (picked : S) → combine R Add false None (there os) picked ≡ total (if_there R.plus) (λ o. o) os
    add-nowhere os picked = combine-totals Add false None (there os) picked (sum_there os) (top_there os) (totals-there os) ∙ by (sum_there os)
      where
        by : (o : Option S) → by_totals Add false None o (top_there os) picked ≡ o
        by None = refl
        by (Some v) = refl

    -- sums onto a nought are the sum of those that are there
    pub add-nought : (os : List (Option S)) (picked : S)
        → unwrap_or (combine R Add true (Some R.nought) (there os) picked) R.nought ≡ unwrap_or (total (if_there R.plus) (λ o. o) os) R.nought
    add-nought os picked = ap (λ o. unwrap_or o R.nought) (combine-totals Add true (Some R.nought) (there os) picked (sum_there os) (top_there os) (totals-there os)) ∙ by (sum_there os)
      where
        by : (o : Option S) → unwrap_or (by_totals Add true (Some R.nought) o (top_there os) picked) R.nought ≡ unwrap_or o R.nought
        by None = refl
        by (Some v) = (sums-IsJoining L).unit_left v

-- ---- which one is picked

module _ {S : Type 0} (R : Semiring S) (f : ℕ → Option S) where
  abbrev pub num_at : ℕ → S
  num_at q = unwrap_or (f q) R.nought

  abbrev pub came : List ℕ → List S
  came xs = there (map f xs)

  -- the last of those that have a number, and its number
  last-picked : (has : ℕ → Bool) → ((q : ℕ) → has q ≡ is_some (f q)) → (xs : List ℕ) (a : ℕ) (v : S) → num_at a ≡ v
      → num_at (last_or a (filter has xs)) ≡ last_or v (came xs)
  last-picked has h [] a v e = e
  last-picked has h (x ∷ xs) a v e = go (f x) refl (has x) refl (h x) (λ a v e. last-picked has h xs a v e)
    where
      go : (o : Option S) → f x ≡ o → (b : Bool) → has x ≡ b → has x ≡ is_some (f x)
          → ((a : ℕ) (v : S) → num_at a ≡ v → num_at (last_or a (filter has xs)) ≡ last_or v (came xs))
          → num_at (last_or a (cond b (x ∷ filter has xs) (filter has xs))) ≡ last_or v (there (o ∷ map f xs))
      go None g true k h rest = let t : is_some (f x) ≡ true = sym h ∙ k in let u : is_some (f x) ≡ false = ap is_some g in absurd (let bad : ⊥ = cc in bad)
      go None g false k h rest = rest a v e
      go (Some w) g true k h rest = rest x w (ap (λ o. unwrap_or o R.nought) g)
      go (Some w) g false k h rest = let t : is_some (f x) ≡ false = sym h ∙ k in let u : is_some (f x) ≡ true = ap is_some g in absurd (let bad : ⊥ = cc in bad)

  pub picked-by : (has : ℕ → Bool) → ((q : ℕ) → has q ≡ is_some (f q)) → (mode : Mode) (fixed : Bool) (p : ℕ) (xs : List ℕ)
      → (came xs ≡ []) ⊎ (num_at (picked_of mode fixed p (filter has xs)) ≡ picked_of mode fixed R.nought (came xs))
  picked-by has h mode fixed p [] = inl refl
  picked-by has h mode fixed p (x ∷ xs) = go (f x) refl (has x) refl (h x) (picked-by has h mode fixed p xs)
    where
      go : (o : Option S) → f x ≡ o → (b : Bool) → has x ≡ b → has x ≡ is_some (f x)
          → (came xs ≡ []) ⊎ (num_at (picked_of mode fixed p (filter has xs)) ≡ picked_of mode fixed R.nought (came xs))
          → (there (o ∷ map f xs) ≡ []) ⊎ (num_at (picked_of mode fixed p (cond b (x ∷ filter has xs) (filter has xs))) ≡ picked_of mode fixed R.nought (there (o ∷ map f xs)))
      go None g true k h rest = let t : is_some (f x) ≡ true = sym h ∙ k in let u : is_some (f x) ≡ false = ap is_some g in absurd (let bad : ⊥ = cc in bad)
      go None g false k h rest = rest
      go (Some w) g false k h rest = let t : is_some (f x) ≡ false = sym h ∙ k in let u : is_some (f x) ≡ true = ap is_some g in absurd (let bad : ⊥ = cc in bad)
      go (Some w) g true k e rest = inr (by mode fixed)
        where
          here : num_at x ≡ w
          here = ap (λ o. unwrap_or o R.nought) g

          last : num_at (last_or x (filter has xs)) ≡ last_or w (came xs)
          last = last-picked has h xs x w here

          by : (mode : Mode) (fixed : Bool) → num_at (picked_of mode fixed p (x ∷ filter has xs)) ≡ picked_of mode fixed R.nought (w ∷ came xs)
          by Insert false = here
          by Insert true = last
          by Replace fixed = last
          by Add fixed = last
          by AbsMax fixed = last
          by Zero fixed = last

  -- where one rank alone has a number, it is picked
  last-only : (o : ℕ) → ((q : ℕ) → eqb q o ≡ false → f q ≡ None) → (xs : List ℕ) (v : S) → v ≡ num_at o → last_or v (came xs) ≡ num_at o
  last-only o h [] v e = e
  last-only o h (x ∷ xs) v e = go (f x) refl (eqb x o) refl (last-only o h xs)
    where
      go : (u : Option S) → f x ≡ u → (b : Bool) → eqb x o ≡ b → ((v : S) → v ≡ num_at o → last_or v (came xs) ≡ num_at o) → last_or v (there (u ∷ map f xs)) ≡ num_at o
      go None g b k rest = rest v e
      go (Some w) g false k rest = let none = h x k in absurd (let t : None ≡ Some w = sym none ∙ g in let bad : ⊥ = cc in bad)
      go (Some w) g true k rest = rest w (ap (λ u. unwrap_or u R.nought) (sym g) ∙ ap num_at (eqb-true x o k))

  pub picked-only : (o : ℕ) → ((q : ℕ) → eqb q o ≡ false → f q ≡ None) → (mode : Mode) (fixed : Bool) (xs : List ℕ)
      → (came xs ≡ []) ⊎ (num_at o ≡ picked_of mode fixed R.nought (came xs))
  picked-only o h mode fixed [] = inl refl
  picked-only o h mode fixed (x ∷ xs) = go (f x) refl (eqb x o) refl (picked-only o h mode fixed xs)
    where
      go : (u : Option S) → f x ≡ u → (b : Bool) → eqb x o ≡ b → (came xs ≡ []) ⊎ (num_at o ≡ picked_of mode fixed R.nought (came xs))
          → (there (u ∷ map f xs) ≡ []) ⊎ (num_at o ≡ picked_of mode fixed R.nought (there (u ∷ map f xs)))
      go None g b k rest = rest
      go (Some w) g false k rest = let none = h x k in absurd (let t : None ≡ Some w = sym none ∙ g in let bad : ⊥ = cc in bad)
      go (Some w) g true k rest = inr (by mode fixed)
        where
          first : num_at o ≡ w
          first = ap num_at (sym (eqb-true x o k)) ∙ ap (λ u. unwrap_or u R.nought) g

          last : num_at o ≡ last_or w (came xs)
          last = sym (last-only o h xs w (sym first))

          by : (mode : Mode) (fixed : Bool) → num_at o ≡ picked_of mode fixed R.nought (w ∷ came xs)
          by Insert false = first
          by Insert true = last
          by Replace fixed = last
          by Add fixed = last
          by AbsMax fixed = last
          by Zero fixed = last

-- ---- what a rank gathers in any order

module _ {S : Type 0} {R : Semiring S} (L : IsSemiring R) where
  -- the picked one matters only where something came
  pub combine-picked : (mode : Mode) (fixed : Bool) (old : Option S) (ss : List S) (a b : S) → (ss ≡ []) ⊎ (b ≡ a) → combine R mode fixed old ss a ≡ combine R mode fixed old ss b
  combine-picked mode fixed old ss a b (inl e) = ap (λ z. combine R mode fixed old z a) e ∙ sym (ap (λ z. combine R mode fixed old z b) e)
  combine-picked mode fixed old ss a b (inr e) = ap (combine R mode fixed old ss) (sym e)

  -- its own, then what came from the senders, is what all ranks together give
  pub gathered-combined : (mode : Mode) (fixed : Bool) (P p : ℕ) (old : Table S) (f : ℕ → Table S) (qs : List ℕ) (pick : ℕ → ℕ → ℕ)
      → AreDistinct (p ∷ qs) → AreBelow P (p ∷ qs) → ((q : ℕ) → q < P → stands q (p ∷ qs) ≡ false → f q ≡ nowhere)
      → ((i j : ℕ) → combine R mode fixed (old i j) (came R (λ q. f q i j) (p ∷ qs)) (picked_of mode fixed R.nought (came R (λ q. f q i j) (p ∷ qs)))
      ≡ combine R mode fixed (old i j) (came R (λ q. f q i j) (p ∷ qs)) (unwrap_or (f (pick i j) i j) R.nought))
      → gathered R mode fixed old (f p ∷ map f qs) ≡ combined R mode fixed P old f pick
  gathered-combined mode fixed P p old f qs pick d b rest picks = λ t i j. at i j t
    where
      each : {T : Type 0} (g : ℕ → Table T) (i j : ℕ) (xs : List ℕ) → map (λ t. t i j) (map g xs) ≡ map (λ q. g q i j) xs
      each g i j [] = refl
      each g i j (x ∷ xs) = ap (λ z. g x i j ∷ z) (each g i j xs)

      sum : {M : Joining (Option S)} → IsJoining M → M.unit ≡ None → (i j : ℕ) → total M (λ o. o) (map (λ q. f q i j) (p ∷ qs)) ≡ total M (λ o. o) (each_rank P (λ q. f q i j))
      sum {M} J e i j =
          total-map J (λ o. o) (λ q. f q i j) (p ∷ qs)
          ∙ total-all J P (λ q. f q i j) (p ∷ qs) d b (λ q l s. (λ t. rest q l s t i j) ∙ sym e)
          ∙ sym (total-each_rank J P (λ q. f q i j) (λ o. o))

      at : (i j : ℕ) → gathered R mode fixed old (f p ∷ map f qs) i j ≡ combined R mode fixed P old f pick i j
      at i j =
          gathered-cell R mode fixed old (f p ∷ map f qs) i j
          ∙ ap (cell_after R mode fixed (old i j)) (each f i j (p ∷ qs))
          ∙ cell-is R L mode fixed (old i j) (map (λ q. f q i j) (p ∷ qs))
          ∙ picks i j
          ∙ combine-listing R L mode fixed (old i j) (map (λ q. f q i j) (p ∷ qs)) (each_rank P (λ q. f q i j)) _
          (sum (places-IsJoining L) refl i j) (sum (tops-IsJoining L) refl i j)
