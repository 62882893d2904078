-- What a rank gathers, in any order, is what all ranks together give.
use Rattle.std.proofs.Common.{◌≡◌, ℕ, Bool, List, [], ◌∷◌, map, Option, None, ◌⊎◌, inl, inr, ◌<◌, false, refl, sym, ap, ◌∙◌}
use Rattle.std.specs.Prelude.{is_some, filter}
use Rattle.std.specs.Option.{unwrap_or}
use Rattle.scalar_laws.specs.Semiring.{Semiring, IsSemiring}
use Rattle.tables.specs.Sums.{Joining, IsJoining, total}
use Rattle.tables.specs.Tables.{Table, nowhere}
use Rattle.tables.specs.Indices.{each_rank, stands, AreDistinct, AreBelow}
use Rattle.tables.proofs.Sums.{places-IsJoining, tops-IsJoining, total-map, total-all}
use Rattle.tables.proofs.Ranks.{total-each_rank}
use Rattle.combine_modes.specs.declared.mode.Mode.{Mode}
use Rattle.combine_modes.specs.Modes.{combine, after_all, gathered, there, picked_of, combined}
use Rattle.combine_modes.specs.Laws.{AreBringers}
use Rattle.combine_modes.proofs.Combining.{gathered-cell, cell-is, combine-listing}
use Rattle.combine_modes.proofs.Picks.{came, picked-by}

module _ {S : Type 0} {R : Semiring S} (L : IsSemiring R) where
  -- the picked one matters only where something came
  pub combine-picked : (mode : Mode) (fixed : Bool) (old : Option S) (ss : List S) (a b : S) → (ss ≡ []) ⊎ (b ≡ a) → combine R mode fixed old ss a ≡ combine R mode fixed old ss b
  combine-picked mode fixed old ss a b (inl e) = ap (λ z. combine R mode fixed old z a) e ∙ sym (ap (λ z. combine R mode fixed old z b) e)
  combine-picked mode fixed old ss a b (inr e) = ap (combine R mode fixed old ss) (sym e)

  -- its own, then what came from the senders, is what all ranks together give
  pub gathered-combined : (mode : Mode) (fixed : Bool) (P p : ℕ) (old : Table S) (f : ℕ → Table S) (qs : List ℕ) (pick : ℕ → ℕ → ℕ)
      → AreDistinct (p ∷ qs) → AreBelow P (p ∷ qs) → ((q : ℕ) → q < P → stands q (p ∷ qs) ≡ false → f q ≡ nowhere)
      → ((i j : ℕ) → combine R mode fixed (old i j) (came R (λ q. f q i j) (p ∷ qs)) (picked_of mode fixed R.nought (came R (λ q. f q i j) (p ∷ qs)))
      ≡ combine R mode fixed (old i j) (came R (λ q. f q i j) (p ∷ qs)) (unwrap_or (f (pick i j) i j) R.nought))
      → gathered R mode fixed old (f p ∷ map f qs) ≡ combined R mode fixed P old f pick
  gathered-combined mode fixed P p old f qs pick d b rest picks = λ t i j. at i j t
    where
      each : {T : Type 0} (g : ℕ → Table T) (i j : ℕ) (xs : List ℕ) → map (λ t. t i j) (map g xs) ≡ map (λ q. g q i j) xs
      each g i j [] = refl
      each g i j (x ∷ xs) = ap (λ z. g x i j ∷ z) (each g i j xs)

      sum : {M : Joining (Option S)} → IsJoining M → M.unit ≡ None → (i j : ℕ) → total M (λ o. o) (map (λ q. f q i j) (p ∷ qs)) ≡ total M (λ o. o) (each_rank P (λ q. f q i j))
      sum {M} J e i j =
          total-map J (λ o. o) (λ q. f q i j) (p ∷ qs)
          ∙ total-all J P (λ q. f q i j) (p ∷ qs) d b (λ q l s. (λ t. rest q l s t i j) ∙ sym e)
          ∙ sym (total-each_rank J P (λ q. f q i j) (λ o. o))

      at : (i j : ℕ) → gathered R mode fixed old (f p ∷ map f qs) i j ≡ combined R mode fixed P old f pick i j
      at i j =
          gathered-cell R mode fixed old (f p ∷ map f qs) i j
          ∙ ap (after_all R mode fixed (old i j)) (each f i j (p ∷ qs))
          ∙ cell-is R L mode fixed (old i j) (map (λ q. f q i j) (p ∷ qs))
          ∙ picks i j
          ∙ combine-listing R L mode fixed (old i j) (map (λ q. f q i j) (p ∷ qs)) (each_rank P (λ q. f q i j)) _
          (sum (places-IsJoining L) refl i j) (sum (tops-IsJoining L) refl i j)

  -- the pick that follows from the order
  pub picked-here : (mode : Mode) (fixed : Bool) (old : Option S) (f : ℕ → Option S) (p : ℕ) (qs : List ℕ)
      → combine R mode fixed old (came R f (p ∷ qs)) (picked_of mode fixed R.nought (came R f (p ∷ qs)))
      ≡ combine R mode fixed old (came R f (p ∷ qs)) (unwrap_or (f (picked_of mode fixed p (filter (λ q. is_some (f q)) (p ∷ qs)))) R.nought)
  picked-here mode fixed old f p qs =
      combine-picked mode fixed old (came R f (p ∷ qs)) _ _ (picked-by R f (λ q. is_some (f q)) (λ q. refl) mode fixed p (p ∷ qs))

  pub cell-of-ranks : (mode : Mode) (fixed : Bool) (P p : ℕ) (qs : List ℕ) (old : Option S) (f : ℕ → Option S) → AreBringers None P f (p ∷ qs)
      → after_all R mode fixed old (map f (p ∷ qs))
      ≡ combine R mode fixed old (there (each_rank P f)) (unwrap_or (f (picked_of mode fixed p (filter (λ q. is_some (f q)) (p ∷ qs)))) R.nought)
  cell-of-ranks mode fixed P p qs old f h =
      cell-is R L mode fixed old (map f (p ∷ qs))
      ∙ picked-here mode fixed old f p qs
      ∙ combine-listing R L mode fixed old (map f (p ∷ qs)) (each_rank P f) _ (sum (places-IsJoining L) refl) (sum (tops-IsJoining L) refl)
    where
      sum : {M : Joining (Option S)} → IsJoining M → M.unit ≡ None → total M (λ o. o) (map f (p ∷ qs)) ≡ total M (λ o. o) (each_rank P f)
      sum {M} J e =
          total-map J (λ o. o) f (p ∷ qs)
          ∙ total-all J P f (p ∷ qs) h.distinct h.below (λ q l s. h.others q l s ∙ sym e)
          ∙ sym (total-each_rank J P f (λ o. o))

  pub tables-of-ranks : (mode : Mode) (fixed : Bool) (P p : ℕ) (qs : List ℕ) (old : Table S) (f : ℕ → Table S) → AreBringers nowhere P f (p ∷ qs)
      → gathered R mode fixed old (map f (p ∷ qs))
      ≡ combined R mode fixed P old f (λ i j. picked_of mode fixed p (filter (λ q. is_some (f q i j)) (p ∷ qs)))
  tables-of-ranks mode fixed P p qs old f h =
      gathered-combined mode fixed P p old f qs _ h.distinct h.below h.others (λ i j. picked-here mode fixed (old i j) (λ q. f q i j) p qs)
