-- How values that come for a cell are combined with what it has: the combine modes of Tpetra by name.
use Rattle.std.specs.Prelude.{ℕ, Bool, true, false, List, [], ◌∷◌, Option, None, Some}
use Rattle.std.specs.Option.{unwrap_or}
use Rattle.scalar_laws.specs.Semiring.{Semiring}
use Rattle.tables.specs.Sums.{total, sums, both_or_one}
use Rattle.tables.specs.Tables.{Table}
use Rattle.tables.specs.Indices.{each_rank}
use Rattle.combine_modes.specs.declared.mode.Mode.{Mode}
use Rattle.combine_modes.specs.declared.mode.Mode.TheVariants.{Insert, Replace, Add, AbsMax, Zero}

-- The greatest of a number and those of a list.
abbrev pub top_of : {S : Type 0} → Semiring S → S → List S → S
top_of R old [] = old
top_of R old (s ∷ ss) = top_of R (R.top old s) ss

-- The table of the combine modes. The cells of a vector are fixed: none is made and none is lost, and where there is none
-- nothing comes. A place of a matrix may be absent. combine R mode fixed old sources picked
abbrev pub combine : {S : Type 0} → Semiring S → Mode → Bool → Option S → List S → S → Option S
combine R mode fixed old [] picked = old
combine R mode true None (s ∷ ss) picked = None
combine R Add fixed old (s ∷ ss) picked = both_or_one R.plus old (Some (total (sums R) (λ v. v) (s ∷ ss)))
combine R Replace fixed None (s ∷ ss) picked = None
combine R Replace fixed (Some o) (s ∷ ss) picked = Some picked
combine R Insert true old (s ∷ ss) picked = Some picked
combine R Insert false None (s ∷ ss) picked = Some picked
combine R Insert false (Some o) (s ∷ ss) picked = Some o
combine R AbsMax fixed None (s ∷ ss) picked = Some (top_of R R.nought (s ∷ ss))
combine R AbsMax fixed (Some o) (s ∷ ss) picked = Some (top_of R o (s ∷ ss))
combine R Zero fixed None (s ∷ ss) picked = None
combine R Zero fixed (Some o) (s ∷ ss) picked = Some R.nought

-- The cell after one more value came for it, if one came.
abbrev pub after_one : {S : Type 0} → Semiring S → Mode → Bool → Option S → Option S → Option S
after_one R mode fixed old None = old
after_one R mode fixed old (Some s) = combine R mode fixed old (s ∷ []) s

-- The cell after these came for it, one after the other.
abbrev pub after_all : {S : Type 0} → Semiring S → Mode → Bool → Option S → List (Option S) → Option S
after_all R mode fixed old [] = old
after_all R mode fixed old (o ∷ os) = after_all R mode fixed (after_one R mode fixed old o) os

-- A table after these tables came for it, one after the other.
abbrev pub gathered : {S : Type 0} → Semiring S → Mode → Bool → Table S → List (Table S) → Table S
gathered R mode fixed old [] = old
gathered R mode fixed old (t ∷ ts) = gathered R mode fixed (λ i j. after_one R mode fixed (old i j) (t i j)) ts

-- The numbers that are there.
abbrev pub there : {S : Type 0} → List (Option S) → List S
there [] = []
there (None ∷ vs) = there vs
there (Some v ∷ vs) = v ∷ there vs

abbrev pub last_or : {A : Type 0} → A → List A → A
last_or a [] = a
last_or a (b ∷ bs) = last_or b bs

abbrev pub first_or : {A : Type 0} → A → List A → A
first_or a [] = a
first_or a (b ∷ bs) = b

-- Which of those that came is picked: the last, and for an absent place of a matrix that is inserted the first.
abbrev pub picked_of : {A : Type 0} → Mode → Bool → A → List A → A
picked_of Insert false a bs = first_or a bs
picked_of _ _ a bs = last_or a bs

-- Whether the mode takes the picked one, and not what all of them come to.
abbrev pub takes_pick : Mode → Bool
takes_pick Insert = true
takes_pick Replace = true
takes_pick Add = false
takes_pick AbsMax = false
takes_pick Zero = false

-- The table after P ranks brought their tables for it. Of the numbers for a place the picked one is that of rank `pick`.
abbrev pub combined : {S : Type 0} → Semiring S → Mode → Bool → ℕ → Table S → (ℕ → Table S) → (ℕ → ℕ → ℕ) → Table S
combined R mode fixed P old brought pick i j =
    combine R mode fixed (old i j) (there (each_rank P (λ p. brought p i j))) (unwrap_or (brought (pick i j) i j) R.nought)
