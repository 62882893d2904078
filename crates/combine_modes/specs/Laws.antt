-- The laws of the combine modes, each the contract of a function in the module `laws`.
use Rattle.std.specs.Prelude.{◌≡◌, ℕ, ◌<◌, Bool, false, List, ◌∷◌, Option, None, Some, map, filter, is_some}
use Rattle.std.specs.Option.{unwrap_or}
use Rattle.std.specs.List.Sorted.{IsPermutation}
use Rattle.scalar_laws.specs.Semiring.{Semiring}
use Rattle.tables.specs.Tables.{Table, nowhere}
use Rattle.tables.specs.Indices.{each_rank, stands, AreDistinct, AreBelow}
use Rattle.combine_modes.specs.declared.mode.Mode.{Mode}
use Rattle.combine_modes.specs.Modes.{combine, after_all, gathered, there, picked_of, takes_pick, combined}

-- Values for a cell, one after the other.
abbrev pub ValuesAreTheTable : {S : Type 0} → Semiring S → Type 0
ValuesAreTheTable {S} R =
    (mode : Mode) (fixed : Bool) (old : Option S) (values : List S)
    → after_all R mode fixed old (map Some values) ≡ combine R mode fixed old values (picked_of mode fixed R.nought values)

-- The same where some bring no value.
abbrev pub OneByOneIsTheTable : {S : Type 0} → Semiring S → Type 0
OneByOneIsTheTable {S} R =
    (mode : Mode) (fixed : Bool) (old : Option S) (came : List (Option S))
    → after_all R mode fixed old came ≡ combine R mode fixed old (there came) (picked_of mode fixed R.nought (there came))

-- The same values in another order give the same with the same one picked.
abbrev pub OrderIsThePick : {S : Type 0} → Semiring S → Type 0
OrderIsThePick {S} R =
    (mode : Mode) (fixed : Bool) (old : Option S) (values others : List S) (picked : S)
    → IsPermutation values others → combine R mode fixed old others picked ≡ combine R mode fixed old values picked

-- A mode that takes no picked one does not depend on it.
abbrev pub OnlySomePick : {S : Type 0} → Semiring S → Type 0
OnlySomePick {S} R =
    (mode : Mode) (fixed : Bool) (old : Option S) (values : List S) (picked other : S)
    → takes_pick mode ≡ false → combine R mode fixed old values picked ≡ combine R mode fixed old values other

-- The ranks that bring something for a cell: first the target's rank, then others in any order, none twice, and those of
-- the P ranks that are left out have nothing for it.
pub record AreBringers {A : Type 0} (nothing : A) (P : ℕ) (brought : ℕ → A) (ranks : List ℕ) : Type 0 where
  pub distinct : AreDistinct ranks
  pub below : AreBelow P ranks
  pub others : (q : ℕ) → q < P → stands q ranks ≡ false → brought q ≡ nothing

-- A cell for which the target's rank p brings its own, then the others.
abbrev pub RanksAreTheTable : {S : Type 0} → Semiring S → Type 0
RanksAreTheTable {S} R =
    (mode : Mode) (fixed : Bool) (P p : ℕ) (senders : List ℕ) (old : Option S) (brought : ℕ → Option S)
    → AreBringers None P brought (p ∷ senders)
    → let pick = picked_of mode fixed p (filter (λ q. is_some (brought q)) (p ∷ senders)) in
    after_all R mode fixed old (map brought (p ∷ senders))
    ≡ combine R mode fixed old (there (each_rank P brought)) (unwrap_or (brought pick) R.nought)

-- Tables for which the target's rank p brings its own, then the others.
abbrev pub TablesAreTheTable : {S : Type 0} → Semiring S → Type 0
TablesAreTheTable {S} R =
    (mode : Mode) (fixed : Bool) (P p : ℕ) (senders : List ℕ) (old : Table S) (brought : ℕ → Table S)
    → AreBringers nowhere P brought (p ∷ senders)
    → gathered R mode fixed old (map brought (p ∷ senders))
    ≡ combined R mode fixed P old brought (λ i j. picked_of mode fixed p (filter (λ q. is_some (brought q i j)) (p ∷ senders)))
