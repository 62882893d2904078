-- The table of the combine modes computed on natural numbers.
use Rattle.std.proofs.Common.{◌≡◌, ℕ, [], ◌∷◌, refl, ◌+◌, ◌*◌, max, Option, None, Some, Bool, true, false}
use Rattle.scalar_laws.specs.Semiring.{Semiring}
use Rattle.combine_modes.specs.declared.mode.Mode.{Mode}
use Rattle.combine_modes.specs.declared.mode.Mode.TheVariants.{Insert, Replace, Add, AbsMax, Zero}
use Rattle.combine_modes.specs.Modes.{combine}

abbrev numbers : Semiring ℕ
numbers = record { nought = 0; one = 1; plus = ◌+◌; times = ◌*◌; top = max }

-- what 4 and 6 make, 6 being the picked one
abbrev of_two : Mode → Bool → Option ℕ → Option ℕ
of_two mode fixed old = combine numbers mode fixed old (4 ∷ 6 ∷ []) 6

-- a place that is absent
absent_add : of_two Add false None ≡ Some 10
absent_add = refl

absent_insert : of_two Insert false None ≡ Some 6
absent_insert = refl

absent_absmax : of_two AbsMax false None ≡ Some 6
absent_absmax = refl

absent_replace : of_two Replace false None ≡ None
absent_replace = refl

absent_zero : of_two Zero false None ≡ None
absent_zero = refl

-- a place that is there
present_add : of_two Add false (Some 1) ≡ Some 11
present_add = refl

present_insert : of_two Insert false (Some 1) ≡ Some 1
present_insert = refl

present_absmax : of_two AbsMax false (Some 1) ≡ Some 6
present_absmax = refl

present_replace : of_two Replace false (Some 1) ≡ Some 6
present_replace = refl

present_zero : of_two Zero false (Some 1) ≡ Some 0
present_zero = refl

-- a cell of a vector
cell_add : of_two Add true (Some 1) ≡ Some 11
cell_add = refl

cell_insert : of_two Insert true (Some 1) ≡ Some 6
cell_insert = refl

cell_absmax : of_two AbsMax true (Some 9) ≡ Some 9
cell_absmax = refl

cell_replace : of_two Replace true (Some 1) ≡ Some 6
cell_replace = refl

cell_zero : of_two Zero true (Some 1) ≡ Some 0
cell_zero = refl

-- where a vector has no cell nothing comes, and without a value all stays
no_cell : of_two Add true None ≡ None
no_cell = refl

no_value : combine numbers Zero true (Some 1) [] 6 ≡ Some 1
no_value = refl
