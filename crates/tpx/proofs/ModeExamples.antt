-- What the values on the global data are where four parts are exported onto a vector, in each mode and for each order of the letters
-- that the owner is sent: the texts of which the tests of conflicts speak.
use Rattle.std.specs.Prelude.{◌≡◌, ℕ, ℤ, pos, negsuc, List, [], ◌∷◌, ◌++◌, codes, refl}
use Rattle.mm_text.specs.Reading.{File}
use Rattle.combine_modes.specs.declared.mode.Mode.{Mode}
use Rattle.combine_modes.specs.declared.mode.Mode.TheVariants.{Insert, Replace, Add, AbsMax, Zero}
use Rattle.outside.specs.declared.name.Name.{Name}
use Rattle.model_defs.specs.declared.job.Job.{Job}
use Rattle.model_defs.specs.declared.job.MapForm.TheVariants.{Lists}
use Rattle.model_defs.specs.declared.job.Origin.TheVariants.{Files}
use Rattle.model_defs.specs.declared.job.Step.TheVariants as step
use Rattle.model_defs.specs.declared.sheets.Sheet.{Sheet}
use Rattle.model_defs.specs.Letters.{letter_names}
use Rattle.model_defs.specs.Picks.{pick_of}
use Rattle.model_defs.proofs.ExampleJobs.{entry, file, shown, name, array, map_of, vector_of, parts_of, printed}

-- ranks 0, 1 and 2 have cells of a vector that is on rank 3, which has some of its own
abbrev four_parts : Mode → Job
four_parts mode = record {
  ranks = 4;
  maps = map_of (codes "o") 5 (Lists ((0 ∷ 1 ∷ []) ∷ (0 ∷ 2 ∷ []) ∷ (1 ∷ 0 ∷ []) ∷ (2 ∷ 3 ∷ []) ∷ []))
      ∷ map_of (codes "t") 5 (Lists ([] ∷ [] ∷ [] ∷ (0 ∷ 1 ∷ 2 ∷ 3 ∷ 4 ∷ []) ∷ [])) ∷ [];
  vectors = vector_of (codes "v") 1 (Files (codes "p4" ∷ [])) ∷ [];
  parts = parts_of (codes "p") 0 (Files (codes "p0" ∷ codes "p1" ∷ codes "p2" ∷ codes "p3" ∷ [])) ∷ [];
  matrices = [];
  steps = step.Export (codes "y") 1 0 mode ∷ step.Print 2 ∷ [];
}

abbrev two : ℤ → ℤ → File
two a b = file 2 1 (entry 0 0 a ∷ entry 1 0 b ∷ [])

abbrev five_files : List File
five_files = file 5 1 (entry 0 0 (negsuc 5) ∷ entry 1 0 (negsuc 19) ∷ entry 2 0 (pos 1) ∷ entry 3 0 (negsuc 4) ∷ entry 4 0 (negsuc 1) ∷ [])
    ∷ two (pos 5) (negsuc 1) ∷ two (negsuc 6) (pos 8) ∷ two (pos 3) (pos 6) ∷ two (pos 9) (pos 1) ∷ []

-- the letters of a phase from each rank to each other one
abbrev of_phase : ℕ → List Name
of_phase n =
    name n 0 1 ∷ name n 0 2 ∷ name n 0 3 ∷ name n 1 0 ∷ name n 1 2 ∷ name n 1 3
    ∷ name n 2 0 ∷ name n 2 1 ∷ name n 2 3 ∷ name n 3 0 ∷ name n 3 1 ∷ name n 3 2 ∷ []

abbrev first_phases : List Name
first_phases = of_phase 0 ++ of_phase 1 ++ of_phase 2 ++ of_phase 3

-- the numbers of these three ranks, one after the other
abbrev in_order : ℕ → ℕ → ℕ → List Name
in_order a b c = first_phases ++ name 4 a 3 ∷ name 4 b 3 ∷ name 4 c 3 ∷ []

names_are : letter_names (four_parts Add) five_files ≡ in_order 0 1 2
names_are = refl

abbrev given : Mode → ℕ → ℕ → ℕ → List Sheet
given mode a b c = printed (four_parts mode) five_files (pick_of (four_parts mode) five_files (in_order a b c))

abbrev each_order : Mode → List (List Sheet)
each_order mode = given mode 0 1 2 ∷ given mode 0 2 1 ∷ given mode 1 0 2 ∷ given mode 1 2 0 ∷ given mode 2 0 1 ∷ given mode 2 1 0 ∷ []

abbrev cells : ℤ → ℤ → ℤ → ℤ → ℤ → List Sheet
cells a b c d e = array 5 (shown 0 0 a ∷ shown 1 0 b ∷ shown 2 0 c ∷ shown 3 0 d ∷ shown 4 0 e ∷ [])

-- whatever the order
abbrev always : List Sheet → List (List Sheet)
always sheet = sheet ∷ sheet ∷ sheet ∷ sheet ∷ sheet ∷ sheet ∷ []

-- by the order: index 0 is of ranks 0, 1 and 2, and index 1 of ranks 0 and 2
abbrev by_order : List (List Sheet)
by_order =
    cells (pos 6) (pos 3) (pos 8) (pos 1) (negsuc 1)
    ∷ cells (negsuc 6) (pos 3) (pos 8) (pos 1) (negsuc 1)
    ∷ cells (pos 6) (pos 3) (pos 8) (pos 1) (negsuc 1)
    ∷ cells (pos 5) (negsuc 1) (pos 8) (pos 1) (negsuc 1)
    ∷ cells (negsuc 6) (negsuc 1) (pos 8) (pos 1) (negsuc 1)
    ∷ cells (pos 5) (negsuc 1) (pos 8) (pos 1) (negsuc 1) ∷ []

added : each_order Add ≡ always (cells (negsuc 1) (negsuc 18) (pos 18) (negsuc 3) (negsuc 1))
added = refl

greatest : each_order AbsMax ≡ always (cells (pos 7) (pos 20) (pos 9) (pos 5) (negsuc 1))
greatest = refl

zeroed : each_order Zero ≡ always (cells (pos 0) (pos 0) (pos 0) (pos 0) (negsuc 1))
zeroed = refl

replaced : each_order Replace ≡ by_order
replaced = refl

inserted : each_order Insert ≡ by_order
inserted = refl
