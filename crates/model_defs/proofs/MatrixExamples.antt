-- Matrices: assembled, split, scaled, transposed, added, moved, multiplied and assembled from parts.
use Rattle.letter_codec.specs.Letters.{head_bytes, bytes_of_word}
use Rattle.std.specs.Prelude.{◌≡◌, ℕ, pos, negsuc, true, false, List, [], ◌∷◌, codes, Option, Some, None, length, map, refl}
use Rattle.mm_text.specs.Reading.{File}
use Rattle.mm_text.specs.declared.shown.Shown.{Shown}
use Rattle.combine_modes.specs.declared.mode.Mode.{Mode}
use Rattle.combine_modes.specs.declared.mode.Mode.TheVariants.{Insert, Replace, Add, AbsMax, Zero}
use Rattle.model_defs.specs.declared.job.Job.{Job}
use Rattle.model_defs.specs.declared.job.MapForm.TheVariants.{Uniform}
use Rattle.model_defs.specs.declared.job.Step.{Step}
use Rattle.letter_codec.specs.declared.kind.Kind.TheVariants.{Reg, Ask, Tell, Want, Offer, Nums, Rows}
use Rattle.model_defs.specs.Letters.{letter_names}
use Rattle.model_defs.specs.Picks.{pick_of}
use Rattle.model_defs.specs.declared.sheets.Sheet.{Sheet}
use Rattle.model_defs.specs.Traffic.{phase_lines_of, letter_lines}
use Rattle.model_defs.proofs.ExampleJobs.{AreMade, entry, file, shown, line, phase, array, places, map_of, own_pick, printed, run, printed_after, a_and_x, files}
use Rattle.model_defs.specs.declared.job.Step.TheVariants as step

abbrev with_a : List Step → Job
with_a steps = a_and_x 2 Uniform false steps

-- a complete run, in the order of the names
abbrev ran : Job → List File → List Sheet
ran job fs = printed_after job fs (run job fs (letter_names job fs))

abbrev a_sheet : List Sheet
a_sheet = places 3 3 (shown 0 0 (pos 2) ∷ shown 0 2 (pos 5) ∷ shown 1 1 (pos 3) ∷ shown 2 0 (negsuc 0) ∷ [])

shown_a : printed (with_a (step.Print 1 ∷ [])) files own_pick ≡ a_sheet
shown_a = refl

ran_a : ran (with_a (step.Print 1 ∷ [])) files ≡ a_sheet
unfolding head_bytes bytes_of_word
ran_a = refl

a_letters : letter_lines (with_a (step.Print 1 ∷ [])) files ≡ line 0 0 1 1 ∷ line 0 1 0 2 ∷ line 1 0 1 1 ∷ line 1 1 0 2 ∷ line 2 0 1 1 ∷ line 2 1 0 1 ∷ []
a_letters = refl

-- split, without a statement
split_phases : phase_lines_of (a_and_x 2 Uniform true []) ≡ phase 0 Want (codes "A") ∷ phase 1 Offer (codes "A") ∷ []
split_phases = refl

split_letters : letter_lines (a_and_x 2 Uniform true []) files ≡ line 0 0 1 0 ∷ line 0 1 0 1 ∷ line 1 0 1 1 ∷ line 1 1 0 2 ∷ []
split_letters = refl

-- scaled: no further phase
abbrev scaled_a : Job
scaled_a = with_a (step.Scale (codes "S") 1 (negsuc 0) ∷ step.Print 2 ∷ [])

scaled_result : ran scaled_a files ≡ places 3 3 (shown 0 0 (negsuc 1) ∷ shown 0 2 (negsuc 4) ∷ shown 1 1 (negsuc 2) ∷ shown 2 0 (pos 1) ∷ [])
unfolding head_bytes bytes_of_word
scaled_result = refl

scaled_phases : length (phase_lines_of scaled_a) ≡ 3
scaled_phases = refl

-- an apply of the scaled matrix uses the plan of the matrix
scaled_apply : map (λ p. p.kind) (phase_lines_of (with_a (step.Scale (codes "S") 1 (negsuc 0) ∷ step.Apply (codes "y") 2 0 None (pos 1) (pos 0) false ∷ []))) ≡ Offer ∷ Rows ∷ Want ∷ Nums ∷ []
scaled_apply = refl

scaled_apply_result : ran (with_a (step.Scale (codes "S") 1 (negsuc 0) ∷ step.Apply (codes "y") 2 0 None (pos 1) (pos 0) false ∷ step.Print 3 ∷ [])) files ≡ array 3 (shown 0 0 (negsuc 501) ∷ shown 1 0 (negsuc 29) ∷ shown 2 0 (pos 1) ∷ [])
unfolding head_bytes bytes_of_word
scaled_apply_result = refl

-- transposed
abbrev turned_a : Job
turned_a = with_a (step.Transpose (codes "T") 1 ∷ step.Print 2 ∷ [])

abbrev t_sheet : List Sheet
t_sheet = places 3 3 (shown 0 0 (pos 2) ∷ shown 0 2 (negsuc 0) ∷ shown 1 1 (pos 3) ∷ shown 2 0 (pos 5) ∷ [])

transposed : printed turned_a files own_pick ≡ t_sheet
transposed = refl

transposed_ran : ran turned_a files ≡ t_sheet
unfolding head_bytes bytes_of_word
transposed_ran = refl

transposed_phases : map (λ p. p.kind) (phase_lines_of turned_a) ≡ Offer ∷ Rows ∷ Want ∷ Rows ∷ Want ∷ []
transposed_phases = refl

transposed_letters : length (letter_names turned_a files) ≡ 10
transposed_letters = refl

-- a difference whose zeros stay
abbrev difference : Job
difference = with_a (step.Transpose (codes "T") 1 ∷ step.Add (codes "D") 1 2 (pos 1) (negsuc 0) ∷ step.Print 3 ∷ [])

abbrev difference_sheet : List Sheet
difference_sheet = places 3 3 (shown 0 0 (pos 0) ∷ shown 0 2 (pos 6) ∷ shown 1 1 (pos 0) ∷ shown 2 0 (negsuc 5) ∷ [])

zeros_stay : printed difference files own_pick ≡ difference_sheet
zeros_stay = refl

difference_ran : ran difference files ≡ difference_sheet
unfolding head_bytes bytes_of_word
difference_ran = refl

-- moved to a cyclic map, and back
abbrev moved_a : Job
moved_a = with_a (step.Move (codes "M") 1 1 ∷ step.Print 2 ∷ [])

moved_ran : ran moved_a files ≡ a_sheet
unfolding head_bytes bytes_of_word
moved_ran = refl

moved_phases : map (λ p. p.kind) (phase_lines_of moved_a) ≡ Offer ∷ Rows ∷ Want ∷ Want ∷ Rows ∷ Want ∷ []
moved_phases = refl

-- a sum of two matrices on different row maps
abbrev sum_of_two : Job
sum_of_two = with_a (step.Move (codes "M") 1 1 ∷ step.Add (codes "D") 1 2 (pos 1) (pos 1) ∷ step.Print 3 ∷ [])

sum_ran : ran sum_of_two files ≡ places 3 3 (shown 0 0 (pos 4) ∷ shown 0 2 (pos 10) ∷ shown 1 1 (pos 6) ∷ shown 2 0 (negsuc 1) ∷ [])
unfolding head_bytes bytes_of_word
sum_ran = refl

sum_phases : map (λ p. p.kind) (phase_lines_of sum_of_two) ≡ Offer ∷ Rows ∷ Want ∷ Want ∷ Rows ∷ Want ∷ Reg ∷ Ask ∷ Tell ∷ Want ∷ Rows ∷ Want ∷ []
sum_phases = refl

-- products
abbrev product_job : ℕ → ℕ → ℕ → Job
product_job m k n = record {
  ranks = 2;
  maps = map_of (codes "m") m Uniform ∷ map_of (codes "k") k Uniform ∷ map_of (codes "n") n Uniform ∷ [];
  vectors = [];
  parts = [];
  matrices = record { name = codes "A"; split = false; rows = 0; domain = 1; file = codes "a" } ∷ record { name = codes "B"; split = false; rows = 1; domain = 2; file = codes "b" } ∷ [];
  steps = step.Multiply (codes "C") 0 1 ∷ step.Print 2 ∷ [];
}

abbrev square_files : List File
square_files = file 2 2 (entry 0 0 (pos 1) ∷ entry 0 1 (pos 2) ∷ entry 1 0 (pos 3) ∷ entry 1 1 (pos 4) ∷ []) ∷ file 2 2 (entry 0 1 (pos 1) ∷ entry 1 0 (pos 1) ∷ []) ∷ []

abbrev exchanged : List Sheet
exchanged = places 2 2 (shown 0 0 (pos 2) ∷ shown 0 1 (pos 1) ∷ shown 1 0 (pos 4) ∷ shown 1 1 (pos 3) ∷ [])

product_result : printed (product_job 2 2 2) square_files own_pick ≡ exchanged
product_result = refl

product_ran : ran (product_job 2 2 2) square_files ≡ exchanged
unfolding head_bytes bytes_of_word
product_ran = refl

abbrev row_files : List File
row_files = file 1 2 (entry 0 0 (pos 1) ∷ entry 0 1 (pos 1) ∷ []) ∷ file 2 1 (entry 0 0 (pos 1) ∷ entry 1 0 (negsuc 0) ∷ []) ∷ []

stored_zero : ran (product_job 1 2 1) row_files ≡ places 1 1 (shown 0 0 (pos 0) ∷ [])
unfolding head_bytes bytes_of_word
stored_zero = refl

-- a matrix with empty rows, times one with empty rows
abbrev sparse_files : List File
sparse_files = file 3 3 (entry 0 2 (pos 2) ∷ entry 2 1 (pos 3) ∷ []) ∷ file 3 3 (entry 2 0 (pos 5) ∷ []) ∷ []

empty_rows : ran (product_job 3 3 3) sparse_files ≡ places 3 3 (shown 0 0 (pos 10) ∷ [])
unfolding head_bytes bytes_of_word
empty_rows = refl

-- assembled from parts in every mode
abbrev assembled : Option ℕ → Mode → Job
assembled onto mode = record {
  ranks = 2;
  maps = map_of (codes "u") 1 Uniform ∷ [];
  vectors = [];
  parts = [];
  matrices = record { name = codes "P"; split = true; rows = 0; domain = 0; file = codes "p" } ∷ record { name = codes "O"; split = false; rows = 0; domain = 0; file = codes "o" } ∷ [];
  steps = step.Assemble (codes "C") 0 onto mode ∷ step.Print 2 ∷ [];
}

abbrev part_files : List File
part_files = file 1 1 (entry 0 0 (pos 4) ∷ entry 0 0 (pos 6) ∷ []) ∷ file 1 1 (entry 0 0 (pos 1) ∷ []) ∷ []

-- on the global data, with the pick of the order of the names, and by the machine
abbrev agrees : Option ℕ → Mode → List Shown → Type 0
agrees onto mode cells =
    (printed (assembled onto mode) part_files (pick_of (assembled onto mode) part_files (letter_names (assembled onto mode) part_files)) ≡ places 1 1 cells)
    × (ran (assembled onto mode) part_files ≡ places 1 1 cells)

abbrev one : ℕ → List Shown
one v = shown 0 0 (pos v) ∷ []

add : agrees None Add (one 10)
unfolding head_bytes bytes_of_word
add = (refl, refl)

insert : agrees None Insert (one 4)
unfolding head_bytes bytes_of_word
insert = (refl, refl)

absmax : agrees None AbsMax (one 6)
unfolding head_bytes bytes_of_word
absmax = (refl, refl)

replace : agrees None Replace []
unfolding head_bytes bytes_of_word
replace = (refl, refl)

zero : agrees None Zero []
unfolding head_bytes bytes_of_word
zero = (refl, refl)

add_onto : agrees (Some 1) Add (one 11)
unfolding head_bytes bytes_of_word
add_onto = (refl, refl)

insert_onto : agrees (Some 1) Insert (one 1)
unfolding head_bytes bytes_of_word
insert_onto = (refl, refl)

replace_onto : agrees (Some 1) Replace (one 6)
unfolding head_bytes bytes_of_word
replace_onto = (refl, refl)

absmax_onto : agrees (Some 1) AbsMax (one 6)
unfolding head_bytes bytes_of_word
absmax_onto = (refl, refl)

zero_onto : agrees (Some 1) Zero (one 0)
unfolding head_bytes bytes_of_word
zero_onto = (refl, refl)

-- the row laws
sum_made : AreMade sum_of_two files own_pick
sum_made = refl

difference_made : AreMade difference files own_pick
difference_made = refl

product_made : AreMade (product_job 3 3 3) sparse_files own_pick
product_made = refl

assembled_made : AreMade (assembled None Insert) part_files (λ k i j. 1)
assembled_made = refl

assembled_onto_made : AreMade (assembled (Some 1) Replace) part_files own_pick
assembled_onto_made = refl
