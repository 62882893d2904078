-- A matrix applied to a vector: the results, the listings and complete runs.
use Rattle.letter_codec.specs.Letters.{head_bytes, bytes_of_word}
use Rattle.std.specs.Prelude.{◌≡◌, ℕ, pos, negsuc, Bool, true, false, List, [], ◌∷◌, codes, Some, length, map, refl}
use Rattle.std.specs.List.{slice_index_or}
use Rattle.model_defs.specs.declared.job.Job.{Job}
use Rattle.model_defs.specs.declared.job.MapForm.TheVariants.{Uniform, Cyclic}
use Rattle.letter_codec.specs.declared.kind.Kind.TheVariants.{Reg, Ask, Tell, Want, Offer, Nums, Rows}
use Rattle.model_defs.specs.Letters.{letter_names}
use Rattle.peers.specs.Protocols.{Letter}
use Rattle.model_defs.specs.declared.sheets.Sheet.{Sheet}
use Rattle.model_defs.specs.Traffic.{phase_lines_of, letter_lines}
use Rattle.model_defs.proofs.ExampleJobs.{twisted_run, AreMade, shown, line, name, phase, array, own_pick, printed, run, printed_after, a_and_x, files, apply_a}
use Rattle.model_defs.specs.declared.job.Step.TheVariants as step

abbrev job : Job
job = a_and_x 2 Uniform false (apply_a false ∷ step.Print 2 ∷ [])

abbrev sums : List Sheet
sums = array 3 (shown 0 0 (pos 502) ∷ shown 1 0 (pos 30) ∷ shown 2 0 (negsuc 0) ∷ [])

result : printed job files own_pick ≡ sums
result = refl

phases_are : phase_lines_of job ≡ phase 0 Offer (codes "A") ∷ phase 1 Rows (codes "A") ∷ phase 2 Want (codes "A") ∷ phase 3 Nums (codes "y") ∷ []
phases_are = refl

letters_are : letter_lines job files
    ≡ line 0 0 1 1 ∷ line 0 1 0 2 ∷ line 1 0 1 1 ∷ line 1 1 0 2 ∷ line 2 0 1 1 ∷ line 2 1 0 1 ∷ line 3 0 1 1 ∷ line 3 1 0 1 ∷ []
letters_are = refl

-- all letters in the order of their names
complete : printed_after job files (run job files (letter_names job files)) ≡ sums
unfolding head_bytes bytes_of_word
complete = refl

-- the second letter reaches rank 0 before rank 0 has left phase 0
early : printed_after job files (run job files (name 0 0 1 ∷ name 1 1 0 ∷ name 0 1 0 ∷ name 1 0 1 ∷ name 2 1 0 ∷ name 2 0 1 ∷ name 3 1 0 ∷ name 3 0 1 ∷ [])) ≡ sums
unfolding head_bytes bytes_of_word
early = refl

-- the bytes of the last two letters from rank 0 to rank 1: the index that it wants, and index 0 with the number 1
abbrev zeros : ℕ → List ℕ → List ℕ
zeros ℕ.zero rest = rest
zeros (ℕ.suc n) rest = 0 ∷ zeros n rest

abbrev no_letter : Letter
no_letter = (name 0 0 0, [])

want_bytes : (slice_index_or (run job files (letter_names job files)) 4 no_letter).1 ≡ 20 ∷ 1 ∷ zeros 7 (2 ∷ zeros 7 [])
unfolding head_bytes bytes_of_word
want_bytes = refl

data_bytes : (slice_index_or (run job files (letter_names job files)) 6 no_letter).1 ≡ 22 ∷ 1 ∷ zeros 7 (0 ∷ zeros 7 (1 ∷ zeros 15 (1 ∷ zeros 15 [])))
unfolding head_bytes bytes_of_word
data_bytes = refl

-- one rank: the same phases and no letter
alone : printed (a_and_x 1 Uniform false (apply_a false ∷ step.Print 2 ∷ [])) files own_pick ≡ sums
alone = refl

alone_phases : length (phase_lines_of (a_and_x 1 Uniform false (apply_a false ∷ step.Print 2 ∷ []))) ≡ 4
alone_phases = refl

alone_letters : letter_lines (a_and_x 1 Uniform false (apply_a false ∷ step.Print 2 ∷ [])) files ≡ []
alone_letters = refl

-- a cyclic map needs the directory
abbrev dealt_round : Job
dealt_round = a_and_x 2 Cyclic false (apply_a false ∷ step.Print 2 ∷ [])

round_result : printed dealt_round files own_pick ≡ sums
round_result = refl

round_phases : map (λ p. p.kind) (phase_lines_of dealt_round) ≡ Reg ∷ Ask ∷ Tell ∷ Offer ∷ Rows ∷ Ask ∷ Tell ∷ Want ∷ Nums ∷ []
round_phases = refl

round_letters : length (letter_lines dealt_round files) ≡ 15
round_letters = refl

round_complete : printed_after dealt_round files (run dealt_round files (letter_names dealt_round files)) ≡ sums
unfolding head_bytes bytes_of_word
round_complete = refl

-- a split matrix, and its transpose
abbrev by_parts : Bool → Job
by_parts transposed = a_and_x 2 Uniform true (apply_a transposed ∷ step.Print 2 ∷ [])

split_result : printed (by_parts false) files own_pick ≡ sums
split_result = refl

split_phases : map (λ p. p.kind) (phase_lines_of (by_parts false)) ≡ Want ∷ Offer ∷ Nums ∷ Nums ∷ []
split_phases = refl

split_complete : printed_after (by_parts false) files (run (by_parts false) files (letter_names (by_parts false) files)) ≡ sums
unfolding head_bytes bytes_of_word
split_complete = refl

abbrev back_sums : List Sheet
back_sums = array 3 (shown 0 0 (negsuc 97) ∷ shown 1 0 (pos 30) ∷ shown 2 0 (pos 5) ∷ [])

back_result : printed (by_parts true) files own_pick ≡ back_sums
back_result = refl

back_complete : printed_after (by_parts true) files (run (by_parts true) files (letter_names (by_parts true) files)) ≡ back_sums
unfolding head_bytes bytes_of_word
back_complete = refl

-- the transposed apply of an assembled matrix
abbrev back : Job
back = a_and_x 2 Uniform false (apply_a true ∷ step.Print 2 ∷ [])

whole_back_result : printed back files own_pick ≡ back_sums
whole_back_result = refl

whole_back_complete : printed_after back files (run back files (letter_names back files)) ≡ back_sums
unfolding head_bytes bytes_of_word
whole_back_complete = refl

-- a second apply, with y and beta: no plan is made again
abbrev twice : Job
twice = a_and_x 2 Uniform false (apply_a false ∷ step.Apply (codes "z") 1 0 (Some 2) (pos 1) (pos 1) false ∷ step.Print 3 ∷ [])

abbrev doubled : List Sheet
doubled = array 3 (shown 0 0 (pos 1004) ∷ shown 1 0 (pos 60) ∷ shown 2 0 (negsuc 1) ∷ [])

twice_result : printed twice files own_pick ≡ doubled
twice_result = refl

twice_phases : map (λ p. p.kind) (phase_lines_of twice) ≡ Offer ∷ Rows ∷ Want ∷ Nums ∷ Nums ∷ []
twice_phases = refl

twice_letters : length (letter_names twice files) ≡ 10
twice_letters = refl

twice_complete : printed_after twice files (run twice files (letter_names twice files)) ≡ doubled
unfolding head_bytes bytes_of_word
twice_complete = refl

-- the row laws
made : AreMade job files own_pick
made = refl

round_made : AreMade dealt_round files own_pick
round_made = refl

split_made : AreMade (by_parts false) files own_pick
split_made = refl

split_back_made : AreMade (by_parts true) files own_pick
split_back_made = refl

back_made : AreMade back files own_pick
back_made = refl

twice_made : AreMade twice files own_pick
twice_made = refl

-- over a wire that adds 1 to the numbers of DATA letters
twisted_result : printed_after job files (twisted_run job files) ≡ array 3 (shown 0 0 (pos 507) ∷ shown 1 0 (pos 30) ∷ shown 2 0 (negsuc 1) ∷ [])
unfolding head_bytes bytes_of_word
twisted_result = refl
