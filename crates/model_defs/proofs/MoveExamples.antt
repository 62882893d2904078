-- Vectors on other maps, parts by import and spread, and what export makes of parts.
use Rattle.letter_codec.specs.Letters.{head_bytes, bytes_of_word}
use Rattle.std.specs.Prelude.{◌≡◌, ◌==◌, ◌&&◌, ℕ, ℤ, pos, negsuc, List, [], ◌∷◌, codes, length, map, refl}
use Rattle.mm_text.specs.Reading.{File}
use Rattle.scalar_laws.specs.Weighed.{weighed_semiring, weighed_conversions}
use Rattle.tables.specs.Tables.{cells_of}
use Rattle.model_defs.specs.ShowText.{shown_cell}
use Rattle.peers.specs.Protocols.{Protocol, Letter, is_ready}
use Rattle.outside.specs.MailRoom.{names_of}
use Rattle.std.specs.List.{filter}
use Rattle.model_defs.specs.declared.job.PartsSpec.{PartsSpec}
use Rattle.model_defs.specs.Machine.{job_protocol, piece}
use Rattle.combine_modes.specs.declared.mode.Mode.{Mode}
use Rattle.combine_modes.specs.declared.mode.Mode.TheVariants.{Replace, Add, AbsMax, Zero}
use Rattle.model_defs.specs.declared.job.Job.{Job}
use Rattle.model_defs.specs.declared.job.MapSpec.{MapSpec}
use Rattle.model_defs.specs.declared.job.MapForm.{MapForm}
use Rattle.model_defs.specs.declared.job.MapForm.TheVariants.{Uniform, Cyclic, Lists}
use Rattle.model_defs.specs.declared.job.Origin.TheVariants.{Files, Fill}
use Rattle.model_defs.specs.declared.job.Step.{Step}
use Rattle.model_defs.specs.declared.job.VectorSpec.{VectorSpec}
use Rattle.letter_codec.specs.declared.kind.Kind.TheVariants.{Reg, Ask, Tell, Want, Offer, Nums}
use Rattle.model_defs.specs.Letters.{letter_names}
use Rattle.model_defs.specs.Picks.{pick_of}
use Rattle.model_defs.specs.declared.sheets.Sheet.{Sheet}
use Rattle.model_defs.specs.Traffic.{phase_lines_of, letter_lines}
use Rattle.outside.specs.declared.name.Name.{Name}
use Rattle.model_defs.proofs.ExampleJobs.{twisted_run, AreMade, entry, file, shown, line, name, phase, array, places, part, map_of, vector_of, parts_of, read, own_pick, printed, run, printed_after, x_file}
use Rattle.model_defs.specs.declared.job.Step.TheVariants as step

abbrev pub job_of : ℕ → List MapSpec → List VectorSpec → List PartsSpec → List Step → Job
job_of ranks maps vectors parts steps = record { ranks = ranks; maps = maps; vectors = vectors; parts = parts; matrices = []; steps = steps }

abbrev pub moved : MapForm → MapForm → List Step → Job
moved f t more = job_of 2 (map_of (codes "s") 3 f ∷ map_of (codes "t") 3 t ∷ []) (vector_of (codes "x") 0 read ∷ []) [] (step.Move (codes "y") 0 1 ∷ more)

abbrev x_sheet : List Sheet
x_sheet = array 3 (shown 0 0 (pos 1) ∷ shown 1 0 (pos 10) ∷ shown 2 0 (pos 100) ∷ [])

abbrev pub to_cyclic : Job
to_cyclic = moved Uniform Cyclic (step.Print 1 ∷ [])

result : printed to_cyclic (x_file ∷ []) own_pick ≡ x_sheet
result = refl

listing : letter_lines to_cyclic (x_file ∷ []) ≡ line 0 0 1 1 ∷ line 0 1 0 1 ∷ line 1 0 1 1 ∷ line 1 1 0 1 ∷ []
listing = refl

listed_phases : phase_lines_of to_cyclic ≡ phase 0 Want (codes "y") ∷ phase 1 Nums (codes "y") ∷ []
listed_phases = refl

complete : printed_after to_cyclic (x_file ∷ []) (run to_cyclic (x_file ∷ []) (name 0 0 1 ∷ name 1 1 0 ∷ name 0 1 0 ∷ name 1 0 1 ∷ [])) ≡ x_sheet
unfolding head_bytes bytes_of_word
complete = refl

-- a second move by the same plan
same_plan_phases : phase_lines_of (moved Uniform Cyclic (step.Move (codes "z") 0 1 ∷ [])) ≡ phase 0 Want (codes "y") ∷ phase 1 Nums (codes "y") ∷ phase 2 Nums (codes "z") ∷ []
same_plan_phases = refl

-- from a cyclic map: with the directory
abbrev from_cyclic : Job
from_cyclic = moved Cyclic Uniform (step.Print 1 ∷ [])

from_result : printed from_cyclic (x_file ∷ []) own_pick ≡ x_sheet
from_result = refl

from_listing : map (λ l. l.entries) (letter_lines from_cyclic (x_file ∷ [])) ≡ 1 ∷ 1 ∷ 0 ∷ 0 ∷ 0 ∷ 0 ∷ 1 ∷ 1 ∷ 1 ∷ 1 ∷ []
from_listing = refl

from_complete : printed_after from_cyclic (x_file ∷ []) (run from_cyclic (x_file ∷ []) (letter_names from_cyclic (x_file ∷ []))) ≡ x_sheet
unfolding head_bytes bytes_of_word
from_complete = refl

-- list maps of size 2^40
abbrev large : Job
large = job_of 2 (map_of (codes "s") 1099511627776 (Lists ((0 ∷ 1099511627775 ∷ []) ∷ (5 ∷ []) ∷ [])) ∷ map_of (codes "t") 1099511627776 (Lists ((5 ∷ []) ∷ (1099511627775 ∷ 0 ∷ []) ∷ [])) ∷ [])
    (vector_of (codes "x") 0 (Fill (pos 7)) ∷ []) [] (step.Move (codes "y") 0 1 ∷ [])

large_listing : map (λ l. l.entries) (letter_lines large []) ≡ 1 ∷ 1 ∷ 0 ∷ 1 ∷ 1 ∷ 0 ∷ 1 ∷ 2 ∷ 2 ∷ 1 ∷ []
large_listing = refl

-- import with the greater magnitude
abbrev imported : Job
imported = job_of 2 (map_of (codes "u") 3 Uniform ∷ map_of (codes "o") 3 (Lists ((0 ∷ []) ∷ (2 ∷ 0 ∷ []) ∷ [])) ∷ [])
    (vector_of (codes "x") 0 read ∷ []) (parts_of (codes "p") 1 (Fill (negsuc 4)) ∷ []) (step.Import (codes "i") 0 1 AbsMax ∷ step.Print 2 ∷ [])

abbrev imported_sheets : List Sheet
imported_sheets = part 0 3 (shown 0 0 (pos 5) ∷ []) ∷ part 1 3 (shown 0 0 (pos 5) ∷ shown 2 0 (pos 100) ∷ []) ∷ []

import_result : printed imported (x_file ∷ []) own_pick ≡ imported_sheets
import_result = refl

import_complete : printed_after imported (x_file ∷ []) (run imported (x_file ∷ []) (letter_names imported (x_file ∷ []))) ≡ imported_sheets
unfolding head_bytes bytes_of_word
import_complete = refl

-- spread over lists that overlap, then exported
abbrev overlapping : MapForm
overlapping = Lists ((0 ∷ 1 ∷ []) ∷ (1 ∷ 2 ∷ []) ∷ [])

abbrev spread_out : ℤ → List Step → Job
spread_out v steps = job_of 2 (map_of (codes "u") 3 Uniform ∷ map_of (codes "o") 3 overlapping ∷ [])
    (vector_of (codes "x") 0 (Fill (pos 1)) ∷ vector_of (codes "w") 0 (Fill v) ∷ []) [] (step.Spread (codes "p") 0 1 ∷ steps)

abbrev spread_sheets : List Sheet
spread_sheets = part 0 3 (shown 0 0 (pos 1) ∷ shown 1 0 (pos 1) ∷ []) ∷ part 1 3 (shown 1 0 (pos 1) ∷ shown 2 0 (pos 1) ∷ []) ∷ []

spread_result : printed (spread_out (pos 0) (step.Print 2 ∷ [])) [] own_pick ≡ spread_sheets
spread_result = refl

spread_complete : printed_after (spread_out (pos 0) (step.Print 2 ∷ [])) [] (run (spread_out (pos 0) (step.Print 2 ∷ [])) [] (letter_names (spread_out (pos 0) []) [])) ≡ spread_sheets
unfolding head_bytes bytes_of_word
spread_complete = refl

abbrev there_and_back : Mode → ℤ → Job
there_and_back mode v = spread_out v (step.Export (codes "e") 2 1 mode ∷ step.Print 3 ∷ [])

added : printed (there_and_back Add (pos 0)) [] own_pick ≡ array 3 (shown 0 0 (pos 1) ∷ shown 1 0 (pos 2) ∷ shown 2 0 (pos 1) ∷ [])
added = refl

added_phases : length (phase_lines_of (there_and_back Add (pos 0))) ≡ 4
added_phases = refl

added_letters : length (letter_names (there_and_back Add (pos 0)) []) ≡ 6
added_letters = refl

added_complete : printed_after (there_and_back Add (pos 0)) [] (run (there_and_back Add (pos 0)) [] (letter_names (there_and_back Add (pos 0)) [])) ≡ array 3 (shown 0 0 (pos 1) ∷ shown 1 0 (pos 2) ∷ shown 2 0 (pos 1) ∷ [])
unfolding head_bytes bytes_of_word
added_complete = refl

greatest : printed (there_and_back AbsMax (pos 0)) [] own_pick ≡ array 3 (shown 0 0 (pos 1) ∷ shown 1 0 (pos 1) ∷ shown 2 0 (pos 1) ∷ [])
greatest = refl

zero_complete : printed_after (there_and_back Zero (pos 7)) [] (run (there_and_back Zero (pos 7)) [] (letter_names (there_and_back Zero (pos 7)) [])) ≡ array 3 (shown 0 0 (pos 0) ∷ shown 1 0 (pos 0) ∷ shown 2 0 (pos 0) ∷ [])
unfolding head_bytes bytes_of_word
zero_complete = refl

-- ranks that disagree: the letter that was delivered last is picked, and the own part's number only where none came
abbrev conflict : MapForm → Job
conflict o = job_of 3 (map_of (codes "o") 1 o ∷ map_of (codes "t") 1 (Lists ([] ∷ [] ∷ (0 ∷ []) ∷ [])) ∷ [])
    (vector_of (codes "v") 1 (Fill (pos 1)) ∷ []) (parts_of (codes "p") 0 (Files (codes "0" ∷ codes "1" ∷ codes "2" ∷ [])) ∷ []) (step.Export (codes "e") 1 0 Replace ∷ step.Print 2 ∷ [])

abbrev two_lists : MapForm
two_lists = Lists ((0 ∷ []) ∷ (0 ∷ []) ∷ [] ∷ [])

abbrev three_lists : MapForm
three_lists = Lists ((0 ∷ []) ∷ (0 ∷ []) ∷ (0 ∷ []) ∷ [])

abbrev two_files : List File
two_files = file 1 1 (entry 0 0 (pos 5) ∷ []) ∷ file 1 1 (entry 0 0 (pos 7) ∷ []) ∷ file 0 1 [] ∷ []

abbrev three_files : List File
three_files = file 1 1 (entry 0 0 (pos 5) ∷ []) ∷ file 1 1 (entry 0 0 (pos 7) ∷ []) ∷ file 1 1 (entry 0 0 (pos 9) ∷ []) ∷ []

-- the names of the first four phases, and then these
abbrev first_four : List Name → List Name
first_four rest =
    name 0 0 1 ∷ name 0 0 2 ∷ name 0 1 0 ∷ name 0 1 2 ∷ name 0 2 0 ∷ name 0 2 1
    ∷ name 1 0 1 ∷ name 1 0 2 ∷ name 1 1 0 ∷ name 1 1 2 ∷ name 1 2 0 ∷ name 1 2 1
    ∷ name 2 0 1 ∷ name 2 0 2 ∷ name 2 1 0 ∷ name 2 1 2 ∷ name 2 2 0 ∷ name 2 2 1
    ∷ name 3 0 1 ∷ name 3 0 2 ∷ name 3 1 0 ∷ name 3 1 2 ∷ name 3 2 0 ∷ name 3 2 1 ∷ rest

conflict_phases : map (λ p. p.kind) (phase_lines_of (conflict two_lists)) ≡ Reg ∷ Ask ∷ Tell ∷ Offer ∷ Nums ∷ []
conflict_phases = refl

conflict_names : letter_names (conflict two_lists) two_files ≡ first_four (name 4 0 2 ∷ name 4 1 2 ∷ [])
conflict_names = refl

second_last : printed (conflict two_lists) two_files (pick_of (conflict two_lists) two_files (first_four (name 4 0 2 ∷ name 4 1 2 ∷ []))) ≡ array 1 (shown 0 0 (pos 7) ∷ [])
second_last = refl

second_last_run : printed_after (conflict two_lists) two_files (run (conflict two_lists) two_files (first_four (name 4 0 2 ∷ name 4 1 2 ∷ []))) ≡ array 1 (shown 0 0 (pos 7) ∷ [])
unfolding head_bytes bytes_of_word
second_last_run = refl

first_last : printed (conflict two_lists) two_files (pick_of (conflict two_lists) two_files (first_four (name 4 1 2 ∷ name 4 0 2 ∷ []))) ≡ array 1 (shown 0 0 (pos 5) ∷ [])
first_last = refl

first_last_run : printed_after (conflict two_lists) two_files (run (conflict two_lists) two_files (first_four (name 4 1 2 ∷ name 4 0 2 ∷ []))) ≡ array 1 (shown 0 0 (pos 5) ∷ [])
unfolding head_bytes bytes_of_word
first_last_run = refl

own_loses : printed (conflict three_lists) three_files (pick_of (conflict three_lists) three_files (first_four (name 4 1 2 ∷ name 4 0 2 ∷ []))) ≡ array 1 (shown 0 0 (pos 5) ∷ [])
own_loses = refl

own_loses_run : printed_after (conflict three_lists) three_files (run (conflict three_lists) three_files (first_four (name 4 1 2 ∷ name 4 0 2 ∷ []))) ≡ array 1 (shown 0 0 (pos 5) ∷ [])
unfolding head_bytes bytes_of_word
own_loses_run = refl

-- a repeat counts by its first delivery
repeated : printed (conflict two_lists) two_files (pick_of (conflict two_lists) two_files (first_four (name 4 0 2 ∷ name 4 1 2 ∷ name 4 0 2 ∷ []))) ≡ array 1 (shown 0 0 (pos 7) ∷ [])
repeated = refl

-- a vector that lacks an index of the parts
abbrev partly : Job
partly = job_of 2 (map_of (codes "o") 2 (Lists ((0 ∷ 1 ∷ []) ∷ (1 ∷ []) ∷ [])) ∷ map_of (codes "t") 2 (Lists ((0 ∷ []) ∷ [] ∷ [])) ∷ [])
    (vector_of (codes "v") 1 (Fill (pos 1)) ∷ []) (parts_of (codes "p") 0 (Files (codes "0" ∷ codes "1" ∷ [])) ∷ []) (step.Export (codes "e") 1 0 Add ∷ step.Print 2 ∷ [])

abbrev partly_files : List File
partly_files = file 2 1 (entry 0 0 (pos 4) ∷ entry 1 0 (pos 5) ∷ []) ∷ file 1 1 (entry 0 0 (pos 6) ∷ []) ∷ []

skipped : printed partly partly_files own_pick ≡ places 2 1 (shown 0 0 (pos 5) ∷ [])
skipped = refl

skipped_run : printed_after partly partly_files (run partly partly_files (letter_names partly partly_files)) ≡ places 2 1 (shown 0 0 (pos 5) ∷ [])
unfolding head_bytes bytes_of_word
skipped_run = refl

-- the row laws
to_cyclic_made : AreMade to_cyclic (x_file ∷ []) own_pick
to_cyclic_made = refl

from_cyclic_made : AreMade from_cyclic (x_file ∷ []) own_pick
from_cyclic_made = refl

imported_made : AreMade imported (x_file ∷ []) own_pick
imported_made = refl

there_and_back_made : AreMade (there_and_back Add (pos 0)) [] own_pick
there_and_back_made = refl

conflict_made : AreMade (conflict three_lists) three_files (pick_of (conflict three_lists) three_files (first_four (name 4 1 2 ∷ name 4 0 2 ∷ [])))
conflict_made = refl

-- also for other picks
conflict_own : AreMade (conflict three_lists) three_files (λ k i j. 2)
conflict_own = refl

partly_made : AreMade partly partly_files own_pick
partly_made = refl

-- over a wire that adds 1 to the numbers of DATA letters: rank 0 keeps index 0
twisted_move : printed_after to_cyclic (x_file ∷ []) (twisted_run to_cyclic (x_file ∷ [])) ≡ array 3 (shown 0 0 (pos 1) ∷ shown 1 0 (pos 11) ∷ shown 2 0 (pos 101) ∷ [])
unfolding head_bytes bytes_of_word
twisted_move = refl

twisted_export : printed_after (there_and_back Add (pos 0)) [] (twisted_run (there_and_back Add (pos 0)) []) ≡ array 3 (shown 0 0 (pos 1) ∷ shown 1 0 (pos 4) ∷ shown 2 0 (pos 1) ∷ [])
unfolding head_bytes bytes_of_word
twisted_export = refl

-- rank 0 alone: what it posts at first, after a WANT letter for index 1, and its piece after a DATA letter with 55 at index 2
abbrev zeros : ℕ → List ℕ → List ℕ
zeros ℕ.zero rest = rest
zeros (ℕ.suc n) rest = 0 ∷ zeros n rest

abbrev protocol : Protocol
protocol = job_protocol weighed_semiring weighed_conversions to_cyclic (x_file ∷ [])

-- the letters of a rank that can be posted where these were given to it
abbrev posts : Protocol → ℕ → List Letter → List Letter
posts P p g = map (λ n. (n, P.content n g)) (filter (λ n. (n.from == p) && is_ready P (names_of g) n) P.names)

abbrev want : ℕ → List ℕ
want g = 20 ∷ 1 ∷ zeros 7 (g ∷ zeros 7 [])

abbrev data_of : ℕ → ℕ → List ℕ
data_of g v = 22 ∷ 1 ∷ zeros 7 (g ∷ zeros 7 (v ∷ zeros 15 (v ∷ zeros 15 [])))

first_post : posts protocol 0 [] ≡ (name 0 0 1, want 2) ∷ []
unfolding head_bytes bytes_of_word
first_post = refl

second_post : posts protocol 0 ((name 0 1 0, want 1) ∷ []) ≡ (name 0 0 1, want 2) ∷ (name 1 0 1, data_of 1 10) ∷ []
unfolding head_bytes bytes_of_word
second_post = refl

own_piece : map (shown_cell weighed_conversions) (cells_of 3 1 (piece weighed_semiring weighed_conversions to_cyclic (x_file ∷ []) 0 1 ((name 0 1 0, want 1) ∷ (name 1 1 0, data_of 2 55) ∷ [])))
    ≡ shown 0 0 (pos 1) ∷ shown 2 0 (pos 55) ∷ []
unfolding head_bytes bytes_of_word
own_piece = refl
