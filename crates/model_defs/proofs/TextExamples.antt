-- What jobs print, as text, and their listings; and which values are over.
use Rattle.std.specs.Prelude.{◌≡◌, ℕ, ℤ, pos, negsuc, Bool, true, false, List, [], ◌∷◌, ◌++◌, codes, None, refl}
use Rattle.std.specs.Fmt.{digits}
use Rattle.scalar_laws.specs.Weighed.{weighed_semiring, weighed_conversions}
use Rattle.mm_text.specs.Reading.{File}
use Rattle.mm_text.specs.Written.{coordinate_text, array_text}
use Rattle.combine_modes.specs.declared.mode.Mode.TheVariants.{Add}
use Rattle.model_defs.specs.declared.job.Job.{Job}
use Rattle.model_defs.specs.declared.job.MapForm.TheVariants.{Uniform, Lists}
use Rattle.model_defs.specs.declared.job.Origin.TheVariants.{Files, Fill}
use Rattle.model_defs.specs.declared.job.Step.TheVariants as step
use Rattle.model_defs.specs.Eval.{eval}
use Rattle.model_defs.specs.Sheets.{printed_text, is_any_over}
use Rattle.model_defs.specs.Traffic.{traffic_text}
use Rattle.model_defs.proofs.ExampleJobs.{entry, file, map_of, vector_of, parts_of, read, own_pick, a_and_x, files, x_file, apply_a}
use Rattle.model_defs.proofs.MoveExamples.{job_of, to_cyclic}

abbrev text_of : Job → List File → List ℕ
text_of job given = printed_text weighed_conversions job (eval weighed_semiring weighed_conversions job given own_pick)

abbrev over : Job → List File → Bool
over job given = is_any_over weighed_conversions job (eval weighed_semiring weighed_conversions job given own_pick)

abbrev line : List ℕ → List ℕ
line text = text ++ 10 ∷ []

abbrev array_banner : List ℕ
array_banner = line (codes "%%MatrixMarket matrix array integer general")

abbrev places_banner : List ℕ
places_banner = line (codes "%%MatrixMarket matrix coordinate integer general")

-- a matrix applied to a vector
abbrev applied : Job
applied = a_and_x 2 Uniform false (apply_a false ∷ step.Print 2 ∷ [])

applied_text : text_of applied files ≡ array_banner ++ line (codes "3 1") ++ line (codes "502") ++ line (codes "30") ++ line (codes "-1")
unfolding array_text digits
applied_text = refl

applied_listing : traffic_text applied files
    ≡ line (codes "traffic 4 8") ++ line (codes "phase 0 OFFER A") ++ line (codes "letter 0 0 1 1") ++ line (codes "letter 0 1 0 2")
    ++ line (codes "phase 1 ROWS A") ++ line (codes "letter 1 0 1 1") ++ line (codes "letter 1 1 0 2")
    ++ line (codes "phase 2 WANT A") ++ line (codes "letter 2 0 1 1") ++ line (codes "letter 2 1 0 1")
    ++ line (codes "phase 3 DATA y") ++ line (codes "letter 3 0 1 1") ++ line (codes "letter 3 1 0 1")
unfolding digits
applied_listing = refl

-- a vector on another map
moved_text : text_of to_cyclic (x_file ∷ []) ≡ array_banner ++ line (codes "3 1") ++ line (codes "1") ++ line (codes "10") ++ line (codes "100")
unfolding array_text digits
moved_text = refl

moved_listing : traffic_text to_cyclic (x_file ∷ [])
    ≡ line (codes "traffic 2 4") ++ line (codes "phase 0 WANT y") ++ line (codes "letter 0 0 1 1") ++ line (codes "letter 0 1 0 1")
    ++ line (codes "phase 1 DATA y") ++ line (codes "letter 1 0 1 1") ++ line (codes "letter 1 1 0 1")
unfolding digits
moved_listing = refl

-- a split matrix without a statement
split_listing : traffic_text (a_and_x 2 Uniform true []) files
    ≡ line (codes "traffic 2 4") ++ line (codes "phase 0 WANT A") ++ line (codes "letter 0 0 1 0") ++ line (codes "letter 0 1 0 1")
    ++ line (codes "phase 1 OFFER A") ++ line (codes "letter 1 0 1 1") ++ line (codes "letter 1 1 0 2")
unfolding digits
split_listing = refl

-- a matrix alone
matrix_text : text_of (a_and_x 2 Uniform false (step.Print 1 ∷ [])) files
    ≡ places_banner ++ line (codes "3 3 4") ++ line (codes "1 1 2") ++ line (codes "1 3 5") ++ line (codes "2 2 3") ++ line (codes "3 1 -1")
unfolding coordinate_text digits
matrix_text = refl

-- twice a vector less the vector
updated_text : text_of (job_of 2 (map_of (codes "u") 3 Uniform ∷ []) (vector_of (codes "x") 0 read ∷ []) [] (step.Update (codes "z") 0 0 (pos 2) (negsuc 0) ∷ step.Print 1 ∷ [])) (x_file ∷ [])
    ≡ array_banner ++ line (codes "3 1") ++ line (codes "1") ++ line (codes "10") ++ line (codes "100")
unfolding array_text digits
updated_text = refl

-- parts, scaled
scaled_text : text_of (job_of 2 (map_of (codes "u") 3 Uniform ∷ []) [] (parts_of (codes "p") 0 (Fill (pos 5)) ∷ []) (step.Scale (codes "q") 0 (negsuc 1) ∷ step.Print 1 ∷ [])) []
    ≡ places_banner ++ line (codes "% part 0") ++ line (codes "3 1 2") ++ line (codes "1 1 -10") ++ line (codes "2 1 -10")
    ++ places_banner ++ line (codes "% part 1") ++ line (codes "3 1 1") ++ line (codes "3 1 -10")
unfolding coordinate_text digits
scaled_text = refl

-- the sum of two parts, the greatest number that is shown and another one
abbrev greatest : ℤ
greatest = pos 170141183460469231731687303715884105727

abbrev two_parts : Job
two_parts = job_of 2 (map_of (codes "o") 1 (Lists ((0 ∷ []) ∷ (0 ∷ []) ∷ [])) ∷ map_of (codes "u") 1 Uniform ∷ [])
    (vector_of (codes "v") 1 (Fill (pos 0)) ∷ []) (parts_of (codes "p") 0 (Files (codes "0" ∷ codes "1" ∷ [])) ∷ []) (step.Export (codes "e") 1 0 Add ∷ step.Print 2 ∷ [])

abbrev part_files : ℤ → List File
part_files other = file 1 1 (entry 0 0 greatest ∷ []) ∷ file 1 1 (entry 0 0 other ∷ []) ∷ []

greatest_text : text_of two_parts (part_files (pos 0)) ≡ array_banner ++ line (codes "1 1") ++ line (codes "170141183460469231731687303715884105727")
unfolding array_text digits
greatest_text = refl

not_over : over two_parts (part_files (pos 0)) ≡ false
not_over = refl

-- over by its weight, though the sum is 0
sum_over : over two_parts (part_files (negsuc 170141183460469231731687303715884105726)) ≡ true
sum_over = refl

-- the greatest number times itself, times 0 and times 1
abbrev multiplied : ℤ → Job
multiplied alpha = record {
  ranks = 1;
  maps = map_of (codes "u") 1 Uniform ∷ [];
  vectors = vector_of (codes "x") 0 read ∷ [];
  parts = [];
  matrices = record { name = codes "A"; split = false; rows = 0; domain = 0; file = codes "a.mtx" } ∷ [];
  steps = step.Apply (codes "y") 1 0 None alpha (pos 0) false ∷ step.Print 2 ∷ [];
}

abbrev greatest_files : List File
greatest_files = file 1 1 (entry 0 0 greatest ∷ []) ∷ file 1 1 (entry 0 0 greatest ∷ []) ∷ []

times_nought : text_of (multiplied (pos 0)) greatest_files ≡ array_banner ++ line (codes "1 1") ++ line (codes "0")
unfolding array_text digits
times_nought = refl

times_nought_fits : over (multiplied (pos 0)) greatest_files ≡ false
times_nought_fits = refl

times_one_over : over (multiplied (pos 1)) greatest_files ≡ true
times_one_over = refl
