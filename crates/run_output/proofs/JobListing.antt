-- The listing of a job's lines is the traffic listing of the job.
use Rattle.std.proofs.Common.{◌≡◌, ℕ, suc, ◌+◌, ◌<◌, Bool, true, ◌==◌, List, [], ◌∷◌, ◌++◌, map, length, take, drop, codes, decimal, refl, ap, ◌∙◌, arith}
use Rattle.std.specs.List.{flat_map, list_all}
use Rattle.std.proofs.lemmas.Bool.{and_from, eq-eqb}
use Rattle.std.proofs.lemmas.List.{take_at, drop_at}
use Rattle.tables.specs.Indices.{count_from}
use Rattle.mm_text.specs.Reading.{File}
use Rattle.mm_text.specs.Written.{lines_text}
use Rattle.model_defs.specs.declared.job.Job.{Job}
use Rattle.model_defs.specs.declared.sheets.LetterLine.{LetterLine}
use Rattle.model_defs.specs.declared.sheets.PhaseLine.{PhaseLine}
use Rattle.outside.specs.declared.name.Name.{Name}
use Rattle.model_defs.specs.declared.phase.Phase.{Phase}
use Rattle.model_defs.specs.Phases.{phases}
use Rattle.model_defs.specs.Letters.{names_from, names_of_phase, others, phase_names}
use Rattle.model_defs.specs.Traffic.{count_words, letter_lines, letter_lines_at, letter_lines_from, listing_from, phase_line, phase_lines_from, phase_lines_of, traffic_text}
use Rattle.model_defs.proofs.Filters.{filter-all}
use Rattle.model_defs.proofs.Names.{all-append, all-map}
use Rattle.run_output.specs.Listings.{is_of_phase, leading, listing, listing_lines, phase_lines_with}
use Rattle.run_output.proofs.Leading.{leading-append, leading-other}

abbrev pair : ℕ → ℕ → ℕ → Name
pair phase from to = record { phase = phase; from = from; to = to }

-- the names of a phase are of this phase
abbrev is_of : ℕ → Name → Bool
is_of n m = m.phase == n

from-phase : (n p : ℕ) (rs : List ℕ) → list_all (is_of n) (map (λ q. pair n p q) rs) ≡ true
from-phase n p [] = refl
from-phase n p (r ∷ rs) = and_from (n == n) _ (eq-eqb n n refl) (from-phase n p rs)

of-phase : (P n : ℕ) (ps : List ℕ) → list_all (is_of n) (flat_map (names_from P n) ps) ≡ true
of-phase P n [] = refl
of-phase P n (p ∷ ps) = all-append (is_of n) (names_from P n p) (flat_map (names_from P n) ps) (from-phase n p (others P p)) (of-phase P n ps)

module _ (job : Job) (files : List File) where
  lines-of-phase : (n : ℕ) (phase : Phase) → list_all (is_of_phase n) (letter_lines_at job files n phase) ≡ true
  lines-of-phase n phase =
      all-map (is_of_phase n) (is_of n) _ (λ m e. e) (phase_names job files n phase)
      (filter-all (is_of n) _ (names_of_phase job.ranks n) (of-phase job.ranks n (count_from 0 job.ranks)))

  none-before : (n m : ℕ) (ps : List Phase) → n < m → leading n (letter_lines_from job files m ps) ≡ 0
  none-before n m [] lt = refl
  none-before n m (p ∷ ps) lt =
      leading-other n m (letter_lines_at job files m p) (letter_lines_from job files (m + 1) ps) lt (lines-of-phase m p) (none-before n (m + 1) ps (omega arith))

  listing-from : (n : ℕ) (ps : List Phase) → listing_lines (phase_lines_from job n ps) (letter_lines_from job files n ps) ≡ listing_from job files n ps
  listing-from n [] = refl
  listing-from n (p ∷ ps) =
      let here = letter_lines_at job files n p in
      let rest = letter_lines_from job files (n + 1) ps in
      let many : leading n (here ++ rest) ≡ length here = leading-append n here rest (lines-of-phase n p) (none-before n (n + 1) ps (omega arith)) in
      let step : ℕ → List (List (List ℕ)) = λ k. phase_lines_with (phase_line job n p) (take k (here ++ rest)) ++ listing_lines (phase_lines_from job (n + 1) ps) (drop k (here ++ rest)) in
      ap step many
      ∙ ap (λ (ls : List LetterLine). phase_lines_with (phase_line job n p) ls ++ listing_lines (phase_lines_from job (n + 1) ps) (drop (length here) (here ++ rest))) (take_at here rest (length here) refl)
      ∙ ap (λ (ls : List LetterLine). phase_lines_with (phase_line job n p) here ++ listing_lines (phase_lines_from job (n + 1) ps) ls) (drop_at here rest (length here) refl)
      ∙ ap (λ ls. phase_lines_with (phase_line job n p) here ++ ls) (listing-from (n + 1) ps)

  lines-many : (n : ℕ) (ps : List Phase) → length (phase_lines_from job n ps) ≡ length ps
  lines-many n [] = refl
  lines-many n (p ∷ ps) = ap suc (lines-many (n + 1) ps)

  pub job-listing : listing (phase_lines_of job) (letter_lines job files) ≡ traffic_text job files
  job-listing =
      ap (λ k. lines_text ((codes "traffic" ∷ decimal k ∷ decimal (length (letter_lines job files)) ∷ []) ∷ listing_lines (phase_lines_of job) (letter_lines job files))) (lines-many 0 (phases job))
      ∙ ap (λ ls. lines_text (count_words job files ∷ ls)) (listing-from 0 (phases job))

pub listing-of : (job : Job) (files : List File) (ps : List PhaseLine) (ls : List LetterLine) → ps ≡ phase_lines_of job → ls ≡ letter_lines job files → listing ps ls ≡ traffic_text job files
listing-of job files ps ls phases letters =
    ap (λ (p : List PhaseLine). listing p ls) phases ∙ ap (λ (l : List LetterLine). listing (phase_lines_of job) l) letters ∙ job-listing job files
