-- The names of a job's letters are those between each two different ranks, phase by phase.
use Rattle.std.proofs.Common.{◌≡◌, ℕ, zero, suc, ◌<◌, ◌+◌, ◌==◌, not, List, [], ◌∷◌, ◌++◌, map, filter, length, Some, get_or, refl, ap, ◌∙◌, arith}
use Rattle.std.specs.Prelude.{slice_get}
use Rattle.std.specs.List.{flat_map, range_with_len}
use Rattle.tables.specs.Indices.{count_from}
use Rattle.mm_text.specs.Reading.{File}
use Rattle.rank_phases.specs.Pairs.{all_pairs, sent_names, to_others}
use Rattle.rank_phases.specs.Phases.{names_from as posted_by, names_to}
use Rattle.rank_phases.proofs.PairNames.{posts-of, awaits-of}
use Rattle.model_defs.specs.declared.job.Job.{Job}
use Rattle.model_defs.specs.declared.phase.Phase.{Phase}
use Rattle.model_defs.specs.Phases.{phases}
use Rattle.model_defs.specs.Letters.{names_from, names_of_phase, names_of_phases}
use Rattle.job_phases.specs.Laws.{is_sent, phase_at, NamesAreByPhase, OthersArePosted, OthersAreAwaited}

count-range : (n k : ℕ) → count_from n k ≡ range_with_len n k
count-range n zero = refl
count-range n (suc k) = ap (λ xs. n ∷ xs) (count-range (n + 1) k)

same-from : (P n p : ℕ) → names_from P n p ≡ to_others P n p
same-from P n p = λ i. map (λ q. record { phase = n; from = p; to = q }) (filter (λ q. not (p == q)) (count-range 0 P i))

same-pairs : (P n : ℕ) → names_of_phase P n ≡ all_pairs P n
same-pairs P n = λ i. flat_map (λ p. same-from P n p i) (count-range 0 P i)

module _ (job : Job) (files : List File) where
  same-names : (n : ℕ) (xs : List Phase) → names_of_phases job files n xs ≡ sent_names job.ranks n (map (is_sent job files) xs)
  same-names n [] = refl
  same-names n (x ∷ xs) = λ i. filter (is_sent job files x) (same-pairs job.ranks n i) ++ same-names (n + 1) xs i

  test-at : (xs : List Phase) (n : ℕ) (d : Phase) → n < length xs → slice_get (map (is_sent job files) xs) n ≡ Some (is_sent job files (get_or xs n d))
  test-at [] n d l = absurd (omega arith)
  test-at (x ∷ xs) zero d l = refl
  test-at (x ∷ xs) (suc n) d l = test-at xs n d (omega arith)

pub names-by-phase : NamesAreByPhase
names-by-phase = λ job files. same-names job files 0 (phases job)

pub others-posted : OthersArePosted
others-posted = λ job files n p l within.
    ap (λ ns. posted_by ns n p) (names-by-phase job files)
    ∙ posts-of job.ranks (map (is_sent job files) (phases job)) n p (is_sent job files (phase_at job n)) (test-at job files (phases job) n _ l) within

pub others-awaited : OthersAreAwaited
others-awaited = λ job files n p l within.
    ap (λ ns. names_to ns n p) (names-by-phase job files)
    ∙ awaits-of job.ranks (map (is_sent job files) (phases job)) n p (is_sent job files (phase_at job n)) (test-at job files (phases job) n _ l) within
