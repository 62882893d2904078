-- The layout of consecutive runs of stated lengths.
use Rattle.std.proofs.Common.{◌≡◌, ℕ, zero, suc, ◌+◌, ◌<◌, ◌≤◌, true, List, [], ◌∷◌, ◌++◌, map, sum, take, length, get_or, Some, refl, sym, ap, ◌∙◌, subst, arith}
use Rattle.std.specs.List.{concat, range_with_len}
use Rattle.std.proofs.lemmas.List.{map-append}
use Rattle.std.proofs.lemmas.List.Sums.{sum_by-cons}
use Rattle.map_core.specs.Layouts.{stands, AreDistinct, rank_list, owner, IsLayout, IsOneToOne, IsTotal}
use Rattle.map_core.specs.Blocks.{runs_from, blocks_layout}
use Rattle.map_core.specs.Strides.{stride_list}
use Rattle.map_core.proofs.Members.{stands-concat}
use Rattle.map_core.proofs.Owners.{owner_from-only}
use Rattle.map_core.proofs.Runs.{stands_in_run, within_run, AreDistinct-run, run-append}
use Rattle.map_core.proofs.Strides.{stride-run}

sum-cons : (x : ℕ) (xs : List ℕ) → sum (x ∷ xs) ≡ x + sum xs
sum-cons x xs = sum_by-cons (λ y. y) x xs

-- the runs, one after another, are one run
pub runs-joined : (g : ℕ) (counts : List ℕ) → concat (runs_from g counts) ≡ range_with_len g (sum counts)
runs-joined g [] = refl
runs-joined g (count ∷ counts) =
    ap (λ xs. range_with_len g count ++ xs) (runs-joined (g + count) counts)
    ∙ run-append g count (sum counts)
    ∙ ap (range_with_len g) (sym (sum-cons count counts))

pub length-runs : (g : ℕ) (counts : List ℕ) → length (runs_from g counts) ≡ length counts
length-runs g [] = refl
length-runs g (count ∷ counts) = ap suc (length-runs (g + count) counts)

-- the run of a place begins after those before it; past the last one it is empty
pub run_at : (g : ℕ) (counts : List ℕ) (p : ℕ) → get_or (runs_from g counts) p [] ≡ range_with_len (g + sum (take p counts)) (get_or counts p 0)
run_at g [] p = refl
run_at g (count ∷ counts) zero = ap (λ a. range_with_len a count) (omega arith)
run_at g (count ∷ counts) (suc p) =
    run_at (g + count) counts p ∙ ap (λ a. range_with_len a (get_or counts p 0)) start
  where
    start : g + count + sum (take p counts) ≡ g + sum (take (suc p) (count ∷ counts))
    start = let e = sum-cons count (take p counts) in omega arith

pub sum-more : (counts : List ℕ) (p : ℕ) → sum (take (suc p) counts) ≡ sum (take p counts) + get_or counts p 0
sum-more [] zero = refl
sum-more [] (suc p) = refl
sum-more (count ∷ counts) zero = omega (arith, sum-cons count [])
sum-more (count ∷ counts) (suc p) =
    let rest = sum-more counts p in
    let left : sum (take (suc (suc p)) (count ∷ counts)) ≡ count + sum (take (suc p) counts) = sum-cons count (take (suc p) counts) in
    let right : sum (take (suc p) (count ∷ counts)) ≡ count + sum (take p counts) = sum-cons count (take p counts) in
    omega arith

pub joined-blocks : (counts : List ℕ) → concat (blocks_layout counts).lists ≡ range_with_len 0 (sum counts)
joined-blocks counts = runs-joined 0 counts

pub one_to_one-blocks : (counts : List ℕ) → IsOneToOne (blocks_layout counts)
one_to_one-blocks counts = subst AreDistinct (sym (joined-blocks counts)) (AreDistinct-run 0 (sum counts))

pub total-blocks : (counts : List ℕ) → IsTotal (blocks_layout counts)
total-blocks counts g h = ap (stands g) (joined-blocks counts) ∙ stands_in_run g 0 (sum counts) (omega arith) (omega arith)

pub is_layout-blocks : (counts : List ℕ) → IsLayout (blocks_layout counts)
is_layout-blocks counts = record { distinct = distinct; below = below }
  where
    distinct : (p : ℕ) → AreDistinct (rank_list (blocks_layout counts) p)
    distinct p = subst AreDistinct (sym (run_at 0 counts p)) (AreDistinct-run (0 + sum (take p counts)) (get_or counts p 0))

    below : (p g : ℕ) → stands g (rank_list (blocks_layout counts) p) ≡ true → g < sum counts
    below p g h =
        let on : stands g (range_with_len 0 (sum counts)) ≡ true = sym (ap (stands g) (joined-blocks counts)) ∙ stands-concat g (blocks_layout counts).lists p h in
        let within = within_run g 0 (sum counts) on in
        omega arith

-- the rank in whose run an index is owns it
pub owner-blocks : (counts : List ℕ) (g p : ℕ) → sum (take p counts) ≤ g → g < sum (take (p + 1) counts) → owner (blocks_layout counts) g ≡ Some p
owner-blocks counts g p low high =
    let more : p + 1 ≡ suc p = omega arith in
    let next : sum (take (p + 1) counts) ≡ sum (take p counts) + get_or counts p 0 = ap (λ k. sum (take k counts)) more ∙ sum-more counts p in
    owner_from-only 0 (blocks_layout counts).lists g p (one_to_one-blocks counts)
    (ap (stands g) (run_at 0 counts p) ∙ stands_in_run g (0 + sum (take p counts)) (get_or counts p 0) (omega arith) (omega arith))
    ∙ ap Some (omega arith)

-- one run more at the end
pub runs-push : (g : ℕ) (counts : List ℕ) (count : ℕ) → runs_from g (counts ++ count ∷ []) ≡ runs_from g counts ++ range_with_len (g + sum counts) count ∷ []
runs-push g [] count = ap (λ a. range_with_len a count ∷ []) (omega arith)
runs-push g (c ∷ counts) count =
    ap (λ ls. range_with_len g c ∷ ls) (runs-push (g + c) counts count ∙ ap (λ a. runs_from (g + c) counts ++ range_with_len a count ∷ []) start)
  where
    start : g + c + sum counts ≡ g + sum (c ∷ counts)
    start = let e = sum-cons c counts in omega arith

-- the maps of the first counts, after the map of one more is pushed
pub blocks_push : {X : Type 0} (value : X → List ℕ) (first count : ℕ) (done more : List ℕ) (before after : List X) (x : X)
    → more ≡ done ++ count ∷ [] → after ≡ before ++ x ∷ [] → map value before ≡ runs_from 0 done
    → value x ≡ stride_list first 1 count → first ≡ sum done
    → map value after ≡ runs_from 0 more
blocks_push value first count done more before after x longer pushed kept run at =
    ap (map value) pushed
    ∙ map-append value before (x ∷ [])
    ∙ ap (λ ls. ls ++ value x ∷ []) kept
    ∙ ap (λ l. runs_from 0 done ++ l ∷ []) (run ∙ stride-run first count ∙ ap (λ a. range_with_len a count) start)
    ∙ sym (runs-push 0 done count)
    ∙ ap (runs_from 0) (sym longer)
  where
    start : first ≡ 0 + sum done
    start = omega arith
