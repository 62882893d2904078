-- Lists that are made index by index.
use Rattle.std.proofs.Common.{◌≡◌, ℕ, zero, suc, ◌+◌, ◌<◌, List, [], ◌∷◌, ◌++◌, All, map, length, get_or, refl, sym, ap, ◌∙◌, arith}
use Rattle.std.specs.List.{flat_map}
use Rattle.std.proofs.lemmas.List.{flat_map_more, get_or-map, length-map, map_push}
use Rattle.std.proofs.lemmas.List.Elements.{All-append, All-nil}
use Rattle.tables.specs.Indices.{count_from}
use Rattle.tables.proofs.Counting.{count_from-append}

count-more : (n : ℕ) → count_from 0 (n + 1) ≡ count_from 0 n ++ n ∷ []
count-more n = count_from-append 0 n 1 ∙ ap (λ k. count_from 0 n ++ k ∷ []) (omega arith)

pub map-more : {A : Type 0} (f : ℕ → A) (n : ℕ) (xs : List A) → xs ≡ map f (count_from 0 n) → xs ++ f n ∷ [] ≡ map f (count_from 0 (n + 1))
map-more f n xs is = ap (λ ys. ys ++ f n ∷ []) is ∙ sym (map_push f (count_from 0 n) n) ∙ ap (map f) (sym (count-more n))

pub flat-more : {A : Type 0} (f : ℕ → List A) (n : ℕ) (xs : List A) → xs ≡ flat_map f (count_from 0 n) → xs ++ f n ≡ flat_map f (count_from 0 (n + 1))
flat-more f n xs is = ap (λ ys. ys ++ f n) is ∙ flat_map_more f [] (count_from 0 n) n ∙ ap (flat_map f) (sym (count-more n))

length-count : (n k : ℕ) → length (count_from n k) ≡ k
length-count n zero = refl
length-count n (suc k) = ap suc (length-count (n + 1) k)

at-count : (n k i d : ℕ) → i < k → get_or (count_from n k) i d ≡ n + i
at-count n zero i d l = absurd (omega arith)
at-count n (suc k) zero d l = omega arith
at-count n (suc k) (suc i) d l = at-count (n + 1) k i d (omega arith) ∙ omega arith

-- the list of f i for i below n
pub length-made : {A : Type 0} (f : ℕ → A) (n : ℕ) → length (map f (count_from 0 n)) ≡ n
length-made f n = length-map (count_from 0 n) f ∙ length-count 0 n

pub at-made : {A : Type 0} (f : ℕ → A) (n k : ℕ) (d : A) → k < n → get_or (map f (count_from 0 n)) k d ≡ f k
at-made f n k d l =
    get_or-map f (count_from 0 n) k 0 d (let many = length-count 0 n in omega arith)
    ∙ ap f (at-count 0 n k 0 l ∙ omega arith)

-- what is true of all elements of each list f i
pub all-flat : {A : Type 0} (P : A → Type 0) (f : ℕ → List A) (n k : ℕ) → ((i : ℕ) → i < n + k → All P (f i)) → All P (flat_map f (count_from n k))
all-flat P f n zero h = All-nil P
all-flat P f n (suc k) h =
    All-append P (f n) (flat_map f (count_from (n + 1) k)) (h n (omega arith)) (all-flat P f (n + 1) k (λ i l. h i (omega arith)))
