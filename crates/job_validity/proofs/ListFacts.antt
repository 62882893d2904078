-- What holds of the arrays of keys.
use Rattle.std.proofs.Common.{◌≡◌, ◌+◌, ◌≤◌, ℕ, List, [], ◌∷◌, ◌++◌, Ok, length, sum, arith, length-append}
use Rattle.std.specs.Prelude.{nat_le}
use Rattle.std.specs.List.{All, concat}
use Rattle.std.proofs.lemmas.Bool.{leb-true, eqb-true}
use Rattle.std.proofs.lemmas.List.Elements.{All-nil, All-cons, All-append}
use Rattle.toml.specs.Data.{Data, Items, no_items, item}
use Rattle.job_text.specs.declared.place.Place.{Place}
use Rattle.job_text.specs.Outcomes.{Outcome, ◌>>=◌}
use Rattle.job_text.specs.Names.{Text}
use Rattle.job_text.specs.Keys.{limit, array_of, file_of, number_within}
use Rattle.job_text.specs.Lists.{each_item, each_element, one_per_rank, integers_of, integer_lists_of, indices_of, file_names_of, counts_of, index_lists_of, sum_within, count_within}
use Rattle.job_validity.proofs.Outcomes.{Holds, weaken, bind, when, skip}
use Rattle.job_validity.proofs.KeyFacts.{IsFilled, file-of}

-- as many answers as elements
pub each-many : {A B : Type 0} (read : A → Outcome B) (done : List B) (xs : List A) → Holds (λ ys. length ys ≡ length done + length xs) (each_element read done xs)
each-many read done [] = omega arith
each-many read done (x ∷ xs) =
    skip _ (read x) _ (λ y. weaken (λ ys. length ys ≡ length (done ++ y ∷ []) + length xs) _ (each_element read (done ++ y ∷ []) xs)
    (λ ys l. let one = length-append done (y ∷ []) in omega arith) (each-many read (done ++ y ∷ []) xs))

-- what holds of the answer of each
pub each-item : {A : Type 0} (P : A → Type 0) (read : Data → Outcome A) (done : List A) (ds : Items) → ((d : Data) → Holds P (read d)) → All P done → Holds (All P) (each_item read done ds)
each-item P read done no_items each h = h
each-item P read done (item d ds) each h =
    bind P (All P) (read d) _ (each d) (λ x p. each-item P read (done ++ x ∷ []) ds each (All-append P done (x ∷ []) h (All-cons P x [] p (All-nil P))))

module _ (at : Place) (key : Text) (P : ℕ) where
  pub one-each : {A : Type 0} (xs : List A) → Holds (λ ys. length ys ≡ P) (one_per_rank at key P xs)
  one-each xs = when (λ ys. length ys ≡ P) _ _ _ (λ e. eqb-true (length xs) P e)

  -- a list for each rank, of what is read of each list
  read-each : {A B : Type 0} (o : Outcome (List A)) (read : A → Outcome B) → Holds (λ ys. length ys ≡ P) (o >>= one_per_rank at key P >>= each_element read [])
  read-each {B = B} o read =
      bind (λ xs. length xs ≡ P) (λ ys. length ys ≡ P) (o >>= one_per_rank at key P) (each_element read [])
      (skip (λ xs. length xs ≡ P) o (one_per_rank at key P) one-each)
      (λ xs l. weaken (λ ys. length ys ≡ length {A = B} [] + length xs) (λ ys. length ys ≡ P) (each_element read [] xs) (λ ys (m : length ys ≡ length {A = B} [] + length xs). omega arith) (each-many read [] xs))

  pub counts-of : (most : ℕ) (d : Data) → Holds (λ counts. (length counts ≡ P) × (sum counts ≤ most)) (counts_of at key P most d)
  counts-of most d =
      bind (λ counts. length counts ≡ P) (λ counts. (length counts ≡ P) × (sum counts ≤ most)) _ (sum_within at key most)
      (read-each (integers_of at key d) (number_within at key 0 most))
      (λ counts l. when (λ counts. (length counts ≡ P) × (sum counts ≤ most)) (nat_le (sum counts) most) (Ok counts) (limit at key) (λ e. (l, leb-true (sum counts) most e)))

  pub index-lists-of : (most : ℕ) (d : Data) → Holds (λ lists. (length lists ≡ P) × (length (concat lists) ≤ most)) (index_lists_of at key P most d)
  index-lists-of most d =
      bind (λ lists. length lists ≡ P) (λ lists. (length lists ≡ P) × (length (concat lists) ≤ most)) _ (count_within at key most)
      (read-each (integer_lists_of at key d) (indices_of at key))
      (λ lists l. when (λ lists. (length lists ≡ P) × (length (concat lists) ≤ most)) (nat_le (length (concat lists)) most) (Ok lists) (limit at key) (λ e. (l, leb-true (length (concat lists)) most e)))

pub file-names : (at : Place) (key : Text) (d : Data) → Holds (All IsFilled) (file_names_of at key d)
file-names at key d = skip (All IsFilled) (array_of at key d) _ (λ ds. each-item IsFilled (file_of at key) [] ds (file-of at key) (All-nil IsFilled))
