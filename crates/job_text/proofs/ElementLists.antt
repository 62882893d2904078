-- What is read of the elements of a list, one after the other.
use Rattle.std.proofs.Common.{◌≡◌, ◌+◌, ◌<◌, ℕ, ℤ, pos, suc, List, [], ◌∷◌, ◌++◌, Ok, Err, length, drop, get_or, ap, arith, add-one, drop-cons, length-append}
use Rattle.job_text.specs.Outcomes.{Outcome, ◌>>=◌}
use Rattle.job_text.specs.Lists.{each_element}

-- one element more
pub number_next : (f : ℤ → Outcome ℕ) (done : List ℕ) (xs : List ℤ) (i y : ℕ) → i < length xs → f (get_or xs i (pos 0)) ≡ Ok y →
    each_element f done (drop i xs) ≡ each_element f (done ++ y ∷ []) (drop (i + 1) xs)
number_next f done xs i y h e =
    rw (add-one, drop-cons xs i (pos 0)) (ap (λ o. o >>= (λ z. each_element f (done ++ z ∷ []) (drop (suc i) xs))) e)

length_step : {A B : Type 0} (f : A → Outcome B) (done : List B) (xs : List A) (ys : List B) (o : Outcome B) →
    ((y : B) → each_element f (done ++ y ∷ []) xs ≡ Ok ys → length ys ≡ length (done ++ y ∷ []) + length xs) →
    (o >>= (λ y. each_element f (done ++ y ∷ []) xs)) ≡ Ok ys → length ys ≡ length done + suc (length xs)
length_step f done xs ys (Ok y) next e = omega (arith, next y e, length-append done (y ∷ []))
length_step f done xs ys (Err fault) next e = absurd (cc)

-- there is one for each element
pub each_length : {A B : Type 0} (f : A → Outcome B) (done : List B) (xs : List A) (ys : List B) → each_element f done xs ≡ Ok ys → length ys ≡ length done + length xs
each_length f done [] ys e = let same : done ≡ ys = cc in omega (arith, ap length same)
each_length f done (x ∷ xs) ys e = length_step f done xs ys (f x) (λ y e'. each_length f (done ++ y ∷ []) xs ys e') e
