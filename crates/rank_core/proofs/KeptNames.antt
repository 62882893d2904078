-- A list of those that pass a test, one more at a time.
use Rattle.std.proofs.Common.{◌≡◌, ℕ, ◌+◌, ◌<◌, Bool, true, false, cond, List, [], ◌∷◌, ◌++◌, length, get_or, take, sym, ap, ◌∙◌}
use Rattle.std.specs.List.{filter}
use Rattle.std.proofs.lemmas.List.{append-nil, take_more}
use Rattle.std.proofs.lemmas.List.Elements.{filter-append}

-- the next one passes
pub kept-more : {A : Type 0} (t : A → Bool) (xs : List A) (i : ℕ) (d : A) → i < length xs → t (get_or xs i d) ≡ true
    → (before after : List A) → before ≡ filter t (take i xs) → after ≡ before ++ get_or xs i d ∷ [] → after ≡ filter t (take (i + 1) xs)
kept-more t xs i d low on before after so more =
    more ∙ ap (λ ys. ys ++ get_or xs i d ∷ []) so ∙ ap (λ b. filter t (take i xs) ++ cond b (get_or xs i d ∷ []) []) (sym on)
    ∙ sym (ap (filter t) (take_more xs i d low) ∙ filter-append t (take i xs) (get_or xs i d ∷ []))

-- it does not
pub left-out : {A : Type 0} (t : A → Bool) (xs : List A) (i : ℕ) (d : A) → i < length xs → t (get_or xs i d) ≡ false
    → (before : List A) → before ≡ filter t (take i xs) → before ≡ filter t (take (i + 1) xs)
left-out t xs i d low off before so =
    so ∙ sym (append-nil (filter t (take i xs))) ∙ ap (λ b. filter t (take i xs) ++ cond b (get_or xs i d ∷ []) []) (sym off)
    ∙ sym (ap (filter t) (take_more xs i d low) ∙ filter-append t (take i xs) (get_or xs i d ∷ []))
