-- The elements of a list that are dealt to a rank, one after the other.
use Rattle.std.proofs.Common.{◌≡◌, ◌≢◌, ℕ, zero, suc, ◌+◌, ◌*◌, ◌-◌, ◌/◌, ◌%◌, ◌<◌, ◌≤◌, ◌⊎◌, inl, inr, cond, List, [], ◌∷◌, ◌++◌, length, get_or, drop, refl, sym, ap, ◌∙◌, subst, arith}
use Rattle.std.specs.List.{flat_map}
use Rattle.std.specs.List.Sorted.{IsPermutation}
use Rattle.std.proofs.lemmas.List.Sorted.{IsPermutation-refl, IsPermutation-trans, IsPermutation-append_left}
use Rattle.std.proofs.lemmas.Bool.{eq-eqb, ne_eqb, cases_lt}
use Rattle.std.proofs.lemmas.List.{append_assoc, drop_more, drop-drop}
use Rattle.std.proofs.lemmas.Nat.{mod-mul-add}
use Rattle.std.proofs.Math.Nat.{mod-eq_of_lt, div-add-mod}
use Rattle.tables.specs.Indices.{dealt, dealt_from}

-- Between two numbers of one remainder that are the divisor apart no other has it.
other_remainder : (P r q t : ℕ) → r < P → 0 < t → t < P → (q * P + r + t) % P ≢ r
other_remainder P r q t rank some below e = go (cases_lt (r + t) P)
  where
    go : (r + t < P) ⊎ (P ≤ r + t) → ⊥
    go (inl l) =
        let same : q * P + r + t ≡ q * P + (r + t) = omega arith in
        let is : r ≡ r + t = sym e ∙ ap (λ n. n % P) same ∙ mod-mul-add q P (r + t) l in
        omega arith
    go (inr l) =
        let small : r + t - P < P = omega arith in
        let same : q * P + r + t ≡ (q + 1) * P + (r + t - P) = omega arith in
        let is : r ≡ r + t - P = sym e ∙ ap (λ n. n % P) same ∙ mod-mul-add (q + 1) P (r + t - P) small in
        omega arith

module _ {A : Type 0} where
  -- Elements of other ranks are passed over.
  dealt_from-skip : (m n P r : ℕ) (xs : List A) → ((j : ℕ) → n ≤ j → j < n + m → j % P ≢ r) → dealt_from n P r xs ≡ dealt_from (n + m) P r (drop m xs)
  dealt_from-skip zero n P r xs h = ap (λ k. dealt_from k P r xs) (omega arith)
  dealt_from-skip (suc m) n P r [] h = refl
  dealt_from-skip (suc m) n P r (x ∷ xs) h =
      ap (λ b. cond b (x ∷ dealt_from (n + 1) P r xs) (dealt_from (n + 1) P r xs)) (ne_eqb (n % P) r (h n (omega arith) (omega arith)))
      ∙ dealt_from-skip m (n + 1) P r xs (λ j low high. h j (omega arith) (omega arith))
      ∙ ap (λ k. dealt_from k P r (drop m xs)) (omega arith)

  -- The first one is the element r.
  pub dealt-first : (P r : ℕ) (xs : List A) → r < P → dealt P r xs ≡ dealt_from r P r (drop r xs)
  dealt-first P r xs rank =
      dealt_from-skip r 0 P r xs (λ j low high e. let small : j < P = omega arith in let same = mod-eq_of_lt small in absurd (omega arith))
      ∙ ap (λ k. dealt_from k P r (drop r xs)) (omega arith)

  -- After the element k comes the element k + P.
  pub dealt-next : (P r k : ℕ) (xs : List A) (d : A) → r < P → k % P ≡ r → k < length xs
      → dealt_from k P r (drop k xs) ≡ get_or xs k d ∷ dealt_from (k + P) P r (drop (k + P) xs)
  dealt-next P r k xs d rank mine within =
      ap (dealt_from k P r) (drop_more xs k d within)
      ∙ ap (λ b. cond b (get_or xs k d ∷ dealt_from (k + 1) P r (drop (k + 1) xs)) (dealt_from (k + 1) P r (drop (k + 1) xs))) (eq-eqb (k % P) r mine)
      ∙ ap (λ ys. get_or xs k d ∷ ys)
      (dealt_from-skip (P - 1) (k + 1) P r (drop (k + 1) xs) between
      ∙ (λ t. dealt_from (next t) P r (drop-drop (P - 1) (k + 1) xs t))
      ∙ (λ t. dealt_from (k + P) P r (drop (next t) xs)))
    where
      next : (k + 1) + (P - 1) ≡ k + P
      next = omega arith

      between : (j : ℕ) → k + 1 ≤ j → j < (k + 1) + (P - 1) → j % P ≢ r
      between j low high e =
          let parted = div-add-mod k P in
          let same : k / P * P + r + (j - k) ≡ j = omega arith in
          other_remainder P r (k / P) (j - k) rank (omega arith) (omega arith) (ap (λ n. n % P) same ∙ e)

module _ {A X : Type 0} (places : A → List X) where
  -- All that is dealt to rank r is left to be brought.
  pub brought-first : (P r : ℕ) (lines : List A) (before : List X) → r < P
      → IsPermutation (before ++ flat_map places (dealt P r lines)) (before ++ flat_map places (dealt_from r P r (drop r lines)))
  brought-first P r lines before rank =
      subst (λ xs. IsPermutation (before ++ flat_map places (dealt P r lines)) (before ++ flat_map places xs)) (dealt-first P r lines rank) (IsPermutation-refl (before ++ flat_map places (dealt P r lines)))

  -- What the element k stands for is brought, and what comes from the element k + P on is left.
  pub brought-next : (P r k : ℕ) (lines : List A) (x : A) (all before after : List X) → r < P → k % P ≡ r → k < length lines → x ≡ get_or lines k x
      → IsPermutation all (before ++ flat_map places (dealt_from k P r (drop k lines))) → IsPermutation (before ++ places x) after
      → IsPermutation all (after ++ flat_map places (dealt_from (k + P) P r (drop (k + P) lines)))
  brought-next P r k lines x all before after rank mine within is h f =
      IsPermutation-trans all (before ++ (places x ++ rest)) (after ++ rest)
      (subst (λ xs. IsPermutation all (before ++ flat_map places xs)) (dealt-next P r k lines x rank mine within ∙ ap (λ y. y ∷ dealt_from (k + P) P r (drop (k + P) lines)) (sym is)) h)
      (subst (λ xs. IsPermutation xs (after ++ rest)) (append_assoc before (places x) rest) (IsPermutation-append_left rest (before ++ places x) after f))
    where
      rest : List X
      rest = flat_map places (dealt_from (k + P) P r (drop (k + P) lines))

-- Some elements are brought, and then others.
pub brought-both : {X : Type 0} (start xs ys middle end : List X) → IsPermutation (start ++ xs) middle → IsPermutation (middle ++ ys) end → IsPermutation (start ++ (xs ++ ys)) end
brought-both start xs ys middle end f g =
    IsPermutation-trans (start ++ (xs ++ ys)) (middle ++ ys) end
    (subst (λ zs. IsPermutation zs (middle ++ ys)) (append_assoc start xs ys) (IsPermutation-append_left ys (start ++ xs) middle f)) g
