-- What is made in turn.
use Rattle.std.proofs.Common.{◌≡◌, ℕ, zero, suc, ◌<◌, ◌≤◌, ◌⊎◌, inl, inr, Bool, true, false, cond, eqb, refl, ap, ◌∙◌, arith}
use Rattle.std.proofs.lemmas.Bool.{eq-eqb, eqb-true, cases_lt}
use Rattle.model_defs.specs.Turns.{Each, in_turn}

eqb-below : (v k : ℕ) → v < k → eqb v k ≡ false
eqb-below v k l = go (eqb v k) refl
  where
    go : (b : Bool) → eqb v k ≡ b → b ≡ false
    go false e = refl
    go true e = let same = eqb-true v k e in absurd (omega arith)

module _ {A : Type 0} (none : A) (rule : ℕ → Each A → A) where
  -- the next one is made of those before it, and those before it stay
  pub in_turn-next : (k : ℕ) → in_turn none rule (suc k) k ≡ rule k (in_turn none rule k)
  in_turn-next k = ap (λ b. cond b (rule k (in_turn none rule k)) (in_turn none rule k k)) (eq-eqb k k refl)

  pub in_turn-stays : (k v : ℕ) → v < k → in_turn none rule (suc k) v ≡ in_turn none rule k v
  in_turn-stays k v l = ap (λ b. cond b (rule k (in_turn none rule k)) (in_turn none rule k v)) (eqb-below v k l)

  pub in_turn-first : (n v : ℕ) → v < n → in_turn none rule n v ≡ in_turn none rule (suc v) v
  in_turn-first zero v l = absurd (omega arith)
  in_turn-first (suc n) v l = go (cases_lt v n) (in_turn-first n v)
    where
      go : (v < n) ⊎ (n ≤ v) → (v < n → in_turn none rule n v ≡ in_turn none rule (suc v) v) → in_turn none rule (suc n) v ≡ in_turn none rule (suc v) v
      go (inl m) rest = in_turn-stays n v m ∙ rest m
      go (inr m) rest = let same : n ≡ v = omega arith in ap (λ k. in_turn none rule (suc k) v) same

  -- each is made of those before it
  pub in_turn-is : (n v : ℕ) → v < n → in_turn none rule n v ≡ rule v (in_turn none rule v)
  in_turn-is n v l = in_turn-first n v l ∙ in_turn-next v
