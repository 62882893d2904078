-- One thing for each value, made in order: each from those of the values before it.
use Rattle.std.specs.Prelude.{ℕ, zero, suc, ◌==◌, if◌then◌else◌}

abbrev pub Each : Type 0 → Type 0
Each A = ℕ → A

-- those before, and this one at k
abbrev pub with_next : {A : Type 0} → Each A → ℕ → A → Each A
with_next before k a v = if v == k then a else before v

abbrev pub with_made : {A : Type 0} → (ℕ → Each A → A) → ℕ → Each A → Each A
with_made rule k before = with_next before k (rule k before)

-- what is made of the first n values, by a rule for value k that is given what was made of those before it
abbrev pub in_turn : {A : Type 0} → A → (ℕ → Each A → A) → ℕ → Each A
in_turn none rule zero = λ v. none
in_turn none rule (suc k) = with_made rule k (in_turn none rule k)
