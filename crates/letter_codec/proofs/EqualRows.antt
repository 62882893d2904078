-- Numbers that are shared out evenly.
use Rattle.std.proofs.Common.{◌≡◌, ◌*◌, ◌/◌, ◌%◌, ◌==◌, ℕ, ap, ◌∙◌, arith, eq-eqb, eqb-true}
use Rattle.std.specs.Prelude.{IsTrue}
use Rattle.std.proofs.Math.Nat.{mod-eq-sub-div-mul, mul-mod_left, div-mul-le_self}

pub divided : (n k : ℕ) → (k ≡ 0 → ⊥) → IsTrue (n % k == 0) → (each : ℕ) × (n ≡ each * k)
divided n k some e =
    let none : n % k ≡ 0 = eqb-true (n % k) 0 e in
    let split = mod-eq-sub-div-mul n k in
    let most = div-mul-le_self n k in
    (n / k, omega arith)

pub divides : (n k : ℕ) → (k ≡ 0 → ⊥) → ((each : ℕ) × (n ≡ each * k)) → IsTrue (n % k == 0)
divides n k some of = eq-eqb (n % k) 0 (ap (λ m. m % k) of.1 ∙ mul-mod_left of.0 k)
