-- Each text is one file or has one fault.
use Rattle.std.proofs.Common.{◌≡◌, ◌⊎◌, Ok, Err, refl, inl, inr}
use Rattle.mm_text.specs.declared.fault.MmFault.{MmFault}
use Rattle.mm_text.specs.Outcomes.{Outcome}

pub ok_or_err : {A : Type 0} (r : Outcome A) → ((x : A) × (r ≡ Ok x)) ⊎ ((fault : MmFault) × (r ≡ Err fault))
ok_or_err (Ok x) = inl (x, refl)
ok_or_err (Err fault) = inr (fault, refl)

pub ok_not_err : {A : Type 0} (r : Outcome A) (x : A) (fault : MmFault) → r ≡ Ok x → r ≡ Err fault → ⊥
ok_not_err r x fault e h = cc

pub one_ok : {A : Type 0} (r : Outcome A) (x y : A) → r ≡ Ok x → r ≡ Ok y → x ≡ y
one_ok r x y e h = cc

pub one_err : {A : Type 0} (r : Outcome A) (x y : MmFault) → r ≡ Err x → r ≡ Err y → x ≡ y
one_err r x y e h = cc
