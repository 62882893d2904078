-- What holds of the answer of an outcome.
use Rattle.std.proofs.Common.{◌≡◌, Bool, true, false, cond, Option, Some, None, Ok, Err, refl, subst}
use Rattle.job_text.specs.declared.fault.JobFault.{JobFault}
use Rattle.job_text.specs.Outcomes.{Outcome, ◌>>=◌, or_fault}

-- P holds of the answer, where there is one
abbrev pub Holds : {A : Type 0} → (A → Type 0) → Outcome A → Type 0
Holds P (Ok x) = P x
Holds P (Err fault) = Unit {0}

module _ {A : Type 0} (P : A → Type 0) where
  pub answer : (o : Outcome A) (x : A) → Holds P o → o ≡ Ok x → P x
  answer o x h e = subst (Holds P) e h

  pub weaken : (Q : A → Type 0) (o : Outcome A) → ((x : A) → P x → Q x) → Holds P o → Holds Q o
  weaken Q (Ok x) each h = each x h
  weaken Q (Err fault) each h = tt

  pub bind : {B : Type 0} (Q : B → Type 0) (o : Outcome A) (next : A → Outcome B) → Holds P o → ((x : A) → P x → Holds Q (next x)) → Holds Q (o >>= next)
  bind Q (Ok x) next h each = each x h
  bind Q (Err fault) next h each = tt

  -- an option that is there
  pub found : (fault : JobFault) (o : Option A) → ((x : A) → o ≡ Some x → P x) → Holds P (or_fault fault o)
  found fault (Some x) each = each x refl
  found fault None each = tt

  -- a test that passes, or does not
  pub when : (b : Bool) (o : Outcome A) (fault : JobFault) → (b ≡ true → Holds P o) → Holds P (cond b o (Err fault))
  when true o fault h = h refl
  when false o fault h = tt

  pub unless : (b : Bool) (o : Outcome A) (fault : JobFault) → (b ≡ false → Holds P o) → Holds P (cond b (Err fault) o)
  unless true o fault h = tt
  unless false o fault h = h refl

-- an answer of which nothing is asked
pub skip : {A B : Type 0} (Q : B → Type 0) (o : Outcome A) (next : A → Outcome B) → ((x : A) → Holds Q (next x)) → Holds Q (o >>= next)
skip Q (Ok x) next each = each x
skip Q (Err fault) next each = tt

pub always : {A : Type 0} (P : A → Type 0) → ((x : A) → P x) → (o : Outcome A) → Holds P o
always P each (Ok x) = each x
always P each (Err fault) = tt
