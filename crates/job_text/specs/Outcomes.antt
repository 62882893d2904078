-- What a job text gives, or its first fault.
use Rattle.std.specs.Prelude.{◌≡◌, ◌⊎◌, Option, Some, None, Result, Ok, Err}
use Rattle.job_text.specs.declared.fault.JobFault.{JobFault}
use Rattle.job_text.specs.declared.fault.JobFault.TheVariants.{NoMem}

abbrev pub Outcome : Type 0 → Type 0
Outcome A = Result A JobFault

-- what follows where there is no fault
infixl 10 ◌>>=◌
abbrev pub ◌>>=◌ : {A B : Type 0} → Outcome A → (A → Outcome B) → Outcome B
(Ok x) >>= next = next x
(Err fault) >>= next = Err fault

-- what is there, and else the fault
abbrev pub or_fault : {A : Type 0} → JobFault → Option A → Outcome A
or_fault fault (Some x) = Ok x
or_fault fault None = Err fault

-- the fault of the code is this one, unless memory runs out
abbrev pub IsFault : JobFault → JobFault → Type 0
IsFault e fault = (e ≡ NoMem) ⊎ (e ≡ fault)

-- what the code answers, seen by `view`, is this outcome, unless memory runs out
abbrev pub GivesAs : {A B : Type 0} → (A → B) → Result A JobFault → Outcome B → Type 0
GivesAs view (Ok x) outcome = outcome ≡ Ok (view x)
GivesAs view (Err fault) outcome = (fault ≡ NoMem) ⊎ (outcome ≡ Err fault)

abbrev pub Gives : {A : Type 0} → Result A JobFault → Outcome A → Type 0
Gives r outcome = GivesAs (λ x. x) r outcome
