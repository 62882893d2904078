-- Answers that may be a fault.
use Rattle.std.specs.Prelude.{◌≡◌, ◌⊎◌, Bool, Option, Some, None, Result, Ok, Err, if◌then◌else◌}
use Rattle.mm_text.specs.declared.fault.MmFault.{MmFault}
use Rattle.mm_text.specs.declared.fault.MmFault.TheVariants.{ReadFault, NoBanner, BadBanner, UnsupportedField, UnsupportedSymmetry, WrongForm, BadSize, BadLine, OutOfRange, NotSquare, SkewDiagonal, TooFew, Extra, NumberTooWide, TooManyEntries, TooLong, NoMem}

abbrev pub Outcome : Type 0 → Type 0
Outcome A = Result A MmFault

-- what follows where there is no fault
infixl 10 ◌>>=◌
abbrev pub ◌>>=◌ : {A B : Type 0} → Outcome A → (A → Outcome B) → Outcome B
(Ok x) >>= next = next x
(Err fault) >>= next = Err fault

-- what is there, and else the fault
abbrev pub or_fault : {A : Type 0} → MmFault → Option A → Outcome A
or_fault fault (Some x) = Ok x
or_fault fault None = Err fault

-- what stands where the lines end; in a text that is too long, more follows
abbrev pub at_end : {A : Type 0} → Bool → Outcome A → Outcome A
at_end whole outcome = if whole then outcome else Err TooLong

-- what the code answers, seen by `view`, is this outcome, unless memory runs out
abbrev pub Gives : {A B : Type 0} → (A → B) → Result A MmFault → Outcome B → Type 0
Gives view (Ok x) outcome = outcome ≡ Ok (view x)
Gives view (Err fault) outcome = (fault ≡ NoMem) ⊎ (outcome ≡ Err fault)

-- a fault of the text, and none of the reads or of memory
abbrev pub IsTextFault : MmFault → Type 0
IsTextFault ReadFault = ⊥
IsTextFault NoMem = ⊥
IsTextFault NoBanner = Unit {0}
IsTextFault BadBanner = Unit {0}
IsTextFault UnsupportedField = Unit {0}
IsTextFault UnsupportedSymmetry = Unit {0}
IsTextFault WrongForm = Unit {0}
IsTextFault BadSize = Unit {0}
IsTextFault (BadLine line) = Unit {0}
IsTextFault (OutOfRange line) = Unit {0}
IsTextFault NotSquare = Unit {0}
IsTextFault (SkewDiagonal line) = Unit {0}
IsTextFault (TooFew have) = Unit {0}
IsTextFault (Extra line) = Unit {0}
IsTextFault (NumberTooWide line) = Unit {0}
IsTextFault TooManyEntries = Unit {0}
IsTextFault TooLong = Unit {0}
