-- Where a walk stops, and some source at which it does.
use Rattle.std.proofs.Common.{◌≡◌, ℕ, cond, List, [], ◌∷◌, Option, None, Some, Result, Ok, Err, refl, sym, ap, ◌∙◌, subst, arith}
use Rattle.std.specs.List.{IsAmong}
use Rattle.std.specs.Str.{bytes_eq}
use Rattle.std.proofs.lemmas.Bool.{false_from_ne_true}
use Rattle.std.proofs.lemmas.Slice.Eq.{bytes_eq-Decides}
use Rattle.outside.specs.Reads.{AgreesWith, HasText, Source}
use Rattle.run_input.specs.declared.fault.InputFault.{InputFault}
use Rattle.run_input.specs.declared.fault.InputFault.TheVariants.{Memory, Unread, Refused}
use Rattle.run_input.specs.declared.fault.TextFault.{TextFault}
use Rattle.run_input.specs.Answering.{Stops}
use Rattle.run_input.specs.Reading.{IsUnreadOf, name_text}
use Rattle.run_input.specs.Sources.{SomeSource}
use Rattle.run_input.specs.Walk.{Stop, ◌>>=◌, or_no_file, or_refused, text_at}
use Rattle.run_input.proofs.Among.{among-none}

-- what follows stops where the first part does
pub stops-then : {A B : Type 0} (names : List (List ℕ)) (walk : Result A Stop) (next : A → Result B Stop) (fault : InputFault)
    → Stops names walk fault → Stops names (walk >>= next) fault
stops-then names walk next Memory h = tt
stops-then names walk next (Unread name) h = h
stops-then names walk next (Refused name fault) h = ap (λ r. r >>= next) h

-- the same, where more names are read
pub stops-wider : {B : Type 0} (names wider : List (List ℕ)) (walk : Result B Stop) (fault : InputFault)
    → ((name : List ℕ) → IsAmong names name → IsAmong wider name) → Stops names walk fault → Stops wider walk fault
stops-wider names wider walk Memory more h = tt
stops-wider names wider walk (Unread name) more h = more (name_text name) h
stops-wider names wider walk (Refused name fault) more h = h

-- the same, of an equal walk
pub stops-same : {B : Type 0} (names : List (List ℕ)) (walk other : Result B Stop) (fault : InputFault) → walk ≡ other
    → Stops names walk fault → Stops names other fault
stops-same names walk other fault e h = subst (λ w. Stops names w fault) e h

-- where nothing is read, only what the text is refused for can stop it
pub stops-quiet : {B : Type 0} (names : List (List ℕ)) (walk : Result B Stop) (fault : InputFault) → Stops [] walk fault → Stops names walk fault
stops-quiet names walk fault h = stops-wider [] names walk fault (λ name i. absurd (among-none name i)) h

-- a read that failed
pub stops-unread : {B : Type 0} (name : List ℕ) (walk : Result B Stop) (fault : InputFault) → IsUnreadOf name fault → Stops (name ∷ []) walk fault
stops-unread name walk Memory h = tt
stops-unread name walk (Unread file) h = (0, (omega arith, h))
stops-unread name walk (Refused file fault) h = absurd h

-- the text that a source has under a name
module _ {A Fault : Type 0} (kind : Fault → TextFault) (reads : List ℕ → Result A Fault) (source : Source) (name text : List ℕ)
    (named : source name ≡ Some text) where
  pub walk-is : (text_at source name >>= (λ t. or_refused name kind (reads t))) ≡ or_refused name kind (reads text)
  walk-is = ap (λ (o : Option (List ℕ)). or_no_file name o >>= (λ t. or_refused name kind (reads t))) named

  pub stops-text : (bytes : List ℕ) (fault : InputFault) → reads bytes ≡ reads text → Stops [] (or_refused name kind (reads bytes)) fault
      → Stops (name ∷ []) (text_at source name >>= (λ t. or_refused name kind (reads t))) fault
  stops-text bytes fault same h =
      stops-same (name ∷ []) (or_refused name kind (reads bytes)) (text_at source name >>= (λ t. or_refused name kind (reads t))) fault
      (ap (λ (r : Result A Fault). or_refused name kind r) same ∙ sym walk-is)
      (stops-quiet (name ∷ []) (or_refused name kind (reads bytes)) fault h)

-- what is read of a text, where it is not refused
pub not_refused : {A Fault : Type 0} (kind : Fault → TextFault) (name : List ℕ) (r : Result A Fault) (x : A) → or_refused name kind r ≡ Ok x → r ≡ Ok x
not_refused kind name (Ok y) x e = let same : y ≡ x = cc in ap Ok same
not_refused kind name (Err fault) x e = absurd (cc)

-- a source that agrees with what files tell
pub some-source : (told : Option Source) (P : Source → Type 0) → ((source : Source) → AgreesWith told source → P source) → SomeSource told P
some-source None P f = record { source = λ name. None; agrees = tt; passes = f (λ name. None) tt }
some-source (Some source) P f = record { source = source; agrees = refl; passes = f source refl }

pub some-weaker : (told : Option Source) (P Q : Source → Type 0) → ((source : Source) → P source → Q source) → SomeSource told P → SomeSource told Q
some-weaker told P Q f some = record { source = some.source; agrees = some.agrees; passes = f some.source some.passes }

pub some-text : (told : Option Source) (name : List ℕ) (P : List ℕ → Type 0) (Q : Source → Type 0)
    → ((source : Source) (text : List ℕ) → source name ≡ Some text → P text → Q source) → HasText told name P → SomeSource told Q
some-text told name P Q f has = record { source = has.source; agrees = has.agrees; passes = f has.source has.text has.named has.holds }

-- one source for two names
pub some-texts : (told : Option Source) (name other : List ℕ) (P R : List ℕ → Type 0) (Q : Source → Type 0) → (name ≡ other → ⊥)
    → ((source : Source) (text more : List ℕ) → source name ≡ Some text → P text → source other ≡ Some more → R more → Q source)
    → HasText told name P → HasText told other R → SomeSource told Q
some-texts None name other P R Q apart f has more = record {
  source = λ n. cond (bytes_eq name n) (Some has.text) (Some more.text);
  agrees = tt;
  passes = f (λ n. cond (bytes_eq name n) (Some has.text) (Some more.text)) has.text more.text
      (ap (λ b. cond b (Some has.text) (Some more.text)) ((bytes_eq-Decides name name).1 refl)) has.holds
      (ap (λ b. cond b (Some has.text) (Some more.text)) (false_from_ne_true _ (λ t. apart ((bytes_eq-Decides name other).0 t)))) more.holds;
}
some-texts (Some told) name other P R Q apart f has more = record {
  source = told;
  agrees = refl;
  passes = f told has.text more.text (ap (λ (s : Source). s name) (sym has.agrees) ∙ has.named) has.holds
      (ap (λ (s : Source). s other) (sym more.agrees) ∙ more.named) more.holds;
}
