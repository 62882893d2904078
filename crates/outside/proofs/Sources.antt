-- The texts of sources that agree with what files tell.
use Rattle.std.proofs.Common.{◌≡◌, ℕ, List, Option, Some, None, MatchOption, refl, ap, sym, ◌∙◌, subst}
use Rattle.outside.specs.Reads.{HasText, Source}

-- a text has what follows from what it has
pub HasText-map : (told : Option Source) (name : List ℕ) (P Q : List ℕ → Type 0) → ((text : List ℕ) → P text → Q text) →
    HasText told name P → HasText told name Q
HasText-map told name P Q f has = record {
  source = has.source;
  agrees = has.agrees;
  text = has.text;
  named = has.named;
  holds = f has.text has.holds;
}

of_told : (source : Source) (name : List ℕ) (P : List ℕ → Type 0) (file : Option (List ℕ)) → source name ≡ file →
    MatchOption file ⊥ P → HasText (Some source) name P
of_told source name P None e none = absurd none
of_told source name P (Some text) e holds = record {
  source = source;
  agrees = refl;
  text = text;
  named = e;
  holds = holds;
}

-- the text that is told, and where none is told, these bytes
pub HasText-from : (told : Option Source) (name : List ℕ) (P : List ℕ → Type 0) (bytes : List ℕ) → P bytes →
    ((source : Source) → told ≡ Some source → MatchOption (source name) ⊥ P) → HasText told name P
HasText-from None name P bytes holds found = record {
  source = λ n. Some bytes;
  agrees = tt;
  text = bytes;
  named = refl;
  holds = holds;
}
HasText-from (Some source) name P bytes holds found =
    of_told source name P (source name) refl (found source refl)

-- what a source tells is the text that it has
pub HasText-told : (source : Source) (name text : List ℕ) (P : List ℕ → Type 0) → source name ≡ Some text →
    HasText (Some source) name P → P text
HasText-told source name text P told has =
    let same : Some has.text ≡ Some text = sym has.named ∙ ap (λ (s : Source). s name) has.agrees ∙ told in
    let text' : has.text ≡ text = cc in
    let holds : P has.text = has.holds in
    subst P text' holds

-- a name that has no file has no text
pub HasText-absent : (source : Source) (name : List ℕ) (P : List ℕ → Type 0) → source name ≡ None →
    HasText (Some source) name P → ⊥
HasText-absent source name P none has =
    let same : Some has.text ≡ None = sym has.named ∙ ap (λ (s : Source). s name) has.agrees ∙ none in cc
