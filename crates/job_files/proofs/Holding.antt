-- Texts that were read can be held.
use Rattle.std.proofs.Common.{◌≡◌, ℕ, suc, Bool, true, false, cond, List, [], ◌∷◌, Option, Some, None, refl, sym, ap, ◌∙◌, subst, arith}
use Rattle.std.specs.List.{All}
use Rattle.std.specs.Str.{bytes_eq}
use Rattle.std.proofs.lemmas.Slice.Eq.{bytes_eq-Decides}
use Rattle.outside.specs.Reads.{HasText, Source}
use Rattle.job_files.specs.declared.held.HeldText.{HeldText}
use Rattle.job_files.specs.Held.{GivesHeld, TellsHeld, held_text}

abbrev AreTold : Option Source → List HeldText → Type 0
AreTold told held = All (λ h. HasText told h.name.now (λ text. text ≡ h.text.now)) held

-- what is told of a name is what is held
told_text : (source : Source) (h : HeldText) → HasText (Some source) h.name.now (λ text. text ≡ h.text.now) → source h.name.now ≡ Some h.text.now
told_text source h has = ap (λ (s : Source). s h.name.now) (sym has.agrees) ∙ has.named ∙ ap Some has.holds

held_cons : (source : Source) (h : HeldText) (hs : List HeldText) (name text : List ℕ) (b : Bool) → bytes_eq h.name.now name ≡ b
    → source h.name.now ≡ Some h.text.now → (held_text hs name ≡ Some text → source name ≡ Some text)
    → cond b (Some h.text.now) (held_text hs name) ≡ Some text → source name ≡ Some text
held_cons source h hs name text true same here later e = ap source (sym ((bytes_eq-Decides h.name.now name).0 same)) ∙ here ∙ e
held_cons source h hs name text false other here later e = later e

gives_all : (source : Source) (held : List HeldText) → AreTold (Some source) held → GivesHeld held source
gives_all source [] told name text e = absurd (cc)
gives_all source (h ∷ hs) told name text e =
    held_cons source h hs name text (bytes_eq h.name.now name) refl (told_text source h (told 0 h (omega arith)))
    (gives_all source hs (λ k d l. told (suc k) d (omega arith)) name text) e

pub read_texts-can_be_held : (told : Option Source) (held : List HeldText) → AreTold told held → TellsHeld told held
read_texts-can_be_held None held has = λ source e. absurd (cc)
read_texts-can_be_held (Some told) held has = λ source e. let same : told ≡ source = cc in subst (GivesHeld held) same (gives_all told held has)
