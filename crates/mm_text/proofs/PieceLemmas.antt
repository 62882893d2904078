-- A file that is read piece by piece.
use Rattle.std.proofs.Common.{◌≡◌, ℕ, ◌+◌, ◌<◌, ◌≤◌, [], ◌++◌, length, take, drop, Option, Some, None, MatchOption, ap, sym, ◌∙◌, arith, length-drop, length-append}
use Rattle.std.proofs.lemmas.List.{append-nil, length-take, take_all}
use Rattle.std.proofs.Math.Seq.{take-add}
use Rattle.outside.specs.Bytes.{IsReadOf}
use Rattle.mm_text.specs.Lines.{Text}

-- the bytes are the front of the file; of no file, none are read
abbrev pub IsFront : Option Text → Text → Type 0
IsFront None bytes = bytes ≡ []
IsFront (Some text) bytes = bytes ≡ take (length bytes) text

pub front_more : (file : Option Text) (bytes read new : Text) (n room : ℕ) → IsFront file bytes → IsReadOf file (length bytes) n room read
    → new ≡ bytes ++ read → IsFront file new
front_more None bytes read new n room front is e = absurd is
front_more (Some text) bytes read new n room front is e =
    let at : ℕ = length bytes in
    let size : length read ≡ n = omega (arith, ap length is.0, length-take n (drop at text), is.1) in
    let whole : length new ≡ at + n = ap length e ∙ length-append bytes read ∙ ap (λ m. at + m) size in
    e ∙ ap (λ b. b ++ read) front ∙ ap (λ b. take at text ++ b) is.0 ∙ sym (take-add at n text) ∙ ap (λ m. take m text) (sym whole)

pub front_ends : (file : Option Text) (bytes read new : Text) (k n room : ℕ) → IsFront file bytes → IsReadOf file (length bytes) n room read
    → n ≡ 0 → 0 < room → length bytes ≤ k → new ≡ bytes ++ read → MatchOption file ⊥ (λ text. new ≡ take k text)
front_ends None bytes read new k n room front is z p h e = absurd is
front_ends (Some text) bytes read new k n room front is z p h e =
    let at : ℕ = length bytes in
    let ends : drop at text ≡ [] = is.2 z p in
    let short : length text ≤ at = omega (arith, length-drop at text, ap length ends) in
    let none : read ≡ [] = is.0 ∙ ap (λ m. take m (drop at text)) z in
    e ∙ ap (λ r. bytes ++ r) none ∙ append-nil bytes ∙ front ∙ take_all at text short ∙ sym (take_all k text (omega arith))

pub front_full : (file : Option Text) (bytes : Text) (k : ℕ) → IsFront file bytes → 0 < k → length bytes ≡ k → MatchOption file ⊥ (λ text. bytes ≡ take k text)
front_full None bytes k front p h = absurd (omega (arith, ap length front))
front_full (Some text) bytes k front p h = front ∙ ap (λ n. take n text) h
