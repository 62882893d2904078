-- Bytes that are written in their order.
use Rattle.std.proofs.Common.{◌≡◌, ℕ, ◌+◌, ◌≤◌, List, ◌++◌, refl, sym, ap, ◌∙◌, length, take, drop}
use Rattle.std.proofs.lemmas.List.{append_assoc, take_at}
use Rattle.letter_codec.specs.Writing.{StartsWith, splice}

-- what is written behind the first bytes stands behind them
pub starts-splice : (before out bytes : List ℕ) (at : ℕ) → at + length bytes ≤ length out → length before ≡ at → StartsWith before out → StartsWith (before ++ bytes) (splice out at bytes)
starts-splice before out bytes at l long starts =
    let first : take at out ≡ before = ap (λ n. take n out) (sym long) ∙ starts in
    ap (take (length (before ++ bytes))) ((λ i. first i ++ (bytes ++ drop (at + length bytes) out)) ∙ sym (append_assoc before bytes (drop (at + length bytes) out)))
    ∙ take_at (before ++ bytes) (drop (at + length bytes) out) (length (before ++ bytes)) refl

-- what is written first stands first
pub starts-first : (bytes out after : List ℕ) → after ≡ splice out 0 bytes → StartsWith bytes after
starts-first bytes out after e = ap (take (length bytes)) e ∙ take_at bytes (drop (0 + length bytes) out) (length bytes) refl
