-- Texts that are written one after the other.
use Rattle.std.proofs.Common.{◌≡◌, ◌+◌, ◌<◌, ℕ, suc, List, [], ◌∷◌, ◌++◌, append_assoc, map, length, get_or, drop, take, ap, sym, ◌∙◌, add-one, drop-cons, Bor}
use Rattle.std.specs.List.{flat_map}
use Rattle.std.proofs.lemmas.List.{append-nil}
use Rattle.std.proofs.lemmas.List.Concat.{flat_map-append}
use Rattle.mm_text.specs.Written.{line_text, lines_text}
use Rattle.model_defs.specs.declared.sheets.PhaseLine.{PhaseLine}
use Rattle.model_defs.specs.declared.sheets.LetterLine.{LetterLine}
use Rattle.run_output.specs.Listings.{leading, listing_lines, phase_lines_with}
use Rattle.run_output.specs.Pieces.{joined}

-- the texts of a list from i on are that at i and those behind it
pub flat_map-drop : {X : Type 0} (text : X → List ℕ) (xs : List X) (i : ℕ) (d : X) → i < length xs → flat_map text (drop i xs) ≡ text (get_or xs i d) ++ flat_map text (drop (i + 1) xs)
flat_map-drop text xs i d h = rw add-one (ap (flat_map text) (drop-cons xs i d h))

pub flat_map-item : {X : Type 0} (text : X → List ℕ) (xs : List X) (i : ℕ) (x : X) → i < length xs → x ≡ get_or xs i x → flat_map text (drop i xs) ≡ text x ++ flat_map text (drop (i + 1) xs)
flat_map-item text xs i x h is = flat_map-drop text xs i x h ∙ ap (λ (y : _). text y ++ flat_map text (drop (i + 1) xs)) (sym is)

pub joined-drop : (pieces : List (Bor (List ℕ))) (i : ℕ) (d : Bor (List ℕ)) (piece : List ℕ) → i < length pieces → piece ≡ (get_or pieces i d).now →
    joined (drop i pieces) ≡ piece ++ joined (drop (i + 1) pieces)
joined-drop pieces i d piece h e =
    flat_map-drop (λ p. p.now) pieces i d h ∙ ap (λ (t : List ℕ). t ++ joined (drop (i + 1) pieces)) (sym e)

pub lines-drop : {X : Type 0} (words : X → List (List ℕ)) (xs : List X) (i : ℕ) (d : X) → i < length xs →
    lines_text (map words (drop i xs)) ≡ line_text (words (get_or xs i d)) ++ lines_text (map words (drop (i + 1) xs))
lines-drop words xs i d h = rw add-one (ap (λ ys. lines_text (map words ys)) (drop-cons xs i d h))

-- one item more was made of the first that was left
pub one-page : {X Y : Type 0} (made : Y → List ℕ) (given : X → List ℕ) (ys ys' : List Y) (xs' : List X) (y : Y) (x : X) (xs : List X) (whole : List ℕ) →
    ys' ≡ ys ++ y ∷ [] → xs ≡ x ∷ xs' → made y ≡ given x → flat_map made ys ++ flat_map given xs ≡ whole → flat_map made ys' ++ flat_map given xs' ≡ whole
one-page made given ys ys' xs' y x xs whole pushed step same before =
    ap (λ l. flat_map made l ++ flat_map given xs') pushed
    ∙ ap (λ (t : List ℕ). t ++ flat_map given xs') (flat_map-append made ys (y ∷ []) ∙ ap (λ (t : List ℕ). flat_map made ys ++ t) (append-nil (made y) ∙ same))
    ∙ append_assoc (flat_map made ys) (given x) (flat_map given xs')
    ∙ ap (λ l. flat_map made ys ++ flat_map given l) (sym step) ∙ before

-- the listing of the phases from i on is that of the phase at i with its letters, and the listing of those behind it
pub listing-drop : (phases : List PhaseLine) (i : ℕ) (phase : PhaseLine) (letters these others : List LetterLine) → i < length phases → phase ≡ get_or phases i phase →
    these ≡ take (leading phase.phase letters) letters → others ≡ drop (leading phase.phase letters) letters →
    lines_text (listing_lines (drop i phases) letters) ≡ lines_text (phase_lines_with phase these) ++ lines_text (listing_lines (drop (i + 1) phases) others)
listing-drop phases i phase letters these others h is first rest =
    rw add-one (ap (λ ps. lines_text (listing_lines ps letters)) (drop-cons phases i phase h ∙ ap (λ (p : PhaseLine). p ∷ drop (suc i) phases) (sym is))
    ∙ flat_map-append line_text (phase_lines_with phase (take (leading phase.phase letters) letters)) (listing_lines (drop (suc i) phases) (drop (leading phase.phase letters) letters))
    ∙ ap (λ (ls : List LetterLine). lines_text (phase_lines_with phase ls) ++ lines_text (listing_lines (drop (suc i) phases) (drop (leading phase.phase letters) letters))) (sym first)
    ∙ ap (λ (ls : List LetterLine). lines_text (phase_lines_with phase these) ++ lines_text (listing_lines (drop (suc i) phases) ls)) (sym rest))
