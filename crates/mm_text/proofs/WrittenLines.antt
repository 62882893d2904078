-- Lines that are written one after the other, and the text that they make.
use Rattle.std.proofs.Common.{◌≡◌, ℕ, ◌+◌, ◌<◌, ℤ, List, [], ◌∷◌, ◌++◌, Option, Result, Ok, Err, length, map, take, drop, get_or, ap, sym, ◌∙◌, append_assoc}
use Rattle.std.specs.Prelude.{OnErr}
use Rattle.std.proofs.lemmas.List.{take_more, take-append-drop, map-append}
use Rattle.std.proofs.lemmas.List.Concat.{flat_map-append}
use Rattle.std.proofs.lemmas.List.{append-nil}
use Rattle.mm_text.specs.declared.shown.Shown.{Shown}
use Rattle.outside.specs.Writes.{TakesPrefix, HoldsBack}
use Rattle.mm_text.specs.Written.{line_text, lines_text, coordinate_head, coordinate_text, cell_words, array_head, array_text, value_words}
use Rattle.outside.proofs.Taking.{HoldsBack-is, HoldsBack-then, HoldsBack-more, HoldsBack-fault, TakesPrefix-is, TakesPrefix-append}

pub OnErr-from : {T E P : Type 0} (r : Result T E) → P → OnErr r P
OnErr-from (Ok x) p = tt
OnErr-from (Err e) p = p

pub lines_text-append : (xs ys : List (List (List ℕ))) → lines_text (xs ++ ys) ≡ lines_text xs ++ lines_text ys
lines_text-append xs ys = flat_map-append line_text xs ys

-- one line more
pub lines_text-more : {X : Type 0} (words : X → List (List ℕ)) (xs : List X) (i : ℕ) (d : X) → i < length xs →
    lines_text (map words (take (i + 1) xs)) ≡ lines_text (map words (take i xs)) ++ line_text (words (get_or xs i d))
lines_text-more words xs i d inside =
    ap (λ ys. lines_text (map words ys)) (take_more xs i d inside)
    ∙ ap lines_text (map-append words (take i xs) (get_or xs i d ∷ []))
    ∙ lines_text-append (map words (take i xs)) (words (get_or xs i d) ∷ [])
    ∙ ap (λ t. lines_text (map words (take i xs)) ++ t) (append-nil (line_text (words (get_or xs i d))))

-- the text that is made so far, with one line more on the page
pub HoldsBack-line : {X : Type 0} (words : X → List (List ℕ)) (xs : List X) (i : ℕ) (d : X) →
    (old mid now : Option (List ℕ)) (front held held' page : List ℕ) → i < length xs →
    HoldsBack old mid held (front ++ lines_text (map words (take i xs))) → HoldsBack mid now held' held →
    page ≡ held' ++ line_text (words (get_or xs i d)) →
    HoldsBack old now page (front ++ lines_text (map words (take (i + 1) xs)))
HoldsBack-line words xs i d old mid now front held held' page inside before room put =
    HoldsBack-is old now (held' ++ line_text (words (get_or xs i d))) page
    (front ++ lines_text (map words (take i xs)) ++ line_text (words (get_or xs i d)))
    (front ++ lines_text (map words (take (i + 1) xs))) put
    (append_assoc front (lines_text (map words (take i xs))) (line_text (words (get_or xs i d)))
    ∙ ap (λ (t : List ℕ). front ++ t) (sym (lines_text-more words xs i d inside)))
    (HoldsBack-more old now held' (front ++ lines_text (map words (take i xs))) (line_text (words (get_or xs i d)))
    (HoldsBack-then old mid now held held' (front ++ lines_text (map words (take i xs))) before room))

-- a fault before all lines were made
pub TakesPrefix-lines : {X : Type 0} (words : X → List (List ℕ)) (xs : List X) (i : ℕ) →
    (old mid now : Option (List ℕ)) (front held : List ℕ) →
    HoldsBack old mid held (front ++ lines_text (map words (take i xs))) → TakesPrefix mid now held →
    TakesPrefix old now (front ++ lines_text (map words xs))
TakesPrefix-lines words xs i old mid now front held before fault =
    TakesPrefix-is old now (front ++ lines_text (map words (take i xs)) ++ lines_text (map words (drop i xs)))
    (front ++ lines_text (map words xs))
    (append_assoc front (lines_text (map words (take i xs))) (lines_text (map words (drop i xs)))
    ∙ ap (λ (t : List ℕ). front ++ t) (sym (lines_text-append (map words (take i xs)) (map words (drop i xs)))
    ∙ ap lines_text (sym (map-append words (take i xs) (drop i xs)) ∙ ap (map words) (take-append-drop i xs))))
    (TakesPrefix-append old now (front ++ lines_text (map words (take i xs))) (lines_text (map words (drop i xs)))
    (HoldsBack-fault old mid now held (front ++ lines_text (map words (take i xs))) before fault))

pub coordinate_text-made : (rows cols : ℕ) (part : Option ℕ) (cells : List Shown) (head : List ℕ) →
    head ≡ lines_text (coordinate_head rows cols part (length cells)) →
    head ++ lines_text (map cell_words cells) ≡ coordinate_text rows cols part cells
unfolding coordinate_text
coordinate_text-made rows cols part cells head made =
    ap (λ (t : List ℕ). t ++ lines_text (map cell_words cells)) made
    ∙ sym (lines_text-append (coordinate_head rows cols part (length cells)) (map cell_words cells))

pub array_text-made : (rows cols : ℕ) (values : List ℤ) (head : List ℕ) → head ≡ lines_text (array_head rows cols) →
    head ++ lines_text (map value_words values) ≡ array_text rows cols values
unfolding array_text
array_text-made rows cols values head made =
    ap (λ (t : List ℕ). t ++ lines_text (map value_words values)) made
    ∙ sym (lines_text-append (array_head rows cols) (map value_words values))
