-- Words are rows in one way.
use Rattle.std.proofs.Common.{◌≡◌, List, [], ◌∷◌, ◌++◌, length, get_or, take, drop, refl, sym, ap, ◌∙◌}
use Rattle.std.specs.List.{flat_map}
use Rattle.std.proofs.lemmas.List.{drop_at, take_at}
use Rattle.letter_codec.specs.Letters.{RowEntry, entry_words}

pub same_rows : (a b : List RowEntry) → flat_map entry_words a ≡ flat_map entry_words b → a ≡ b
same_rows [] [] e = refl
same_rows [] (s ∷ ss) e = absurd (cc)
same_rows (r ∷ rs) [] e = absurd (cc)
same_rows (r ∷ rs) (s ∷ ss) e =
    let row : r.row ≡ s.row = ap (λ ws. get_or ws 0 0) e in
    let count : length r.columns ≡ length s.columns = ap (λ ws. get_or ws 1 0) e in
    let behind : r.columns ++ flat_map entry_words rs ≡ s.columns ++ flat_map entry_words ss = ap (drop 2) e in
    let columns : r.columns ≡ s.columns =
    sym (take_at r.columns (flat_map entry_words rs) (length r.columns) refl) ∙ (λ i. take (count i) (behind i)) ∙ take_at s.columns (flat_map entry_words ss) (length s.columns) refl in
    let rest : flat_map entry_words rs ≡ flat_map entry_words ss =
    sym (drop_at r.columns (flat_map entry_words rs) (length r.columns) refl) ∙ (λ i. drop (count i) (behind i)) ∙ drop_at s.columns (flat_map entry_words ss) (length s.columns) refl in
    λ i. record { row = row i; columns = columns i } ∷ same_rows rs ss rest i
