-- The letters to the first rank of the example, laid out by hand.
use Rattle.std.specs.Prelude.{ℕ, List, [], ◌∷◌}
use Rattle.outside.specs.declared.name.Name.{Name}

-- the WANT letter of rank 1 to rank 0, and its DATA letter
abbrev pub want_name : Name
want_name = record { phase = 0; from = 1; to = 0 }

abbrev pub data_name : Name
data_name = record { phase = 1; from = 1; to = 0 }

-- the bytes of the WANT letter of an index: its kind, the number of its words, and the word
abbrev pub want_letter : ℕ → List ℕ
want_letter index = 20 ∷ 1 ∷ 0 ∷ 0 ∷ 0 ∷ 0 ∷ 0 ∷ 0 ∷ 0 ∷ index ∷ 0 ∷ 0 ∷ 0 ∷ 0 ∷ 0 ∷ 0 ∷ 0 ∷ []

abbrev zeros : List ℕ → List ℕ
zeros rest = 0 ∷ 0 ∷ 0 ∷ 0 ∷ 0 ∷ 0 ∷ 0 ∷ 0 ∷ 0 ∷ 0 ∷ 0 ∷ 0 ∷ 0 ∷ 0 ∷ 0 ∷ rest

-- those of the DATA letter of an index: its kind, the number of its words, the word, and the value and the weight
abbrev pub data_letter : ℕ → ℕ → List ℕ
data_letter index number =
    22 ∷ 1 ∷ 0 ∷ 0 ∷ 0 ∷ 0 ∷ 0 ∷ 0 ∷ 0 ∷ index ∷ 0 ∷ 0 ∷ 0 ∷ 0 ∷ 0 ∷ 0 ∷ 0 ∷ number ∷ zeros (number ∷ zeros [])
