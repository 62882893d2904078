-- Letters that are kept, as the code has them.
use Rattle.std.specs.Prelude.{ℕ, Bool, List, [], map, Option, None, Some}
use Rattle.std.specs.BTreeMap.{get}
use Rattle.std.specs.Global.{Vec}
use Rattle.std.specs.List.{list_any}
use Rattle.std.specs.Ordering.{nat_cmp}
use Rattle.outside.specs.declared.name.Name.{Name}
use Rattle.outside.specs.Letters.{same_name}
use Rattle.rank_phases.specs.declared.early.Early.{Early}
use Rattle.rank_phases.specs.declared.letter.Letter.{Letter}

-- a letter's name and bytes
abbrev pub letter_of : Letter → Name × List ℕ
letter_of l = (l.name, l.bytes.items)

abbrev pub letters_of : List Letter → List (Name × List ℕ)
letters_of letters = map letter_of letters

-- whether one of them has the name
abbrev pub is_kept : List Letter → Name → Bool
is_kept letters n = list_any (λ l. same_name n l.name) letters

-- the letters of a phase where it has some
abbrev pub letters_or_none : Option (Vec Letter) → List (Name × List ℕ)
letters_or_none None = []
letters_or_none (Some letters) = letters_of letters.items

-- the letters of a phase that came early, in the order in which they came
abbrev pub early_at : Early → ℕ → List (Name × List ℕ)
early_at early phase = letters_or_none (get nat_cmp early.by_phase phase)
