-- The words of ROWS, one after the other.
use Rattle.std.specs.Prelude.{ℕ, zero, suc, ◌+◌, if◌then◌else◌, List, [], ◌∷◌, Option, None, Some}
use Rattle.letter_codec.specs.declared.rows.Awaited.{Awaited}
use Rattle.letter_codec.specs.declared.rows.Awaited.TheVariants.{Row, Count, Column}
use Rattle.letter_codec.specs.Letters.{is_above}

-- so many columns of an entry are left
abbrev pub columns_left : ℕ → Option ℕ → Awaited
columns_left zero before = Row
columns_left (suc left) before = Column (suc left) before

-- what comes behind a word; nothing where the word cannot stand there
abbrev pub behind : Awaited → ℕ → Option Awaited
behind Row word = Some Count
behind Count word = Some (columns_left word None)
behind (Column zero before) word = None
behind (Column (suc left) before) word = if is_above before word then Some (columns_left left (Some word)) else None

-- a column has one number
abbrev pub numbers_of : Awaited → ℕ
numbers_of Row = 0
numbers_of Count = 0
numbers_of (Column left before) = 1

-- the words may end where a row may stand
abbrev pub ended : Awaited → ℕ → Option ℕ
ended Row count = Some count
ended Count count = None
ended (Column left before) count = None

-- how many numbers the words have, beside so many before them; nothing where they are no entries
abbrev pub walk : Option Awaited → ℕ → List ℕ → Option ℕ
walk None count words = None
walk (Some awaited) count [] = ended awaited count
walk (Some awaited) count (w ∷ ws) = walk (behind awaited w) (count + numbers_of awaited) ws
