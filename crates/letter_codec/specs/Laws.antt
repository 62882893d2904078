-- The laws of letters, each the contract of a function in the module `laws`.
use Rattle.std.specs.Prelude.{◌≡◌, ℕ, ◌+◌, ◌*◌, ◌<◌, List, length, slice_index_or}
use Rattle.scalar_laws.specs.Conversions.{Conversions, AreConversions}
use Rattle.outside.specs.Letters.{IsAlike}
use Rattle.letter_codec.specs.declared.kind.Kind.{Kind}
use Rattle.letter_codec.specs.Letters.{IsLetter, RowEntry, AreRows, letter_bytes, number_bytes}
use Rattle.letter_codec.specs.Parts.{number_at}
use Rattle.letter_codec.specs.Writing.{StartsWith}

-- Bytes are a letter in one way.
abbrev pub PartsAreUnique : Type 0
PartsAreUnique =
    (a b : Kind) (v w m n : List ℕ) → IsLetter a v m → IsLetter b w n → letter_bytes a v m ≡ letter_bytes b w n
    → (a ≡ b) × (v ≡ w) × (m ≡ n)

-- Words are entries of ROWS in one way.
abbrev pub EntriesAreUnique : Type 0
EntriesAreUnique = (words : List ℕ) (a b : List RowEntry) → AreRows words a → AreRows words b → a ≡ b

-- The length of a letter.
abbrev pub LettersHaveTheirLength : Type 0
LettersHaveTheirLength = (kind : Kind) (words numbers : List ℕ) → length (letter_bytes kind words numbers) ≡ 9 + 8 * length words + length numbers

-- What begins like a letter and has its length is this letter.
abbrev pub WholeLettersAreWritten : Type 0
WholeLettersAreWritten =
    (kind : Kind) (words numbers out : List ℕ) → StartsWith (letter_bytes kind words numbers) out → length out ≡ length (letter_bytes kind words numbers)
    → out ≡ letter_bytes kind words numbers

-- Numbers that were written one behind the other have 32 bytes each, and each is read where it was written.
abbrev pub NumbersAreReadBack : Type 0 → Type 0
NumbersAreReadBack S =
    (F : Conversions S) → AreConversions F → (numbers : List S)
    → (length (number_bytes F numbers) ≡ 32 * length numbers)
    × ((k : ℕ) (d : S) → k < length numbers → number_at F (number_bytes F numbers) k ≡ slice_index_or numbers k d)

-- Of two alike letters each is alike to the other.
abbrev pub AlikeIsMutual : Type 0
AlikeIsMutual = (posted given : List ℕ) → IsAlike posted given → IsAlike given posted

-- What is alike to a letter is a letter of its kind with its words and as many bytes of numbers.
abbrev pub AlikeLettersDifferInNumbers : Type 0
AlikeLettersDifferInNumbers =
    (kind : Kind) (words numbers given : List ℕ) → IsLetter kind words numbers → IsAlike (letter_bytes kind words numbers) given
    → (others : List ℕ) × (given ≡ letter_bytes kind words others) × (length others ≡ length numbers) × IsLetter kind words others
