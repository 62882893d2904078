-- What is seen of the parts of a letter.
use Rattle.std.specs.Prelude.{◌≡◌, ℕ, zero, suc, ◌*◌, ◌/◌, List, [], ◌∷◌, take, drop, length}
use Rattle.scalar_laws.specs.Conversions.{Conversions}
use Rattle.letter_codec.specs.declared.kind.Kind.{Kind}
use Rattle.letter_codec.specs.declared.kind.Kind.TheVariants.{Rows}
use Rattle.letter_codec.specs.declared.letter.Letter.{Letter}
use Rattle.letter_codec.specs.Letters.{IsLetter, RowEntry, AreRows, word_bytes, word_of_bytes}

-- so many words, from the first byte on
abbrev pub read_words : ℕ → List ℕ → List ℕ
read_words zero bytes = []
read_words (suc k) bytes = word_of_bytes (take 8 bytes) ∷ read_words k (drop 8 bytes)

-- the words of these bytes, which have 8 each
abbrev pub words_of : List ℕ → List ℕ
words_of bytes = read_words (length bytes / 8) bytes

-- the number in the k-th 32 bytes
abbrev pub number_at : {S : Type 0} → Conversions S → List ℕ → ℕ → S
number_at F bytes k = F.of_wire (take 32 (drop (32 * k) bytes))

-- The parts are those of a letter.
abbrev pub AreParts : Letter → Type 0
AreParts l = IsLetter l.kind (words_of l.words.now) l.numbers.now × (l.words.now ≡ word_bytes (words_of l.words.now))

-- how many entries these words are: each word is one, but for ROWS
abbrev pub IsEntryCount : Kind → List ℕ → ℕ → Type 0
IsEntryCount Rows words count = (entries : List RowEntry) × AreRows words entries × (count ≡ length entries)
IsEntryCount _ words count = count ≡ length words
