-- The bytes of letters.
use Rattle.std.specs.Prelude.{◌≡◌, ℕ, ◌*◌, ◌^◌, ◌<◌, ◌&&◌, nat_lt, Bool, true, List, [], ◌∷◌, ◌++◌, length, sum_by, Option, None, Some}
use Rattle.std.specs.List.{flat_map, list_all}
use Rattle.std.specs.Int.{w64, to_le_bytes, from_le_bytes}
use Rattle.scalar_laws.specs.Conversions.{Conversions}
use Rattle.letter_codec.specs.declared.kind.Kind.{Kind}
use Rattle.letter_codec.specs.declared.kind.Kind.TheVariants.{Reg, Ask, Tell, Want, Offer, Nums, Rows}
use Rattle.letter_codec.specs.Kinds.{kind_byte}

-- a word in its 8 bytes, the lowest first, and back
unfoldable pub bytes_of_word : ℕ → List ℕ
bytes_of_word word = to_le_bytes w64 word

unfoldable pub word_of_bytes : List ℕ → ℕ
word_of_bytes bytes = from_le_bytes w64 bytes

abbrev pub word_bytes : List ℕ → List ℕ
word_bytes words = flat_map bytes_of_word words

-- each number in its 32 bytes
abbrev pub number_bytes : {S : Type 0} → Conversions S → List S → List ℕ
number_bytes F numbers = flat_map F.to_wire numbers

-- the kind and the number of words
unfoldable pub head_bytes : Kind → ℕ → List ℕ
head_bytes kind count = kind_byte kind ∷ bytes_of_word count

-- the head and the words
abbrev pub index_part : Kind → List ℕ → List ℕ
index_part kind words = head_bytes kind (length words) ++ word_bytes words

-- A letter: its index part, and behind it the bytes of its numbers.
abbrev pub letter_bytes : Kind → List ℕ → List ℕ → List ℕ
letter_bytes kind words numbers = index_part kind words ++ numbers

-- An entry of ROWS: a row and the columns of its places.
pub record RowEntry : Type 0 where
  pub row : ℕ
  pub columns : List ℕ

-- the row, the number of its places, and their columns
abbrev pub entry_words : RowEntry → List ℕ
entry_words e = e.row ∷ length e.columns ∷ e.columns

-- whether it is above the one before, if there is one
abbrev pub is_above : Option ℕ → ℕ → Bool
is_above None c = true
is_above (Some before) c = nat_lt before c

-- whether columns ascend strictly, the first of them above the one before
abbrev pub ascend_above : Option ℕ → List ℕ → Bool
ascend_above before [] = true
ascend_above before (c ∷ cs) = is_above before c && ascend_above (Some c) cs

-- The words of ROWS are those of these entries, and the columns of each ascend strictly.
abbrev pub AreRows : List ℕ → List RowEntry → Type 0
AreRows words entries = (words ≡ flat_map entry_words entries) × (list_all (λ e. ascend_above None e.columns) entries ≡ true)

abbrev pub place_count : List RowEntry → ℕ
place_count entries = sum_by (λ e. length e.columns) entries

-- each of these has 64 bits
abbrev pub AreWords : List ℕ → Type 0
AreWords words = list_all (λ w. nat_lt w 18446744073709551616) words ≡ true

-- each of these is a rank, which has 32 bits, or the word 4294967295 of an index that has no owner
abbrev pub AreOwners : List ℕ → Type 0
AreOwners words = list_all (λ w. nat_lt w 4294967296) words ≡ true

-- Which words a kind has, and how many numbers with them: each entry of DATA has equally many, each place of ROWS has
-- one, and the other kinds have none.
abbrev pub HasForm : Kind → List ℕ → ℕ → Type 0
HasForm Reg words count = count ≡ 0
HasForm Ask words count = count ≡ 0
HasForm Tell words count = (count ≡ 0) × AreOwners words
HasForm Want words count = count ≡ 0
HasForm Offer words count = count ≡ 0
HasForm Nums words count = (each : ℕ) × (count ≡ each * length words)
HasForm Rows words count = (entries : List RowEntry) × AreRows words entries × (count ≡ place_count entries)

-- A letter has fewer than 2^64 words, each of 64 bits, and its numbers have 32 bytes each.
pub record IsLetter (kind : Kind) (words numbers : List ℕ) : Type 0 where
  pub few : length words < 2 ^ 64
  pub fit : AreWords words
  pub count : ℕ
  pub pieces : length numbers ≡ 32 * count
  pub form : HasForm kind words count
