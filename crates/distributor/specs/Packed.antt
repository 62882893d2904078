-- The letter of some entries.
use Rattle.std.specs.Prelude.{ℕ, List, [], ◌∷◌, ◌++◌, map, length, Option, None, Some}
use Rattle.std.specs.List.{flat_map, sum_by}
use Rattle.scalar_laws.specs.Conversions.{Conversions}
use Rattle.byte_pool.specs.Blocks.{BlockState, free_block}
use Rattle.letter_codec.specs.declared.kind.Kind.{Kind}
use Rattle.letter_codec.specs.declared.kind.Kind.TheVariants.{Reg, Ask, Tell, Want, Offer, Nums, Rows}
use Rattle.letter_codec.specs.Letters.{letter_bytes, number_bytes}
use Rattle.distributor.specs.Entries.{Entry, entry_at, columns_of}

-- The entries at these source positions.
abbrev pub sent_entries : {S : Type 0} → List (Entry S) → List ℕ → List (Entry S)
sent_entries entries positions = map (entry_at entries) positions

-- The words of an entry: in a letter of rows its global index, the number of its cells and their columns, else its global
-- index.
abbrev pub words_for : {S : Type 0} → Kind → Entry S → List ℕ
words_for Rows e = e.gid ∷ length e.cells ∷ columns_of e
words_for Nums e = e.gid ∷ []
words_for Reg e = e.gid ∷ []
words_for Ask e = e.gid ∷ []
words_for Tell e = e.gid ∷ []
words_for Want e = e.gid ∷ []
words_for Offer e = e.gid ∷ []

-- The numbers of an entry.
abbrev pub numbers_of : {S : Type 0} → Entry S → List S
numbers_of e = map (λ cell. cell.1) e.cells

-- How many cells the entries have.
abbrev pub cell_count : {S : Type 0} → List (Entry S) → ℕ
cell_count entries = sum_by (λ e. length e.cells) entries

-- The bytes of the letter of these entries.
abbrev pub entries_letter : {S : Type 0} → Conversions S → Kind → List (Entry S) → List ℕ
entries_letter F kind entries = letter_bytes kind (flat_map (words_for kind) entries) (number_bytes F (flat_map numbers_of entries))

-- The kind of the letters of a transfer.
abbrev pub kind_of : Option ℕ → Kind
kind_of None = Rows
kind_of (Some width) = Nums

-- The pool in which a letter of so many bytes is lent: for rows a block is made first.
abbrev pub with_room : Kind → ℕ → List BlockState → List BlockState
with_room Rows len pool = pool ++ free_block len ∷ []
with_room Nums len pool = pool
with_room Reg len pool = pool
with_room Ask len pool = pool
with_room Tell len pool = pool
with_room Want len pool = pool
with_room Offer len pool = pool
