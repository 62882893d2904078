-- Letters of entries, and what comes to a target with them.
use Rattle.std.specs.Prelude.{◌≡◌, ◌≢◌, ℕ, ◌*◌, ◌/◌, List, [], ◌∷◌, map, length, take, drop, Option, None, Some}
use Rattle.std.specs.List.{zip}
use Rattle.scalar_laws.specs.Conversions.{Conversions}
use Rattle.tables.specs.Indices.{count_from}
use Rattle.letter_codec.specs.declared.kind.Kind.TheVariants.{Nums, Rows}
use Rattle.letter_codec.specs.declared.letter.Letter.{Letter}
use Rattle.letter_codec.specs.Letters.{RowEntry, AreRows}
use Rattle.letter_codec.specs.Parts.{words_of, number_at}
use Rattle.distributor.specs.declared.fault.AbsorbFault.{AbsorbFault}
use Rattle.distributor.specs.declared.fault.AbsorbFault.TheVariants.{NotThePlan, NoMem}
use Rattle.distributor.specs.Entries.{Entry, numbered}

-- The numbers in these bytes, 32 bytes each.
abbrev pub numbers_in : {S : Type 0} → Conversions S → List ℕ → List S
numbers_in F bytes = map (number_at F bytes) (count_from 0 (length bytes / 32))

-- Rows with their numbers: an entry for each row, with the next numbers of the list at its columns.
abbrev pub with_numbers : {S : Type 0} → List RowEntry → List S → List (Entry S)
with_numbers [] numbers = []
with_numbers (r ∷ rs) numbers =
    record { gid = r.row; cells = zip r.columns (take (length r.columns) numbers) } ∷ with_numbers rs (drop (length r.columns) numbers)

-- A letter is of the kind of a transfer: of entries that each have so many numbers, or of rows.
abbrev pub IsOfKind : Option ℕ → Letter → Type 0
IsOfKind None letter = letter.kind ≡ Rows
IsOfKind (Some width) letter = (letter.kind ≡ Nums) × (length letter.numbers.now ≡ 32 * (length (words_of letter.words.now) * width))

-- These are the entries of a letter: each global index with the next numbers in the columns from 0 on, or the rows.
abbrev pub HasEntries : {S : Type 0} → Conversions S → Option ℕ → Letter → List (Entry S) → Type 0
HasEntries F None letter entries = (rows : List RowEntry) × AreRows (words_of letter.words.now) rows × (entries ≡ with_numbers rows (numbers_in F letter.numbers.now))
HasEntries F (Some width) letter entries = entries ≡ numbered width (words_of letter.words.now) (numbers_in F letter.numbers.now)

-- Entry k of a letter comes to position k of the list.
abbrev pub arrived_moves : List ℕ → List (ℕ × ℕ)
arrived_moves positions = zip (count_from 0 (length positions)) positions

-- What a refusal says where a letter has so many entries, and the plan wants so many.
abbrev pub IsFaultOf : ℕ → ℕ → AbsorbFault → Type 0
IsFaultOf entries wanted (NotThePlan have want) = (have ≡ entries) × (want ≡ wanted) × (entries ≢ wanted)
IsFaultOf entries wanted NoMem = entries ≡ wanted

-- The letter is not the plan's.
abbrev pub IsNotThePlan : AbsorbFault → Type 0
IsNotThePlan (NotThePlan have want) = Unit {0}
IsNotThePlan NoMem = ⊥
