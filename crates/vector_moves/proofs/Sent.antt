-- The letter of some rows of a vector, and the rows that stay.
use Rattle.std.proofs.Common.{◌≡◌, ℕ, suc, ◌+◌, ◌*◌, ◌<◌, ◌≤◌, Bool, true, ◌&&◌, nat_lt, eqb, List, [], ◌∷◌, ◌++◌, map, refl, sym, ap, subst, ◌∙◌, arith, length, get_or, take, drop, length-append}
use Rattle.std.specs.List.{list_all, flat_map, zip}
use Rattle.std.proofs.lemmas.Bool.{eq-eqb, lt-ltb}
use Rattle.std.proofs.lemmas.List.{length-map}
use Rattle.std.proofs.lemmas.Slice.Zip.{seconds-zip}
use Rattle.scalar_laws.specs.Semiring.{Semiring}
use Rattle.scalar_laws.specs.Conversions.{Conversions, AreConversions}
use Rattle.tables.specs.Tables.{Table}
use Rattle.tables.specs.Indices.{AreDistinct, AreBelow, count_from}
use Rattle.map_core.specs.Classes.{index_at, indices_at}
use Rattle.map_core.specs.Plans.{PlanLists}
use Rattle.letter_codec.specs.declared.kind.Kind.TheVariants.{Nums}
use Rattle.letter_codec.specs.Letters.{letter_bytes, number_bytes}
use Rattle.letter_codec.proofs.ReadLetters.{length-letter}
use Rattle.letter_codec.proofs.WrittenNumbers.{length-number_bytes}
use Rattle.combine_modes.specs.declared.mode.Mode.{Mode}
use Rattle.combine_modes.specs.Modes.{gathered}
use Rattle.distributor.specs.Entries.{Entry, entry_at, with_cells}
use Rattle.distributor.specs.Packed.{sent_entries, words_for, numbers_of, entries_letter}
use Rattle.distributor.specs.Transfers.{own_moves, moved_cells, nums_length}
use Rattle.distributor.proofs.Combined.{beside}
use Rattle.distributor.proofs.Numbered.{entry_at-numbered, length-count_from, length-numbered, length-cells}
use Rattle.multivector.specs.Vectors.{VectorState, IsVector, has_cell, vector_table, vector_entries}
use Rattle.multivector.proofs.Cells.{row-within}
use Rattle.vector_moves.specs.Rows.{by_index, rows_of, row_numbers, vector_letter}
use Rattle.vector_moves.specs.Moves.{AreMoves, own_sources, own_targets}
use Rattle.vector_moves.proofs.Came.{HaveLength, rows_cells, length-row, rows-length, rows-taken, moved-rows, moved-table}

module _ {S : Type 0} (x : VectorState S) where
  sent-words : (froms : List ℕ) → AreBelow (length x.map) froms → flat_map (words_for Nums) (sent_entries (vector_entries x) froms) ≡ indices_at x.map froms
  sent-words [] b = refl
  sent-words (f ∷ fs) b = λ t. (entry_at-numbered x.columns x.map x.values f b.0 t).gid ∷ sent-words fs b.1 t

  sent-numbers : (froms : List ℕ) → IsVector x → AreBelow (length x.map) froms → flat_map numbers_of (sent_entries (vector_entries x) froms) ≡ flat_map (row_numbers x) froms
  sent-numbers [] is b = refl
  sent-numbers (f ∷ fs) is b = λ t. one t ++ sent-numbers fs is b.1 t
    where
      one : numbers_of (entry_at (vector_entries x) f) ≡ row_numbers x f
      one =
          ap (λ (e : Entry S). numbers_of e) (entry_at-numbered x.columns x.map x.values f b.0)
          ∙ seconds-zip (count_from 0 x.columns) (row_numbers x f) (length-row x f is b.0 ∙ sym (length-count_from 0 x.columns))

  pub sent-letter : (F : Conversions S) (froms : List ℕ) → IsVector x → AreBelow (length x.map) froms
      → entries_letter F Nums (sent_entries (vector_entries x) froms) ≡ vector_letter F x froms
  sent-letter F froms is b = λ t. letter_bytes Nums (sent-words froms b t) (number_bytes F (sent-numbers froms is b t))

  pub sent-widths : (froms : List ℕ) → IsVector x → AreBelow (length x.map) froms → list_all (λ e. eqb (length e.cells) x.columns) (sent_entries (vector_entries x) froms) ≡ true
  sent-widths [] is b = refl
  sent-widths (f ∷ fs) is b =
      ap (λ c. c && list_all (λ (e : Entry S). eqb (length e.cells) x.columns) (sent_entries (vector_entries x) fs))
      (eq-eqb (length (entry_at (vector_entries x) f).cells) x.columns
      (ap (λ (e : Entry S). length e.cells) (entry_at-numbered x.columns x.map x.values f b.0)
      ∙ length-cells x.columns (get_or x.map f 0) f x.values (row-within x f is b.0)))
      ∙ sent-widths fs is b.1

  pub sent-known : (froms : List ℕ) → AreBelow (length x.map) froms → list_all (λ p. nat_lt p (length (vector_entries x))) froms ≡ true
  sent-known [] b = refl
  sent-known (f ∷ fs) b =
      ap (λ c. c && list_all (λ p. nat_lt p (length (vector_entries x))) fs)
      (lt-ltb f (length (vector_entries x)) (omega (arith, b.0, length-numbered x.columns x.map x.values)))
      ∙ sent-known fs b.1

  pub moved-known : (froms tos : List ℕ) → AreBelow (length x.map) froms → list_all (λ m. nat_lt m.0 (length (vector_entries x))) (zip froms tos) ≡ true
  moved-known [] tos b = refl
  moved-known (f ∷ fs) [] b = refl
  moved-known (f ∷ fs) (t ∷ ts) b =
      ap (λ c. c && list_all (λ (m : ℕ × ℕ). nat_lt m.0 (length (vector_entries x))) (zip fs ts))
      (lt-ltb f (length (vector_entries x)) (omega (arith, b.0, length-numbered x.columns x.map x.values)))
      ∙ moved-known fs ts b.1

  pub length-numbers : (froms : List ℕ) → IsVector x → AreBelow (length x.map) froms → length (flat_map (row_numbers x) froms) ≡ length froms * x.columns
  length-numbers [] is b = omega arith
  length-numbers (f ∷ fs) is b =
      omega (arith, length-append (row_numbers x f) (flat_map (row_numbers x) fs), length-row x f is b.0, length-numbers fs is b.1)

  pub length-vector_letter : (F : Conversions S) → AreConversions F → (froms : List ℕ) → IsVector x → AreBelow (length x.map) froms
      → length (vector_letter F x froms) ≡ nums_length (length froms) x.columns
  length-vector_letter F laws froms is b =
      let whole = length-letter Nums (indices_at x.map froms) (number_bytes F (flat_map (row_numbers x) froms)) in
      let words = length-map froms (index_at x.map) in
      let numbers = length-number_bytes F laws (flat_map (row_numbers x) froms) in
      omega (arith, whole, words, numbers, length-numbers froms is b)

-- what stays on its rank, position by position
pub own-pairs : (p : PlanLists) → own_moves p ≡ zip (own_sources p) (own_targets p)
own-pairs p = first (count_from 0 p.same)
  where
    first : (ns : List ℕ) → map beside ns ++ zip p.permute_from p.permute_to ≡ zip (ns ++ p.permute_from) (ns ++ p.permute_to)
    first [] = refl
    first (n ∷ ns) = ap (λ z. (n, n) ∷ z) (first ns)

module _ {S : Type 0} (x y : VectorState S) (p : PlanLists) (is : IsVector x) (moves : AreMoves x.map y.map (own_sources p) (own_targets p)) where
  own-cells : moved_cells (vector_entries x) (own_moves p) ≡ rows_cells (map (row_numbers x) (own_sources p)) (own_targets p)
  own-cells = ap (moved_cells (vector_entries x)) (own-pairs p) ∙ moved-rows x (own_sources p) (own_targets p) is moves.sources

  pub own-known : list_all (λ m. nat_lt m.0 (length (vector_entries x))) (own_moves p) ≡ true
  own-known = ap (list_all (λ m. nat_lt m.0 (length (vector_entries x)))) (own-pairs p) ∙ moved-known x (own_sources p) (own_targets p) moves.sources

  pub own-taken : x.columns ≡ y.columns → list_all (λ c. has_cell y c.row c.col) (moved_cells (vector_entries x) (own_moves p)) ≡ true
  own-taken same =
      let P : ℕ → Type 0 = λ w. HaveLength w (map (row_numbers x) (own_sources p)) in
      ap (list_all (λ c. has_cell y c.row c.col)) own-cells
      ∙ rows-taken y (map (row_numbers x) (own_sources p)) (own_targets p) (subst P same (rows-length x (own_sources p) is moves.sources)) moves.targets

  pub own-rows : (R : Semiring S) (mode : Mode) (new : VectorState S) → AreDistinct x.map → AreDistinct y.map → new.map ≡ y.map
      → vector_table new ≡ with_cells R mode true (vector_table y) (moved_cells (vector_entries x) (own_moves p))
      → by_index new ≡ gathered R mode true (by_index y) (rows_of x (indices_at x.map (own_sources p)) ∷ [])
  own-rows R mode new dx dy same h =
      moved-table R mode x y new (own_sources p) (own_targets p) dx dy moves.sources moves.targets moves.indices moves.once same
      (h ∙ ap (with_cells R mode true (vector_table y)) own-cells)
