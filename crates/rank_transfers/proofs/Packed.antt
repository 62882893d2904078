-- The numbers of rows of a vector are those of its table at the places of these rows.
use Rattle.std.proofs.Common.{◌≡◌, ℕ, zero, suc, ◌+◌, ◌*◌, ◌<◌, List, [], ◌∷◌, ◌++◌, map, None, refl, sym, ap, ap₂, ◌∙◌, arith, length, get_or, drop, cond}
use Rattle.std.specs.Prelude.{slice_get}
use Rattle.std.specs.List.{flat_map}
use Rattle.std.specs.Option.{option_and_then, unwrap_or}
use Rattle.std.proofs.lemmas.List.{map-append}
use Rattle.std.proofs.lemmas.Option.{slice_get-get_or}
use Rattle.scalar_laws.specs.Semiring.{Semiring}
use Rattle.scalar_laws.specs.Conversions.{Conversions}
use Rattle.tables.specs.declared.Cell.{Cell}
use Rattle.tables.specs.Indices.{AreBelow, AreDistinct, count_from}
use Rattle.map_core.specs.Classes.{index_at, indices_at}
use Rattle.map_core.proofs.Places.{local_index-from}
use Rattle.letter_codec.specs.Letters.{letter_bytes, number_bytes}
use Rattle.letter_codec.specs.declared.kind.Kind.TheVariants.{Nums}
use Rattle.distributor.proofs.Numbered.{slice_get-drop, slice_get-take}
use Rattle.multivector.specs.Vectors.{VectorState, IsVector, vector_table}
use Rattle.multivector.proofs.Cells.{has-cell}
use Rattle.model_defs.specs.Plans.{One}
use Rattle.rank_stages.specs.DataLaws.{full_places, row_places}
use Rattle.rank_values.specs.Vectors.{global_table}
use Rattle.vector_moves.specs.Rows.{row_numbers, vector_letter}
use Rattle.vector_moves.proofs.Came.{length-row}
use Rattle.vector_moves.proofs.Positions.{count-list}
use Rattle.rank_transfers.specs.Arrivals.{table_letter}

module _ {S : Type 0} (R : Semiring S) (v : VectorState S) (is : IsVector v) (distinct : AreDistinct v.map) where
  -- the number at a place
  abbrev pub at_place : Cell One → S
  at_place c = unwrap_or (global_table v c.row c.col) R.nought

  number : (f j : ℕ) (d : S) → f < length v.map → j < v.columns → unwrap_or (global_table v (index_at v.map f) j) R.nought ≡ get_or (row_numbers v f) j d
  number f j d low within =
      let long : j < length (row_numbers v f) = omega (arith, within, length-row v f is low) in
      ap (λ o. unwrap_or (option_and_then (λ l. vector_table v l j) o) R.nought) (local_index-from v.map (index_at v.map f) f distinct (slice_get-get_or v.map f 0 low))
      ∙ ap (λ b. unwrap_or (cond b (slice_get v.values (f * v.columns + j)) None) R.nought) (has-cell v f j low within)
      ∙ ap (λ o. unwrap_or o R.nought)
      (sym (slice_get-take v.columns j (drop (f * v.columns) v.values) within ∙ slice_get-drop (f * v.columns) j v.values)
      ∙ slice_get-get_or (row_numbers v f) j d long)

  places-of-row : (g n k : ℕ) → map at_place (map (λ j. record { row = g; col = j; value = tt }) (count_from k n)) ≡ map (λ j. unwrap_or (global_table v g j) R.nought) (count_from k n)
  places-of-row g zero k = refl
  places-of-row g (suc n) k = ap (λ z. unwrap_or (global_table v g k) R.nought ∷ z) (places-of-row g n (k + 1))

  row : (f : ℕ) → f < length v.map → row_numbers v f ≡ map at_place (row_places v.columns (index_at v.map f))
  row f low =
      let h : ℕ → S = λ j. unwrap_or (global_table v (index_at v.map f) j) R.nought in
      let long = length-row v f is low in
      sym (count-list h 0 (row_numbers v f) (λ i d l. let same : 0 + i ≡ i = omega arith in ap h same ∙ number f i d low (omega (arith, l, long))))
      ∙ ap (λ n. map h (count_from 0 n)) long
      ∙ sym (places-of-row (index_at v.map f) v.columns 0)

  pub rows-numbers : (froms : List ℕ) → AreBelow (length v.map) froms → flat_map (row_numbers v) froms ≡ map at_place (full_places v.columns (indices_at v.map froms))
  rows-numbers [] b = refl
  rows-numbers (f ∷ fs) b =
      ap₂ (λ a c. a ++ c) (row f b.0) (rows-numbers fs b.1)
      ∙ sym (map-append at_place (row_places v.columns (index_at v.map f)) (full_places v.columns (indices_at v.map fs)))

  -- so the letter of rows is that of the table
  pub rows-letter : (F : Conversions S) (froms : List ℕ) → AreBelow (length v.map) froms
      → vector_letter F v froms ≡ table_letter R F v.columns (global_table v) (indices_at v.map froms)
  rows-letter F froms b = ap (λ ns. letter_bytes Nums (indices_at v.map froms) (number_bytes F ns)) (rows-numbers froms b)
