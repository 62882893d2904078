-- What comes with a letter of rows, and which faults it cannot have.
use Rattle.std.proofs.Common.{◌≡◌, ℕ, zero, suc, ◌+◌, ◌*◌, ◌/◌, ◌<◌, Bool, true, false, ◌&&◌, cond, ltb, List, [], ◌∷◌, map, Option, Some, None, refl, sym, ap, ◌∙◌, arith, length}
use Rattle.std.specs.Prelude.{slice_get}
use Rattle.std.specs.Option.{option_and_then}
use Rattle.std.proofs.lemmas.Bool.{ltb-true}
use Rattle.std.proofs.lemmas.List.{length-map}
use Rattle.std.proofs.lemmas.Option.{slice_get_within}
use Rattle.scalar_laws.specs.Semiring.{Semiring}
use Rattle.scalar_laws.specs.Conversions.{Conversions}
use Rattle.tables.specs.Indices.{AreDistinct, count_from, stands}
use Rattle.map_core.specs.Classes.{index_at, indices_at}
use Rattle.map_core.specs.Layouts.{local_index}
use Rattle.map_core.proofs.Places.{global_index-from}
use Rattle.combine_modes.specs.declared.mode.Mode.{Mode}
use Rattle.combine_modes.specs.Modes.{gathered}
use Rattle.letter_codec.specs.declared.kind.Kind.TheVariants.{Nums}
use Rattle.letter_codec.specs.Letters.{IsLetter, letter_bytes}
use Rattle.letter_codec.specs.Parts.{number_at}
use Rattle.distributor.specs.Arrivals.{numbers_in}
use Rattle.multivector.specs.Vectors.{VectorState, IsVector, vector_table}
use Rattle.multivector.proofs.Cells.{has-cell, within}
use Rattle.vector_moves.specs.declared.fault.MoveFault.{MoveFault}
use Rattle.vector_moves.specs.declared.fault.MoveFault.TheVariants.{NotALetter, NotThePlan}
use Rattle.vector_moves.specs.Moves.{IsMoveFault, IsRowsLetter}
use Rattle.vector_moves.specs.Rows.{by_index, rows_of, letter_vector}
use Rattle.vector_moves.proofs.Absorbing.{length-numbers_in, same-numbers}
use Rattle.rank_values.specs.Vectors.{global_table}
use Rattle.rank_values.proofs.Globals.{some_stands}
use Rattle.rank_transfers.specs.Arrivals.{after_table, numbers_table}
use Rattle.rank_transfers.proofs.Found.{number_of, rows-found}

counted : {S : Type 0} (f : ℕ → S) (n k i : ℕ) → i < k → slice_get (map f (count_from n k)) i ≡ Some (f (n + i))
counted f n zero i l = absurd (omega (arith, l))
counted f n (suc k) zero l = let same : n ≡ n + 0 = omega arith in ap (λ m. Some (f m)) same
counted f n (suc k) (suc i) l = let same : n + 1 + i ≡ n + suc i = omega arith in counted f (n + 1) k i (omega (arith, l)) ∙ ap (λ m. Some (f m)) same

module _ {S : Type 0} (F : Conversions S) where
  number-read : (numbers : List ℕ) (k : ℕ) → k < length (numbers_in F numbers) → slice_get (numbers_in F numbers) k ≡ Some (number_at F numbers k)
  number-read numbers k l =
      let same : 0 + k ≡ k = omega arith in
      counted (number_at F numbers) 0 (length numbers / 32) k (omega (arith, l, length-numbers_in F numbers)) ∙ ap (λ m. Some (number_at F numbers m)) same

  -- the rows of a letter as a vector
  abbrev as_rows : ℕ → List ℕ → List ℕ → VectorState S
  as_rows w rows numbers = record { map = rows; columns = w; values = numbers_in F numbers }

  pub rows-table : (w : ℕ) (rows numbers : List ℕ) → length numbers ≡ 32 * (length rows * w) → rows_of (as_rows w rows numbers) rows ≡ numbers_table F w rows numbers
  rows-table w rows numbers e = λ t g j. (at g j (local_index rows g) refl ∙ sym (rows-found F w rows numbers g j)) t
    where
      is : IsVector (as_rows w rows numbers)
      is = omega (arith, e, length-numbers_in F numbers)

      cell : (l j : ℕ) (b : Bool) → ltb j w ≡ b → l < length rows → vector_table (as_rows w rows numbers) l j ≡ cond b (Some (number_at F numbers (l * w + j))) None
      cell l j true p low =
          let col = ltb-true j w p in
          ap (λ b. cond b (slice_get (numbers_in F numbers) (l * w + j)) None) (has-cell (as_rows w rows numbers) l j low col)
          ∙ number-read numbers (l * w + j) (within (as_rows w rows numbers) l j is low col)
      cell l j false p low =
          ap (λ b. cond (ltb l (length rows) && b) (slice_get (numbers_in F numbers) (l * w + j)) None) p
          ∙ off (ltb l (length rows))
        where
          off : (b : Bool) → cond (b && false) (slice_get (numbers_in F numbers) (l * w + j)) None ≡ None
          off true = refl
          off false = refl

      at : (g j : ℕ) (o : Option ℕ) → local_index rows g ≡ o → rows_of (as_rows w rows numbers) rows g j ≡ option_and_then (number_of F w numbers j) (local_index rows g)
      at g j None h =
          ap (λ o. cond (stands g rows) (option_and_then (λ l. vector_table (as_rows w rows numbers) l j) o) None) h
          ∙ none (stands g rows)
          ∙ sym (ap (option_and_then (number_of F w numbers j)) h)
        where
          none : (b : Bool) → cond b (option_and_then (λ l. vector_table (as_rows w rows numbers) l j) None) None ≡ None
          none true = refl
          none false = refl
      at g j (Some l) h =
          let low : l < length rows = slice_get_within rows l g (global_index-from rows g l h) in
          ap (λ b. cond b (by_index (as_rows w rows numbers) g j) None) (some_stands rows g l h)
          ∙ ap (option_and_then (λ m. vector_table (as_rows w rows numbers) m j)) h
          ∙ cell l j (ltb j w) refl low
          ∙ sym (ap (option_and_then (number_of F w numbers j)) h)

  -- a vector after a letter of rows came for these positions
  pub absorbed-table : (R : Semiring S) (mode : Mode) (y new : VectorState S) (tos bytes : List ℕ)
      → ((words numbers : List ℕ) → IsLetter Nums words numbers → bytes ≡ letter_bytes Nums words numbers → AreDistinct tos
      → by_index new ≡ gathered R mode true (by_index y) (rows_of (letter_vector F y tos numbers) (indices_at y.map tos) ∷ []))
      → AreDistinct tos → (letter : IsRowsLetter y.columns bytes (indices_at y.map tos))
      → global_table new ≡ after_table R mode (global_table y) (numbers_table F y.columns (indices_at y.map tos) letter.numbers)
  absorbed-table R mode y new tos bytes clause once letter =
      clause (indices_at y.map tos) letter.numbers letter.letter letter.whole once
      ∙ ap (after_table R mode (global_table y)) (rows-table y.columns (indices_at y.map tos) letter.numbers letter.each)

-- a letter of as many rows as are wanted has no fault
pub no-fault : (columns : ℕ) (bytes list tos : List ℕ) (fault : MoveFault) → IsMoveFault columns bytes (length tos) fault → IsRowsLetter columns bytes (indices_at list tos) → ⊥
no-fault columns bytes list tos NotALetter wrong letter = wrong (indices_at list tos) letter
no-fault columns bytes list tos (NotThePlan have want) (words, other, counted, wanted, differ) letter =
    let many = (same-numbers Nums Nums words (indices_at list tos) other.numbers letter.numbers other.letter.few letter.letter.few (sym other.whole ∙ letter.whole)).0 in
    differ (counted ∙ many ∙ length-map tos (index_at list) ∙ sym wanted)
