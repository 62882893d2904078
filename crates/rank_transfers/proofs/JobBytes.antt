-- The letters of copied values.
use Rattle.std.proofs.Common.{◌≡◌, ℕ, ◌*◌, List, [], ◌∷◌, length, sym, ap, ◌∙◌, arith, length-append}
use Rattle.std.proofs.lemmas.List.{length-map}
use Rattle.scalar_laws.specs.Semiring.{Semiring}
use Rattle.scalar_laws.specs.Conversions.{Conversions}
use Rattle.tables.specs.Indices.{count_from}
use Rattle.tables.specs.Tables.{found}
use Rattle.distributor.proofs.Numbered.{length-count_from}
use Rattle.letter_codec.specs.declared.kind.Kind.TheVariants.{Nums}
use Rattle.letter_codec.specs.Letters.{letter_bytes}
use Rattle.vector_moves.proofs.Absorbing.{same-numbers}
use Rattle.model_defs.specs.Machine.{cells_at, place_bytes}
use Rattle.model_defs.specs.Plans.{sent_rows}
use Rattle.model_defs.specs.Shapes.{shape}
use Rattle.model_defs.specs.Stages.{transfer_at}
use Rattle.rank_stages.specs.DataLaws.{full_places, row_places}
use Rattle.rank_stages.proofs.Copies.{copies_are_full, copies_are_data, copies_have_form}
use Rattle.rank_transfers.specs.JobLetters.{LettersAreContent, LettersAreRows, LettersAreTables}

length-places : (w : ℕ) (rows : List ℕ) → length (full_places w rows) ≡ length rows * w
length-places w [] = omega arith
length-places w (i ∷ is) =
    let row : length (row_places w i) ≡ w = length-map (count_from 0 w) (λ j. record { row = i; col = j; value = tt }) ∙ length-count_from 0 w in
    let rest = length-places w is in
    let both = length-append (row_places w i) (full_places w is) in
    omega (arith, row, rest, both)

module _ {S : Type 0} (R : Semiring S) (F : Conversions S) where
  pub letters-are-content : LettersAreContent R F
  letters-are-content job files k source p q t c =
      let full = copies_are_full job files k source p q c in
      let data_ = copies_are_data job files k source p q c in
      sym (λ i. letter_bytes (data_.0 i) (data_.1 i) (place_bytes R F t (full i)))

  pub letters-are-rows : LettersAreRows R F
  letters-are-rows job files k source name bytes c read =
      let full = copies_are_full job files k source name.from name.to c in
      let data_ = copies_are_data job files k source name.from name.to c in
      record {
        numbers = read.numbers;
        letter = copies_have_form job files k source name.from name.to read.numbers c read.many;
        each = read.many ∙ ap (λ n. 32 * n) (ap length full ∙ length-places (shape job k).columns (sent_rows job files (transfer_at job k 0) name.from name.to));
        whole = read.whole ∙ (λ i. letter_bytes (data_.0 i) (data_.1 i) read.numbers);
      }

  pub letters-are-tables : LettersAreTables R F
  letters-are-tables job files k source name bytes c letter read =
      let full = copies_are_full job files k source name.from name.to c in
      let data_ = copies_are_data job files k source name.from name.to c in
      let rows = sent_rows job files (transfer_at job k 0) name.from name.to in
      let form = copies_have_form job files k source name.from name.to read.numbers c read.many in
      let same = (same-numbers Nums Nums rows rows letter.numbers read.numbers letter.letter.few form.few
      (sym letter.whole ∙ read.whole ∙ (λ i. letter_bytes (data_.0 i) (data_.1 i) read.numbers))).1 in
      ap (λ ns. found (cells_at F (full_places (shape job k).columns rows) ns)) same
      ∙ ap (λ ps. found (cells_at F ps read.numbers)) (sym full)
      ∙ ap found (sym read.cells)
