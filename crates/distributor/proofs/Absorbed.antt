-- Which entries a letter has.
use Rattle.std.proofs.Common.{◌≡◌, ℕ, ◌*◌, List, Option, Some, None, refl, sym, ap, subst, ◌∙◌, length}
use Rattle.std.specs.Prelude.{Result, Ok, Err, IfErr}
use Rattle.scalar_laws.specs.Conversions.{Conversions}
use Rattle.letter_codec.specs.declared.kind.Kind.{Kind}
use Rattle.letter_codec.specs.declared.kind.Kind.TheVariants.{Rows}
use Rattle.letter_codec.specs.declared.letter.Letter.{Letter}
use Rattle.letter_codec.specs.Letters.{RowEntry, AreRows, HasForm, place_count}
use Rattle.letter_codec.specs.Parts.{AreParts, IsEntryCount, words_of}
use Rattle.distributor.specs.declared.fault.AbsorbFault.{AbsorbFault}
use Rattle.distributor.specs.declared.fault.AbsorbFault.TheVariants.{NoMem}
use Rattle.distributor.specs.Entries.{Entry, numbered}
use Rattle.distributor.specs.Arrivals.{numbers_in, with_numbers, IsOfKind, HasEntries, IsFaultOf}
use Rattle.distributor.proofs.Numbered.{length-numbered}
use Rattle.distributor.proofs.Arrived.{rows-unique, length-with_numbers}

pub rows-exist : (letter : Letter) → letter.kind ≡ Rows → AreParts letter
    → (rows : List RowEntry) × AreRows (words_of letter.words.now) rows × (length letter.numbers.now ≡ 32 * place_count rows)
rows-exist letter k parts =
    let P : Kind → Type 0 = λ kind. HasForm kind (words_of letter.words.now) parts.0.count in
    let form = subst P k parts.0.form in
    (form.0, form.1, parts.0.pieces ∙ ap (λ n. 32 * n) form.2)

module _ {S : Type 0} (F : Conversions S) (letter : Letter) where
  pub entries-exist : (width : Option ℕ) → IsOfKind width letter → AreParts letter → (entries : List (Entry S)) × HasEntries F width letter entries
  entries-exist None k parts =
      let rows = rows-exist letter k parts in
      (with_numbers rows.0 (numbers_in F letter.numbers.now), (rows.0, rows.1, refl))
  entries-exist (Some w) k parts = (numbered w (words_of letter.words.now) (numbers_in F letter.numbers.now), refl)

  pub entry-count : (width : Option ℕ) → IsOfKind width letter → (count : ℕ) → IsEntryCount letter.kind (words_of letter.words.now) count
      → (entries : List (Entry S)) → HasEntries F width letter entries → count ≡ length entries
  entry-count None k count h entries e =
      let P : Kind → Type 0 = λ kind. IsEntryCount kind (words_of letter.words.now) count in
      let counted = subst P k h in
      counted.2
      ∙ ap length (rows-unique counted.0 e.0 (sym counted.1.0 ∙ e.1.0))
      ∙ sym (ap length e.2 ∙ length-with_numbers e.0 (numbers_in F letter.numbers.now))
  entry-count (Some w) k count h entries e =
      let P : Kind → Type 0 = λ kind. IsEntryCount kind (words_of letter.words.now) count in
      let counted = subst P k.0 h in
      counted ∙ sym (ap length e ∙ length-numbered w (words_of letter.words.now) (numbers_in F letter.numbers.now))

  -- what holds of every list of its entries
  pub of-numbers : (T : List (Entry S) → Type 0) (width : Option ℕ) (w : ℕ) → width ≡ Some w → ((entries : List (Entry S)) → HasEntries F width letter entries → T entries)
      → T (numbered w (words_of letter.words.now) (numbers_in F letter.numbers.now))
  of-numbers T width w e h =
      let P : Option ℕ → Type 0 = λ o. HasEntries F o letter (numbered w (words_of letter.words.now) (numbers_in F letter.numbers.now)) in
      h (numbered w (words_of letter.words.now) (numbers_in F letter.numbers.now)) (subst P (sym e) refl)

  pub of-rows : (T : List (Entry S) → Type 0) (width : Option ℕ) → width ≡ None → ((entries : List (Entry S)) → HasEntries F width letter entries → T entries)
      → (rows : List RowEntry) → AreRows (words_of letter.words.now) rows → T (with_numbers rows (numbers_in F letter.numbers.now))
  of-rows T width e h rows r =
      let P : Option ℕ → Type 0 = λ o. HasEntries F o letter (with_numbers rows (numbers_in F letter.numbers.now)) in
      h (with_numbers rows (numbers_in F letter.numbers.now)) (subst P (sym e) (rows, r, refl))

pub no-memory : {T : Type 0} (r : Result T AbsorbFault) (a b : ℕ) → a ≡ b → IfErr r (λ e. e ≡ NoMem) → IfErr r (IsFaultOf a b)
no-memory (Ok x) a b e h = h
no-memory (Err f) a b e h = let P : AbsorbFault → Type 0 = IsFaultOf a b in subst P (sym h) e
