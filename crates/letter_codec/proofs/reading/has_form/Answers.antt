use Rattle.std.proofs.Common.{◌≡◌, ◌∙◌, ◌*◌, ◌==◌, ℕ, sym, subst, eq-eqb, eqb-true}
use Rattle.std.specs.Prelude.{IsTrue}
use Rattle.std.proofs.lemmas.Option.{same_Some}
use Rattle.letter_codec.specs.declared.kind.Kind.{Kind}
use Rattle.letter_codec.specs.Letters.{HasForm}
use Rattle.letter_codec.specs.Parts.{words_of}
use Rattle.letter_codec.proofs.ReadWords.{length-words_of}
use Rattle.letter_codec.proofs.RowWalks.{rows-walk, walk-entries}
use Rattle.letter_codec.proofs.reading.has_form.Goals as goal

pub returns-in-Nums : goal.returns-in-Nums
returns-in-Nums c =
    subst (λ (kind : Kind). (IsTrue c.are_equal_rows.result → HasForm kind (words_of c.args.words.now) c.args.numbers) × (HasForm kind (words_of c.args.words.now) c.args.numbers → IsTrue c.are_equal_rows.result)) (sym c.in-Nums.is)
    (subst (λ (n : ℕ). (IsTrue c.are_equal_rows.result → (each : ℕ) × (c.args.numbers ≡ each * n)) × (((each : ℕ) × (c.args.numbers ≡ each * n)) → IsTrue c.are_equal_rows.result)) (sym (length-words_of c.args.words.now)) c.are_equal_rows.ensures)

pub returns-in-Some : goal.returns-in-Some
returns-in-Some c =
    subst (λ (kind : Kind). (IsTrue (c.in-Some.places == c.args.numbers) → HasForm kind (words_of c.args.words.now) c.args.numbers) × (HasForm kind (words_of c.args.words.now) c.args.numbers → IsTrue (c.in-Some.places == c.args.numbers))) (sym c.in-Rows.is) (
      λ e. let r = walk-entries (words_of c.args.words.now) c.in-Some.places (sym c.in-Some.ensures) in
          (r.0, r.1, sym (eqb-true c.in-Some.places c.args.numbers e) ∙ r.2),
      λ r. eq-eqb c.in-Some.places c.args.numbers (same_Some _ _ (c.in-Some.ensures ∙ rows-walk (words_of c.args.words.now) r.0 r.1) ∙ sym r.2),
    )

pub returns-in-None : goal.returns-in-None
returns-in-None c = (
  λ e. absurd (cc),
  λ f. let r = subst (λ (kind : Kind). HasForm kind (words_of c.args.words.now) c.args.numbers) c.in-Rows.is f in
      let some = c.in-None.ensures ∙ rows-walk (words_of c.args.words.now) r.0 r.1 in
      absurd (cc),
)
