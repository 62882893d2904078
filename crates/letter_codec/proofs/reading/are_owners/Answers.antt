use Rattle.std.proofs.Common.{◌≡◌, ◌∙◌, sym, ap, ltb, true, Bool, ◌&&◌, get_or, take, arith}
use Rattle.std.specs.List.{list_all}
use Rattle.std.proofs.lemmas.Bool.{le-ltb, lt-ltb}
use Rattle.std.proofs.lemmas.List.{take_all}
use Rattle.std.proofs.lemmas.List.Folds.{list_all_at, list_all_more}
use Rattle.letter_codec.specs.Parts.{words_of}
use Rattle.letter_codec.proofs.ReadWords.{get_or-words_of, length-words_of}
use Rattle.letter_codec.proofs.reading.are_owners.Goals as goal

pub returns-then-word_at-gt4294967295 : goal.returns-then-word_at-gt4294967295
returns-then-word_at-gt4294967295 c =
    let long = length-words_of c.args.words.now in
    let word = get_or-words_of c.args.words.now c.loop-at.at c.loop-at-test.true ∙ sym c.word_at.ensures in
    sym (list_all_at (λ w. ltb w 4294967296) (words_of c.args.words.now) c.loop-at.at 0 (omega arith) (le-ltb _ _ (omega arith)))

pub loop-at-preserved : goal.loop-at-preserved
loop-at-preserved c =
    let long = length-words_of c.args.words.now in
    let word = get_or-words_of c.args.words.now c.loop-at.at c.loop-at-test.true ∙ sym c.word_at.ensures in
    list_all_more (λ w. ltb w 4294967296) (words_of c.args.words.now) c.loop-at.at 0 (omega arith)
    ∙ both (list_all (λ w. ltb w 4294967296) (take c.loop-at.at (words_of c.args.words.now))) (ltb (get_or (words_of c.args.words.now) c.loop-at.at 0) 4294967296) c.loop-at.invariant (lt-ltb _ _ (omega arith))
  where
    both : (a b : Bool) → a ≡ true → b ≡ true → (a && b) ≡ true
    both a b p q = λ i. p i && q i

pub returns : goal.returns
returns c =
    let long = length-words_of c.args.words.now in
    sym (ap (list_all (λ w. ltb w 4294967296)) (sym (take_all c.loop-at.at (words_of c.args.words.now) (omega arith))) ∙ c.loop-at.invariant)
