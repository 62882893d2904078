use Rattle.std.proofs.Common.{ap, sym, ◌∙◌, rules, false}
use Rattle.outside.specs.declared.letter_box.Letter.{Letter}
use Rattle.outside.specs.Letters.{without_letter}
use Rattle.outside.specs.MailRoom.{pending_in, posted_in}
use Rattle.outside.proofs.LetterLookups.{posted_letters, pending_in-marked, posted_in-marked, pending_in-absent}
use Rattle.outside.proofs.letter_box.LetterBox.mark_taken.Goals as goal
use Rattle.outside.proofs.letter_box.LetterBox.mark_taken.Goals.{in-Some, in_default}

pub returns-clause-takes : goal.returns-clause-takes
returns-clause-takes c =
    elim c.match-get_mut.branch [
      | in-Some w ↦
          let letter : Letter = record { bytes = w.in-Some.letter.now.bytes; is_pending = false } in
          ap (λ inside. pending_in (posted_letters inside.letters)) w.self-inside-is
          ∙ pending_in-marked c.self.inside.letters (c.get_mut.follows.lender letter) c.args.name w.in-Some.letter.now
          (sym w.in-Some.ensures.value) ((c.get_mut.follows.holds letter).3 (search rules))
          ∙ ap (λ letters. without_letter (pending_in letters) c.args.name) c.self.view_is
      | in_default w ↦
          ap (λ inside. pending_in (posted_letters inside.letters)) w.self-inside-is
          ∙ ap (λ m. pending_in (posted_letters m)) c.get_mut.follows.holds-at-none
          ∙ pending_in-absent c.self.inside.letters c.args.name (sym w.in_default.ensures.value)
          ∙ ap (λ letters. without_letter (pending_in letters) c.args.name) c.self.view_is
    ]

pub returns-clause-same_posted : goal.returns-clause-same_posted
returns-clause-same_posted c =
    elim c.match-get_mut.branch [
      | in-Some w ↦
          let letter : Letter = record { bytes = w.in-Some.letter.now.bytes; is_pending = false } in
          ap (λ inside. posted_in (posted_letters inside.letters)) w.self-inside-is
          ∙ posted_in-marked c.self.inside.letters (c.get_mut.follows.lender letter) c.args.name w.in-Some.letter.now
          (sym w.in-Some.ensures.value) ((c.get_mut.follows.holds letter).3 (search rules))
          ∙ ap posted_in c.self.view_is
      | in_default w ↦
          ap (λ inside. posted_in (posted_letters inside.letters)) w.self-inside-is
          ∙ ap (λ m. posted_in (posted_letters m)) c.get_mut.follows.holds-at-none
          ∙ ap posted_in c.self.view_is
    ]
