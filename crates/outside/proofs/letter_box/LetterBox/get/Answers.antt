use Rattle.std.proofs.Common.{ap, sym, ◌∙◌}
use Rattle.std.specs.Option.{option_map}
use Rattle.std.specs.Rc.{rc_slice_items}
use Rattle.outside.specs.MailRoom.{posted_in}
use Rattle.outside.proofs.LetterLookups.{posted_in-map}
use Rattle.outside.proofs.letter_box.LetterBox.get.Goals as goal

pub returns-in-Some : goal.returns-in-Some
returns-in-Some c =
    ap (option_map (λ l. rc_slice_items l.bytes)) c.in-Some.ensures.value
    ∙ sym (posted_in-map c.self.inside.letters c.args.name)
    ∙ ap (λ letters. posted_in letters c.args.name) c.self.view_is

pub returns-in-None : goal.returns-in-None
returns-in-None c =
    ap (option_map (λ l. rc_slice_items l.bytes)) c.in-None.ensures.value
    ∙ sym (posted_in-map c.self.inside.letters c.args.name)
    ∙ ap (λ letters. posted_in letters c.args.name) c.self.view_is
