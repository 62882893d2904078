use Rattle.std.proofs.Common.{refl, subst}
use Rattle.mm_text.specs.declared.profile.Profile.{Profile}
use Rattle.mm_text.specs.Limits.{profile_of}
use Rattle.mm_text.specs.Outcomes.{Gives}
use Rattle.mm_text.specs.ReadAgain.{read_again}
use Rattle.mm_text.specs.Reading.{file_of}
use Rattle.mm_text.proofs.ReadAgainLemmas.{again-no_read, again-room, gives-of_text}
use Rattle.mm_text.proofs.reading.again.read_again.Goals as goal

pub returns-clause-text : goal.returns-clause-text
returns-clause-text c = λ before limit text is.
    gives-of_text (profile_of c.args.form before limit) (profile_of c.args.want c.args.room c.args.most) (file_of c.args.file.now) c.copied_again.result
    (subst (λ (p : Profile). Gives file_of c.copied_again.result (read_again c.args.form p (file_of c.args.file.now))) c.new.ensures c.copied_again.ensures)
    text refl is

pub returns-clause-room : goal.returns-clause-room
returns-clause-room c =
    again-room c.args.form (profile_of c.args.want c.args.room c.args.most) (file_of c.args.file.now) c.copied_again.result
    (subst (λ (p : Profile). Gives file_of c.copied_again.result (read_again c.args.form p (file_of c.args.file.now))) c.new.ensures c.copied_again.ensures)

pub returns-clause-no_read : goal.returns-clause-no_read
returns-clause-no_read c = again-no_read c.args.form c.new.result (file_of c.args.file.now) c.copied_again.result c.copied_again.ensures
