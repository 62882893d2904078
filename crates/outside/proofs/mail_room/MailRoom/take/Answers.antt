use Rattle.std.proofs.Common.{refl, subst}
use Rattle.std.specs.Prelude.{Contains}
use Rattle.outside.proofs.mail_room.MailRoom.take.Goals as goal

pub returns-then-next_fails-clause-fails : goal.returns-then-next_fails-clause-fails
returns-then-next_fails-clause-fails c =
    let stated : Contains c.self.inside.plan.stated c.self.inside.plan.calls =
    c.next_fails.ensures.stated.0 c.if-next_fails.true in
    (λ failed. subst (λ m. Contains m.plan.stated m.plan.calls) c.self.view_is stated, λ h. refl)
