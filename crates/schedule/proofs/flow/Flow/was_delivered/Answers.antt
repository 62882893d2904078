use Rattle.std.proofs.Common.{◌∙◌, ◌-◌, not, ap, vec_capacity}
use Rattle.peers.specs.Protocols.{stands_in}
use Rattle.schedule.proofs.Flows.{done-at, done-not}
use Rattle.schedule.proofs.flow.Flow.was_delivered.Goals as goal

pub returns-in-Some : goal.returns-in-Some
returns-in-Some c =
    ap not c.is_marked.ensures
    ∙ done-at c.self.inside.posted c.self.inside.marks c.self.inside.delivered.items (vec_capacity c.self.inside.delivered) c.self.invariant c.args.name c.in-Some.number c.in-Some.ensures
    ∙ ap (λ f. stands_in f.delivered c.args.name) c.self.view_is

pub returns-in-None : goal.returns-in-None
returns-in-None c =
    done-not c.self.inside.posted c.self.inside.marks c.self.inside.delivered.items (vec_capacity c.self.inside.delivered) c.self.invariant c.args.name c.in-None.ensures
    ∙ ap (λ f. stands_in f.delivered c.args.name) c.self.view_is
