use Rattle.std.proofs.Common.{◌∙◌, ◌-◌, ap}
use Rattle.peers.specs.Protocols.{stands_in}
use Rattle.schedule.proofs.Flows.{flies-at, flies-not}
use Rattle.schedule.proofs.flow.Flow.is_in_flight.Goals as goal

pub returns-in-Some : goal.returns-in-Some
returns-in-Some c =
    c.is_marked.ensures ∙ flies-at c.self.inside.posted c.self.inside.marks c.args.name c.in-Some.number c.self.invariant.apart c.in-Some.ensures
    ∙ ap (λ f. stands_in f.in_flight c.args.name) c.self.view_is

pub returns-in-None : goal.returns-in-None
returns-in-None c =
    flies-not c.self.inside.posted c.self.inside.marks c.args.name c.self.invariant.apart c.in-None.ensures
    ∙ ap (λ f. stands_in f.in_flight c.args.name) c.self.view_is
