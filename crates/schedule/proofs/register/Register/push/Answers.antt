use Rattle.std.proofs.Common.{rules, ◌≡◌, ◌∙◌, ◌++◌, ◌∷◌, [], length, ap}
use Rattle.peers.specs.Protocols.{stands_in}
use Rattle.schedule.proofs.Registers.{number-inserted}
use Rattle.schedule.proofs.register.Register.push.Goals as goal

pub invariant_of-self-2 : goal.invariant_of-self-2
invariant_of-self-2 c = λ n.
    let names : c.push.new.self.items ≡ c.self.inside.names.items ++ c.args.name ∷ [] = search rules in
    let number : c.len.result ≡ length c.self.inside.names.items = search rules in
    number-inserted _ _ c.self.inside.names.items c.push.new.self.items c.args.name n c.len.result
    (c.in_ok-insert.ensures.updates.0 n) (c.self.invariant n) number (ap (λ ns. stands_in ns c.args.name) c.self.view_is ∙ c.requires) names
