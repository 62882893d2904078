use Rattle.std.proofs.Common.{rules, ◌≡◌, ◌∙◌, ◌+◌, ◌-◌, ◌<◌, ◌++◌, ◌∷◌, [], true, false, arith, ap, sym, eqb, get_or, vec_len, vec_capacity}
use Rattle.peers.specs.Protocols.{stands_in}
use Rattle.schedule.specs.Flights.{flight_after}
use Rattle.schedule.proofs.Flows.{flies-at, flies-not, flow-taken, has-room, stays, taken-view, unmarked}
use Rattle.schedule.proofs.flow.Flow.deliver.Goals as goal

pub returns-in-None-clause-found : goal.returns-in-None-clause-found
returns-in-None-clause-found c =
    flies-not c.self.inside.posted c.self.inside.marks c.args.name c.self.invariant.apart c.in-None.ensures
    ∙ ap (λ f. stands_in f.in_flight c.args.name) c.self.view_is

pub returns-in-None-clause-after : goal.returns-in-None-clause-after
returns-in-None-clause-after c =
    stays c.args.self.now c.args.name
    (flies-not c.self.inside.posted c.self.inside.marks c.args.name c.self.invariant.apart c.in-None.ensures
    ∙ ap (λ f. stands_in f.in_flight c.args.name) c.self.view_is)

pub returns-then-not-is_marked-clause-found : goal.returns-then-not-is_marked-clause-found
returns-then-not-is_marked-clause-found c =
    sym c.if-not-is_marked.true ∙ c.is_marked.ensures
    ∙ flies-at c.self.inside.posted c.self.inside.marks c.args.name c.in-Some.number c.self.invariant.apart c.in-Some.ensures
    ∙ ap (λ f. stands_in f.in_flight c.args.name) c.self.view_is

pub returns-then-not-is_marked-clause-after : goal.returns-then-not-is_marked-clause-after
returns-then-not-is_marked-clause-after c =
    stays c.args.self.now c.args.name
    (sym c.if-not-is_marked.true ∙ c.is_marked.ensures
    ∙ flies-at c.self.inside.posted c.self.inside.marks c.args.name c.in-Some.number c.self.invariant.apart c.in-Some.ensures
    ∙ ap (λ f. stands_in f.in_flight c.args.name) c.self.view_is)

pub invariant_of-self : goal.invariant_of-self
invariant_of-self c =
    let posted = c.self.inside.posted in
    let marks = c.self.inside.marks in
    let delivered = c.self.inside.delivered in
    let mark : eqb (get_or marks c.in-Some.number 0) 0 ≡ false = unmarked _ (sym c.if-not-is_marked.false ∙ c.is_marked.ensures) in
    let room = has-room posted marks delivered.items (vec_capacity delivered) c.in-Some.number c.args.name c.self.invariant c.in-Some.ensures mark in
    let fits : vec_len delivered < vec_capacity delivered = omega (arith, room, delivered.ok.0) in
    let pushed = c.push.ensures.succeeds fits in
    let items : c.push.new.self.items ≡ delivered.items ++ c.args.name ∷ [] = search rules in
    flow-taken posted marks c.clear.new.self delivered.items c.push.new.self.items (vec_capacity delivered) (vec_capacity c.push.new.self)
    c.in-Some.number c.args.name c.self.invariant c.in-Some.ensures mark c.clear.ensures items c.push.ensures.capacity

pub returns-clause-found : goal.returns-clause-found
returns-clause-found c =
    sym c.if-not-is_marked.false ∙ c.is_marked.ensures
    ∙ flies-at c.self.inside.posted c.self.inside.marks c.args.name c.in-Some.number c.self.invariant.apart c.in-Some.ensures
    ∙ ap (λ f. stands_in f.in_flight c.args.name) c.self.view_is

pub returns-clause-after : goal.returns-clause-after
returns-clause-after c =
    let posted = c.self.inside.posted in
    let marks = c.self.inside.marks in
    let delivered = c.self.inside.delivered in
    let marked = sym c.if-not-is_marked.false ∙ c.is_marked.ensures in
    let mark : eqb (get_or marks c.in-Some.number 0) 0 ≡ false = unmarked _ marked in
    let room = has-room posted marks delivered.items (vec_capacity delivered) c.in-Some.number c.args.name c.self.invariant c.in-Some.ensures mark in
    let fits : vec_len delivered < vec_capacity delivered = omega (arith, room, delivered.ok.0) in
    let pushed = c.push.ensures.succeeds fits in
    let items : c.push.new.self.items ≡ delivered.items ++ c.args.name ∷ [] = search rules in
    taken-view posted marks c.clear.new.self delivered.items c.push.new.self.items c.in-Some.number c.args.name c.self.invariant.apart
    c.in-Some.ensures c.clear.ensures items (marked ∙ flies-at posted marks c.args.name c.in-Some.number c.self.invariant.apart c.in-Some.ensures)
    ∙ ap (λ f. flight_after f c.args.name) c.self.view_is
