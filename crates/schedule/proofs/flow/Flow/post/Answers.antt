use Rattle.std.proofs.Common.{◌∙◌, ◌+◌, ◌-◌, ◌++◌, ◌∷◌, [], List, arith, ap, vec_capacity}
use Rattle.outside.specs.declared.name.Name.{Name}
use Rattle.peers.specs.Protocols.{stands_in}
use Rattle.schedule.specs.Flights.{Flight}
use Rattle.schedule.specs.Registers.{picked}
use Rattle.schedule.proofs.Flows.{behind-length, flow-post, flow-room, on_err, picked-post, picked-room}
use Rattle.schedule.proofs.flow.Flow.post.Goals as goal

pub make_room-requires : goal.make_room-requires
make_room-requires c =
    omega (arith, c.len-3.ensures.len, behind-length c.self.inside.posted c.self.inside.marks c.self.invariant.behind)

pub invariant_of-self-in_err-push : goal.invariant_of-self-in_err-push
invariant_of-self-in_err-push c =
    let m = c.in_ok-make_room.ensures.ok in
    flow-room c.self.inside.posted c.push.new.self c.self.inside.marks c.make_room.new.self c.self.inside.delivered.items c.reserve.new.self.items
    (vec_capacity c.self.inside.delivered) (vec_capacity c.reserve.new.self) m.0 c.self.invariant c.in_err-push.ensures.err m.1
    c.in_ok-reserve.ensures.items c.in_ok-reserve.ensures.capacity

pub returns-in_err-push-clause-err : goal.returns-in_err-push-clause-err
returns-in_err-push-clause-err c =
    let m = c.in_ok-make_room.ensures.ok in
    let view : List Name → List Name → Flight = λ flying done. record { in_flight = flying; delivered = done } in
    on_err _ (ap (λ p. view p c.reserve.new.self.items)
    (picked-room c.self.inside.posted c.push.new.self c.self.inside.marks c.make_room.new.self m.0 c.self.invariant.behind c.in_err-push.ensures.err m.1)
    ∙ ap (view (picked c.self.inside.posted c.self.inside.marks)) c.in_ok-reserve.ensures.items ∙ c.self.view_is)

pub invariant_of-self-2 : goal.invariant_of-self-2
invariant_of-self-2 c =
    let m = c.in_ok-make_room.ensures.ok in
    let r = c.in_ok-reserve.ensures in
    flow-post c.self.inside.posted c.push.new.self c.self.inside.marks c.make_room.new.self c.self.inside.delivered.items c.reserve.new.self.items
    (vec_capacity c.self.inside.delivered) (vec_capacity c.reserve.new.self) m.0 c.args.name c.self.invariant c.in_ok-push.ensures.ok m.1
    r.items r.capacity (ap (λ f. stands_in f.in_flight c.args.name) c.self.view_is ∙ c.requires.not_in_flight)
    (ap (λ f. stands_in f.delivered c.args.name) c.self.view_is ∙ c.requires.not_delivered)
    (omega (arith, m.2, c.len-3.ensures.len))
    (omega (arith, r.ok, r.len, c.len.ensures.len, c.len-2.ensures, c.self.invariant.counted, c.self.inside.delivered.ok.0))

pub returns-clause-ok : goal.returns-clause-ok
returns-clause-ok c =
    let m = c.in_ok-make_room.ensures.ok in
    let r = c.in_ok-reserve.ensures in
    let flying = picked c.self.inside.posted c.self.inside.marks in
    let view : List Name → List Name → Flight = λ flying done. record { in_flight = flying; delivered = done } in
    ap (λ p. view p c.reserve.new.self.items)
    (picked-post c.self.inside.posted c.push.new.self c.self.inside.marks c.make_room.new.self m.0 c.args.name c.self.invariant.behind
    c.in_ok-push.ensures.ok m.1 (omega (arith, m.2, c.len-3.ensures.len)))
    ∙ ap (view (flying ++ c.args.name ∷ [])) r.items
    ∙ ap (λ f. view (f.in_flight ++ c.args.name ∷ []) f.delivered) c.self.view_is
