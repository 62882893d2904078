use Rattle.std.proofs.Common.{◌≡◌, ◌∙◌, ◌++◌, ◌∷◌, [], refl, ap, sym, subst}
use Rattle.byte_pool.specs.Leases.{leases}
use Rattle.rank_phases.specs.Outboxes.{AreKept, posted}
use Rattle.rank_phases.specs.declared.outbox.Post.{Post}
use Rattle.rank_phases.proofs.Outboxes.{AreKept-more, is_live, posted-more, taken_back}
use Rattle.rank_phases.proofs.outbox.Outbox.post.Goals as goal

pub invariant_of-self-in-Ok : goal.invariant_of-self-in-Ok
invariant_of-self-in-Ok g c =
    let lent = c.in_ok-lease.ensures.ok c.requires.0 c.requires.1.0 c.requires.1.1 in
    subst (λ q. AreKept (leases c.pack.new.pool) q) (sym c.in-Ok.ensures.items)
    (AreKept-more (leases c.self.inside.pool) (leases c.pack.new.pool) c.self.inside.queue.items c.in_ok-lease.lease _ c.in_ok-lease.ensures.fresh lent c.self.invariant _ refl)

pub returns-in-Ok-clause-ok : goal.returns-in-Ok-clause-ok
returns-in-Ok-clause-ok g c = λ s stands can.
    ap (posted (leases c.pack.new.pool)) c.in-Ok.ensures.items
    ∙ posted-more (leases c.self.inside.pool) (leases c.pack.new.pool) c.self.inside.queue.items c.in_ok-lease.lease _ c.in_ok-lease.ensures.fresh (c.in_ok-lease.ensures.ok s stands can) c.self.invariant.lent _ refl
    ∙ ap (λ ls. ls ++ (c.args.name, s.protocol.content c.args.name s.absorbed) ∷ []) c.self.view_is

pub give_back-requires : goal.give_back-requires
give_back-requires g c =
    let lent = c.in_ok-lease.ensures.ok c.requires.0 c.requires.1.0 c.requires.1.1 in
    is_live (leases c.self.inside.pool) (leases c.pack.new.pool) c.self.inside.queue.items c.in_ok-lease.lease _ c.in_ok-lease.ensures.fresh lent c.self.invariant
    c.in-Err.failed.value.lease (ap (λ (p : Post). p.lease) c.in-Err.ensures.value_returned)

pub invariant_of-self-in-Err : goal.invariant_of-self-in-Err
invariant_of-self-in-Err g c =
    let lent = c.in_ok-lease.ensures.ok c.requires.0 c.requires.1.0 c.requires.1.1 in
    let back : leases c.give_back.new.self ≡ leases c.self.inside.pool =
    taken_back (leases c.self.inside.pool) (leases c.pack.new.pool) (leases c.give_back.new.self) c.in_ok-lease.lease c.in-Err.failed.value.lease _ c.in_ok-lease.ensures.fresh lent
    (ap (λ (p : Post). p.lease) c.in-Err.ensures.value_returned) c.give_back.ensures.leases in
    subst (λ f. AreKept f c.push_back.new.self.items) (sym back) (subst (AreKept (leases c.self.inside.pool)) (sym c.in-Err.ensures.items) c.self.invariant)

pub returns-in-Err-clause-err : goal.returns-in-Err-clause-err
returns-in-Err-clause-err g c =
    let lent = c.in_ok-lease.ensures.ok c.requires.0 c.requires.1.0 c.requires.1.1 in
    let back : leases c.give_back.new.self ≡ leases c.self.inside.pool =
    taken_back (leases c.self.inside.pool) (leases c.pack.new.pool) (leases c.give_back.new.self) c.in_ok-lease.lease c.in-Err.failed.value.lease _ c.in_ok-lease.ensures.fresh lent
    (ap (λ (p : Post). p.lease) c.in-Err.ensures.value_returned) c.give_back.ensures.leases in
    (λ i. posted (back i) (c.in-Err.ensures.items i)) ∙ c.self.view_is
