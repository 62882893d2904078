use Rattle.std.proofs.Common.{List, ℕ, sym, ap, subst, ◌∙◌}
use Rattle.tables.specs.Indices.{AreDistinct}
use Rattle.map_core.specs.Plans.{PlanLists, export_list}
use Rattle.byte_pool.specs.Leases.{Leases, leases, with_lease}
use Rattle.vector_moves.specs.Rows.{vector_letter}
use Rattle.rank_transfers.proofs.Packed.{rows-letter}
use Rattle.rank_transfers.proofs.arriving.Arriving.pack.Goals as goal

pub returns-clause-fresh : goal.returns-clause-fresh
returns-clause-fresh g c = ap (λ (live : Leases). live c.pack.result) (sym c.make_room.ensures.leases) ∙ c.pack.ensures.fresh

pub returns-clause-letter : goal.returns-clause-letter
returns-clause-letter g c =
    let D : List ℕ → Type 0 = AreDistinct in
    let plan = ap (λ t. t.plan) c.self.invariant.transfer_is ∙ ap (λ a. a.plan) c.self.view_is in
    c.pack.ensures.letter
    ∙ ap (λ live. with_lease live c.pack.result (vector_letter g.S.Scalar.conversions c.args.source.now (export_list c.self.inside.transfer.plan c.args.to))) c.make_room.ensures.leases
    ∙ ap (λ (p : PlanLists). with_lease (leases c.args.pool.now) c.pack.result (vector_letter g.S.Scalar.conversions c.args.source.now (export_list p c.args.to))) plan
    ∙ ap (with_lease (leases c.args.pool.now) c.pack.result)
    (rows-letter g.S.Scalar.semiring c.args.source.now c.map.ensures.is_vector (subst D (c.deref.ensures ∙ c.map.ensures.map) c.len.ensures.distinct)
    g.S.Scalar.conversions (export_list c.args.self.now.plan c.args.to) c.requires.sources)
