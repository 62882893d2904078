use Rattle.std.proofs.Common.{◌≡◌, List, ℕ, Some, sym, ap, ◌∙◌, subst}
use Rattle.std.specs.Prelude.{is_some}
use Rattle.std.proofs.lemmas.Option.{same_Some}
use Rattle.tables.specs.Indices.{AreDistinct}
use Rattle.map_core.specs.Plans.{export_list}
use Rattle.byte_pool.specs.Leases.{Leases, leases}
use Rattle.byte_pool.proofs.Pools.{with_lease-same}
use Rattle.byte_pool.proofs.SamePools.{given_back}
use Rattle.vector_moves.specs.Rows.{vector_letter}
use Rattle.vector_moves.proofs.rounds.transfer.Goals as goal

pub bytes-requires : goal.bytes-requires
bytes-requires g c =
    let letter = vector_letter g.S.Scalar.conversions c.args.x.now (export_list c.args.sender.now.plan c.args.to) in
    ap is_some (ap (λ (live : Leases). live c.pack-lease.result) c.pack-lease.ensures.letter ∙ with_lease-same (leases c.args.pool.now) c.pack-lease.result letter)

pub returns-clause-rows : goal.returns-clause-rows
returns-clause-rows g c =
    let froms = export_list c.args.sender.now.plan c.args.to in
    let letter = vector_letter g.S.Scalar.conversions c.args.x.now froms in
    let there : leases c.pack-lease.new.pool c.pack-lease.result ≡ Some letter = ap (λ (live : Leases). live c.pack-lease.result) c.pack-lease.ensures.letter ∙ with_lease-same (leases c.args.pool.now) c.pack-lease.result letter in
    let P : List ℕ → Type 0 = AreDistinct in
    c.absorb-absorbed.ensures.rows c.args.x.now froms c.map.ensures.is_vector (subst P (c.deref.ensures ∙ c.map.ensures.map) c.len.ensures.distinct) c.requires.columns c.requires.moves
    (same_Some c.bytes.result.now letter (sym c.bytes.ensures ∙ there))

pub returns-clause-always : goal.returns-clause-always
returns-clause-always g c =
    let froms = export_list c.args.sender.now.plan c.args.to in
    let letter = vector_letter g.S.Scalar.conversions c.args.x.now froms in
    let there : leases c.pack-lease.new.pool c.pack-lease.result ≡ Some letter = ap (λ (live : Leases). live c.pack-lease.result) c.pack-lease.ensures.letter ∙ with_lease-same (leases c.args.pool.now) c.pack-lease.result letter in
    c.absorb-absorbed.ensures.always c.args.x.now froms c.map.ensures.is_vector c.requires.columns c.requires.moves (same_Some c.bytes.result.now letter (sym c.bytes.ensures ∙ there))

pub returns-clause-pool : goal.returns-clause-pool
returns-clause-pool g c =
    let letter = vector_letter g.S.Scalar.conversions c.args.x.now (export_list c.args.sender.now.plan c.args.to) in
    given_back c.args.pool.now c.pack-lease.new.pool c.give_back.new.self c.pack-lease.result letter c.pack-lease.ensures.fresh c.pack-lease.ensures.letter c.pack-lease.ensures.sizes c.give_back.ensures.leases c.give_back.ensures.sizes
