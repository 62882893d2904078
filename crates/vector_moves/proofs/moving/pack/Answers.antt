use Rattle.std.proofs.Common.{◌≡◌, ◌≤◌, ℕ, true, eqb, length, sym, ap, ◌∙◌, subst}
use Rattle.std.specs.Prelude.{count_by}
use Rattle.std.specs.List.{list_all}
use Rattle.std.proofs.lemmas.Option.{same_Some}
use Rattle.map_core.specs.Plans.{export_list}
use Rattle.byte_pool.specs.Blocks.{has_room}
use Rattle.byte_pool.specs.Leases.{IsLeastRoom, leases, with_lease}
use Rattle.distributor.specs.Packed.{sent_entries}
use Rattle.multivector.specs.Vectors.{vector_entries}
use Rattle.vector_moves.proofs.Sent.{sent-known, sent-letter, sent-widths, length-vector_letter}
use Rattle.vector_moves.proofs.moving.pack.Goals as goal

pub pack-requires-clause-known : goal.pack-requires-clause-known
pack-requires-clause-known g c = sent-known c.args.x.now (export_list c.args.transfer.now.plan c.args.to) c.requires.sources

pub pack-requires-clause-widths : goal.pack-requires-clause-widths
pack-requires-clause-widths g c = λ width e.
    let froms = export_list c.args.transfer.now.plan c.args.to in
    let P : ℕ → Type 0 = λ w. list_all (λ e. eqb (length e.cells) w) (sent_entries (vector_entries c.args.x.now) froms) ≡ true in
    subst P (same_Some c.args.x.now.columns width (sym c.requires.columns ∙ e)) (sent-widths c.args.x.now froms c.map.ensures.is_vector c.requires.sources)

pub pack-requires-clause-room : goal.pack-requires-clause-room
pack-requires-clause-room g c = λ nums.
    let F = g.S.Scalar.conversions in
    let froms = export_list c.args.transfer.now.plan c.args.to in
    let P : ℕ → Type 0 = λ n. 1 ≤ count_by (has_room n) c.args.pool.now in
    let size = ap length (sent-letter c.args.x.now F froms c.map.ensures.is_vector c.requires.sources) ∙ length-vector_letter c.args.x.now F g.met.S.Scalar.conversion_laws froms c.map.ensures.is_vector c.requires.sources in
    subst P (sym size) c.requires.room

pub returns-clause-letter : goal.returns-clause-letter
returns-clause-letter g c =
    let froms = export_list c.args.transfer.now.plan c.args.to in
    c.in-Ok.ensures.letter
    ∙ ap (with_lease (leases c.args.pool.now) c.in-Ok.lease) (sent-letter c.args.x.now g.S.Scalar.conversions froms c.map.ensures.is_vector c.requires.sources)

pub returns-clause-least : goal.returns-clause-least
returns-clause-least g c =
    let F = g.S.Scalar.conversions in
    let froms = export_list c.args.transfer.now.plan c.args.to in
    let P : ℕ → Type 0 = λ n. IsLeastRoom n c.args.pool.now c.in-Ok.lease in
    let size = ap length (sent-letter c.args.x.now F froms c.map.ensures.is_vector c.requires.sources) ∙ length-vector_letter c.args.x.now F g.met.S.Scalar.conversion_laws froms c.map.ensures.is_vector c.requires.sources in
    subst P size c.in-Ok.ensures.least
