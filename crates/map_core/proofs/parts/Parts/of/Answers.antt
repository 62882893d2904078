use Rattle.std.proofs.Common.{◌≡◌, length, ap, refl, sym, ◌∙◌, arith}
use Rattle.std.proofs.lemmas.Option.{get_or_from_slice_get}
use Rattle.map_core.specs.Classes.{index_at, owner_at}
use Rattle.map_core.specs.Parts.{parts_below, with_position}
use Rattle.map_core.proofs.Classes.{same_count-le}
use Rattle.map_core.proofs.Parting.{length-parts_below, parts_below-next, parts_below-same}
use Rattle.map_core.proofs.parts.Parts.of.Goals as goal

pub loop-lid-init : goal.loop-lid-init
loop-lid-init c =
    parts_below-same c.args.ranks c.args.held.now c.args.parted.now c.args.owners.now c.args.first _ _ _ _ c.requires.first c.new.ensures.items c.new-2.ensures.items c.in_ok-empty_lists.ensures.empty c.in_ok-empty_lists-2.ensures.empty

pub add-requires-clause-lacked : goal.add-requires-clause-lacked
add-requires-clause-lacked c q is =
    let below = c.requires.below c.loop-lid.lid q is in
    let many = length-parts_below c.args.ranks c.args.held.now c.args.parted.now c.args.owners.now c.loop-lid.lid c.loop-lid.parts c.loop-lid.invariant in
    omega (arith, many.0)

pub add-requires-clause-remotes : goal.add-requires-clause-remotes
add-requires-clause-remotes c q is =
    let below = c.requires.below c.loop-lid.lid q is in
    let many = length-parts_below c.args.ranks c.args.held.now c.args.parted.now c.args.owners.now c.loop-lid.lid c.loop-lid.parts c.loop-lid.invariant in
    omega (arith, many.1)

pub loop-lid-preserved : goal.loop-lid-preserved
loop-lid-preserved c =
    let gid = c.unwrap-gid.result in
    let lid = c.loop-lid.lid in
    let owner = owner_at c.args.owners.now lid in
    let index : gid ≡ index_at c.args.parted.now lid = sym (get_or_from_slice_get c.args.parted.now lid gid 0 (sym c.global_of.ensures.index ∙ c.unwrap-gid.ensures)) in
    c.in_ok-add.ensures.added
    ∙ ap (λ p. with_position p lid gid c.local_of.result owner) c.loop-lid.invariant
    ∙ parts_below-next c.args.ranks c.args.held.now c.args.parted.now c.args.owners.now lid gid c.local_of.result owner (omega arith) index c.local_of.ensures.place c.local_of.ensures.found refl (c.requires.below lid)

pub returns : goal.returns
returns c =
    let end = c.loop-lid-test.false in
    let reached = c.loop-lid.auto.lid-end in
    let len = c.len-lid-end.ensures.len in
    let first = same_count-le c.args.held.now c.args.parted.now in
    let at : c.loop-lid.lid ≡ length c.args.parted.now = omega (arith, first.1) in
    record { parts = c.loop-lid.invariant ∙ ap (parts_below c.args.ranks c.args.held.now c.args.parted.now c.args.owners.now) at }
