use Rattle.std.proofs.Common.{◌<◌, length, ◌∙◌, arith, length-set}
use Rattle.gathered_rows.proofs.Blocks.{cells_in-push, AreOwnedFrom-push, owns_row-from}
use Rattle.gathered_rows.proofs.dealing.bring_cell.Goals as goal

pub returns-clause-cells : goal.returns-clause-cells
returns-clause-cells g c =
    let count = c.requires.owned.0 in
    let below = c.uniform_owner-owner.ensures.below in
    let within : c.uniform_owner-owner.result < length c.args.blocks.now = omega arith in
    cells_in-push c.args.blocks.now c.uniform_owner-owner.result _ c.push.new.self c.args.cell within c.in_ok-push.ensures.items

pub returns-clause-owned : goal.returns-clause-owned
returns-clause-owned g c = (
  length-set c.args.blocks.now c.uniform_owner-owner.result c.push.new.self ∙ c.requires.owned.0,
  AreOwnedFrom-push c.args.ranks c.args.rows 0 c.args.blocks.now c.uniform_owner-owner.result c.uniform_owner-owner.result _ c.push.new.self c.args.cell (omega arith) c.in_ok-push.ensures.items
      (owns_row-from c.args.ranks c.args.rows c.uniform_owner-owner.result c.args.cell.row c.uniform_owner-owner.ensures.from c.uniform_owner-owner.ensures.until) c.requires.owned.1,
)
