use Rattle.std.proofs.Common.{◌<◌, ◌++◌, length, ◌∙◌, arith}
use Rattle.std.specs.List.{flat_map}
use Rattle.tables.specs.Indices.{dealt}
use Rattle.std.proofs.Math.Nat.{mod-eq_of_lt, add-mod_right}
use Rattle.model_defs.specs.FileMatrix.{entry_numbers}
use Rattle.gathered_rows.specs.Blocks.{cells_in}
use Rattle.gathered_rows.proofs.Dealt.{brought-first, brought-next}
use Rattle.gathered_rows.proofs.dealing.bring_dealt.Goals as goal

pub loop-k-init : goal.loop-k-init
loop-k-init g c = record {
  mine = mod-eq_of_lt c.requires.is_rank;
  owned = c.requires.owned;
  cells = brought-first (entry_numbers g.S.Scalar.semiring g.S.Scalar.conversions c.args.file.now.mirror) c.args.ranks c.args.rank c.args.file.now.lines.items (cells_in c.args.blocks.now) c.requires.is_rank;
}

pub loop-k-preserved : goal.loop-k-preserved
loop-k-preserved g c =
    let test = c.loop-k-test.true in
    let count = c.len.ensures in
    let long = c.args.file.now.lines.ok.0 in
    let within : c.loop-k.k < length c.args.file.now.lines.items = omega arith in
    record {
      mine = add-mod_right c.loop-k.k c.args.ranks ∙ c.loop-k.invariant.mine;
      owned = c.in_ok-bring_entry.ensures.owned;
      cells = brought-next (entry_numbers g.S.Scalar.semiring g.S.Scalar.conversions c.args.file.now.mirror) c.args.ranks c.args.rank c.loop-k.k c.args.file.now.lines.items c.index.result.now
          (cells_in c.args.blocks.now ++ flat_map (entry_numbers g.S.Scalar.semiring g.S.Scalar.conversions c.args.file.now.mirror) (dealt c.args.ranks c.args.rank c.args.file.now.lines.items))
          (cells_in c.loop-k.blocks) (cells_in c.bring_entry.new.blocks) c.requires.is_rank c.loop-k.invariant.mine within c.index.ensures c.loop-k.invariant.cells c.in_ok-bring_entry.ensures.cells;
    }
