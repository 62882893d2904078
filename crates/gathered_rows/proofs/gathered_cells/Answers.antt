use Rattle.std.proofs.Common.{◌≡◌, ◌+◌, length, sym, subst, arith}
use Rattle.std.specs.List.Sorted.{IsPermutation}
use Rattle.std.proofs.lemmas.List.{with_items_is}
use Rattle.std.proofs.lemmas.List.Sorted.{IsPermutation-refl}
use Rattle.std.proofs.lemmas.Result.{IfOk-weaker}
use Rattle.model_defs.specs.FileMatrix.{entry_numbers}
use Rattle.gathered_rows.specs.Blocks.{cells_in, AreOwned}
use Rattle.gathered_rows.proofs.Blocks.{AreOwnedFrom-empty, AreAscending-owned}
use Rattle.gathered_rows.proofs.Gathered.{dealt_cells, sums_are_cells, dealt_cells-sent}
use Rattle.gathered_rows.proofs.gathered_cells.Goals as goal

pub loop-rank-init : goal.loop-rank-init
loop-rank-init g c = record {
  owned = (c.in_ok-blocks.ensures.count, AreOwnedFrom-empty c.args.ranks c.args.file.now.rows 0 c.in_ok-blocks.blocks.items c.in_ok-blocks.ensures.empty);
  cells = subst (IsPermutation _) (sym c.in_ok-blocks.ensures.empty) (IsPermutation-refl _);
}

pub loop-rank-preserved : goal.loop-rank-preserved
loop-rank-preserved g c =
    let count = c.in_ok-bring_dealt.ensures.owned.0 in
    let before = c.loop-rank.invariant.owned.0 in
    let len = c.loop-rank.blocks.ok.0 in
    let long : length c.bring_dealt.new.blocks ≡ c.loop-rank.blocks.len = omega arith in
    let new = sym (with_items_is c.loop-rank.blocks c.bring_dealt.new.blocks long) in
    let all = dealt_cells (entry_numbers g.S.Scalar.semiring g.S.Scalar.conversions c.args.file.now.mirror) c.args.ranks in
    record {
      owned = subst (AreOwned c.args.ranks c.args.file.now.rows) new c.in_ok-bring_dealt.ensures.owned;
      cells = subst (λ blocks. IsPermutation (all (c.loop-rank.rank + 1) c.args.file.now.lines.items) (cells_in blocks)) new
          (dealt_cells-sent (entry_numbers g.S.Scalar.semiring g.S.Scalar.conversions c.args.file.now.mirror) c.args.ranks c.loop-rank.rank c.args.file.now.lines.items
          (cells_in c.loop-rank.blocks.items) (cells_in c.bring_dealt.new.blocks) c.loop-rank.invariant.cells (rw c.deref_mut.ensures.value at c.in_ok-bring_dealt.ensures.cells));
    }

pub sums_of-requires : goal.sums_of-requires
sums_of-requires g c = AreAscending-owned c.args.ranks c.args.file.now.rows 0 c.loop-rank.blocks.items c.loop-rank.invariant.owned.1

pub returns : goal.returns
returns g c =
    let last = c.loop-rank.auto.rank-end in
    let done = c.loop-rank-test.false in
    let rank : c.loop-rank.rank ≡ c.args.ranks = omega arith in
    let all = dealt_cells (entry_numbers g.S.Scalar.semiring g.S.Scalar.conversions c.args.file.now.mirror) c.args.ranks in
    let moved = subst (λ r. IsPermutation (all r c.args.file.now.lines.items) (cells_in c.loop-rank.blocks.items)) rank c.loop-rank.invariant.cells in
    record {
      cells = IfOk-weaker c.sums_of.result _ _
          (λ v h. sums_are_cells g.met.S.Scalar.laws g.S.Scalar.conversions c.args.file.now.rows c.args.file.now.cols c.args.ranks c.args.file.now.mirror c.args.file.now.lines.items
          (cells_in c.loop-rank.blocks.items) v.items c.requires.some_rank c.requires.file.sound.places c.requires.file.sound.square moved h)
          c.sums_of.ensures;
    }
