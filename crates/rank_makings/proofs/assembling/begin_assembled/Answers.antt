use Rattle.std.proofs.Common.{refl, sym, ◌∙◌}
use Rattle.rank_makings.proofs.Assembled.{assembled-begun, dealt-rows-move, own-rows-are-targets, rows-listed}
use Rattle.rank_makings.proofs.assembling.begin_assembled.Goals as goal

pub structure_plan-requires-clause-shared : goal.structure_plan-requires-clause-shared
structure_plan-requires-clause-shared g c =
    let files = c.requires.can.0 in
    let can = c.requires.can.1.1 in
    (files, (can.shared c.requires.kind, rows-listed can c.requires.kind c.row_map.result.now.value (c.row_map.ensures.rows ∙ c.in_ok-dealt.ensures.rows files can.at.input)))

pub begin-requires-clause-own : goal.begin-requires-clause-own
begin-requires-clause-own g c =
    let files = c.requires.can.0 in
    let can = c.requires.can.1.1 in
    dealt-rows-move can c.requires.kind (c.row_map.ensures.rows ∙ c.in_ok-dealt.ensures.rows files can.at.input) c.in_ok-kept.ensures.made _ c.in_ok-rows.ensures.list
    c.fill_is_source.ensures.same (sym c.row_map.ensures.rows) c.reverse.ensures.reversed c.in_ok-empty.ensures.empty

pub begin-requires-clause-targets : goal.begin-requires-clause-targets
begin-requires-clause-targets g c =
    let files = c.requires.can.0 in
    let can = c.requires.can.1.1 in
    own-rows-are-targets can c.requires.kind (c.row_map.ensures.rows ∙ c.in_ok-dealt.ensures.rows files can.at.input) c.in_ok-kept.ensures.made _ c.in_ok-rows.ensures.list
    c.fill_is_source.ensures.same (sym c.row_map.ensures.rows) c.reverse.ensures.reversed c.in_ok-empty.ensures.empty

pub returns : goal.returns
returns g c = record {
  begun = λ files given can.
      let begun = c.in_ok-arriving.ensures in
      assembled-begun can c.requires.kind (c.row_map.ensures.rows ∙ c.in_ok-dealt.ensures.rows files can.at.input) c.in_ok-kept.ensures.made _ c.in_ok-rows.ensures.list
      c.fill_is_source.ensures.same (sym c.row_map.ensures.rows) c.reverse.ensures.reversed c.in_ok-empty.ensures.empty
      (c.in_ok-dealt.ensures.table files can.at.input) _ refl begun.plan begun.mode begun.rows begun.table;
}
