use Rattle.std.proofs.Common.{sym, ap, ◌∙◌}
use Rattle.std.proofs.lemmas.List.Concat.{concat_is}
use Rattle.crs_graph.specs.Packed.{joined}
use Rattle.crs_graph.proofs.packed_rows.PackedRows.all.Goals as goal

pub returns : goal.returns
returns c = record { all = c.deref.ensures.value ∙ c.self.invariant.all ∙ ap joined c.self.view_is ∙ sym (concat_is c.args.self.now) }
