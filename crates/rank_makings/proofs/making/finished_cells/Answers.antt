use Rattle.std.proofs.Common.{sym, ◌∙◌}
use Rattle.rank_makings.proofs.Makings.{copy-made, sender, sends-apply}
use Rattle.rank_makings.proofs.making.finished_cells.Goals as goal

pub finished_apply-requires-clause-kind : goal.finished_apply-requires-clause-kind
finished_apply-requires-clause-kind g c = sends-apply (sender c.requires.can.1.1.1) (sym c.is_applied.ensures.apply ∙ c.if-is_applied.true)

pub returns : goal.returns
returns g c = record { piece = λ files given share can. copy-made can (sym c.is_applied.ensures.apply ∙ c.if-is_applied.false) }
