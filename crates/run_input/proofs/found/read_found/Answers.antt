use Rattle.std.proofs.Common.{length, ap, ◌∙◌}
use Rattle.run_input.proofs.Holding.{found-count}
use Rattle.run_input.proofs.found.read_found.Goals as goal

pub compare-requires-clause-count : goal.compare-requires-clause-count
compare-requires-clause-count g c =
    ap length c.deref.ensures.value ∙ found-count (g.F.Files.told c.args.files.now) c.args.texts.now c.in-Ok.found c.in-Ok.ensures.gives
