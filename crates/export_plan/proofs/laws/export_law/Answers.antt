use Rattle.std.proofs.Common.{◌∷◌, [], get_or, ap, ◌∙◌}
use Rattle.std.specs.List.{count_by, range_with_len}
use Rattle.map_core.specs.Layouts.{stands}
use Rattle.map_core.specs.Classes.{lacked_positions, permuted, same_count, unowned}
use Rattle.map_core.proofs.Accepted.{each_at, none_of_own, remotes-lacked}
use Rattle.map_core.proofs.OneClass.{in_one_class}
use Rattle.export_plan.proofs.laws.export_law.Goals as goal

pub returns : goal.returns
returns c = record {
  one_class = λ e owners distinct owned offered l within.
      ap (λ ls. count_by (stands l) (range_with_len 0 (same_count e.target e.source) ∷ permuted e.target e.source ∷ unowned e.target e.source owners ∷ ls))
      (remotes-lacked e.ranks e.target e.source owners e.offered distinct offered)
      ∙ in_one_class e.me e.ranks e.target e.source owners owned l within;
  sent = λ e owners distinct offered q known.
      ap (λ ls. get_or ls q []) (remotes-lacked e.ranks e.target e.source owners e.offered distinct offered)
      ∙ each_at (lacked_positions e.target e.source owners) e.ranks q known;
  none_of_own = λ e owners owned offered. none_of_own e.me e.ranks e.target e.source owners e.offered owned offered;
}
