use Rattle.std.proofs.Common.{◌∷◌, [], get_or, ap, ◌∙◌}
use Rattle.std.specs.List.{count_by, range_with_len}
use Rattle.map_core.specs.Layouts.{stands}
use Rattle.map_core.specs.Classes.{lacked_positions, permuted, same_count, unowned}
use Rattle.map_core.proofs.Accepted.{each_at, none_of_own, remotes-lacked}
use Rattle.map_core.proofs.OneClass.{in_one_class}
use Rattle.import_plan.proofs.laws.import_law.Goals as goal

pub returns : goal.returns
returns c = record {
  one_class = λ i owners distinct owned wanted l within.
      ap (λ ls. count_by (stands l) (range_with_len 0 (same_count i.source i.target) ∷ permuted i.source i.target ∷ unowned i.source i.target owners ∷ ls))
      (remotes-lacked i.ranks i.source i.target owners i.wanted distinct wanted)
      ∙ in_one_class i.me i.ranks i.source i.target owners owned l within;
  received = λ i owners distinct wanted q known.
      ap (λ ls. get_or ls q []) (remotes-lacked i.ranks i.source i.target owners i.wanted distinct wanted)
      ∙ each_at (lacked_positions i.source i.target owners) i.ranks q known;
  none_of_own = λ i owners owned wanted. none_of_own i.me i.ranks i.source i.target owners i.wanted owned wanted;
}
