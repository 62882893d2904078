use Rattle.std.proofs.Common.{Some}
use Rattle.rank_core.proofs.lists.column_list.Goals as goal
