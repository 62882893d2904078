use Rattle.std.proofs.Common.{rules}
use Rattle.std.proofs.lemmas.List.Sorted.{answers_always}
use Rattle.std.proofs.lemmas.Result.{on_ok_weaker}
use Rattle.gathered_rows.proofs.Sorted.{AreSorted-from_keys}
use Rattle.gathered_rows.proofs.sums.sort_cells.Goals as goal

pub returns-clause-sorted : goal.returns-clause-sorted
returns-clause-sorted g c = on_ok_weaker c.sort_by_key.result (λ h. AreSorted-from_keys c.sort_by_key.new.self.items (h (λ d. (d.row, d.col)) (answers_always _ _ _ (λ f a r q k. search rules)))) c.sort_by_key.ensures.sorted
