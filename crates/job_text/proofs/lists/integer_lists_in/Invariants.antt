use Rattle.std.proofs.Common.{◌≡◌, [], drop}
use Rattle.job_text.specs.Keys.{file_of, integer_of}
use Rattle.job_text.specs.Lists.{each_item, integers_of}
use Rattle.toml.specs.View.{array_view, items_view}
use Rattle.job_text.proofs.lists.integer_lists_in.Given as goal

abbrev pub invariant-loop-item : goal.invariant-loop-item
invariant-loop-item l = record {
  same : l.item-items ≡ l.array.items;
  rest : each_item (integers_of l.place l.key) l.lists.items (items_view (drop l.item-index l.item-items)) ≡ each_item (integers_of l.place l.key) [] (array_view l.array);
}
