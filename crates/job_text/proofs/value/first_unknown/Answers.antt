use Rattle.std.proofs.Common.{map, string_bytes, not, sym, ap, ◌∙◌}
use Rattle.std.specs.List.{find}
use Rattle.job_text.specs.Names.{is_among, keys_of}
use Rattle.job_text.proofs.KeyLists.{keys_in-view}
use Rattle.job_text.proofs.value.first_unknown.Goals as goal

pub loop-key-init : goal.loop-key-init
loop-key-init c = record {
  can_next = tt;
  ends = tt;
  rest = ap (λ ks. find (λ key. not (is_among key (keys_of c.args.form))) (map string_bytes ks)) (c.into_iter-key-iterator.ensures.into_iter_gives ∙ c.keys-key-items.ensures.rest)
      ∙ ap (find (λ key. not (is_among key (keys_of c.args.form)))) (sym (keys_in-view c.args.table.now.entries));
}
