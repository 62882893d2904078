use Rattle.std.proofs.Common.{◌≡◌, map, string_bytes, not}
use Rattle.std.specs.List.{find}
use Rattle.job_text.specs.Names.{is_among, keys_of, unknown_in}
use Rattle.toml.specs.View.{table_view}
use Rattle.job_text.proofs.value.first_unknown.Given as goal

abbrev pub invariant-loop-key : goal.invariant-loop-key
invariant-loop-key l = record {
  can_next : (goal.iterator-loop-key).can_next l.key-iterator;
  ends : (goal.iterator-loop-key).is_finite l.key-iterator;
  rest : find (λ key. not (is_among key (keys_of l.form))) (map string_bytes l.key-iterator) ≡ unknown_in l.form (table_view l.table);
}
