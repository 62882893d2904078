use Rattle.std.proofs.Common.{ℤ, List, [], length, map, ap, arith}
use Rattle.job_text.specs.Lists.{indices_of}
use Rattle.job_text.proofs.ElementLists.{each_length}
use Rattle.job_text.proofs.lists.index_lists_of.Goals as goal

pub returns-then-are_few-clause-one_per_rank : goal.returns-then-are_few-clause-one_per_rank
returns-then-are_few-clause-one_per_rank c =
    omega (
      arith,
      each_length (indices_of c.args.place c.args.key.now) [] c.as_slice-2.result.now (map (λ l. l.items) c.in_ok-lists.lists.items) c.in_ok-lists.ensures,
      ap (λ (xs : List (List ℤ)). length xs) c.as_slice-2.ensures.items,
      ap (λ (xs : List (List ℤ)). length xs) c.as_slice.ensures.items,
      c.if-as_slice-ranks.false,
    )
