use Rattle.std.proofs.Common.{ℤ, List, [], length, ap, arith}
use Rattle.job_text.specs.Keys.{number_within}
use Rattle.job_text.proofs.ElementLists.{each_length}
use Rattle.job_text.proofs.lists.counts_of.Goals as goal

pub returns-then-is_sum_within-clause-one_per_rank : goal.returns-then-is_sum_within-clause-one_per_rank
returns-then-is_sum_within-clause-one_per_rank c =
    omega (
      arith,
      each_length (number_within c.args.place c.args.key.now 0 c.args.most) [] c.as_slice-2.result.now c.in_ok-counts.counts c.in_ok-counts.ensures,
      ap (λ (xs : List ℤ). length xs) c.as_slice-2.ensures.items,
      ap (λ (xs : List ℤ). length xs) c.as_slice.ensures.items,
      c.if-as_slice-ranks.false,
    )
