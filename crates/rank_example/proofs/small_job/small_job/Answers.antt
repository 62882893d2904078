use Rattle.std.proofs.Common.{◌∙◌, refl}
use Rattle.rank_example.specs.SmallJob.{small_job}
use Rattle.rank_example.proofs.small_job.small_job.Goals as goal

pub returns : goal.returns
unfolding small_job
returns c = record {
  job = rw c.in_ok-maps.ensures.maps (rw c.in_ok-vectors.ensures.vectors (rw c.in_ok-steps.ensures.steps
      (rw (c.new-2.ensures.items ∙ c.new.ensures.items) (rw (c.new-4.ensures.items ∙ c.new-3.ensures.items) refl))));
}
