use Rattle.std.proofs.Common.{subst}
use Rattle.std.specs.List.{flat_map}
use Rattle.model_defs.specs.Numbers.{origin_integers, step_integers}
use Rattle.rank_sim.specs.Stated.{AreWeighed}
use Rattle.rank_sim.proofs.WeighedJobs.{all-stated}
use Rattle.rank_sim.proofs.stated.stated_are_weighed.Goals as goal

pub returns : goal.returns
returns c = record {
  numbers = all-stated c.args.job.now
      (subst (λ xs. AreWeighed (flat_map (λ spec. origin_integers spec.from) xs)) c.as_slice.ensures.items c.are_weighed_vectors.ensures.numbers)
      (subst (λ xs. AreWeighed (flat_map (λ spec. origin_integers spec.from) xs)) c.as_slice-2.ensures.items c.are_weighed_parts.ensures.numbers)
      (subst (λ xs. AreWeighed (flat_map step_integers xs)) c.as_slice-3.ensures.items c.are_weighed_steps.ensures.numbers);
}
