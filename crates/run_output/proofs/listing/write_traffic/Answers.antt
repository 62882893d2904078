use Rattle.std.proofs.Common.{subst}
use Rattle.outside.specs.Writes.{Writes}
use Rattle.run_output.proofs.JobListing.{listing-of}
use Rattle.run_output.proofs.listing.write_traffic.Goals as goal

pub returns-clause-of_job : goal.returns-clause-of_job
returns-clause-of_job g c = λ job files phases letters.
    subst (λ text. Writes g.O.Sink.told g.O.Sink.faults c.args.out.now c.write_listing.new.out text c.write_listing.result)
    (listing-of job files c.args.phases.now c.args.letters.now phases letters) c.write_listing.ensures
