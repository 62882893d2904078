use Rattle.matrix_arrivals.proofs.Served.{from-owners-serve, imports-are-from-owners, job-lists-are-listed, to-owners-serve}
use Rattle.matrix_arrivals.proofs.laws.plans_serve_jobs.Goals as goal

pub returns-clause-from_owners : goal.returns-clause-from_owners
returns-clause-from_owners c = from-owners-serve

pub returns-clause-to_owners : goal.returns-clause-to_owners
returns-clause-to_owners c = to-owners-serve

pub returns-clause-lists : goal.returns-clause-lists
returns-clause-lists c = job-lists-are-listed

pub returns-clause-imports : goal.returns-clause-imports
returns-clause-imports c = imports-are-from-owners
