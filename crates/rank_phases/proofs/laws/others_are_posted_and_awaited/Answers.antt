use Rattle.rank_phases.proofs.PairNames.{awaits-of, no-awaits, no-posts, posts-of}
use Rattle.rank_phases.proofs.laws.others_are_posted_and_awaited.Goals as goal

pub returns-clause-posts : goal.returns-clause-posts
returns-clause-posts c = λ ranks phase rank tests t is within. posts-of ranks tests phase rank t is within

pub returns-clause-awaits : goal.returns-clause-awaits
returns-clause-awaits c = λ ranks phase rank tests t is within. awaits-of ranks tests phase rank t is within

pub returns-clause-no_posts : goal.returns-clause-no_posts
returns-clause-no_posts c = λ ranks phase rank tests past. no-posts ranks tests phase rank past

pub returns-clause-no_awaits : goal.returns-clause-no_awaits
returns-clause-no_awaits c = λ ranks phase rank tests past. no-awaits ranks tests phase rank past
