use Rattle.std.proofs.Common.{◌++◌, ap, map}
use Rattle.rank_example.specs.Posts.{letter_of}
use Rattle.rank_example.proofs.posts.taken_posts.Goals as goal

pub loop-name-init : goal.loop-name-init
loop-name-init g c = (g.state.queued, (c.requires.1, ap (λ posts. map letter_of posts ++ g.state.queued) c.new-posts.ensures.items))
