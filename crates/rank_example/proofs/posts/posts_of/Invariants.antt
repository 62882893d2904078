use Rattle.peers.specs.Peers.{after_work}
use Rattle.rank_example.proofs.posts.posts_of.Given as goal

abbrev pub ghost-taken_posts : goal.ghost-taken_posts
ghost-taken_posts g a = after_work g.state
