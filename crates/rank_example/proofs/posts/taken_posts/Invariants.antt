use Rattle.std.proofs.Common.{◌≡◌, ◌-◌, List, ◌++◌, map, length}
use Rattle.peers.specs.Protocols.{Letter}
use Rattle.rank_example.specs.Posts.{letter_of}
use Rattle.rank_example.proofs.posts.taken_posts.Given as goal

abbrev pub invariant-loop-name : goal.invariant-loop-name
invariant-loop-name g l =
    (left : List Letter) × (g.N.Peer.stands l.peer (record g.state { queued = left }) × (map letter_of l.posts.items ++ left ≡ g.state.queued))

abbrev pub decreases-loop-name : goal.decreases-loop-name
decreases-loop-name g l = length g.state.queued - length l.posts.items
