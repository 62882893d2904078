-- What was queued, as letters.
use Rattle.peers.specs.Protocols.{Letter}
use Rattle.rank_example.specs.declared.posts.Post.{Post}

abbrev pub letter_of : Post → Letter
letter_of p = (p.name, p.bytes.items)
