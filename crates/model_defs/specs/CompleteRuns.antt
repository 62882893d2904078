-- Complete runs over an honest wire.
use Rattle.std.specs.Prelude.{◌≡◌, true, List, []}
use Rattle.outside.specs.MailRoom.{names_of}
use Rattle.peers.specs.Protocols.{Protocol, Letter}
use Rattle.peers.specs.Runs.{EachComes, IsExactRun, has_all}

-- Each letter is in flight when it comes, or comes again, and is what its sender made; and all letters come.
pub record IsCompleteRun (P : Protocol) (g : List Letter) : Type 0 where
  pub comes : EachComes P [] (names_of g)
  pub exact : IsExactRun P g
  pub complete : has_all P (names_of g) ≡ true
