-- What a call came to, over some source of texts and with some letters given.
use Rattle.std.specs.Prelude.{◌==◌, ◌||◌, ℕ, Bool, IsTrue, Option, List}
use Rattle.outside.specs.Reads.{AgreesWith, Source}
use Rattle.peers.specs.Protocols.{Letter}
use Rattle.message_play.specs.Plays.{WireState}
use Rattle.tpx.specs.Endings.{Ending, ending, global_ending, run_input}
use Rattle.tpx.specs.Runs.{OnWire}
use Rattle.tpx.specs.Words.{Command}

-- With these statuses the order of deliveries was played to its end.
abbrev pub is_settled : ℕ → Bool
is_settled status = (status == 0) || ((status == 4) || ((status == 6) || ((status == 7) || (status == 8))))

-- Over some source that agrees with what the files tell, these letters were given between `before` and `after`, and how
-- the command ends then passes. Where the files tell what they hold, it is that source. Over an honest wire how it ends by
-- what the operations give on the global data passes too.
pub record SomeCall (told : Option Source) (command : Option Command) (settled : Bool) (before after : WireState) (P : Ending → Type 0) : Type 0 where
  pub source : Source
  pub agrees : AgreesWith told source
  pub letters : List Letter
  pub wire : OnWire (run_input command source) settled before after letters
  pub passes : P (ending command source letters)
  pub on_global_data : IsTrue before.is_honest → P (global_ending command source)
