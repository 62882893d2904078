use Rattle.std.proofs.Common.{rules}
use Rattle.outside.specs.TwistWire.{moved_word}
use Rattle.outside.proofs.twist.moved_word.Goals as goal

pub returns : goal.returns
unfolding moved_word
returns c = search rules
