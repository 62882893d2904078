use Rattle.std.proofs.Common.{◌∙◌, sym, length, arith}
use Rattle.std.proofs.lemmas.List.{take_all}
use Rattle.letter_codec.specs.Letters.{letter_bytes}
use Rattle.letter_codec.proofs.ReadLetters.{length-letter}
use Rattle.letter_codec.proofs.laws.letters_are_written.Goals as goal

pub returns-clause-length : goal.returns-clause-length
returns-clause-length c = length-letter

pub returns-clause-whole : goal.returns-clause-whole
returns-clause-whole c = λ kind words numbers out starts long. sym (take_all (length (letter_bytes kind words numbers)) out (omega arith)) ∙ starts
