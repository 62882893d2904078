use Rattle.letter_codec.proofs.AlikeLetters.{alike-letter, turned}
use Rattle.letter_codec.proofs.laws.alike_letters_differ_in_numbers.Goals as goal

pub returns-clause-mutual : goal.returns-clause-mutual
returns-clause-mutual c = turned

pub returns-clause-numbers : goal.returns-clause-numbers
returns-clause-numbers c = alike-letter
