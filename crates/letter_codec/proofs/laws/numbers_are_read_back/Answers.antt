use Rattle.letter_codec.proofs.WrittenNumbers.{length-number_bytes, read-back}
use Rattle.letter_codec.proofs.laws.numbers_are_read_back.Goals as goal

pub returns : goal.returns
returns g c = λ F laws numbers. (length-number_bytes F laws numbers, read-back F laws numbers)
