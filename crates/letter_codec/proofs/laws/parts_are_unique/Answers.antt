use Rattle.std.proofs.Common.{◌∙◌, sym}
use Rattle.letter_codec.proofs.ReadLetters.{same_parts}
use Rattle.letter_codec.proofs.SameRows.{same_rows}
use Rattle.letter_codec.proofs.laws.parts_are_unique.Goals as goal

pub returns-clause-letters : goal.returns-clause-letters
returns-clause-letters c = λ a b v w m n p q e. same_parts a b v w m n p.few q.few p.fit q.fit e

pub returns-clause-rows : goal.returns-clause-rows
returns-clause-rows c = λ words a b p q. same_rows a b (sym p.0 ∙ q.0)
