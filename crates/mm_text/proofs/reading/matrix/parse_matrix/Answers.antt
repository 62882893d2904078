use Rattle.std.proofs.Common.{refl}
use Rattle.std.proofs.lemmas.Result.{IfOk-weaker}
use Rattle.mm_text.specs.Limits.{profile_of}
use Rattle.mm_text.proofs.AnswerLemmas.{given_answer, kept_answer, other_fault}
use Rattle.mm_text.proofs.reading.matrix.parse_matrix.Goals as goal

pub returns-clause-sound : goal.returns-clause-sound
returns-clause-sound c =
    IfOk-weaker c.read_text.result _ _ (λ found kept. kept.sound)
    (kept_answer c.new.result c.args.text.now c.read_text.result c.read_text.ensures)

pub returns-clause-limits : goal.returns-clause-limits
returns-clause-limits c =
    IfOk-weaker c.read_text.result _ _ (λ found kept. kept.limits)
    (kept_answer (profile_of c.args.want c.args.room c.args.most) _ c.read_text.result
    (given_answer _ (profile_of c.args.want c.args.room c.args.most) c.args.text.now c.args.text.now c.read_text.result c.new.ensures refl c.read_text.ensures))

pub returns-clause-no_read : goal.returns-clause-no_read
returns-clause-no_read c = other_fault c.new.result c.args.text.now c.read_text.result c.read_text.ensures
