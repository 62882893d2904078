use Rattle.std.proofs.lemmas.Result.{IfOk-weaker, err_from_is_err_and}
use Rattle.mm_text.specs.Limits.{profile_of}
use Rattle.mm_text.proofs.AnswerLemmas.{fault_answer, file_answer, front_of, given_answer, kept_answer, no_text_fault, not_unread, reads_after, same_fault}
use Rattle.mm_text.proofs.reading.matrix.read_matrix.Goals as goal

pub returns-in_err-bytes-clause-reads : goal.returns-in_err-bytes-clause-reads
returns-in_err-bytes-clause-reads g c =
    let p = err_from_is_err_and c.from_residual.result c.from_residual.ensures.1 in
    same_fault g.F.Files.told g.F.Files.faults _ _ _ _ c.in_err-bytes.field-0.0 _ p.1 p.2 c.in_err-bytes.ensures.reads

pub returns-in_err-bytes-clause-fault : goal.returns-in_err-bytes-clause-fault
returns-in_err-bytes-clause-fault g c =
    let p = err_from_is_err_and c.from_residual.result c.from_residual.ensures.1 in
    rw (p.1, p.2) (λ h. absurd (no_text_fault _ c.in_err-bytes.ensures.fault h))

pub returns-clause-reads : goal.returns-clause-reads
returns-clause-reads g c =
    reads_after g.F.Files.told g.F.Files.faults _ _ _ c.in_ok-bytes.bytes c.read_text.result
    (not_unread c.new.result c.deref.result.now c.read_text.result c.read_text.ensures) c.in_ok-bytes.ensures.reads

pub returns-clause-file : goal.returns-clause-file
returns-clause-file g c =
    file_answer (profile_of c.args.want c.args.room c.args.most) (g.F.Files.told c.args.files.now) c.args.name.now _
    (front_of (g.F.Files.told c.args.files.now) c.args.name.now c.in_ok-bytes.bytes.items _ c.in_ok-bytes.ensures.most c.in_ok-bytes.ensures.bytes)
    c.read_text.result
    (given_answer _ (profile_of c.args.want c.args.room c.args.most) _ _ c.read_text.result c.new.ensures c.deref.ensures.value c.read_text.ensures)

pub returns-clause-fault : goal.returns-clause-fault
returns-clause-fault g c =
    fault_answer (profile_of c.args.want c.args.room c.args.most) (g.F.Files.told c.args.files.now) c.args.name.now _
    (front_of (g.F.Files.told c.args.files.now) c.args.name.now c.in_ok-bytes.bytes.items _ c.in_ok-bytes.ensures.most c.in_ok-bytes.ensures.bytes)
    c.read_text.result
    (given_answer _ (profile_of c.args.want c.args.room c.args.most) _ _ c.read_text.result c.new.ensures c.deref.ensures.value c.read_text.ensures)

pub returns-clause-sound : goal.returns-clause-sound
returns-clause-sound g c =
    IfOk-weaker c.read_text.result _ _ (λ found kept. kept.sound)
    (kept_answer c.new.result c.deref.result.now c.read_text.result c.read_text.ensures)

pub returns-clause-limits : goal.returns-clause-limits
returns-clause-limits g c =
    IfOk-weaker c.read_text.result _ _ (λ found kept. kept.limits)
    (kept_answer (profile_of c.args.want c.args.room c.args.most) _ c.read_text.result
    (given_answer _ (profile_of c.args.want c.args.room c.args.most) _ _ c.read_text.result c.new.ensures c.deref.ensures.value c.read_text.ensures))
