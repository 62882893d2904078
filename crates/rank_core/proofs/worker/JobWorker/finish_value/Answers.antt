use Rattle.std.proofs.Common.{◌≡◌, ℕ, List, Some, ap, length, refl, sym, subst, ◌∙◌, arith}
use Rattle.mm_text.specs.Reading.{File}
use Rattle.peers.specs.Protocols.{Letter}
use Rattle.rank_pieces.specs.Inputs.{IsRankInput}
use Rattle.rank_pieces.specs.Pieces.{AreOwnPieces, IsMadeHere, IsOwnPiece}
use Rattle.value_phases.proofs.ValueKinds.{jobs-have-value-kinds}
use Rattle.value_phases.proofs.NumberedPhases.{jobs-have-value-phases}
use Rattle.value_phases.proofs.Stages.{jobs-have-value-stages}
use Rattle.rank_core.proofs.Clauses.{on-ok}
use Rattle.rank_core.proofs.Finishing.{count-known, items-few, items-here, items-own, leaves-as, own-as}
use Rattle.rank_core.proofs.worker.JobWorker.finish_value.Goals as goal

pub finished_value-requires : goal.finished_value-requires
finished_value-requires g c =
    let R = g.S.Scalar.semiring in
    let F = g.S.Scalar.conversions in
    let s = c.requires.leaving.0 in
    let stands = c.requires.leaving.1.0.stands_so in
    let can = c.requires.leaving.1.1 in
    let worker = c.args.self.now in
    let input = stands.worker_of.input in
    record {
      left = (
        stands.files,
        (
          s.absorbed,
          (
            worker.share,
            leaves-as R F worker s stands c.args.phase can (jobs-have-value-phases worker.job.value input.valid) (jobs-have-value-stages worker.job.value input.valid) (jobs-have-value-kinds worker.job.value input.valid)
                c.args.count c.requires.count c.requires.more c.deref.result.now c.deref-2.result.now c.deref-3.result.now c.len.result c.take.result
                c.deref.ensures c.deref-2.ensures.value c.deref-3.ensures.value (let len = c.len.ensures in let ok = c.args.self.now.values.ok.0 in omega arith) c.take.ensures.value,
          ),
        ),
      );
    }

pub add_pieces-requires-clause-before : goal.add_pieces-requires-clause-before
add_pieces-requires-clause-before g c =
    let R = g.S.Scalar.semiring in
    let F = g.S.Scalar.conversions in
    let s = c.requires.leaving.0 in
    let stands = c.requires.leaving.1.0.stands_so in
    let can = c.requires.leaving.1.1 in
    let worker = c.args.self.now in
    let input = stands.worker_of.input in
    let phased = jobs-have-value-phases worker.job.value input.valid in
    let staged = jobs-have-value-stages worker.job.value input.valid in
    let kinds = jobs-have-value-kinds worker.job.value input.valid in (
      stands.files,
      (
        s.absorbed,
        (
          subst (λ j. IsRankInput F j stands.files worker.me worker.share) (sym c.deref-4.ensures) input,
          subst (λ j. AreOwnPieces R F j stands.files worker.me s.absorbed (length c.put_piece.new.values.items) c.put_piece.new.values.items) (sym c.deref-4.ensures)
              (items-own R F worker s stands c.args.phase can phased staged kinds c.args.count c.requires.count c.requires.more c.in_ok-made.made
              (λ e. sym c.take.ensures.value ∙ c.in_ok-made.ensures.none e) c.put_piece.new.values.items c.in_ok-put_piece.ensures.put
              (λ p e. own-as R F worker s stands c.args.phase can phased staged kinds c.args.count c.requires.count c.requires.more c.deref.result.now c.deref-2.result.now c.deref-3.result.now c.len.result c.take.result
              c.deref.ensures c.deref-2.ensures.value c.deref-3.ensures.value (let len = c.len.ensures in let ok = c.args.self.now.values.ok.0 in omega arith) c.take.ensures.value
              p (c.in_ok-made.ensures.made p e))),
        ),
      ),
    )

pub add_pieces-requires-clause-here : goal.add_pieces-requires-clause-here
add_pieces-requires-clause-here g c = λ v from to.
    let R = g.S.Scalar.semiring in
    let F = g.S.Scalar.conversions in
    let s = c.requires.leaving.0 in
    let stands = c.requires.leaving.1.0.stands_so in
    let can = c.requires.leaving.1.1 in
    let worker = c.args.self.now in
    let input = stands.worker_of.input in
    subst (λ j. IsMadeHere j v) (sym c.deref-4.ensures)
    (items-here R F worker s stands c.args.phase can (jobs-have-value-phases worker.job.value input.valid) (jobs-have-value-stages worker.job.value input.valid) (jobs-have-value-kinds worker.job.value input.valid)
    c.args.count c.requires.count c.requires.more c.in_ok-made.made
    (λ e. sym c.take.ensures.value ∙ c.in_ok-made.ensures.none e) c.put_piece.new.values.items c.in_ok-put_piece.ensures.put v from to)

pub returns-clause-pieces : goal.returns-clause-pieces
returns-clause-pieces g c = on-ok c.add_pieces.result c.add_pieces.ensures.pieces (λ all s leaving can.
    let R = g.S.Scalar.semiring in
    let F = g.S.Scalar.conversions in
    let stands = leaving.stands_so in
    let worker = c.args.self.now in
    let input = stands.worker_of.input in
    let phased = jobs-have-value-phases worker.job.value input.valid in
    let staged = jobs-have-value-stages worker.job.value input.valid in
    let kinds = jobs-have-value-kinds worker.job.value input.valid in
    subst (λ j. AreOwnPieces R F j stands.files worker.me s.absorbed c.args.count c.add_pieces.new.pieces.items) c.deref-4.ensures
    (all stands.files s.absorbed (subst (λ j. IsRankInput F j stands.files worker.me worker.share) (sym c.deref-4.ensures) input)
    (subst (λ j. AreOwnPieces R F j stands.files worker.me s.absorbed (length c.put_piece.new.values.items) c.put_piece.new.values.items) (sym c.deref-4.ensures)
    (items-own R F worker s stands c.args.phase can phased staged kinds c.args.count c.requires.count c.requires.more c.in_ok-made.made
    (λ e. sym c.take.ensures.value ∙ c.in_ok-made.ensures.none e) c.put_piece.new.values.items c.in_ok-put_piece.ensures.put
    (λ p e. own-as R F worker s stands c.args.phase can phased staged kinds c.args.count c.requires.count c.requires.more c.deref.result.now c.deref-2.result.now c.deref-3.result.now c.len.result c.take.result
    c.deref.ensures c.deref-2.ensures.value c.deref-3.ensures.value (let len = c.len.ensures in let ok = c.args.self.now.values.ok.0 in omega arith) c.take.ensures.value
    p (c.in_ok-made.ensures.made p e))))))
