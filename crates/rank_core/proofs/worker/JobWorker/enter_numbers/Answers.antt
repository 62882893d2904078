use Rattle.std.proofs.Common.{ap, nat_lt, length, refl, sym, ◌∙◌}
use Rattle.std.specs.List.{filter}
use Rattle.rank_phases.specs.Pairs.{from_others, to_others}
use Rattle.rank_makings.specs.Comings.{rows_between}
use Rattle.value_phases.proofs.ValueKinds.{jobs-have-value-kinds}
use Rattle.value_phases.proofs.NumberedPhases.{jobs-have-value-phases}
use Rattle.rank_core.proofs.EnteredNumbers.{awaits-as, begun-as, can-begin-as, comes, numbers-entered, posts-as, ranks-are, scene}
use Rattle.rank_core.proofs.worker.JobWorker.enter_numbers.Goals as goal

pub begin_coming-requires : goal.begin_coming-requires
begin_coming-requires g c =
    let R = g.S.Scalar.semiring in
    let F = g.S.Scalar.conversions in
    let s = c.requires.ready.0 in
    let ready = c.requires.ready.1.0 in
    let can = c.requires.ready.1.1 in
    let worker = c.args.self.now in
    let input = ready.worker_of.input in
    record {
      can = (
        ready.files,
        (
          s.absorbed,
          can-begin-as R F worker s ready c.args.phase can (jobs-have-value-phases worker.job.value input.valid) (jobs-have-value-kinds worker.job.value input.valid) c.args.k c.args.stage c.requires.next
              c.arrived_of-came.result (λ e. c.arrived_of-came.ensures.none (c.take.ensures.value ∙ e)) (λ v e. c.arrived_of-came.ensures.some v (c.take.ensures.value ∙ e))
              c.deref.result.now c.deref-2.result.now c.deref-3.result.now c.deref.ensures c.deref-2.ensures.value c.deref-3.ensures.value,
        ),
      );
    }

pub row_letters-requires : goal.row_letters-requires
row_letters-requires g c =
    let R = g.S.Scalar.semiring in
    let F = g.S.Scalar.conversions in
    let s = c.requires.ready.0 in
    let ready = c.requires.ready.1.0 in
    let can = c.requires.ready.1.1 in
    let worker = c.args.self.now in
    let input = ready.worker_of.input in
    let phased = jobs-have-value-phases worker.job.value input.valid in
    let kinds = jobs-have-value-kinds worker.job.value input.valid in
    let coming = begun-as R F worker s ready c.args.phase can phased kinds c.args.k c.args.stage c.requires.next
    c.arrived_of-came.result (λ e. c.arrived_of-came.ensures.none (c.take.ensures.value ∙ e)) (λ v e. c.arrived_of-came.ensures.some v (c.take.ensures.value ∙ e))
    c.deref.result.now c.deref-2.result.now c.deref-3.result.now c.deref.ensures c.deref-2.ensures.value c.deref-3.ensures.value
    c.in_ok-coming.coming c.in_ok-coming.ensures.begun in
    record {
      coming = (
        scene R F worker s ready c.args.phase can phased kinds c.args.k c.args.stage c.requires.next c.in_ok-coming.coming coming,
        (
          comes R F worker s ready c.args.phase can phased kinds c.args.k c.args.stage c.requires.next c.in_ok-coming.coming coming,
          ranks-are R F worker s ready c.args.phase can phased kinds c.args.k c.args.stage c.requires.next c.in_ok-coming.coming coming ∙ ap (λ j. j.ranks) (sym c.deref-4.ensures),
        ),
      );
    }

pub returns-clause-posts : goal.returns-clause-posts
returns-clause-posts g c = λ s ready can.
    let R = g.S.Scalar.semiring in
    let F = g.S.Scalar.conversions in
    let worker = c.args.self.now in
    let input = ready.worker_of.input in
    let phased = jobs-have-value-phases worker.job.value input.valid in
    let kinds = jobs-have-value-kinds worker.job.value input.valid in
    let coming = begun-as R F worker s ready c.args.phase can phased kinds c.args.k c.args.stage c.requires.next
    c.arrived_of-came.result (λ e. c.arrived_of-came.ensures.none (c.take.ensures.value ∙ e)) (λ v e. c.arrived_of-came.ensures.some v (c.take.ensures.value ∙ e))
    c.deref.result.now c.deref-2.result.now c.deref-3.result.now c.deref.ensures c.deref-2.ensures.value c.deref-3.ensures.value
    c.in_ok-coming.coming c.in_ok-coming.ensures.begun in
    let e = scene R F worker s ready c.args.phase can phased kinds c.args.k c.args.stage c.requires.next c.in_ok-coming.coming coming in
    posts-as R F worker s ready c.args.phase can phased kinds c.args.k c.args.stage c.requires.next c.in_ok-coming.coming coming c.in_ok-entered.entered.posts.items
    (c.in_ok-entered.ensures.posts e (comes R F worker s ready c.args.phase can phased kinds c.args.k c.args.stage c.requires.next c.in_ok-coming.coming coming)
    (ranks-are R F worker s ready c.args.phase can phased kinds c.args.k c.args.stage c.requires.next c.in_ok-coming.coming coming ∙ ap (λ j. j.ranks) (sym c.deref-4.ensures))
    ∙ ap (λ j. filter (λ m. nat_lt 0 (length (rows_between e e.me m.to))) (to_others j.ranks c.args.phase worker.me)) c.deref-4.ensures)

pub returns-clause-awaits : goal.returns-clause-awaits
returns-clause-awaits g c = λ s ready can.
    let R = g.S.Scalar.semiring in
    let F = g.S.Scalar.conversions in
    let worker = c.args.self.now in
    let input = ready.worker_of.input in
    let phased = jobs-have-value-phases worker.job.value input.valid in
    let kinds = jobs-have-value-kinds worker.job.value input.valid in
    let coming = begun-as R F worker s ready c.args.phase can phased kinds c.args.k c.args.stage c.requires.next
    c.arrived_of-came.result (λ e. c.arrived_of-came.ensures.none (c.take.ensures.value ∙ e)) (λ v e. c.arrived_of-came.ensures.some v (c.take.ensures.value ∙ e))
    c.deref.result.now c.deref-2.result.now c.deref-3.result.now c.deref.ensures c.deref-2.ensures.value c.deref-3.ensures.value
    c.in_ok-coming.coming c.in_ok-coming.ensures.begun in
    let e = scene R F worker s ready c.args.phase can phased kinds c.args.k c.args.stage c.requires.next c.in_ok-coming.coming coming in
    awaits-as R F worker s ready c.args.phase can phased kinds c.args.k c.args.stage c.requires.next c.in_ok-coming.coming coming c.in_ok-entered.entered.awaits.items
    (c.in_ok-entered.ensures.awaits e (comes R F worker s ready c.args.phase can phased kinds c.args.k c.args.stage c.requires.next c.in_ok-coming.coming coming)
    (ranks-are R F worker s ready c.args.phase can phased kinds c.args.k c.args.stage c.requires.next c.in_ok-coming.coming coming ∙ ap (λ j. j.ranks) (sym c.deref-4.ensures))
    ∙ ap (λ j. filter (λ m. nat_lt 0 (length (rows_between e m.from e.me))) (from_others j.ranks c.args.phase worker.me)) c.deref-4.ensures)

pub returns-clause-enters : goal.returns-clause-enters
returns-clause-enters g c = λ s ready can.
    let R = g.S.Scalar.semiring in
    let F = g.S.Scalar.conversions in
    let worker = c.args.self.now in
    let input = ready.worker_of.input in
    let phased = jobs-have-value-phases worker.job.value input.valid in
    let kinds = jobs-have-value-kinds worker.job.value input.valid in
    numbers-entered R F worker s ready c.args.phase can phased kinds c.args.k c.args.stage c.requires.next c.in_ok-coming.coming
    (begun-as R F worker s ready c.args.phase can phased kinds c.args.k c.args.stage c.requires.next
    c.arrived_of-came.result (λ e. c.arrived_of-came.ensures.none (c.take.ensures.value ∙ e)) (λ v e. c.arrived_of-came.ensures.some v (c.take.ensures.value ∙ e))
    c.deref.result.now c.deref-2.result.now c.deref-3.result.now c.deref.ensures c.deref-2.ensures.value c.deref-3.ensures.value
    c.in_ok-coming.coming c.in_ok-coming.ensures.begun)
