use Rattle.std.proofs.Common.{◌∙◌, ap, sym, refl}
use Rattle.std.specs.Prelude.{slice_get}
use Rattle.std.specs.Option.{option_map}
use Rattle.model_defs.specs.declared.phase.Phase.{Phase}
use Rattle.rank_core.proofs.Counted.{past-of}
use Rattle.rank_core.proofs.Entered.{end-awaits, end-entered, end-posts, plain-otherwise}
use Rattle.rank_core.proofs.worker.JobWorker.begin.Goals as goal

pub returns-in-None-clause-posts : goal.returns-in-None-clause-posts
returns-in-None-clause-posts g c = λ s ready can.
    c.new.ensures.items
    ∙ sym (end-posts g.S.Scalar.semiring g.S.Scalar.conversions c.args.self.now s ready c.args.phase can
    (past-of _ c.args.phase (ap (λ xs. slice_get xs c.args.phase) (sym ready.worker_of.phase_list) ∙ sym c.in-None.ensures)))

pub returns-in-None-clause-awaits : goal.returns-in-None-clause-awaits
returns-in-None-clause-awaits g c = λ s ready can.
    c.new-in-None.ensures.items
    ∙ sym (end-awaits g.S.Scalar.semiring g.S.Scalar.conversions c.args.self.now s ready c.args.phase can
    (past-of _ c.args.phase (ap (λ xs. slice_get xs c.args.phase) (sym ready.worker_of.phase_list) ∙ sym c.in-None.ensures)))

pub returns-in-None-clause-enters : goal.returns-in-None-clause-enters
returns-in-None-clause-enters g c = λ s ready can.
    end-entered g.S.Scalar.semiring g.S.Scalar.conversions c.args.self.now s ready c.args.phase can
    (past-of _ c.args.phase (ap (λ xs. slice_get xs c.args.phase) (sym ready.worker_of.phase_list) ∙ sym c.in-None.ensures))

pub enter_numbers-requires-clause-next : goal.enter_numbers-requires-clause-next
enter_numbers-requires-clause-next g c =
    let ready = c.requires.1.0 in
    record {
      phase = c.in-Some.next;
      at = ap (λ xs. slice_get xs c.args.phase) (sym ready.worker_of.phase_list) ∙ sym c.in-Some.ensures;
      value = refl;
      about = c.in-SendNumbers.is;
    }

pub enter_plan-requires : goal.enter_plan-requires
enter_plan-requires g c =
    let ready = c.requires.1.0 in
    record {
      ready = c.requires;
      is = ap (option_map (λ (p : Phase). p.about)) (ap (λ xs. slice_get xs c.args.phase) (sym ready.worker_of.phase_list) ∙ sym c.in-Some.ensures);
      plain = plain-otherwise c.in-Some.next.about c.in_default.not-SendNumbers;
    }
