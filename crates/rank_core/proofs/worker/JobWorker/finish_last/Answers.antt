use Rattle.std.proofs.Common.{◌≡◌, ℕ, suc, ◌<◌, ◌-◌, true, false, List, length, Some, sym, subst, ap, arith}
use Rattle.std.specs.Prelude.{is_some}
use Rattle.mm_text.specs.Reading.{File}
use Rattle.model_defs.specs.declared.phase.About.TheVariants.{SharePlan}
use Rattle.model_defs.specs.declared.phase.Plan.{Plan}
use Rattle.rank_phases.specs.Stages.{HasAbsorbed}
use Rattle.rank_plans.specs.Books.{made_of}
use Rattle.rank_stages.specs.JobStages.{about_at}
use Rattle.plan_phases.specs.BookCalls.{IsLeavingBook}
use Rattle.plan_phases.specs.BookStages.{IsBookStage}
use Rattle.value_phases.specs.ValuePhases.{is_of_structure}
use Rattle.rank_core.proofs.Clauses.{on-both}
use Rattle.rank_core.proofs.Standing.{about-of}
use Rattle.rank_core.proofs.worker.JobWorker.finish_last.Goals as goal

pub returns : goal.returns
returns g c =
    let R = g.S.Scalar.semiring in
    let F = g.S.Scalar.conversions in
    let book = c.args.self.now.book in
    let new = c.finish_phase.new.book in
    let about = c.index.result.now.about in
    on-both c.finish_phase.result c.finish_phase.ensures.kept c.finish_phase.ensures.made (λ kept made s stands can.
    let job = c.args.self.now.job.value in
    let same : c.deref.result.now ≡ job = c.deref.ensures in
    let after = c.if-phase-eq0.false in
    let here : suc (c.args.phase - 1) ≡ s.entered = (let next = can.next in omega arith) in
    let few : c.args.phase - 1 < length c.args.self.now.phases.items = (let list = ap length stands.worker_of.phase_list in let count = stands.book.stage.phases in let within = can.within in omega arith) in
    let leaving : IsLeavingBook R F job stands.files book about = record {
      view = stands.view;
      stage = s;
      phase = c.args.phase - 1;
      kept = stands.book;
      here = here;
      is = about-of job c.args.self.now.phases.items (c.args.phase - 1) c.index.result.now stands.worker_of.phase_list few c.index.ensures;
      all_absorbed = subst (HasAbsorbed s) (sym can.next) can.all_absorbed;
    } in
    let kept_so = subst (λ j. (files : List File) (e : IsLeavingBook R F j files book about) → IsBookStage R F j files new e.view e.stage) same kept in
    let made_so =
    subst (λ j. (files : List File) (e : IsLeavingBook R F j files book about) (n : ℕ) (plan : Plan) → about_at j n ≡ Some (SharePlan plan) → is_of_structure plan ≡ false → n < e.stage.entered → is_some (made_of new plan) ≡ true) same made in
    record {
      stands_so = record {
        files = stands.files;
        view = stands.view;
        worker_of = record {
          input = stands.worker_of.input;
          rank = stands.worker_of.rank;
          shapes = stands.worker_of.shapes;
          shape_count = stands.worker_of.shape_count;
          phase_list = stands.worker_of.phase_list;
          phase_count = stands.worker_of.phase_count;
        };
        book = kept_so stands.files leaving;
        values = stands.values;
        making = stands.making;
        counts = stands.counts;
      };
      plans = made_so stands.files leaving;
    })
