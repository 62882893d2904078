use Rattle.std.proofs.Common.{◌≡◌, ℕ, ◌<◌, List, OnOk, Some, true, false, Result, sym, subst}
use Rattle.std.specs.Option.{is_some}
use Rattle.std.specs.declared.alloc.AllocError.{AllocError}
use Rattle.scalar_laws.specs.Semiring.{Semiring}
use Rattle.scalar_laws.specs.Conversions.{Conversions}
use Rattle.mm_text.specs.Reading.{File}
use Rattle.model_defs.specs.declared.job.Job.{Job}
use Rattle.model_defs.specs.declared.phase.About.{About}
use Rattle.model_defs.specs.declared.phase.About.TheVariants.{SharePlan}
use Rattle.model_defs.specs.declared.phase.Plan.{Plan}
use Rattle.rank_plans.specs.Books.{Book, made_of}
use Rattle.rank_stages.specs.JobStages.{about_at}
use Rattle.value_phases.specs.ValuePhases.{is_of_structure}
use Rattle.plan_phases.specs.BookStages.{IsBookStage}
use Rattle.plan_phases.specs.BookCalls.{IsLeavingBook}
use Rattle.plan_phases.proofs.FinishedBook.{made-before}
use Rattle.plan_phases.proofs.finishing.finish_phase.Goals as goal

-- what is said of a phase about this
abbrev IsKept : {S : Type 0} → Semiring S → Conversions S → Job → Book → Book → Result (Unit {0}) AllocError → About → Type 0
IsKept R F job old new result about = OnOk result ((files : List File) (e : IsLeavingBook R F job files old about) → IsBookStage R F job files new e.view e.stage)

abbrev AreMadeNow : {S : Type 0} → Semiring S → Conversions S → Job → Book → Book → Result (Unit {0}) AllocError → About → Type 0
AreMadeNow R F job old new result about =
    OnOk result ((files : List File) (e : IsLeavingBook R F job files old about) (n : ℕ) (plan : Plan) → about_at job n ≡ Some (SharePlan plan) → is_of_structure plan ≡ false → n < e.stage.entered
    → is_some (made_of new plan) ≡ true)

pub returns-in-SharePlan : goal.returns-in-SharePlan
returns-in-SharePlan g c =
    record {
      kept = subst (IsKept g.S.Scalar.semiring g.S.Scalar.conversions c.args.job.now c.args.book.now c.finish_share.new.book c.finish_share.result)
          (sym c.in-SharePlan.is) c.finish_share.ensures.kept;
      made = subst (AreMadeNow g.S.Scalar.semiring g.S.Scalar.conversions c.args.job.now c.args.book.now c.finish_share.new.book c.finish_share.result)
          (sym c.in-SharePlan.is) c.finish_share.ensures.made;
    }

pub returns-in_default : goal.returns-in_default
returns-in_default g c =
    record {
      kept = λ files e. e.kept;
      made = λ files e. made-before g.S.Scalar.semiring g.S.Scalar.conversions c.args.job.now files c.args.book.now c.args.about e (λ plan is off. c.in_default.not-SharePlan plan is);
    }
