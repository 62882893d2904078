use Rattle.std.proofs.Common.{ℕ, List, Option, OnOk, Result, sym, subst}
use Rattle.std.specs.declared.alloc.AllocError.{AllocError}
use Rattle.scalar_laws.specs.Semiring.{Semiring}
use Rattle.scalar_laws.specs.Conversions.{Conversions}
use Rattle.tables.specs.Tables.{Table}
use Rattle.mm_text.specs.Reading.{File}
use Rattle.rank_phases.specs.Stages.{entering}
use Rattle.model_defs.specs.declared.job.Job.{Job}
use Rattle.model_defs.specs.declared.phase.About.{About}
use Rattle.rank_plans.specs.Books.{Book}
use Rattle.rank_stages.specs.JobStages.{HasValues}
use Rattle.plan_phases.specs.BookStages.{IsBookStage, with_book}
use Rattle.plan_phases.specs.BookCalls.{IsEnteringBook}
use Rattle.plan_phases.proofs.AbsorbedResults.{ok-weaker}
use Rattle.plan_phases.proofs.entering.enter_phase.Goals as goal

-- what is said of a phase about this
abbrev IsEntered : {S : Type 0} → Semiring S → Conversions S → Job → Book → Book → List ℕ → Result (Unit {0}) AllocError → About → Type 0
IsEntered {S} R F job old new list result about =
    OnOk result ((files : List File) (e : IsEnteringBook R F job files old about list) (values : ℕ → Option (Table S)) → HasValues R F job files values (entering e.stage)
    → IsBookStage R F job files new (record (with_book e.view new) { values = values }) (entering e.stage))

pub returns-in-RegisterMap : goal.returns-in-RegisterMap
returns-in-RegisterMap g c = record {
  entered =
      subst (IsEntered g.S.Scalar.semiring g.S.Scalar.conversions c.args.job.now c.args.book.now c.enter_register.new.book c.args.list.now c.enter_register.result)
      (sym c.in-RegisterMap.is) (ok-weaker c.enter_register.result (λ entered. λ files e. entered files c.args.list.now e) c.enter_register.ensures.entered);
}

pub returns-in-AskOwners : goal.returns-in-AskOwners
returns-in-AskOwners g c = record {
  entered =
      subst (IsEntered g.S.Scalar.semiring g.S.Scalar.conversions c.args.job.now c.args.book.now c.enter_ask.new.book c.args.list.now c.enter_ask.result)
      (sym c.in-AskOwners.is) c.enter_ask.ensures.entered;
}

pub returns-in-TellOwners : goal.returns-in-TellOwners
returns-in-TellOwners g c = record {
  entered =
      subst (IsEntered g.S.Scalar.semiring g.S.Scalar.conversions c.args.job.now c.args.book.now c.enter_tell.new.book c.args.list.now c.enter_tell.result)
      (sym c.in-TellOwners.is) (ok-weaker c.enter_tell.result (λ entered. λ files e. entered files c.args.list.now e) c.enter_tell.ensures.entered);
}

pub returns-in-SharePlan : goal.returns-in-SharePlan
returns-in-SharePlan g c = record {
  entered =
      subst (IsEntered g.S.Scalar.semiring g.S.Scalar.conversions c.args.job.now c.args.book.now c.enter_share.new.book c.args.list.now c.enter_share.result)
      (sym c.in-SharePlan.is) c.enter_share.ensures.entered;
}
