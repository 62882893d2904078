-- The list that is given of a plan of a structure.
use Rattle.std.proofs.Common.{◌≡◌, ℕ, true, List, Some, sym, ap, subst, ◌∙◌}
use Rattle.scalar_laws.specs.Semiring.{Semiring}
use Rattle.scalar_laws.specs.Conversions.{Conversions}
use Rattle.tables.specs.Indices.{AreDistinct}
use Rattle.mm_text.specs.Reading.{File}
use Rattle.matrix_arrivals.proofs.Few.{list-distinct}
use Rattle.model_defs.specs.declared.job.Job.{Job}
use Rattle.model_defs.specs.declared.phase.About.{About}
use Rattle.model_defs.specs.declared.phase.Plan.{Plan}
use Rattle.model_defs.specs.Phases.{phases}
use Rattle.model_defs.specs.Plans.{rank_list_by}
use Rattle.std.specs.Prelude.{slice_get}
use Rattle.rank_plans.specs.Books.{Book}
use Rattle.rank_stages.specs.OwnerLaws.{plan_about}
use Rattle.value_phases.specs.ValuePhases.{IsPlanOf, is_of_structure}
use Rattle.plan_phases.specs.BookCalls.{IsEnteringBook}
use Rattle.plan_phases.proofs.MapPlans.{phase-of}

module _ {S : Type 0} (R : Semiring S) (F : Conversions S) (job : Job) (files : List File) (old : Book) (about : About) (list : List ℕ) (e : IsEnteringBook R F job files old about list)
    (plan : Plan) (of : plan_about about ≡ Some plan) where
  pub plan-entered : (i : ℕ) × IsPlanOf job i plan
  plan-entered =
      let found = phase-of (slice_get (phases job) e.phase) about e.is in
      (found.0.value, e.kept.phased.plans e.phase found.0 plan found.1.0 (ap plan_about found.1.1 ∙ of))

  pub listed-distinct : is_of_structure plan ≡ true → AreDistinct list
  listed-distinct on = subst AreDistinct (sym (e.listed plan of on)) (list-distinct job e.kept.valid files plan e.stage.rank)

  pub listed-here : (me : ℕ) → me ≡ old.me → is_of_structure plan ≡ true → list ≡ rank_list_by job files plan me
  listed-here me is on = e.listed plan of on ∙ (λ t. rank_list_by job files plan (sym (is ∙ e.kept.me) t))
