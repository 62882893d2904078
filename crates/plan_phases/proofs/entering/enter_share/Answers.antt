use Rattle.std.proofs.Common.{◌≡◌, ◌<◌, All, None, Some, cond, false, true, refl, subst, sym, ap, ◌∙◌}
use Rattle.map_core.specs.Layouts.{owner, stands}
use Rattle.map_core.specs.Uniform.{uniform_layout}
use Rattle.model_defs.specs.declared.phase.About.TheVariants.{SharePlan}
use Rattle.model_defs.specs.Maps.{is_uniform, size_of}
use Rattle.model_defs.specs.Plans.{lacking}
use Rattle.model_defs.specs.Transfers.{owner_map}
use Rattle.plan_phases.proofs.EnteringAnswers.{shared-entered}
use Rattle.plan_phases.proofs.EnteringBounds.{lacking-below}
use Rattle.plan_phases.proofs.EnteringLists.{listed-distinct, listed-here, plan-entered}
use Rattle.plan_phases.proofs.EnteringPlans.{rule-entered, rule-was-new}
use Rattle.plan_phases.proofs.entering.enter_share.Goals as goal

pub returns-then-not-is_uniform : goal.returns-then-not-is_uniform
returns-then-not-is_uniform g c = record {
  entered = λ files e values made.
      let job = c.args.job.now in
      let asked : is_uniform job (owner_map job c.args.plan) ≡ false = ap (is_uniform job) (sym (c.owner_map-map.ensures.map c.args.job.now c.requires.shapes)) ∙ sym c.if-not-is_uniform.ensures.is in
      shared-entered g.S.Scalar.semiring g.S.Scalar.conversions job files c.args.book.now c.args.plan e asked values made;
}

pub begin_by_rule-requires-clause-first : goal.begin_by_rule-requires-clause-first
begin_by_rule-requires-clause-first g c =
    let job = c.args.job.now in
    let rule : is_uniform job (owner_map job c.args.plan) ≡ true = ap (is_uniform job) (sym (c.owner_map-map.ensures.map c.args.job.now c.requires.shapes)) ∙ sym c.if-not-is_uniform.ensures.is in
    rule-was-new g.S.Scalar.semiring g.S.Scalar.conversions job c.requires.enters.0 c.args.book.now c.args.plan c.requires.enters.1 rule

pub begin_by_rule-requires-clause-below : goal.begin_by_rule-requires-clause-below
begin_by_rule-requires-clause-below g c =
    let job = c.args.job.now in
    let plan = c.args.plan in
    let files = c.requires.enters.0 in
    let e = c.requires.enters.1 in
    let size : c.size_of.result ≡ size_of job (owner_map job plan) = c.size_of.ensures.size ∙ ap (size_of job) (c.owner_map-map.ensures.map c.args.job.now c.requires.shapes) in
    let below : All (λ x. x < c.size_of.result) (lacking job files plan c.me.result) =
    subst (λ n. All (λ x. x < n) (lacking job files plan c.me.result)) (sym size) (lacking-below job files e.kept.valid e.phase c.me.result (SharePlan plan) plan e.is refl) in
    subst (λ xs. All (λ x. x < c.size_of.result) xs) (sym (c.in_ok-lacking.ensures.lacked files (listed-here g.S.Scalar.semiring g.S.Scalar.conversions job files c.args.book.now (SharePlan plan) c.args.list.now e plan refl c.me.result c.me.ensures.me))) below

pub returns : goal.returns
returns g c = record {
  entered = λ files e values made.
      let job = c.args.job.now in
      let old = c.args.book.now in
      let plan = c.args.plan in
      let rule : is_uniform job (owner_map job plan) ≡ true = ap (is_uniform job) (sym (c.owner_map-map.ensures.map c.args.job.now c.requires.shapes)) ∙ sym c.if-not-is_uniform.ensures.is in
      let size : c.size_of.result ≡ size_of job (owner_map job plan) = c.size_of.ensures.size ∙ ap (size_of job) (c.owner_map-map.ensures.map c.args.job.now c.requires.shapes) in
      let mine : c.in_ok-lacking.lacking.items ≡ lacking job files plan e.stage.rank = c.in_ok-lacking.ensures.lacked files (listed-here g.S.Scalar.semiring g.S.Scalar.conversions job files old (SharePlan plan) c.args.list.now e plan refl c.me.result c.me.ensures.me) ∙ ap (lacking job files plan) (c.me.ensures.me ∙ e.kept.me) in
      rule-entered g.S.Scalar.semiring g.S.Scalar.conversions job files old plan e rule c.begin_by_rule.new.self
      (record {
        begun = record { size = c.in_ok-begin_by_rule.ensures.size ∙ ap Some size; lacked = c.in_ok-begin_by_rule.ensures.lacking ∙ mine };
        told = c.in_ok-begin_by_rule.ensures.told;
        made = c.in_ok-begin_by_rule.ensures.made;
        others = c.in_ok-begin_by_rule.ensures.others;
        maps = c.in_ok-begin_by_rule.ensures.maps;
        me = c.in_ok-begin_by_rule.ensures.me;
        ranks = c.in_ok-begin_by_rule.ensures.ranks;
      })
      c.in_ok-begin_by_rule.ensures.asked
      (λ x.
      c.in_ok-begin_by_rule.ensures.owners x
      ∙ ap (λ n. cond (stands x c.in_ok-lacking.lacking.items) (owner (uniform_layout old.ranks n) x) None) size
      ∙ ap (λ xs. cond (stands x xs) (owner (uniform_layout old.ranks (size_of job (owner_map job plan))) x) None) mine)
      values made;
}

pub lacked_by-requires-clause-of_job : goal.lacked_by-requires-clause-of_job
lacked_by-requires-clause-of_job g c =
    plan-entered g.S.Scalar.semiring g.S.Scalar.conversions c.args.job.now c.requires.enters.0 c.args.book.now (SharePlan c.args.plan) c.args.list.now c.requires.enters.1 c.args.plan refl

pub lacked_by-requires-clause-distinct : goal.lacked_by-requires-clause-distinct
lacked_by-requires-clause-distinct g c =
    listed-distinct g.S.Scalar.semiring g.S.Scalar.conversions c.args.job.now c.requires.enters.0 c.args.book.now (SharePlan c.args.plan) c.args.list.now c.requires.enters.1 c.args.plan refl
