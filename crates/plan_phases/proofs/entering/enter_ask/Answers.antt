use Rattle.std.proofs.Common.{◌≡◌, ◌<◌, All, [], Some, cond, eqb, refl, subst, sym, ap, ◌∙◌}
use Rattle.map_core.specs.Homes.{homed}
use Rattle.model_defs.specs.declared.phase.About.TheVariants.{AskOwners}
use Rattle.model_defs.specs.Maps.{size_of}
use Rattle.model_defs.specs.Plans.{lacking}
use Rattle.model_defs.specs.Transfers.{owner_map}
use Rattle.plan_phases.proofs.EnteringBounds.{lacking-below}
use Rattle.plan_phases.proofs.EnteringLists.{listed-distinct, listed-here, plan-entered}
use Rattle.plan_phases.proofs.EnteringPlans.{ask-entered, ask-was-new}
use Rattle.plan_phases.proofs.entering.enter_ask.Goals as goal

pub begin_ask-requires-clause-first : goal.begin_ask-requires-clause-first
begin_ask-requires-clause-first g c =
    ask-was-new g.S.Scalar.semiring g.S.Scalar.conversions c.args.job.now c.requires.enters.0 c.args.book.now c.args.plan c.requires.enters.1

pub begin_ask-requires-clause-below : goal.begin_ask-requires-clause-below
begin_ask-requires-clause-below g c =
    let job = c.args.job.now in
    let plan = c.args.plan in
    let files = c.requires.enters.0 in
    let e = c.requires.enters.1 in
    let size : c.size_of.result ≡ size_of job (owner_map job plan) = c.size_of.ensures.size ∙ ap (size_of job) (c.owner_map.ensures.map c.args.job.now c.requires.shapes) in
    let below : All (λ x. x < c.size_of.result) (lacking job files plan c.me.result) =
    subst (λ n. All (λ x. x < n) (lacking job files plan c.me.result)) (sym size) (lacking-below job files e.kept.valid e.phase c.me.result (AskOwners plan) plan e.is refl) in
    subst (λ xs. All (λ x. x < c.size_of.result) xs) (sym (c.in_ok-lacking.ensures.lacked files (listed-here g.S.Scalar.semiring g.S.Scalar.conversions job files c.args.book.now (AskOwners plan) c.args.list.now e plan refl c.me.result c.me.ensures.me))) below

pub returns : goal.returns
returns g c = record {
  entered = λ files e values made.
      let job = c.args.job.now in
      let old = c.args.book.now in
      let plan = c.args.plan in
      let size : c.size_of.result ≡ size_of job (owner_map job plan) = c.size_of.ensures.size ∙ ap (size_of job) (c.owner_map.ensures.map c.args.job.now c.requires.shapes) in
      let mine : c.in_ok-lacking.lacking.items ≡ lacking job files plan e.stage.rank = c.in_ok-lacking.ensures.lacked files (listed-here g.S.Scalar.semiring g.S.Scalar.conversions job files old (AskOwners plan) c.args.list.now e plan refl c.me.result c.me.ensures.me) ∙ ap (lacking job files plan) (c.me.ensures.me ∙ e.kept.me) in
      ask-entered g.S.Scalar.semiring g.S.Scalar.conversions job files old plan e c.begin_ask.new.self
      (record {
        begun = record { size = c.in_ok-begin_ask.ensures.size ∙ ap Some size; lacked = c.in_ok-begin_ask.ensures.lacking ∙ mine };
        told = c.in_ok-begin_ask.ensures.told;
        made = c.in_ok-begin_ask.ensures.made;
        others = c.in_ok-begin_ask.ensures.others;
        maps = c.in_ok-begin_ask.ensures.maps;
        me = c.in_ok-begin_ask.ensures.me;
        ranks = c.in_ok-begin_ask.ensures.ranks;
      })
      (λ q low.
      c.in_ok-begin_ask.ensures.asked q low
      ∙ ap (λ n. cond (eqb q old.me) (homed old.ranks n old.me c.in_ok-lacking.lacking.items) []) size
      ∙ ap (λ xs. cond (eqb q old.me) (homed old.ranks (size_of job (owner_map job plan)) old.me xs) []) mine)
      c.in_ok-begin_ask.ensures.owners values made;
}

pub lacked_by-requires-clause-of_job : goal.lacked_by-requires-clause-of_job
lacked_by-requires-clause-of_job g c =
    plan-entered g.S.Scalar.semiring g.S.Scalar.conversions c.args.job.now c.requires.enters.0 c.args.book.now (AskOwners c.args.plan) c.args.list.now c.requires.enters.1 c.args.plan refl

pub lacked_by-requires-clause-distinct : goal.lacked_by-requires-clause-distinct
lacked_by-requires-clause-distinct g c =
    listed-distinct g.S.Scalar.semiring g.S.Scalar.conversions c.args.job.now c.requires.enters.0 c.args.book.now (AskOwners c.args.plan) c.args.list.now c.requires.enters.1 c.args.plan refl
