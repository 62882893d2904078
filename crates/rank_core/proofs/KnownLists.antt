-- The rank's list by the plan of a structure is known when it enters a phase of the plan.
use Rattle.std.proofs.Common.{◌≡◌, ℕ, suc, ◌<◌, ◌≤◌, inl, inr, if◌then◌else◌, Bool, true, false, List, length, Option, None, Some, refl, sym, ap, ◌∙◌, subst, arith}
use Rattle.std.specs.Prelude.{slice_get}
use Rattle.std.specs.Option.{option_map}
use Rattle.std.proofs.lemmas.Option.{same_Some}
use Rattle.scalar_laws.specs.Semiring.{Semiring}
use Rattle.scalar_laws.specs.Conversions.{Conversions}
use Rattle.mm_text.specs.Reading.{File}
use Rattle.crs_matrix.specs.Rows.{IsRowCells, RowCells, all_columns}
use Rattle.rank_phases.specs.Stages.{Stage, CanEnter}
use Rattle.peers.specs.Protocols.{stands_in}
use Rattle.model_defs.specs.declared.job.Job.{Job}
use Rattle.model_defs.specs.declared.phase.About.{About}
use Rattle.model_defs.specs.declared.phase.About.TheVariants.{RegisterMap, AskOwners, TellOwners, SharePlan, SendNumbers}
use Rattle.model_defs.specs.declared.phase.Phase.{Phase}
use Rattle.model_defs.specs.declared.phase.Plan.{Plan}
use Rattle.model_defs.specs.declared.phase.Plan.TheVariants.{ImportPlan, ExportPlan, ColumnPlan, RowPlan}
use Rattle.model_defs.specs.Makers.{value_count}
use Rattle.model_defs.specs.Phases.{phases}
use Rattle.model_defs.specs.Plans.{rank_columns, rank_rows}
use Rattle.model_defs.specs.Maps.{list_of}
use Rattle.model_defs.specs.Shapes.{is_split_sort, shape}
use Rattle.rank_stages.specs.JobStages.{about_at}
use Rattle.rank_stages.specs.OwnerLaws.{plan_about}
use Rattle.value_phases.specs.ValuePhases.{HasValuePhases, IsAfter, IsPlanOf, IsRowPhase}
use Rattle.value_phases.specs.Laws.{MatricesAreKnown}
use Rattle.rank_makings.specs.Comings.{AreHeard}
use Rattle.rank_makings.specs.Laws.{FillsHaveColumns}
use Rattle.rank_core.specs.declared.makings.Making.{Making}
use Rattle.rank_core.specs.declared.makings.Making.TheVariants.{Arriving, Arrived, Filled}
use Rattle.rank_core.specs.declared.worker.JobWorker.{JobWorker}
use Rattle.rank_core.specs.Leaving.{CanList, IsListKnown}
use Rattle.rank_core.specs.Makings.{IsMakingFor, IsPhaseOf, IsSending, IsStructuring}
use Rattle.rank_core.specs.Pieces.{made_count}
use Rattle.rank_core.specs.Workers.{IsReady}
use Rattle.rank_core.proofs.Counted.{at-place, count-at}

-- a phase that is about a plan sends no numbers
no-plan : (t : ℕ) (about : About) (plan : Plan) → about ≡ SendNumbers t → plan_about about ≡ Some plan → ⊥
no-plan t about plan e f = let none : None ≡ Some plan = sym (ap plan_about e) ∙ f in let bad : ⊥ = cc in bad

-- the value of the plan of a structure
column-value : {job : Job} {v k : ℕ} → IsPlanOf job v (ColumnPlan k) → v ≡ k
column-value (inl h) = elim h.is [
  | inl e ↦ absurd (let bad : ⊥ = cc in bad)
  | inr e ↦ absurd (let bad : ⊥ = cc in bad)
]
column-value {job} {v} {k} (inr h) = elim h.is [
  | inl e ↦ (let same : k ≡ v = cc in sym same)
  | inr e ↦ absurd (let bad : ⊥ = cc in bad)
]

row-value : {job : Job} {v k : ℕ} → IsPlanOf job v (RowPlan k) → v ≡ k
row-value (inl h) = elim h.is [
  | inl e ↦ absurd (let bad : ⊥ = cc in bad)
  | inr e ↦ absurd (let bad : ⊥ = cc in bad)
]
row-value {job} {v} {k} (inr h) = elim h.is [
  | inl e ↦ absurd (let bad : ⊥ = cc in bad)
  | inr e ↦ (let same : k ≡ v = cc in sym same)
]

module _ {S : Type 0} (R : Semiring S) (F : Conversions S) (columns : FillsHaveColumns R F) (matrices : MatricesAreKnown) (worker : JobWorker S) (s : Stage) (ready : IsReady R F worker s) (phase : ℕ)
    (can : CanEnter s phase) (phased : HasValuePhases worker.job.value) where
  abbrev job : Job
  job = worker.job.value

  heard : AreHeard worker.job.value ready.files worker.me phase s.absorbed
  heard = λ m named to before.
      can.all_absorbed m (ap (λ p. stands_in p.names m) ready.book.stage.protocol ∙ named) (to ∙ sym ready.worker_of.rank) before

  module _ (about : About) (x : Phase) (at : slice_get (phases worker.job.value) phase ≡ Some x) (is : x.about ≡ about) where
    value-is : x.value ≡ length worker.values.items
    value-is = sym (count-at job phased phase x at) ∙ ap (λ n. made_count job (suc n)) (sym can.next) ∙ sym ready.values.many

    -- what is in the making, by the number of the value and of the phase
    making-is : (v : ℕ) → x.value ≡ v → IsMakingFor R F worker.job.value ready.files worker.me worker.values.items s.absorbed phase v worker.making
    making-is v e =
        subst (λ n. IsMakingFor R F job ready.files worker.me worker.values.items s.absorbed n v worker.making) can.next
        (subst (λ k. IsMakingFor R F job ready.files worker.me worker.values.items s.absorbed s.entered k worker.making) (sym value-is ∙ e) ready.making)

    structuring : (v : ℕ) → x.value ≡ v → IsAfter worker.job.value phase v → IsStructuring worker.job.value phase v
    structuring v e after = record { of = record { phase = x; at = at; value = e }; after = after }

    -- numbers of the value do not come next
    sends-none : (plan : Plan) → plan_about about ≡ Some plan → (v t : ℕ) → IsSending worker.job.value phase v t → ⊥
    sends-none plan of v t sends =
        let same : x ≡ sends.phase = same_Some x sends.phase (sym at ∙ sends.at) in
        no-plan t about plan (sym is ∙ ap (λ p. p.about) same ∙ sends.about) of

    -- the columns of a matrix that is under construction
    column-list : (v : ℕ) → x.value ≡ v → plan_about about ≡ Some (ColumnPlan v) → (making : Option (Making S)) → IsAfter worker.job.value phase v → IsStructuring worker.job.value phase v
        → IsMakingFor R F worker.job.value ready.files worker.me worker.values.items s.absorbed phase v making
        → IsListKnown R F worker.job.value ready.files worker.me (ColumnPlan v) making
    column-list v e of None after y now = absurd (now.1 y)
    column-list v e of (Some (Arriving c)) after y now = absurd now
    column-list v e of (Some (Arrived w)) after y now = absurd (sends-none (ColumnPlan v) of v (suc now.0) now.1.0)
    column-list v e of (Some (Filled fill)) after y now = (
      fill,
      refl,
      λ ok. columns job ready.files worker.me worker.values.items s.absorbed v phase fill ready.book.valid ready.book.fitting after.structured after.sent
          (λ w t m low sends. phased.left phase w t m x at (subst (λ u. w < u) (sym e) low) sends) heard ok now.1,
    )

    -- the rows of a matrix of a file
    row-list : (v : ℕ) → plan_about about ≡ Some (RowPlan v) → IsRowPhase worker.job.value phase v → v < value_count worker.job.value → (making : Option (Making S))
        → IsMakingFor R F worker.job.value ready.files worker.me worker.values.items s.absorbed phase v making
        → IsListKnown R F worker.job.value ready.files worker.me (RowPlan v) making
    row-list v of rows low None now = inr (refl, low, (rows.spec, rows.is))
    row-list v of rows low (Some (Arriving c)) now = absurd now
    row-list v of rows low (Some (Arrived w)) now = absurd (sends-none (RowPlan v) of v (suc now.0) now.1.0)
    row-list v of rows low (Some (Filled fill)) now = by rows.spec.split refl
      where
        by : (b : Bool) → rows.spec.split ≡ b → IsListKnown R F job ready.files worker.me (RowPlan v) (Some (Filled fill))
        by true e =
            let split = ((matrices job v rows.spec ready.book.valid low rows.is).1 e).is_split in
            inl (fill, refl, now.1.rows ∙ ap (λ b. if b then rank_rows job ready.files v worker.me else list_of job (shape job v).rows worker.me) split)
        by false e = let send = rows.before e in absurd (let early = now.0.after.sent send.stage send.phase send.sends in let late = send.later in omega arith)

    plan-known : (plan : Plan) → plan_about about ≡ Some plan → IsListKnown R F worker.job.value ready.files worker.me plan worker.making
    plan-known (ImportPlan source target) of = tt
    plan-known (ExportPlan source target) of = tt
    plan-known (ColumnPlan v) of =
        let after = phased.columns_after phase v x at (ap plan_about is ∙ of) in
        let e = column-value (phased.plans phase x (ColumnPlan v) at (ap plan_about is ∙ of)) in
        column-list v e of worker.making after (structuring v e after) (making-is v e)
    plan-known (RowPlan v) of =
        let e = row-value (phased.plans phase x (RowPlan v) at (ap plan_about is ∙ of)) in
        row-list v of (phased.row_phases phase v x at (ap plan_about is ∙ of)) (subst (λ k. k < value_count job) e (phased.below phase x at)) worker.making (making-is v e)

  pub can-list : (about : About) → about_at worker.job.value phase ≡ Some about → CanList R F worker.job.value ready.files worker.me worker.share about worker.making
  can-list about here = elim (at-place (phases job) phase) [
    | inl (x, at) ↦ record { input = ready.worker_of.input; known = plan-known about x at (same_Some x.about about (sym (ap (option_map (λ p. p.about)) at) ∙ here)) }
    | inr (none, long) ↦ absurd (let bad : None ≡ Some about = sym (ap (option_map (λ p. p.about)) none) ∙ here in let wrong : ⊥ = cc in wrong)
  ]
