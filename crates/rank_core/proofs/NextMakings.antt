-- What a worker has of its value when the next phase is for it too.
use Rattle.std.proofs.Common.{◌≡◌, ℕ, zero, suc, ◌<◌, ◌≤◌, inl, inr, Bool, true, false, List, [], length, Option, None, Some, refl, sym, ap, ◌∙◌, subst, arith}
use Rattle.std.specs.Prelude.{slice_get}
use Rattle.scalar_laws.specs.Semiring.{Semiring}
use Rattle.scalar_laws.specs.Conversions.{Conversions}
use Rattle.rank_phases.specs.Stages.{Stage, CanEnter}
use Rattle.model_defs.specs.declared.job.Job.{Job}
use Rattle.model_defs.specs.Makers.{maker_of}
use Rattle.model_defs.specs.Phases.{phases}
use Rattle.value_phases.specs.ValueKinds.{HasValueKinds, is_own_matrix}
use Rattle.value_phases.specs.ValuePhases.{HasValuePhases}
use Rattle.value_phases.specs.ValueStages.{HasValueStages}
use Rattle.rank_makings.specs.declared.coming.Coming.TheVariants.{Cells, Rows}
use Rattle.rank_core.specs.declared.makings.Making.{Making}
use Rattle.rank_core.specs.declared.makings.Making.TheVariants.{Arriving, Arrived, Filled}
use Rattle.rank_core.specs.declared.worker.JobWorker.{JobWorker}
use Rattle.rank_core.specs.Leaving.{IsBegunBy, IsNext}
use Rattle.rank_core.specs.Makings.{IsMakingFor, IsMakingIn, IsPhaseOf, IsStructuring}
use Rattle.rank_core.specs.Pieces.{made_count}
use Rattle.rank_core.specs.Workers.{IsJobWorker, IsMakingAt}
use Rattle.rank_core.proofs.Counted.{at-place, count-at, count-end}
use Rattle.rank_core.proofs.Leaving.{have-come}
use Rattle.rank_core.proofs.Nexts.{begun-for}
use Rattle.rank_core.proofs.Turns.{IsFirst, on-dense, on-none, on-sparse, on-structured, own-structured}

module _ {S : Type 0} (R : Semiring S) (F : Conversions S)
    (worker : JobWorker S) (s : Stage) (stands : IsJobWorker R F worker s) (phase : ℕ) (can : CanEnter s phase)
    (phased : HasValuePhases worker.job.value) (staged : HasValueStages worker.job.value) (kinds : HasValueKinds worker.job.value)
    (same : length worker.values.items ≡ made_count worker.job.value (suc s.entered)) where
  abbrev job : Job
  job = worker.job.value

  abbrev k : ℕ
  k = length worker.values.items

  abbrev Next : Option (Making S) → Type 0
  Next next = IsMakingFor R F worker.job.value stands.files worker.me worker.values.items s.absorbed s.entered (length worker.values.items) next

  abbrev NextIs : Option (Making S) → Option (Making S) → Type 0
  NextIs making next = IsNext R F worker.job.value stands.files worker.me worker.values.items s.absorbed (length worker.values.items) making next

  first-of-all : s.entered ≡ 0 → IsFirst worker.job.value phased s.entered (length worker.values.items)
  first-of-all e m of low = omega arith

  goes-on : (m : ℕ) → s.entered ≡ suc m → IsPhaseOf worker.job.value m (length worker.values.items) → IsPhaseOf worker.job.value (suc m) (length worker.values.items)
      → (making next : Option (Making S)) → IsMakingIn R F worker.job.value stands.files worker.me worker.values.items s.absorbed m (length worker.values.items) stands.view.gathered making
      → NextIs making next
      → IsMakingFor R F worker.job.value stands.files worker.me worker.values.items s.absorbed (suc m) (length worker.values.items) next
  goes-on m e of more None next is begun = by (is_own_matrix job (maker_of job k)) refl begun
    where
      by : (b : Bool) → is_own_matrix job (maker_of job k) ≡ b → IsBegunBy R F job stands.files worker.me b worker.values.items s.absorbed k next
          → IsMakingFor R F job stands.files worker.me worker.values.items s.absorbed (suc m) k next
      by true own begun_is = absurd (is.1 (own-structured job phased m k of (kinds.own k own)))
      by false plain none = subst (IsMakingFor R F job stands.files worker.me worker.values.items s.absorbed (suc m) k) (sym none) (on-none job phased m k of is.0 is.1)
  goes-on m e of more (Some (Arriving (Cells c))) next (stage, (sends, coming)) next_is =
      subst (IsMakingFor R F job stands.files worker.me worker.values.items s.absorbed (suc m) k) (sym next_is)
      (stage, (on-dense job phased staged m k stage sends more coming.dense, have-come R F worker s stands phase can phased staged kinds m stage (sym e) sends c coming))
  goes-on m e of more (Some (Arriving (Rows c))) next (stage, (sends, coming)) (fill, next_is, filled) =
      subst (IsMakingFor R F job stands.files worker.me worker.values.items s.absorbed (suc m) k) (sym next_is) (on-sparse job phased staged m k stage sends more coming.sparse, filled)
  goes-on m e of more (Some (Arrived v)) next is next_is = absurd is
  goes-on m e of more (Some (Filled fill)) next (x, filled) next_is =
      subst (IsMakingFor R F job stands.files worker.me worker.values.items s.absorbed (suc m) k) (sym next_is) (on-structured job phased m k x more, filled)

  pub next-same : (next : Option (Making S)) → NextIs worker.making next → Next next
  next-same next is = by s.entered refl
    where
      by : (e : ℕ) → s.entered ≡ e → Next next
      by zero e =
          let none = subst (IsMakingAt R F worker stands.files s stands.view.gathered) e stands.making in
          begun-for R F job phased kinds stands.files worker.me worker.values.items s.absorbed s.entered k (first-of-all e) same next
          (subst (λ m. NextIs m next) none is)
      by (suc m) e = elim (at-place (phases job) m) [
        | inl (a, at) ↦
            let value : a.value ≡ k = sym (count-at job phased m a at) ∙ ap (made_count job) (sym e) ∙ sym stands.values.many in
            let more : IsPhaseOf job (suc m) k = (elim (at-place (phases job) (suc m)) [
              | inl (b, next_at) ↦ record { phase = b; at = next_at; value = sym (count-at job phased (suc m) b next_at) ∙ ap (λ n. made_count job (suc n)) (sym e) ∙ sym same }
              | inr (none, long) ↦ absurd (let all = count-end job phased (suc m) long in let low = phased.below m a at in let two : made_count job (suc (suc m)) ≡ k = ap (λ n. made_count job (suc n)) (sym e) ∙ sym same in omega arith)
            ]) in
            subst (λ n. IsMakingFor R F job stands.files worker.me worker.values.items s.absorbed n k next) (sym e)
            (goes-on m e (record { phase = a; at = at; value = value }) more worker.making next
            (subst (IsMakingAt R F worker stands.files s stands.view.gathered) e stands.making) is)
        | inr (none, long) ↦ absurd (let next_is = can.next in let within = can.within in let many = stands.book.stage.phases in omega arith)
      ]
