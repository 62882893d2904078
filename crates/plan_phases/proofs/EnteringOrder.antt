-- A map or a plan is begun in the first phase that is about it.
use Rattle.std.proofs.Common.{◌≡◌, ℕ, ◌≤◌, Bool, true, false, cond, List, [], ◌∷◌, ◌++◌, Some, refl, ap, ◌∙◌, arith}
use Rattle.std.specs.List.{list_any}
use Rattle.mm_text.specs.Reading.{File}
use Rattle.letter_codec.specs.declared.kind.Kind.TheVariants.{Reg, Ask, Tell}
use Rattle.model_defs.specs.declared.job.Job.{Job}
use Rattle.model_defs.specs.declared.phase.About.{About}
use Rattle.model_defs.specs.declared.phase.About.TheVariants.{RegisterMap, AskOwners, TellOwners, SharePlan, SendNumbers}
use Rattle.model_defs.specs.declared.phase.Phase.{Phase}
use Rattle.model_defs.specs.declared.phase.Plan.{Plan}
use Rattle.model_defs.specs.Fitting.{IsFitting}
use Rattle.model_defs.specs.Maps.{is_uniform}
use Rattle.model_defs.specs.Transfers.{owner_map, same_plan, shared_plan}
use Rattle.model_defs.specs.Phases.{Act, MakePlan, Send, acts, phase_for, share_kind, is_registered, find_phases, plan_phases, phases_from, phases}
use Rattle.model_defs.specs.Valid.{IsValid}
use Rattle.rank_stages.specs.JobStages.{about_at}
use Rattle.rank_stages.specs.OwnerLaws.{plan_about}
use Rattle.rank_stages.proofs.KnownPlans.{Each, each-append, each-about}
use Rattle.rank_stages.proofs.Once.{plans_are_made_once}
use Rattle.rank_stages.proofs.Prepared.{phases_are_prepared}
use Rattle.plan_phases.specs.BookStages.{IsPlanned, IsRegistered}

-- owners are asked for where they do not follow by rule
abbrev IsAskedAbout : Job → About → Type 0
IsAskedAbout job (AskOwners plan) = is_uniform job (owner_map job plan) ≡ false
IsAskedAbout job about = Unit {0}

abbrev IsAskedPhase : Job → Phase → Type 0
IsAskedPhase job phase = IsAskedAbout job phase.about

module _ (job : Job) where
  plan-asked : (made : List Plan) (k : ℕ) (plan : Plan) → Each (IsAskedPhase job) (plan_phases job made k plan)
  plan-asked made k plan = by (list_any (same_plan (shared_plan job plan)) made)
    where
      registered : (b : Bool) → is_uniform job (owner_map job plan) ≡ false
          → Each (IsAskedPhase job) (cond b [] (phase_for k Reg (RegisterMap (owner_map job plan)) ∷ []) ++ phase_for k Ask (AskOwners plan) ∷ phase_for k Tell (TellOwners plan) ∷ [])
      registered true e = (e, (tt, tt))
      registered false e = (tt, (e, (tt, tt)))

      found : (b : Bool) → is_uniform job (owner_map job plan) ≡ b → Each (IsAskedPhase job)
          (cond b [] (cond (is_registered job made (owner_map job plan)) [] (phase_for k Reg (RegisterMap (owner_map job plan)) ∷ []) ++ phase_for k Ask (AskOwners plan) ∷ phase_for k Tell (TellOwners plan) ∷ []))
      found true e = tt
      found false e = registered (is_registered job made (owner_map job plan)) e

      by : (b : Bool) → Each (IsAskedPhase job) (cond b [] (find_phases job made k plan ++ phase_for k (share_kind plan) (SharePlan plan) ∷ []))
      by true = tt
      by false = each-append (IsAskedPhase job) (find_phases job made k plan) _ (found (is_uniform job (owner_map job plan)) refl) (tt, tt)

  phases-asked : (made : List Plan) (xs : List Act) → Each (IsAskedPhase job) (phases_from job made xs)
  phases-asked made [] = tt
  phases-asked made (MakePlan k plan ∷ xs) = each-append (IsAskedPhase job) (plan_phases job made k plan) _ (plan-asked made k plan) (phases-asked (made ++ shared_plan job plan ∷ []) xs)
  phases-asked made (Send k t ∷ xs) = (tt, phases-asked made xs)

  pub asked-by-no-rule : (n : ℕ) (plan : Plan) → about_at job n ≡ Some (AskOwners plan) → is_uniform job (owner_map job plan) ≡ false
  asked-by-no-rule n plan at = each-about (IsAskedAbout job) (phases job) n (AskOwners plan) (phases-asked [] (acts job)) at

module _ (job : Job) (files : List File) (valid : IsValid job) (fit : IsFitting job files) where
  map-first : (n m : ℕ) → about_at job n ≡ Some (RegisterMap m) → IsRegistered job n m → ⊥
  map-first n m at r = let same = plans_are_made_once job files r.phase n (RegisterMap m) valid fit refl r.is at in let l = r.earlier in let bad : ⊥ = omega (arith, same, l) in bad

  -- of a plan whose owners are asked for no phase is earlier
  ask-first : (n : ℕ) (plan : Plan) → about_at job n ≡ Some (AskOwners plan) → (i : ℕ) (about : About) → about_at job i ≡ Some about → plan_about about ≡ Some plan → n ≤ i
  ask-first n plan at i (RegisterMap m) e of = absurd (let bad : ⊥ = cc in bad)
  ask-first n plan at i (SendNumbers stage) e of = absurd (let bad : ⊥ = cc in bad)
  ask-first n plan at i (AskOwners q) e of =
      let same : q ≡ plan = cc in
      let now = plans_are_made_once job files i n (AskOwners plan) valid fit refl (e ∙ ap (λ r. Some (AskOwners r)) same) at in omega (arith, now)
  ask-first n plan at i (TellOwners q) e of =
      let same : q ≡ plan = cc in
      let before = (phases_are_prepared job files i (TellOwners plan) valid fit (e ∙ ap (λ r. Some (TellOwners r)) same)).1 in
      let now = plans_are_made_once job files before.phase n (AskOwners plan) valid fit refl before.is_about at in let l = before.before in omega (arith, now, l)
  ask-first n plan at i (SharePlan q) e of =
      let same : q ≡ plan = cc in
      let told = phases_are_prepared job files i (SharePlan plan) valid fit (e ∙ ap (λ r. Some (SharePlan r)) same) (asked-by-no-rule job n plan at) in
      let before = (phases_are_prepared job files told.phase (TellOwners plan) valid fit told.is_about).1 in
      let now = plans_are_made_once job files before.phase n (AskOwners plan) valid fit refl before.is_about at in
      let l = before.before in let m = told.before in omega (arith, now, l, m)

  -- where owners follow by rule, a plan has one phase
  rule-only : (n : ℕ) (plan : Plan) → about_at job n ≡ Some (SharePlan plan) → is_uniform job (owner_map job plan) ≡ true
      → (i : ℕ) (about : About) → about_at job i ≡ Some about → plan_about about ≡ Some plan → i ≡ n
  rule-only n plan at rule i (RegisterMap m) e of = absurd (let bad : ⊥ = cc in bad)
  rule-only n plan at rule i (SendNumbers stage) e of = absurd (let bad : ⊥ = cc in bad)
  rule-only n plan at rule i (AskOwners q) e of =
      let same : q ≡ plan = cc in let no = asked-by-no-rule job i plan (e ∙ ap (λ r. Some (AskOwners r)) same) in absurd (let bad : ⊥ = cc in bad)
  rule-only n plan at rule i (TellOwners q) e of =
      let same : q ≡ plan = cc in
      let before = (phases_are_prepared job files i (TellOwners plan) valid fit (e ∙ ap (λ r. Some (TellOwners r)) same)).1 in
      let no = asked-by-no-rule job before.phase plan before.is_about in absurd (let bad : ⊥ = cc in bad)
  rule-only n plan at rule i (SharePlan q) e of =
      let same : q ≡ plan = cc in plans_are_made_once job files i n (SharePlan plan) valid fit refl (e ∙ ap (λ r. Some (SharePlan r)) same) at

  -- so it was not begun before
  pub map-new : (n m : ℕ) → about_at job n ≡ Some (RegisterMap m) → (b : Bool) → (b ≡ true → IsRegistered job n m) → b ≡ false
  map-new n m at true only = absurd (map-first n m at (only refl))
  map-new n m at false only = refl

  pub ask-new : (n : ℕ) (plan : Plan) → about_at job n ≡ Some (AskOwners plan) → (b : Bool) → (b ≡ true → IsPlanned job n plan) → b ≡ false
  ask-new n plan at true only = let p = only refl in let late = ask-first n plan at p.phase p.about p.is p.of_plan in let l = p.earlier in absurd (let bad : ⊥ = omega (arith, late, l) in bad)
  ask-new n plan at false only = refl

  pub rule-new : (n : ℕ) (plan : Plan) → about_at job n ≡ Some (SharePlan plan) → is_uniform job (owner_map job plan) ≡ true → (b : Bool) → (b ≡ true → IsPlanned job n plan) → b ≡ false
  rule-new n plan at rule true only = let p = only refl in let now = rule-only n plan at rule p.phase p.about p.is p.of_plan in let l = p.earlier in absurd (let bad : ⊥ = omega (arith, now, l) in bad)
  rule-new n plan at rule false only = refl
