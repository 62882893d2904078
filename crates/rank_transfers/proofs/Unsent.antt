-- A transfer from a map to itself has no phase.
use Rattle.std.proofs.Common.{◌≡◌, ℕ, suc, ◌+◌, ◌⊎◌, inl, inr, Bool, true, false, cond, ◌&&◌, eqb, List, [], ◌∷◌, ◌++◌, get_or, Option, Some, None, refl, sym, ap, ◌∙◌, arith}
use Rattle.std.specs.List.{list_any, flat_map}
use Rattle.std.proofs.lemmas.Bool.{eqb-true}
use Rattle.std.proofs.lemmas.List.Folds.{list_any-append}
use Rattle.tables.specs.Indices.{count_from}
use Rattle.model_defs.specs.declared.job.Job.{Job}
use Rattle.model_defs.specs.declared.phase.Plan.TheVariants.{ImportPlan}
use Rattle.model_defs.specs.Makers.{value_count}
use Rattle.model_defs.specs.Shapes.{shape}
use Rattle.model_defs.specs.declared.phase.Transfer.{Transfer}
use Rattle.model_defs.specs.Transfers.{from_owners, is_local, transfers}
use Rattle.model_defs.specs.Phases.{Act, MakePlan, Send, transfer_acts, plan_acts, structure_plans, value_acts, acts, phases, sends, send_phase}
use Rattle.model_defs.specs.Stages.{transfer_at}
use Rattle.model_defs.proofs.Filters.{both}
use Rattle.model_defs.proofs.Formed.{either}
use Rattle.model_defs.proofs.Phases.{is_send, found-any, phases-any, plans-none}
use Rattle.rank_transfers.specs.JobLocals.{LocalTransfersAreUnsent}

never : {A : Type 0} → false ≡ true → A
never e = absurd (let bad : ⊥ = cc in bad)

-- an act that is there is one of some value
any-value : (c : Act → Bool) (f : ℕ → List Act) (xs : List ℕ) → list_any c (flat_map f xs) ≡ true → (v : ℕ) × (list_any c (f v) ≡ true)
any-value c f [] e = never e
any-value c f (x ∷ xs) e = by (either (list_any c (f x)) _ (sym (list_any-append c (f x) (flat_map f xs)) ∙ e)) (any-value c f xs)
  where
    by : (list_any c (f x) ≡ true) ⊎ (list_any c (flat_map f xs) ≡ true) → (list_any c (flat_map f xs) ≡ true → (v : ℕ) × (list_any c (f v) ≡ true)) → (v : ℕ) × (list_any c (f v) ≡ true)
    by (inl h) rest = (x, h)
    by (inr h) rest = rest h

-- a transfer of which an act sends the numbers goes by no such plan
record IsSentOf (k t v u : ℕ) (ts : List Transfer) (d : Transfer) : Type 0 where
  pub of_value : v ≡ k
  pub place : ℕ
  pub at : t ≡ u + place
  pub far : is_local (get_or ts place d).plan ≡ false

sent-far : (k t v u : ℕ) (ts : List Transfer) (d : Transfer) → list_any (is_send k t) (transfer_acts v u ts) ≡ true → IsSentOf k t v u ts d
sent-far k t v u [] d e = never e
sent-far k t v u (x ∷ xs) d e = go (is_local x.plan) refl e (sent-far k t v (suc u) xs d)
  where
    later : IsSentOf k t v (suc u) xs d → IsSentOf k t v u (x ∷ xs) d
    later h = record { of_value = h.of_value; place = suc h.place; at = (let e = h.at in omega (arith, e)); far = h.far }

    go : (b : Bool) → is_local x.plan ≡ b → list_any (is_send k t) (cond b [] (MakePlan v x.plan ∷ Send v u ∷ []) ++ transfer_acts v (suc u) xs) ≡ true
        → (list_any (is_send k t) (transfer_acts v (suc u) xs) ≡ true → IsSentOf k t v (suc u) xs d) → IsSentOf k t v u (x ∷ xs) d
    go true l e rest = later (rest e)
    go false l e rest = by (either ((eqb v k) && (eqb u t)) _ e)
      where
        by : ((eqb v k) && (eqb u t) ≡ true) ⊎ (list_any (is_send k t) (transfer_acts v (suc u) xs) ≡ true) → IsSentOf k t v u (x ∷ xs) d
        by (inl h) = let p = both (eqb v k) (eqb u t) h in record { of_value = eqb-true v k p.0; place = 0; at = (let same = eqb-true u t p.1 in omega (arith, same)); far = l }
        by (inr h) = later (rest h)

sent-is-far : (job : Job) (k t n : ℕ) → send_phase job k t ≡ Some n → is_local (transfer_at job k t).plan ≡ false
sent-is-far job k t n e =
    let found = any-value (is_send k t) (value_acts job) (count_from 0 (value_count job)) (sym (phases-any job k t [] (acts job)) ∙ (found-any (sends k t) 0 n (phases job) e).0) in
    at found.0 found.1
  where
    no-plans : (b : Bool) (v : ℕ) → list_any (is_send k t) (cond b (plan_acts v (structure_plans v (shape job v).sort)) []) ≡ false
    no-plans true v = plans-none k t v (structure_plans v (shape job v).sort)
    no-plans false v = refl

    far : (v : ℕ) → IsSentOf k t v 0 (transfers job v) (from_owners (ImportPlan 0 0)) → is_local (transfer_at job k t).plan ≡ false
    far v s =
        let stage : t ≡ s.place = let e = s.at in omega (arith, e) in
        ap (λ m. is_local (transfer_at job k m).plan) stage ∙ ap (λ v. is_local (transfer_at job v s.place).plan) (sym s.of_value) ∙ s.far

    at : (v : ℕ) → list_any (is_send k t) (value_acts job v) ≡ true → is_local (transfer_at job k t).plan ≡ false
    at v h = by (either (list_any (is_send k t) (transfer_acts v 0 (transfers job v))) _ (sym (list_any-append (is_send k t) (transfer_acts v 0 (transfers job v)) (cond (eqb (shape job v).structure v) (plan_acts v (structure_plans v (shape job v).sort)) [])) ∙ h))
      where
        by : (list_any (is_send k t) (transfer_acts v 0 (transfers job v)) ≡ true) ⊎ (list_any (is_send k t) (cond (eqb (shape job v).structure v) (plan_acts v (structure_plans v (shape job v).sort)) []) ≡ true)
            → is_local (transfer_at job k t).plan ≡ false
        by (inl f) = far v (sent-far k t v 0 (transfers job v) (from_owners (ImportPlan 0 0)) f)
        by (inr f) = never (sym (no-plans (eqb (shape job v).structure v) v) ∙ f)

pub local-transfers-are-unsent : LocalTransfersAreUnsent
local-transfers-are-unsent job k t local = by (send_phase job k t) refl
  where
    by : (o : Option ℕ) → send_phase job k t ≡ o → o ≡ None
    by None e = refl
    by (Some n) e = never (sym (sent-is-far job k t n e) ∙ local)
