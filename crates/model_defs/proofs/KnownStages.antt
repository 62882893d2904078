-- A transfer that some phase sends is one of a value's.
use Rattle.std.proofs.Common.{◌≡◌, ℕ, zero, suc, ◌<◌, ◌+◌, ◌⊎◌, inl, inr, Bool, true, false, cond, ◌&&◌, eqb, List, [], ◌∷◌, ◌++◌, length, Some, refl, sym, ◌∙◌, subst, arith}
use Rattle.std.specs.List.{list_any, flat_map}
use Rattle.std.proofs.lemmas.Bool.{eqb-true}
use Rattle.std.proofs.lemmas.List.Folds.{list_any-append}
use Rattle.tables.specs.Indices.{count_from}
use Rattle.model_defs.specs.declared.job.Job.{Job}
use Rattle.model_defs.specs.Makers.{value_count}
use Rattle.model_defs.specs.Shapes.{shape}
use Rattle.model_defs.specs.Transfers.{Transfer, is_local, transfers}
use Rattle.model_defs.specs.Phases.{Act, MakePlan, Send, transfer_acts, plan_acts, structure_plans, value_acts, acts, phases, sends, send_phase}
use Rattle.model_defs.specs.Stages.{stage_count}
use Rattle.model_defs.proofs.Filters.{both}
use Rattle.model_defs.proofs.Formed.{either}
use Rattle.model_defs.proofs.Phases.{is_send, found-any, phases-any, plans-none}

never : {A : Type 0} → false ≡ true → A
never e = absurd (let bad : ⊥ = cc in bad)

any-value : (c : Act → Bool) (f : ℕ → List Act) (n m : ℕ) → list_any c (flat_map f (count_from n m)) ≡ true → (v : ℕ) × (v < n + m) × (list_any c (f v) ≡ true)
any-value c f n zero e = never e
any-value c f n (suc m) e = by (either (list_any c (f n)) _ (sym (list_any-append c (f n) (flat_map f (count_from (n + 1) m))) ∙ e)) (any-value c f (n + 1) m)
  where
    by : (list_any c (f n) ≡ true) ⊎ (list_any c (flat_map f (count_from (n + 1) m)) ≡ true)
        → (list_any c (flat_map f (count_from (n + 1) m)) ≡ true → (v : ℕ) × (v < (n + 1) + m) × (list_any c (f v) ≡ true)) → (v : ℕ) × (v < n + suc m) × (list_any c (f v) ≡ true)
    by (inl h) rest = (n, omega arith, h)
    by (inr h) rest = let t = rest h in (t.0, omega (arith, t.1), t.2)

transfers-back : (k t v u : ℕ) (ts : List Transfer) → list_any (is_send k t) (transfer_acts v u ts) ≡ true → (v ≡ k) × (t < u + length ts)
transfers-back k t v u [] e = never e
transfers-back k t v u (x ∷ xs) e = go (is_local x.plan) e (transfers-back k t v (suc u) xs)
  where
    go : (b : Bool) → list_any (is_send k t) (cond b [] (MakePlan v x.plan ∷ Send v u ∷ []) ++ transfer_acts v (suc u) xs) ≡ true
        → (list_any (is_send k t) (transfer_acts v (suc u) xs) ≡ true → (v ≡ k) × (t < suc u + length xs)) → (v ≡ k) × (t < u + suc (length xs))
    go true e rest = let h = rest e in (h.0, omega (arith, h.1))
    go false e rest = by (either ((eqb v k) && (eqb u t)) _ e)
      where
        by : ((eqb v k) && (eqb u t) ≡ true) ⊎ (list_any (is_send k t) (transfer_acts v (suc u) xs) ≡ true) → (v ≡ k) × (t < u + suc (length xs))
        by (inl h) = let p = both (eqb v k) (eqb u t) h in (eqb-true v k p.0, (let same = eqb-true u t p.1 in omega (arith, same)))
        by (inr h) = let p = rest h in (p.0, omega (arith, p.1))

pub known-stage : (job : Job) (k t n : ℕ) → send_phase job k t ≡ Some n → (k < value_count job) × (t < stage_count job k)
known-stage job k t n e =
    let found = any-value (is_send k t) (value_acts job) 0 (value_count job) (sym (phases-any job k t [] (acts job)) ∙ (found-any (sends k t) 0 n (phases job) e).0) in
    at found.0 (omega (arith, found.1)) found.2
  where
    no-plans : (b : Bool) (v : ℕ) → list_any (is_send k t) (cond b (plan_acts v (structure_plans v (shape job v).sort)) []) ≡ false
    no-plans true v = plans-none k t v (structure_plans v (shape job v).sort)
    no-plans false v = refl

    at : (v : ℕ) → v < value_count job → list_any (is_send k t) (value_acts job v) ≡ true → (k < value_count job) × (t < stage_count job k)
    at v l h = by (either (list_any (is_send k t) (transfer_acts v 0 (transfers job v))) _ (sym (list_any-append (is_send k t) (transfer_acts v 0 (transfers job v)) (cond (eqb (shape job v).structure v) (plan_acts v (structure_plans v (shape job v).sort)) [])) ∙ h))
      where
        by : (list_any (is_send k t) (transfer_acts v 0 (transfers job v)) ≡ true) ⊎ (list_any (is_send k t) (cond (eqb (shape job v).structure v) (plan_acts v (structure_plans v (shape job v).sort)) []) ≡ true) → (k < value_count job) × (t < stage_count job k)
        by (inl f) = let p = transfers-back k t v 0 (transfers job v) f in (subst (λ v. v < value_count job) p.0 l, subst (λ v. t < stage_count job v) p.0 (omega (arith, p.1)))
        by (inr f) = never (sym (no-plans (eqb (shape job v).structure v) v) ∙ f)
