-- The phases of acts, one act after the other.
use Rattle.std.proofs.Common.{◌≡◌, ℕ, suc, ◌+◌, ◌-◌, ◌<◌, List, [], ◌∷◌, ◌++◌, refl, sym, ap, ◌∙◌, arith, append_assoc}
use Rattle.std.specs.List.{flat_map}
use Rattle.tables.specs.Indices.{count_from}
use Rattle.model_defs.specs.declared.job.Job.{Job}
use Rattle.model_defs.specs.declared.phase.Phase.{Phase}
use Rattle.model_defs.specs.declared.phase.Plan.{Plan}
use Rattle.model_defs.specs.declared.phase.About.TheVariants.{SendNumbers}
use Rattle.model_defs.specs.Phases.{Act, MakePlan, Send, phase_for, plan_phases, phases_from, send_kind, value_acts}
use Rattle.model_defs.specs.Transfers.{shared_plan}
use Rattle.phase_list.specs.declared.walk.Walk.{Walk}
use Rattle.phase_list.specs.Walks.{walked, Walks}

module _ (job : Job) where
  -- no act
  pub walks-none : (a : Walk) → Walks job a a []
  walks-none a rest = refl

  -- some acts, and then some more
  pub walks-then : (a b d : Walk) (xs ys : List Act) → Walks job a b xs → Walks job b d ys → Walks job a d (xs ++ ys)
  walks-then a b d xs ys h k rest = ap (walked job a) (append_assoc xs ys rest) ∙ h (ys ++ rest) ∙ k rest

  -- the walk is seen by its lists
  pub walks-made : (a b : Walk) (k : ℕ) (plan : Plan) → b.phases.items ≡ a.phases.items ++ plan_phases job a.made.items k plan → b.made.items ≡ a.made.items ++ shared_plan job plan ∷ []
      → Walks job a b (MakePlan k plan ∷ [])
  walks-made a b k plan e f rest =
      sym (append_assoc a.phases.items (plan_phases job a.made.items k plan) (phases_from job (a.made.items ++ shared_plan job plan ∷ []) rest))
      ∙ sym (λ i. e i ++ phases_from job (f i) rest)

  pub walks-sent : (a b : Walk) (k stage : ℕ) → b.phases.items ≡ a.phases.items ++ phase_for k (send_kind job k) (SendNumbers stage) ∷ [] → b.made.items ≡ a.made.items
      → Walks job a b (Send k stage ∷ [])
  walks-sent a b k stage e f rest =
      sym (append_assoc a.phases.items (phase_for k (send_kind job k) (SendNumbers stage) ∷ []) (phases_from job a.made.items rest))
      ∙ sym (λ i. e i ++ phases_from job (f i) rest)

  -- the acts of one value more
  pub walks-on : (all : List Phase) (a b : Walk) (n k : ℕ) → k < n → all ≡ walked job a (flat_map (value_acts job) (count_from k (n - k))) → Walks job a b (value_acts job k)
      → all ≡ walked job b (flat_map (value_acts job) (count_from (k + 1) (n - (k + 1))))
  walks-on all a b n k l e h =
      e ∙ ap (λ m. walked job a (flat_map (value_acts job) (count_from k m))) (let more : n - k ≡ suc (n - (k + 1)) = omega arith in more)
      ∙ h (flat_map (value_acts job) (count_from (k + 1) (n - (k + 1))))
