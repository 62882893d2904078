-- A job has few phases.
use Rattle.std.proofs.Common.{ℕ, zero, suc, ◌≤◌, ◌+◌, ◌*◌, Bool, true, false, cond, eqb, List, [], ◌∷◌, ◌++◌, length, arith, length-append}
use Rattle.std.specs.List.{flat_map, list_any}
use Rattle.tables.specs.Indices.{count_from}
use Rattle.letter_codec.specs.declared.kind.Kind.TheVariants.{Reg, Ask, Tell}
use Rattle.model_defs.specs.declared.job.Job.{Job}
use Rattle.model_defs.specs.declared.job.Step.TheVariants as step
use Rattle.model_defs.specs.declared.phase.About.TheVariants.{RegisterMap, AskOwners, TellOwners, SharePlan}
use Rattle.model_defs.specs.declared.phase.Plan.{Plan}
use Rattle.model_defs.specs.declared.phase.Transfer.{Transfer}
use Rattle.model_defs.specs.declared.shape.Sort.{Sort}
use Rattle.model_defs.specs.declared.shape.Sort.TheVariants.{Vector, Parts, Matrix, Split}
use Rattle.model_defs.specs.Maps.{is_uniform}
use Rattle.model_defs.specs.Makers.{Maker, GivenVector, GivenParts, GivenMatrix, Made, maker_of, value_count}
use Rattle.model_defs.specs.Shapes.{is_split_sort, shape}
use Rattle.model_defs.specs.Transfers.{apply_transfers, is_local, owner_map, same_plan, shared_plan, to_owners, transfers, transfers_by}
use Rattle.model_defs.specs.declared.phase.Plan.TheVariants.{RowPlan}
use Rattle.model_defs.specs.Phases.{Act, MakePlan, Send, acts, find_phases, is_registered, phase_for, phases_from, plan_acts, plan_phases, share_kind, structure_plans, transfer_acts, value_acts}
use Rattle.model_defs.proofs.Bounds.{values-are-few}
use Rattle.rank_stages.specs.PhaseOrder.{PhasesAreFew}

few-transfers : (job : Job) (k : ℕ) (m : Maker) → length (transfers_by job k m) ≤ 2
few-transfers job k (GivenVector spec) = omega arith
few-transfers job k (GivenParts spec) = omega arith
few-transfers job k (GivenMatrix spec) = by spec.split
  where
    by : (b : Bool) → length (cond b [] (to_owners (RowPlan k) ∷ [])) ≤ 2
    by true = omega arith
    by false = omega arith
few-transfers job k (Made (step.Move name source m)) = omega arith
few-transfers job k (Made (step.Import name source onto mode)) = omega arith
few-transfers job k (Made (step.Export name source onto mode)) = omega arith
few-transfers job k (Made (step.Spread name source m)) = omega arith
few-transfers job k (Made (step.Update name x y alpha beta)) = omega arith
few-transfers job k (Made (step.Scale name value alpha)) = omega arith
few-transfers job k (Made (step.Apply name a x y alpha beta transposed)) = by (is_split_sort (shape job a).sort) transposed
  where
    by : (split transposed : Bool) → length (apply_transfers a split transposed) ≤ 2
    by false false = omega arith
    by false true = omega arith
    by true false = omega arith
    by true true = omega arith
few-transfers job k (Made (step.Transpose name a)) = omega arith
few-transfers job k (Made (step.Multiply name a b)) = omega arith
few-transfers job k (Made (step.Add name a b alpha beta)) = omega arith
few-transfers job k (Made (step.Assemble name source onto mode)) = omega arith
few-transfers job k (Made (step.Print value)) = omega arith

acts-of : (k u : ℕ) (ts : List Transfer) → length (transfer_acts k u ts) ≤ 2 * length ts
acts-of k u [] = omega arith
acts-of k u (t ∷ ts) = by (is_local t.plan) (acts-of k (suc u) ts)
  where
    by : (b : Bool) → length (transfer_acts k (suc u) ts) ≤ 2 * length ts → length (cond b [] (MakePlan k t.plan ∷ Send k u ∷ []) ++ transfer_acts k (suc u) ts) ≤ 2 * suc (length ts)
    by true l = omega (arith, l)
    by false l = omega (arith, l)

structure-few : (k : ℕ) (sort : Sort) → length (plan_acts k (structure_plans k sort)) ≤ 2
structure-few k Vector = omega arith
structure-few k Parts = omega arith
structure-few k Matrix = omega arith
structure-few k Split = omega arith

module _ (job : Job) where
  value-few : (k : ℕ) → length (value_acts job k) ≤ 6
  value-few k =
      let a = acts-of k 0 (transfers job k) in
      let b = few-transfers job k (maker_of job k) in
      let c = closing (eqb (shape job k).structure k) in
      let d = length-append (transfer_acts k 0 (transfers job k)) (cond (eqb (shape job k).structure k) (plan_acts k (structure_plans k (shape job k).sort)) []) in
      omega (arith, a, b, c, d)
    where
      closing : (b : Bool) → length (cond b (plan_acts k (structure_plans k (shape job k).sort)) []) ≤ 2
      closing true = structure-few k (shape job k).sort
      closing false = omega arith

  acts-few : (a n : ℕ) → length (flat_map (value_acts job) (count_from a n)) ≤ 6 * n
  acts-few a zero = omega arith
  acts-few a (suc n) =
      let b = value-few a in
      let c = acts-few (a + 1) n in
      let d = length-append (value_acts job a) (flat_map (value_acts job) (count_from (a + 1) n)) in
      omega (arith, b, c, d)

  plan-few : (made : List Plan) (k : ℕ) (plan : Plan) → length (plan_phases job made k plan) ≤ 4
  plan-few made k plan = by (list_any (same_plan (shared_plan job plan)) made)
    where
      registered : (b : Bool) → length ((cond b [] (phase_for k Reg (RegisterMap (owner_map job plan)) ∷ []) ++ phase_for k Ask (AskOwners plan) ∷ phase_for k Tell (TellOwners plan) ∷ []) ++ phase_for k (share_kind plan) (SharePlan plan) ∷ []) ≤ 4
      registered true = omega arith
      registered false = omega arith

      found : (b : Bool) → length
          (cond b [] (cond (is_registered job made (owner_map job plan)) [] (phase_for k Reg (RegisterMap (owner_map job plan)) ∷ []) ++ phase_for k Ask (AskOwners plan) ∷ phase_for k Tell (TellOwners plan) ∷ []) ++ phase_for k (share_kind plan) (SharePlan plan) ∷ []) ≤ 4
      found true = omega arith
      found false = registered (is_registered job made (owner_map job plan))

      by : (b : Bool) → length (cond b [] (find_phases job made k plan ++ phase_for k (share_kind plan) (SharePlan plan) ∷ [])) ≤ 4
      by true = omega arith
      by false = found (is_uniform job (owner_map job plan))

  phases-few : (made : List Plan) (xs : List Act) → length (phases_from job made xs) ≤ 4 * length xs
  phases-few made [] = omega arith
  phases-few made (MakePlan k plan ∷ xs) =
      let a = plan-few made k plan in
      let b = phases-few (made ++ shared_plan job plan ∷ []) xs in
      let c = length-append (plan_phases job made k plan) (phases_from job (made ++ shared_plan job plan ∷ []) xs) in
      omega (arith, a, b, c)
  phases-few made (Send k t ∷ xs) = let b = phases-few made xs in omega (arith, b)

pub phases_are_few : PhasesAreFew
phases_are_few = λ job valid.
    let a = phases-few job [] (acts job) in
    let b = acts-few job 0 (value_count job) in
    let c = values-are-few job valid in
    omega (arith, a, b, c)
