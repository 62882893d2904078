-- A valid job has few phases.
use Rattle.std.proofs.Common.{ℕ, zero, suc, ◌+◌, ◌*◌, ◌≤◌, Bool, true, false, cond, eqb, List, [], ◌∷◌, ◌++◌, length, arith, length-append}
use Rattle.std.specs.List.{flat_map, list_any}
use Rattle.tables.specs.Indices.{count_from}
use Rattle.letter_codec.specs.declared.kind.Kind.TheVariants.{Reg, Ask, Tell}
use Rattle.model_defs.specs.declared.job.Job.{Job}
use Rattle.model_defs.specs.declared.job.Step.TheVariants as step
use Rattle.model_defs.specs.declared.phase.About.TheVariants.{RegisterMap, AskOwners, TellOwners, SharePlan}
use Rattle.model_defs.specs.declared.phase.Phase.{Phase}
use Rattle.model_defs.specs.declared.phase.Plan.{Plan}
use Rattle.model_defs.specs.declared.phase.Transfer.{Transfer}
use Rattle.model_defs.specs.declared.shape.Sort.{Sort}
use Rattle.model_defs.specs.declared.shape.Sort.TheVariants.{Vector, Parts, Matrix, Split}
use Rattle.model_defs.specs.Makers.{Maker, GivenVector, GivenParts, GivenMatrix, Made, maker_of, value_count}
use Rattle.model_defs.specs.Maps.{is_uniform}
use Rattle.model_defs.specs.Phases.{Act, MakePlan, Send, acts, is_registered, phase_for, phases, phases_from, plan_acts, plan_phases, share_kind, structure_plans, transfer_acts, value_acts}
use Rattle.model_defs.specs.Shapes.{shape, is_split_sort}
use Rattle.model_defs.specs.Transfers.{apply_transfers, is_local, owner_map, same_plan, shared_plan, transfers, transfers_by}

-- at most four phases a plan
plan-few : (job : Job) (made : List Plan) (k : ℕ) (plan : Plan) → length (plan_phases job made k plan) ≤ 4
plan-few job made k plan =
    by (list_any (same_plan (shared_plan job plan)) made) (is_uniform job (owner_map job plan)) (is_registered job made (owner_map job plan))
    (phase_for k Reg (RegisterMap (owner_map job plan))) (phase_for k Ask (AskOwners plan)) (phase_for k Tell (TellOwners plan)) (phase_for k (share_kind plan) (SharePlan plan))
  where
    by : (a b d : Bool) (w x y z : Phase) → length (cond a [] (cond b [] (cond d [] (w ∷ []) ++ x ∷ y ∷ []) ++ z ∷ [])) ≤ 4
    by true b d w x y z = omega arith
    by false true d w x y z = omega arith
    by false false true w x y z = omega arith
    by false false false w x y z = omega arith

phases-few : (job : Job) (made : List Plan) (todo : List Act) → length (phases_from job made todo) ≤ 4 * length todo
phases-few job made [] = omega arith
phases-few job made (MakePlan k plan ∷ todo) =
    let here = plan-few job made k plan in
    let rest = phases-few job (made ++ shared_plan job plan ∷ []) todo in
    let all = length-append (plan_phases job made k plan) (phases_from job (made ++ shared_plan job plan ∷ []) todo) in
    omega arith
phases-few job made (Send k stage ∷ todo) = let rest = phases-few job made todo in omega arith

-- at most two transfers a value, and two plans of its structure
transfers-few : (job : Job) (k : ℕ) (m : Maker) → length (transfers_by job k m) ≤ 2
transfers-few job k (GivenVector spec) = omega arith
transfers-few job k (GivenParts spec) = omega arith
transfers-few job k (GivenMatrix spec) = by spec.split _
  where
    by : (b : Bool) (t : Transfer) → length (cond b [] (t ∷ [])) ≤ 2
    by true t = omega arith
    by false t = omega arith
transfers-few job k (Made (step.Move name source m)) = omega arith
transfers-few job k (Made (step.Import name source onto mode)) = omega arith
transfers-few job k (Made (step.Export name source onto mode)) = omega arith
transfers-few job k (Made (step.Spread name source m)) = omega arith
transfers-few job k (Made (step.Update name x y alpha beta)) = omega arith
transfers-few job k (Made (step.Scale name value alpha)) = omega arith
transfers-few job k (Made (step.Apply name a x y alpha beta transposed)) = by (is_split_sort (shape job a).sort) transposed
  where
    by : (s t : Bool) → length (apply_transfers a s t) ≤ 2
    by false false = omega arith
    by false true = omega arith
    by true false = omega arith
    by true true = omega arith
transfers-few job k (Made (step.Transpose name a)) = omega arith
transfers-few job k (Made (step.Multiply name a b)) = omega arith
transfers-few job k (Made (step.Add name a b alpha beta)) = omega arith
transfers-few job k (Made (step.Assemble name source onto mode)) = omega arith
transfers-few job k (Made (step.Print value)) = omega arith

transfer-acts-few : (k stage : ℕ) (ts : List Transfer) → length (transfer_acts k stage ts) ≤ 2 * length ts
transfer-acts-few k stage [] = omega arith
transfer-acts-few k stage (t ∷ ts) = by (is_local t.plan) (MakePlan k t.plan) (Send k stage) (transfer-acts-few k (suc stage) ts)
  where
    by : (b : Bool) (x y : Act) → length (transfer_acts k (suc stage) ts) ≤ 2 * length ts → length (cond b [] (x ∷ y ∷ []) ++ transfer_acts k (suc stage) ts) ≤ 2 * length (t ∷ ts)
    by true x y l = omega arith
    by false x y l = omega arith

structure-few : (k : ℕ) (sort : Sort) → length (plan_acts k (structure_plans k sort)) ≤ 2
structure-few k Vector = omega arith
structure-few k Parts = omega arith
structure-few k Matrix = omega arith
structure-few k Split = omega arith

value-few : (job : Job) (k : ℕ) → length (value_acts job k) ≤ 6
value-few job k =
    let some = transfers-few job k (maker_of job k) in
    let sent = transfer-acts-few k 0 (transfers job k) in
    let made = or-none (eqb (shape job k).structure k) (plan_acts k (structure_plans k (shape job k).sort)) (structure-few k (shape job k).sort) in
    let all = length-append (transfer_acts k 0 (transfers job k)) (cond (eqb (shape job k).structure k) (plan_acts k (structure_plans k (shape job k).sort)) []) in
    omega arith
  where
    or-none : (b : Bool) (xs : List Act) → length xs ≤ 2 → length (cond b xs []) ≤ 2
    or-none true xs l = l
    or-none false xs l = omega arith

acts-few : (job : Job) (n i : ℕ) → length (flat_map (value_acts job) (count_from i n)) ≤ 6 * n
acts-few job zero i = omega arith
acts-few job (suc n) i =
    let here = value-few job i in
    let rest = acts-few job n (i + 1) in
    let all = length-append (value_acts job i) (flat_map (value_acts job) (count_from (i + 1) n)) in
    omega arith

pub phases-below : (job : Job) → length (phases job) ≤ 24 * value_count job
phases-below job =
    let made = acts-few job (value_count job) 0 in
    let all = phases-few job [] (acts job) in
    omega arith
