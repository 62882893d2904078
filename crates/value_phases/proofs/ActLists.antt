-- Lists of acts, each for a value that is not before the last one, and the plans that were made before them.
use Rattle.std.proofs.Common.{◌≡◌, ℕ, suc, ◌<◌, ◌≤◌, ◌+◌, ◌⊎◌, inl, inr, Bool, true, false, ◌&&◌, ◌||◌, eqb, List, [], ◌∷◌, ◌++◌, Option, None, Some, refl, sym, ap, ◌∙◌, subst, arith}
use Rattle.std.specs.List.{list_any}
use Rattle.std.proofs.lemmas.Bool.{eqb-true, cases_lt}
use Rattle.std.proofs.lemmas.List.Folds.{list_any-append}
use Rattle.model_defs.specs.declared.job.Job.{Job}
use Rattle.model_defs.specs.declared.job.MatrixSpec.{MatrixSpec}
use Rattle.model_defs.specs.declared.phase.About.TheVariants.{SendNumbers}
use Rattle.model_defs.specs.declared.phase.Phase.{Phase}
use Rattle.model_defs.specs.declared.phase.Plan.{Plan}
use Rattle.model_defs.specs.declared.phase.Plan.TheVariants.{ImportPlan, ExportPlan, ColumnPlan, RowPlan}
use Rattle.model_defs.specs.Makers.{GivenMatrix, maker_of, value_count}
use Rattle.model_defs.specs.Shapes.{is_split_sort, shape}
use Rattle.model_defs.specs.Transfers.{same_plan, shared_plan}
use Rattle.model_defs.specs.Phases.{Act, MakePlan, Send, phase_for, send_kind}
use Rattle.model_defs.specs.Stages.{stage_count}
use Rattle.model_defs.proofs.Filters.{later}
use Rattle.model_defs.proofs.Phases.{is_send}
use Rattle.rank_stages.proofs.Once.{same-self}
use Rattle.value_phases.specs.ValuePhases.{IsStructured, IsPlanOf}

abbrev pub is_made : List Plan → Plan → Bool
is_made made plan = list_any (same_plan plan) made

-- ---- lists of acts

-- a plan of a structure, which is made after the numbers were sent
abbrev pub is_late_plan : Job → ℕ → Plan → Bool
is_late_plan job k (ImportPlan source target) = false
is_late_plan job k (ExportPlan source target) = false
is_late_plan job k (ColumnPlan v) = true
is_late_plan job k (RowPlan v) = is_split_sort (shape job k).sort

-- a plan of rows is that of a matrix of a file, which is split exactly where the plan is late
abbrev pub HasFile : Job → ℕ → Plan → Type 0
HasFile job k (ImportPlan source target) = Unit {0}
HasFile job k (ExportPlan source target) = Unit {0}
HasFile job k (ColumnPlan v) = Unit {0}
HasFile job k (RowPlan v) = (spec : MatrixSpec) × (maker_of job k ≡ GivenMatrix spec) × (spec.split ≡ is_split_sort (shape job k).sort)

-- a plan is late and no numbers are sent from here on, or it is not and some are
abbrev pub IsPlanTime : Job → ℕ → Plan → List Act → Type 0
IsPlanTime job k plan xs =
    (IsStructured job k × ((t : ℕ) → list_any (is_send k t) xs ≡ false) × (is_late_plan job k plan ≡ true))
    ⊎ ((is_late_plan job k plan ≡ false) × (t : ℕ) × (list_any (is_send k t) xs ≡ true))

abbrev pub send_of : Job → ℕ → ℕ → Phase
send_of job k t = phase_for k (send_kind job k) (SendNumbers t)

-- a phase sends the numbers of a value's first transfer, or the one before it sends those of the transfer before, or it sends none
abbrev pub IsTurn : Option Phase → Phase → Type 0
IsTurn prev x = (t : ℕ) → x.about ≡ SendNumbers (suc t) → prev ≡ Some (record x { about = SendNumbers t })

-- A plan was made before, and the last phase stays; or it may be new, and is one of the value.
abbrev pub IsMaking : Job → List Plan → (prev next : Option Phase) → ℕ → Plan → List Act → Type 0
IsMaking job made prev next k plan xs =
    ((is_made made (shared_plan job plan) ≡ true) × (next ≡ prev))
    ⊎ ((next ≡ None) × IsPlanOf job k plan × IsPlanTime job k plan xs × HasFile job k plan)

-- Acts after these plans were made and after this phase, each for a value that is not before the last one.
abbrev pub AreValueActs : Job → ℕ → List Plan → Option Phase → List Act → Type 0
AreValueActs job low made prev [] = Unit {0}
AreValueActs job low made prev (MakePlan k plan ∷ xs) =
    (low ≤ k) × (k < value_count job)
    × (next : Option Phase) × IsMaking job made prev next k plan xs × AreValueActs job k (made ++ shared_plan job plan ∷ []) next xs
AreValueActs job low made prev (Send k t ∷ xs) =
    (low ≤ k) × (k < value_count job) × (t < stage_count job k) × IsTurn prev (send_of job k t) × AreValueActs job k made (Some (send_of job k t)) xs

-- a lower bound on the values will do too
pub acts-lower : (job : Job) (low high : ℕ) (made : List Plan) (prev : Option Phase) (xs : List Act) → low ≤ high → AreValueActs job high made prev xs → AreValueActs job low made prev xs
acts-lower job low high made prev [] l h = tt
acts-lower job low high made prev (MakePlan k plan ∷ xs) l h = (omega (arith, l, h.0), h.1, h.2, h.3, h.4)
acts-lower job low high made prev (Send k t ∷ xs) l h = (omega (arith, l, h.0), h.1, h.2, h.3, h.4)

eqb-not : (a b : ℕ) → b < a → eqb a b ≡ false
eqb-not a b l = go (eqb a b) refl
  where
    go : (c : Bool) → eqb a b ≡ c → c ≡ false
    go false e = refl
    go true e = let same = eqb-true a b e in absurd (omega arith)

-- nothing is sent for values before
pub sends-later : (job : Job) (low : ℕ) (made : List Plan) (prev : Option Phase) (xs : List Act) (v t : ℕ) → v < low → AreValueActs job low made prev xs → list_any (is_send v t) xs ≡ false
sends-later job low made prev [] v t l h = refl
sends-later job low made prev (MakePlan k plan ∷ xs) v t l h = sends-later job k (made ++ shared_plan job plan ∷ []) h.2 xs v t (omega (arith, l, h.0)) h.4
sends-later job low made prev (Send k u ∷ xs) v t l h =
    ap (λ z. (z && eqb u t) || list_any (is_send v t) xs) (eqb-not k v (omega (arith, l, h.0)))
    ∙ sends-later job k made (Some (send_of job k u)) xs v t (omega (arith, l, h.0)) h.4

-- ---- the plans that were made

-- those of the structures of the values before value n
pub record IsReady (job : Job) (n : ℕ) (made : List Plan) : Type 0 where
  pub columns : (s : ℕ) → s < n → IsStructured job s → is_made made (ColumnPlan s) ≡ true
  pub rows : (s : ℕ) → s < n → IsStructured job s → is_split_sort (shape job s).sort ≡ true → is_made made (RowPlan s) ≡ true

pub has-more : (made : List Plan) (p q : Plan) → is_made made q ≡ true → is_made (made ++ p ∷ []) q ≡ true
has-more made p q e = list_any-append (same_plan q) made (p ∷ []) ∙ ap (λ b. b || list_any (same_plan q) (p ∷ [])) e

pub has-last : (made : List Plan) (p q : Plan) → q ≡ p → is_made (made ++ p ∷ []) q ≡ true
has-last made p q e =
    list_any-append (same_plan q) made (p ∷ [])
    ∙ later (list_any (same_plan q) made) _ (ap (λ b. b || false) (ap (same_plan q) (sym e) ∙ same-self q))

module _ (job : Job) where
  pub ready-more : (n : ℕ) (made : List Plan) (p : Plan) → IsReady job n made → IsReady job n (made ++ p ∷ [])
  ready-more n made p h = record {
    columns = λ s l o. has-more made p (ColumnPlan s) (h.columns s l o);
    rows = λ s l o e. has-more made p (RowPlan s) (h.rows s l o e);
  }

  pub ready-next : (n : ℕ) (made : List Plan) → IsReady job n made
      → (IsStructured job n → is_made made (ColumnPlan n) ≡ true)
      → (IsStructured job n → is_split_sort (shape job n).sort ≡ true → is_made made (RowPlan n) ≡ true)
      → IsReady job (n + 1) made
  ready-next n made h c r = record { columns = λ s l. column s (cases_lt s n) l; rows = λ s l. row s (cases_lt s n) l }
    where
      column : (s : ℕ) → (s < n) ⊎ (n ≤ s) → s < n + 1 → IsStructured job s → is_made made (ColumnPlan s) ≡ true
      column s (inl m) l = h.columns s m
      column s (inr m) l = let same : n ≡ s = omega arith in subst (λ i. IsStructured job i → is_made made (ColumnPlan i) ≡ true) same c

      row : (s : ℕ) → (s < n) ⊎ (n ≤ s) → s < n + 1 → IsStructured job s → is_split_sort (shape job s).sort ≡ true → is_made made (RowPlan s) ≡ true
      row s (inl m) l = h.rows s m
      row s (inr m) l = let same : n ≡ s = omega arith in subst (λ i. IsStructured job i → is_split_sort (shape job i).sort ≡ true → is_made made (RowPlan i) ≡ true) same r
