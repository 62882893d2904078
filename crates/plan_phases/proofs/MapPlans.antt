-- The plans of a job: between two of its maps, and of the structure of a matrix on two of its maps.
use Rattle.std.proofs.Common.{◌≡◌, ℕ, ◌<◌, ◌⊎◌, true, false, inl, inr, length, Option, Some, None, refl, sym, ap, subst, ◌∙◌}
use Rattle.std.specs.Option.{option_map}
use Rattle.model_defs.specs.declared.job.Job.{Job}
use Rattle.model_defs.specs.declared.phase.About.{About}
use Rattle.model_defs.specs.declared.phase.About.TheVariants.{SharePlan}
use Rattle.model_defs.specs.declared.phase.Phase.{Phase}
use Rattle.model_defs.specs.declared.phase.Plan.{Plan}
use Rattle.model_defs.specs.declared.phase.Plan.TheVariants.{ColumnPlan, ExportPlan, ImportPlan, RowPlan}
use Rattle.model_defs.specs.Transfers.{owner_map}
use Rattle.value_phases.specs.ValuePhases.{IsMapPlan, IsPlanOf, is_of_structure}

-- the phase of what a phase is about
pub phase-of : (o : Option Phase) (about : About) → option_map (λ phase. phase.about) o ≡ Some about → (phase : Phase) × ((o ≡ Some phase) × (phase.about ≡ about))
phase-of None about e = absurd (let bad : ⊥ = cc in bad)
phase-of (Some phase) about e = (phase, (refl, (let is : phase.about ≡ about = cc in is)))

-- a plan that is not of a structure is one between maps
pub between-maps : (job : Job) (i : ℕ) (plan : Plan) → is_of_structure plan ≡ false → IsPlanOf job i plan → IsMapPlan job plan
between-maps job i plan off (inl m) = m
between-maps job i plan off (inr s) = elim s.is [
  | inl e ↦ let on : is_of_structure plan ≡ true = ap is_of_structure e in absurd (let bad : ⊥ = cc in bad)
  | inr e ↦ let on : is_of_structure plan ≡ true = ap is_of_structure e in absurd (let bad : ⊥ = cc in bad)
]

-- its map of owners is a map of the job
pub owners-map : (job : Job) (i : ℕ) (plan : Plan) → IsPlanOf job i plan → owner_map job plan < length job.maps
owners-map job i plan (inl m) = elim m.is [
  | inl e ↦ subst (λ r. owner_map job r < length job.maps) (sym e) m.known_source
  | inr e ↦ subst (λ r. owner_map job r < length job.maps) (sym e) m.known_target
]
owners-map job i plan (inr s) = elim s.is [
  | inl e ↦ subst (λ r. owner_map job r < length job.maps) (sym e) s.structured.known_domain
  | inr e ↦ subst (λ r. owner_map job r < length job.maps) (sym e) s.structured.known_rows
]

-- and so are both maps of a plan between two
module _ (job : Job) (source target : ℕ) where
  abbrev AreKnown : Type 0
  AreKnown = (source < length job.maps) × (target < length job.maps)

  import-known : IsMapPlan job (ImportPlan source target) → AreKnown
  import-known m = elim m.is [
    | inl e ↦ (subst (λ i. i < length job.maps) (let same : m.source ≡ source = cc in same) m.known_source, subst (λ i. i < length job.maps) (let same : m.target ≡ target = cc in same) m.known_target)
    | inr e ↦ absurd (cc)
  ]

  export-known : IsMapPlan job (ExportPlan source target) → AreKnown
  export-known m = elim m.is [
    | inl e ↦ absurd (cc)
    | inr e ↦ (subst (λ i. i < length job.maps) (let same : m.source ≡ source = cc in same) m.known_source, subst (λ i. i < length job.maps) (let same : m.target ≡ target = cc in same) m.known_target)
  ]

  pub import-ends : (i : ℕ) (plan : Plan) → plan ≡ ImportPlan source target → IsPlanOf job i plan → AreKnown
  import-ends i plan is h = import-known (subst (IsMapPlan job) is (between-maps job i plan (ap is_of_structure is) h))

  pub export-ends : (i : ℕ) (plan : Plan) → plan ≡ ExportPlan source target → IsPlanOf job i plan → AreKnown
  export-ends i plan is h = export-known (subst (IsMapPlan job) is (between-maps job i plan (ap is_of_structure is) h))

-- a plan of a structure is no other one
pub shared-structure : (plan other : Plan) → is_of_structure plan ≡ true → SharePlan plan ≡ SharePlan other → is_of_structure other ≡ false → ⊥
shared-structure plan other on same off = let one : plan ≡ other = cc in let both = sym on ∙ ap is_of_structure one ∙ off in let bad : ⊥ = cc in bad

pub either-structure : (plan : Plan) → ((v : ℕ) × (plan ≡ ColumnPlan v)) ⊎ ((v : ℕ) × (plan ≡ RowPlan v)) → is_of_structure plan ≡ true
either-structure plan (inl e) = ap is_of_structure e.1
either-structure plan (inr e) = ap is_of_structure e.1
