-- What is named while a job is read, seen against the job that it becomes.
use Rattle.std.proofs.Common.{◌≡◌, ◌<◌, ℕ, true, [], length, ap, sym, subst, ◌∙◌, inl, inr}
use Rattle.std.specs.List.{concat, All}
use Rattle.std.proofs.lemmas.Bool.{cases_lt, eqb-true}
use Rattle.std.proofs.lemmas.List.{get_or_past}
use Rattle.tables.specs.Indices.{stands}
use Rattle.map_core.specs.Layouts.{Layout, IsOneToOne, IsTotal}
use Rattle.model_defs.specs.declared.job.Job.{Job}
use Rattle.model_defs.specs.declared.job.VectorSpec.{VectorSpec}
use Rattle.model_defs.specs.declared.job.PartsSpec.{PartsSpec}
use Rattle.model_defs.specs.Maps.{layout_of, size_of, is_mapped}
use Rattle.model_defs.specs.Makers.{Maker, GivenVector, GivenParts, maker_name}
use Rattle.model_defs.specs.Given.{maker_files}
use Rattle.model_defs.specs.Shapes.{shape, shape_by}
use Rattle.model_defs.specs.Limits.{HasFewCells}
use Rattle.model_defs.specs.Valid.{IsValidMaker, IsOwnerMap, IsMatrixMap, IsCovered, AreSameSize}
use Rattle.job_text.specs.Layouts.{is_one_to_one, is_total, covers}
use Rattle.job_text.specs.Known.{Known, no_map, layout_at, shape_at}
use Rattle.job_text.specs.Statements.{are_same_size}
use Rattle.job_text.proofs.LayoutTests.{one_to_one_decides, total_decides, lists_all}
use Rattle.job_validity.proofs.KeyFacts.{IsNewName, IsFilled}

-- the maps are those of the job
pub record IsMapped (job : Job) (known : Known) : Type 0 where
  pub count : length known.maps ≡ length job.maps
  pub ranks : known.ranks ≡ job.ranks
  pub layouts : (m : ℕ) → m < length known.maps → layout_at known m ≡ layout_of job m
  pub sizes : (m : ℕ) → (layout_at known m).size ≡ size_of job m

-- and the values are the first ones of the job
pub record IsSeen (job : Job) (known : Known) : Type 0 where
  pub maps : IsMapped job known
  pub shapes : (v : ℕ) → v < length known.values → shape_at known v ≡ shape job v

-- The next value may be made like this, of what is named.
pub record IsMakerFor (known : Known) (maker : Maker) : Type 0 where
  pub name : IsNewName known (maker_name maker)
  pub files : All IsFilled (maker_files maker)
  pub valid : (job : Job) → IsSeen job known → shape job (length known.values) ≡ shape_by (length known.values) (shape_at known) maker → IsValidMaker job (length known.values) maker

pub record IsVectorFor (known : Known) (spec : VectorSpec) : Type 0 where
  pub maker : IsMakerFor known (GivenVector spec)
  pub few : (job : Job) → IsMapped job known → HasFewCells job spec.map spec.columns

pub record IsPartsFor (known : Known) (spec : PartsSpec) : Type 0 where
  pub maker : IsMakerFor known (GivenParts spec)
  pub few : (job : Job) → IsMapped job known → HasFewCells job spec.map spec.columns

module _ (job : Job) (known : Known) (mapped : IsMapped job known) where
  pub below-maps : (m : ℕ) → m < length known.maps → m < length job.maps
  below-maps m l = subst (λ n. m < n) mapped.count l

  pub owner-map : (m : ℕ) → m < length known.maps → is_one_to_one (layout_at known m) ≡ true → IsOwnerMap job m
  owner-map m l e = (below-maps m l, subst IsOneToOne (mapped.layouts m l) ((one_to_one_decides (layout_at known m)).0 e))

  pub total-map : (m : ℕ) → m < length known.maps → is_total (layout_at known m) ≡ true → IsTotal (layout_of job m)
  total-map m l e = subst IsTotal (mapped.layouts m l) ((total_decides (layout_at known m)).0 e)

  pub matrix-map : (m : ℕ) → m < length known.maps → is_one_to_one (layout_at known m) ≡ true → is_total (layout_at known m) ≡ true → IsMatrixMap job m
  matrix-map m l e f = (below-maps m l, subst IsOneToOne (mapped.layouts m l) ((one_to_one_decides (layout_at known m)).0 e), total-map m l f)

  pub same-size : (m n : ℕ) → are_same_size known m n ≡ true → AreSameSize job m n
  same-size m n e = sym (mapped.sizes m) ∙ eqb-true _ _ e ∙ mapped.sizes n

  -- an index that a map has by what is named
  mapped-known : (r g : ℕ) → stands g (concat (layout_at known r).lists) ≡ true → is_mapped job r g ≡ true
  mapped-known r g s = elim (cases_lt r (length known.maps)) [
    | inl within ↦ subst (λ m. stands g (concat m.lists) ≡ true) (mapped.layouts r within) s
    | inr past ↦
        let none : layout_at known r ≡ no_map.layout = ap (λ m. m.layout) (get_or_past known.maps r no_map past) in
        let bad : stands g [] ≡ true = subst (λ (m : Layout). stands g (concat m.lists) ≡ true) none s in
        absurd (cc)
  ]

  pub covered : (r m : ℕ) → m < length known.maps → covers (layout_at known r) (layout_at known m) ≡ true → IsCovered job m r
  covered r m l e = λ i s. mapped-known r i (lists_all (λ g. stands g (concat (layout_at known r).lists)) (layout_at known m).lists e i
      (subst (λ n. stands i (concat n.lists) ≡ true) (sym (mapped.layouts m l)) s))
