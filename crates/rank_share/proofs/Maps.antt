-- What is known of a map of a valid job.
use Rattle.std.proofs.Common.{◌≡◌, ℕ, zero, suc, ◌+◌, ◌<◌, ◌≤◌, List, [], ◌∷◌, ◌++◌, length, get_or, refl, sym, ap, ◌∙◌, subst, arith, length-append}
use Rattle.std.specs.List.{concat}
use Rattle.std.proofs.lemmas.List.Elements.{All-get_or}
use Rattle.std.proofs.lemmas.List.{get_or_default}
use Rattle.map_core.specs.Layouts.{AreDistinct}
use Rattle.model_defs.specs.declared.job.Job.{Job}
use Rattle.model_defs.specs.declared.job.MapSpec.{MapSpec}
use Rattle.model_defs.specs.declared.job.MapForm.{MapForm}
use Rattle.model_defs.specs.Limits.{IsSmallForm}
use Rattle.model_defs.specs.Maps.{map_at, no_map, lists_of, list_of, layout_of}
use Rattle.model_defs.specs.Valid.{IsValid, IsForm}

-- no list is longer than all together
pub list-within : (ls : List (List ℕ)) (k : ℕ) → length (get_or ls k []) ≤ length (concat ls)
list-within [] k = omega arith
list-within (l ∷ ls) zero = let long = length-append l (concat ls) in omega arith
list-within (l ∷ ls) (suc k) = let rest = list-within ls k in let long = length-append l (concat ls) in omega arith

module _ (job : Job) (valid : IsValid job) (m : ℕ) (known : m < length job.maps) where
  pub small-at : (spec : MapSpec) → map_at job m ≡ spec → (form : MapForm) → spec.form ≡ form → IsSmallForm spec.size form
  small-at spec read form is = subst (IsSmallForm spec.size) is (subst (λ s. IsSmallForm s.size s.form) read (All-get_or (λ s. IsSmallForm s.size s.form) job.maps m no_map known valid.limits.forms))

  pub form-at : (spec : MapSpec) → map_at job m ≡ spec → (form : MapForm) → spec.form ≡ form → IsForm job.ranks spec.size form
  form-at spec read form is = subst (IsForm job.ranks spec.size) is (subst (λ s. IsForm job.ranks s.size s.form) read (valid.forms m known))

  pub list-at : (spec : MapSpec) → map_at job m ≡ spec → (form : MapForm) → spec.form ≡ form → (p : ℕ) → list_of job m p ≡ get_or (lists_of job.ranks spec.size form) p []
  list-at spec read form is p = (λ t. get_or (lists_of job.ranks (read t).size (read t).form) p []) ∙ (λ t. get_or (lists_of job.ranks spec.size (is t)) p [])

-- the map of a job that was read
pub map-read : (job : Job) (m : ℕ) (maps : List MapSpec) (spec : MapSpec) → m < length job.maps → maps ≡ job.maps → spec ≡ get_or maps m spec → map_at job m ≡ spec
map-read job m maps spec known same read = get_or_default job.maps m no_map spec known ∙ ap (λ ms. get_or ms m spec) (sym same) ∙ sym read

-- the list of a rank that was read has few indices
pub few : (lists read : List (List ℕ)) (list items : List ℕ) (p : ℕ) → read ≡ lists → list ≡ get_or read p list → items ≡ list → p < length lists → length (concat lists) ≤ 16777216 → length items < 4294967296
few lists read list items p same is items-are l small =
    let at : list ≡ get_or lists p [] = is ∙ ap (λ ls. get_or ls p list) same ∙ get_or_default lists p list [] l in
    let long = list-within lists p in
    let count : length items ≡ length (get_or lists p []) = ap length items-are ∙ ap length at in
    omega arith
