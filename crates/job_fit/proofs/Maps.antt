-- How many indices a rank has on a map of a job.
use Rattle.std.proofs.Common.{◌≡◌, ℕ, ◌<◌, List, [], length, get_or, sym, ap, ◌∙◌, subst}
use Rattle.std.proofs.lemmas.List.{get_or_default}
use Rattle.model_defs.specs.declared.job.Job.{Job}
use Rattle.model_defs.specs.declared.job.MapSpec.{MapSpec}
use Rattle.model_defs.specs.declared.job.MapForm.{MapForm}
use Rattle.model_defs.specs.Maps.{map_at, no_map, lists_of, list_of}
use Rattle.model_defs.specs.Valid.{IsValid, IsForm}

-- the list of a rank, by the form of the map
pub list-at : (job : Job) (m : ℕ) (spec : MapSpec) → map_at job m ≡ spec → (form : MapForm) → spec.form ≡ form → (p : ℕ) → list_of job m p ≡ get_or (lists_of job.ranks spec.size form) p []
list-at job m spec read form is p = (λ t. get_or (lists_of job.ranks (read t).size (read t).form) p []) ∙ (λ t. get_or (lists_of job.ranks spec.size (is t)) p [])

pub form-at : (job : Job) → IsValid job → (m : ℕ) → m < length job.maps → (spec : MapSpec) → map_at job m ≡ spec → (form : MapForm) → spec.form ≡ form → IsForm job.ranks spec.size form
form-at job valid m known spec read form is = subst (IsForm job.ranks spec.size) is (subst (λ s. IsForm job.ranks s.size s.form) read (valid.forms m known))

-- the map of a job that was read
pub map-read : (job : Job) (m : ℕ) (maps : List MapSpec) (spec : MapSpec) → m < length job.maps → maps ≡ job.maps → spec ≡ get_or maps m spec → map_at job m ≡ spec
map-read job m maps spec known same read = get_or_default job.maps m no_map spec known ∙ ap (λ ms. get_or ms m spec) (sym same) ∙ sym read
