-- The indices of a map are below its size, and those that a rank lacks by a plan.
use Rattle.std.proofs.Common.{◌≡◌, ℕ, ◌<◌, true, All, List, get_or, Some, sym, ◌∙◌}
use Rattle.std.proofs.lemmas.List.Elements.{All-from_get_or}
use Rattle.map_core.specs.Layouts.{stands}
use Rattle.map_core.proofs.Classes.{stands-index_at}
use Rattle.map_core.proofs.Members.{and_true, stands-filter}
use Rattle.mm_text.specs.Reading.{File}
use Rattle.model_defs.specs.declared.job.Job.{Job}
use Rattle.model_defs.specs.declared.phase.About.{About}
use Rattle.model_defs.specs.declared.phase.Plan.{Plan}
use Rattle.model_defs.specs.Maps.{list_of, size_of}
use Rattle.model_defs.specs.Plans.{lacking, rank_list_by}
use Rattle.model_defs.specs.Transfers.{owner_map}
use Rattle.model_defs.specs.Valid.{IsValid}
use Rattle.model_defs.proofs.Bounds.{maps-are-layouts}
use Rattle.rank_stages.specs.JobStages.{about_at}
use Rattle.rank_stages.specs.OwnerLaws.{plan_about}
use Rattle.rank_stages.proofs.Owners.{indices_are_within}

all-below : (n : ℕ) (xs : List ℕ) → ((g : ℕ) → stands g xs ≡ true → g < n) → All (λ g. g < n) xs
all-below n xs h = All-from_get_or (λ g. g < n) xs 0 (λ i l. h (get_or xs i 0) (stands-index_at xs i l))

pub list-below : (job : Job) → IsValid job → (m p : ℕ) → All (λ g. g < size_of job m) (list_of job m p)
list-below job valid m p = all-below (size_of job m) (list_of job m p) (λ g on. (maps-are-layouts job m valid).0.below p g on)

pub lacking-below : (job : Job) (files : List File) → IsValid job → (n p : ℕ) (about : About) (plan : Plan) → about_at job n ≡ Some about → plan_about about ≡ Some plan
    → All (λ g. g < size_of job (owner_map job plan)) (lacking job files plan p)
lacking-below job files valid n p about plan at of =
    all-below (size_of job (owner_map job plan)) (lacking job files plan p)
    (λ g on. indices_are_within job files n p g about plan valid at of (and_true (stands g (rank_list_by job files plan p)) _ (sym (stands-filter g _ (rank_list_by job files plan p)) ∙ on)).0)
