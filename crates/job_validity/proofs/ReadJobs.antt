-- Each job that is read is valid.
use Rattle.std.proofs.Common.{List}
use Rattle.std.specs.List.{All}
use Rattle.model_defs.specs.declared.job.Job.{Job}
use Rattle.model_defs.specs.Maps.{no_map}
use Rattle.model_defs.specs.Limits.{IsWithinLimits, IsSmallForm, HasFewCells}
use Rattle.model_defs.specs.Valid.{IsValid}
use Rattle.job_text.specs.Known.{no_names}
use Rattle.job_text.specs.Whole.{job_of}
use Rattle.job_validity.specs.Laws.{ReadJobsAreValid}
use Rattle.job_validity.proofs.Outcomes.{answer}
use Rattle.job_validity.proofs.MapFacts.{IsGoodSpec}
use Rattle.job_validity.proofs.Seen.{IsVectorFor, IsPartsFor}
use Rattle.job_validity.proofs.KnownMaps.{good-specs, mapped-first, mapped-after, all-mapped}
use Rattle.job_validity.proofs.KnownNames.{job-named}
use Rattle.job_validity.proofs.KnownValues.{makers-valid, steps-printable}
use Rattle.job_validity.proofs.Reading.{IsReadJob, after_maps, after_vectors, job-read}
use Rattle.model_defs.specs.Makers.{GivenVector, GivenParts, Made}
use Rattle.model_defs.specs.declared.job.Step.TheVariants as step

-- what holds of all elements holds of all, where it follows
all-follow : {A : Type 0} (P Q : A → Type 0) (xs : List A) → ((x : A) → P x → Q x) → All P xs → All Q xs
all-follow P Q xs each h = λ k d l. each _ (h k d l)

module _ (job : Job) (h : IsReadJob job) where
  good : All (IsGoodSpec job.ranks) job.maps
  good = good-specs job.maps (no_names job.ranks) h.tables.maps

  limits : IsWithinLimits job
  limits = record {
    ranks = h.ranks;
    maps = h.maps;
    given = h.given;
    steps = h.steps;
    forms = all-follow (IsGoodSpec job.ranks) (λ m. IsSmallForm m.size m.form) job.maps (λ m g. g.small) good;
    vectors = all-mapped job GivenVector IsVectorFor (λ v. HasFewCells job v.map v.columns) (λ k v mapped f. f.few job mapped) job.vectors (after_maps job) (mapped-first job) h.tables.vectors;
    parts = all-mapped job GivenParts IsPartsFor (λ v. HasFewCells job v.map v.columns) (λ k v mapped f. f.few job mapped) job.parts (after_vectors job)
        (mapped-after job GivenVector job.vectors (after_maps job) (mapped-first job)) h.tables.parts;
  }

  pub read-valid : IsValid job
  read-valid = record {
    some = h.some;
    limits = limits;
    named = job-named job h.tables;
    forms = λ m l. (good m no_map l).form;
    layouts = λ m l. (good m no_map l).layout h.some;
    values = λ k l. makers-valid job h.tables k (Made (step.Print 0)) l;
    prints = steps-printable job h.tables;
  }

pub read-jobs-are-valid : ReadJobsAreValid
read-jobs-are-valid = λ text job e. read-valid job (answer IsReadJob (job_of text) job (job-read text) e)
