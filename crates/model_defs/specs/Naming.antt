-- The names of a job: of its maps and values, and of its files.
use Rattle.std.specs.Prelude.{◌≡◌, ◌<◌, ◌||◌, ◌&&◌, ◌==◌, ◌++◌, nat_le, ℕ, Bool, true, List, [], All, length, map}
use Rattle.std.specs.List.{flat_map, list_all, slice_index_or}
use Rattle.model_defs.specs.declared.job.Job.{Job}
use Rattle.model_defs.specs.Makers.{makers, maker_name}
use Rattle.model_defs.specs.Given.{maker_files}

-- a letter a to z or A to Z, a digit, or _
abbrev pub is_name_byte : ℕ → Bool
is_name_byte b = (nat_le 97 b && nat_le b 122) || (nat_le 65 b && nat_le b 90) || (nat_le 48 b && nat_le b 57) || (b == 95)

-- 1 to 64 of these
abbrev pub is_name : List ℕ → Bool
is_name text = nat_le 1 (length text) && nat_le (length text) 64 && list_all is_name_byte text

-- maps and values share one space of names
abbrev pub names_of_job : Job → List (List ℕ)
names_of_job job = map (λ m. m.name) job.maps ++ map maker_name (makers job)

-- no text stands in a list twice
abbrev pub AreApart : List (List ℕ) → Type 0
AreApart texts =
    (i j : ℕ) → i < length texts → j < length texts → slice_index_or texts i [] ≡ slice_index_or texts j [] → i ≡ j

pub record IsNamed (job : Job) : Type 0 where
  pub names : All (λ text. is_name text ≡ true) (names_of_job job)
  pub apart : AreApart (names_of_job job)
  pub files : All (λ text. 0 < length text) (flat_map maker_files (makers job))
