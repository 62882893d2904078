-- What a directory knows after the lists of several ranks were registered.
use Rattle.std.specs.Prelude.{ℕ, List, [], ◌∷◌, Option, None, Some, if◌then◌else◌, map}
use Rattle.map_core.specs.Layouts.{stands, rank_list, Layout}
use Rattle.map_core.specs.Homes.{homed}

-- the rank whose list has g, of ranks with the lists that they registered, the latest first
abbrev pub registered_by : List (ℕ × List ℕ) → ℕ → Option ℕ
registered_by [] g = None
registered_by (r ∷ rs) g = if stands g r.1 then Some r.0 else registered_by rs g

-- what rank p of a layout registers at the home h: the indices of its list whose home that is, in their order
abbrev pub registration : Layout → ℕ → ℕ → ℕ → ℕ × List ℕ
registration m P h p = (p, homed P m.size h (rank_list m p))

-- the registrations of these ranks
abbrev pub registrations : Layout → ℕ → ℕ → List ℕ → List (ℕ × List ℕ)
registrations m P h ranks = map (registration m P h) ranks
