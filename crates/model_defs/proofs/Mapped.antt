-- Which indices a map has.
use Rattle.std.proofs.Common.{◌≡◌, ℕ, ◌<◌, true, Option, Some, None, refl, sym, subst}
use Rattle.map_core.specs.Layouts.{IsLayout, IsTotal, owner}
use Rattle.map_core.proofs.Owners.{owner-has, owner-none}
use Rattle.model_defs.specs.declared.job.Job.{Job}
use Rattle.model_defs.specs.Maps.{layout_of, is_mapped, size_of}

-- an index of a map is below its size
pub mapped-below : (job : Job) (m i : ℕ) → IsLayout (layout_of job m) → is_mapped job m i ≡ true → i < size_of job m
mapped-below job m i h e = by (owner (layout_of job m) i) refl
  where
    by : (u : Option ℕ) → owner (layout_of job m) i ≡ u → i < size_of job m
    by (Some q) f = h.below q i (owner-has (layout_of job m) i q f)
    by None f = let t = (owner-none (layout_of job m) i).0 f in absurd (let bad : ⊥ = cc in bad)

-- a total map has every index of a map of its size
pub covered-total : (job : Job) (m n : ℕ) → IsLayout (layout_of job m) → IsTotal (layout_of job n) → size_of job n ≡ size_of job m → (i : ℕ) → is_mapped job m i ≡ true → is_mapped job n i ≡ true
covered-total job m n h total same i e = total i (subst (λ s. i < s) (sym same) (mapped-below job m i h e))
