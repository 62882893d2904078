-- The layout of lists, where they are sound.
use Rattle.std.specs.Prelude.{◌≡◌, ℕ, true, false, List, Option, Some, None}
use Rattle.map_core.specs.Layouts.{Layout}
use Rattle.job_text.specs.Layouts.{are_sound_lists}

abbrev pub IsSoundLayout : ℕ → List (List ℕ) → Option Layout → Type 0
IsSoundLayout size lists None = are_sound_lists size lists ≡ false
IsSoundLayout size lists (Some m) = (are_sound_lists size lists ≡ true) × (m ≡ record { size = size; lists = lists })
