-- The sizes and the words of a valid job are bounded, so that they have room in the types of the code and of letters.
use Rattle.std.specs.Prelude.{◌≡◌, ◌≤◌, nat_lt, ℕ, true, false, List}
use Rattle.std.specs.List.{list_all}
use Rattle.mm_text.specs.Reading.{File}
use Rattle.outside.specs.declared.name.Name.{Name}
use Rattle.map_core.specs.Layouts.{IsLayout}
use Rattle.model_defs.specs.declared.job.Job.{Job}
use Rattle.model_defs.specs.declared.phase.Phase.{Phase}
use Rattle.model_defs.specs.Maps.{size_of, layout_of}
use Rattle.model_defs.specs.Makers.{value_count}
use Rattle.model_defs.specs.Shapes.{shape, is_dense}
use Rattle.model_defs.specs.Letters.{letter_entries, width}
use Rattle.model_defs.specs.Limits.{most_size}
use Rattle.model_defs.specs.Valid.{IsValid}

-- Whatever its number, a map is a layout of at most 2^40 indices.
abbrev pub MapsAreLayouts : Type 0
MapsAreLayouts = (job : Job) (m : ℕ) → IsValid job → IsLayout (layout_of job m) × (size_of job m ≤ most_size)

-- The entries of letters, indices and owners alike, are below 2^40.
abbrev pub EntriesAreSmall : Type 0
EntriesAreSmall = (job : Job) (files : List File) (phase : Phase) (n : Name) → IsValid job → list_all (λ w. nat_lt w most_size) (letter_entries job files phase n) ≡ true

-- A matrix has at most 2^40 columns.
abbrev pub WidthsAreSmall : Type 0
WidthsAreSmall = (job : Job) (files : List File) (k : ℕ) → IsValid job → is_dense (shape job k).sort ≡ false → width job files k ≤ most_size

-- A job has at most 264 values.
abbrev pub ValuesAreFew : Type 0
ValuesAreFew = (job : Job) → IsValid job → value_count job ≤ 264
