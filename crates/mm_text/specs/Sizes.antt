-- The size line.
use Rattle.std.specs.Prelude.{◌==◌, ◌&&◌, ◌||◌, ◌*◌, ℕ, Bool, true, false, List, Option, Some, None, Ok, Err, nat_lt, not, option_and_then, if◌then◌else◌}
use Rattle.mm_text.specs.declared.reading.banner.Banner.{Banner}
use Rattle.mm_text.specs.declared.reading.banner.Kind.{Kind}
use Rattle.mm_text.specs.declared.reading.banner.Kind.TheVariants as kind
use Rattle.mm_text.specs.declared.fault.MmFault.TheVariants.{BadSize, NotSquare, TooManyEntries}
use Rattle.mm_text.specs.declared.file_data.Mirror.{Mirror}
use Rattle.mm_text.specs.declared.file_data.Mirror.TheVariants as mirror
use Rattle.mm_text.specs.declared.profile.Profile.{Profile}
use Rattle.mm_text.specs.declared.reading.sizes.Sizes.{Sizes}
use Rattle.mm_text.specs.Lines.{Text, two_words, three_words}
use Rattle.mm_text.specs.Numerals.{count_of}
use Rattle.mm_text.specs.Outcomes.{Outcome, ◌>>=◌, or_fault}

abbrev pub array_sizes : Option ℕ → Option ℕ → Option Sizes
array_sizes (Some m) (Some n) = Some (record { rows = m; cols = n; count = m * n })
array_sizes _ _ = None

abbrev pub coordinate_sizes : Option ℕ → Option ℕ → Option ℕ → Option Sizes
coordinate_sizes (Some m) (Some n) (Some l) = Some (record { rows = m; cols = n; count = l })
coordinate_sizes _ _ _ = None

-- the size line of an array has rows and columns, and its entries are those of all places
abbrev pub array_sizes_announced : List Text → Option Sizes
array_sizes_announced words = option_and_then (λ w. array_sizes (count_of w.0) (count_of w.1)) (two_words words)

-- else it has rows, columns and the number of entries
abbrev pub coordinate_sizes_announced : List Text → Option Sizes
coordinate_sizes_announced words =
    option_and_then (λ w. coordinate_sizes (count_of w.0) (count_of w.1) (count_of w.2)) (three_words words)

abbrev pub sizes_announced : Kind → List Text → Option Sizes
sizes_announced kind.Dense words = array_sizes_announced words
sizes_announced kind.Valued words = coordinate_sizes_announced words
sizes_announced kind.Pattern words = coordinate_sizes_announced words

abbrev pub is_plain : Mirror → Bool
is_plain mirror.Plain = true
is_plain _ = false

-- within the limits, and square where the file has a symmetry
abbrev pub sizes_limited : Mirror → Profile → Sizes → Outcome Sizes
sizes_limited m profile s =
    if nat_lt profile.rows s.rows || nat_lt profile.cols s.cols then Err BadSize
    else (if not (is_plain m) && not (s.rows == s.cols) then Err NotSquare
    else (if nat_lt profile.entries s.count then Err TooManyEntries else Ok s))

abbrev pub sizes_of : Banner → Profile → List Text → Outcome Sizes
sizes_of banner profile words = do
  s ← or_fault BadSize (sizes_announced banner.kind words)
  sizes_limited banner.mirror profile s
