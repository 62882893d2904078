-- The banner: NIST Matrix Market exchange formats, line 1.
use Rattle.std.specs.Prelude.{Bool, true, false, List, [], ◌∷◌, Option, Some, None, Ok, Err, codes, bytes_eq, if◌then◌else◌}
use Rattle.std.specs.Str.{str_eq_ignore_ascii_case}
use Rattle.mm_text.specs.declared.reading.banner.Banner.{Banner}
use Rattle.mm_text.specs.declared.reading.banner.Field.{Field}
use Rattle.mm_text.specs.declared.reading.banner.Field.TheVariants as field
use Rattle.mm_text.specs.declared.reading.banner.Kind.{Kind}
use Rattle.mm_text.specs.declared.reading.banner.Kind.TheVariants as kind
use Rattle.mm_text.specs.declared.reading.banner.Symmetry.{Symmetry}
use Rattle.mm_text.specs.declared.reading.banner.Symmetry.TheVariants as symmetry
use Rattle.mm_text.specs.declared.fault.MmFault.TheVariants.{NoBanner, BadBanner, UnsupportedField, UnsupportedSymmetry, WrongForm}
use Rattle.mm_text.specs.declared.file_data.Form.{Form}
use Rattle.mm_text.specs.declared.file_data.Form.TheVariants as form
use Rattle.mm_text.specs.declared.file_data.Mirror.{Mirror}
use Rattle.mm_text.specs.declared.file_data.Mirror.TheVariants as mirror
use Rattle.mm_text.specs.Lines.{Text, four_words}
use Rattle.mm_text.specs.Outcomes.{Outcome, ◌>>=◌, or_fault}

-- the word is the name, whatever the case of its letters
abbrev pub is_named : Text → Text → Bool
is_named name word = str_eq_ignore_ascii_case word name

abbrev pub object_named : Text → Option (Unit {0})
object_named word = if is_named (codes "matrix") word then Some tt else None

abbrev pub form_named : Text → Option Form
form_named word = if is_named (codes "coordinate") word then Some form.Coordinate
    else (if is_named (codes "array") word then Some form.Array else None)

abbrev pub field_named : Text → Option Field
field_named word = if is_named (codes "real") word then Some field.Real
    else (if is_named (codes "integer") word then Some field.Integer
    else (if is_named (codes "complex") word then Some field.Complex
    else (if is_named (codes "pattern") word then Some field.Pattern else None)))

abbrev pub symmetry_named : Text → Option Symmetry
symmetry_named word = if is_named (codes "general") word then Some symmetry.General
    else (if is_named (codes "symmetric") word then Some symmetry.Symmetric
    else (if is_named (codes "skew-symmetric") word then Some symmetry.SkewSymmetric
    else (if is_named (codes "hermitian") word then Some symmetry.Hermitian else None)))

-- what the entries are; real and complex numbers are not read, and an array holds numbers
abbrev pub kind_of : Form → Field → Outcome Kind
kind_of f field.Real = Err UnsupportedField
kind_of f field.Complex = Err UnsupportedField
kind_of form.Coordinate field.Integer = Ok kind.Valued
kind_of form.Coordinate field.Pattern = Ok kind.Pattern
kind_of form.Array field.Integer = Ok kind.Dense
kind_of form.Array field.Pattern = Err UnsupportedField

-- what an entry says of the place across the diagonal
abbrev pub mirror_of : Kind → Symmetry → Outcome Mirror
mirror_of k symmetry.General = Ok mirror.Plain
mirror_of k symmetry.Hermitian = Err UnsupportedSymmetry
mirror_of kind.Dense symmetry.Symmetric = Err UnsupportedSymmetry
mirror_of kind.Dense symmetry.SkewSymmetric = Err UnsupportedSymmetry
mirror_of kind.Pattern symmetry.SkewSymmetric = Err UnsupportedSymmetry
mirror_of k symmetry.Symmetric = Ok mirror.Same
mirror_of k symmetry.SkewSymmetric = Ok mirror.Negated

abbrev pub same_form : Form → Form → Bool
same_form form.Coordinate form.Coordinate = true
same_form form.Array form.Array = true
same_form _ _ = false

abbrev pub banner_supported : Form → Form → Field → Symmetry → Outcome Banner
banner_supported want f fd s = do
  k ← kind_of f fd
  m ← mirror_of k s
  if same_form want f then Ok (record { kind = k; mirror = m }) else Err WrongForm

-- the object, the form, the field and the symmetry
abbrev pub banner_named : Form → Text × Text × Text × Text → Outcome Banner
banner_named want words = do
  object ← or_fault BadBanner (object_named words.0)
  f ← or_fault BadBanner (form_named words.1)
  fd ← or_fault BadBanner (field_named words.2)
  s ← or_fault BadBanner (symmetry_named words.3)
  banner_supported want f fd s

abbrev pub banner_of : Form → List Text → Outcome Banner
banner_of want [] = Err NoBanner
banner_of want (mark ∷ words) =
    if bytes_eq mark (codes "%%MatrixMarket") then (or_fault BadBanner (four_words words) >>= banner_named want) else Err NoBanner
