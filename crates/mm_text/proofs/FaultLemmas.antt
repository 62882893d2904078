-- A text has only faults of a text.
use Rattle.std.proofs.Common.{◌≡◌, ℕ, Bool, true, false, cond, List, [], ◌∷◌, Option, Some, None, Ok, Err, IfErr, take, drop, length, ◌+◌, leb}
use Rattle.std.proofs.lemmas.Result.{IfErr-at_err}
use Rattle.mm_text.specs.declared.profile.Profile.{Profile}
use Rattle.mm_text.specs.declared.reading.banner.Banner.{Banner}
use Rattle.mm_text.specs.declared.reading.banner.Field.{Field}
use Rattle.mm_text.specs.declared.reading.banner.Field.TheVariants as field
use Rattle.mm_text.specs.declared.reading.banner.Kind.{Kind}
use Rattle.mm_text.specs.declared.reading.banner.Kind.TheVariants as kind
use Rattle.mm_text.specs.declared.reading.banner.Symmetry.{Symmetry}
use Rattle.mm_text.specs.declared.reading.banner.Symmetry.TheVariants as symmetry
use Rattle.mm_text.specs.declared.reading.entries.Cell.{Cell}
use Rattle.mm_text.specs.declared.fault.MmFault.{MmFault}
use Rattle.mm_text.specs.declared.fault.MmFault.TheVariants.{ReadFault, NoBanner, BadBanner, WrongForm, BadSize, NotSquare, TooManyEntries, BadLine, OutOfRange, SkewDiagonal, NumberTooWide, TooFew, Extra, TooLong}
use Rattle.mm_text.specs.declared.file_data.Form.{Form}
use Rattle.mm_text.specs.declared.file_data.Form.TheVariants as form
use Rattle.mm_text.specs.declared.file_data.Line.{Line}
use Rattle.mm_text.specs.declared.file_data.Mirror.{Mirror}
use Rattle.mm_text.specs.declared.reading.sizes.Sizes.{Sizes}
use Rattle.mm_text.specs.Banner.{banner_of, field_named, form_named, kind_of, mirror_of, banner_named, object_named, same_form, banner_supported, symmetry_named}
use Rattle.mm_text.specs.Entries.{dense_number, entries_of, entry_by, entry_of, narrow, pattern_cell, entry_placed, valued_cell}
use Rattle.mm_text.specs.Lines.{Text, four_words, kept_from, lines_of, words_of}
use Rattle.mm_text.specs.Outcomes.{IsTextFault, Outcome, ◌>>=◌, at_end, or_fault}
use Rattle.mm_text.specs.Reading.{body_of, complete, entries_in, lines_read, no_more, reading, file_sized}
use Rattle.mm_text.specs.Sizes.{sizes_announced, sizes_limited, sizes_of}
use Rattle.mm_text.specs.declared.reading.numerals.Number.{Number}
use Rattle.mm_text.specs.declared.reading.numerals.Number.TheVariants.{Value, TooWide}

record Fits {A : Type 0} (r : Outcome A) : Type 0 where
  holds : IfErr r IsTextFault

ok : {A : Type 0} (x : A) → Fits {A = A} (Ok x)
ok x = record { holds = tt }

bad : {A : Type 0} (fault : MmFault) → IsTextFault fault → Fits {A = A} (Err fault)
bad fault h = record { holds = h }

then_fits : {A B : Type 0} → (r : Outcome A) (next : A → Outcome B) → Fits r → ((x : A) → Fits (next x)) → Fits (r >>= next)
then_fits (Ok x) next h more = more x
then_fits (Err fault) next h more = record { holds = h.holds }

or_fits : {A : Type 0} → (fault : MmFault) (o : Option A) → IsTextFault fault → Fits (or_fault fault o)
or_fits fault (Some x) h = ok x
or_fits fault None h = bad fault h

cond_fits : {A : Type 0} → (b : Bool) (x y : Outcome A) → Fits x → Fits y → Fits (cond b x y)
cond_fits true x y h k = h
cond_fits false x y h k = k

at_end_fits : {A : Type 0} → (whole : Bool) (r : Outcome A) → Fits r → Fits (at_end whole r)
at_end_fits true r h = h
at_end_fits false r h = bad TooLong tt

kind_fits : (f : Form) (fd : Field) → Fits (kind_of f fd)
kind_fits form.Coordinate field.Real = record { holds = tt }
kind_fits form.Coordinate field.Integer = record { holds = tt }
kind_fits form.Coordinate field.Complex = record { holds = tt }
kind_fits form.Coordinate field.Pattern = record { holds = tt }
kind_fits form.Array field.Real = record { holds = tt }
kind_fits form.Array field.Integer = record { holds = tt }
kind_fits form.Array field.Complex = record { holds = tt }
kind_fits form.Array field.Pattern = record { holds = tt }

mirror_fits : (k : Kind) (s : Symmetry) → Fits (mirror_of k s)
mirror_fits kind.Valued symmetry.General = record { holds = tt }
mirror_fits kind.Valued symmetry.Symmetric = record { holds = tt }
mirror_fits kind.Valued symmetry.SkewSymmetric = record { holds = tt }
mirror_fits kind.Valued symmetry.Hermitian = record { holds = tt }
mirror_fits kind.Pattern symmetry.General = record { holds = tt }
mirror_fits kind.Pattern symmetry.Symmetric = record { holds = tt }
mirror_fits kind.Pattern symmetry.SkewSymmetric = record { holds = tt }
mirror_fits kind.Pattern symmetry.Hermitian = record { holds = tt }
mirror_fits kind.Dense symmetry.General = record { holds = tt }
mirror_fits kind.Dense symmetry.Symmetric = record { holds = tt }
mirror_fits kind.Dense symmetry.SkewSymmetric = record { holds = tt }
mirror_fits kind.Dense symmetry.Hermitian = record { holds = tt }

supported_fits : (want f : Form) (fd : Field) (s : Symmetry) → Fits (banner_supported want f fd s)
supported_fits want f fd s =
    then_fits (kind_of f fd) _ (kind_fits f fd) (λ k. then_fits (mirror_of k s) _ (mirror_fits k s) (λ m. cond_fits (same_form want f) _ _ (ok _) (bad WrongForm tt)))

named_fits : (want : Form) (w : Text × Text × Text × Text) → Fits (banner_named want w)
named_fits want w =
    then_fits (or_fault BadBanner (object_named w.0)) _ (or_fits BadBanner (object_named w.0) tt) (λ o.
    then_fits (or_fault BadBanner (form_named w.1)) _ (or_fits BadBanner (form_named w.1) tt) (λ f.
    then_fits (or_fault BadBanner (field_named w.2)) _ (or_fits BadBanner (field_named w.2) tt) (λ fd.
    then_fits (or_fault BadBanner (symmetry_named w.3)) _ (or_fits BadBanner (symmetry_named w.3) tt) (λ s.
    supported_fits want f fd s))))

banner_fits : (want : Form) (words : List Text) → Fits (banner_of want words)
banner_fits want [] = bad NoBanner tt
banner_fits want (mark ∷ words) =
    cond_fits _ _ _ (then_fits (or_fault BadBanner (four_words words)) (banner_named want) (or_fits BadBanner (four_words words) tt) (named_fits want)) (bad NoBanner tt)

limited_fits : (m : Mirror) (profile : Profile) (s : Sizes) → Fits (sizes_limited m profile s)
limited_fits m profile s = cond_fits _ _ _ (bad BadSize tt) (cond_fits _ _ _ (bad NotSquare tt) (cond_fits _ _ _ (bad TooManyEntries tt) (ok s)))

sizes_fits : (banner : Banner) (profile : Profile) (words : List Text) → Fits (sizes_of banner profile words)
sizes_fits banner profile words =
    then_fits (or_fault BadSize (sizes_announced banner.kind words)) _ (or_fits BadSize (sizes_announced banner.kind words) tt) (limited_fits banner.mirror profile)

narrow_fits : (number row col : ℕ) (value : Number) → Fits (narrow number row col value)
narrow_fits number row col (Value value) = ok _
narrow_fits number row col TooWide = bad (NumberTooWide number) tt

placed_fits : (m : Mirror) (s : Sizes) (number : ℕ) (c : Cell) → Fits (entry_placed m s number c)
placed_fits m s number c = cond_fits _ _ _ (bad (OutOfRange number) tt) (cond_fits _ _ _ (bad (SkewDiagonal number) tt) (narrow_fits number _ _ c.number))

entry_by_fits : (k : Kind) (m : Mirror) (s : Sizes) (number at : ℕ) (words : List Text) → Fits (entry_by k m s number at words)
entry_by_fits kind.Valued m s number at words =
    then_fits (or_fault (BadLine number) (valued_cell words)) (entry_placed m s number) (or_fits (BadLine number) (valued_cell words) tt) (placed_fits m s number)
entry_by_fits kind.Pattern m s number at words =
    then_fits (or_fault (BadLine number) (pattern_cell words)) (entry_placed m s number) (or_fits (BadLine number) (pattern_cell words) tt) (placed_fits m s number)
entry_by_fits kind.Dense m s number at words =
    then_fits (or_fault (BadLine number) (dense_number words)) _ (or_fits (BadLine number) (dense_number words) tt) (narrow_fits number _ _)

entries_fit : (banner : Banner) (s : Sizes) (at : ℕ) (lines : List (ℕ × Text)) → Fits (entries_of banner s at lines)
entries_fit banner s at [] = ok []
entries_fit banner s at (line ∷ lines) =
    then_fits (entry_of banner s line.0 at (words_of line.1)) _ (entry_by_fits banner.kind banner.mirror s line.0 at (words_of line.1)) (λ entry.
    then_fits (entries_of banner s (at + 1) lines) _ (entries_fit banner s (at + 1) lines) (λ entries. ok _))

no_more_fits : (whole : Bool) (found : List Line) (rest : List (ℕ × Text)) → Fits (no_more whole found rest)
no_more_fits whole found [] = at_end_fits whole (Ok found) (ok found)
no_more_fits whole found (line ∷ rest) = bad (Extra line.0) tt

complete_fits : (whole : Bool) (count : ℕ) (found : List Line) (rest : List (ℕ × Text)) → Fits (complete whole count found rest)
complete_fits whole count found rest = cond_fits _ _ _ (at_end_fits whole _ (bad (TooFew _) tt)) (no_more_fits whole found rest)

body_fits : (whole : Bool) (banner : Banner) (s : Sizes) (lines : List (ℕ × Text)) → Fits (body_of whole banner s lines)
body_fits whole banner s lines =
    then_fits (entries_in whole banner s lines) _
    (then_fits (entries_of banner s 0 (take s.count lines)) _ (entries_fit banner s 0 (take s.count lines)) (λ found. complete_fits whole s.count found (drop s.count lines)))
    (λ entries. ok _)

sized_fits : (whole : Bool) (profile : Profile) (banner : Banner) (lines : List (ℕ × Text)) → Fits (file_sized whole profile banner lines)
sized_fits whole profile banner [] = at_end_fits whole _ (bad BadSize tt)
sized_fits whole profile banner (line ∷ lines) =
    then_fits (sizes_of banner profile (words_of line.1)) _ (sizes_fits banner profile (words_of line.1)) (λ s. body_fits whole banner s lines)

lines_fit : (whole : Bool) (profile : Profile) (lines : List Text) → Fits (lines_read whole profile lines)
lines_fit whole profile [] = at_end_fits whole _ (bad NoBanner tt)
lines_fit whole profile (first ∷ lines) =
    then_fits (banner_of profile.form (words_of first)) _ (banner_fits profile.form (words_of first)) (λ banner. sized_fits whole profile banner (kept_from 2 lines))

-- each fault of a text is one of a text
pub reading_fits : (profile : Profile) (text : Text) → IfErr (reading profile text) IsTextFault
unfolding reading
reading_fits profile text = (lines_fit (leb (length text) profile.bytes) profile (lines_of (leb (length text) profile.bytes) (take profile.bytes text))).holds

pub no_read_fault : (profile : Profile) (text : Text) → reading profile text ≡ Err ReadFault → ⊥
no_read_fault profile text e = IfErr-at_err IsTextFault e (reading_fits profile text)
