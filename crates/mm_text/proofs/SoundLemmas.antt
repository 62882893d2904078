-- What holds of every file that is read.
use Rattle.std.proofs.Common.{◌≡◌, ◌≢◌, ℕ, ◌+◌, ◌*◌, ◌/◌, ◌%◌, ◌<◌, ◌≤◌, Bool, true, false, not, ◌||◌, ◌&&◌, eqb, ltb, List, [], ◌∷◌, length, get_or, take, drop, Option, Some, None, IfSome, option_and_then, unsigned_abs, leb, zero, suc, Ok, Err, refl, sym, ◌∙◌, subst, arith}
use Rattle.std.proofs.Math.Nat.{div-lt_iff_lt-mul, mul_comm, zero-mul}
use Rattle.std.proofs.lemmas.Bool.Decides.{nat_tests}
use Rattle.std.proofs.lemmas.List.{length-take}
use Rattle.std.proofs.lemmas.Result.{IfOk-at_ok}
use Rattle.mm_text.specs.declared.profile.Profile.{Profile}
use Rattle.mm_text.specs.Limits.{widest}
use Rattle.mm_text.specs.declared.reading.banner.Banner.{Banner}
use Rattle.mm_text.specs.declared.reading.banner.Field.{Field}
use Rattle.mm_text.specs.declared.reading.banner.Field.TheVariants as field
use Rattle.mm_text.specs.declared.reading.banner.Kind.{Kind}
use Rattle.mm_text.specs.declared.reading.banner.Kind.TheVariants as kind
use Rattle.mm_text.specs.declared.reading.banner.Symmetry.{Symmetry}
use Rattle.mm_text.specs.declared.reading.banner.Symmetry.TheVariants as symmetry
use Rattle.mm_text.specs.declared.fault.MmFault.TheVariants.{BadBanner, BadSize, NoBanner, NotSquare, Extra, TooLong, TooFew, TooManyEntries, WrongForm}
use Rattle.mm_text.specs.declared.file_data.Form.{Form}
use Rattle.mm_text.specs.declared.file_data.Form.TheVariants as form
use Rattle.mm_text.specs.declared.file_data.Line.{Line}
use Rattle.mm_text.specs.declared.file_data.Mirror.{Mirror}
use Rattle.mm_text.specs.declared.file_data.Mirror.TheVariants as mirror
use Rattle.mm_text.specs.declared.reading.sizes.Sizes.{Sizes}
use Rattle.mm_text.specs.Banner.{banner_of, field_named, form_named, kind_of, mirror_of, banner_named, object_named, banner_supported, symmetry_named}
use Rattle.mm_text.specs.Entries.{entries_of}
use Rattle.mm_text.specs.Lines.{Text, four_words, two_words, kept_from, lines_of, words_of}
use Rattle.mm_text.specs.Numerals.{count_of}
use Rattle.mm_text.specs.Outcomes.{Outcome, at_end, or_fault}
use Rattle.mm_text.specs.Reading.{File, body_of, complete, entries_in, lines_read, no_more, reading, file_sized}
use Rattle.mm_text.specs.Sizes.{sizes_announced, array_sizes_announced, array_sizes, is_plain, sizes_limited, sizes_of}
use Rattle.mm_text.specs.Sound.{IsSound, KeepsLimits}
use Rattle.mm_text.proofs.EntrySoundLemmas.{AreEntries, Good, IsEntryBy, entries_good, good_bad, good_cond, good_ok, good_then, good_weaker}

any_good : {A : Type 0} (r : Outcome A) → Good (λ _. Unit {0}) r
any_good (Ok x) = good_ok (λ _. Unit {0}) x tt
any_good (Err fault) = good_bad (λ _. Unit {0}) fault

-- a banner in the form that is wanted
record FitsForm (want : Form) (banner : Banner) : Type 0 where
  dense : want ≡ form.Array → banner.kind ≡ kind.Dense
  plain : banner.kind ≡ kind.Dense → banner.mirror ≡ mirror.Plain

supported_good : (want f : Form) (fd : Field) (s : Symmetry) → Good (FitsForm want) (banner_supported want f fd s)
supported_good form.Coordinate form.Coordinate field.Integer symmetry.General = good_ok (FitsForm form.Coordinate) _ (record { dense = λ e. absurd (cc); plain = λ e. absurd (cc) })
supported_good form.Coordinate form.Coordinate field.Integer symmetry.Symmetric = good_ok (FitsForm form.Coordinate) _ (record { dense = λ e. absurd (cc); plain = λ e. absurd (cc) })
supported_good form.Coordinate form.Coordinate field.Integer symmetry.SkewSymmetric = good_ok (FitsForm form.Coordinate) _ (record { dense = λ e. absurd (cc); plain = λ e. absurd (cc) })
supported_good form.Coordinate form.Coordinate field.Integer symmetry.Hermitian = record { holds = tt }
supported_good form.Coordinate form.Coordinate field.Pattern symmetry.General = good_ok (FitsForm form.Coordinate) _ (record { dense = λ e. absurd (cc); plain = λ e. absurd (cc) })
supported_good form.Coordinate form.Coordinate field.Pattern symmetry.Symmetric = good_ok (FitsForm form.Coordinate) _ (record { dense = λ e. absurd (cc); plain = λ e. absurd (cc) })
supported_good form.Coordinate form.Coordinate field.Pattern symmetry.SkewSymmetric = record { holds = tt }
supported_good form.Coordinate form.Coordinate field.Pattern symmetry.Hermitian = record { holds = tt }
supported_good form.Coordinate form.Coordinate field.Real s = record { holds = tt }
supported_good form.Coordinate form.Coordinate field.Complex s = record { holds = tt }
supported_good form.Array form.Array field.Integer symmetry.General = good_ok (FitsForm form.Array) _ (record { dense = λ e. refl; plain = λ e. refl })
supported_good form.Array form.Array field.Integer symmetry.Symmetric = record { holds = tt }
supported_good form.Array form.Array field.Integer symmetry.SkewSymmetric = record { holds = tt }
supported_good form.Array form.Array field.Integer symmetry.Hermitian = record { holds = tt }
supported_good form.Array form.Array field.Real s = record { holds = tt }
supported_good form.Array form.Array field.Complex s = record { holds = tt }
supported_good form.Array form.Array field.Pattern s = record { holds = tt }
supported_good form.Coordinate form.Array fd s =
    good_then _ (FitsForm form.Coordinate) (kind_of form.Array fd) _ (any_good _) (λ k _. good_then _ (FitsForm form.Coordinate) (mirror_of k s) _ (any_good _) (λ m _. good_bad (FitsForm form.Coordinate) WrongForm))
supported_good form.Array form.Coordinate fd s =
    good_then _ (FitsForm form.Array) (kind_of form.Coordinate fd) _ (any_good _) (λ k _. good_then _ (FitsForm form.Array) (mirror_of k s) _ (any_good _) (λ m _. good_bad (FitsForm form.Array) WrongForm))

named_good : (want : Form) (w : Text × Text × Text × Text) → Good (FitsForm want) (banner_named want w)
named_good want w =
    good_then _ (FitsForm want) (or_fault BadBanner (object_named w.0)) _ (any_good _) (λ o _.
    good_then _ (FitsForm want) (or_fault BadBanner (form_named w.1)) _ (any_good _) (λ f _.
    good_then _ (FitsForm want) (or_fault BadBanner (field_named w.2)) _ (any_good _) (λ fd _.
    good_then _ (FitsForm want) (or_fault BadBanner (symmetry_named w.3)) _ (any_good _) (λ s _.
    supported_good want f fd s))))

banner_good : (want : Form) (words : List Text) → Good (FitsForm want) (banner_of want words)
banner_good want [] = good_bad (FitsForm want) NoBanner
banner_good want (mark ∷ words) =
    good_cond (FitsForm want) _ _ _ (λ _. good_then _ (FitsForm want) (or_fault BadBanner (four_words words)) (banner_named want) (any_good _) (λ w _. named_good want w))
    (λ _. good_bad (FitsForm want) NoBanner)

-- sizes within the limits
pub record FitsSizes (m : Mirror) (profile : Profile) (s : Sizes) : Type 0 where
  pub rows : s.rows ≤ profile.rows
  pub cols : s.cols ≤ profile.cols
  pub count : s.count ≤ profile.entries
  pub square : m ≢ mirror.Plain → s.rows ≡ s.cols

either : (most k rows cols : ℕ) → (ltb most rows || ltb k cols) ≡ false → (rows ≤ most) × (cols ≤ k)
either most k rows cols e = grind (arith, nat_tests)

below : (room n : ℕ) → ltb room n ≡ false → n ≤ room
below room n e = grind (arith, nat_tests)

squared : (m : Mirror) (x y : ℕ) → (not (is_plain m) && not (eqb x y)) ≡ false → m ≢ mirror.Plain → x ≡ y
squared mirror.Plain x y e h = absurd (h refl)
squared mirror.Same x y e h = grind (arith, nat_tests)
squared mirror.Negated x y e h = grind (arith, nat_tests)

limited_good : (m : Mirror) (profile : Profile) (s : Sizes) (P : Sizes → Type 0) → P s → Good (λ t. FitsSizes m profile t × P t) (sizes_limited m profile s)
limited_good m profile s P p =
    good_cond (λ t. FitsSizes m profile t × P t) (ltb profile.rows s.rows || ltb profile.cols s.cols) _ _ (λ _. good_bad (λ t. FitsSizes m profile t × P t) BadSize) (λ a.
    good_cond (λ t. FitsSizes m profile t × P t) (not (is_plain m) && not (eqb s.rows s.cols)) _ _ (λ _. good_bad (λ t. FitsSizes m profile t × P t) NotSquare) (λ b.
    good_cond (λ t. FitsSizes m profile t × P t) (ltb profile.entries s.count) _ _ (λ _. good_bad (λ t. FitsSizes m profile t × P t) TooManyEntries) (λ c.
    good_ok (λ t. FitsSizes m profile t × P t) s (
      record {
        rows = (either profile.rows profile.cols s.rows s.cols a).0;
        cols = (either profile.rows profile.cols s.rows s.cols a).1;
        count = below profile.entries s.count c;
        square = squared m s.rows s.cols b;
      },
      p,
    ))))

-- the entries of an array file are those of all places
abbrev pub AllPlaces : Kind → Sizes → Type 0
AllPlaces k s = k ≡ kind.Dense → s.count ≡ s.rows * s.cols

array_places : (o : Option ℕ) (p : Option ℕ) → IfSome (array_sizes o p) (λ s. s.count ≡ s.rows * s.cols)
array_places (Some m) (Some n) = refl
array_places None p = tt
array_places (Some m) None = tt

then_places : (o : Option (Text × Text)) → IfSome (option_and_then (λ w. array_sizes (count_of w.0) (count_of w.1)) o) (λ s. s.count ≡ s.rows * s.cols)
then_places (Some w) = array_places (count_of w.0) (count_of w.1)
then_places None = tt

dense_places : (o : Option Sizes) → IfSome o (λ s. s.count ≡ s.rows * s.cols) → IfSome o (AllPlaces kind.Dense)
dense_places (Some s) h = λ e. h
dense_places None h = tt

other_places : (k : Kind) (o : Option Sizes) → k ≢ kind.Dense → IfSome o (AllPlaces k)
other_places k (Some s) h = λ e. absurd (h e)
other_places k None h = tt

announced_places : (k : Kind) (words : List Text) → IfSome (sizes_announced k words) (AllPlaces k)
announced_places kind.Dense words = dense_places (array_sizes_announced words) (then_places (two_words words))
announced_places kind.Valued words = other_places kind.Valued (sizes_announced kind.Valued words) (λ e. cc)
announced_places kind.Pattern words = other_places kind.Pattern (sizes_announced kind.Pattern words) (λ e. cc)

or_places : (k : Kind) (o : Option Sizes) → IfSome o (AllPlaces k) → Good (AllPlaces k) (or_fault BadSize o)
or_places k (Some s) h = good_ok (AllPlaces k) s h
or_places k None h = good_bad (AllPlaces k) BadSize

-- the sizes of a size line
pub record AreSizes (banner : Banner) (profile : Profile) (s : Sizes) : Type 0 where
  pub fits : FitsSizes banner.mirror profile s
  pub places : AllPlaces banner.kind s

pub sizes_good : (banner : Banner) (profile : Profile) (words : List Text) → Good (AreSizes banner profile) (sizes_of banner profile words)
sizes_good banner profile words =
    good_then (AllPlaces banner.kind) (AreSizes banner profile) (or_fault BadSize (sizes_announced banner.kind words)) _
    (or_places banner.kind (sizes_announced banner.kind words) (announced_places banner.kind words)) (λ s p.
    good_weaker _ (AreSizes banner profile) (sizes_limited banner.mirror profile s) (λ t h. record { fits = h.0; places = h.1 })
    (limited_good banner.mirror profile s (AllPlaces banner.kind) p))

at_end_good : {A : Type 0} (P : A → Type 0) (whole : Bool) (r : Outcome A) → Good P r → Good P (at_end whole r)
at_end_good P true r h = h
at_end_good P false r h = good_bad P TooLong

no_more_good : (whole : Bool) (entries : List Line) (rest : List (ℕ × Text)) → Good (λ all. all ≡ entries) (no_more whole entries rest)
no_more_good whole entries [] = at_end_good (λ all. all ≡ entries) whole (Ok entries) (good_ok (λ all. all ≡ entries) entries refl)
no_more_good whole entries (line ∷ rest) = good_bad (λ all. all ≡ entries) (Extra line.0)

complete_good : (whole : Bool) (count : ℕ) (entries : List Line) (rest : List (ℕ × Text))
    → Good (λ all. (all ≡ entries) × (count ≤ length entries)) (complete whole count entries rest)
complete_good whole count entries rest =
    good_cond (λ all. (all ≡ entries) × (count ≤ length entries)) (ltb (length entries) count) _ _
    (λ _. at_end_good (λ all. (all ≡ entries) × (count ≤ length entries)) whole _ (good_bad (λ all. (all ≡ entries) × (count ≤ length entries)) (TooFew (length entries))))
    (λ e. good_weaker (λ all. all ≡ entries) (λ all. (all ≡ entries) × (count ≤ length entries)) (no_more whole entries rest) (λ all h. (h, below (length entries) count e)) (no_more_good whole entries rest))

-- the entries of a file with these sizes
pub record AreAll (banner : Banner) (s : Sizes) (entries : List Line) : Type 0 where
  pub count : length entries ≡ s.count
  pub each : (k : ℕ) (d : Line) → k < length entries → IsEntryBy banner.kind banner.mirror s k (get_or entries k d)

all_of : (banner : Banner) (s : Sizes) (lines : List (ℕ × Text)) (entries : List Line) → AreEntries banner s 0 (take s.count lines) entries
    → s.count ≤ length entries → AreAll banner s entries
all_of banner s lines entries are h = record {
  count = omega (arith, are.count, length-take s.count lines);
  each = λ k d l. let same : 0 + k ≡ k = omega arith in subst (λ n. IsEntryBy banner.kind banner.mirror s n (get_or entries k d)) same (are.each k d l);
}

pub entries_in_good : (whole : Bool) (banner : Banner) (s : Sizes) (lines : List (ℕ × Text)) → Good (AreAll banner s) (entries_in whole banner s lines)
entries_in_good whole banner s lines =
    good_then (AreEntries banner s 0 (take s.count lines)) (AreAll banner s) (entries_of banner s 0 (take s.count lines)) _
    (entries_good banner s 0 (take s.count lines)) (λ entries are.
    good_weaker (λ all. (all ≡ entries) × (s.count ≤ length entries)) (AreAll banner s) (complete whole s.count entries (drop s.count lines))
    (λ all h. subst (AreAll banner s) (sym h.0) (all_of banner s lines entries are h.1))
    (complete_good whole s.count entries (drop s.count lines)))

-- a file by its banner, its sizes and its entries
dense_row : (rows cols k : ℕ) → k < rows * cols → k % rows < rows
dense_row zero cols k h = absurd (omega (arith, zero-mul cols))
dense_row (suc n) cols k h = omega arith

dense_col : (rows cols k : ℕ) → k < rows * cols → k / rows < cols
dense_col zero cols k h = absurd (omega (arith, zero-mul cols))
dense_col (suc n) cols k h = (div-lt_iff_lt-mul (omega arith)).1 (omega (arith, mul_comm (suc n) cols))

placed_cell : (k : Kind) (m : Mirror) (s : Sizes) (at : ℕ) (line : Line) → IsEntryBy k m s at line → at < s.count → AllPlaces k s
    → (line.row < s.rows) × (line.col < s.cols)
placed_cell kind.Valued m s at line is h all = (is.row, is.col)
placed_cell kind.Pattern m s at line is h all = (is.row, is.col)
placed_cell kind.Dense m s at line is h all =
    let within : at < s.rows * s.cols = omega (arith, all refl) in
    (omega (arith, is.row, dense_row s.rows s.cols at within), omega (arith, is.col, dense_col s.rows s.cols at within))

value_within : (k : Kind) (m : Mirror) (s : Sizes) (at : ℕ) (line : Line) → IsEntryBy k m s at line → unsigned_abs line.value ≤ widest
value_within kind.Valued m s at line is = is.value
value_within kind.Pattern m s at line is = is.value
value_within kind.Dense m s at line is = is.value

off_diagonal : (k : Kind) (m : Mirror) (s : Sizes) (at : ℕ) (line : Line) → IsEntryBy k m s at line → (k ≡ kind.Dense → m ≡ mirror.Plain) → m ≡ mirror.Negated
    → line.row ≢ line.col
off_diagonal kind.Valued m s at line is plain e = is.diagonal e
off_diagonal kind.Pattern m s at line is plain e = is.diagonal e
off_diagonal kind.Dense m s at line is plain e = absurd (negated_plain m (plain refl) e)
  where
    negated_plain : (m : Mirror) → m ≡ mirror.Plain → m ≡ mirror.Negated → ⊥
    negated_plain m p q = cc

dense_place : (k : Kind) (m : Mirror) (s : Sizes) (at : ℕ) (line : Line) → k ≡ kind.Dense → IsEntryBy k m s at line
    → (line.row ≡ at % s.rows) × (line.col ≡ at / s.rows)
dense_place kind.Dense m s at line e is = (is.row, is.col)
dense_place kind.Valued m s at line e is = absurd (cc)
dense_place kind.Pattern m s at line e is = absurd (cc)

abbrev file_with : Banner → Sizes → List Line → File
file_with banner s entries = record { rows = s.rows; cols = s.cols; mirror = banner.mirror; lines = entries }

-- sound data that keep the limits
pub record IsKept (profile : Profile) (file : File) : Type 0 where
  pub sound : IsSound file
  pub limits : KeepsLimits profile file

sound_of : (profile : Profile) (banner : Banner) (s : Sizes) (entries : List Line) → FitsForm profile.form banner → AreSizes banner profile s → AreAll banner s entries
    → IsKept profile (file_with banner s entries)
sound_of profile banner s entries form' sizes all = record {
  sound = record {
    places = λ k d h. placed_cell banner.kind banner.mirror s k (get_or entries k d) (all.each k d h) (omega (arith, all.count)) sizes.places;
    values = λ k d h. value_within banner.kind banner.mirror s k (get_or entries k d) (all.each k d h);
    square = sizes.fits.square;
    diagonal = λ e k d h. off_diagonal banner.kind banner.mirror s k (get_or entries k d) (all.each k d h) form'.plain e;
  };
  limits = record {
    rows = sizes.fits.rows;
    cols = sizes.fits.cols;
    count = omega (arith, all.count, sizes.fits.count);
    array = λ e. record {
      plain = form'.plain (form'.dense e);
      count = all.count ∙ sizes.places (form'.dense e);
      places = λ k d h. dense_place banner.kind banner.mirror s k (get_or entries k d) (form'.dense e) (all.each k d h);
    };
  };
}

body_good : (profile : Profile) (whole : Bool) (banner : Banner) (s : Sizes) (lines : List (ℕ × Text)) → FitsForm profile.form banner → AreSizes banner profile s
    → Good (IsKept profile) (body_of whole banner s lines)
body_good profile whole banner s lines form' sizes =
    good_then (AreAll banner s) (IsKept profile) (entries_in whole banner s lines) _ (entries_in_good whole banner s lines) (λ entries all.
    good_ok (IsKept profile) (file_with banner s entries) (sound_of profile banner s entries form' sizes all))

sized_good : (profile : Profile) (whole : Bool) (banner : Banner) (lines : List (ℕ × Text)) → FitsForm profile.form banner
    → Good (IsKept profile) (file_sized whole profile banner lines)
sized_good profile whole banner [] form' = at_end_good (IsKept profile) whole _ (good_bad (IsKept profile) BadSize)
sized_good profile whole banner (line ∷ lines) form' =
    good_then (AreSizes banner profile) (IsKept profile) (sizes_of banner profile (words_of line.1)) _ (sizes_good banner profile (words_of line.1)) (λ s sizes.
    body_good profile whole banner s lines form' sizes)

lines_good : (profile : Profile) (whole : Bool) (lines : List Text) → Good (IsKept profile) (lines_read whole profile lines)
lines_good profile whole [] = at_end_good (IsKept profile) whole _ (good_bad (IsKept profile) NoBanner)
lines_good profile whole (first ∷ lines) =
    good_then (FitsForm profile.form) (IsKept profile) (banner_of profile.form (words_of first)) _ (banner_good profile.form (words_of first)) (λ banner form'.
    sized_good profile whole banner (kept_from 2 lines) form')

-- what is read is sound, and keeps the limits
pub reading_kept : (profile : Profile) (text : Text) (file : File) → reading profile text ≡ Ok file → IsKept profile file
unfolding reading
reading_kept profile text file e =
    IfOk-at_ok (IsKept profile) e (lines_good profile (leb (length text) profile.bytes) (lines_of (leb (length text) profile.bytes) (take profile.bytes text))).holds
