-- A text that was read is read again by another profile.
use Rattle.std.proofs.Common.{◌≡◌, ◌≢◌, ◌≤◌, arith, ℕ, Bool, true, false, cond, not, ◌||◌, ◌&&◌, eqb, ltb, leb, List, [], ◌∷◌, length, take, Result, Ok, Err, IfErr, IfOk, inl, inr, refl, sym, ap, ◌∙◌, subst}
use Rattle.std.proofs.lemmas.Bool.Decides.{nat_tests}
use Rattle.std.proofs.lemmas.Result.{IfOk-at_ok}
use Rattle.mm_text.specs.declared.profile.Profile.{Profile}
use Rattle.mm_text.specs.declared.reading.banner.Banner.{Banner}
use Rattle.mm_text.specs.declared.reading.banner.Field.{Field}
use Rattle.mm_text.specs.declared.reading.banner.Symmetry.{Symmetry}
use Rattle.mm_text.specs.declared.fault.MmFault.{MmFault}
use Rattle.mm_text.specs.declared.fault.MmFault.TheVariants.{BadBanner, BadSize, NoBanner, NotSquare, ReadFault, TooManyEntries, WrongForm}
use Rattle.mm_text.specs.declared.file_data.FileData.{FileData}
use Rattle.mm_text.specs.declared.file_data.Form.{Form}
use Rattle.mm_text.specs.declared.file_data.Form.TheVariants as form
use Rattle.mm_text.specs.declared.file_data.Mirror.{Mirror}
use Rattle.mm_text.specs.declared.reading.sizes.Sizes.{Sizes}
use Rattle.mm_text.specs.Banner.{banner_of, banner_named, banner_supported, field_named, form_named, kind_of, mirror_of, object_named, same_form, symmetry_named}
use Rattle.mm_text.specs.Lines.{Text, four_words, kept_from, lines_of, words_of}
use Rattle.mm_text.specs.Outcomes.{Gives, Outcome, ◌>>=◌, at_end, or_fault}
use Rattle.mm_text.specs.ReadAgain.{read_again, within_limits}
use Rattle.mm_text.specs.Reading.{File, body_of, entries_in, file_of, file_sized, lines_read, reading}
use Rattle.mm_text.specs.Sizes.{is_plain, sizes_announced, sizes_limited, sizes_of}
use Rattle.mm_text.proofs.EntrySoundLemmas.{good_ok, good_then}
use Rattle.mm_text.proofs.SoundLemmas.{AreAll, entries_in_good}

-- where both go on from the same first answer
then_again : {A B C : Type 0} (change : B → Outcome C) (r : Outcome A) (next : A → Outcome B) (next' : A → Outcome C)
    → ((x : A) (y : B) → next x ≡ Ok y → next' x ≡ change y) → (y : B) → (r >>= next) ≡ Ok y → (r >>= next') ≡ change y
then_again change (Ok x) next next' h y e = h x y e
then_again change (Err fault) next next' h y e = absurd (cc)

-- the banner, where it has the form that is wanted
abbrev banner_again : Form → Form → Banner → Outcome Banner
banner_again want want' banner = cond (same_form want' want) (Ok banner) (Err WrongForm)

form_again : (want want' f : Form) (x b : Banner) → cond (same_form want f) (Ok x) (Err WrongForm) ≡ Ok b
    → cond (same_form want' f) (Ok x) (Err WrongForm) ≡ banner_again want want' b
form_again form.Coordinate want' form.Coordinate x b e = let same : x ≡ b = cc in ap (λ (y : Banner). banner_again form.Coordinate want' y) same
form_again form.Array want' form.Array x b e = let same : x ≡ b = cc in ap (λ (y : Banner). banner_again form.Array want' y) same
form_again form.Coordinate want' form.Array x b e = absurd (cc)
form_again form.Array want' form.Coordinate x b e = absurd (cc)

supported_again : (want want' f : Form) (fd : Field) (s : Symmetry) (b : Banner) → banner_supported want f fd s ≡ Ok b
    → banner_supported want' f fd s ≡ banner_again want want' b
supported_again want want' f fd s =
    then_again (banner_again want want') (kind_of f fd) _ _ (λ k.
    then_again (banner_again want want') (mirror_of k s) _ _ (λ m b e. form_again want want' f _ b e))

named_again : (want want' : Form) (w : Text × Text × Text × Text) (b : Banner) → banner_named want w ≡ Ok b
    → banner_named want' w ≡ banner_again want want' b
named_again want want' w =
    then_again (banner_again want want') (or_fault BadBanner (object_named w.0)) _ _ (λ o.
    then_again (banner_again want want') (or_fault BadBanner (form_named w.1)) _ _ (λ f.
    then_again (banner_again want want') (or_fault BadBanner (field_named w.2)) _ _ (λ fd.
    then_again (banner_again want want') (or_fault BadBanner (symmetry_named w.3)) _ _ (λ s b e.
    supported_again want want' f fd s b e))))

marked_again : (marked : Bool) (r r' : Outcome Banner) (want want' : Form) (b : Banner) → (r ≡ Ok b → r' ≡ banner_again want want' b)
    → cond marked r (Err NoBanner) ≡ Ok b → cond marked r' (Err NoBanner) ≡ banner_again want want' b
marked_again true r r' want want' b h e = h e
marked_again false r r' want want' b h e = absurd (cc)

banner_of_again : (want want' : Form) (words : List Text) (b : Banner) → banner_of want words ≡ Ok b
    → banner_of want' words ≡ banner_again want want' b
banner_of_again want want' [] b e = absurd (cc)
banner_of_again want want' (mark ∷ words) b e =
    marked_again _ (or_fault BadBanner (four_words words) >>= banner_named want) (or_fault BadBanner (four_words words) >>= banner_named want') want want' b
    (then_again (banner_again want want') (or_fault BadBanner (four_words words)) (banner_named want) (banner_named want') (λ w c h. named_again want want' w c h) b)
    e

-- the sizes, where they keep the other limits; a file that is square once is square again
abbrev sizes_again : Profile → Sizes → Outcome Sizes
sizes_again profile s = within_limits profile s.rows s.cols s.count s

kept_sizes : (a b c : Bool) (s t : Sizes) → cond a (Err BadSize) (cond b (Err NotSquare) (cond c (Err TooManyEntries) (Ok s))) ≡ Ok t
    → (s ≡ t) × (b ≡ false)
kept_sizes true b c s t e = absurd (cc)
kept_sizes false true c s t e = absurd (cc)
kept_sizes false false true s t e = absurd (cc)
kept_sizes false false false s t e = let same : s ≡ t = cc in (same, refl)

limited_again : (m : Mirror) (p q : Profile) (s t : Sizes) → sizes_limited m p s ≡ Ok t → sizes_limited m q s ≡ sizes_again q t
limited_again m p q s t e =
    let kept = kept_sizes (ltb p.rows s.rows || ltb p.cols s.cols) (not (is_plain m) && not (eqb s.rows s.cols)) (ltb p.entries s.count) s t e in
    ap (λ b. cond (ltb q.rows s.rows || ltb q.cols s.cols) (Err BadSize) (cond b (Err NotSquare) (cond (ltb q.entries s.count) (Err TooManyEntries) (Ok s)))) kept.1
    ∙ ap (λ (x : Sizes). sizes_again q x) kept.0

sizes_of_again : (b : Banner) (p q : Profile) (words : List Text) (s : Sizes) → sizes_of b p words ≡ Ok s → sizes_of b q words ≡ sizes_again q s
sizes_of_again b p q words =
    then_again (sizes_again q) (or_fault BadSize (sizes_announced b.kind words)) _ _ (λ s t e. limited_again b.mirror p q s t e)

-- a file has the sizes that were announced
record HasSizes (s : Sizes) (file : File) : Type 0 where
  rows : s.rows ≡ file.rows
  cols : s.cols ≡ file.cols
  count : s.count ≡ length file.lines

body_sizes : (whole : Bool) (b : Banner) (s : Sizes) (lines : List (ℕ × Text)) (file : File) → body_of whole b s lines ≡ Ok file → HasSizes s file
body_sizes whole b s lines file e =
    IfOk-at_ok (HasSizes s) e
    (good_then (AreAll b s) (HasSizes s) (entries_in whole b s lines) _ (entries_in_good whole b s lines)
    (λ entries all. good_ok (HasSizes s) _ (record { rows = refl; cols = refl; count = sym all.count }))).holds

then_within : (q : Profile) (s : Sizes) (next : Sizes → Outcome File) (file : File) → next s ≡ Ok file
    → (within_limits q s.rows s.cols s.count s >>= next) ≡ within_limits q s.rows s.cols s.count file
then_within q s next file e = cases (ltb q.rows s.rows || ltb q.cols s.cols) (ltb q.entries s.count)
  where
    cases : (a c : Bool) → (cond a (Err BadSize) (cond c (Err TooManyEntries) (Ok s)) >>= next) ≡ cond a (Err BadSize) (cond c (Err TooManyEntries) (Ok file))
    cases true c = refl
    cases false true = refl
    cases false false = e

within_same : (q : Profile) (s : Sizes) (file : File) → HasSizes s file
    → within_limits q s.rows s.cols s.count file ≡ within_limits q file.rows file.cols (length file.lines) file
within_same q s file is =
    ap (λ n. within_limits q n s.cols s.count file) is.rows
    ∙ ap (λ n. within_limits q file.rows n s.count file) is.cols
    ∙ ap (λ n. within_limits q file.rows file.cols n file) is.count

-- the file, where it keeps the other limits
abbrev file_again : Profile → File → Outcome File
file_again q file = within_limits q file.rows file.cols (length file.lines) file

sized_line_again : (q : Profile) (r r' : Outcome Sizes) (next : Sizes → Outcome File)
    → ((s : Sizes) → r ≡ Ok s → r' ≡ sizes_again q s) → ((s : Sizes) (file : File) → next s ≡ Ok file → HasSizes s file)
    → (file : File) → (r >>= next) ≡ Ok file → (r' >>= next) ≡ file_again q file
sized_line_again q (Ok s) r' next sizes has file e =
    ap (λ (o : Outcome Sizes). o >>= next) (sizes s refl) ∙ then_within q s next file e ∙ within_same q s file (has s file e)
sized_line_again q (Err fault) r' next sizes has file e = absurd (cc)

none_at_end : (whole : Bool) (fault : MmFault) (file : File) (P : Type 0) → at_end whole (Err fault) ≡ Ok file → P
none_at_end true fault file P e = absurd (cc)
none_at_end false fault file P e = absurd (cc)

sized_again : (whole : Bool) (p q : Profile) (b : Banner) (lines : List (ℕ × Text)) (file : File) → file_sized whole p b lines ≡ Ok file
    → file_sized whole q b lines ≡ file_again q file
sized_again whole p q b [] file e = none_at_end whole BadSize file _ e
sized_again whole p q b (line ∷ lines) file e =
    sized_line_again q (sizes_of b p (words_of line.1)) (sizes_of b q (words_of line.1)) (λ s. body_of whole b s lines)
    (λ s h. sizes_of_again b p q (words_of line.1) s h) (λ s f h. body_sizes whole b s lines f h) file e

banner_line_again : (p q : Profile) (r r' : Outcome Banner) (next next' : Banner → Outcome File)
    → ((b : Banner) → r ≡ Ok b → r' ≡ banner_again p.form q.form b) → ((b : Banner) (file : File) → next b ≡ Ok file → next' b ≡ file_again q file)
    → (file : File) → (r >>= next) ≡ Ok file → (r' >>= next') ≡ read_again p.form q file
banner_line_again p q (Ok b) r' next next' banner sized file e =
    ap (λ (o : Outcome Banner). o >>= next') (banner b refl) ∙ cases (same_form q.form p.form)
  where
    cases : (same : Bool) → (cond same (Ok b) (Err WrongForm) >>= next') ≡ cond same (file_again q file) (Err WrongForm)
    cases true = sized b file e
    cases false = refl
banner_line_again p q (Err fault) r' next next' banner sized file e = absurd (cc)

lines_again : (whole : Bool) (p q : Profile) (lines : List Text) (file : File) → lines_read whole p lines ≡ Ok file
    → lines_read whole q lines ≡ read_again p.form q file
lines_again whole p q [] file e = none_at_end whole NoBanner file _ e
lines_again whole p q (first ∷ lines) file e =
    banner_line_again p q (banner_of p.form (words_of first)) (banner_of q.form (words_of first))
    (λ b. file_sized whole p b (kept_from 2 lines)) (λ b. file_sized whole q b (kept_from 2 lines))
    (λ b h. banner_of_again p.form q.form (words_of first) b h) (λ b f h. sized_again whole p q b (kept_from 2 lines) f h) file e

pub texts-are_read_again : (p q : Profile) (text : Text) (file : File) → p.bytes ≡ q.bytes → reading p text ≡ Ok file
    → reading q text ≡ read_again p.form q file
unfolding reading
texts-are_read_again p q text file same e =
    ap (λ n. lines_read (leb (length text) n) q (lines_of (leb (length text) n) (take n text))) (sym same)
    ∙ lines_again (leb (length text) p.bytes) p q (lines_of (leb (length text) p.bytes) (take p.bytes text)) file e

-- What is answered for a file is what its text is read as, and no fault of a read.
module _ (p q : Profile) (file : File) (r : Result FileData MmFault) (is : Gives file_of r (read_again p.form q file)) where
  pub gives-of_text : (text : Text) → p.bytes ≡ q.bytes → reading p text ≡ Ok file → Gives file_of r (reading q text)
  gives-of_text text same e = subst (Gives file_of r) (sym (texts-are_read_again p q text file same e)) is

again_unread : (same a c : Bool) (file : File) → cond same (cond a (Err BadSize) (cond c (Err TooManyEntries) (Ok file))) (Err WrongForm) ≡ Err ReadFault → ⊥
again_unread true true c file e = cc
again_unread true false true file e = cc
again_unread true false false file e = cc
again_unread false a c file e = cc

pub again-no_read : (form : Form) (q : Profile) (file : File) (r : Result FileData MmFault) → Gives file_of r (read_again form q file)
    → IfErr r (λ fault. fault ≢ ReadFault)
again-no_read form q file (Ok found) is = tt
again-no_read form q file (Err fault) is = λ e.
    elim is [
      | inl memory ↦ absurd (cc)
      | inr h ↦ again_unread (same_form q.form form) (ltb q.rows file.rows || ltb q.cols file.cols) (ltb q.entries (length file.lines)) file (h ∙ ap Err e)
    ]

-- what is answered has at most so many entries
again_within : (same a c : Bool) (file found : File) (room : ℕ) → ltb room (length file.lines) ≡ c
    → cond same (cond a (Err BadSize) (cond c (Err TooManyEntries) (Ok file))) (Err WrongForm) ≡ Ok found → length found.lines ≤ room
again_within true true c file found room t e = absurd (cc)
again_within true false true file found room t e = absurd (cc)
again_within true false false file found room t e =
    let is : file ≡ found = cc in
    subst (λ (f : File). length f.lines ≤ room) is (fits (length file.lines) room t)
  where
    fits : (n room : ℕ) → ltb room n ≡ false → n ≤ room
    fits n room t = grind (arith, nat_tests)
again_within false a c file found room t e = absurd (cc)

pub again-room : (form : Form) (q : Profile) (file : File) (r : Result FileData MmFault) → Gives file_of r (read_again form q file)
    → IfOk r (λ found. length found.lines.items ≤ q.entries)
again-room form q file (Ok found) is =
    again_within (same_form q.form form) (ltb q.rows file.rows || ltb q.cols file.cols) (ltb q.entries (length file.lines)) file (file_of found) q.entries refl is
again-room form q file (Err fault) is = tt
