-- What holds of each entry that is read.
use Rattle.std.proofs.Common.{◌≡◌, ◌≢◌, ℕ, ℤ, pos, suc, zero, ◌+◌, ◌-◌, ◌/◌, ◌%◌, ◌<◌, ◌≤◌, Bool, true, false, cond, ◌||◌, ◌&&◌, eqb, ltb, List, [], ◌∷◌, length, get_or, Option, Some, None, IfSome, Ok, Err, IfOk, option_map, option_and_then, unsigned_abs, refl, subst, arith}
use Rattle.std.proofs.lemmas.Bool.Decides.{nat_tests}
use Rattle.mm_text.specs.Limits.{widest}
use Rattle.mm_text.specs.declared.reading.banner.Banner.{Banner}
use Rattle.mm_text.specs.declared.reading.banner.Kind.{Kind}
use Rattle.mm_text.specs.declared.reading.banner.Kind.TheVariants.{Valued, Pattern, Dense}
use Rattle.mm_text.specs.declared.reading.entries.Cell.{Cell}
use Rattle.mm_text.specs.declared.fault.MmFault.{MmFault}
use Rattle.mm_text.specs.declared.fault.MmFault.TheVariants.{BadLine}
use Rattle.mm_text.specs.declared.file_data.Line.{Line}
use Rattle.mm_text.specs.declared.file_data.Mirror.{Mirror}
use Rattle.mm_text.specs.declared.file_data.Mirror.TheVariants.{Negated}
use Rattle.mm_text.specs.declared.reading.sizes.Sizes.{Sizes}
use Rattle.mm_text.specs.Entries.{all_three, dense_number, entries_of, entry_by, entry_of, is_negated, is_out, narrow, pattern_cell, entry_placed, valued_cell}
use Rattle.mm_text.specs.Lines.{Text, one_word, three_words, two_words, words_of}
use Rattle.mm_text.specs.Numerals.{count_of, in_width, value_of}
use Rattle.mm_text.specs.Outcomes.{Outcome, ◌>>=◌, or_fault}
use Rattle.mm_text.specs.declared.reading.numerals.Number.{Number}
use Rattle.mm_text.specs.declared.reading.numerals.Number.TheVariants.{Value, TooWide}

-- where there is a value, P holds of it
pub record Good {A : Type 0} (P : A → Type 0) (r : Outcome A) : Type 0 where
  pub holds : IfOk r P

pub good_ok : {A : Type 0} (P : A → Type 0) (x : A) → P x → Good P (Ok x)
good_ok P x h = record { holds = h }

pub good_bad : {A : Type 0} (P : A → Type 0) (fault : MmFault) → Good P (Err fault)
good_bad P fault = record { holds = tt }

pub good_then : {A B : Type 0} (P : A → Type 0) (Q : B → Type 0) (r : Outcome A) (next : A → Outcome B)
    → Good P r → ((x : A) → P x → Good Q (next x)) → Good Q (r >>= next)
good_then P Q (Ok x) next h more = more x h.holds
good_then P Q (Err fault) next h more = good_bad Q fault

pub good_weaker : {A : Type 0} (P Q : A → Type 0) (r : Outcome A) → ((x : A) → P x → Q x) → Good P r → Good Q r
good_weaker P Q (Ok x) h is = good_ok Q x (h x is.holds)
good_weaker P Q (Err fault) h is = good_bad Q fault

pub good_cond : {A : Type 0} (P : A → Type 0) (b : Bool) (x y : Outcome A) → (b ≡ true → Good P x) → (b ≡ false → Good P y) → Good P (cond b x y)
good_cond P true x y h k = h refl
good_cond P false x y h k = k refl

good_or : {A : Type 0} (P : A → Type 0) (fault : MmFault) (o : Option A) → IfSome o P → Good P (or_fault fault o)
good_or P fault (Some x) h = good_ok P x h
good_or P fault None h = good_bad P fault

-- a number that has a value is not too wide
abbrev IsNarrow : Number → Type 0
IsNarrow (Value v) = unsigned_abs v ≤ widest
IsNarrow TooWide = Unit {0}

narrow_test : (z : ℤ) (b : Bool) → ltb widest (unsigned_abs z) ≡ b → IsNarrow (cond b TooWide (Value z))
narrow_test z true e = tt
narrow_test z false e = within widest (unsigned_abs z) e
  where
    within : (k n : ℕ) → ltb k n ≡ false → n ≤ k
    within k n e = grind (arith, nat_tests)

in_width_narrow : (z : ℤ) → IsNarrow (in_width z)
in_width_narrow z = narrow_test z (ltb widest (unsigned_abs z)) refl

map_narrow : (o : Option ℤ) → IfSome (option_map in_width o) IsNarrow
map_narrow (Some z) = in_width_narrow z
map_narrow None = tt

three_narrow : (i j : Option ℕ) (v : Option Number) → IfSome v IsNarrow → IfSome (all_three i j v) (λ c. IsNarrow c.number)
three_narrow (Some i) (Some j) (Some v) h = h
three_narrow None j v h = tt
three_narrow (Some i) None v h = tt
three_narrow (Some i) (Some j) None h = tt

then_some : {A B : Type 0} (P : B → Type 0) (f : A → Option B) (o : Option A) → ((x : A) → IfSome (f x) P) → IfSome (option_and_then f o) P
then_some P f (Some x) h = h x
then_some P f None h = tt

one_narrow : IsNarrow (Value (pos 1))
one_narrow = omega arith

-- an entry of a file with these sizes and this symmetry
pub record IsPlaced (m : Mirror) (s : Sizes) (line : Line) : Type 0 where
  pub row : line.row < s.rows
  pub col : line.col < s.cols
  pub value : unsigned_abs line.value ≤ widest
  pub diagonal : m ≡ Negated → line.row ≢ line.col

in_range : (size i : ℕ) → is_out size i ≡ false → (0 < i) × (i ≤ size)
in_range size i e = grind (arith, nat_tests)

or_false : (a b : Bool) → (a || b) ≡ false → (a ≡ false) × (b ≡ false)
or_false true b e = absurd (cc)
or_false false b e = (refl, e)

apart : (m : Mirror) (i j : ℕ) → (is_negated m && (eqb i j)) ≡ false → m ≡ Negated → i ≢ j
apart m i j e is = let at = subst (λ n. (is_negated n && eqb i j) ≡ false) is e in differ i j at
  where
    differ : (x y : ℕ) → eqb x y ≡ false → x ≢ y
    differ x y h = grind (arith, nat_tests)

narrow_placed : (m : Mirror) (s : Sizes) (number i j : ℕ) (v : Number) → IsNarrow v → (0 < i) × (i ≤ s.rows) → (0 < j) × (j ≤ s.cols) → (m ≡ Negated → i ≢ j)
    → Good (IsPlaced m s) (narrow number (i - 1) (j - 1) v)
narrow_placed m s number i j (Value v) h row col apart' = good_ok (IsPlaced m s) _ (record {
  row = omega arith;
  col = omega arith;
  value = h;
  diagonal = λ is e. apart' is (omega (arith, row.0, col.0, e));
})
narrow_placed m s number i j TooWide h row col apart' = good_bad (IsPlaced m s) _

placed_good : (m : Mirror) (s : Sizes) (number : ℕ) (c : Cell) → IsNarrow c.number → Good (IsPlaced m s) (entry_placed m s number c)
placed_good m s number c h =
    good_cond (IsPlaced m s) (is_out s.rows c.row || is_out s.cols c.col) _ _ (λ _. good_bad (IsPlaced m s) _) (λ e.
    let in' = or_false (is_out s.rows c.row) (is_out s.cols c.col) e in
    good_cond (IsPlaced m s) (is_negated m && eqb c.row c.col) _ _ (λ _. good_bad (IsPlaced m s) _) (λ d.
    narrow_placed m s number c.row c.col c.number h (in_range s.rows c.row in'.0) (in_range s.cols c.col in'.1) (apart m c.row c.col d)))

-- the entry with this number, counted from 0, of an array
pub record IsDenseAt (s : Sizes) (at : ℕ) (line : Line) : Type 0 where
  pub row : line.row ≡ at % s.rows
  pub col : line.col ≡ at / s.rows
  pub value : unsigned_abs line.value ≤ widest

dense_good : (s : Sizes) (number at : ℕ) (v : Number) → IsNarrow v → Good (IsDenseAt s at) (narrow number (at % s.rows) (at / s.rows) v)
dense_good s number at (Value v) h = good_ok (IsDenseAt s at) _ (record { row = refl; col = refl; value = h })
dense_good s number at TooWide h = good_bad (IsDenseAt s at) _

-- an entry by its kind
abbrev pub IsEntryBy : Kind → Mirror → Sizes → ℕ → Line → Type 0
IsEntryBy Valued m s at line = IsPlaced m s line
IsEntryBy Pattern m s at line = IsPlaced m s line
IsEntryBy Dense m s at line = IsDenseAt s at line

entry_by_good : (k : Kind) (m : Mirror) (s : Sizes) (number at : ℕ) (words : List Text) → Good (IsEntryBy k m s at) (entry_by k m s number at words)
entry_by_good Valued m s number at words =
    good_then (λ c. IsNarrow c.number) (IsPlaced m s) (or_fault (BadLine number) (valued_cell words)) (entry_placed m s number)
    (good_or (λ c. IsNarrow c.number) (BadLine number) (valued_cell words)
    (then_some (λ c. IsNarrow c.number) _ (three_words words) (λ w. three_narrow (count_of w.0) (count_of w.1) (option_map in_width (value_of w.2)) (map_narrow (value_of w.2)))))
    (placed_good m s number)
entry_by_good Pattern m s number at words =
    good_then (λ c. IsNarrow c.number) (IsPlaced m s) (or_fault (BadLine number) (pattern_cell words)) (entry_placed m s number)
    (good_or (λ c. IsNarrow c.number) (BadLine number) (pattern_cell words)
    (then_some (λ c. IsNarrow c.number) _ (two_words words) (λ w. three_narrow (count_of w.0) (count_of w.1) (Some (Value (pos 1))) one_narrow)))
    (placed_good m s number)
entry_by_good Dense m s number at words =
    good_then IsNarrow (IsDenseAt s at) (or_fault (BadLine number) (dense_number words)) (narrow number (at % s.rows) (at / s.rows))
    (good_or IsNarrow (BadLine number) (dense_number words) (then_some IsNarrow _ (one_word words) (λ w. map_narrow (value_of w))))
    (dense_good s number at)

-- the entries of lines, the first of them with this number
pub record AreEntries (banner : Banner) (s : Sizes) (at : ℕ) (lines : List (ℕ × Text)) (entries : List Line) : Type 0 where
  pub count : length entries ≡ length lines
  pub each : (k : ℕ) (d : Line) → k < length entries → IsEntryBy banner.kind banner.mirror s (at + k) (get_or entries k d)

each_cons : (banner : Banner) (s : Sizes) (at : ℕ) (entry : Line) (entries : List Line) → IsEntryBy banner.kind banner.mirror s at entry
    → ((k : ℕ) (d : Line) → k < length entries → IsEntryBy banner.kind banner.mirror s (at + 1 + k) (get_or entries k d))
    → (k : ℕ) (d : Line) → k < length (entry ∷ entries) → IsEntryBy banner.kind banner.mirror s (at + k) (get_or (entry ∷ entries) k d)
each_cons banner s at entry entries here later zero d h =
    let same : at ≡ at + 0 = omega arith in
    subst (λ n. IsEntryBy banner.kind banner.mirror s n entry) same here
each_cons banner s at entry entries here later (suc k) d h =
    let same : at + 1 + k ≡ at + suc k = omega arith in
    subst (λ n. IsEntryBy banner.kind banner.mirror s n (get_or entries k d)) same (later k d (omega arith))

-- what is read of lines is their entries
pub entries_good : (banner : Banner) (s : Sizes) (at : ℕ) (lines : List (ℕ × Text)) → Good (AreEntries banner s at lines) (entries_of banner s at lines)
entries_good banner s at [] = good_ok (AreEntries banner s at []) [] (record { count = refl; each = λ k d h. absurd (omega arith) })
entries_good banner s at (line ∷ lines) =
    good_then (IsEntryBy banner.kind banner.mirror s at) (AreEntries banner s at (line ∷ lines)) (entry_of banner s line.0 at (words_of line.1)) _
    (entry_by_good banner.kind banner.mirror s line.0 at (words_of line.1)) (λ entry here.
    good_then (AreEntries banner s (at + 1) lines) (AreEntries banner s at (line ∷ lines)) (entries_of banner s (at + 1) lines) _
    (entries_good banner s (at + 1) lines) (λ entries later.
    good_ok (AreEntries banner s at (line ∷ lines)) (entry ∷ entries) (record {
      count = omega (arith, later.count);
      each = each_cons banner s at entry entries here later.each;
    })))
