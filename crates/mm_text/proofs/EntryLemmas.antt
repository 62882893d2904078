-- Places that are cut off.
use Rattle.std.proofs.Common.{◌≡◌, ℕ, ◌-◌, ◌^◌, ◌<◌, ◌≤◌, Bool, true, false, cond, ◌||◌, Option, Some, None, Err, option_map, refl, ap, sym, ◌∙◌, arith, inl, inr, ◌⊎◌}
use Rattle.std.proofs.lemmas.Bool.{cases_lt}
use Rattle.std.proofs.lemmas.Bool.Decides.{nat_tests}
use Rattle.mm_text.specs.Limits.{most_rows}
use Rattle.mm_text.specs.declared.reading.entries.Cell.{Cell}
use Rattle.mm_text.specs.declared.fault.MmFault.TheVariants.{OutOfRange}
use Rattle.mm_text.specs.declared.file_data.Mirror.{Mirror}
use Rattle.mm_text.specs.declared.reading.sizes.Sizes.{Sizes}
use Rattle.mm_text.specs.Cut.{cut, cut_cell}
use Rattle.mm_text.specs.Entries.{is_out, entry_placed, entry_of_cell}
use Rattle.mm_text.specs.Outcomes.{Outcome}
use Rattle.mm_text.specs.declared.file_data.Line.{Line}

is_out_over : (size i : ℕ) → size < i → is_out size i ≡ true
is_out_over size i h = grind (arith, nat_tests)

or_true : (a : Bool) → (a || true) ≡ true
or_true true = refl
or_true false = refl

chosen : (b : Bool) (x y : Outcome Line) → b ≡ true → cond b x y ≡ x
chosen b x y e = ap (λ t. cond t x y) e

placed_out : (m : Mirror) (s : Sizes) (number : ℕ) (c : Cell) → (s.rows < c.row) ⊎ (s.cols < c.col) → entry_placed m s number c ≡ Err (OutOfRange number)
placed_out m s number c h = chosen (is_out s.rows c.row || is_out s.cols c.col) (Err (OutOfRange number)) _ (out h)
  where
    out : (s.rows < c.row) ⊎ (s.cols < c.col) → (is_out s.rows c.row || is_out s.cols c.col) ≡ true
    out (inl over) = ap (λ b. b || is_out s.cols c.col) (is_out_over s.rows c.row over)
    out (inr over) = ap (λ b. is_out s.rows c.row || b) (is_out_over s.cols c.col over) ∙ or_true (is_out s.rows c.row)

placed_same : (m : Mirror) (s : Sizes) (number : ℕ) (c : Cell) → c.row ≤ 2 ^ 64 - 1 → c.col ≤ 2 ^ 64 - 1
    → entry_placed m s number (cut_cell c) ≡ entry_placed m s number c
placed_same m s number c h k =
    let row : cut c.row ≡ c.row = omega arith in
    let col : cut c.col ≡ c.col = omega arith in
    ap (λ r. entry_placed m s number (record { row = r; col = cut c.col; number = c.number })) row
    ∙ ap (λ x. entry_placed m s number (record { row = c.row; col = x; number = c.number })) col

placed_cut_some : (m : Mirror) (s : Sizes) (number : ℕ) (c : Cell) → s.rows ≤ most_rows → s.cols ≤ most_rows
    → entry_placed m s number (cut_cell c) ≡ entry_placed m s number c
placed_cut_some m s number c rows cols = elim (cases_lt (2 ^ 64 - 1) c.row) [
  | inl over ↦ placed_out m s number (cut_cell c) (inl (omega arith)) ∙ sym (placed_out m s number c (inl (omega arith)))
  | inr row ↦ elim (cases_lt (2 ^ 64 - 1) c.col) [
    | inl over ↦ placed_out m s number (cut_cell c) (inr (omega arith)) ∙ sym (placed_out m s number c (inr (omega arith)))
    | inr col ↦ placed_same m s number c row col
  ]
]

-- a place that is cut off above the sizes is out of range as it was
pub placed_cut : (m : Mirror) (s : Sizes) (number : ℕ) (c : Option Cell) → s.rows ≤ most_rows → s.cols ≤ most_rows
    → entry_of_cell m s number (option_map cut_cell c) ≡ entry_of_cell m s number c
placed_cut m s number (Some c) rows cols = placed_cut_some m s number c rows cols
placed_cut m s number None rows cols = refl
