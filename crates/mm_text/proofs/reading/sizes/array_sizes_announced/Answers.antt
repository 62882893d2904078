use Rattle.std.proofs.Common.{ap, ◌∙◌, ℕ, Some, Option, option_map, option_and_then}
use Rattle.mm_text.specs.Cut.{cut_sizes}
use Rattle.mm_text.specs.declared.reading.sizes.Sizes.{Sizes}
use Rattle.mm_text.specs.Lines.{Text}
use Rattle.mm_text.specs.Numerals.{count_of}
use Rattle.mm_text.specs.Sizes.{array_sizes}
use Rattle.mm_text.proofs.SizeLemmas.{array_cut}
use Rattle.mm_text.proofs.reading.sizes.array_sizes_announced.Goals as goal

pub returns : goal.returns
returns c =
    let sizes : ℕ → Option Sizes = λ n. Some (record { rows = c.in_ok-rows-2.rows; cols = c.in_ok-cols.cols; count = n }) in
    let of_words : Option (Text × Text) → Option Sizes =
    λ words. option_map cut_sizes (option_and_then (λ w. array_sizes (count_of w.0) (count_of w.1)) words) in
    ap sizes c.saturating_mul.ensures
    ∙ array_cut _ _ c.in_ok-rows-2.rows c.in_ok-cols.cols c.in_ok-rows-2.ensures c.in_ok-cols.ensures
    ∙ ap of_words c.in_ok-rows.ensures
