-- Numbers as the code holds them: none above 2^64 - 1.
use Rattle.std.specs.Prelude.{◌-◌, ◌^◌, ℕ, min}
use Rattle.mm_text.specs.declared.reading.entries.Cell.{Cell}
use Rattle.mm_text.specs.declared.reading.sizes.Sizes.{Sizes}

abbrev pub cut : ℕ → ℕ
cut n = min n (2 ^ 64 - 1)

abbrev pub cut_sizes : Sizes → Sizes
cut_sizes s = record { rows = cut s.rows; cols = cut s.cols; count = cut s.count }

abbrev pub cut_cell : Cell → Cell
cut_cell c = record { row = cut c.row; col = cut c.col; number = c.number }
