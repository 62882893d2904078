-- The cells of a matrix as they are printed: in order, and within its size.
use Rattle.std.proofs.Common.{◌≡◌, ◌<◌, ◌&&◌, ℕ, true, List, [], ◌∷◌, map, All, nat_lt, arith}
use Rattle.std.specs.List.{list_all}
use Rattle.std.proofs.lemmas.List.Elements.{All-map, All-weaker}
use Rattle.std.proofs.lemmas.List.Sums.{AllPass-from_list_all}
use Rattle.std.proofs.lemmas.Bool.{and_parts, ltb-true}
use Rattle.std.proofs.lemmas.List.Kept.{AllPairs-cons}
use Rattle.scalar_laws.specs.Conversions.{Conversions}
use Rattle.tables.specs.declared.Cell.{Cell}
use Rattle.tables.specs.Tables.{Table, cells_of, stands_before, AreInOrder}
use Rattle.tables.proofs.Listed.{AreInOrder-cells_of}
use Rattle.tables.proofs.Within.{AreWithin-cells_of}
use Rattle.tables.proofs.Orders.{before-to}
use Rattle.mm_text.specs.Written.{IsBefore, ArePlacesWithin as AreWithin}
use Rattle.mm_text.specs.Written.{ArePlacesInOrder as AreAscending}
use Rattle.model_defs.specs.ShowText.{shown_cell}

module _ {S : Type 0} (F : Conversions S) where
  before-all : (c : Cell S) (cs : List (Cell S)) → list_all (stands_before c) cs ≡ true → All (IsBefore (shown_cell F c)) (map (shown_cell F) cs)
  before-all c cs h =
      All-map (IsBefore (shown_cell F c)) (shown_cell F) cs
      (All-weaker (λ d. stands_before c d ≡ true) (λ d. IsBefore (shown_cell F c) (shown_cell F d)) (λ d t. before-to c d t) cs (AllPass-from_list_all (stands_before c) cs h))

  -- cells in order are printed in order
  pub ascending : (cs : List (Cell S)) → AreInOrder cs → AreAscending (map (shown_cell F) cs)
  ascending [] h = λ i j d l m. absurd (omega arith)
  ascending (c ∷ cs) h = AllPairs-cons IsBefore (shown_cell F c) (map (shown_cell F) cs) (before-all c cs h.0) (ascending cs h.1)

  in_range : (rows cols : ℕ) (c : Cell S) → (nat_lt c.row rows && nat_lt c.col cols) ≡ true → (c.row < rows) × (c.col < cols)
  in_range rows cols c h = let p = and_parts (nat_lt c.row rows) (nat_lt c.col cols) h in (ltb-true c.row rows p.0, ltb-true c.col cols p.1)

  pub printed_in_order : (rows cols : ℕ) (t : Table S) → AreAscending (map (shown_cell F) (cells_of rows cols t))
  printed_in_order rows cols t = ascending (cells_of rows cols t) (AreInOrder-cells_of rows cols t)

  pub printed_within : (rows cols : ℕ) (t : Table S) → AreWithin rows cols (map (shown_cell F) (cells_of rows cols t))
  printed_within rows cols t =
      All-map (λ s. (s.row < rows) × (s.col < cols)) (shown_cell F) (cells_of rows cols t)
      (All-weaker (λ c. (nat_lt c.row rows && nat_lt c.col cols) ≡ true) (λ c. (c.row < rows) × (c.col < cols)) (in_range rows cols) (cells_of rows cols t)
      (AllPass-from_list_all (λ c. nat_lt c.row rows && nat_lt c.col cols) (cells_of rows cols t) (AreWithin-cells_of rows cols t)))
