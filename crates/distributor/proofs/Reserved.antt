-- Blocks that are reserved for the letters of a transfer.
use Rattle.std.proofs.Common.{◌≡◌, ℕ, zero, suc, ◌<◌, List, ◌++◌, map, replicate, sym, ap, ◌∙◌, arith, take, drop, append-nil}
use Rattle.std.proofs.lemmas.List.{take-append-drop}
use Rattle.std.proofs.lemmas.Grind.{flat_map-append}
use Rattle.byte_pool.specs.Blocks.{BlockState, free_block}
use Rattle.distributor.specs.Transfers.{lengths_for, letter_lengths, IsPartReserved}

none-more : (made size : ℕ) (blocks : List BlockState) → made < 1 → blocks ++ replicate made (free_block size) ≡ blocks
none-more zero size blocks l = append-nil blocks
none-more (suc made) size blocks l = absurd (omega arith)

pub part-reserved : (width rank made size : ℕ) (lists : List (List ℕ)) (first now new : List BlockState)
    → now ≡ first ++ map free_block (letter_lengths width (take rank lists)) → made < 1 → new ≡ now ++ replicate made (free_block size)
    → IsPartReserved (letter_lengths width lists) first new
part-reserved width rank made size lists first now new h l e =
    record {
      made = letter_lengths width (take rank lists);
      missing = letter_lengths width (drop rank lists);
      lengths_are = ap (letter_lengths width) (sym (take-append-drop rank lists)) ∙ flat_map-append (lengths_for width) (take rank lists) (drop rank lists);
      pool = e ∙ none-more made size now l ∙ h;
    }
