-- Which rows move between vectors, and why a letter of them is refused.
use Rattle.std.specs.Prelude.{◌≡◌, ◌≢◌, ℕ, ◌*◌, List, ◌++◌, length}
use Rattle.tables.specs.Indices.{AreDistinct, AreBelow, count_from}
use Rattle.map_core.specs.Classes.{indices_at}
use Rattle.map_core.specs.Plans.{PlanLists}
use Rattle.letter_codec.specs.declared.kind.Kind.TheVariants.{Nums}
use Rattle.letter_codec.specs.Letters.{IsLetter, letter_bytes}
use Rattle.vector_moves.specs.declared.fault.MoveFault.{MoveFault}
use Rattle.vector_moves.specs.declared.fault.MoveFault.TheVariants.{NotALetter, NotThePlan}

-- The rows at some positions of a source list move to those of a target list: all positions are in their list, each pair of
-- them has one global index, and no target position stands twice.
pub record AreMoves (source target froms tos : List ℕ) : Type 0 where
  pub sources : AreBelow (length source) froms
  pub targets : AreBelow (length target) tos
  pub indices : indices_at source froms ≡ indices_at target tos
  pub once : AreDistinct tos

-- The source and the target positions of what stays on its rank: the same ones, then the permuted ones.
abbrev pub own_sources : PlanLists → List ℕ
own_sources p = count_from 0 p.same ++ p.permute_from

abbrev pub own_targets : PlanLists → List ℕ
own_targets p = count_from 0 p.same ++ p.permute_to

-- These bytes are a letter of these words with so many numbers for each of them.
pub record IsRowsLetter (columns : ℕ) (bytes words : List ℕ) : Type 0 where
  pub numbers : List ℕ
  pub letter : IsLetter Nums words numbers
  pub each : length numbers ≡ 32 * (length words * columns)
  pub whole : bytes ≡ letter_bytes Nums words numbers

-- Why bytes are refused that come for so many positions of a vector with so many columns: they are no letter of its rows, or
-- one of another number of rows.
abbrev pub IsMoveFault : ℕ → List ℕ → ℕ → MoveFault → Type 0
IsMoveFault columns bytes wanted NotALetter = (words : List ℕ) → IsRowsLetter columns bytes words → ⊥
IsMoveFault columns bytes wanted (NotThePlan have want) =
    (words : List ℕ) × IsRowsLetter columns bytes words × (have ≡ length words) × (want ≡ wanted) × (have ≢ want)
