use Rattle.std.proofs.Common.{◌≡◌, ◌<◌, ℕ, All, List, [], length, map}
use Rattle.std.specs.List.{slice_index_or}
use Rattle.mm_text.specs.Reading.{File}
use Rattle.peers.specs.Protocols.{Letter, firsts}
use Rattle.tables.specs.Tables.{AreInOrder, found}
use Rattle.model_defs.specs.declared.job.Job.{Job}
use Rattle.model_defs.specs.Machine.{piece}
use Rattle.rank_sim.specs.Ranks.{AreFinished}
use Rattle.rank_sim.proofs.ranks.pieces_of.Given as goal

abbrev pub invariant-loop-rank : goal.invariant-loop-rank
invariant-loop-rank g l = record {
  many : length l.pieces.items ≡ l.rank-index;
  in_order : All (λ piece. AreInOrder piece.items) l.pieces.items;
  cells : (job : Job) (files : List File) (letters : List Letter) → AreFinished g.S.Scalar.semiring g.S.Scalar.conversions job files letters l.ranks
      → (p : ℕ) → p < l.rank-index → found (slice_index_or (map (λ piece. piece.items) l.pieces.items) p []) ≡ piece g.S.Scalar.semiring g.S.Scalar.conversions job files p l.value (firsts letters);
}
