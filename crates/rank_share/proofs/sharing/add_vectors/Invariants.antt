use Rattle.std.proofs.Common.{◌≡◌, map}
use Rattle.tables.specs.Indices.{count_from}
use Rattle.mm_text.specs.Reading.{file_of}
use Rattle.rank_share.specs.Conditions.{files_before}
use Rattle.rank_share.specs.Shares.{value_lines}
use Rattle.rank_share.proofs.sharing.add_vectors.Given as goal

abbrev pub invariant-loop-spec : goal.invariant-loop-spec
invariant-loop-spec l = record {
  at : l.at ≡ files_before l.job l.spec-index;
  cells : l.cells.items ≡ map (value_lines l.job (map file_of l.files) l.me) (count_from 0 l.spec-index);
}
