use Rattle.std.proofs.Common.{◌≡◌, ◌+◌, map}
use Rattle.tables.specs.Indices.{count_from}
use Rattle.mm_text.specs.Reading.{file_of}
use Rattle.model_defs.specs.Given.{value_file}
use Rattle.rank_share.specs.Conditions.{files_before}
use Rattle.rank_share.specs.Shares.{place_lines, cell_count}
use Rattle.rank_share.proofs.sharing.matrix_places.Given as goal

abbrev pub invariant-loop-m : goal.invariant-loop-m
invariant-loop-m l =
    l.places.items ≡ map (λ k. place_lines l.job.ranks l.me (value_file l.job (map file_of l.files) k 0)) (count_from (cell_count l.job) l.m)
