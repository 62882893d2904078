use Rattle.std.proofs.Common.{◌≡◌, [], drop}
use Rattle.job_text.specs.Known.{read}
use Rattle.job_text.specs.Maps.{maps_after}
use Rattle.toml.specs.View.{items_view}
use Rattle.job_text.proofs.maps.read_maps.Given as goal

abbrev pub invariant-loop-k : goal.invariant-loop-k
invariant-loop-k l = maps_after (read l.known l.specs.items) l.k (items_view (drop l.k l.tables)) ≡ maps_after (read l.fn.known []) 0 (items_view l.tables)
