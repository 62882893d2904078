use Rattle.std.proofs.Common.{◌≡◌, drop, bytes_eq}
use Rattle.job_text.specs.Known.{place_from, map_number}
use Rattle.job_text.proofs.known.Known.map_number.Given as goal

abbrev pub invariant-loop-number : goal.invariant-loop-number
invariant-loop-number l = place_from l.number (λ m. bytes_eq m.name l.name) (drop l.number l.self.maps) ≡ map_number l.self l.name
