use Rattle.std.proofs.Common.{◌∙◌, sym}
use Rattle.rank_phases.specs.PhasedPeers.{course_of}
use Rattle.rank_core.proofs.rank.Rank.phase.Goals as goal

pub returns : goal.returns
returns g c = λ s rank worked.
    let of_course = c.phase.ensures (course_of s rank.phases rank.sent) (rank.worked worked) in
    record { before = of_course.before; awaits = of_course.at; end = λ done. of_course.end done ∙ sym rank.holds.phases }
