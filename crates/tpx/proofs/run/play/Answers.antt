use Rattle.std.proofs.Common.{map, subst}
use Rattle.mm_text.specs.Reading.{file_of}
use Rattle.message_play.specs.Plays.{wire_state}
use Rattle.scalar_laws.specs.Weighed.{weighed_conversions, weighed_semiring}
use Rattle.rank_sim.specs.Runs.{IsRan}
use Rattle.tpx.proofs.Played.{played-as}
use Rattle.tpx.proofs.run.play.Goals as goal

pub returns-clause-played : goal.returns-clause-played
returns-clause-played g c =
    let job = c.args.given.now.job.value in
    let files = map file_of c.args.given.now.files.items in
    let begun = wire_state g.W.Wire.pending g.W.Wire.posted g.W.Wire.taken g.W.Wire.given g.W.Wire.is_honest c.args.wire.now in
    let now = wire_state g.W.Wire.pending g.W.Wire.posted g.W.Wire.taken g.W.Wire.given g.W.Wire.is_honest c.run.new.wire in
    let ran = subst (λ xs. IsRan weighed_semiring weighed_conversions job (map file_of xs) c.args.given.now.order begun now c.run.result) c.deref.ensures.value c.run.ensures.ran in
    played-as job files c.args.given.now.order begun now c.run.result c.outcome_of.result c.outcome_of.ensures.outcome ran
    (λ honest. c.complete_runs_show_eval.ensures job files c.args.given.now.order begun now c.run.result c.requires.valid c.requires.fitting ran honest)
