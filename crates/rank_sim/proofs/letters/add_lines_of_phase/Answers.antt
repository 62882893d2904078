use Rattle.rank_sim.specs.LetterLines.{lines_from}
use Rattle.rank_sim.proofs.LetterLines.{put-next}
use Rattle.rank_sim.proofs.letters.add_lines_of_phase.Goals as goal

pub loop-from-preserved : goal.loop-from-preserved
loop-from-preserved g c = λ files letters all.
    put-next (λ sender. lines_from c.args.job.now files c.args.phase sender c.args.job.now.ranks) c.loop-from.«from» c.args.lines.now.items c.loop-from.lines.items c.add_lines_from.new.lines.items
    (c.loop-from.invariant files letters all) (c.in_ok-add_lines_from.ensures.lines files letters all)
