use Rattle.rank_sim.specs.LetterLines.{line_of}
use Rattle.rank_sim.proofs.LetterLines.{put-next}
use Rattle.rank_sim.proofs.letters.add_lines_from.Goals as goal

pub loop-to-preserved : goal.loop-to-preserved
loop-to-preserved g c = λ files letters all.
    put-next (λ to. line_of c.args.job.now files (record { phase = c.args.phase; from = c.args.«from»; to = to })) c.loop-to.to c.args.lines.now.items c.loop-to.lines.items c.add_line.new.lines.items
    (c.loop-to.invariant files letters all) (c.in_ok-add_line.ensures.lines files letters all)
