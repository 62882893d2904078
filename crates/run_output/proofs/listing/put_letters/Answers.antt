use Rattle.std.proofs.Common.{◌∙◌}
use Rattle.outside.proofs.Taking.{WritesAndHolds-failed}
use Rattle.model_defs.specs.Traffic.{letter_line_words}
use Rattle.run_output.proofs.Steps.{put-next, put-fault}
use Rattle.run_output.proofs.Pieces.{lines-drop}
use Rattle.run_output.proofs.listing.put_letters.Goals as goal

pub returns-in_err-put_letter : goal.returns-in_err-put_letter
returns-in_err-put_letter g c =
    let next = lines-drop letter_line_words c.args.letters.now c.loop-line.line-index _ c.loop-line-test.true in
    WritesAndHolds-failed _ g.O.Sink.faults _ c.loop-line.out _ _ _ _ c.from_residual.ensures.0 c.loop-line.invariant.no_fault
    (put-fault _ _ _ c.loop-line.held.items _ _ _ _ c.loop-line.invariant.held next c.in_err-put_letter.ensures.prefix)
    c.in_err-put_letter.ensures.fault c.in_err-put_letter.ensures.never_falls

pub loop-line-preserved : goal.loop-line-preserved
loop-line-preserved g c =
    let next = lines-drop letter_line_words c.args.letters.now c.loop-line.line-index _ c.loop-line-test.true in
    record {
      held = put-next _ _ _ c.loop-line.held.items _ _ _ _ c.loop-line.invariant.held next _ c.in_ok-put_letter.ensures.taken;
      no_fault = c.in_ok-put_letter.ensures.no_fault ∙ c.loop-line.invariant.no_fault;
    }
