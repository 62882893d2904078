use Rattle.std.proofs.Common.{map}
use Rattle.mm_text.specs.Written.{line_text, lines_text}
use Rattle.model_defs.specs.Traffic.{letter_line_words, phase_words}
use Rattle.run_output.proofs.Steps.{after-put, put-cut}
use Rattle.run_output.proofs.listing.put_phase_with.Goals as goal

pub returns-in_err-put_phase : goal.returns-in_err-put_phase
returns-in_err-put_phase g c =
    put-cut g.O.Sink.told g.O.Sink.faults _ _ c.args.held.now.items _ (line_text (phase_words c.args.phase.now)) (lines_text (map letter_line_words c.args.letters.now)) _ c.from_residual.ensures.0
    c.in_err-put_phase.ensures.prefix c.in_err-put_phase.ensures.fault c.in_err-put_phase.ensures.never_falls

pub returns : goal.returns
returns g c =
    after-put g.O.Sink.told g.O.Sink.faults c.args.out.now c.put_phase.new.out c.put_letters.new.out c.args.held.now.items c.put_phase.new.held.items c.put_letters.new.held.items
    (line_text (phase_words c.args.phase.now)) (lines_text (map letter_line_words c.args.letters.now)) c.put_letters.result
    c.in_ok-put_phase.ensures.taken c.in_ok-put_phase.ensures.no_fault c.put_letters.ensures
