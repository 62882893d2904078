use Rattle.std.proofs.Common.{◌∷◌, [], codes, decimal, length, ◌∙◌}
use Rattle.outside.proofs.Taking.{HoldsBack-more, HoldsBack-then, HoldsBack-fault, Writes-failed, Writes-held}
use Rattle.mm_text.specs.Written.{line_text, lines_text}
use Rattle.run_output.specs.Listings.{listing_lines}
use Rattle.run_output.proofs.Steps.{front-empty, put-first}
use Rattle.run_output.proofs.listing.write_listing.Goals as goal

pub returns-in_err-put_counts : goal.returns-in_err-put_counts
returns-in_err-put_counts g c =
    put-first g.O.Sink.told g.O.Sink.faults _ _ c.new-held.result.items
    (line_text (codes "traffic" ∷ decimal (length c.args.phases.now) ∷ decimal (length c.args.letters.now) ∷ []))
    (lines_text (listing_lines c.args.phases.now c.args.letters.now)) _ c.from_residual.ensures.0 c.new-held.ensures
    c.in_err-put_counts.ensures.prefix c.in_err-put_counts.ensures.fault c.in_err-put_counts.ensures.never_falls

pub returns-in_err-put_phases : goal.returns-in_err-put_phases
returns-in_err-put_phases g c =
    Writes-failed g.O.Sink.told g.O.Sink.faults _ c.put_counts.new.out _ _ _ c.from_residual-in_err-put_phases.ensures.0 c.in_ok-put_counts.ensures.no_fault
    (HoldsBack-fault _ _ _ _ _
    (HoldsBack-more _ _ _ _ (lines_text (listing_lines c.args.phases.now c.args.letters.now))
    (front-empty _ _ _ c.new-held.result.items (line_text (codes "traffic" ∷ decimal (length c.args.phases.now) ∷ decimal (length c.args.letters.now) ∷ [])) c.new-held.ensures c.in_ok-put_counts.ensures.taken))
    c.in_err-put_phases.ensures.prefix)
    c.in_err-put_phases.ensures.fault c.in_err-put_phases.ensures.never_falls

pub returns : goal.returns
returns g c =
    Writes-held g.O.Sink.told g.O.Sink.faults _ c.put_phases.new.out _ c.put_phases.new.held.items _ c.flush.result
    (HoldsBack-then _ _ _ _ _ _
    (HoldsBack-more _ _ _ _ (lines_text (listing_lines c.args.phases.now c.args.letters.now))
    (front-empty _ _ _ c.new-held.result.items (line_text (codes "traffic" ∷ decimal (length c.args.phases.now) ∷ decimal (length c.args.letters.now) ∷ [])) c.new-held.ensures c.in_ok-put_counts.ensures.taken))
    c.in_ok-put_phases.ensures.taken)
    (c.in_ok-put_phases.ensures.no_fault ∙ c.in_ok-put_counts.ensures.no_fault)
    c.flush.ensures.writes
