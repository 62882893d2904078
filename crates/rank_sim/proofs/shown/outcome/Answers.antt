use Rattle.std.proofs.Common.{◌∙◌}
use Rattle.rank_sim.proofs.shown.outcome.Goals as goal

pub letter_lines-requires-clause-phases : goal.letter_lines-requires-clause-phases
letter_lines-requires-clause-phases g c = c.as_slice.ensures.value ∙ c.in_ok-phases.ensures.lines

pub returns : goal.returns
returns g c = record {
  shows = λ files letters all. record {
    sheets = c.in_ok-all_sheets.ensures.sheets files letters all;
    phases = c.in_ok-phases.ensures.lines;
    letters = c.in_ok-letters.ensures.lines files letters all;
  };
}
