use Rattle.std.proofs.Common.{◌∙◌}
use Rattle.outside.specs.MailRoom.{names_of}
use Rattle.peers.specs.Protocols.{firsts, stands_in}
use Rattle.schedule.proofs.Firsts.{stands_in-firsts}
use Rattle.model_defs.specs.Letters.{letter_names}
use Rattle.model_defs.proofs.Filters.{among-all}
use Rattle.rank_sim.proofs.Writables.{given-writable, sheets-writable}
use Rattle.rank_sim.proofs.laws.sheets_are_writable.Goals as goal

pub returns-clause-values : goal.returns-clause-values
returns-clause-values g c = λ job files pick valid fit. sheets-writable g.met.S.Scalar.laws g.S.Scalar.conversions job files pick valid fit

pub returns-clause-gathered : goal.returns-clause-gathered
returns-clause-gathered g c = λ job files letters valid fit all.
    given-writable g.S.Scalar.semiring g.S.Scalar.conversions job files (firsts letters) valid fit
    (λ y named. stands_in-firsts letters y ∙ among-all (stands_in (names_of letters)) y (letter_names job files) all named)
