use Rattle.std.proofs.Common.{sym, subst}
use Rattle.rank_core.specs.Results.{IsEntriesGiven}
use Rattle.rank_core.proofs.FinishedRanks.{entries-given}
use Rattle.rank_core.proofs.rank.Rank.entries_from.Goals as goal

pub returns : goal.returns
returns g c = record {
  entries = λ s rank done.
      subst (IsEntriesGiven s.given (record { phase = c.args.phase; from = c.args.from; to = s.me })) (sym c.entries_from.ensures.count)
      (entries-given g.S.Scalar.semiring g.S.Scalar.conversions g.met.S.Scalar.conversion_laws c.worker.result.now s (c.worker.ensures.peer s rank done.worked) done
      c.args.self.now rank c.args.phase c.args.from);
}
