use Rattle.std.proofs.Common.{sym, ◌∙◌}
use Rattle.rank_makings.proofs.Completed.{if-both}
use Rattle.rank_makings.proofs.CopyAnswers.{if-ok}
use Rattle.rank_makings.proofs.Filled.{part-filled}
use Rattle.rank_makings.proofs.Makings.{own-part, own-sum}
use Rattle.rank_makings.proofs.filling.own_rows.Goals as goal

pub own_sum-requires-clause-kind : goal.own_sum-requires-clause-kind
own_sum-requires-clause-kind g c =
    own-sum (c.requires.at.1.1.1.kinds.own c.args.k c.requires.kind) (sym c.is_sum.ensures.sum ∙ c.if-is_sum.true)

pub own_sum-requires-clause-at : goal.own_sum-requires-clause-at
own_sum-requires-clause-at g c = (c.requires.at.0, (c.args.me, (c.args.share.now, (c.requires.at.1.0, (c.requires.at.1.1.0, c.requires.at.1.1.1)))))

pub dealt_fill-requires : goal.dealt_fill-requires
dealt_fill-requires g c =
    let at = c.requires.at.1.1.1 in
    let part = own-part (at.kinds.own c.args.k c.requires.kind) (sym c.is_sum.ensures.sum ∙ c.if-is_sum.false) in
    record { input = (c.requires.at.0, at.input); known = at.below; matrix = (part.spec, part.is) }

pub returns-then-is_sum : goal.returns-then-is_sum
returns-then-is_sum g c = record {
  filled = if-ok c.own_sum.result c.own_sum.ensures.filled (λ fill is files shapes given at. is files c.args.me c.args.share.now shapes given at);
}

pub returns : goal.returns
returns g c = record {
  filled = if-both c.dealt_fill.result c.dealt_fill.ensures.rows c.dealt_fill.ensures.table (λ fill rows table. λ files shapes given at.
      part-filled g.S.Scalar.semiring g.S.Scalar.conversions c.args.job.now files c.args.me c.args.pieces.now given c.args.k
      (own-part (at.kinds.own c.args.k c.requires.kind) (sym c.is_sum.ensures.sum ∙ c.if-is_sum.false)) fill (rows files at.input) (table files at.input));
}
