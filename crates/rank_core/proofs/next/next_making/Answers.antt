use Rattle.std.proofs.Common.{◌≡◌, None, Some, refl, sym, ap, ◌∙◌, subst}
use Rattle.rank_core.specs.declared.makings.Making.TheVariants.{Arriving, Filled}
use Rattle.rank_core.specs.Leaving.{CanGoOn, CanTake, IsBegunBy, IsNext, IsTaken}
use Rattle.rank_core.proofs.next.next_making.Goals as goal

pub returns-in_ok-rows-in-None : goal.returns-in_ok-rows-in-None
returns-in_ok-rows-in-None g c = record {
  next = λ files given can.
      let R = g.S.Scalar.semiring in
      let F = g.S.Scalar.conversions in
      let job = c.args.job.now in
      let own = sym c.has_own_rows.ensures.own ∙ c.if-not-has_own_rows.false in
      let goes = subst (CanGoOn R F job files c.args.me c.args.share.now c.args.shapes.now c.args.pieces.now given c.args.k) c.in-None.is can in
      subst (λ m. IsNext R F job files c.args.me c.args.pieces.now given c.args.k m (Some (Filled c.in_ok-rows-in-None.rows))) (sym c.in-None.is)
      (subst (λ b. IsBegunBy R F job files c.args.me b c.args.pieces.now given c.args.k (Some (Filled c.in_ok-rows-in-None.rows))) (sym own)
      (c.in_ok-rows-in-None.rows, refl, c.in_ok-rows-in-None.ensures.filled files c.args.shapes.now given (goes own)));
}

pub returns-in_ok-rows-in-Rows : goal.returns-in_ok-rows-in-Rows
returns-in_ok-rows-in-Rows g c = record {
  next = λ files given can.
      let R = g.S.Scalar.semiring in
      let F = g.S.Scalar.conversions in
      let job = c.args.job.now in
      let is : c.args.making ≡ Some (Arriving c.in-Some-Arriving.coming) = c.in-Some-Arriving.is ∙ ap (λ m. Some m) c.in-Some-Arriving.field-0-is in
      let take = subst (CanTake R F job files c.args.me c.args.share.now c.args.shapes.now c.args.pieces.now given c.args.k) (sym c.in-Rows.ensures.came)
      (subst (CanGoOn R F job files c.args.me c.args.share.now c.args.shapes.now c.args.pieces.now given c.args.k) is can) in
      subst (λ m. IsNext R F job files c.args.me c.args.pieces.now given c.args.k m (Some (Filled c.in_ok-rows-in-Rows.rows))) (sym is)
      (subst (λ w. IsTaken R F job files c.args.me c.args.pieces.now given c.args.k w (Some (Filled c.in_ok-rows-in-Rows.rows))) c.in-Rows.ensures.came
      (c.in_ok-rows-in-Rows.rows, refl, c.in_ok-rows-in-Rows.ensures.filled files c.args.me c.args.share.now c.args.shapes.now given take));
}
