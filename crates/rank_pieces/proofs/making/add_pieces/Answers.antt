use Rattle.std.proofs.Common.{◌≡◌, ◌+◌, sym, subst, length, arith}
use Rattle.rank_pieces.specs.Pieces.{AreOwnPieces}
use Rattle.rank_pieces.proofs.OwnPieces.{one-more}
use Rattle.rank_pieces.proofs.making.add_pieces.Goals as goal

pub own_piece-requires-clause-before : goal.own_piece-requires-clause-before
own_piece-requires-clause-before g c =
    let before = c.requires.before in
    let now = c.loop-k.invariant before.0 before.1.0 before.1.1.0 before.1.1.1 in (
      before.0,
      (before.1.0, (before.1.1.0, subst (AreOwnPieces g.S.Scalar.semiring g.S.Scalar.conversions c.args.job.now before.0 c.args.me before.1.0 c.loop-k.k) (sym c.as_slice.ensures.value) now)),
    )

pub loop-k-preserved : goal.loop-k-preserved
loop-k-preserved g c = λ files given input before.
    let R = g.S.Scalar.semiring in
    let F = g.S.Scalar.conversions in
    let now = c.loop-k.invariant files given input before in
    subst (AreOwnPieces R F c.args.job.now files c.args.me given (c.loop-k.k + 1)) (sym c.in_ok-push.ensures.items)
    (one-more R F c.args.job.now files c.args.me given c.loop-k.k c.loop-k.pieces.items c.in_ok-piece.piece now
    (c.in_ok-piece.ensures.piece files given input (subst (AreOwnPieces R F c.args.job.now files c.args.me given c.loop-k.k) (sym c.as_slice.ensures.value) now)))

pub loop-k-init : goal.loop-k-init
loop-k-init g c = λ files given input before.
    let same : length c.args.pieces.now.items ≡ c.len-k.result = (let len = c.len-k.ensures in let ok = c.args.pieces.now.ok.0 in omega arith) in
    subst (λ n. AreOwnPieces g.S.Scalar.semiring g.S.Scalar.conversions c.args.job.now files c.args.me given n c.args.pieces.now.items) same before

pub returns : goal.returns
returns g c = record {
  pieces = λ files given input before.
      let same : c.loop-k.k ≡ c.args.count =
      (let far = c.loop-k-test.false in let low = c.loop-k.auto.k-end in let more = c.requires.more in let len = c.len-k.ensures in let ok = c.args.pieces.now.ok.0 in omega arith) in
      subst (λ n. AreOwnPieces g.S.Scalar.semiring g.S.Scalar.conversions c.args.job.now files c.args.me given n c.loop-k.pieces.items) same (c.loop-k.invariant files given input before);
}
