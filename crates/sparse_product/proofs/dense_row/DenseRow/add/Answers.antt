use Rattle.std.proofs.Common.{◌<◌, length, set, Some, sym, ap, subst, arith}
use Rattle.sparse_product.specs.Dense.{IsReached}
use Rattle.sparse_product.proofs.DenseRows.{reached-push}
use Rattle.sparse_product.proofs.dense_row.DenseRow.add.Goals as goal

pub invariant_of-self-in-None : goal.invariant_of-self-in-None
invariant_of-self-in-None g c =
    let numbers = c.self.inside.numbers.items in
    let low : c.args.at < length numbers = omega (arith, c.requires.known, ap length c.self.view_is) in
    subst (λ xs. IsReached xs (set numbers c.args.at (Some c.args.number))) (sym c.in_ok-push-in-None.ensures.items)
    (reached-push c.self.inside.reached.items numbers c.args.at c.args.number c.self.invariant low)
