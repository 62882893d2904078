use Rattle.std.proofs.Common.{ℕ, ◌<◌, ◌-◌, List, [], ◌∷◌, ◌++◌, ap, arith, subst, sym, length, length-append}
use Rattle.tables.specs.Indices.{AreBelow}
use Rattle.layers_bench.proofs.transfers.positions.Goals as goal

more : (n x : ℕ) (xs : List ℕ) → AreBelow n xs → x < n → AreBelow n (xs ++ x ∷ [])
more n x [] b l = (l, tt)
more n x (y ∷ ys) b l = (b.0, more n x ys b.1 l)

pub loop-i-preserved : goal.loop-i-preserved
loop-i-preserved c =
    let e = c.in_ok-push.ensures.items in
    let low = c.loop-i-test.true in
    let P : List ℕ → Type 0 = AreBelow c.args.count in
    record {
      count = omega (arith, ap length e, length-append c.loop-i.list.items ((c.args.count - 1 - c.loop-i.i) ∷ []), c.loop-i.invariant.count);
      below = subst P (sym e) (more c.args.count (c.args.count - 1 - c.loop-i.i) c.loop-i.list.items c.loop-i.invariant.below (omega (arith, low)));
    }
