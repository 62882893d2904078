use Rattle.std.proofs.Common.{◌≡◌, ◌<◌, length, sym, ap, refl}
use Rattle.std.specs.Vec.{vec_len}
use Rattle.gathered_rows.proofs.Adding.{AreSums-place, AreSums-same}
use Rattle.gathered_rows.proofs.sums.add_cell.Goals as goal
use Rattle.gathered_rows.proofs.sums.add_cell.Goals.{else-last-cell-via-then-last-cell+else-last-cell-2, else-last-cell-via-else-last-cell}

pub returns-then-last-cell-2 : goal.returns-then-last-cell-2
returns-then-last-cell-2 g c =
    let long : length c.args.sums.now.items ≡ vec_len c.args.sums.now = sym c.args.sums.now.ok.0 in
    let some : 0 < vec_len c.args.sums.now = c.in-Some.ensures.variant.0 refl in
    rw c.add-last.ensures (AreSums-same g.met.S.Scalar.laws c.args.sums.now.items _ c.in-Some.last.now c.args.cell some long c.in-Some.ensures.value c.requires.order c.if-last-cell.true c.if-last-cell-2.true)

pub returns : goal.returns
returns g c =
    let long : length c.args.sums.now.items ≡ vec_len c.args.sums.now = sym c.args.sums.now.ok.0 in
    let some : 0 < vec_len c.args.sums.now = c.in-Some.ensures.variant.0 refl in
    rw c.in_ok-push-2.ensures.items
    (elim c.else-last-cell.branch [
      | else-last-cell-via-then-last-cell+else-last-cell-2 w ↦
          AreSums-place c.args.sums.now.items _ _ c.in-Some.last.now c.args.cell some long c.in-Some.ensures.value (ap (λ v. v.items) w.sums-is) c.requires.order c.requires.last (λ p q. w.if-last-cell-2.false q)
      | else-last-cell-via-else-last-cell w ↦
          AreSums-place c.args.sums.now.items _ _ c.in-Some.last.now c.args.cell some long c.in-Some.ensures.value (ap (λ v. v.items) w.sums-is) c.requires.order c.requires.last (λ p q. w.if-last-cell.false p)
    ])
