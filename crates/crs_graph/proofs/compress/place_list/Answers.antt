use Rattle.std.proofs.Common.{◌≡◌, ◌<◌, ◌≤◌, ◌+◌, ◌-◌, length, sym, subst, arith}
use Rattle.std.proofs.lemmas.Option.{get_or_from_slice_get}
use Rattle.crs_graph.proofs.Marks.{place_at, place_more, place_other, ArePlaces}
use Rattle.crs_graph.proofs.compress.place_list.Goals as goal
use Rattle.crs_graph.proofs.compress.place_list.Goals.{then-first-gid+then-gid-first, else-first-gid, else-first-gid-via-then-first-gid+else-gid-first, else-first-gid-via-else-first-gid}

pub loop-lid-preserved : goal.loop-lid-preserved
loop-lid-preserved c =
    let first = c.args.first in
    let count = c.args.count in
    let cols = c.args.cols.now in
    let lid = c.loop-lid.lid in
    let many = c.len-lid-end.ensures.len in
    let test = c.loop-lid-test.true in
    let low : lid < length cols = omega arith in
    let index = get_or_from_slice_get cols lid c.in-Some.gid 0 (sym c.in-Some.ensures.index) in
    elim c.if-first-gid.branch [
      | then-first-gid+then-gid-first w ↦
          let above : first ≤ c.in-Some.gid = w.if-first-gid.true in
          let below : c.in-Some.gid - first < count = w.if-gid-first.true in
          subst (λ v. ArePlaces first count cols (lid + 1) v.items) (sym w.list-is) (place_more first count cols lid c.loop-lid.list.items (c.in-Some.gid - first) c.len-lid-end.ensures.distinct c.loop-lid.invariant low below (omega arith))
      | else-first-gid w ↦
          subst (λ v. ArePlaces first count cols (lid + 1) v.items) (sym w.list-is) (place_other first count cols lid c.loop-lid.list.items c.loop-lid.invariant (λ k lk is.
          elim w.else-first-gid.branch [
            | else-first-gid-via-then-first-gid+else-gid-first v ↦ let a = v.if-first-gid.true in let b = v.if-gid-first.false in absurd (omega arith)
            | else-first-gid-via-else-first-gid v ↦ let a = v.if-first-gid.false in absurd (omega arith)
          ]))
    ]

pub returns-clause-places : goal.returns-clause-places
returns-clause-places c =
    let cols = c.args.cols.now in
    let many = c.len-lid-end.ensures.len in
    let most = c.loop-lid.auto.lid-end in
    let least = c.loop-lid-test.false in
    let end : c.loop-lid.lid ≡ length cols = omega arith in
    place_at c.args.first c.args.count cols c.loop-lid.list.items (subst (λ n. ArePlaces c.args.first c.args.count cols n c.loop-lid.list.items) end c.loop-lid.invariant)
