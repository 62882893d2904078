use Rattle.std.proofs.Common.{◌+◌, ◌<◌, length, ap, arith}
use Rattle.std.specs.List.{concat}
use Rattle.job_sheets.proofs.Counts.{count-more, count-within, differ}
use Rattle.job_sheets.proofs.totals.has_count.Goals as goal

pub returns-then-count-rest : goal.returns-then-count-rest
returns-then-count-rest c =
    let lists = c.args.lists.now in
    let long = ap length c.as_slice.ensures.items in
    let more = count-more lists c.loop-list.list-index c.list-item.result c.loop-list-test.true c.list-item.is in
    let all = count-within lists (c.loop-list.list-index + 1) in
    let test = c.if-count-rest.true in
    let done = c.loop-list.invariant in
    let low : c.args.size < length (concat lists) = omega (arith, long, more, all, test, done) in
    differ (length (concat lists)) c.args.size low

pub loop-list-preserved : goal.loop-list-preserved
loop-list-preserved c =
    let lists = c.args.lists.now in
    let long = ap length c.as_slice.ensures.items in
    let more = count-more lists c.loop-list.list-index c.list-item.result c.loop-list-test.true c.list-item.is in
    let test = c.if-count-rest.false in
    let done = c.loop-list.invariant in
    omega (arith, long, more, test, done)
