use Rattle.distributor.proofs.Combined.{on_err}
use Rattle.distributor.proofs.Reserved.{part-reserved}
use Rattle.distributor.proofs.transfer.reserve_letters.Goals as goal

pub returns-in_err-reserve-clause-part : goal.returns-in_err-reserve-clause-part
returns-in_err-reserve-clause-part c =
    let failed = c.in_err-reserve.ensures.err in
    on_err _ (part-reserved c.args.width c.loop-rank.rank failed.0 c.nums_len.result c.args.plan.now.exports c.args.pool.now c.loop-rank.pool _ c.loop-rank.invariant failed.1 failed.2)
