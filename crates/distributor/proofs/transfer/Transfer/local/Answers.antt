use Rattle.std.proofs.Common.{◌≡◌, ◌∙◌, ap, sym, ◌++◌}
use Rattle.std.specs.List.{zip}
use Rattle.std.proofs.lemmas.Result.{on_err_weaker}
use Rattle.distributor.specs.Transfers.{TransferState, own_moves, same_moves, moved_cells}
use Rattle.distributor.proofs.Combined.{on_err, moves-first, moves-second, part-of-same}
use Rattle.distributor.proofs.transfer.Transfer.local.Goals as goal

pub returns-in_err-combine_same-clause-part : goal.returns-in_err-combine_same-clause-part
returns-in_err-combine_same-clause-part g c =
    let p = c.args.self.now.plan in
    let same : p.same ≡ c.same.result = ap (λ (s : TransferState). s.plan.same) (sym c.self.view_is) ∙ sym c.same.ensures.same in
    on_err _
    (part-of-same g.S.Scalar.semiring c.args.mode g.B.DistTarget.FIXED (g.B.DistTarget.table c.args.target.now) _ _ _
    (ap (λ n. moved_cells (g.A.DistSource.entries c.args.source.now) (same_moves n ++ zip p.permute_from p.permute_to)) same)
    (moves-first g.S.Scalar.semiring c.args.mode g.B.DistTarget.FIXED (g.B.DistTarget.table c.args.target.now) (g.A.DistSource.entries c.args.source.now)
    (same_moves c.same.result) (zip p.permute_from p.permute_to) (g.B.DistTarget.table c.combine_same.new.target) c.in_err-combine_same.ensures.part))

pub returns-clause-part : goal.returns-clause-part
returns-clause-part g c =
    let p = c.args.self.now.plan in
    let same : p.same ≡ c.same.result = ap (λ (s : TransferState). s.plan.same) (sym c.self.view_is) ∙ sym c.same.ensures.same in
    let froms : p.permute_from ≡ c.permute_from-froms.result.now = ap (λ (s : TransferState). s.plan.permute_from) (sym c.self.view_is) ∙ sym c.permute_from-froms.ensures.sources in
    let tos : p.permute_to ≡ c.permute_to.result.now = ap (λ (s : TransferState). s.plan.permute_to) (sym c.self.view_is) ∙ sym c.permute_to.ensures.targets in
    let moves : own_moves p ≡ same_moves c.same.result ++ zip c.permute_from-froms.result.now c.permute_to.result.now = λ t. same_moves (same t) ++ zip (froms t) (tos t) in
    on_err_weaker _
    (λ part. part-of-same g.S.Scalar.semiring c.args.mode g.B.DistTarget.FIXED (g.B.DistTarget.table c.args.target.now) _ _ _
    (ap (moved_cells (g.A.DistSource.entries c.args.source.now)) moves)
    (moves-second g.S.Scalar.semiring c.args.mode g.B.DistTarget.FIXED (g.B.DistTarget.table c.args.target.now) (g.A.DistSource.entries c.args.source.now)
    (same_moves c.same.result) (zip c.permute_from-froms.result.now c.permute_to.result.now)
    (g.B.DistTarget.table c.combine_same.new.target) (g.B.DistTarget.table c.combine_permuted.new.target) c.in_ok-combine_same.ensures.cells part))
    c.combine_permuted.ensures.part
