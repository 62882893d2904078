use Rattle.std.proofs.Common.{rules, ◌++◌, ◌∙◌, Ok, Err, sym, ap, subst, append-nil}
use contract.BorrowLft.{⊑_meet}
use Rattle.std.proofs.lemmas.Result.{err_from_is_err_and}
use Rattle.message_play.specs.Plays.{IsPlayed, wire_state}
use Rattle.model_defs.specs.Machine.{job_protocol}
use Rattle.rank_core.specs.Ranks.{IsRank}
use Rattle.rank_sim.specs.Runs.{IsRan}
use Rattle.rank_sim.proofs.Finished.{all-came}
use Rattle.rank_sim.proofs.Ran.{all-finished, ran-complete, ran-fault, ran-left}
use Rattle.rank_sim.proofs.Writables.{writable-end}
use Rattle.rank_sim.proofs.running.play_ranks.Goals as goal

pub play-requires : goal.play-requires
play-requires g c κs lives =
    -- a rank lives as long as the numbers that it holds: l1 to l16 are the lives of its parts, from those that hold numbers up to the rank
    let own = lives.0 in
    let k = κs.1.1.1.0 in
    let L = g.row.S.lives in
    let l1 = L ++ L in
    let p1 = ⊑_meet k L L own own in
    let l2 = L ++ l1 in
    let p2 = ⊑_meet k L l1 own p1 in
    let l3 = l1 ++ l2 in
    let p3 = ⊑_meet k l1 l2 p1 p2 in
    let l4 = L ++ l3 in
    let p4 = ⊑_meet k L l3 own p3 in
    let l5 = l2 ++ l2 in
    let p5 = ⊑_meet k l2 l2 p2 p2 in
    let l6 = L ++ l5 in
    let p6 = ⊑_meet k L l5 own p5 in
    let l7 = l6 ++ l6 in
    let p7 = ⊑_meet k l6 l6 p6 p6 in
    let l8 = L ++ l7 in
    let p8 = ⊑_meet k L l7 own p7 in
    let l9 = l1 ++ l1 in
    let p9 = ⊑_meet k l1 l1 p1 p1 in
    let l10 = l8 ++ l9 in
    let p10 = ⊑_meet k l8 l9 p8 p9 in
    let l11 = L ++ l10 in
    let p11 = ⊑_meet k L l10 own p10 in
    let l12 = l11 ++ l11 in
    let p12 = ⊑_meet k l11 l11 p11 p11 in
    let l13 = l4 ++ l12 in
    let p13 = ⊑_meet k l4 l12 p4 p12 in
    let l14 = L ++ l13 in
    let p14 = ⊑_meet k L l13 own p13 in
    let l15 = l14 ++ l14 in
    let p15 = ⊑_meet k l14 l14 p14 p14 in
    let l16 = L ++ l15 in
    let p16 = ⊑_meet k L l15 own p15 in
    (simp append-nil p16, (search rules, (c.requires.1.1.0, (c.requires.1.1.1.0, c.requires.1.1.1.1.1))))

pub returns-in_err-play-clause-ran : goal.returns-in_err-play-clause-ran
returns-in_err-play-clause-ran g c = λ files input is.
    let R = g.S.Scalar.semiring in
    let F = g.S.Scalar.conversions in
    let state_of = wire_state g.W.Wire.pending g.W.Wire.posted g.W.Wire.taken g.W.Wire.given g.W.Wire.is_honest in
    let error = err_from_is_err_and c.from_residual.result c.from_residual.ensures.1 in
    let job = c.args.job.now in
    let played = subst (λ P. IsPlayed (IsRank R F) P c.args.order.now (state_of c.args.wire.now) (state_of c.play.new.wire) c.play.new.peers (Err c.in_err-play.field-0.0)) is c.in_err-play.ensures.played in
    subst (IsRan R F job files c.args.order.now (state_of c.args.wire.now) (state_of c.play.new.wire)) (sym (error.1 ∙ ap Err error.2))
    (ran-fault R F job files c.args.order.now (state_of c.args.wire.now) (state_of c.play.new.wire) c.play.new.peers c.in_err-play.field-0.0 played)

pub end_of-requires : goal.end_of-requires
end_of-requires g c =
    let R = g.S.Scalar.semiring in
    let F = g.S.Scalar.conversions in
    let state_of = wire_state g.W.Wire.pending g.W.Wire.posted g.W.Wire.taken g.W.Wire.given g.W.Wire.is_honest in
    let input = c.requires.1.1.1.1.0 in
    let played = subst (λ x. IsPlayed (IsRank R F) (job_protocol R F c.args.job.now input.0) c.args.order.now (state_of c.args.wire.now) (state_of c.play.new.wire) c.play.new.peers (Ok x)) c.in-Complete.is
    (subst (λ P. IsPlayed (IsRank R F) P c.args.order.now (state_of c.args.wire.now) (state_of c.play.new.wire) c.play.new.peers (Ok c.in_ok-play.field-0)) input.1.1 c.in_ok-play.ensures.played) in
    record {
      finished = (input.0, (played.letters, all-finished R F c.args.job.now input.0 c.args.order.now (state_of c.args.wire.now) (state_of c.play.new.wire) c.play.new.peers played input.1.0));
    }

pub returns-in_ok-end_of-in-Complete-clause-ran : goal.returns-in_ok-end_of-in-Complete-clause-ran
returns-in_ok-end_of-in-Complete-clause-ran g c = λ files input is.
    let R = g.S.Scalar.semiring in
    let F = g.S.Scalar.conversions in
    let state_of = wire_state g.W.Wire.pending g.W.Wire.posted g.W.Wire.taken g.W.Wire.given g.W.Wire.is_honest in
    let played = subst (λ x. IsPlayed (IsRank R F) (job_protocol R F c.args.job.now files) c.args.order.now (state_of c.args.wire.now) (state_of c.play.new.wire) c.play.new.peers (Ok x)) c.in-Complete.is
    (subst (λ P. IsPlayed (IsRank R F) P c.args.order.now (state_of c.args.wire.now) (state_of c.play.new.wire) c.play.new.peers (Ok c.in_ok-play.field-0)) is c.in_ok-play.ensures.played) in
    let finished = all-finished R F c.args.job.now files c.args.order.now (state_of c.args.wire.now) (state_of c.play.new.wire) c.play.new.peers played input in
    ran-complete R F c.args.job.now files c.args.order.now (state_of c.args.wire.now) (state_of c.play.new.wire) c.play.new.peers played c.in_ok-end_of-in-Complete.field-0
    c.in_ok-end_of-in-Complete.ensures.complete (c.in_ok-end_of-in-Complete.ensures.shows files played.letters finished)

pub returns-in_ok-end_of-in-Complete-clause-writable : goal.returns-in_ok-end_of-in-Complete-clause-writable
returns-in_ok-end_of-in-Complete-clause-writable g c =
    let R = g.S.Scalar.semiring in
    let F = g.S.Scalar.conversions in
    let state_of = wire_state g.W.Wire.pending g.W.Wire.posted g.W.Wire.taken g.W.Wire.given g.W.Wire.is_honest in
    let input = c.requires.1.1.1.1.0 in
    let played = subst (λ x. IsPlayed (IsRank R F) (job_protocol R F c.args.job.now input.0) c.args.order.now (state_of c.args.wire.now) (state_of c.play.new.wire) c.play.new.peers (Ok x)) c.in-Complete.is
    (subst (λ P. IsPlayed (IsRank R F) P c.args.order.now (state_of c.args.wire.now) (state_of c.play.new.wire) c.play.new.peers (Ok c.in_ok-play.field-0)) input.1.1 c.in_ok-play.ensures.played) in
    let finished = all-finished R F c.args.job.now input.0 c.args.order.now (state_of c.args.wire.now) (state_of c.play.new.wire) c.play.new.peers played input.1.0 in
    writable-end R F c.args.job.now input.0 played.letters input.1.0.valid input.1.0.fitting (all-came c.args.job.now input.0 played.letters c.play.new.peers finished)
    c.in_ok-end_of-in-Complete.field-0 (c.in_ok-end_of-in-Complete.ensures.shows input.0 played.letters finished)

pub returns-in-Left-clause-ran : goal.returns-in-Left-clause-ran
returns-in-Left-clause-ran g c = λ files input is.
    let R = g.S.Scalar.semiring in
    let F = g.S.Scalar.conversions in
    let state_of = wire_state g.W.Wire.pending g.W.Wire.posted g.W.Wire.taken g.W.Wire.given g.W.Wire.is_honest in
    let played = subst (λ x. IsPlayed (IsRank R F) (job_protocol R F c.args.job.now files) c.args.order.now (state_of c.args.wire.now) (state_of c.play.new.wire) c.play.new.peers (Ok x)) c.in-Left.is
    (subst (λ P. IsPlayed (IsRank R F) P c.args.order.now (state_of c.args.wire.now) (state_of c.play.new.wire) c.play.new.peers (Ok c.in_ok-play.field-0)) is c.in_ok-play.ensures.played) in
    ran-left R F c.args.job.now files c.args.order.now (state_of c.args.wire.now) (state_of c.play.new.wire) c.play.new.peers c.in-Left.names played
