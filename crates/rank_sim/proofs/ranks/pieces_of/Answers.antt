use Rattle.std.proofs.Common.{◌≡◌, ◌<◌, ◌+◌, ℕ, All, [], length, map, Some, subst, sym, ap, ◌∙◌, arith}
use Rattle.std.specs.Prelude.{slice_get}
use Rattle.std.specs.List.{slice_index_or}
use Rattle.std.proofs.lemmas.List.Elements.{All-push}
use Rattle.std.proofs.lemmas.Option.{slice_get-get_or}
use Rattle.tables.specs.Tables.{AreInOrder, found}
use Rattle.peers.specs.Protocols.{firsts}
use Rattle.model_defs.specs.Machine.{piece}
use Rattle.rank_sim.proofs.Finished.{cells-of-piece, finished-at, pieces-push}
use Rattle.rank_sim.proofs.RankResults.{length-push}
use Rattle.rank_sim.proofs.ranks.pieces_of.Goals as goal

pub piece-requires : goal.piece-requires
piece-requires g c =
    let all = c.requires.finished in
    let there = slice_get-get_or c.args.ranks.now c.loop-rank.rank-index c.rank-item.result c.loop-rank-test.true ∙ ap (λ x. Some x) (sym c.rank-item.is) in
    record { done = finished-at all.0 all.1.0 all.1.1.0 c.args.ranks.now all.1.1.1 c.loop-rank.rank-index c.rank-item.result there }

pub loop-rank-preserved : goal.loop-rank-preserved
loop-rank-preserved g c =
    let F = g.S.Scalar.conversions in
    let idx = c.loop-rank.rank-index in
    let new = c.in_ok-piece.field-0 in
    let there : slice_get c.args.ranks.now idx ≡ Some c.rank-item.result = slice_get-get_or c.args.ranks.now idx c.rank-item.result c.loop-rank-test.true ∙ ap (λ x. Some x) (sym c.rank-item.is) in
    record {
      many = ap length c.in_ok-push.ensures.items ∙ length-push c.loop-rank.pieces.items new idx c.loop-rank.invariant.many;
      in_order = subst (All (λ piece. AreInOrder piece.items)) (sym c.in_ok-push.ensures.items)
          (All-push (λ piece. AreInOrder piece.items) c.loop-rank.pieces.items new c.loop-rank.invariant.in_order c.in_ok-piece.ensures.in_order);
      cells = λ job files letters all.
          subst (λ ps. (p : ℕ) → p < idx + 1 → found (slice_index_or (map (λ piece. piece.items) ps) p []) ≡ piece g.S.Scalar.semiring F job files p c.args.value (firsts letters)) (sym c.in_ok-push.ensures.items)
          (pieces-push (λ p cells. found cells ≡ piece g.S.Scalar.semiring F job files p c.args.value (firsts letters)) c.loop-rank.pieces.items new idx c.loop-rank.invariant.many
          (c.loop-rank.invariant.cells job files letters all)
          (cells-of-piece job files letters c.args.ranks.now all g.met.S.Scalar.conversion_laws idx c.args.value c.rank-item.result new.items there c.in_ok-piece.ensures.cells));
    }

pub returns : goal.returns
returns g c =
    let end : c.loop-rank.rank-index ≡ length c.args.ranks.now = omega arith in
    record {
      many = c.loop-rank.invariant.many ∙ end;
      in_order = c.loop-rank.invariant.in_order;
      cells = λ job files letters all p low. c.loop-rank.invariant.cells job files letters all p (let many = all.many in omega arith);
    }
