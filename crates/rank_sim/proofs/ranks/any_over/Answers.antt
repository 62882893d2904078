use Rattle.std.proofs.Common.{◌≡◌, Some, inl, inr, subst, sym, ap, ◌∙◌, arith}
use Rattle.std.specs.Prelude.{slice_get}
use Rattle.std.proofs.lemmas.Bool.{cases_lt}
use Rattle.std.proofs.lemmas.Option.{slice_get-get_or, slice_get_within, same_Some}
use Rattle.rank_core.specs.Ranks.{IsRank}
use Rattle.rank_sim.proofs.Finished.{finished-at, none-over, some-over}
use Rattle.rank_sim.proofs.ranks.any_over.Goals as goal

pub any_over-requires : goal.any_over-requires
any_over-requires g c =
    let all = c.requires.finished in
    let there = slice_get-get_or c.args.ranks.now c.loop-rank.rank-index c.rank-item.result c.loop-rank-test.true ∙ ap (λ x. Some x) (sym c.rank-item.is) in
    record { done = finished-at all.0 all.1.0 all.1.1.0 c.args.ranks.now all.1.1.1 c.loop-rank.rank-index c.rank-item.result there }

pub loop-rank-preserved : goal.loop-rank-preserved
loop-rank-preserved g c = λ k rank low at.
    let idx = c.loop-rank.rank-index in
    elim (cases_lt k idx) [
      | inl before ↦ c.loop-rank.invariant k rank before at
      | inr here ↦
          let same : k ≡ idx = omega arith in
          let there : slice_get c.args.ranks.now idx ≡ Some c.rank-item.result = slice_get-get_or c.args.ranks.now idx c.rank-item.result c.loop-rank-test.true ∙ ap (λ x. Some x) (sym c.rank-item.is) in
          let one : c.rank-item.result ≡ rank = same_Some c.rank-item.result rank (sym there ∙ ap (slice_get c.args.ranks.now) (sym same) ∙ at) in
          λ s stands done v i j. c.any_over.ensures.none c.if-any_over.false s (subst (λ r. IsRank g.S.Scalar.semiring g.S.Scalar.conversions r s) (sym one) stands) done v i j
    ]

pub returns-then-any_over : goal.returns-then-any_over
returns-then-any_over g c =
    let idx = c.loop-rank.rank-index in
    let there : slice_get c.args.ranks.now idx ≡ Some c.rank-item.result = slice_get-get_or c.args.ranks.now idx c.rank-item.result c.loop-rank-test.true ∙ ap (λ x. Some x) (sym c.rank-item.is) in
    record {
      over = λ job files letters all.
          some-over job files letters c.args.ranks.now all g.met.S.Scalar.conversion_laws idx c.rank-item.result there (c.any_over.ensures.some c.if-any_over.true);
    }

pub returns : goal.returns
returns g c = record {
  over = λ job files letters all.
      none-over job files letters c.args.ranks.now all g.met.S.Scalar.conversion_laws
      (λ k rank at. let within = slice_get_within c.args.ranks.now k rank at in c.loop-rank.invariant k rank (let past = c.loop-rank-test.false in omega arith) at);
}
