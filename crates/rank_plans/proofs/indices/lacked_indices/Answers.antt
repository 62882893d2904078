use Rattle.std.proofs.Common.{◌≡◌, ◌++◌, ◌∷◌, ◌+◌, [], true, false, cond, not, take, subst, sym, ap, ◌∙◌}
use Rattle.std.proofs.lemmas.List.{append-nil, take_all}
use Rattle.std.proofs.lemmas.List.Elements.{filter-append}
use Rattle.map_core.specs.Layouts.{AreDistinct, stands}
use Rattle.map_core.proofs.Members.{AreDistinct-filter}
use Rattle.rank_plans.specs.Answers.{lacked_in}
use Rattle.rank_plans.proofs.Fresh.{taken-more}
use Rattle.rank_plans.proofs.indices.lacked_indices.Goals as goal
use Rattle.rank_plans.proofs.indices.lacked_indices.Goals.{then-is_none+in_ok-push-in-Some, else-is_none}

pub loop-lid-preserved : goal.loop-lid-preserved
loop-lid-preserved c =
    let source = c.args.source.now in
    let target = c.args.target.now in
    let lid = c.loop-lid.lid in
    let gid = c.in-Some.gid in
    let before = lacked_in source (take lid target) in
    let more : lacked_in source (take (lid + 1) target) ≡ before ++ cond (not (stands gid source)) (gid ∷ []) [] =
    ap (lacked_in source) (taken-more target lid gid c.in-Some.ensures.index) ∙ filter-append (λ g. not (stands g source)) (take lid target) (gid ∷ []) in
    elim c.if-is_none.branch [
      | then-is_none+in_ok-push-in-Some w ↦
          let off : stands gid source ≡ false = sym c.local_of.ensures.found ∙ c.is_none.ensures ∙ ap not w.if-is_none.true in
          rw w.lacked-is
          (w.in_ok-push-in-Some.ensures.items
          ∙ ap (λ xs. xs ++ gid ∷ []) c.loop-lid.invariant
          ∙ sym (more ∙ ap (λ b. before ++ cond (not b) (gid ∷ []) []) off))
      | else-is_none w ↦
          let on : stands gid source ≡ true = sym c.local_of.ensures.found ∙ c.is_none.ensures ∙ ap not w.if-is_none.false in
          rw w.lacked-is
          (c.loop-lid.invariant
          ∙ sym (more ∙ ap (λ b. before ++ cond (not b) (gid ∷ []) []) on ∙ append-nil before))
    ]

pub returns-clause-distinct : goal.returns-clause-distinct
returns-clause-distinct c =
    let source = c.args.source.now in
    let target = c.args.target.now in
    let whole : take c.loop-lid.lid target ≡ target = take_all c.loop-lid.lid target (rw (sym c.len-lid-end.ensures.len) c.loop-lid-test.false) in
    subst AreDistinct (sym (c.loop-lid.invariant ∙ ap (lacked_in source) whole)) (AreDistinct-filter (λ g. not (stands g source)) target c.len-lid-end.ensures.distinct)
