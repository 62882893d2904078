use Rattle.std.proofs.Common.{◌≡◌, ◌+◌, ◌++◌, [], ◌∷◌, true, false, cond, not, take, slice_index_or, subst, sym, ap, ◌∙◌}
use Rattle.std.proofs.lemmas.List.{append-nil, take_all}
use Rattle.std.proofs.lemmas.List.Elements.{filter_more}
use Rattle.tables.specs.Indices.{AreDistinct, stands}
use Rattle.map_core.proofs.Members.{AreDistinct-filter}
use Rattle.rank_plans.specs.Answers.{lacked_in}
use Rattle.plan_phases.proofs.maps.lacked_of_list.Goals as goal
use Rattle.plan_phases.proofs.maps.lacked_of_list.Goals.{then-is_none+in_ok-push, else-is_none}

pub loop-gid-preserved : goal.loop-gid-preserved
loop-gid-preserved c =
    let held = c.args.held.now in
    let list = c.args.list.now in
    let i = c.loop-gid.gid-index in
    let gid = slice_index_or list i 0 in
    let before = lacked_in held (take i list) in
    let more : lacked_in held (take (i + 1) list) ≡ before ++ cond (not (stands gid held)) (gid ∷ []) [] = filter_more (λ g. not (stands g held)) list i 0 c.loop-gid-test.true in
    elim c.if-is_none.branch [
      | then-is_none+in_ok-push w ↦
          let off : stands gid held ≡ false = sym c.local_of.ensures.found ∙ c.is_none.ensures ∙ ap not w.if-is_none.true in
          rw w.lacked-is
          (w.in_ok-push.ensures.items
          ∙ ap (λ xs. xs ++ gid ∷ []) c.loop-gid.invariant
          ∙ sym (more ∙ ap (λ b. before ++ cond (not b) (gid ∷ []) []) off))
      | else-is_none w ↦
          let on : stands gid held ≡ true = sym c.local_of.ensures.found ∙ c.is_none.ensures ∙ ap not w.if-is_none.false in
          rw w.lacked-is
          (c.loop-gid.invariant
          ∙ sym (more ∙ ap (λ b. before ++ cond (not b) (gid ∷ []) []) on ∙ append-nil before))
    ]

pub returns-clause-distinct : goal.returns-clause-distinct
returns-clause-distinct c =
    let held = c.args.held.now in
    let list = c.args.list.now in
    let whole : take c.loop-gid.gid-index list ≡ list = take_all c.loop-gid.gid-index list c.loop-gid-test.false in
    λ once. subst AreDistinct (sym (c.loop-gid.invariant ∙ ap (lacked_in held) whole)) (AreDistinct-filter (λ g. not (stands g held)) list once)
