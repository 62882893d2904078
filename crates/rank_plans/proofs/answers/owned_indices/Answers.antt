use Rattle.std.proofs.Common.{[], ◌∷◌, ◌++◌, ◌+◌, ◌≡◌, ◌<◌, None, true, false, cond, drop, get_or, length, subst, sym, ap, ◌∙◌, append_assoc}
use Rattle.std.proofs.lemmas.List.{drop_more}
use Rattle.map_core.specs.Classes.{owns}
use Rattle.rank_plans.specs.Answers.{owned_by}
use Rattle.rank_plans.proofs.answers.owned_indices.Goals as goal
use Rattle.rank_plans.proofs.answers.owned_indices.Goals.{then-is_owner+in_ok-push, else-is_owner}

pub loop-at-preserved : goal.loop-at-preserved
loop-at-preserved c =
    let gids = c.args.gids.now in
    let owners = c.args.owners.now in
    let to = c.args.to in
    let at = c.loop-at.at in
    let gid = get_or gids at 0 in
    let owner = get_or owners at None in
    let low = c.loop-at-test.true in
    let low_too : at < length owners = subst (λ n. at < n) (sym c.requires.beside) low in
    let rest = owned_by to (drop (at + 1) gids) (drop (at + 1) owners) in
    let more : owned_by to (drop at gids) (drop at owners) ≡ cond (owns owner to) (gid ∷ rest) rest = λ i. owned_by to (drop_more gids at 0 low i) (drop_more owners at None low_too i) in
    elim c.if-is_owner.branch [
      | then-is_owner+in_ok-push w ↦
          let on : owns owner to ≡ true = sym c.is_owner.ensures.is ∙ w.if-is_owner.true in
          ap (λ o. o.items ++ rest) w.owned-is
          ∙ ap (λ xs. xs ++ rest) w.in_ok-push.ensures.items
          ∙ append_assoc c.loop-at.owned.items (gid ∷ []) rest
          ∙ ap (λ b. c.loop-at.owned.items ++ cond b (gid ∷ rest) rest) (sym on)
          ∙ ap (λ xs. c.loop-at.owned.items ++ xs) (sym more)
          ∙ c.loop-at.invariant
      | else-is_owner w ↦
          let off : owns owner to ≡ false = sym c.is_owner.ensures.is ∙ w.if-is_owner.false in
          ap (λ o. o.items ++ rest) w.owned-is
          ∙ ap (λ b. c.loop-at.owned.items ++ cond b (gid ∷ rest) rest) (sym off)
          ∙ ap (λ xs. c.loop-at.owned.items ++ xs) (sym more)
          ∙ c.loop-at.invariant
    ]
