use Rattle.std.proofs.Common.{[], ◌∷◌, ◌++◌, ◌+◌, ◌≡◌, None, Some, true, false, cond, drop, get_or, sym, ap, ◌∙◌, append_assoc}
use Rattle.std.proofs.lemmas.List.{drop_more, drop_all}
use Rattle.map_core.specs.Layouts.{stands}
use Rattle.rank_plans.specs.Answers.{first_owner, rest_owners, target_owners}
use Rattle.rank_plans.proofs.Fresh.{drop-at}
use Rattle.rank_plans.proofs.answers.owners_of_target.Goals as goal
use Rattle.rank_plans.proofs.answers.owners_of_target.Goals.{then-is_some+in_ok-push-in-Some, else-is_some+then-next-known+in_ok-push-in-Some-2, else-is_some+else-next-known+in_ok-push-in-Some-3}

pub loop-lid-preserved : goal.loop-lid-preserved
loop-lid-preserved c =
    let me = c.args.me in
    let source = c.args.source.now in
    let target = c.args.target.now in
    let known = c.args.known.now in
    let done = c.loop-lid.owners.items in
    let lid = c.loop-lid.lid in
    let next = c.loop-lid.next in
    let gid = c.in-Some.gid in
    let xs = drop (lid + 1) target in
    let ks = drop next known in
    let more : target_owners me source (drop lid target) ks ≡ target_owners me source (gid ∷ xs) ks = ap (λ ys. target_owners me source ys ks) (drop-at target lid gid c.in-Some.ensures.index) in
    elim c.if-is_some.branch [
      | then-is_some+in_ok-push-in-Some w ↦
          let on : stands gid source ≡ true = sym c.local_of.ensures.found ∙ sym c.is_some.ensures ∙ w.if-is_some.true in
          let rest = target_owners me source xs ks in
          rw (w.owners-is, w.next-is)
          (ap (λ zs. zs ++ rest) w.in_ok-push-in-Some.ensures.items
          ∙ append_assoc done (Some me ∷ []) rest
          ∙ ap (λ zs. done ++ zs) (sym (more ∙ ap (λ b. cond b (Some me) (first_owner ks) ∷ target_owners me source xs (cond b ks (rest_owners ks))) on))
          ∙ c.loop-lid.invariant)
      | else-is_some+then-next-known+in_ok-push-in-Some-2 w ↦
          let off : stands gid source ≡ false = sym c.local_of.ensures.found ∙ sym c.is_some.ensures ∙ w.if-is_some.false in
          let owner = get_or known next None in
          let is_next : ks ≡ owner ∷ drop (next + 1) known = drop_more known next None w.if-next-known.true in
          let rest = target_owners me source xs (drop (next + 1) known) in
          rw (w.owners-is, w.next-is)
          (ap (λ zs. zs ++ rest) w.in_ok-push-in-Some-2.ensures.items
          ∙ append_assoc done (owner ∷ []) rest
          ∙ ap (λ zs. done ++ zs) (sym (more ∙ ap (λ b. cond b (Some me) (first_owner ks) ∷ target_owners me source xs (cond b ks (rest_owners ks))) off
          ∙ ap (λ vs. first_owner vs ∷ target_owners me source xs (rest_owners vs)) is_next))
          ∙ c.loop-lid.invariant)
      | else-is_some+else-next-known+in_ok-push-in-Some-3 w ↦
          let off : stands gid source ≡ false = sym c.local_of.ensures.found ∙ sym c.is_some.ensures ∙ w.if-is_some.false in
          let is_none : ks ≡ [] = drop_all next known w.if-next-known.false in
          let rest = target_owners me source xs ks in
          rw (w.owners-is, w.next-is)
          (ap (λ zs. zs ++ rest) w.in_ok-push-in-Some-3.ensures.items
          ∙ append_assoc done (None ∷ []) rest
          ∙ ap (λ zs. done ++ zs) (sym (more ∙ ap (λ b. cond b (Some me) (first_owner ks) ∷ target_owners me source xs (cond b ks (rest_owners ks))) off
          ∙ ap (λ vs. first_owner vs ∷ target_owners me source xs (rest_owners vs)) is_none
          ∙ ap (λ vs. None ∷ target_owners me source xs vs) (sym is_none)))
          ∙ c.loop-lid.invariant)
    ]
