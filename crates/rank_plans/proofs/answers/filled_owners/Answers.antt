use Rattle.std.proofs.Common.{[], ◌∷◌, ◌++◌, ◌+◌, ◌≡◌, ◌<◌, None, Some, ◌⊎◌, true, false, cond, drop, get_or, length, inl, inr, subst, sym, ap, ◌∙◌, append_assoc}
use Rattle.std.proofs.lemmas.List.{drop_more, drop_all}
use Rattle.map_core.specs.Homes.{is_home}
use Rattle.directory.proofs.Entries.{other_home, own_home}
use Rattle.rank_plans.specs.Answers.{filled, named_by}
use Rattle.rank_plans.proofs.Known.{filled-pass}
use Rattle.rank_plans.proofs.answers.filled_owners.Goals as goal
use Rattle.rank_plans.proofs.answers.filled_owners.Goals.{then-next-words+then-uniform_owner-from+in_ok-push, else-next-words+in_ok-push-2, else-next-words-via-then-next-words+else-uniform_owner-from, else-next-words-via-else-next-words}

pub loop-at-preserved : goal.loop-at-preserved
loop-at-preserved c =
    let P = c.args.ranks in
    let size = c.args.size in
    let from = c.args.from in
    let test = is_home P size from in
    let gids = c.args.gids.now in
    let owners = c.args.owners.now in
    let words = c.args.words.now in
    let done = c.loop-at.filled.items in
    let at = c.loop-at.at in
    let next = c.loop-at.next in
    let gid = get_or gids at 0 in
    let owner = get_or owners at None in
    let low = c.loop-at-test.true in
    let low_too : at < length owners = subst (λ n. at < n) (sym c.requires.beside) low in
    let xs = drop (at + 1) gids in
    let os = drop (at + 1) owners in
    let ws = drop next words in
    let more : filled test P (drop at gids) (drop at owners) ws ≡ filled test P (gid ∷ xs) (owner ∷ os) ws = λ i. filled test P (drop_more gids at 0 low i) (drop_more owners at None low_too i) ws in
    elim c.if-next-words.branch [
      | then-next-words+then-uniform_owner-from+in_ok-push w ↦
          let word = get_or words next 0 in
          let on : test gid ≡ true = own_home P size gid from c.requires.known_rank (w.uniform_owner.ensures.owns ∙ ap Some w.if-uniform_owner-from.true) in
          let is_word : ws ≡ word ∷ drop (next + 1) words = drop_more words next 0 w.if-next-words.true in
          let rest = filled test P xs os (drop (next + 1) words) in
          let split : filled test P (gid ∷ xs) (owner ∷ os) ws ≡ named_by P word ∷ rest =
          ap (filled test P (gid ∷ xs) (owner ∷ os)) is_word ∙ ap (λ b. cond b (named_by P word ∷ rest) (owner ∷ filled test P xs os (word ∷ drop (next + 1) words))) on in
          rw (w.filled-is, w.next-is)
          (ap (λ zs. zs ++ rest) w.in_ok-push.ensures.items
          ∙ append_assoc done (w.named_owner.result ∷ []) rest
          ∙ ap (λ o. done ++ o ∷ rest) w.named_owner.ensures.named
          ∙ ap (λ zs. done ++ zs) (sym (more ∙ split))
          ∙ c.loop-at.invariant)
      | else-next-words+in_ok-push-2 w ↦
          let pass : (ws ≡ []) ⊎ (test gid ≡ false) = elim w.else-next-words.branch [
            | else-next-words-via-then-next-words+else-uniform_owner-from v ↦ inr (other_home P size gid v.uniform_owner.result from c.requires.known_rank v.uniform_owner.ensures.owns v.if-uniform_owner-from.false)
            | else-next-words-via-else-next-words v ↦ inl (drop_all next words v.if-next-words.false)
          ] in
          let rest = filled test P xs os ws in
          rw (w.filled-is, w.next-is)
          (ap (λ zs. zs ++ rest) w.in_ok-push-2.ensures.items
          ∙ append_assoc done (owner ∷ []) rest
          ∙ ap (λ zs. done ++ zs) (sym (more ∙ filled-pass test P gid xs owner os ws pass))
          ∙ c.loop-at.invariant)
    ]
