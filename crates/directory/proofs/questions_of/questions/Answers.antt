use Rattle.std.proofs.Common.{◌≡◌, ◌+◌, ◌++◌, [], ◌∷◌, true, false, Some, cond, take, slice_index_or, sym, ap, ◌∙◌}
use Rattle.std.proofs.lemmas.List.{append-nil}
use Rattle.std.proofs.lemmas.List.Elements.{filter_more}
use Rattle.map_core.specs.Homes.{homed, is_home}
use Rattle.directory.proofs.Entries.{other_home, own_home}
use Rattle.directory.proofs.questions_of.questions.Goals as goal
use Rattle.directory.proofs.questions_of.questions.Goals.{then-uniform_owner-to+in_ok-push, else-uniform_owner-to}

pub loop-gid-preserved : goal.loop-gid-preserved
loop-gid-preserved c =
    let P = c.args.ranks in
    let n = c.args.size in
    let t = c.args.to in
    let gids = c.args.gids.now in
    let i = c.loop-gid.gid-index in
    let gid = slice_index_or gids i 0 in
    let more : homed P n t (take (i + 1) gids) ≡ homed P n t (take i gids) ++ cond (is_home P n t gid) (gid ∷ []) [] = filter_more (is_home P n t) gids i 0 c.loop-gid-test.true in
    elim c.if-uniform_owner-to.branch [
      | then-uniform_owner-to+in_ok-push w ↦
          let owns = c.uniform_owner.ensures.owns in
          let here : is_home P n t gid ≡ true = own_home P n gid t c.requires.known_rank (owns ∙ ap Some w.if-uniform_owner-to.true) in
          rw w.asked-is
          (w.in_ok-push.ensures.items
          ∙ ap (λ xs. xs ++ gid ∷ []) c.loop-gid.invariant
          ∙ sym (more ∙ ap (λ b. homed P n t (take i gids) ++ cond b (gid ∷ []) []) here))
      | else-uniform_owner-to w ↦
          let off : is_home P n t gid ≡ false = other_home P n gid c.uniform_owner.result t c.requires.known_rank c.uniform_owner.ensures.owns w.if-uniform_owner-to.false in
          rw w.asked-is
          (c.loop-gid.invariant
          ∙ sym (more ∙ ap (λ b. homed P n t (take i gids) ++ cond b (gid ∷ []) []) off ∙ append-nil (homed P n t (take i gids))))
    ]
