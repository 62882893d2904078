use Rattle.std.proofs.Common.{◌≡◌, ℕ, ◌+◌, ◌++◌, ◌∷◌, [], List, Some, take, sym, ap, ◌∙◌}
use Rattle.std.specs.Prelude.{slice_get}
use Rattle.std.proofs.lemmas.List.{take_more}
use Rattle.std.proofs.lemmas.Option.{get_or_from_slice_get, slice_get_within}
use Rattle.rank_core.proofs.lists.indices_of.Goals as goal

taken-more : (xs : List ℕ) (l g : ℕ) → Some g ≡ slice_get xs l → take (l + 1) xs ≡ take l xs ++ g ∷ []
taken-more xs l g e = take_more xs l g (slice_get_within xs l g (sym e)) ∙ ap (λ y. take l xs ++ y ∷ []) (get_or_from_slice_get xs l g g (sym e))

pub loop-lid-preserved : goal.loop-lid-preserved
loop-lid-preserved c =
    c.in_ok-push-in-Some.ensures.items ∙ ap (λ xs. xs ++ c.in-Some.gid ∷ []) c.loop-lid.invariant
    ∙ sym (taken-more c.args.map.now c.loop-lid.lid c.in-Some.gid c.in-Some.ensures.index)
