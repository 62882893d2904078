use Rattle.std.proofs.Common.{◌≡◌, ℕ, ◌<◌, ◌++◌, ◌∷◌, [], true, List, length, map, take, Option, Some, sym, ap, ◌∙◌, ◌+◌}
use Rattle.std.proofs.lemmas.List.{map_more}
use Rattle.std.proofs.lemmas.Option.{get_or_from_slice_get, slice_get_within}
use Rattle.map_core.specs.Layouts.{global_index, owner, stands}
use Rattle.map_core.specs.Uniform.{uniform_layout}
use Rattle.map_core.proofs.Classes.{stands-index_at}
use Rattle.layers_bench.proofs.plans.owners_of.Goals as goal

is-below : (xs : List ℕ) (l g n : ℕ) → Some g ≡ global_index xs l → ((h : ℕ) → stands h xs ≡ true → h < n) → g < n
is-below xs l g n e below =
    let low : l < length xs = slice_get_within xs l g (sym e) in
    below g (ap (λ h. stands h xs) (sym (get_or_from_slice_get xs l g 0 (sym e))) ∙ stands-index_at xs l low)

one-more : (f : ℕ → Option ℕ) (xs : List ℕ) (l g : ℕ) → Some g ≡ global_index xs l → map f (take l xs) ++ f g ∷ [] ≡ map f (take (l + 1) xs)
one-more f xs l g e =
    ap (λ h. map f (take l xs) ++ f h ∷ []) (sym (get_or_from_slice_get xs l g 0 (sym e)))
    ∙ sym (map_more f xs l 0 (slice_get_within xs l g (sym e)))

pub uniform_owner-requires-clause-within : goal.uniform_owner-requires-clause-within
uniform_owner-requires-clause-within c =
    is-below c.args.target.now c.loop-lid.lid c.in-Some.gid c.args.size c.in-Some.ensures.index c.requires.below

pub loop-lid-preserved : goal.loop-lid-preserved
loop-lid-preserved c =
    let f : ℕ → Option ℕ = owner (uniform_layout 4 c.args.size) in
    c.in_ok-push-in-Some.ensures.items
    ∙ (λ t. c.loop-lid.invariant t ++ sym c.uniform_owner.ensures.owns t ∷ [])
    ∙ one-more f c.args.target.now c.loop-lid.lid c.in-Some.gid c.in-Some.ensures.index
