-- The definitions, computed.
use Rattle.std.proofs.Common.{◌≡◌, ℕ, List, [], ◌∷◌, Option, Some, refl}
use Rattle.map_core.specs.Classes.{first_lacked}
use Rattle.export_plan.specs.Exports.{Export, export_start, export_lists, offered_to, with_offer}

-- rank 1 of 3: an entry of each rank
owners : List (Option ℕ)
owners = Some 0 ∷ Some 1 ∷ Some 2 ∷ []

start : Export
start = export_start 1 3 (1 ∷ 2 ∷ 5 ∷ []) (2 ∷ []) owners

offered_to_0 : offered_to start 0 ≡ 1 ∷ []
unfolding start owners
offered_to_0 = refl

offered_to_2 : offered_to start 2 ≡ 5 ∷ []
unfolding start owners
offered_to_2 = refl

not_held : first_lacked start.target (6 ∷ []) ≡ Some 6
unfolding start
not_held = refl

finished : export_lists (with_offer (with_offer start 0 (2 ∷ [])) 2 [])
    ≡ record {
      me = 1;
      ranks = 3;
      same = 0;
      permute_to = 0 ∷ [];
      permute_from = 1 ∷ [];
      exports = (0 ∷ []) ∷ [] ∷ (2 ∷ []) ∷ [];
      remotes = (0 ∷ []) ∷ [] ∷ [] ∷ [];
    }
unfolding start owners
finished = refl
