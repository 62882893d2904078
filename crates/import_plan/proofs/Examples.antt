-- The definitions, computed.
use Rattle.std.proofs.Common.{◌≡◌, ℕ, List, [], ◌∷◌, Option, None, Some, refl}
use Rattle.map_core.specs.Classes.{first_lacked}
use Rattle.import_plan.specs.Imports.{Import, import_start, import_lists, wanted_from, with_want}

-- rank 0 of 3: two leading indices alike, one permuted, one that rank 2 owns, and one without owner
owners : List (Option ℕ)
owners = Some 0 ∷ Some 0 ∷ Some 0 ∷ Some 2 ∷ None ∷ []

start : Import
start = import_start 0 3 (4 ∷ 1 ∷ 7 ∷ 9 ∷ []) (4 ∷ 1 ∷ 9 ∷ 3 ∷ 8 ∷ []) owners

wanted_of_2 : wanted_from start 2 ≡ 3 ∷ []
unfolding start owners
wanted_of_2 = refl

wanted_of_1 : wanted_from start 1 ≡ []
unfolding start owners
wanted_of_1 = refl

not_held : first_lacked start.source (5 ∷ []) ≡ Some 5
unfolding start
not_held = refl

finished : import_lists (with_want (with_want start 1 (7 ∷ [])) 2 [])
    ≡ record {
      me = 0;
      ranks = 3;
      same = 2;
      permute_to = 2 ∷ [];
      permute_from = 3 ∷ [];
      exports = [] ∷ (2 ∷ []) ∷ [] ∷ [];
      remotes = [] ∷ [] ∷ (3 ∷ []) ∷ [];
    }
unfolding start owners
finished = refl
