-- The definitions, computed.
use Rattle.std.proofs.Common.{◌≡◌, [], ◌∷◌, None, Some, map, refl}
use Rattle.map_core.specs.Cyclic.{cyclic_layout}
use Rattle.directory.specs.Directories.{answer_for, owner_of, Directory}
use Rattle.directory.specs.Registrations.{registered_by, registration, registrations}

one_registered : Directory
one_registered = record { me = 0; ranks = 2; size = 4; entries = (1, 1) ∷ [] }

known : owner_of one_registered 1 ≡ Some 1
unfolding one_registered
known = refl

not_known : owner_of one_registered 0 ≡ None
unfolding one_registered
not_known = refl

answers : map (answer_for one_registered) (0 ∷ 1 ∷ []) ≡ 4294967295 ∷ 1 ∷ []
unfolding one_registered
answers = refl

-- rank 1 of a cyclic layout of 7 indices over 3 ranks has 1 and 4; rank 0 is the home of 0, 1 and 2
told_to_rank_0 : registration (cyclic_layout 3 7) 3 0 1 ≡ (1, 1 ∷ [])
told_to_rank_0 = refl

in_any_order : registered_by (registrations (cyclic_layout 3 7) 3 0 (2 ∷ 0 ∷ 1 ∷ [])) 1 ≡ Some 1
in_any_order = refl
