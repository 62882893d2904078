-- The definitions, computed.
use Rattle.std.proofs.Common.{◌≡◌, [], ◌∷◌, None, Some, refl}
use Rattle.map_core.specs.Layouts.{owner, local_index, global_index}
use Rattle.map_core.specs.Uniform.{uniform_layout}
use Rattle.map_core.specs.Blocks.{blocks_layout}
use Rattle.map_core.specs.Cyclic.{cyclic_layout}
use Rattle.map_core.specs.Homes.{homed}
use Rattle.map_core.specs.Strides.{stride_list}

seven_over_three : (uniform_layout 3 7).lists ≡ (0 ∷ 1 ∷ 2 ∷ []) ∷ (3 ∷ 4 ∷ []) ∷ (5 ∷ 6 ∷ []) ∷ []
seven_over_three = refl

one_over_three : (uniform_layout 3 1).lists ≡ (0 ∷ []) ∷ [] ∷ [] ∷ []
one_over_three = refl

owned : owner (uniform_layout 3 7) 4 ≡ Some 1
owned = refl

not_owned : owner (uniform_layout 3 7) 7 ≡ None
not_owned = refl

local : local_index (7 ∷ 3 ∷ 9 ∷ []) 3 ≡ Some 1
local = refl

global : global_index (7 ∷ 3 ∷ 9 ∷ []) 2 ≡ Some 9
global = refl

dealt_in_turn : (cyclic_layout 3 7).lists ≡ (0 ∷ 3 ∷ 6 ∷ []) ∷ (1 ∷ 4 ∷ []) ∷ (2 ∷ 5 ∷ []) ∷ []
dealt_in_turn = refl

owned_in_turn : owner (cyclic_layout 3 7) 5 ≡ Some 2
owned_in_turn = refl

two_none_one : (blocks_layout (2 ∷ 0 ∷ 1 ∷ [])).lists ≡ (0 ∷ 1 ∷ []) ∷ [] ∷ (2 ∷ []) ∷ []
two_none_one = refl

size_of_blocks : (blocks_layout (2 ∷ 0 ∷ 1 ∷ [])).size ≡ 3
size_of_blocks = refl

home_of_last_half : homed 2 4 1 (3 ∷ 0 ∷ 2 ∷ []) ≡ 3 ∷ 2 ∷ []
home_of_last_half = refl

every_third : stride_list 1 3 3 ≡ 1 ∷ 4 ∷ 7 ∷ []
every_third = refl
