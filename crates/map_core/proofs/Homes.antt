-- The home of an index in a directory is its owner in the uniform layout.
use Rattle.std.proofs.Common.{◌≡◌, ℕ, ◌+◌, ◌<◌, ◌≤◌, ◌↔◌, true, nat_le, nat_lt, Some, arith}
use Rattle.std.proofs.lemmas.Bool.Decides.{nat_tests}
use Rattle.map_core.specs.Layouts.{owner}
use Rattle.map_core.specs.Uniform.{uniform_count, uniform_first, uniform_layout}
use Rattle.map_core.specs.Homes.{is_home}
use Rattle.map_core.proofs.Contiguous.{first_next, owner-uniform, within_uniform}
use Rattle.map_core.proofs.Members.{and_true, both_true}
use Rattle.map_core.proofs.Owners.{owner-has}

pub is_home-within : (P n h g : ℕ) → uniform_first P n h ≤ g → g < uniform_first P n h + uniform_count P n h → is_home P n h g ≡ true
is_home-within P n h g low high = both_true (nat_le (uniform_first P n h) g) (nat_lt g (uniform_first P n h + uniform_count P n h)) (grind (arith, nat_tests)) (grind (arith, nat_tests))

pub home : (P n h g : ℕ) → h < P → (is_home P n h g ≡ true) ↔ (owner (uniform_layout P n) g ≡ Some h)
home P n h g known = (there, back)
  where
    there : is_home P n h g ≡ true → owner (uniform_layout P n) g ≡ Some h
    there at =
        let both = and_true (nat_le (uniform_first P n h) g) (nat_lt g (uniform_first P n h + uniform_count P n h)) at in
        let low : uniform_first P n h ≤ g = let e = both.0 in grind (arith, nat_tests) in
        let high : g < uniform_first P n h + uniform_count P n h = let e = both.1 in grind (arith, nat_tests) in
        owner-uniform P n g h known low high

    back : owner (uniform_layout P n) g ≡ Some h → is_home P n h g ≡ true
    back at =
        let w = within_uniform P n h g (owner-has (uniform_layout P n) g h at) in
        let low = w.low in
        let high = w.high in
        let next = first_next P n h in
        is_home-within P n h g low (omega arith)
