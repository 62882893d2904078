-- The keys of a table, in the map and in its view.
use Rattle.std.proofs.Common.{◌≡◌, List, [], ◌∷◌, map, String, Global, string_bytes, length, refl, ap, arith}
use Rattle.std.specs.Map.{keys_of}
use Rattle.toml.specs.declared.value.Value.{Value}
use Rattle.toml.specs.View.{items_view, members_view}
use Rattle.job_text.specs.Names.{keys_in}
use Rattle.job_text.specs.Lists.{item_count}

pub keys_in-view : (es : List (String Global × Value)) → keys_in (members_view es) ≡ map string_bytes (keys_of es)
keys_in-view [] = refl
keys_in-view (e ∷ es) = ap (λ t. string_bytes e.0 ∷ t) (keys_in-view es)

-- a list has as many items as its view
pub items_counted : (vs : List Value) → length vs ≡ item_count (items_view vs)
items_counted [] = refl
items_counted (v ∷ vs) = omega (arith, items_counted vs)
