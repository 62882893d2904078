-- Which names stand in a list.
use Rattle.std.proofs.Common.{◌≡◌, ◌∙◌, Bool, true, false, ◌||◌, List, [], ◌∷◌, ◌++◌, refl, ap}
use Rattle.std.proofs.lemmas.List.Folds.{list_any-append}
use Rattle.outside.specs.declared.name.Name.{Name}
use Rattle.outside.specs.Letters.{same_name}
use Rattle.peers.specs.Protocols.{stands_in}

or_false : (a : Bool) → (a || false) ≡ a
or_false true = refl
or_false false = refl

-- one more name
pub stands_in-push : (names : List Name) (n m : Name) → stands_in (names ++ n ∷ []) m ≡ (stands_in names m || same_name m n)
stands_in-push names n m =
    list_any-append (same_name m) names (n ∷ []) ∙ ap (λ b. stands_in names m || b) (or_false (same_name m n))
