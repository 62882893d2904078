-- What calls answer, as their contracts say it.
use Rattle.std.proofs.Common.{◌≡◌, ℕ, List, Some, get_or, Result, Ok, Err, IfOk, ◌∙◌, subst}
use Rattle.std.specs.Prelude.{slice_get}
use Rattle.std.proofs.lemmas.Option.{get_or_from_slice_get}

pub if-ok : {T E : Type 0} {P Q : T → Type 0} (r : Result T E) → IfOk r P → ((x : T) → P x → Q x) → IfOk r Q
if-ok (Ok x) p f = f x p
if-ok (Err e) p f = tt

-- what holds of an item that was read holds of the item of this number
pub read-as : {A : Type 0} (P : A → Type 0) (xs : List A) (k : ℕ) (x : A) → x ≡ get_or xs k x → P x → (a : A) → slice_get xs k ≡ Some a → P a
read-as P xs k x is p a at = subst P (is ∙ get_or_from_slice_get xs k a x at) p
