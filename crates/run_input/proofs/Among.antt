-- Members of lists.
use Rattle.std.proofs.Common.{◌+◌, zero, suc, List, [], ◌∷◌, ◌++◌, length, sym, ◌∙◌, arith, length-append}
use Rattle.std.specs.List.{IsAmong}
use Rattle.std.proofs.lemmas.List.{get_or_append_left, get_or-append-add}

pub among-none : {X : Type 0} (v : X) → IsAmong [] v → ⊥
among-none v h = omega (arith, h.1.0)

pub among-first : {X : Type 0} (x v : X) (xs : List X) → IsAmong (x ∷ []) v → IsAmong (x ∷ xs) v
among-first x v xs (zero, (within, same)) = (0, (omega arith, same))
among-first x v xs (suc i, (within, same)) = absurd (omega (arith, within))

pub among-later : {X : Type 0} (x v : X) (xs : List X) → IsAmong xs v → IsAmong (x ∷ xs) v
among-later x v xs h = (suc h.0, (omega (arith, h.1.0), h.1.1))

pub among-left : {X : Type 0} (v : X) (xs ys : List X) → IsAmong xs v → IsAmong (xs ++ ys) v
among-left v xs ys h = (h.0, (omega (arith, h.1.0, length-append xs ys), h.1.1 ∙ sym (get_or_append_left xs ys v h.0 h.1.0)))

pub among-right : {X : Type 0} (v : X) (xs ys : List X) → IsAmong ys v → IsAmong (xs ++ ys) v
among-right v xs ys h = (length xs + h.0, (omega (arith, h.1.0, length-append xs ys), h.1.1 ∙ sym (get_or-append-add xs ys h.0 v)))
