-- Cells in order: their matrix is what is found among them, and no other cells in order have it.
use Rattle.std.proofs.Common.{◌≡◌, ◌≢◌, ℕ, ◌⊎◌, inl, inr, Bool, true, false, cond, eqb, ◌&&◌, List, [], ◌∷◌, None, Some, refl, sym, ap, ◌∙◌}
use Rattle.std.specs.List.{list_all}
use Rattle.std.specs.Option.{unwrap_or}
use Rattle.std.proofs.lemmas.Bool.{and_from}
use Rattle.scalar_laws.specs.Semiring.{Semiring}
use Rattle.tables.specs.declared.Cell.{Cell}
use Rattle.tables.specs.Sums.{both_or_one}
use Rattle.tables.specs.Tables.{Table, names, table_of, found, stands_before, AreInOrder}
use Rattle.tables.proofs.Tables.{names-place}
use Rattle.tables.proofs.Orders.{before-cases, before_all-trans, found-own, found-later}

-- Where cells stand in order, the sum at a place is what is found there.
pub table_of-found : {S : Type 0} (R : Semiring S) (cs : List (Cell S)) → AreInOrder cs → table_of R cs ≡ found cs
table_of-found R [] h = refl
table_of-found R (c ∷ cs) h = λ t i j. at i j (names i j c) refl (λ t. table_of-found R cs h.1 t) t
  where
    at : (i j : ℕ) (b : Bool) → names i j c ≡ b → table_of R cs ≡ found cs → both_or_one R.plus (cond b (Some c.value) None) (table_of R cs i j) ≡ cond b (Some c.value) (found cs i j)
    at i j true e rest =
        let p = names-place i j c e in
        let gone : found cs i j ≡ None = (λ t. found cs (sym p.0 t) (sym p.1 t)) ∙ found-later c cs h.0 in
        ap (both_or_one R.plus (Some c.value)) ((λ t. rest t i j) ∙ gone)
    at i j false e rest = λ t. rest t i j

module _ {S : Type 0} where
  value_of : (v w : S) → Some v ≡ Some w → v ≡ w
  value_of v w e = ap (λ o. unwrap_or o v) e

  -- A cell that stands before all of a list is found in the one list alone.
  missed : (c d : Cell S) (cs ds : List (Cell S)) → stands_before c d ≡ true → list_all (stands_before c) ds ≡ true → found (c ∷ cs) c.row c.col ≢ found (d ∷ ds) c.row c.col
  missed c d cs ds l h e = let gone = found-later c (d ∷ ds) (and_from _ _ l h) in let is = found-own c cs in cc

  -- Cells in order are determined by what is found among them.
  pub found-unique : (cs ds : List (Cell S)) → AreInOrder cs → AreInOrder ds → found cs ≡ found ds → cs ≡ ds
  found-unique [] [] g h e = refl
  found-unique [] (d ∷ ds) g h e = let is = found-own d ds in let same = ap (λ (t : Table _). t d.row d.col) e in cc
  found-unique (c ∷ cs) [] g h e = let is = found-own c cs in let same = ap (λ (t : Table _). t c.row c.col) e in cc
  found-unique (c ∷ cs) (d ∷ ds) g h e = go (before-cases c d) (found-unique cs ds g.1 h.1)
    where
      go : (stands_before c d ≡ true) ⊎ ((stands_before d c ≡ true) ⊎ ((c.row ≡ d.row) × (c.col ≡ d.col))) → (found cs ≡ found ds → cs ≡ ds) → c ∷ cs ≡ d ∷ ds
      go (inl l) more = absurd (missed c d cs ds l (before_all-trans c d ds l h.0) (λ t. e t c.row c.col))
      go (inr (inl l)) more = absurd (missed d c ds cs l (before_all-trans d c cs l g.0) (λ t. sym e t d.row d.col))
      go (inr (inr p)) more =
          let value : c.value ≡ d.value = value_of c.value d.value (sym (found-own c cs) ∙ (λ t. e t c.row c.col) ∙ (λ t. found (d ∷ ds) (p.0 t) (p.1 t)) ∙ found-own d ds) in
          λ t. record { row = p.0 t; col = p.1 t; value = value t } ∷ more (λ t i j. rest i j (names i j c) refl t) t
        where
          rest : (i j : ℕ) (b : Bool) → names i j c ≡ b → found cs i j ≡ found ds i j
          rest i j true f =
              let q = names-place i j c f in
              (λ t. found cs (sym q.0 t) (sym q.1 t)) ∙ found-later c cs g.0
              ∙ sym ((λ t. found ds ((sym q.0 ∙ p.0) t) ((sym q.1 ∙ p.1) t)) ∙ found-later d ds h.0)
          rest i j false f =
              sym (ap (λ b. cond b (Some c.value) (found cs i j)) f) ∙ (λ t. e t i j)
              ∙ ap (λ b. cond b (Some d.value) (found ds i j)) ((λ t. eqb (sym p.0 t) i && eqb (sym p.1 t) j) ∙ f)

  -- The same of their matrices.
  pub table_of-unique : (R : Semiring S) (cs ds : List (Cell S)) → AreInOrder cs → AreInOrder ds → table_of R cs ≡ table_of R ds → cs ≡ ds
  table_of-unique R cs ds g h e = found-unique cs ds g h (sym (table_of-found R cs g) ∙ e ∙ table_of-found R ds h)
