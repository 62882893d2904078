-- Rows that come for positions, each for another one.
use Rattle.std.proofs.Common.{◌≡◌, ℕ, ◌<◌, Bool, true, false, cond, ◌&&◌, ◌||◌, eqb, nat_lt, List, [], ◌∷◌, ◌++◌, map, Some, None, refl, ap, ◌∙◌, lt-ltb}
use Rattle.std.specs.List.{list_all, zip}
use Rattle.std.specs.Option.{option_or}
use Rattle.std.proofs.lemmas.Bool.{eq-eqb}
use Rattle.tables.specs.declared.Cell.{Cell}
use Rattle.tables.specs.Indices.{AreBelow, AreDistinct, stands}
use Rattle.tables.specs.Tables.{found}
use Rattle.tables.proofs.Listed.{found-append}
use Rattle.distributor.specs.Entries.{Entry, cells_for, entry_at, placed}
use Rattle.distributor.specs.Transfers.{moved_cells}
use Rattle.crs_matrix.specs.Rows.{columns_in, number_at}
use Rattle.matrix_moves.proofs.Apart.{AreApart, AreOthers, apart-append}

module _ {S : Type 0} where
  -- the cells of rows, each at its position
  abbrev pub put_rows : List (List (ℕ × S)) → List ℕ → List (Cell S)
  put_rows [] tos = []
  put_rows (r ∷ rs) [] = []
  put_rows (r ∷ rs) (to ∷ tos) = map (placed to) r ++ put_rows rs tos

  -- each row has distinct columns
  abbrev pub HaveColumns : List (List (ℕ × S)) → Type 0
  HaveColumns [] = Unit {0}
  HaveColumns (r ∷ rs) = AreDistinct (columns_in r) × HaveColumns rs

  -- a place of a row
  pub found-row : (to : ℕ) (r : List (ℕ × S)) (i j : ℕ) → found (map (placed to) r) i j ≡ cond (eqb to i) (number_at r j) None
  found-row to [] i j = by (eqb to i)
    where
      by : (b : Bool) → None ≡ cond b (number_at {S = S} [] j) None
      by true = refl
      by false = refl
  found-row to (c ∷ cs) i j = by (eqb to i) (eqb c.0 j) (found-row to cs i j)
    where
      by : (a b : Bool) → found (map (placed to) cs) i j ≡ cond a (number_at cs j) None
          → cond (a && b) (Some c.1) (found (map (placed to) cs) i j) ≡ cond a (cond b (Some c.1) (number_at cs j)) None
      by true true rest = refl
      by true false rest = rest
      by false b rest = rest

  pub number-absent : (r : List (ℕ × S)) (j : ℕ) → stands j (columns_in r) ≡ false → number_at r j ≡ None
  number-absent [] j e = refl
  number-absent (c ∷ cs) j e = by (eqb c.0 j) e (number-absent cs j)
    where
      by : (b : Bool) → (b || stands j (columns_in cs)) ≡ false → (stands j (columns_in cs) ≡ false → number_at cs j ≡ None) → cond b (Some c.1) (number_at cs j) ≡ None
      by true h rest = absurd (let bad : ⊥ = cc in bad)
      by false h rest = rest h

  -- nothing comes for a position that is none of theirs
  found-elsewhere : (rs : List (List (ℕ × S))) (tos : List ℕ) (i j : ℕ) → stands i tos ≡ false → found (put_rows rs tos) i j ≡ None
  found-elsewhere [] tos i j e = refl
  found-elsewhere (r ∷ rs) [] i j e = refl
  found-elsewhere (r ∷ rs) (to ∷ tos) i j e =
      found-append (map (placed to) r) (put_rows rs tos) i j
      ∙ ap (λ o. option_or o (found (put_rows rs tos) i j)) (found-row to r i j)
      ∙ by (eqb to i) e (found-elsewhere rs tos i j)
    where
      by : (b : Bool) → (b || stands i tos) ≡ false → (stands i tos ≡ false → found (put_rows rs tos) i j ≡ None)
          → option_or (cond b (number_at r j) None) (found (put_rows rs tos) i j) ≡ None
      by true h rest = absurd (let bad : ⊥ = cc in bad)
      by false h rest = rest h

  row-apart : (to : ℕ) (r : List (ℕ × S)) → AreDistinct (columns_in r) → AreApart (map (placed to) r)
  row-apart to [] d = tt
  row-apart to (c ∷ cs) d = (
    found-row to cs to c.0
        ∙ ap (λ b. cond b (number_at cs c.0) None) (eq-eqb to to refl)
        ∙ number-absent cs c.0 d.0,
    row-apart to cs d.1,
  )

  row-others : (to : ℕ) (r : List (ℕ × S)) (rs : List (List (ℕ × S))) (tos : List ℕ) → stands to tos ≡ false → AreOthers (map (placed to) r) (put_rows rs tos)
  row-others to [] rs tos e = tt
  row-others to (c ∷ cs) rs tos e = (found-elsewhere rs tos to c.0 e, row-others to cs rs tos e)

  pub rows-apart : (rs : List (List (ℕ × S))) (tos : List ℕ) → HaveColumns rs → AreDistinct tos → AreApart (put_rows rs tos)
  rows-apart [] tos h d = tt
  rows-apart (r ∷ rs) [] h d = tt
  rows-apart (r ∷ rs) (to ∷ tos) h d =
      apart-append (map (placed to) r) (put_rows rs tos) (row-apart to r h.0) (rows-apart rs tos h.1 d.1) (row-others to r rs tos d.0)

  -- every cell is at a position below a count
  abbrev pub AreRowsBelow : ℕ → List (Cell S) → Type 0
  AreRowsBelow n [] = Unit {0}
  AreRowsBelow n (c ∷ cs) = (c.row < n) × AreRowsBelow n cs

  below-append : (n : ℕ) (xs ys : List (Cell S)) → AreRowsBelow n xs → AreRowsBelow n ys → AreRowsBelow n (xs ++ ys)
  below-append n [] ys a b = b
  below-append n (x ∷ xs) ys a b = (a.0, below-append n xs ys a.1 b)

  pub below-first : (n : ℕ) (xs ys : List (Cell S)) → AreRowsBelow n (xs ++ ys) → AreRowsBelow n xs
  below-first n [] ys a = tt
  below-first n (x ∷ xs) ys a = (a.0, below-first n xs ys a.1)

  row-below : (n to : ℕ) (r : List (ℕ × S)) → to < n → AreRowsBelow n (map (placed to) r)
  row-below n to [] l = tt
  row-below n to (c ∷ cs) l = (l, row-below n to cs l)

  pub rows-below : (n : ℕ) (rs : List (List (ℕ × S))) (tos : List ℕ) → AreBelow n tos → AreRowsBelow n (put_rows rs tos)
  rows-below n [] tos b = tt
  rows-below n (r ∷ rs) [] b = tt
  rows-below n (r ∷ rs) (to ∷ tos) b = below-append n (map (placed to) r) (put_rows rs tos) (row-below n to r b.0) (rows-below n rs tos b.1)

  -- so a target with so many rows takes them
  pub below-taken : (n : ℕ) (cells : List (Cell S)) → AreRowsBelow n cells → list_all (λ c. nat_lt c.row n) cells ≡ true
  below-taken n [] b = refl
  below-taken n (c ∷ cs) b = ap (λ x. x && list_all (λ (d : Cell S). nat_lt d.row n) cs) (lt-ltb c.row n b.0) ∙ below-taken n cs b.1

  -- the cells of entries that move
  pub moved-cells : (entries : List (Entry S)) (froms tos : List ℕ) → moved_cells entries (zip froms tos) ≡ put_rows (map (λ f. (entry_at entries f).cells) froms) tos
  moved-cells entries [] tos = refl
  moved-cells entries (f ∷ fs) [] = refl
  moved-cells entries (f ∷ fs) (t ∷ ts) = ap (λ z. cells_for t (entry_at entries f) ++ z) (moved-cells entries fs ts)
