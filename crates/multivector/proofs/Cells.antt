-- The numbers of a vector, row after row, as a table.
use Rattle.std.proofs.Common.{◌≡◌, ℕ, zero, suc, ◌+◌, ◌*◌, ◌<◌, ◌≤◌, Bool, true, false, cond, ◌&&◌, eqb, ltb, List, [], ◌∷◌, ◌++◌, map, Option, Some, None, refl, sym, ap, subst, ◌∙◌, arith, length, get_or, set, take, drop, append-nil}
use Rattle.std.specs.Prelude.{slice_get, is_some}
use Rattle.std.specs.List.{zip}
use Rattle.std.specs.Option.{option_map}
use Rattle.std.proofs.lemmas.Bool.{eqb-true, eqb-false, eq-eqb, ne_eqb, ltb-true, lt-ltb}
use Rattle.std.proofs.lemmas.Nat.{mul-add-lt, same_from_place}
use Rattle.std.proofs.Math.Nat.{mul-le-mul_right}
use Rattle.scalar_laws.specs.Semiring.{Semiring}
use Rattle.tables.specs.Sums.{both_or_one}
use Rattle.tables.specs.Tables.{Table, with_place}
use Rattle.std.specs.List.Sorted.{IsStrictlyIncreasing}
use Rattle.std.proofs.lemmas.Option.{slice_get_read, get_or_from_slice_get}
use Rattle.combine_modes.specs.declared.mode.Mode.{Mode}
use Rattle.combine_modes.specs.Modes.{after_one}
use Rattle.distributor.specs.Entries.{Entry, entry_at, columns_of, with_cell}
use Rattle.distributor.proofs.Numbered.{entry_at-numbered, length-numbered, length-cells, few-cells, columns-numbered, cell-numbered, increasing-count_from}
use Rattle.multivector.specs.Vectors.{VectorState, IsVector, has_cell, vector_table, vector_entries, combination, combined_values}

both : (a b : Bool) → a && b ≡ true → (a ≡ true) × (b ≡ true)
both true b e = (refl, e)
both false b e = absurd (cc)

-- ---- places of cells

pub in-cell : {S : Type 0} (v : VectorState S) (i j : ℕ) → has_cell v i j ≡ true → (i < length v.map) × (j < v.columns)
in-cell v i j e = let h = both (ltb i (length v.map)) (ltb j v.columns) e in (ltb-true i (length v.map) h.0, ltb-true j v.columns h.1)

pub has-cell : {S : Type 0} (v : VectorState S) (i j : ℕ) → i < length v.map → j < v.columns → has_cell v i j ≡ true
has-cell v i j l m = ap (λ b. b && ltb j v.columns) (lt-ltb i (length v.map) l) ∙ lt-ltb j v.columns m

-- the place of a cell is within the numbers
pub within : {S : Type 0} (v : VectorState S) (row col : ℕ) → IsVector v → row < length v.map → col < v.columns → row * v.columns + col < length v.values
within v row col is l m = omega (arith, is, mul-add-lt row v.columns col (length v.map) l m)

pub row-within : {S : Type 0} (v : VectorState S) (row : ℕ) → IsVector v → row < length v.map → row * v.columns + v.columns ≤ length v.values
row-within v row is l = omega (arith, is, mul-le-mul_right v.columns l)

module _ {S : Type 0} where
  slice_get-set : (xs : List S) (r i : ℕ) (x : S) → r < length xs → slice_get (set xs r x) i ≡ cond (eqb r i) (Some x) (slice_get xs i)
  slice_get-set [] r i x l = absurd (omega arith)
  slice_get-set (y ∷ ys) zero zero x l = refl
  slice_get-set (y ∷ ys) zero (suc i) x l = sym (ap (λ b. cond b (Some x) (slice_get ys i)) (ne_eqb 0 (suc i) (λ e. absurd (omega arith))))
  slice_get-set (y ∷ ys) (suc r) zero x l = sym (ap (λ b. cond b (Some x) (Some y)) (ne_eqb (suc r) 0 (λ e. absurd (omega arith))))
  slice_get-set (y ∷ ys) (suc r) (suc i) x l = slice_get-set ys r i x (omega arith) ∙ sym (ap (λ b. cond b (Some x) (slice_get ys i)) (eqb-suc (eqb r i) refl))
    where
      eqb-suc : (b : Bool) → eqb r i ≡ b → eqb (suc r) (suc i) ≡ b
      eqb-suc true e = let same = eqb-true r i e in eq-eqb (suc r) (suc i) (omega arith)
      eqb-suc false e = ne_eqb (suc r) (suc i) (λ f. eqb-false r i e (omega arith))

  pub cell-is : (v : VectorState S) (row col : ℕ) (x : S) → row < length v.map → col < v.columns → slice_get v.values (row * v.columns + col) ≡ Some x → vector_table v row col ≡ Some x
  cell-is v row col x l m e = ap (λ b. cond b (slice_get v.values (row * v.columns + col)) None) (has-cell v row col l m) ∙ e

  -- one number is another
  pub table-set : (v : VectorState S) (row col : ℕ) (x : S) → IsVector v → row < length v.map → col < v.columns
      → vector_table (record v { values = set v.values (row * v.columns + col) x }) ≡ with_place (vector_table v) row col (Some x)
  table-set v row col x is l m = λ t i j. at i j t
    where
      at : (i j : ℕ) → cond (has_cell v i j) (slice_get (set v.values (row * v.columns + col) x) (i * v.columns + j)) None
          ≡ cond (eqb row i && eqb col j) (Some x) (cond (has_cell v i j) (slice_get v.values (i * v.columns + j)) None)
      at i j = go (has_cell v i j) (eqb row i && eqb col j) refl refl
        where
          there : (b : Bool) → eqb (row * v.columns + col) (i * v.columns + j) ≡ b
              → slice_get (set v.values (row * v.columns + col) x) (i * v.columns + j) ≡ cond b (Some x) (slice_get v.values (i * v.columns + j))
          there b e = slice_get-set v.values (row * v.columns + col) (i * v.columns + j) x (within v row col is l m) ∙ ap (λ b. cond b (Some x) (slice_get v.values (i * v.columns + j))) e

          apart : j < v.columns → (eqb row i && eqb col j) ≡ false → (b : Bool) → eqb (row * v.columns + col) (i * v.columns + j) ≡ b → b ≡ false
          apart n p false e = refl
          apart n p true e =
              let one = same_from_place row col i j v.columns m n (eqb-true (row * v.columns + col) (i * v.columns + j) e) in
              let yes : (eqb row i && eqb col j) ≡ true = ap (λ b. b && eqb col j) (eq-eqb row i one.0) ∙ eq-eqb col j one.1 in
              sym yes ∙ p

          go : (b p : Bool) → has_cell v i j ≡ b → (eqb row i && eqb col j) ≡ p
              → cond b (slice_get (set v.values (row * v.columns + col) x) (i * v.columns + j)) None ≡ cond p (Some x) (cond b (slice_get v.values (i * v.columns + j)) None)
          go true true e p =
              let h = both (eqb row i) (eqb col j) p in
              let r : row ≡ i = eqb-true row i h.0 in
              let c : col ≡ j = eqb-true col j h.1 in
              there true (eq-eqb (row * v.columns + col) (i * v.columns + j) (λ t. r t * v.columns + c t))
          go true false e p = there false (apart (in-cell v i j e).1 p (eqb (row * v.columns + col) (i * v.columns + j)) refl)
          go false true e p =
              let h = both (eqb row i) (eqb col j) p in
              let r : row ≡ i = eqb-true row i h.0 in
              let c : col ≡ j = eqb-true col j h.1 in
              let yes : true ≡ false = sym (has-cell v row col l m) ∙ (λ t. has_cell v (r t) (c t)) ∙ e in
              absurd (cc)
          go false false e p = refl

  -- each pair that a vector takes has a number
  pub all-there : (v : VectorState S) → IsVector v → (i j : ℕ) → has_cell v i j ≡ true → is_some (vector_table v i j) ≡ true
  all-there v is i j e =
      let h = in-cell v i j e in
      ap (λ b. is_some (cond b (slice_get v.values (i * v.columns + j)) None)) e ∙ some v.values (i * v.columns + j) (within v i j is h.0 h.1)
    where
      some : (xs : List S) (n : ℕ) → n < length xs → is_some (slice_get xs n) ≡ true
      some [] n l = absurd (omega arith)
      some (x ∷ xs) zero l = refl
      some (x ∷ xs) (suc n) l = some xs n (omega arith)

-- ---- alpha x + beta y

module _ {S : Type 0} (f : S × S → S) where
  -- the first i are done
  abbrev pub done : ℕ → List S → List S → List S
  done i xs ys = map f (zip (take i xs) (take i ys)) ++ drop i ys

  pub done-read : (i : ℕ) (xs ys : List S) → length xs ≡ length ys → i < length ys → (d : S) → get_or (done i xs ys) i d ≡ get_or ys i d
  done-read i [] ys e l d = absurd (omega (arith, e))
  done-read i (x ∷ xs) [] e l d = absurd (omega arith)
  done-read zero (x ∷ xs) (y ∷ ys) e l d = refl
  done-read (suc i) (x ∷ xs) (y ∷ ys) e l d = done-read i xs ys (omega (arith, e)) (omega arith) d

  done-set : (i : ℕ) (xs ys : List S) (x y : S) → length xs ≡ length ys → i < length ys → x ≡ get_or xs i x → y ≡ get_or ys i y → set (done i xs ys) i (f (x, y)) ≡ done (suc i) xs ys
  done-set i [] ys x y e l p q = absurd (omega (arith, e))
  done-set i (a ∷ xs) [] x y e l p q = absurd (omega arith)
  done-set zero (a ∷ xs) (b ∷ ys) x y e l p q = λ t. f (p t, q t) ∷ ys
  done-set (suc i) (a ∷ xs) (b ∷ ys) x y e l p q = ap (λ z. f (a, b) ∷ z) (done-set i xs ys x y (omega (arith, e)) (omega arith) p q)

  pub done-more : (i : ℕ) (xs ys now : List S) (x y z : S) → length xs ≡ length ys → i < length ys → now ≡ done i xs ys → x ≡ get_or xs i x → y ≡ get_or now i y → z ≡ f (x, y)
      → set now i z ≡ done (i + 1) xs ys
  done-more i xs ys now x y z e l h p q r =
      (λ t. set (h t) i (r t))
      ∙ done-set i xs ys x y e l p (q ∙ ap (λ w. get_or w i y) h ∙ done-read i xs ys e l y)
      ∙ (let one : suc i ≡ i + 1 = omega arith in ap (λ n. done n xs ys) one)

  -- one more sum at the end
  zipped-next : (i : ℕ) (xs ys : List S) (x y : S) → i < length xs → i < length ys → x ≡ get_or xs i x → y ≡ get_or ys i y
      → map f (zip (take i xs) (take i ys)) ++ f (x, y) ∷ [] ≡ map f (zip (take (suc i) xs) (take (suc i) ys))
  zipped-next i [] ys x y e l p q = absurd (omega arith)
  zipped-next i (a ∷ xs) [] x y e l p q = absurd (omega arith)
  zipped-next zero (a ∷ xs) (b ∷ ys) x y e l p q = λ t. f (p t, q t) ∷ []
  zipped-next (suc i) (a ∷ xs) (b ∷ ys) x y e l p q = ap (λ z. f (a, b) ∷ z) (zipped-next i xs ys x y (omega arith) (omega arith) p q)

  pub zipped-more : (i : ℕ) (xs ys : List S) (x y z : S) → length xs ≡ length ys → i < length ys → x ≡ get_or xs i x → y ≡ get_or ys i y → z ≡ f (x, y)
      → map f (zip (take i xs) (take i ys)) ++ z ∷ [] ≡ map f (zip (take (i + 1) xs) (take (i + 1) ys))
  zipped-more i xs ys x y z e l p q r =
      (λ t. map f (zip (take i xs) (take i ys)) ++ r t ∷ [])
      ∙ zipped-next i xs ys x y (omega (arith, e)) l p q
      ∙ (let one : suc i ≡ i + 1 = omega arith in ap (λ n. map f (zip (take n xs) (take n ys))) one)

  pub done-all : (i : ℕ) (xs ys now : List S) → length xs ≡ length ys → length ys ≤ i → now ≡ done i xs ys → now ≡ map f (zip xs ys)
  done-all i xs ys now e l h = h ∙ whole i xs ys e l
    where
      whole : (i : ℕ) (xs ys : List S) → length xs ≡ length ys → length ys ≤ i → done i xs ys ≡ map f (zip xs ys)
      whole zero [] [] e l = refl
      whole (suc i) [] [] e l = refl
      whole i [] (y ∷ ys) e l = absurd (omega (arith, e))
      whole i (x ∷ xs) [] e l = absurd (omega (arith, e))
      whole zero (x ∷ xs) (y ∷ ys) e l = absurd (omega arith)
      whole (suc i) (x ∷ xs) (y ∷ ys) e l = ap (λ z. f (x, y) ∷ z) (whole i xs ys (omega (arith, e)) (omega arith))

  pub length-combined : (xs ys : List S) → length xs ≡ length ys → length (map f (zip xs ys)) ≡ length ys
  length-combined [] [] e = refl
  length-combined [] (y ∷ ys) e = absurd (omega (arith, e))
  length-combined (x ∷ xs) [] e = absurd (omega (arith, e))
  length-combined (x ∷ xs) (y ∷ ys) e = ap suc (length-combined xs ys (omega (arith, e)))

module _ {S : Type 0} (R : Semiring S) (alpha beta : S) where
  combined-at : (xs ys : List S) (n : ℕ) → length xs ≡ length ys
      → slice_get (combined_values R alpha xs beta ys) n ≡ both_or_one R.plus (option_map (R.times alpha) (slice_get xs n)) (option_map (R.times beta) (slice_get ys n))
  combined-at [] [] n e = refl
  combined-at [] (y ∷ ys) n e = absurd (omega (arith, e))
  combined-at (x ∷ xs) [] n e = absurd (omega (arith, e))
  combined-at (x ∷ xs) (y ∷ ys) zero e = refl
  combined-at (x ∷ xs) (y ∷ ys) (suc n) e = combined-at xs ys n (omega (arith, e))

  pub update-table : (v w : VectorState S) → w.map ≡ v.map → w.columns ≡ v.columns → length w.values ≡ length v.values
      → vector_table (record v { values = combined_values R alpha w.values beta v.values }) ≡ combination R alpha (vector_table w) beta (vector_table v)
  update-table v w m c e = λ t i j. at i j t
    where
      at : (i j : ℕ) → vector_table (record v { values = combined_values R alpha w.values beta v.values }) i j ≡ combination R alpha (vector_table w) beta (vector_table v) i j
      at i j =
          go (has_cell v i j)
          ∙ sym (λ t. both_or_one R.plus (option_map (R.times alpha) (cond (same t) (slice_get w.values (i * c t + j)) None)) (option_map (R.times beta) (vector_table v i j)))
        where
          same : has_cell w i j ≡ has_cell v i j
          same = λ t. ltb i (length (m t)) && ltb j (c t)

          go : (b : Bool) → cond b (slice_get (combined_values R alpha w.values beta v.values) (i * v.columns + j)) None
              ≡ both_or_one R.plus (option_map (R.times alpha) (cond b (slice_get w.values (i * v.columns + j)) None)) (option_map (R.times beta) (cond b (slice_get v.values (i * v.columns + j)) None))
          go true = combined-at w.values v.values (i * v.columns + j) e
          go false = refl

-- ---- the same, of a vector and the value that contracts see of it

module _ {S : Type 0} (R : Semiring S) where
  pub set-clause : (v now : VectorState S) → v ≡ now → IsVector v → (row col at : ℕ) (x : S) → row < length now.map → col < now.columns → at ≡ row * now.columns + col
      → vector_table (record v { values = set v.values at x }) ≡ with_place (vector_table now) row col (Some x)
  set-clause v now e is row col at x l m h =
      let P : VectorState S → Type 0 = λ n. row < length n.map → col < n.columns → at ≡ row * n.columns + col → vector_table (record v { values = set v.values at x }) ≡ with_place (vector_table n) row col (Some x) in
      subst P e (λ l m h. ap (λ k. vector_table (record v { values = set v.values k x })) h ∙ table-set v row col x is l m) l m h

  pub combine-clause : (v now : VectorState S) → v ≡ now → IsVector v → (mode : Mode) (row col at : ℕ) (x old value : S) → row < length now.map → col < now.columns → at ≡ row * now.columns + col
      → old ≡ get_or v.values at old → Some x ≡ after_one R mode true (Some old) (Some value)
      → vector_table (record v { values = set v.values at x }) ≡ with_cell R mode true (vector_table now) row col value
  combine-clause v now e is mode row col at x old value l m h p q =
      let P : VectorState S → Type 0 = λ n. row < length n.map → col < n.columns → at ≡ row * n.columns + col → vector_table n row col ≡ Some old in
      let here = subst P e (λ l m h. cell-is v row col old l m (slice_get_read v.values (length v.values) (row * v.columns + col) old refl (within v row col is l m) (p ∙ ap (λ k. get_or v.values k old) h))) l m h in
      set-clause v now e is row col at x l m h
      ∙ ap (with_place (vector_table now) row col) (q ∙ ap (λ o. after_one R mode true o (Some value)) (sym here))

  pub fixed-clause : (v now : VectorState S) → v ≡ now → IsVector v → (i j : ℕ) → has_cell now i j ≡ true → is_some (vector_table now i j) ≡ true
  fixed-clause v now e is =
      let P : VectorState S → Type 0 = λ n. (i j : ℕ) → has_cell n i j ≡ true → is_some (vector_table n i j) ≡ true in
      subst P e (all-there v is)

  pub update-clause : (alpha beta : S) (v now w other : VectorState S) (values : List S) → v ≡ now → w ≡ other → IsVector v → IsVector w → other.map ≡ now.map → other.columns ≡ now.columns
      → values ≡ combined_values R alpha w.values beta v.values
      → vector_table (record v { values = values }) ≡ combination R alpha (vector_table other) beta (vector_table now)
  update-clause alpha beta v now w other values e f is js m c h =
      let maps : w.map ≡ v.map = ap (λ (n : VectorState S). n.map) f ∙ m ∙ sym (ap (λ (n : VectorState S). n.map) e) in
      let columns : w.columns ≡ v.columns = ap (λ (n : VectorState S). n.columns) f ∙ c ∙ sym (ap (λ (n : VectorState S). n.columns) e) in
      let sizes : length w.values ≡ length v.values = js ∙ (λ t. length (maps t) * columns t) ∙ sym is in
      ap (λ z. vector_table (record v { values = z })) h
      ∙ update-table R alpha beta v w maps columns sizes
      ∙ (λ t. combination R alpha (vector_table (f t)) beta (vector_table (e t)))

  -- the sum as a vector of its own, on a copy of the map
  pub sum-vector : (alpha beta : S) (v now w other : VectorState S) (copy : List ℕ) (values : List S) → v ≡ now → w ≡ other → IsVector v → IsVector w → other.map ≡ now.map → other.columns ≡ now.columns
      → copy ≡ v.map → values ≡ combined_values R alpha w.values beta v.values → IsVector (record { map = copy; columns = v.columns; values = values })
  sum-vector alpha beta v now w other copy values e f is js m c same h =
      let maps : w.map ≡ v.map = ap (λ (n : VectorState S). n.map) f ∙ m ∙ sym (ap (λ (n : VectorState S). n.map) e) in
      let columns : w.columns ≡ v.columns = ap (λ (n : VectorState S). n.columns) f ∙ c ∙ sym (ap (λ (n : VectorState S). n.columns) e) in
      let sizes : length w.values ≡ length v.values = js ∙ (λ t. length (maps t) * columns t) ∙ sym is in
      ap length h ∙ length-combined (λ pair. R.plus (R.times alpha pair.0) (R.times beta pair.1)) w.values v.values sizes ∙ is ∙ (λ t. length (sym same t) * v.columns)

  pub sum-clause : (alpha beta : S) (v now w other : VectorState S) (copy : List ℕ) (values : List S) → v ≡ now → w ≡ other → IsVector v → IsVector w → other.map ≡ now.map → other.columns ≡ now.columns
      → copy ≡ v.map → values ≡ combined_values R alpha w.values beta v.values
      → vector_table (record { map = copy; columns = v.columns; values = values }) ≡ combination R alpha (vector_table other) beta (vector_table now)
  sum-clause alpha beta v now w other copy values e f is js m c same h =
      (λ t. vector_table (record { map = same t; columns = v.columns; values = values })) ∙ update-clause alpha beta v now w other values e f is js m c h

  -- its rows as entries
  pub known-row : (now : VectorState S) (lid : ℕ) → lid < length (vector_entries now) → lid < length now.map
  known-row now lid l = omega (arith, l, length-numbered now.columns now.map now.values)

  pub known-column : (now : VectorState S) (lid at : ℕ) → lid < length (vector_entries now) → at < length (entry_at (vector_entries now) lid).cells → at < now.columns
  known-column now lid at l m =
      let e = ap (λ (n : Entry S). length n.cells) (entry_at-numbered now.columns now.map now.values lid (known-row now lid l)) in
      omega (arith, m, e, few-cells now.columns (get_or now.map lid 0) lid now.values)

  pub count-clause : (v now : VectorState S) → v ≡ now → IsVector v → (lid : ℕ) → lid < length (vector_entries now) → v.columns ≡ length (entry_at (vector_entries now) lid).cells
  count-clause v now e is lid l =
      let P : VectorState S → Type 0 = λ n. lid < length (vector_entries n) → v.columns ≡ length (entry_at (vector_entries n) lid).cells in
      subst P e (λ l. sym (ap (λ (n : Entry S). length n.cells) (entry_at-numbered v.columns v.map v.values lid (known-row v lid l)) ∙ length-cells v.columns (get_or v.map lid 0) lid v.values (row-within v lid is (known-row v lid l)))) l

  pub ascending-clause : (v now : VectorState S) → v ≡ now → IsVector v → (lid : ℕ) → lid < length (vector_entries now) → IsStrictlyIncreasing (columns_of (entry_at (vector_entries now) lid))
  ascending-clause v now e is lid l =
      let P : VectorState S → Type 0 = λ n. lid < length (vector_entries n) → IsStrictlyIncreasing (columns_of (entry_at (vector_entries n) lid)) in
      subst P e (λ l. let Q : List ℕ → Type 0 = IsStrictlyIncreasing in
      subst Q (sym (ap columns_of (entry_at-numbered v.columns v.map v.values lid (known-row v lid l)) ∙ columns-numbered v.columns (get_or v.map lid 0) lid v.values (row-within v lid is (known-row v lid l)))) (increasing-count_from 0 v.columns)) l

  pub gid-clause : (v now : VectorState S) → v ≡ now → (lid gid : ℕ) → lid < length (vector_entries now) → slice_get v.map lid ≡ Some gid → gid ≡ (entry_at (vector_entries now) lid).gid
  gid-clause v now e lid gid l h =
      let P : VectorState S → Type 0 = λ n. lid < length (vector_entries n) → slice_get n.map lid ≡ Some gid → gid ≡ (entry_at (vector_entries n) lid).gid in
      subst P e (λ l h. sym (ap (λ (n : Entry S). n.gid) (entry_at-numbered v.columns v.map v.values lid (known-row v lid l)) ∙ get_or_from_slice_get v.map lid gid 0 h)) l (ap (λ (n : VectorState S). slice_get n.map lid) (sym e) ∙ h)

  pub cell-clause : (v now : VectorState S) → v ≡ now → IsVector v → (lid col at : ℕ) (x : S) → lid < length (vector_entries now) → col < now.columns → at ≡ lid * now.columns + col → x ≡ get_or v.values at x
      → slice_get (entry_at (vector_entries now) lid).cells col ≡ Some (col, x)
  cell-clause v now e is lid col at x l m h p =
      let P : VectorState S → Type 0 = λ n. lid < length (vector_entries n) → col < n.columns → at ≡ lid * n.columns + col → slice_get (entry_at (vector_entries n) lid).cells col ≡ Some (col, x) in
      subst P e
      (λ l m h.
      ap (λ (n : Entry S). slice_get n.cells col) (entry_at-numbered v.columns v.map v.values lid (known-row v lid l))
      ∙ cell-numbered v.columns (get_or v.map lid 0) lid col v.values x m
      (slice_get_read v.values (length v.values) (lid * v.columns + col) x refl (within v lid col is (known-row v lid l) m) (p ∙ ap (λ k. get_or v.values k x) h))) l m h
