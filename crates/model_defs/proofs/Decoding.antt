-- The numbers of a letter are read back at their places.
use Rattle.std.proofs.Common.{◌≡◌, ℕ, suc, ◌<◌, ◌+◌, ◌*◌, Bool, true, false, cond, ◌&&◌, ◌||◌, eqb, List, [], ◌∷◌, ◌++◌, map, length, take, drop, Option, None, Some, refl, sym, ap, ap₂, ◌∙◌, arith, length-append}
use Rattle.std.specs.Prelude.{is_some}
use Rattle.std.specs.List.{flat_map}
use Rattle.std.specs.Option.{unwrap_or, option_or}
use Rattle.std.specs.Int.{w64, to_le_bytes}
use Rattle.std.proofs.Math.Seq.{take-append_seam, drop-append_seam}
use Rattle.std.proofs.lemmas.List.{map-append}
use Rattle.std.proofs.lemmas.Bool.{eqb-true}
use Rattle.scalar_laws.specs.Semiring.{Semiring}
use Rattle.scalar_laws.specs.Conversions.{Conversions, AreConversions}
use Rattle.tables.specs.declared.Cell.{Cell}
use Rattle.tables.specs.Tables.{Table, found, cell_if, row_cells, all_cells, only_rows}
use Rattle.tables.specs.Indices.{stands, count_from}
use Rattle.tables.proofs.Listed.{found-append}
use Rattle.tables.proofs.Counting.{stands-within}
use Rattle.letter_codec.specs.declared.kind.Kind.{Kind}
use Rattle.model_defs.specs.Plans.{One}
use Rattle.letter_codec.specs.Letters.{index_part, head_bytes, bytes_of_word, word_bytes}
use Rattle.model_defs.specs.Machine.{index_length, place_bytes, cells_at}
use Rattle.model_defs.specs.Laws.{HasPlaces}

words-length : (words : List ℕ) → length (word_bytes words) ≡ 8 * length words
unfolding bytes_of_word
words-length [] = refl
words-length (w ∷ ws) = length-append (to_le_bytes w64 w) (flat_map (to_le_bytes w64) ws) ∙ step (length (flat_map (to_le_bytes w64) ws)) (length ws) (words-length ws)
  where
    step : (a n : ℕ) → a ≡ 8 * n → 8 + a ≡ 8 * suc n
    step a n e = omega arith

index-length : (kind : Kind) (words : List ℕ) → length (index_part kind words) ≡ index_length words
unfolding head_bytes bytes_of_word
index-length kind words = ap suc (length-append (to_le_bytes w64 (length words)) (flat_map (to_le_bytes w64) words)) ∙ step (length (flat_map (to_le_bytes w64) words)) (length words) (words-length words)
  where
    step : (a n : ℕ) → a ≡ 8 * n → suc (8 + a) ≡ 9 + 8 * n
    step a n e = omega arith

-- the numbers stand behind the index part
pub numbers-behind : (kind : Kind) (words numbers : List ℕ) → drop (index_length words) (index_part kind words ++ numbers) ≡ numbers
numbers-behind kind words numbers = ap (λ n. drop n (index_part kind words ++ numbers)) (sym (index-length kind words)) ∙ drop-append_seam (index_part kind words) numbers

abbrev pub cell_of : {S : Type 0} → Semiring S → Table S → Cell One → Cell S
cell_of R t c = record { row = c.row; col = c.col; value = unwrap_or (t c.row c.col) R.nought }

module _ {S : Type 0} (R : Semiring S) {F : Conversions S} (L : AreConversions F) where
  pub cells-decoded : (t : Table S) (places : List (Cell One)) → cells_at F places (place_bytes R F t places) ≡ map (cell_of R t) places
  cells-decoded t [] = refl
  cells-decoded t (c ∷ cs) = λ i. record { row = c.row; col = c.col; value = value i } ∷ (ap (cells_at F cs) after ∙ cells-decoded t cs) i
    where
      a : S
      a = unwrap_or (t c.row c.col) R.nought

      first : take 32 (F.to_wire a ++ place_bytes R F t cs) ≡ F.to_wire a
      first = ap (λ n. take n (F.to_wire a ++ place_bytes R F t cs)) (sym (L.wire_length a)) ∙ take-append_seam (F.to_wire a) (place_bytes R F t cs)

      after : drop 32 (F.to_wire a ++ place_bytes R F t cs) ≡ place_bytes R F t cs
      after = ap (λ n. drop n (F.to_wire a ++ place_bytes R F t cs)) (sym (L.wire_length a)) ∙ drop-append_seam (F.to_wire a) (place_bytes R F t cs)

      value : F.of_wire (take 32 (F.to_wire a ++ place_bytes R F t cs)) ≡ a
      value = ap F.of_wire first ∙ L.wire_back a

module _ {S : Type 0} (R : Semiring S) (t : Table S) (u : Table One) (h : HasPlaces t u) where
  found-row : (r : ℕ) (cols : List ℕ) (i j : ℕ) → found (map (cell_of R t) (row_cells u r cols)) i j ≡ cond ((eqb r i) && stands j cols) (t i j) None
  found-row r [] i j = none (eqb r i)
    where
      none : (b : Bool) → None ≡ cond (b && false) (t i j) None
      none true = refl
      none false = refl
  found-row r (c ∷ cs) i j = go (u r c) refl (eqb r i) refl (eqb c j) refl (found-row r cs i j)
    where
      there : is_some (t r c) ≡ is_some (u r c)
      there = h r c

      absent : (o : Option S) → is_some o ≡ false → o ≡ None
      absent None e = refl
      absent (Some v) e = cc

      present : (o : Option S) → is_some o ≡ true → Some (unwrap_or o R.nought) ≡ o
      present None e = cc
      present (Some v) e = refl

      here : eqb r i ≡ true → eqb c j ≡ true → t r c ≡ t i j
      here e f = ap₂ t (eqb-true r i e) (eqb-true c j f)

      go : (o : Option One) → u r c ≡ o → (a : Bool) → eqb r i ≡ a → (b : Bool) → eqb c j ≡ b
          → found (map (cell_of R t) (row_cells u r cs)) i j ≡ cond (a && stands j cs) (t i j) None
          → found (map (cell_of R t) (cell_if r c o ++ row_cells u r cs)) i j ≡ cond (a && (b || stands j cs)) (t i j) None
      go None e true f true k rest = rest ∙ both (stands j cs) ∙ sym (sym (here f k) ∙ absent (t r c) (there ∙ ap is_some e))
        where
          both : (b : Bool) → cond b (t i j) None ≡ None
          both true = sym (here f k) ∙ absent (t r c) (there ∙ ap is_some e)
          both false = refl
      go None e true f false k rest = rest
      go None e false f b k rest = rest
      go (Some v) e true f true k rest = ap (λ z. cond z (Some (unwrap_or (t r c) R.nought)) (found (map (cell_of R t) (row_cells u r cs)) i j)) (ap₂ (λ x y. x && y) f k) ∙ present (t r c) (there ∙ ap is_some e) ∙ here f k
      go (Some v) e true f false k rest = ap (λ z. cond z (Some (unwrap_or (t r c) R.nought)) (found (map (cell_of R t) (row_cells u r cs)) i j)) (ap₂ (λ x y. x && y) f k) ∙ rest
      go (Some v) e false f b k rest = ap (λ z. cond (z && (eqb c j)) (Some (unwrap_or (t r c) R.nought)) (found (map (cell_of R t) (row_cells u r cs)) i j)) f ∙ rest

  found-rows : (rows cols : List ℕ) (i j : ℕ) → found (map (cell_of R t) (all_cells u rows cols)) i j ≡ cond (stands i rows && stands j cols) (t i j) None
  found-rows [] cols i j = refl
  found-rows (r ∷ rs) cols i j =
      ap (λ cs. found cs i j) (map-append (cell_of R t) (row_cells u r cols) (all_cells u rs cols))
      ∙ found-append (map (cell_of R t) (row_cells u r cols)) (map (cell_of R t) (all_cells u rs cols)) i j
      ∙ ap₂ option_or (found-row r cols i j) (found-rows rs cols i j)
      ∙ join (eqb r i) (stands i rs) (stands j cols) (t i j)
    where
      join : (a b c : Bool) (o : Option S) → option_or (cond (a && c) o None) (cond (b && c) o None) ≡ cond ((a || b) && c) o None
      join true true true None = refl
      join true true true (Some v) = refl
      join true true false o = refl
      join true false true None = refl
      join true false true (Some v) = refl
      join true false false o = refl
      join false true true o = refl
      join false true false o = refl
      join false false c o = refl

  -- at the rows that are sent the table itself, where its columns are within the width
  pub found-sent : (rows : List ℕ) (width : ℕ) → ((i j : ℕ) → is_some (t i j) ≡ true → j < width)
      → found (map (cell_of R t) (all_cells u rows (count_from 0 width))) ≡ only_rows (λ i. stands i rows) t
  found-sent rows width within = λ k i j. at i j k
    where
      at : (i j : ℕ) → found (map (cell_of R t) (all_cells u rows (count_from 0 width))) i j ≡ cond (stands i rows) (t i j) None
      at i j = found-rows rows (count_from 0 width) i j ∙ go (stands i rows) (stands j (count_from 0 width)) refl (t i j) refl
        where
          go : (a b : Bool) → stands j (count_from 0 width) ≡ b → (o : Option S) → t i j ≡ o → cond (a && b) o None ≡ cond a o None
          go false b e o f = refl
          go true true e o f = refl
          go true false e None f = refl
          go true false e (Some v) f =
              let l = within i j (ap is_some f) in
              let s = stands-within 0 width j (omega arith) (omega (arith, l)) in
              absurd (let bad : ⊥ = cc in bad)
