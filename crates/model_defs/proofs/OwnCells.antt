-- A letter of numbers is made of its sender's own cells, where these have the letter's places.
use Rattle.std.proofs.Common.{◌≡◌, ℕ, List, [], ◌∷◌, ◌++◌, map, length, Option, Some, None, refl, sym, ap, ap₂, ◌∙◌}
use Rattle.std.specs.Prelude.{is_some, filter}
use Rattle.std.specs.List.{flat_map}
use Rattle.std.specs.Option.{unwrap_or}
use Rattle.std.proofs.lemmas.List.{map-append}
use Rattle.scalar_laws.specs.Semiring.{Semiring}
use Rattle.scalar_laws.specs.Conversions.{Conversions}
use Rattle.tables.specs.declared.Cell.{Cell}
use Rattle.tables.specs.Tables.{Table, cell_if, row_cells, all_cells}
use Rattle.tables.specs.Indices.{count_from}
use Rattle.model_defs.specs.Plans.{One, sent_rows}
use Rattle.model_defs.specs.Stages.{transfer_at}
use Rattle.model_defs.specs.Letters.{row_words, entry_places, width, sent_places}
use Rattle.model_defs.specs.Machine.{place_bytes}
use Rattle.model_defs.specs.Laws.{HasPlaces, OwnCellsAreSent}
use Rattle.model_defs.proofs.Decoding.{cell_of}

row-same : {S T : Type 0} (t : Table S) (u : Table T) → HasPlaces t u → (w i : ℕ) → row_words t w i ≡ row_words u w i
row-same t u h w i = λ s. i ∷ length (filter (λ j. h i j s) (count_from 0 w)) ∷ filter (λ j. h i j s) (count_from 0 w)

module _ {S : Type 0} (R : Semiring S) (t : Table S) (u : Table One) (h : HasPlaces t u) where
  cell-same : (i j : ℕ) → map (cell_of R t) (cell_if i j (u i j)) ≡ cell_if i j (t i j)
  cell-same i j = go (t i j) refl (u i j) refl
    where
      go : (o : Option S) → t i j ≡ o → (v : Option One) → u i j ≡ v → map (cell_of R t) (cell_if i j v) ≡ cell_if i j o
      go None e None f = refl
      go (Some s) e (Some v) f = ap (λ o. record { row = i; col = j; value = unwrap_or o R.nought } ∷ []) e
      go None e (Some v) f = let a = sym (ap is_some e) ∙ h i j ∙ ap is_some f in absurd (let bad : ⊥ = cc in bad)
      go (Some s) e None f = let a = sym (ap is_some e) ∙ h i j ∙ ap is_some f in absurd (let bad : ⊥ = cc in bad)

  row-cells-same : (i : ℕ) (js : List ℕ) → map (cell_of R t) (row_cells u i js) ≡ row_cells t i js
  row-cells-same i [] = refl
  row-cells-same i (j ∷ js) = map-append (cell_of R t) (cell_if i j (u i j)) (row_cells u i js) ∙ ap₂ (λ a b. a ++ b) (cell-same i j) (row-cells-same i js)

  all-cells-same : (is js : List ℕ) → map (cell_of R t) (all_cells u is js) ≡ all_cells t is js
  all-cells-same [] js = refl
  all-cells-same (i ∷ is) js = map-append (cell_of R t) (row_cells u i js) (all_cells u is js) ∙ ap₂ (λ a b. a ++ b) (row-cells-same i js) (all-cells-same is js)

  numbers-same : (F : Conversions S) (places : List (Cell One)) → place_bytes R F t places ≡ flat_map (λ c. F.to_wire c.value) (map (cell_of R t) places)
  numbers-same F [] = refl
  numbers-same F (c ∷ cs) = ap (λ z. F.to_wire (unwrap_or (t c.row c.col) R.nought) ++ z) (numbers-same F cs)

pub own_cells_are_sent : {S : Type 0} (R : Semiring S) (F : Conversions S) → OwnCellsAreSent R F
own_cells_are_sent R F = λ job files p q k t own h. (
  λ s. flat_map (λ i. row-same own (entry_places job files p k t) h (width job files k) i s) (sent_rows job files (transfer_at job k t) p q),
  numbers-same R own (entry_places job files p k t) h F (sent_places job files k t p q)
      ∙ ap (flat_map (λ c. F.to_wire c.value)) (all-cells-same R own (entry_places job files p k t) h (sent_rows job files (transfer_at job k t) p q) (count_from 0 (width job files k))),
)
