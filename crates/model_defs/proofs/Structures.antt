-- Which places a value has does not depend on its numbers, nor on what is picked.
use Rattle.std.proofs.Common.{◌≡◌, ℕ, ℤ, zero, suc, Bool, true, false, cond, ◌&&◌, ◌||◌, eqb, ltb, List, [], ◌∷◌, map, Option, None, Some, refl, sym, ap, ap₂, ◌∙◌}
use Rattle.std.specs.Prelude.{is_some}
use Rattle.std.specs.List.{list_any, flat_map}
use Rattle.std.specs.Option.{option_map, unwrap_or}
use Rattle.std.proofs.lemmas.List.Folds.{list_any-append}
use Rattle.scalar_laws.specs.Semiring.{Semiring}
use Rattle.scalar_laws.specs.Conversions.{Conversions}
use Rattle.tables.specs.declared.Cell.{Cell}
use Rattle.tables.specs.Sums.{total, total_below, if_there, both_or_one}
use Rattle.tables.specs.Tables.{Table, names, part_at, only_rows, sum_of}
use Rattle.tables.specs.Indices.{each_rank, count_from, dealt}
use Rattle.mm_text.specs.declared.file_data.Line.{Line}
use Rattle.mm_text.specs.declared.file_data.Mirror.{Mirror}
use Rattle.mm_text.specs.Reading.{File}
use Rattle.model_defs.specs.FileMatrix.{entry_cells, entry_numbers, number_cell, number_of, file_matrix}
use Rattle.combine_modes.specs.declared.mode.Mode.{Mode}
use Rattle.combine_modes.specs.declared.mode.Mode.TheVariants.{Insert, Replace, Add, AbsMax, Zero}
use Rattle.combine_modes.specs.Modes.{combine, after_one, there, combined, gathered}
use Rattle.model_defs.specs.Operations.{times_there, product, turned, scaled, combination, grown, filled, completed}
use Rattle.model_defs.specs.declared.job.Job.{Job}
use Rattle.model_defs.specs.declared.job.Origin.{Origin}
use Rattle.model_defs.specs.declared.job.Origin.TheVariants.{Files, Fill}
use Rattle.model_defs.specs.declared.job.Step.{Step}
use Rattle.model_defs.specs.Maps.{has_index, is_mapped, size_of, list_of}
use Rattle.model_defs.specs.Makers.{Maker, GivenVector, GivenParts, GivenMatrix, Made, maker_of, value_count}
use Rattle.model_defs.specs.Turns.{Each}
use Rattle.model_defs.specs.Shapes.{shape, is_split_sort}
use Rattle.model_defs.specs.Pieces.{Value, has_row}
use Rattle.model_defs.specs.Eval.{Pick, assembled, onto_or_nowhere, addend, value_by, make_value, first_values}
use Rattle.model_defs.specs.Given.{value_file, matrix_of, dealt_part, at_local, given_vector, given_part, given_matrix, given}
use Rattle.model_defs.specs.Transfers.{Way, FromOwners, ToOwners}
use Rattle.model_defs.specs.Plans.{One, one_semiring, one_conversions, structure_before, passes, brought, is_target_row}
use Rattle.model_defs.specs.Stages.{made_by, apply_sums, own_addend, transfer_at, is_fixed, near_x, apply_offers, entries_by, entries, onto_piece, plain_target, target_by, target_at, all_pieces, met_after, source_of}
use Rattle.model_defs.specs.Letters.{entry_places}
use Rattle.model_defs.specs.Laws.{HasPlaces, PlacesAreStructure}
use Rattle.model_defs.specs.declared.job.Step.TheVariants as step

-- ---- what is there, of each operation

pub map-some : {S T : Type 0} (f : S → T) (o : Option S) → is_some (option_map f o) ≡ is_some o
map-some f None = refl
map-some f (Some v) = refl

pub both-some : {S : Type 0} (f : S → S → S) (a b : Option S) → is_some (both_or_one f a b) ≡ (is_some a || is_some b)
both-some f None b = refl
both-some f (Some a) None = refl
both-some f (Some a) (Some b) = refl

times-some : {S : Type 0} (R : Semiring S) (a b : Option S) → is_some (times_there R a b) ≡ (is_some a && is_some b)
times-some R None b = refl
times-some R (Some a) None = refl
times-some R (Some a) (Some b) = refl

pub cond-some : {S : Type 0} (b : Bool) (o : Option S) → is_some (cond b o None) ≡ (b && is_some o)
cond-some true o = refl
cond-some false o = refl

pub some-cond : {S : Type 0} (b : Bool) (v : S) → is_some (cond b (Some v) None) ≡ b
some-cond true v = refl
some-cond false v = refl

total-some : {A S : Type 0} (f : S → S → S) (g : A → Option S) (xs : List A) → is_some (total (if_there f) g xs) ≡ list_any (λ x. is_some (g x)) xs
total-some f g [] = refl
total-some f g (x ∷ xs) = both-some f (g x) (total (if_there f) g xs) ∙ ap (λ z. is_some (g x) || z) (total-some f g xs)

any_below : ℕ → (ℕ → Bool) → Bool
any_below zero h = false
any_below (suc n) h = any_below n h || h n

below-some : {S : Type 0} (f : S → S → S) (n : ℕ) (g : ℕ → Option S) → is_some (total_below (if_there f) n g) ≡ any_below n (λ k. is_some (g k))
unfolding any_below
below-some f zero g = refl
below-some f (suc n) g = both-some f (total_below (if_there f) n g) (g n) ∙ ap (λ z. z || is_some (g n)) (below-some f n g)

product-some : {S : Type 0} (R : Semiring S) (n : ℕ) (a b : Table S) (i j : ℕ) → is_some (product R n a b i j) ≡ any_below n (λ k. is_some (a i k) && is_some (b k j))
product-some R n a b i j = below-some R.plus n (λ k. times_there R (a i k) (b k j)) ∙ (λ t. any_below n (λ k. times-some R (a i k) (b k j) t))

abbrev is_any : {S : Type 0} → List S → Bool
is_any [] = false
is_any (s ∷ ss) = true

abbrev pub some_after : Mode → Bool → Bool → Bool → Bool
some_after mode fixed old false = old
some_after mode true old true = old
some_after Add false old true = true
some_after Replace false old true = old
some_after Insert false old true = true
some_after AbsMax false old true = true
some_after Zero false old true = old

combine-some : {S : Type 0} (R : Semiring S) (mode : Mode) (fixed : Bool) (old : Option S) (ss : List S) (x : S) → is_some (combine R mode fixed old ss x) ≡ some_after mode fixed (is_some old) (is_any ss)
combine-some R mode fixed old [] x = refl
combine-some R mode true None (s ∷ ss) x = refl
combine-some R Add true (Some o) (s ∷ ss) x = refl
combine-some R Add false None (s ∷ ss) x = refl
combine-some R Add false (Some o) (s ∷ ss) x = refl
combine-some R Replace true (Some o) (s ∷ ss) x = refl
combine-some R Replace false None (s ∷ ss) x = refl
combine-some R Replace false (Some o) (s ∷ ss) x = refl
combine-some R Insert true (Some o) (s ∷ ss) x = refl
combine-some R Insert false None (s ∷ ss) x = refl
combine-some R Insert false (Some o) (s ∷ ss) x = refl
combine-some R AbsMax true (Some o) (s ∷ ss) x = refl
combine-some R AbsMax false None (s ∷ ss) x = refl
combine-some R AbsMax false (Some o) (s ∷ ss) x = refl
combine-some R Zero true (Some o) (s ∷ ss) x = refl
combine-some R Zero false None (s ∷ ss) x = refl
combine-some R Zero false (Some o) (s ∷ ss) x = refl

there-some : {S : Type 0} (f : ℕ → Option S) (xs : List ℕ) → is_any (there (map f xs)) ≡ list_any (λ x. is_some (f x)) xs
there-some f [] = refl
there-some f (x ∷ xs) = go (f x) (there-some f xs)
  where
    go : (o : Option _) → is_any (there (map f xs)) ≡ list_any (λ x. is_some (f x)) xs → is_any (there (o ∷ map f xs)) ≡ (is_some o || list_any (λ x. is_some (f x)) xs)
    go None rest = rest
    go (Some v) rest = refl

after_one-some : {S : Type 0} (R : Semiring S) (mode : Mode) (fixed : Bool) (old v : Option S) → is_some (after_one R mode fixed old v) ≡ some_after mode fixed (is_some old) (is_some v)
after_one-some R mode fixed old None = refl
after_one-some R mode fixed old (Some s) = combine-some R mode fixed old (s ∷ []) s

pub combined-some : {S : Type 0} (R : Semiring S) (mode : Mode) (fixed : Bool) (P : ℕ) (old : Table S) (brought : ℕ → Table S) (pick : ℕ → ℕ → ℕ) (i j : ℕ)
    → is_some (combined R mode fixed P old brought pick i j) ≡ some_after mode fixed (is_some (old i j)) (list_any (λ p. is_some (brought p i j)) (count_from 0 P))
combined-some R mode fixed P old brought pick i j =
    combine-some R mode fixed (old i j) (there (each_rank P (λ p. brought p i j))) (unwrap_or (brought (pick i j) i j) R.nought)
    ∙ ap (some_after mode fixed (is_some (old i j))) (there-some (λ p. brought p i j) (count_from 0 P))

-- what was gathered is there where it was or came
some_after-twice : (mode : Mode) (fixed old a b : Bool) → some_after mode fixed (some_after mode fixed old a) b ≡ some_after mode fixed old (a || b)
some_after-twice mode fixed old false b = refl
some_after-twice mode fixed old true false = refl
some_after-twice mode true old true true = refl
some_after-twice Add false old true true = refl
some_after-twice Replace false old true true = refl
some_after-twice Insert false old true true = refl
some_after-twice AbsMax false old true true = refl
some_after-twice Zero false old true true = refl

pub gathered-some : {S : Type 0} (R : Semiring S) (mode : Mode) (fixed : Bool) (old : Table S) (ts : List (Table S)) (i j : ℕ)
    → is_some (gathered R mode fixed old ts i j) ≡ some_after mode fixed (is_some (old i j)) (list_any (λ t. is_some (t i j)) ts)
gathered-some R mode fixed old [] i j = refl
gathered-some R mode fixed old (t ∷ ts) i j =
    gathered-some R mode fixed (λ i j. after_one R mode fixed (old i j) (t i j)) ts i j
    ∙ ap (λ o. some_after mode fixed o (list_any (λ t. is_some (t i j)) ts)) (after_one-some R mode fixed (old i j) (t i j))
    ∙ some_after-twice mode fixed (is_some (old i j)) (is_some (t i j)) (list_any (λ t. is_some (t i j)) ts)

-- ---- the matrix of a file

cells-some : {S : Type 0} (R : Semiring S) (F : Conversions S) (i j : ℕ) (cs : List (Cell ℤ)) → list_any (λ c. is_some (part_at i j c)) (map (number_cell R F) cs) ≡ list_any (names i j) cs
cells-some R F i j [] = refl
cells-some R F i j (c ∷ cs) = λ t. some-cond ((eqb c.row i) && (eqb c.col j)) (number_of R F c.value) t || cells-some R F i j cs t

lines-some : {S : Type 0} (R : Semiring S) (F : Conversions S) (mirror : Mirror) (i j : ℕ) (lines : List Line)
    → list_any (λ c. is_some (part_at i j c)) (flat_map (entry_numbers R F mirror) lines) ≡ list_any (names i j) (flat_map (entry_cells mirror) lines)
lines-some R F mirror i j [] = refl
lines-some R F mirror i j (l ∷ ls) =
    list_any-append (λ c. is_some (part_at i j c)) (entry_numbers R F mirror l) (flat_map (entry_numbers R F mirror) ls)
    ∙ ap₂ (λ a b. a || b) (cells-some R F i j (entry_cells mirror l)) (lines-some R F mirror i j ls)
    ∙ sym (list_any-append (names i j) (entry_cells mirror l) (flat_map (entry_cells mirror) ls))

pub file-some : {S : Type 0} (R : Semiring S) (F : Conversions S) (mirror : Mirror) (lines : List Line) (i j : ℕ) → is_some (file_matrix R F mirror lines i j) ≡ list_any (names i j) (flat_map (entry_cells mirror) lines)
file-some R F mirror lines i j = total-some R.plus (part_at i j) (flat_map (entry_numbers R F mirror) lines) ∙ lines-some R F mirror i j lines

-- ---- tables with the same places

any-map : {A B : Type 0} (q : B → Bool) (f : A → B) (xs : List A) → list_any q (map f xs) ≡ list_any (λ x. q (f x)) xs
any-map q f [] = refl
any-map q f (x ∷ xs) = ap (λ z. q (f x) || z) (any-map q f xs)

module _ {S T : Type 0} where
  pub only-places : (c : ℕ → Bool) (t : Table S) (u : Table T) → HasPlaces t u → HasPlaces (only_rows c t) (only_rows c u)
  only-places c t u h i j = cond-some (c i) (t i j) ∙ ap (λ z. c i && z) (h i j) ∙ sym (cond-some (c i) (u i j))

  product-places : (R : Semiring S) (Q : Semiring T) (n : ℕ) (a b : Table S) (c d : Table T) → HasPlaces a c → HasPlaces b d → HasPlaces (product R n a b) (product Q n c d)
  product-places R Q n a b c d h k i j =
      product-some R n a b i j ∙ (λ s. any_below n (λ l. h i l s && k l j s)) ∙ sym (product-some Q n c d i j)

  turned-places : (b : Bool) (t : Table S) (u : Table T) → HasPlaces t u → HasPlaces (turned b t) (turned b u)
  turned-places true t u h = λ i j. h j i
  turned-places false t u h = h

  scaled-places : (R : Semiring S) (Q : Semiring T) (a : S) (b : T) (t : Table S) (u : Table T) → HasPlaces t u → HasPlaces (scaled R a t) (scaled Q b u)
  scaled-places R Q a b t u h i j = map-some (R.times a) (t i j) ∙ h i j ∙ sym (map-some (Q.times b) (u i j))

  combination-places : (R : Semiring S) (Q : Semiring T) (a b : S) (c d : T) (t u : Table S) (v w : Table T) → HasPlaces t v → HasPlaces u w → HasPlaces (combination R a t b u) (combination Q c v d w)
  combination-places R Q a b c d t u v w h k i j =
      both-some R.plus (scaled R a t i j) (scaled R b u i j)
      ∙ ap₂ (λ x y. x || y) (scaled-places R Q a c t v h i j) (scaled-places R Q b d u w k i j)
      ∙ sym (both-some Q.plus (scaled Q c v i j) (scaled Q d w i j))

  grown-places : (R : Semiring S) (Q : Semiring T) (a b : S) (c d : T) (t y : Table S) (u z : Table T) → HasPlaces y z → HasPlaces (grown R a t b y) (grown Q c u d z)
  grown-places R Q a b c d t y u z h i j = map-some _ (y i j) ∙ h i j ∙ sym (map-some _ (z i j))

  filled-places : (rows : ℕ → Bool) (columns : ℕ) (a : S) (b : T) → HasPlaces (filled rows columns a) (filled rows columns b)
  filled-places rows columns a b i j = some-cond (rows i && ltb j columns) a ∙ sym (some-cond (rows i && ltb j columns) b)

  completed-places : (R : Semiring S) (Q : Semiring T) (rows : ℕ → Bool) (columns : ℕ) (t : Table S) (u : Table T) → HasPlaces (completed R rows columns t) (completed Q rows columns u)
  completed-places R Q rows columns t u i j = some-cond (rows i && ltb j columns) _ ∙ sym (some-cond (rows i && ltb j columns) _)

  combined-places : (R : Semiring S) (Q : Semiring T) (mode : Mode) (fixed : Bool) (P : ℕ) (t : Table S) (u : Table T) (f : ℕ → Table S) (g : ℕ → Table T) (a b : ℕ → ℕ → ℕ)
      → HasPlaces t u → ((p : ℕ) → HasPlaces (f p) (g p)) → HasPlaces (combined R mode fixed P t f a) (combined Q mode fixed P u g b)
  combined-places R Q mode fixed P t u f g a b h k i j =
      combined-some R mode fixed P t f a i j
      ∙ (λ s. some_after mode fixed (h i j s) (list_any (λ p. k p i j s) (count_from 0 P)))
      ∙ sym (combined-some Q mode fixed P u g b i j)

  sum-places : (R : Semiring S) (Q : Semiring T) (P : ℕ) (f : ℕ → Table S) (g : ℕ → Table T) → ((p : ℕ) → HasPlaces (f p) (g p)) → HasPlaces (sum_of R (each_rank P f)) (sum_of Q (each_rank P g))
  sum-places R Q P f g k i j =
      total-some R.plus (λ t. t i j) (each_rank P f) ∙ any-map (λ t. is_some (t i j)) f (count_from 0 P)
      ∙ (λ s. list_any (λ p. k p i j s) (count_from 0 P))
      ∙ sym (total-some Q.plus (λ t. t i j) (each_rank P g) ∙ any-map (λ t. is_some (t i j)) g (count_from 0 P))

-- ---- the values, and what ranks have for others

module _ {S : Type 0} (R : Semiring S) (F : Conversions S) (job : Job) (files : List File) where
  file-places : (file : File) → HasPlaces (matrix_of R F job files file) (matrix_of one_semiring one_conversions job files file)
  file-places file i j = file-some R F file.mirror file.lines i j ∙ sym (file-some one_semiring one_conversions file.mirror file.lines i j)

  dealt-places : (k p : ℕ) → HasPlaces (dealt_part R F job files k p) (dealt_part one_semiring one_conversions job files k p)
  dealt-places k p i j = file-some R F (value_file job files k 0).mirror (dealt job.ranks p (value_file job files k 0).lines) i j ∙ sym (file-some one_semiring one_conversions (value_file job files k 0).mirror (dealt job.ranks p (value_file job files k 0).lines) i j)

  given-places : (k : ℕ) (m : Maker) (p : ℕ) → HasPlaces (given R F job files k m p) (given one_semiring one_conversions job files k m p)
  given-places k (GivenVector spec) p = by spec.from
    where
      by : (o : Origin) → HasPlaces (given_vector R F job files k spec o) (given_vector one_semiring one_conversions job files k spec o)
      by (Fill v) = filled-places (is_mapped job spec.map) spec.columns (number_of R F v) tt
      by (Files texts) = completed-places R one_semiring (is_mapped job spec.map) spec.columns (matrix_of R F job files (value_file job files k 0)) (matrix_of one_semiring one_conversions job files (value_file job files k 0))
  given-places k (GivenParts spec) p = by spec.from
    where
      by : (o : Origin) → HasPlaces (given_part R F job files k spec o p) (given_part one_semiring one_conversions job files k spec o p)
      by (Fill v) = filled-places (has_index job spec.map p) spec.columns (number_of R F v) tt
      by (Files texts) = completed-places R one_semiring (has_index job spec.map p) spec.columns (at_local R F job files (list_of job spec.map p) (matrix_of R F job files (value_file job files k p))) (at_local one_semiring one_conversions job files (list_of job spec.map p) (matrix_of one_semiring one_conversions job files (value_file job files k p)))
  given-places k (GivenMatrix spec) p = by spec.split
    where
      by : (b : Bool) → HasPlaces (given_matrix R F job files k b p) (given_matrix one_semiring one_conversions job files k b p)
      by true = dealt-places k p
      by false = file-places (value_file job files k 0)
  given-places k (Made step) p = λ i j. refl

  value-places : (pick other : Pick) (k : ℕ) (b : Each (Value S)) (c : Each (Value One)) → ((v p : ℕ) → HasPlaces (b v p) (c v p)) → (s : Step) (p : ℕ)
      → HasPlaces (value_by R F job files pick k b s p) (value_by one_semiring one_conversions job files other k c s p)
  value-places pick other k b c h (step.Move name source m) p = only-places (is_mapped job m) (b source p) (c source p) (h source p)
  value-places pick other k b c h (step.Import name source onto mode) p = λ i j.
      after_one-some R mode true (b onto p i j) (b source p i j) ∙ ap₂ (some_after mode true) (h onto p i j) (h source p i j) ∙ sym (after_one-some one_semiring mode true (c onto p i j) (c source p i j))
  value-places pick other k b c h (step.Export name source onto mode) p = combined-places R one_semiring mode true job.ranks (b onto p) (c onto p) (b source) (c source) (pick k) (other k) (h onto p) (h source)
  value-places pick other k b c h (step.Spread name source m) p = completed-places R one_semiring (has_index job m p) (shape job k).columns (b source p) (c source p)
  value-places pick other k b c h (step.Update name x y alpha beta) p = combination-places R one_semiring (number_of R F alpha) (number_of R F beta) (number_of one_semiring one_conversions alpha) (number_of one_semiring one_conversions beta) (b x p) (b y p) (c x p) (c y p) (h x p) (h y p)
  value-places pick other k b c h (step.Scale name value alpha) p = scaled-places R one_semiring (number_of R F alpha) (number_of one_semiring one_conversions alpha) (b value p) (c value p) (h value p)
  value-places pick other k b c h (step.Apply name a x y alpha beta transposed) p = grown-places R one_semiring (number_of R F alpha) (number_of R F beta) (number_of one_semiring one_conversions alpha) (number_of one_semiring one_conversions beta)
      (product R (size_of job (shape job x).rows) (turned transposed (assembled R F job files (is_split_sort (shape job a).sort) (b a))) (b x p)) (addend R F job files (shape job k) b y p)
      (product one_semiring (size_of job (shape job x).rows) (turned transposed (assembled one_semiring one_conversions job files (is_split_sort (shape job a).sort) (c a))) (c x p)) (addend one_semiring one_conversions job files (shape job k) c y p) (by y)
    where
      by : (o : Option ℕ) → HasPlaces (addend R F job files (shape job k) b o p) (addend one_semiring one_conversions job files (shape job k) c o p)
      by None = filled-places (is_mapped job (shape job k).rows) (shape job k).columns R.nought tt
      by (Some y) = h y p
  value-places pick other k b c h (step.Transpose name a) p = λ i j. h a p j i
  value-places pick other k b c h (step.Multiply name a d) p = product-places R one_semiring (size_of job (shape job a).domain) (b a p) (b d p) (c a p) (c d p) (h a p) (h d p)
  value-places pick other k b c h (step.Add name a d alpha beta) p = combination-places R one_semiring (number_of R F alpha) (number_of R F beta) (number_of one_semiring one_conversions alpha) (number_of one_semiring one_conversions beta) (b a p) (b d p) (c a p) (c d p) (h a p) (h d p)
  value-places pick other k b c h (step.Assemble name source onto mode) p = combined-places R one_semiring mode false job.ranks (onto_or_nowhere R F job files b onto p) (onto_or_nowhere one_semiring one_conversions job files c onto p) (b source) (c source) (pick k) (other k) (by onto) (h source)
    where
      by : (o : Option ℕ) → HasPlaces (onto_or_nowhere R F job files b o p) (onto_or_nowhere one_semiring one_conversions job files c o p)
      by None = λ i j. refl
      by (Some onto) = h onto p
  value-places pick other k b c h (step.Print value) p = λ i j. refl

  make-places : (pick other : Pick) (k : ℕ) (b : Each (Value S)) (c : Each (Value One)) → ((v p : ℕ) → HasPlaces (b v p) (c v p)) → (m : Maker) (p : ℕ)
      → HasPlaces (make_value R F job files pick k b m p) (make_value one_semiring one_conversions job files other k c m p)
  make-places pick other k b c h (Made step) p = value-places pick other k b c h step p
  make-places pick other k b c h (GivenVector spec) p = given-places k (GivenVector spec) p
  make-places pick other k b c h (GivenParts spec) p = given-places k (GivenParts spec) p
  make-places pick other k b c h (GivenMatrix spec) p = given-places k (GivenMatrix spec) p

  pub first-places : (pick other : Pick) (n v p : ℕ) → HasPlaces (first_values R F job files pick n v p) (first_values one_semiring one_conversions job files other n v p)
  first-places pick other zero v p = λ i j. refl
  first-places pick other (suc n) v p = by (eqb v n) (first-places pick other n)
    where
      by : (b : Bool) → ((v p : ℕ) → HasPlaces (first_values R F job files pick n v p) (first_values one_semiring one_conversions job files other n v p))
          → HasPlaces (cond b (make_value R F job files pick n (first_values R F job files pick n) (maker_of job n)) (first_values R F job files pick n v) p)
          (cond b (make_value one_semiring one_conversions job files other n (first_values one_semiring one_conversions job files other n) (maker_of job n)) (first_values one_semiring one_conversions job files other n v) p)
      by true h = make-places pick other n (first_values R F job files pick n) (first_values one_semiring one_conversions job files other n) h (maker_of job n) p
      by false h = h v p

  -- at a stage
  pub entries-places : (p k : ℕ) (w : Way) (t : ℕ) (b : Each (Table S)) (c : Each (Table One)) (got : Table S) (have : Table One) → ((v : ℕ) → HasPlaces (b v) (c v)) → HasPlaces got have → (m : Maker)
      → HasPlaces (entries_by R F job files p k w t b got m) (entries_by one_semiring one_conversions job files p k w t c have m)
  entries-places p k w t b c got have h g (GivenMatrix spec) = dealt-places k p
  entries-places p k w t b c got have h g (Made (step.Move name source m)) = h source
  entries-places p k w t b c got have h g (Made (step.Import name source onto mode)) = h source
  entries-places p k w t b c got have h g (Made (step.Export name source onto mode)) = h source
  entries-places p k w t b c got have h g (Made (step.Spread name source m)) = h source
  entries-places p k w t b c got have h g (Made (step.Apply name a x y alpha beta transposed)) = by w
    where
      near : (t : ℕ) → HasPlaces (near_x t (b x) got) (near_x t (c x) have)
      near zero = h x
      near (suc t) = g

      by : (way : Way) → HasPlaces (apply_offers R way (size_of job (shape job x).rows) (turned transposed (b a)) (b x) (near_x t (b x) got))
          (apply_offers one_semiring way (size_of job (shape job x).rows) (turned transposed (c a)) (c x) (near_x t (c x) have))
      by FromOwners = h x
      by ToOwners = product-places R one_semiring (size_of job (shape job x).rows) (turned transposed (b a)) (near_x t (b x) got) (turned transposed (c a)) (near_x t (c x) have) (turned-places transposed (b a) (c a) (h a)) (near t)
  entries-places p k w t b c got have h g (Made (step.Transpose name a)) = λ i j. h a j i
  entries-places p k w t b c got have h g (Made (step.Multiply name a d)) = h d
  entries-places p k w t b c got have h g (Made (step.Add name a d alpha beta)) = h d
  entries-places p k w t b c got have h g (Made (step.Assemble name source onto mode)) = h source
  entries-places p k w t b c got have h g (GivenVector spec) = λ i j. refl
  entries-places p k w t b c got have h g (GivenParts spec) = λ i j. refl
  entries-places p k w t b c got have h g (Made (step.Update name x y alpha beta)) = λ i j. refl
  entries-places p k w t b c got have h g (Made (step.Scale name value alpha)) = λ i j. refl
  entries-places p k w t b c got have h g (Made (step.Print value)) = λ i j. refl

  -- what a rank makes has the places that it has where all numbers are one
  pub made-places : (p k : ℕ) (w : Way) (b : Each (Table S)) (c : Each (Table One)) (got : Table S) (have : Table One) → ((v : ℕ) → HasPlaces (b v) (c v)) → HasPlaces got have → (m : Maker)
      → HasPlaces (made_by R F job files p k w b got m) (made_by one_semiring one_conversions job files p k w c have m)
  made-places p k w b c got have h g (GivenVector spec) = only-places (has_row job (shape job k) p) (given R F job files k (GivenVector spec) p) (given one_semiring one_conversions job files k (GivenVector spec) p) (given-places k (GivenVector spec) p)
  made-places p k w b c got have h g (GivenParts spec) = only-places (has_row job (shape job k) p) (given R F job files k (GivenParts spec) p) (given one_semiring one_conversions job files k (GivenParts spec) p) (given-places k (GivenParts spec) p)
  made-places p k w b c got have h g (GivenMatrix spec) = by spec.split
    where
      by : (s : Bool) → HasPlaces (cond s (given R F job files k (GivenMatrix spec) p) got) (cond s (given one_semiring one_conversions job files k (GivenMatrix spec) p) have)
      by true = given-places k (GivenMatrix spec) p
      by false = g
  made-places p k w b c got have h g (Made (step.Move name source m)) = g
  made-places p k w b c got have h g (Made (step.Import name source onto mode)) = g
  made-places p k w b c got have h g (Made (step.Export name source onto mode)) = g
  made-places p k w b c got have h g (Made (step.Spread name source m)) = g
  made-places p k w b c got have h g (Made (step.Update name x y alpha beta)) =
      combination-places R one_semiring (number_of R F alpha) (number_of R F beta) (number_of one_semiring one_conversions alpha) (number_of one_semiring one_conversions beta) (b x) (b y) (c x) (c y) (h x) (h y)
  made-places p k w b c got have h g (Made (step.Scale name value alpha)) = scaled-places R one_semiring (number_of R F alpha) (number_of one_semiring one_conversions alpha) (b value) (c value) (h value)
  made-places p k w b c got have h g (Made (step.Apply name a x y alpha beta transposed)) =
      grown-places R one_semiring (number_of R F alpha) (number_of R F beta) (number_of one_semiring one_conversions alpha) (number_of one_semiring one_conversions beta)
      (apply_sums R w (size_of job (shape job x).rows) (turned transposed (b a)) got) (own_addend R job p (shape job k) b y)
      (apply_sums one_semiring w (size_of job (shape job x).rows) (turned transposed (c a)) have) (own_addend one_semiring job p (shape job k) c y) (by y)
    where
      by : (o : Option ℕ) → HasPlaces (own_addend R job p (shape job k) b o) (own_addend one_semiring job p (shape job k) c o)
      by None = filled-places (has_index job (shape job k).rows p) (shape job k).columns R.nought tt
      by (Some y) = h y
  made-places p k w b c got have h g (Made (step.Transpose name a)) = g
  made-places p k w b c got have h g (Made (step.Multiply name a d)) = product-places R one_semiring (size_of job (shape job a).domain) (b a) got (c a) have (h a) g
  made-places p k w b c got have h g (Made (step.Add name a d alpha beta)) =
      combination-places R one_semiring (number_of R F alpha) (number_of R F beta) (number_of one_semiring one_conversions alpha) (number_of one_semiring one_conversions beta) (b a) got (c a) have (h a) g
  made-places p k w b c got have h g (Made (step.Assemble name source onto mode)) = g
  made-places p k w b c got have h g (Made (step.Print value)) = g

  pub target-places : (p k t : ℕ) (b : Each (Table S)) (c : Each (Table One)) → ((v : ℕ) → HasPlaces (b v) (c v))
      → HasPlaces (target_at R F job files p k t b).old (target_at one_semiring one_conversions job files p k t c).old
  target-places p k t b c h = by (maker_of job k)
    where
      rows : ℕ → Bool
      rows = is_target_row job files (transfer_at job k t) p

      plain : (fixed : Bool) (way : Way) → HasPlaces (plain_target fixed way (filled (is_target_row job files (transfer_at job k t) p) (shape job k).columns R.nought)).old
          (plain_target fixed way (filled (is_target_row job files (transfer_at job k t) p) (shape job k).columns one_semiring.nought)).old
      plain true FromOwners = filled-places (is_target_row job files (transfer_at job k t) p) (shape job k).columns R.nought tt
      plain true ToOwners = filled-places (is_target_row job files (transfer_at job k t) p) (shape job k).columns R.nought tt
      plain false way = λ i j. refl

      onto : (o : Option ℕ) → HasPlaces (onto_piece b o) (onto_piece c o)
      onto None = λ i j. refl
      onto (Some v) = h v

      by : (m : Maker) → HasPlaces (target_by b (plain_target (is_fixed job k) (transfer_at job k t).way (filled (is_target_row job files (transfer_at job k t) p) (shape job k).columns R.nought)) m).old
          (target_by c (plain_target (is_fixed job k) (transfer_at job k t).way (filled (is_target_row job files (transfer_at job k t) p) (shape job k).columns one_semiring.nought)) m).old
      by (Made (step.Import name source v mode)) = h v
      by (Made (step.Export name source v mode)) = h v
      by (Made (step.Assemble name source o mode)) = onto o
      by m = plain (is_fixed job k) (transfer_at job k t).way

  pub modes-same : (p k t : ℕ) (b : Each (Table S)) (c : Each (Table One)) → (target_at R F job files p k t b).mode ≡ (target_at one_semiring one_conversions job files p k t c).mode
  modes-same p k t b c = by (maker_of job k)
    where
      plain : (fixed : Bool) (way : Way) → (plain_target fixed way (filled (is_target_row job files (transfer_at job k t) p) (shape job k).columns R.nought)).mode
          ≡ (plain_target fixed way (filled (is_target_row job files (transfer_at job k t) p) (shape job k).columns one_semiring.nought)).mode
      plain true FromOwners = refl
      plain true ToOwners = refl
      plain false way = refl

      by : (m : Maker) → (target_by b (plain_target (is_fixed job k) (transfer_at job k t).way (filled (is_target_row job files (transfer_at job k t) p) (shape job k).columns R.nought)) m).mode
          ≡ (target_by c (plain_target (is_fixed job k) (transfer_at job k t).way (filled (is_target_row job files (transfer_at job k t) p) (shape job k).columns one_semiring.nought)) m).mode
      by (Made (step.Import name source v mode)) = refl
      by (Made (step.Export name source v mode)) = refl
      by (Made (step.Assemble name source o mode)) = refl
      by m = plain (is_fixed job k) (transfer_at job k t).way

  pub pieces-places : (pick other : Pick) (k p v : ℕ) → HasPlaces (all_pieces R F job files (first_values R F job files pick k) p v) (all_pieces one_semiring one_conversions job files (first_values one_semiring one_conversions job files other k) p v)
  pieces-places pick other k p v = only-places (has_row job (shape job v) p) (first_values R F job files pick k v p) (first_values one_semiring one_conversions job files other k v p) (first-places pick other k v p)

  pub met-places : (pick other : Pick) (k t p : ℕ) → HasPlaces (met_after R F job files pick k (first_values R F job files pick k) t p) (met_after one_semiring one_conversions job files other k (first_values one_semiring one_conversions job files other k) t p)
  met-places pick other k zero p = λ i j. refl
  met-places pick other k (suc t) p = next (met-places pick other k t)
    where
      next : ((q : ℕ) → HasPlaces (met_after R F job files pick k (first_values R F job files pick k) t q) (met_after one_semiring one_conversions job files other k (first_values one_semiring one_conversions job files other k) t q))
          → HasPlaces (met_after R F job files pick k (first_values R F job files pick k) (suc t) p) (met_after one_semiring one_conversions job files other k (first_values one_semiring one_conversions job files other k) (suc t) p)
      next h i j =
          combined-places R one_semiring (target_at R F job files p k t (all_pieces R F job files (first_values R F job files pick k) p)).mode (is_fixed job k) job.ranks
          (target_at R F job files p k t (all_pieces R F job files (first_values R F job files pick k) p)).old
          (target_at one_semiring one_conversions job files p k t (all_pieces one_semiring one_conversions job files (first_values one_semiring one_conversions job files other k) p)).old
          (λ q. brought job files (transfer_at job k t) (entries R F job files q k t (all_pieces R F job files (first_values R F job files pick k) q) (met_after R F job files pick k (first_values R F job files pick k) t q)) q p)
          (λ q. brought job files (transfer_at job k t) (entries one_semiring one_conversions job files q k t (all_pieces one_semiring one_conversions job files (first_values one_semiring one_conversions job files other k) q) (met_after one_semiring one_conversions job files other k (first_values one_semiring one_conversions job files other k) t q)) q p)
          (source_of job (transfer_at job k t).way (transfer_at job k t).plan (pick k)) (source_of job (transfer_at job k t).way (transfer_at job k t).plan (other k))
          (target-places p k t (all_pieces R F job files (first_values R F job files pick k) p) (all_pieces one_semiring one_conversions job files (first_values one_semiring one_conversions job files other k) p) (pieces-places pick other k p))
          (λ q. only-places (passes job files (transfer_at job k t) q p)
          (entries R F job files q k t (all_pieces R F job files (first_values R F job files pick k) q) (met_after R F job files pick k (first_values R F job files pick k) t q))
          (entries one_semiring one_conversions job files q k t (all_pieces one_semiring one_conversions job files (first_values one_semiring one_conversions job files other k) q) (met_after one_semiring one_conversions job files other k (first_values one_semiring one_conversions job files other k) t q))
          (entries-places q k (transfer_at job k t).way t (all_pieces R F job files (first_values R F job files pick k) q) (all_pieces one_semiring one_conversions job files (first_values one_semiring one_conversions job files other k) q)
          (met_after R F job files pick k (first_values R F job files pick k) t q) (met_after one_semiring one_conversions job files other k (first_values one_semiring one_conversions job files other k) t q)
          (pieces-places pick other k q) (h q) (maker_of job k))) i j
          ∙ ap (λ mode. is_some (combined one_semiring mode (is_fixed job k) job.ranks
          (target_at one_semiring one_conversions job files p k t (all_pieces one_semiring one_conversions job files (first_values one_semiring one_conversions job files other k) p)).old
          (λ q. brought job files (transfer_at job k t) (entries one_semiring one_conversions job files q k t (all_pieces one_semiring one_conversions job files (first_values one_semiring one_conversions job files other k) q) (met_after one_semiring one_conversions job files other k (first_values one_semiring one_conversions job files other k) t q)) q p)
          (source_of job (transfer_at job k t).way (transfer_at job k t).plan (other k)) i j))
          (modes-same p k t (all_pieces R F job files (first_values R F job files pick k) p) (all_pieces one_semiring one_conversions job files (first_values one_semiring one_conversions job files other k) p))

  -- what a rank has for others has the places of the letters
  pub had-places : (pick : Pick) (k t p : ℕ)
      → HasPlaces (entries R F job files p k t (all_pieces R F job files (first_values R F job files pick k) p) (met_after R F job files pick k (first_values R F job files pick k) t p)) (entry_places job files p k t)
  had-places pick k t p =
      entries-places p k (transfer_at job k t).way t (all_pieces R F job files (first_values R F job files pick k) p) (all_pieces one_semiring one_conversions job files (structure_before job files k) p)
      (met_after R F job files pick k (first_values R F job files pick k) t p) (met_after one_semiring one_conversions job files (λ v i j. 0) k (structure_before job files k) t p)
      (pieces-places pick (λ v i j. 0) k p) (met-places pick (λ v i j. 0) k t p) (maker_of job k)

pub places_are_structure : {S : Type 0} (R : Semiring S) (F : Conversions S) → PlacesAreStructure R F
places_are_structure R F = λ job files pick v p i j. first-places R F job files pick (λ k i j. 0) (value_count job) v p i j
