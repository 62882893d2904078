-- A rank's pieces of the given values, from its share.
use Rattle.std.proofs.Common.{◌≡◌, ℕ, zero, suc, ◌+◌, ◌-◌, ◌<◌, ◌≤◌, ◌⊎◌, inl, inr, Bool, true, false, cond, ltb, leb, ◌&&◌, ◌||◌, List, [], ◌∷◌, ◌++◌, map, length, get_or, Option, None, Some, refl, sym, ap, ◌∙◌, subst, arith}
use Rattle.std.specs.Option.{unwrap_or, option_and_then}
use Rattle.std.specs.List.{flat_map}
use Rattle.std.specs.Prelude.{ℤ, pos}
use Rattle.std.proofs.lemmas.Bool.{cases_lt, ltb-true, lt-ltb, leb-false}
use Rattle.std.proofs.lemmas.List.Concat.{flat_map-append}
use Rattle.std.proofs.lemmas.List.Elements.{All-get_or}
use Rattle.scalar_laws.specs.Semiring.{Semiring}
use Rattle.scalar_laws.specs.Conversions.{Conversions}
use Rattle.tables.specs.declared.Cell.{Cell}
use Rattle.tables.specs.Indices.{stands, count_from, dealt, AreDistinct}
use Rattle.tables.specs.Tables.{Table, table_of}
use Rattle.map_core.proofs.Members.{stands-concat}
use Rattle.map_core.proofs.Accepted.{placed}
use Rattle.map_core.specs.Classes.{place}
use Rattle.map_core.specs.Layouts.{local_index}
use Rattle.mm_text.specs.declared.file_data.Form.TheVariants.{Array, Coordinate}
use Rattle.mm_text.specs.declared.file_data.Line.{Line}
use Rattle.mm_text.specs.declared.file_data.Mirror.{Mirror}
use Rattle.mm_text.specs.declared.file_data.Mirror.TheVariants.{Plain, Same, Negated}
use Rattle.mm_text.specs.Reading.{File}
use Rattle.model_defs.specs.declared.job.Job.{Job}
use Rattle.model_defs.specs.declared.job.Origin.{Origin}
use Rattle.model_defs.specs.declared.job.Origin.TheVariants.{Files, Fill}
use Rattle.model_defs.specs.declared.job.VectorSpec.{VectorSpec}
use Rattle.model_defs.specs.declared.job.PartsSpec.{PartsSpec}
use Rattle.model_defs.specs.FileMatrix.{number_cell, entry_cells, entry_numbers, file_matrix, number_of}
use Rattle.model_defs.specs.Fitting.{IsFitting, IsExpected, expected_file}
use Rattle.model_defs.specs.Given.{given, given_vector, given_part, at_local, matrix_of, dealt_part, file_count, origin_files, value_file}
use Rattle.model_defs.specs.Makers.{Maker, GivenVector, GivenParts, maker_of, value_count}
use Rattle.model_defs.specs.Maps.{has_index, is_mapped, list_of, layout_of, size_of}
use Rattle.model_defs.specs.Operations.{completed}
use Rattle.model_defs.specs.Pieces.{piece_of}
use Rattle.model_defs.specs.Limits.{HasFewCells}
use Rattle.model_defs.specs.Shapes.{shape, shape_by}
use Rattle.model_defs.specs.Valid.{IsValid, IsValidMaker, IsVectorFile, ArePartFiles}
use Rattle.model_defs.proofs.KnownShapes.{shape-of-made}
use Rattle.rank_share.specs.Shares.{share, cell_count, place_line, entry_lines, place_lines, lines_by, value_lines, origin_lines, place_in}
use Rattle.rank_share.specs.Laws.{lines_table, SharesHaveCells, SharesHavePlaces}
use Rattle.rank_share.proofs.Lined.{cell-table, filled-table}
use Rattle.rank_share.proofs.Positions.{cells-before, maker-vector, maker-parts}

-- what the numbers from n on have, at a place
at-count : {A : Type 0} (f : ℕ → A) (n k m : ℕ) (d : A) → m < k → get_or (map f (count_from n k)) m d ≡ f (n + m)
at-count f n zero m d l = absurd (omega arith)
at-count f n (suc k) zero d l = ap f (omega arith)
at-count f n (suc k) (suc m) d l = at-count f (n + 1) k m d (omega arith) ∙ ap f (omega arith)

module _ {S : Type 0} (R : Semiring S) (F : Conversions S) where
  cells-as-numbers : (cs : List (Cell ℤ)) → flat_map (entry_numbers R F Plain) (map place_line cs) ≡ map (number_cell R F) cs
  cells-as-numbers [] = refl
  cells-as-numbers (c ∷ cs) = ap (λ xs. number_cell R F c ∷ xs) (cells-as-numbers cs)

  places-as-numbers : (mirror : Mirror) (lines : List Line) → flat_map (entry_numbers R F Plain) (flat_map (entry_lines mirror) lines) ≡ flat_map (entry_numbers R F mirror) lines
  places-as-numbers mirror [] = refl
  places-as-numbers mirror (l ∷ ls) =
      let first = cells-as-numbers (entry_cells mirror l) in
      let rest = places-as-numbers mirror ls in
      flat_map-append (entry_numbers R F Plain) (entry_lines mirror l) (flat_map (entry_lines mirror) ls) ∙ (λ t. first t ++ rest t)

  pub shared-places : (job : Job) (files : List File) (p m : ℕ) → m < length job.matrices → lines_table R F (get_or (share job files p).places m []) ≡ dealt_part R F job files (cell_count job + m) p
  shared-places job files p m l =
      let file = value_file job files (cell_count job + m) 0 in
      ap (lines_table R F) (at-count (λ k. place_lines job.ranks p (value_file job files k 0)) (cell_count job) (length job.matrices) m [] l)
      ∙ ap (table_of R) (places-as-numbers file.mirror (dealt job.ranks p file.lines))

-- the local index of an index that stands in a list
local-some : (xs : List ℕ) (g : ℕ) → stands g xs ≡ true → local_index xs g ≡ Some (place xs g)
local-some xs g s = ap (λ b. cond b (Some (place xs g)) None) (lt-ltb (place xs g) (length xs) (placed xs g s).within)

-- a cell of a rank's rows, of two tables that agree there
own-cell : {S : Type 0} (h m c : Bool) (a b : S) → (h ≡ true → m ≡ true) → (h ≡ true → c ≡ true → a ≡ b) → let none : Option S = None in cond h (cond (m && c) (Some a) none) none ≡ cond (h && c) (Some b) none
own-cell true m true a b f g = (λ t. cond (f refl t && true) (Some (g refl refl t)) None)
own-cell true m false a b f g = (λ t. cond (f refl t && false) (Some a) None)
own-cell false m c a b f g = refl

part-cell : {S : Type 0} (h c : Bool) (a b : S) → (h ≡ true → c ≡ true → a ≡ b) → let none : Option S = None in cond (h && c) (Some a) none ≡ cond (h && c) (Some b) none
part-cell true true a b g = λ t. Some (g refl refl t)
part-cell true false a b g = refl
part-cell false c a b g = refl

plain-by-size : (file : File) → (mirror : Mirror) → file.mirror ≡ mirror → ((file.mirror ≡ Plain → ⊥) → ⊥) → file.mirror ≡ Plain
plain-by-size file Plain e h = e
plain-by-size file Same e h = absurd (h (λ f. let bad : ⊥ = cc in bad))
plain-by-size file Negated e h = absurd (h (λ f. let bad : ⊥ = cc in bad))

module _ {S : Type 0} (R : Semiring S) (F : Conversions S) (job : Job) (files : List File) (valid : IsValid job) (fitting : IsFitting job files) (p k : ℕ) (rank : p < job.ranks) (known : k < value_count job) where
  vector-plain : (spec : VectorSpec) (names : List (List ℕ)) → maker_of job k ≡ GivenVector spec → spec.from ≡ Files names → spec.columns ≤ 16 → (value_file job files k 0).mirror ≡ Plain
  vector-plain spec names maker e few = go (leb (size_of job spec.map) 16777216) refl
    where
      one : length names ≡ 1
      one = subst IsVectorFile e (subst (IsValidMaker job k) maker (valid.values k known)).1

      count : file_count (maker_of job k) ≡ length names
      count = ap file_count maker ∙ ap (λ o. length (origin_files o)) e

      want : IsExpected (expected_file job (GivenVector spec) 0) (value_file job files k 0)
      want = subst (λ m. IsExpected (expected_file job m 0) (value_file job files k 0)) maker (fitting.each k 0 known (let a = one in let b = count in omega arith))

      go : (b : Bool) → leb (size_of job spec.map) 16777216 ≡ b → (value_file job files k 0).mirror ≡ Plain
      go true f = (want.dense (ap (λ b. cond b Array Coordinate) f)).plain
      go false f =
          let large = leb-false (size_of job spec.map) 16777216 f in
          plain-by-size (value_file job files k 0) (value_file job files k 0).mirror refl
          (λ ne. let square = want.sound.square ne in let rows = want.rows_are in let cols = want.cols_are in absurd (omega arith))

  parts-plain : (spec : PartsSpec) (names : List (List ℕ)) → maker_of job k ≡ GivenParts spec → spec.from ≡ Files names → (value_file job files k p).mirror ≡ Plain
  parts-plain spec names maker e = (want.dense refl).plain
    where
      all : length names ≡ job.ranks
      all = subst (ArePartFiles job.ranks) e (subst (IsValidMaker job k) maker (valid.values k known)).1

      count : file_count (maker_of job k) ≡ length names
      count = ap file_count maker ∙ ap (λ o. length (origin_files o)) e

      want : IsExpected (expected_file job (GivenParts spec) p) (value_file job files k p)
      want = subst (λ m. IsExpected (expected_file job m p) (value_file job files k p)) maker (fitting.each k p known (let a = all in let b = count in omega arith))

  vector-piece : (spec : VectorSpec) → maker_of job k ≡ GivenVector spec → spec.columns ≤ 16
      → piece_of job (shape_by k (shape job) (GivenVector spec)) p (given R F job files k (GivenVector spec))
      ≡ completed R (has_index job spec.map p) spec.columns (lines_table R F (lines_by job files p k (GivenVector spec)))
  vector-piece spec maker few = λ t i j. at spec.from refl i j t
    where
      list : List ℕ
      list = list_of job spec.map p

      apart : AreDistinct (list_of job spec.map p)
      apart = (valid.layouts spec.map (subst (IsValidMaker job k) maker (valid.values k known)).0.0).distinct p

      mapped : (i : ℕ) → has_index job spec.map p i ≡ true → is_mapped job spec.map i ≡ true
      mapped i s = stands-concat i (layout_of job spec.map).lists p s

      at : (from : Origin) → spec.from ≡ from → (i j : ℕ)
          → cond (has_index job spec.map p i) (given_vector R F job files k spec from i j) None
          ≡ cond (has_index job spec.map p i && ltb j spec.columns) (Some (unwrap_or (lines_table R F (origin_lines (λ g. g) (list_of job spec.map p) spec.columns from (value_file job files k 0)) i j) R.nought)) None
      at (Fill v) e i j =
          own-cell (has_index job spec.map p i) (is_mapped job spec.map i) (ltb j spec.columns) (number_of R F v) _ (mapped i)
          (λ s l. ap (λ o. unwrap_or o R.nought) (sym (filled-table R F (list_of job spec.map p) spec.columns v i j apart s (ltb-true j spec.columns l))))
      at (Files names) e i j =
          own-cell (has_index job spec.map p i) (is_mapped job spec.map i) (ltb j spec.columns) (unwrap_or (matrix_of R F job files (value_file job files k 0) i j) R.nought) _ (mapped i)
          (λ s l. ap (λ o. unwrap_or o R.nought)
          ((λ t. file_matrix R F (vector-plain spec names maker e few t) (value_file job files k 0).lines i j)
          ∙ sym (cell-table R F (λ g. g) (list_of job spec.map p) spec.columns (value_file job files k 0).lines i j apart s (ltb-true j spec.columns l))))

  parts-piece : (spec : PartsSpec) → maker_of job k ≡ GivenParts spec
      → piece_of job (shape_by k (shape job) (GivenParts spec)) p (given R F job files k (GivenParts spec))
      ≡ completed R (has_index job spec.map p) spec.columns (lines_table R F (lines_by job files p k (GivenParts spec)))
  parts-piece spec maker = λ t i j. at spec.from refl i j t
    where
      apart : AreDistinct (list_of job spec.map p)
      apart = (valid.layouts spec.map (subst (IsValidMaker job k) maker (valid.values k known)).0).distinct p

      local : (t : Table S) (i j : ℕ) → has_index job spec.map p i ≡ true → at_local R F job files (list_of job spec.map p) t i j ≡ t (place_in (list_of job spec.map p) i) j
      local t i j s =
          let here = local-some (list_of job spec.map p) i s in
          (λ u. option_and_then (λ l. t l j) (here u)) ∙ sym (λ u. t (unwrap_or (here u) 0) j)

      at : (from : Origin) → spec.from ≡ from → (i j : ℕ)
          → given_part R F job files k spec from p i j
          ≡ cond (has_index job spec.map p i && ltb j spec.columns) (Some (unwrap_or (lines_table R F (origin_lines (place_in (list_of job spec.map p)) (list_of job spec.map p) spec.columns from (value_file job files k p)) i j) R.nought)) None
      at (Fill v) e i j =
          part-cell (has_index job spec.map p i) (ltb j spec.columns) (number_of R F v) _
          (λ s l. ap (λ o. unwrap_or o R.nought) (sym (filled-table R F (list_of job spec.map p) spec.columns v i j apart s (ltb-true j spec.columns l))))
      at (Files names) e i j =
          part-cell (has_index job spec.map p i) (ltb j spec.columns) (unwrap_or (at_local R F job files (list_of job spec.map p) (matrix_of R F job files (value_file job files k p)) i j) R.nought) _
          (λ s l. ap (λ o. unwrap_or o R.nought)
          (local (matrix_of R F job files (value_file job files k p)) i j s
          ∙ (λ t. file_matrix R F (parts-plain spec names maker e t) (value_file job files k p).lines (place_in (list_of job spec.map p) i) j)
          ∙ sym (cell-table R F (place_in (list_of job spec.map p)) (list_of job spec.map p) spec.columns (value_file job files k p).lines i j apart s (ltb-true j spec.columns l))))

  Holds : Maker → Type 0
  Holds m =
      piece_of job (shape_by k (shape job) m) p (given R F job files k m)
      ≡ completed R (has_index job (shape_by k (shape job) m).rows p) (shape_by k (shape job) m).columns (lines_table R F (lines_by job files p k m))

  piece-of-maker : k < cell_count job → Holds (maker_of job k)
  unfolding Holds
  piece-of-maker l = go (cases_lt k (length job.vectors))
    where
      no_vector : VectorSpec
      no_vector = record { name = []; map = 0; columns = 0; from = Fill (pos 0) }

      no_parts : PartsSpec
      no_parts = record { name = []; map = 0; columns = 0; from = Fill (pos 0) }

      go : (k < length job.vectors) ⊎ (length job.vectors ≤ k) → Holds (maker_of job k)
      go (inl m) =
          let maker = maker-vector job k no_vector m in
          let few = (All-get_or (λ v. HasFewCells job v.map v.columns) job.vectors k no_vector m valid.limits.vectors).few in
          subst Holds (sym maker) (vector-piece (get_or job.vectors k no_vector) maker few)
      go (inr m) =
          let maker : maker_of job k ≡ GivenParts (get_or job.parts (k - length job.vectors) no_parts) =
          ap (maker_of job) (let h : k ≡ length job.vectors + (k - length job.vectors) = omega arith in h) ∙ maker-parts job (k - length job.vectors) no_parts (omega arith) in
          subst Holds (sym maker) (parts-piece (get_or job.parts (k - length job.vectors) no_parts) maker)

  pub shared-cells : k < cell_count job
      → piece_of job (shape job k) p (given R F job files k (maker_of job k))
      ≡ completed R (has_index job (shape job k).rows p) (shape job k).columns (lines_table R F (get_or (share job files p).cells k []))
  unfolding Holds
  shared-cells l =
      subst (λ s. piece_of job s p (given R F job files k (maker_of job k)) ≡ completed R (has_index job s.rows p) s.columns (lines_table R F (value_lines job files p k)))
      (sym (shape-of-made job valid k known)) (piece-of-maker l)
      ∙ ap (λ ls. completed R (has_index job (shape job k).rows p) (shape job k).columns (lines_table R F ls))
      (sym (at-count (value_lines job files p) 0 (cell_count job) k [] l ∙ ap (value_lines job files p) (omega arith)))

pub law-of-cells : {S : Type 0} → SharesHaveCells S
law-of-cells R F job files valid fitting p k rank l = shared-cells R F job files valid fitting p k rank (let b = cells-before job in omega arith) l

pub law-of-places : {S : Type 0} → SharesHavePlaces S
law-of-places R F job files p m l = shared-places R F job files p m l
