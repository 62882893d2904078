-- A rank's pieces of the values that statements make without letters.
use Rattle.std.proofs.Common.{◌≡◌, ℕ, zero, suc, ◌<◌, ◌⊎◌, inl, inr, Bool, true, false, cond, List, [], ◌∷◌, length, Option, Some, refl, sym, ap, ◌∙◌, subst, arith}
use Rattle.std.specs.Prelude.{ℤ, slice_get}
use Rattle.std.proofs.lemmas.Bool.{eq-eqb, eqb-true}
use Rattle.std.specs.List.{slice_index_or}
use Rattle.scalar_laws.specs.Semiring.{Semiring, IsSemiring}
use Rattle.scalar_laws.specs.Conversions.{Conversions}
use Rattle.tables.specs.Tables.{Table}
use Rattle.mm_text.specs.Reading.{File}
use Rattle.multivector.specs.Vectors.{IsVector, VectorState}
use Rattle.peers.specs.Protocols.{Letter}
use Rattle.model_defs.specs.declared.job.Job.{Job}
use Rattle.model_defs.specs.declared.job.Step.{Step}
use Rattle.model_defs.specs.declared.job.Step.TheVariants as step
use Rattle.model_defs.specs.declared.phase.Plan.TheVariants.{ImportPlan, ExportPlan}
use Rattle.model_defs.specs.declared.phase.Transfer.{Transfer}
use Rattle.model_defs.specs.declared.shape.Sort.TheVariants as sort
use Rattle.model_defs.specs.FileMatrix.{number_of}
use Rattle.model_defs.specs.Machine.{arrivals, piece, tables_of_phase}
use Rattle.model_defs.specs.Makers.{Made, maker_of, value_count}
use Rattle.model_defs.specs.Maps.{list_of}
use Rattle.model_defs.specs.Operations.{combination, scaled}
use Rattle.model_defs.specs.Shapes.{is_dense, is_split_sort, moved_shape, shape, shape_by}
use Rattle.model_defs.specs.Stages.{first_pieces, make_piece}
use Rattle.model_defs.specs.Transfers.{apply_transfers, from_owners, is_local, to_owners, transfers_by}
use Rattle.model_defs.specs.Valid.{IsValidMaker, IsValidStep}
use Rattle.model_defs.proofs.KnownShapes.{shape-of-made}
use Rattle.model_defs.proofs.Senders.{unsent-local}
use Rattle.rank_stages.proofs.MadeValues.{pieces_are_made}
use Rattle.rank_share.specs.declared.share.Share.{Share}
use Rattle.rank_transfers.specs.Arrivals.{after_table}
use Rattle.rank_transfers.proofs.Local.{local-exports-are-made, local-imports-are-made, local-moves-are-made, local-spreads-are-made}
use Rattle.rank_values.specs.Vectors.{global_table}
use Rattle.value_phases.specs.ValueKinds.{IsMadeMatrix, is_matrix_step}
use Rattle.value_phases.specs.ValuePhases.{IsStructured}
use Rattle.value_phases.proofs.MadeMatrices.{made-matrices-have-operands}
use Rattle.rank_pieces.specs.declared.pieces.Piece.{Piece}
use Rattle.rank_pieces.specs.declared.pieces.Piece.TheVariants as of
use Rattle.rank_pieces.specs.declared.pieces.RankMatrix.{RankMatrix}
use Rattle.rank_pieces.specs.Inputs.{IsRankInput}
use Rattle.rank_pieces.specs.Pieces.{AreOwnPieces, HasRows, IsMadeHere, IsOwnPiece, IsVectorOf}
use Rattle.rank_pieces.specs.Steps.{AreAlike, CanMake, IsSame, IsScaled, IsStepPiece, IsVectorOn}
use Rattle.rank_pieces.proofs.MatrixMoves.{local-matrix-moves}
use Rattle.rank_pieces.proofs.OwnPieces.{before, piece-is}
use Rattle.rank_pieces.proofs.Structures.{on-structure}

pub stands-at : {A : Type 0} (xs : List A) (k : ℕ) → k < length xs → (a : A) × (slice_get xs k ≡ Some a)
stands-at [] k l = absurd (omega arith)
stands-at (y ∷ ys) zero l = (y, refl)
stands-at (y ∷ ys) (suc k) l = stands-at ys k (omega arith)

-- the plans of structures are between different lists
apply-sends : (a : ℕ) (split transposed : Bool) → (0 < length (apply_transfers a split transposed))
    × (is_local (slice_index_or (apply_transfers a split transposed) 0 (from_owners (ImportPlan 0 0))).plan ≡ false)
apply-sends a false false = (omega arith, refl)
apply-sends a false true = (omega arith, refl)
apply-sends a true false = (omega arith, refl)
apply-sends a true true = (omega arith, refl)

module _ (job : Job) (n : ℕ) (known : n < value_count job) (here : IsMadeHere job n) where
  -- the first transfer of a value that is made here is from a map to itself
  local-first : (s : Step) (t : Transfer) → maker_of job n ≡ Made s → transfers_by job n (Made s) ≡ t ∷ [] → is_local t.plan ≡ true
  local-first s t maker one =
      let are = ap (transfers_by job n) maker ∙ one in
      sym (ap (λ ts. is_local (slice_index_or ts 0 (from_owners (ImportPlan 0 0))).plan) are)
      ∙ unsent-local job n 0 known (let many = ap length are in omega arith) (here.unsent 0)

  pub no-apply : (name : List ℕ) (a x : ℕ) (y : Option ℕ) (alpha beta : ℤ) (transposed : Bool) → maker_of job n ≡ Made (step.Apply name a x y alpha beta transposed) → ⊥
  no-apply name a x y alpha beta transposed maker =
      let are = ap (transfers_by job n) maker in
      let sends = apply-sends a (is_split_sort (shape job a).sort) transposed in
      let local = unsent-local job n 0 known (let many = ap length are in let some = sends.0 in omega arith) (here.unsent 0) in
      let not_local = ap (λ ts. is_local (slice_index_or ts 0 (from_owners (ImportPlan 0 0))).plan) are ∙ sends.1 in
      let bad : ⊥ = cc in bad

module _ {S : Type 0} (R : Semiring S) (F : Conversions S) (laws : IsSemiring R) (job : Job) (files : List File) (me : ℕ) (share : Share) (input : IsRankInput F job files me share) (g : List Letter)
    (n : ℕ) (pieces : List (Piece S)) (own : AreOwnPieces R F job files me g n pieces) (known : n < value_count job) (here : IsMadeHere job n) where
  there : (x : ℕ) → x < n → x < length pieces
  there x l = let many = own.many in omega arith

  shape-is : (s : Step) → maker_of job n ≡ Made s → shape job n ≡ shape_by n (shape job) (Made s)
  shape-is s maker = shape-of-made job input.valid n known ∙ ap (shape_by n (shape job)) maker

  valid-step : (s : Step) → maker_of job n ≡ Made s → IsValidStep job n s
  valid-step s maker = subst (IsValidMaker job n) maker (input.valid.values n known)

  -- the piece of a vector or of parts
  pub record HasVector (x : ℕ) : Type 0 where
    pub vector : VectorState S
    pub at : slice_get pieces x ≡ Some (of.Vector vector)
    pub is : IsVectorOf job files me x vector
    pub table : global_table vector ≡ piece R F job files me x g

  vector-at : (x : ℕ) → x < n → is_dense (shape job x).sort ≡ true → HasVector x
  vector-at x l dense = let a = stands-at pieces x (there x l) in go a.0 a.1
    where
      go : (a : Piece S) → slice_get pieces x ≡ Some a → HasVector x
      go (of.Vector v) at = record { vector = v; at = at; is = (own.each x (of.Vector v) at).of; table = (own.each x (of.Vector v) at).table }
      go (of.Matrix m) at = let sparse = (own.each x (of.Matrix m) at).of.sparse in absurd (let bad : ⊥ = cc in bad)

  -- that of a vector before it is among those of which it is made
  first : (x : ℕ) → x < n → (v : VectorState S) → global_table v ≡ piece R F job files me x g → global_table v ≡ first_pieces R F job files me (arrivals R F job files me g) n x
  first x l v table = table ∙ sym (before R F job files me g n x l known)

  nothing : arrivals R F job files me g n 0 ≡ []
  nothing = ap (tables_of_phase R F job files me g) (here.unsent 0)

  -- where its cells are those of one before it, the two are on one map
  import-rows : (s : Step) (source target : ℕ) → maker_of job n ≡ Made s → transfers_by job n (Made s) ≡ from_owners (ImportPlan (shape job source).rows target) ∷ [] → (shape job source).rows ≡ target
  import-rows s source target maker one = eqb-true (shape job source).rows target (local-first job n known here s _ maker one)

  export-rows : (s : Step) (source target : ℕ) → maker_of job n ≡ Made s → transfers_by job n (Made s) ≡ to_owners (ExportPlan (shape job source).rows target) ∷ [] → (shape job source).rows ≡ target
  export-rows s source target maker one = eqb-true (shape job source).rows target (local-first job n known here s _ maker one)

  alike : (x y : ℕ) → HasVector x → HasVector y → (shape job x).rows ≡ (shape job y).rows → (shape job x).columns ≡ (shape job y).columns → AreAlike pieces x y
  alike x y a b rows columns = record {
    left = (a.vector, a.at);
    right = (b.vector, b.at);
    map = a.is.map ∙ ap (λ m. list_of job m me) rows ∙ sym b.is.map;
    columns = a.is.columns ∙ columns ∙ sym b.is.columns;
  }

  -- a matrix of other places has a structure of its own
  no-matrix : is_matrix_step (maker_of job n) ≡ true → ⊥
  no-matrix e = by (made-matrices-have-operands job n input.valid known e)
    where
      by : IsMadeMatrix job n → ⊥
      by (inl is) = here.shared is.made.structured
      by (inr (inl is)) = here.shared is.made.structured
      by (inr (inr (inl is))) = here.shared is.made.structured
      by (inr (inr (inr is))) = here.shared is.made.structured

  pub can-make : (s : Step) → maker_of job n ≡ Made s → CanMake pieces s
  can-make (step.Move name source m) maker = there source (valid-step (step.Move name source m) maker).0
  can-make (step.Import name source onto mode) maker =
      let s = step.Import name source onto mode in
      let ok = valid-step s maker in
      alike source onto (vector-at source ok.0.0 (ap is_dense ok.0.1)) (vector-at onto ok.1.0 (ap is_dense ok.1.1)) (import-rows s source (shape job onto).rows maker refl) ok.3
  can-make (step.Export name source onto mode) maker =
      let s = step.Export name source onto mode in
      let ok = valid-step s maker in
      alike source onto (vector-at source ok.0.0 (ap is_dense ok.0.1)) (vector-at onto ok.1.0 (ap is_dense ok.1.1)) (export-rows s source (shape job onto).rows maker refl) ok.3
  can-make (step.Spread name source m) maker = there source (valid-step (step.Spread name source m) maker).0.0
  can-make (step.Update name x y alpha beta) maker =
      let ok = valid-step (step.Update name x y alpha beta) maker in
      alike x y (vector-at x ok.0 ok.3) (vector-at y ok.1 (ap is_dense (sym ok.2) ∙ ok.3)) ok.4 ok.5
  can-make (step.Scale name value alpha) maker = there value (valid-step (step.Scale name value alpha) maker)
  can-make (step.Print value) maker = absurd (valid-step (step.Print value) maker)
  can-make (step.Apply name a x y alpha beta transposed) maker = absurd (no-apply job n known here name a x y alpha beta transposed maker)
  can-make (step.Transpose name a) maker = absurd (no-matrix (ap is_matrix_step maker))
  can-make (step.Multiply name a b) maker = absurd (no-matrix (ap is_matrix_step maker))
  can-make (step.Add name a b alpha beta) maker = absurd (no-matrix (ap is_matrix_step maker))
  can-make (step.Assemble name source onto mode) maker = absurd (no-matrix (ap is_matrix_step maker))

  -- cells that stay on their map stay as they are
  kept-vector : (source : ℕ) (v : VectorState S) (p : Piece S) → source < n → IsOwnPiece R F job files me g source (of.Vector v) → IsSame (of.Vector v) p
      → is_dense (shape job n).sort ≡ true → (shape job source).rows ≡ (shape job n).rows → (shape job source).columns ≡ (shape job n).columns
      → (IsVector v → v.columns ≡ (shape job n).columns → v.map ≡ list_of job (shape job source).rows me
      → global_table v ≡ first_pieces R F job files me (arrivals R F job files me g) n source
      → make_piece R F job files me (arrivals R F job files me g) n (first_pieces R F job files me (arrivals R F job files me g) n) ≡ global_table v)
      → IsOwnPiece R F job files me g n p
  kept-vector source v p low left is dense rows columns law =
      subst (IsOwnPiece R F job files me g n) (sym is.same) (record {
        of = record { dense = dense; map = left.of.map ∙ ap (λ m. list_of job m me) rows; columns = left.of.columns ∙ columns };
        table = sym (pieces_are_made R F job files me n g known ∙ law is.filled (left.of.columns ∙ columns) left.of.map (first source low v left.table));
      })

  -- so does a matrix
  kept-matrix : (source target : ℕ) (name : List ℕ) (m : RankMatrix S) (p : Piece S) → source < n → IsOwnPiece R F job files me g source (of.Matrix m) → IsSame (of.Matrix m) p
      → maker_of job n ≡ Made (step.Move name source target) → (shape job source).rows ≡ target → (shape job source).sort ≡ sort.Matrix
      → shape job n ≡ moved_shape n (shape job source) target → IsOwnPiece R F job files me g n p
  kept-matrix source target name m p low left is maker rows whole shape_is =
      let sorts : (shape job n).sort ≡ (shape job source).sort = ap (λ s. s.sort) shape_is in
      let structure : (shape job n).structure ≡ (shape job source).structure = ap (λ s. s.structure) shape_is ∙ ap (λ b. cond b (shape job source).structure n) (eq-eqb (shape job source).rows target rows) in
      let list : HasRows job files me false source m = subst (λ b. HasRows job files me b source m) (ap is_split_sort whole) left.of.rows in
      subst (IsOwnPiece R F job files me g n) (sym is.same) (record {
        of = on-structure job files input.valid input.fitting source n (omega (arith, low, known)) known sorts (ap (λ s. s.rows) shape_is ∙ sym rows) (ap (λ s. s.domain) shape_is) structure
            me m m refl refl refl left.of;
        table = sym (pieces_are_made R F job files me n g known
            ∙ local-matrix-moves R F laws job files n source target me name (arrivals R F job files me g) maker (ap is_dense (sorts ∙ whole)) rows nothing m.matrix list.0
            (left.table ∙ sym (before R F job files me g n source low known)));
      })

  -- a vector on the list of the piece of a value of the same shape
  on-vector : (y : ℕ) (b : VectorState S) (t : Table S) (p : Piece S) → IsVectorOf job files me y b → is_dense (shape job n).sort ≡ true → (shape job y).rows ≡ (shape job n).rows
      → (shape job y).columns ≡ (shape job n).columns → t ≡ piece R F job files me n g → IsVectorOn b t p → IsOwnPiece R F job files me g n p
  on-vector y b t (of.Vector v) right dense rows columns table is = record {
    of = record { dense = dense; map = is.map ∙ right.map ∙ ap (λ m. list_of job m me) rows; columns = is.columns ∙ right.columns ∙ columns };
    table = is.table ∙ table;
  }
  on-vector y b t (of.Matrix m) right dense rows columns table is = absurd is

  dense-is : (x : ℕ) (s : Step) → maker_of job n ≡ Made s → shape_by n (shape job) (Made s) ≡ shape job x → is_dense (shape job x).sort ≡ true → is_dense (shape job n).sort ≡ true
  dense-is x s maker e dense = ap (λ t. is_dense t.sort) (shape-is s maker ∙ e) ∙ dense

  moved-own : (name : List ℕ) (source m : ℕ) (p : Piece S) → maker_of job n ≡ Made (step.Move name source m) → (a : Piece S) → slice_get pieces source ≡ Some a → IsSame a p → IsOwnPiece R F job files me g n p
  moved-own name source m p maker (of.Vector v) at is =
      let s = step.Move name source m in
      let low = (valid-step s maker).0 in
      let left = own.each source (of.Vector v) at in
      let rows = import-rows s source m maker refl in
      let target : (shape job n).rows ≡ m = ap (λ t. t.rows) (shape-is s maker) in
      let dense = ap (λ t. is_dense t.sort) (shape-is s maker) ∙ left.of.dense in
      kept-vector source v p low left is dense (rows ∙ sym target) (sym (ap (λ t. t.columns) (shape-is s maker)))
      (λ whole wide on table. local-moves-are-made R F job files n source m me (arrivals R F job files me g) v (record { name = name; is = maker; dense = dense }) rows nothing whole wide on table)
  moved-own name source m p maker (of.Matrix x) at is =
      let s = step.Move name source m in
      let ok = valid-step s maker in
      let left = own.each source (of.Matrix x) at in
      kept-matrix source m name x p ok.0 left is maker (import-rows s source m maker refl) (matrix ok.1 left.of.sparse) (shape-is s maker)
    where
      matrix : {P : Type 0} → ((shape job source).sort ≡ sort.Vector) ⊎ (((shape job source).sort ≡ sort.Matrix) × P) → is_dense (shape job source).sort ≡ false → (shape job source).sort ≡ sort.Matrix
      matrix (inl e) sparse = let dense = ap is_dense e in absurd (let bad : ⊥ = cc in bad)
      matrix (inr e) sparse = e.0

  spread-own : (name : List ℕ) (source m : ℕ) (p : Piece S) → maker_of job n ≡ Made (step.Spread name source m) → (a : Piece S) → slice_get pieces source ≡ Some a → IsSame a p → IsOwnPiece R F job files me g n p
  spread-own name source m p maker (of.Vector v) at is =
      let s = step.Spread name source m in
      let low = (valid-step s maker).0.0 in
      let rows = import-rows s source m maker refl in
      let target : (shape job n).rows ≡ m = ap (λ t. t.rows) (shape-is s maker) in
      let dense = ap (λ t. is_dense t.sort) (shape-is s maker) in
      kept-vector source v p low (own.each source (of.Vector v) at) is dense (rows ∙ sym target) (sym (ap (λ t. t.columns) (shape-is s maker)))
      (λ whole wide on table. local-spreads-are-made R F job files n source m me (arrivals R F job files me g) v (record { name = name; is = maker; dense = dense }) rows nothing whole wide on table)
  spread-own name source m p maker (of.Matrix x) at is =
      let dense = ap is_dense (valid-step (step.Spread name source m) maker).0.1 in
      let sparse = (own.each source (of.Matrix x) at).of.sparse in
      absurd (let bad : ⊥ = cc in bad)

  scaled-own : (name : List ℕ) (value : ℕ) (alpha : ℤ) (p : Piece S) → maker_of job n ≡ Made (step.Scale name value alpha) → (a : Piece S) → slice_get pieces value ≡ Some a
      → IsScaled R (number_of R F alpha) a p → IsOwnPiece R F job files me g n p
  scaled-own name value alpha (of.Vector v) maker (of.Vector a) at is =
      let s = step.Scale name value alpha in
      let low = valid-step s maker in
      let left = own.each value (of.Vector a) at in
      on-vector value a (scaled R (number_of R F alpha) (global_table a)) (of.Vector v) left.of (dense-is value s maker refl left.of.dense) (sym (ap (λ t. t.rows) (shape-is s maker))) (sym (ap (λ t. t.columns) (shape-is s maker)))
      (ap (scaled R (number_of R F alpha)) left.table ∙ sym (piece-is R F job files me g n (Made s) known maker ∙ ap (scaled R (number_of R F alpha)) (before R F job files me g n value low known))) is
  scaled-own name value alpha (of.Matrix m) maker (of.Matrix a) at is =
      let s = step.Scale name value alpha in
      let low = valid-step s maker in
      let left = own.each value (of.Matrix a) at in
      let same : shape job n ≡ shape job value = shape-is s maker in
      record {
        of = on-structure job files input.valid input.fitting value n (omega (arith, low, known)) known (ap (λ t. t.sort) same) (ap (λ t. t.rows) same) (ap (λ t. t.domain) same) (ap (λ t. t.structure) same)
            me a m is.graph is.columns is.rows left.of;
        table =
            is.table
            ∙ ap (scaled R (number_of R F alpha)) left.table
            ∙ sym (piece-is R F job files me g n (Made s) known maker ∙ ap (scaled R (number_of R F alpha)) (before R F job files me g n value low known));
      }
  scaled-own name value alpha (of.Matrix m) maker (of.Vector a) at is = absurd is
  scaled-own name value alpha (of.Vector v) maker (of.Matrix a) at is = absurd is

  pub step-own : (s : Step) (p : Piece S) → maker_of job n ≡ Made s → IsStepPiece R F pieces s p → IsOwnPiece R F job files me g n p
  step-own (step.Move name source m) p maker made =
      let a = stands-at pieces source (there source (valid-step (step.Move name source m) maker).0) in
      moved-own name source m p maker a.0 a.1 (made a.0 a.1)
  step-own (step.Spread name source m) p maker made =
      let a = stands-at pieces source (there source (valid-step (step.Spread name source m) maker).0.0) in
      spread-own name source m p maker a.0 a.1 (made a.0 a.1)
  step-own (step.Import name source onto mode) p maker made =
      let s = step.Import name source onto mode in
      let ok = valid-step s maker in
      let a = vector-at source ok.0.0 (ap is_dense ok.0.1) in
      let b = vector-at onto ok.1.0 (ap is_dense ok.1.1) in
      let rows = import-rows s source (shape job onto).rows maker refl in
      let dense = dense-is onto s maker refl b.is.dense in
      on-vector onto b.vector (after_table R mode (global_table b.vector) (global_table a.vector)) p b.is dense (sym (ap (λ t. t.rows) (shape-is s maker))) (sym (ap (λ t. t.columns) (shape-is s maker)))
      (sym (pieces_are_made R F job files me n g known
      ∙ local-imports-are-made R F job files n source onto mode me (arrivals R F job files me g) a.vector b.vector (record { name = name; is = maker; dense = dense }) rows nothing a.is.map
      (first source ok.0.0 a.vector a.table) (first onto ok.1.0 b.vector b.table)))
      (made a.vector b.vector a.at b.at)
  step-own (step.Export name source onto mode) p maker made =
      let s = step.Export name source onto mode in
      let ok = valid-step s maker in
      let a = vector-at source ok.0.0 (ap is_dense ok.0.1) in
      let b = vector-at onto ok.1.0 (ap is_dense ok.1.1) in
      let rows = export-rows s source (shape job onto).rows maker refl in
      let dense = dense-is onto s maker refl b.is.dense in
      on-vector onto b.vector (after_table R mode (global_table b.vector) (global_table a.vector)) p b.is dense (sym (ap (λ t. t.rows) (shape-is s maker))) (sym (ap (λ t. t.columns) (shape-is s maker)))
      (sym (pieces_are_made R F job files me n g known
      ∙ local-exports-are-made R F job files n source onto mode me (arrivals R F job files me g) a.vector b.vector (record { name = name; is = maker; dense = dense }) rows nothing a.is.map
      (first source ok.0.0 a.vector a.table) (first onto ok.1.0 b.vector b.table)))
      (made a.vector b.vector a.at b.at)
  step-own (step.Update name x y alpha beta) p maker made =
      let s = step.Update name x y alpha beta in
      let ok = valid-step s maker in
      let a = vector-at x ok.0 ok.3 in
      let b = vector-at y ok.1 (ap is_dense (sym ok.2) ∙ ok.3) in
      on-vector y b.vector (combination R (number_of R F alpha) (global_table a.vector) (number_of R F beta) (global_table b.vector)) p b.is (dense-is x s maker refl ok.3)
      (sym ok.4 ∙ sym (ap (λ t. t.rows) (shape-is s maker))) (sym ok.5 ∙ sym (ap (λ t. t.columns) (shape-is s maker)))
      ((λ t. combination R (number_of R F alpha) (a.table t) (number_of R F beta) (b.table t))
      ∙ sym (piece-is R F job files me g n (Made s) known maker
      ∙ (λ t. combination R (number_of R F alpha) (before R F job files me g n x ok.0 known t) (number_of R F beta) (before R F job files me g n y ok.1 known t))))
      (made a.vector b.vector a.at b.at)
  step-own (step.Scale name value alpha) p maker made =
      let a = stands-at pieces value (there value (valid-step (step.Scale name value alpha) maker)) in
      scaled-own name value alpha p maker a.0 a.1 (made a.0 a.1)
  step-own (step.Print value) p maker made = absurd made
  step-own (step.Apply name a x y alpha beta transposed) p maker made = absurd made
  step-own (step.Transpose name a) p maker made = absurd made
  step-own (step.Multiply name a b) p maker made = absurd made
  step-own (step.Add name a b alpha beta) p maker made = absurd made
  step-own (step.Assemble name source onto mode) p maker made = absurd made
