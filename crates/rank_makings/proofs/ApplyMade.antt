-- The rank's piece of an apply, of what came at its last stage.
use Rattle.std.proofs.Common.{◌≡◌, ℕ, ◌-◌, ◌*◌, ◌+◌, ◌&&◌, Bool, true, false, cond, ltb, List, [], length, get_or, Option, None, Some, Result, Ok, Err, IfOk, refl, sym, ap, ◌∙◌, subst, arith}
use Rattle.std.specs.Prelude.{is_some, slice_get}
use Rattle.std.specs.Option.{option_and_then}
use Rattle.scalar_laws.specs.Semiring.{Semiring}
use Rattle.scalar_laws.specs.Conversions.{Conversions}
use Rattle.tables.specs.Indices.{AreBelow}
use Rattle.tables.specs.Tables.{Table}
use Rattle.map_core.specs.Layouts.{local_index}
use Rattle.crs_matrix.specs.Matrices.{crs_table}
use Rattle.mm_text.specs.Reading.{File}
use Rattle.multivector.specs.Vectors.{IsVector, VectorState, has_cell, vector_table}
use Rattle.multivector.proofs.Cells.{all-there}
use Rattle.peers.specs.Protocols.{Letter}
use Rattle.model_defs.specs.declared.job.Job.{Job}
use Rattle.model_defs.specs.declared.phase.Way.TheVariants.{ToOwners}
use Rattle.model_defs.specs.declared.shape.Shape.{Shape}
use Rattle.model_defs.specs.FileMatrix.{number_of}
use Rattle.model_defs.specs.Machine.{arrivals, piece}
use Rattle.model_defs.specs.Maps.{list_of, size_of}
use Rattle.model_defs.specs.Operations.{combination, grown, product}
use Rattle.model_defs.specs.Shapes.{is_split_sort, shape}
use Rattle.model_defs.specs.Stages.{first_pieces, gathered_after, made_piece, own_addend, stage_count, transfer_at}
use Rattle.rank_stages.proofs.MadeValues.{pieces_are_made}
use Rattle.rank_share.specs.declared.share.Share.{Share}
use Rattle.rank_values.specs.Vectors.{global_table, lines_on}
use Rattle.dense_arrivals.specs.Applies.{IsGoodApply, IsThere, first_transfer, second_transfer}
use Rattle.dense_arrivals.proofs.Made.{applies-have-transfers, copies-are-applied, sums-are-applied}
use Rattle.value_phases.specs.ValueKinds.{IsApply}
use Rattle.rank_pieces.specs.declared.pieces.Piece.{Piece}
use Rattle.rank_pieces.specs.declared.pieces.Piece.TheVariants as of
use Rattle.rank_pieces.specs.declared.pieces.RankMatrix.{RankMatrix}
use Rattle.rank_pieces.specs.Pieces.{HasRows, IsMatrixOf, IsOwnPiece}
use Rattle.rank_pieces.proofs.OwnPieces.{before as first-piece}
use Rattle.rank_makings.specs.declared.applying.Operands.{Operands}
use Rattle.rank_makings.specs.Applying.{AreOperands, ends_with_copies}
use Rattle.rank_makings.specs.Beginnings.{CanFinish}
use Rattle.rank_makings.specs.Lists.{columns_in, target_list}
use Rattle.rank_makings.proofs.ApplyAnswers.{shape-read}
use Rattle.rank_makings.proofs.ApplyPlans.{along, below}

-- what holds of a result, of all that its contract says
pub if-four : {T E : Type 0} {P Q M N W : T → Type 0} (r : Result T E) → IfOk r P → IfOk r Q → IfOk r M → IfOk r N → ((x : T) → P x → Q x → M x → N x → W x) → IfOk r W
if-four (Ok x) p q m n f = f x p q m n
if-four (Err e) p q m n f = tt

-- two vectors on one list, with as many columns, have the same cells
same-there : {S : Type 0} (a b : VectorState S) → IsVector a → IsVector b → a.map ≡ b.map → a.columns ≡ b.columns → (i j : ℕ) → IsThere (global_table a i j) (global_table b i j)
same-there {S} a b full whole map columns i j = cells a full ∙ (λ s. at (map s) (columns s)) ∙ sym (cells b whole)
  where
    at : List ℕ → ℕ → Bool
    at list width = is_some (option_and_then (λ l. cond (ltb l (length list) && ltb j width) (Some l) None) (local_index list i))

    one : (v : VectorState S) → IsVector v → (l : ℕ) → is_some (vector_table v l j) ≡ is_some (cond (ltb l (length v.map) && ltb j v.columns) (Some l) None)
    one v is l = by (has_cell v l j) refl
      where
        by : (h : Bool) → has_cell v l j ≡ h → is_some (vector_table v l j) ≡ is_some (cond h (Some l) None)
        by true e = all-there v is l j e
        by false e = ap (λ h. is_some (cond h (slice_get v.values (l * v.columns + j)) None)) e

    cells : (v : VectorState S) → IsVector v → is_some (global_table v i j) ≡ at v.map v.columns
    cells v is = by (local_index v.map i)
      where
        by : (l : Option ℕ) → is_some (option_and_then (λ l. vector_table v l j) l) ≡ is_some (option_and_then (λ l. cond (ltb l (length v.map) && ltb j v.columns) (Some l) None) l)
        by None = refl
        by (Some l) = one v is l

module _ {S : Type 0} {R : Semiring S} {F : Conversions S} {job : Job} {files : List File} {me : ℕ} {share : Share} {shapes : List Shape} {pieces : List (Piece S)} {given : List Letter}
    {k : ℕ} {came : VectorState S} (can : CanFinish R F job files me share shapes pieces given k came) (apply : IsApply job k)
    {o : Operands} (said : AreOperands apply o) {m : RankMatrix S} (matrix_at : slice_get pieces o.matrix ≡ Some (of.Matrix m)) where
  at-a : slice_get pieces apply.a ≡ Some (of.Matrix m)
  at-a = ap (slice_get pieces) (sym said.matrix) ∙ matrix_at

  own-m : IsOwnPiece R F job files me given apply.a (of.Matrix m)
  own-m = can.at.pieces_are.each apply.a (of.Matrix m) at-a

  is-m : IsMatrixOf job files me apply.a m
  is-m = own-m.of

  abbrev mine : ℕ → Table S
  mine = first_pieces R F job files me (arrivals R F job files me given) k

  first-a : mine apply.a ≡ crs_table m.matrix
  first-a = first-piece R F job files me given k apply.a apply.before_a apply.below ∙ sym own-m.table

  abbrev good : IsGoodApply job files k
  good = record { valid = can.at.input.valid; fitting = can.at.input.fitting; apply = apply }

  abbrev is-split : Bool
  is-split = is_split_sort (shape job apply.a).sort

  -- the piece is made of what came
  made : piece R F job files me k given ≡ made_piece R F job files me k mine (global_table came)
  made =
      pieces_are_made R F job files me k given apply.below
      ∙ ap (made_piece R F job files me k mine)
      (sym (can.have.table ∙ ap (λ n. gathered_after R F job files me (arrivals R F job files me given) k mine n) can.last_is))

  -- where copies came at the end, the matrix is whole and not transposed
  whole-plain : ends_with_copies m.rows o.transposed ≡ true → (is-split ≡ false) × (o.transposed ≡ false)
  whole-plain e = by is-split is-m.rows refl o.transposed refl
    where
      by : (split : Bool) → HasRows job files me split apply.a m → is-split ≡ split → (t : Bool) → o.transposed ≡ t → (is-split ≡ false) × (o.transposed ≡ false)
      by true rows s t f = absurd (let one = sym (ap (λ r. ends_with_copies r o.transposed) rows.1) ∙ e in let bad : ⊥ = cc in bad)
      by false rows s true f = absurd (let one = sym (λ i. ends_with_copies (rows.1 i) (f i)) ∙ e in let bad : ⊥ = cc in bad)
      by false rows s false f = (s, f)

  last-first : is-split ≡ false → can.last ≡ 0
  last-first s =
      let one = (applies-have-transfers job k apply).1 ∙ ap (λ b. cond b 2 1) s in
      let last = can.last_is in
      omega (arith, last, one)

  -- copies came to the columns
  pub copies-on : ends_with_copies m.rows o.transposed ≡ true → came.map ≡ m.matrix.graph.cols
  copies-on e =
      let is = whole-plain e in
      can.have.map
      ∙ ap (λ n. target_list job files me pieces (transfer_at job k n)) (last-first is.0)
      ∙ ap (target_list job files me pieces) ((applies-have-transfers job k apply).0 ∙ (λ i. first_transfer apply.a (is.0 i) ((sym said.transposed ∙ is.1) i)))
      ∙ ap columns_in at-a

  -- sums came to the rank's own rows of the result
  last-to-owners : ends_with_copies m.rows o.transposed ≡ false
      → (transfer_at job k (stage_count job k - 1)).way ≡ ToOwners
  last-to-owners e = by is-split is-m.rows refl o.transposed refl
    where
      by : (split : Bool) → HasRows job files me split apply.a m → is-split ≡ split → (t : Bool) → o.transposed ≡ t → (transfer_at job k (stage_count job k - 1)).way ≡ ToOwners
      by true rows s t f =
          ap (λ n. (transfer_at job k (n - 1)).way) ((applies-have-transfers job k apply).1 ∙ ap (λ b. cond b 2 1) s)
          ∙ ap (λ u. u.way) ((applies-have-transfers job k apply).2 s) ∙ second apply.transposed
        where
          second : (t : Bool) → (second_transfer apply.a t).way ≡ ToOwners
          second false = refl
          second true = refl
      by false rows s true f =
          ap (λ n. (transfer_at job k (n - 1)).way) ((applies-have-transfers job k apply).1 ∙ ap (λ b. cond b 2 1) s)
          ∙ ap (λ u. u.way) ((applies-have-transfers job k apply).0 ∙ (λ i. first_transfer apply.a (s i) ((sym said.transposed ∙ f) i)))
      by false rows s false f = absurd (let one = sym (λ i. ends_with_copies (rows.1 i) (f i)) ∙ e in let bad : ⊥ = cc in bad)

  owner-of : (t : Bool) → apply.transposed ≡ t → target_list job files me pieces (second_transfer apply.a t) ≡ list_of job (shape job k).rows me
  owner-of true t = ap (λ n. list_of job n me) (sym (apply.rows ∙ ap (λ b. cond b (shape job apply.a).domain (shape job apply.a).rows) t))
  owner-of false t = ap (λ n. list_of job n me) (sym (apply.rows ∙ ap (λ b. cond b (shape job apply.a).domain (shape job apply.a).rows) t))

  whole-owner : apply.transposed ≡ true → target_list job files me pieces (first_transfer apply.a false true) ≡ list_of job (shape job k).rows me
  whole-owner t = owner-of true t

  pub sums-on : ends_with_copies m.rows o.transposed ≡ false → came.map ≡ list_of job (shape job k).rows me
  sums-on e = can.have.map ∙ by is-split is-m.rows refl o.transposed refl
    where
      by : (split : Bool) → HasRows job files me split apply.a m → is-split ≡ split → (t : Bool) → o.transposed ≡ t
          → target_list job files me pieces (transfer_at job k can.last) ≡ list_of job (shape job k).rows me
      by true rows s t f =
          let two : stage_count job k ≡ 2 = (applies-have-transfers job k apply).1 ∙ ap (λ b. cond b 2 1) s in
          let is = can.last_is in
          let last : can.last ≡ 1 = omega (arith, two, is) in
          ap (λ n. target_list job files me pieces (transfer_at job k n)) last
          ∙ ap (target_list job files me pieces) ((applies-have-transfers job k apply).2 s)
          ∙ owner-of apply.transposed refl
      by false rows s true f =
          ap (λ n. target_list job files me pieces (transfer_at job k n)) (last-first s)
          ∙ ap (target_list job files me pieces) ((applies-have-transfers job k apply).0 ∙ (λ i. first_transfer apply.a (s i) ((sym said.transposed ∙ f) i)))
          ∙ whole-owner (sym said.transposed ∙ f)
      by false rows s false f = absurd (let one = sym (λ i. ends_with_copies (rows.1 i) (f i)) ∙ e in let bad : ⊥ = cc in bad)

  -- ---- what is added

  -- the piece of a value, or zeros
  pub record IsAddend (y : VectorState S) : Type 0 where
    pub map : y.map ≡ list_of job (shape job k).rows me
    pub columns : y.columns ≡ (shape job k).columns
    pub table : global_table y ≡ own_addend R job me (shape job k) mine apply.y

  pub addend-piece : (n : ℕ) → o.y ≡ Some n → (y : VectorState S) → slice_get pieces n ≡ Some (of.Vector y) → IsAddend y
  addend-piece n e y at =
      let named : apply.y ≡ Some n = sym said.y ∙ e in
      let is = apply.addend n named in
      let own = can.at.pieces_are.each n (of.Vector y) at in
      record {
        map = own.of.map ∙ ap (λ r. list_of job r me) is.2;
        columns = own.of.columns ∙ is.3;
        table =
            own.table
            ∙ sym (first-piece R F job files me given k n is.0 apply.below)
            ∙ ap (own_addend R job me (shape job k) mine) (sym named);
      }

  pub addend-zeros : o.y ≡ None → (d c : Shape) (list : List ℕ) → list ≡ list_of job (get_or shapes k d).rows me → (y : VectorState S) → y.map ≡ list → y.columns ≡ (get_or shapes k c).columns
      → global_table y ≡ lines_on R F list (get_or shapes k c).columns [] → IsAddend y
  addend-zeros e d c list list_is y on columns table =
      let rows = list_is ∙ ap (λ s. list_of job s.rows me) (shape-read can.at k d apply.below) in
      let width = ap (λ s. s.columns) (shape-read can.at k c apply.below) in
      record {
        map = on ∙ rows;
        columns = columns ∙ width;
        table =
            table
            ∙ (λ i. lines_on R F (rows i) (width i) [])
            ∙ ap (own_addend R job me (shape job k) mine) (sym (sym said.y ∙ e));
      }

  module _ {y : VectorState S} (is : IsAddend y) where
    pub came-columns : came.columns ≡ y.columns
    came-columns = can.have.columns ∙ sym is.columns

    pub copies-lists : ends_with_copies m.rows o.transposed ≡ true → (came.map ≡ m.matrix.graph.cols) × (y.map ≡ m.matrix.graph.rows)
    copies-lists e = (copies-on e, is.map ∙ ap (λ n. list_of job n me) (apply.rows ∙ ap (λ b. cond b (shape job apply.a).domain (shape job apply.a).rows) (sym said.transposed ∙ (whole-plain e).1)) ∙ rows is-split is-m.rows (whole-plain e).0)
      where
        rows : (split : Bool) → HasRows job files me split apply.a m → split ≡ false → list_of job (shape job apply.a).rows me ≡ m.matrix.graph.rows
        rows false has s = sym has.0
        rows true has s = absurd (let bad : ⊥ = cc in bad)

    pub sums-lists : ends_with_copies m.rows o.transposed ≡ false → came.map ≡ y.map
    sums-lists e = sums-on e ∙ sym is.map

    module _ (alpha beta : S) (alpha_is : alpha ≡ number_of R F o.alpha) (beta_is : beta ≡ number_of R F o.beta) (full : IsVector came) (filled : IsVector y)
        (v : VectorState S) (on : v.map ≡ y.map) (columns : v.columns ≡ y.columns)
        (copies : ends_with_copies m.rows o.transposed ≡ true → (n : ℕ) → AreBelow n m.matrix.graph.cols
        → global_table v ≡ grown R alpha (product R n (crs_table m.matrix) (global_table came)) beta (global_table y))
        (sums : ends_with_copies m.rows o.transposed ≡ false → global_table v ≡ combination R alpha (global_table came) beta (global_table y)) where
      factors : (alpha ≡ number_of R F apply.alpha) × (beta ≡ number_of R F apply.beta)
      factors = (alpha_is ∙ ap (number_of R F) said.alpha, beta_is ∙ ap (number_of R F) said.beta)

      table-is : (e : Bool) → ends_with_copies m.rows o.transposed ≡ e → global_table v ≡ made_piece R F job files me k mine (global_table came)
      table-is true e =
          let plain = whole-plain e in
          copies e (size_of job (shape job apply.x).rows)
          (subst (λ n. AreBelow (size_of job n) m.matrix.graph.cols)
          (sym (apply.rows_x ∙ ap (λ b. cond b (shape job apply.a).rows (shape job apply.a).domain) (sym said.transposed ∙ plain.1)))
          (below job files me pieces can.at.input.valid (along job files me pieces is-m at-a false m.columns (λ e. refl) (λ e. absurd (let bad : ⊥ = cc in bad)))))
          ∙ (λ i. grown R (factors.0 i) (product R (size_of job (shape job apply.x).rows) (sym first-a i) (global_table came)) (factors.1 i) (is.table i))
          ∙ sym (copies-are-applied R F job files k me (arrivals R F job files me given) good (global_table came) plain.0 (sym said.transposed ∙ plain.1))
      table-is false e =
          sums e
          ∙ (λ i. combination R (factors.0 i) (global_table came) (factors.1 i) (is.table i))
          ∙ sym (sums-are-applied R F job files k me (arrivals R F job files me given) good (global_table came) (last-to-owners e)
          (λ i j. same-there came y full filled (sums-lists e) came-columns i j ∙ ap (λ t. is_some (t i j)) is.table))

      pub apply-made : IsOwnPiece R F job files me given k (of.Vector v)
      apply-made = record {
        of = record { dense = apply.dense; map = on ∙ is.map; columns = columns ∙ is.columns };
        table = table-is (ends_with_copies m.rows o.transposed) refl ∙ sym made;
      }
