-- What calls answer where a stage of an apply is begun.
use Rattle.std.proofs.Common.{◌≡◌, ℕ, zero, suc, ◌<◌, ◌≤◌, inl, inr, Bool, true, false, cond, List, [], ◌∷◌, length, get_or, Option, None, Some, refl, sym, ap, ◌∙◌, subst, arith}
use Rattle.std.specs.Prelude.{slice_get}
use Rattle.std.proofs.lemmas.Bool.{cases_lt}
use Rattle.std.proofs.lemmas.List.{get_or_default}
use Rattle.std.proofs.lemmas.Option.{same_Some}
use Rattle.scalar_laws.specs.Semiring.{Semiring}
use Rattle.scalar_laws.specs.Conversions.{Conversions}
use Rattle.mm_text.specs.Reading.{File}
use Rattle.multivector.specs.Vectors.{VectorState}
use Rattle.peers.specs.Protocols.{Letter}
use Rattle.model_defs.specs.declared.job.Job.{Job}
use Rattle.model_defs.specs.declared.phase.Way.TheVariants.{ToOwners}
use Rattle.model_defs.specs.declared.shape.Shape.{Shape}
use Rattle.model_defs.specs.Machine.{arrivals}
use Rattle.model_defs.specs.Makers.{value_count}
use Rattle.model_defs.specs.Maps.{list_of}
use Rattle.model_defs.specs.Shapes.{is_dense, is_split_sort, no_shape, shape}
use Rattle.model_defs.specs.Stages.{stage_count, transfer_at}
use Rattle.rank_matrices.specs.Matrices.{source_list}
use Rattle.rank_plans.specs.Books.{Book}
use Rattle.rank_share.specs.declared.share.Share.{Share}
use Rattle.dense_arrivals.specs.Applies.{first_transfer, got, mine, second_transfer}
use Rattle.dense_arrivals.proofs.Made.{applies-have-transfers}
use Rattle.value_phases.specs.ValueKinds.{IsApply}
use Rattle.rank_pieces.specs.declared.pieces.Piece.{Piece}
use Rattle.rank_pieces.specs.declared.pieces.Piece.TheVariants as of
use Rattle.rank_pieces.specs.declared.pieces.RankMatrix.{RankMatrix}
use Rattle.rank_pieces.specs.Pieces.{HasRows, IsOwnPiece}
use Rattle.rank_makings.specs.declared.applying.Operands.{Operands}
use Rattle.rank_makings.specs.Applying.{AreCopiesOf, AreOperands, AreSumsOf, IsApplying, starts_with_copies}
use Rattle.rank_makings.specs.Beginnings.{CameBefore, CanBegin, IsAt}
use Rattle.rank_makings.specs.Comings.{HaveCome}
use Rattle.rank_makings.specs.Lists.{columns_in, rows_in, target_list}
use Rattle.rank_makings.proofs.ApplyCells.{first-x, is-m, own-x, x-columns}

-- ---- what is read of shapes and of pieces

beyond : (xs : List Shape) (v : ℕ) → length xs ≤ v → get_or xs v no_shape ≡ no_shape
beyond [] v l = refl
beyond (x ∷ xs) zero l = absurd (omega arith)
beyond (x ∷ xs) (suc v) l = beyond xs v (omega arith)

some-at : {A : Type 0} (xs : List A) (n : ℕ) → n < length xs → (a : A) × (slice_get xs n ≡ Some a)
some-at [] n l = absurd (omega arith)
some-at (x ∷ xs) zero l = (x, refl)
some-at (x ∷ xs) (suc n) l = some-at xs n (omega arith)

module _ {S : Type 0} {R : Semiring S} {F : Conversions S} {job : Job} {files : List File} {me : ℕ} {share : Share} {shapes : List Shape} {pieces : List (Piece S)} {given : List Letter} {k : ℕ}
    (at : IsAt R F job files me share shapes pieces given k) where
  -- each value has a shape in the list, since none has that of nothing
  pub shape-listed : (v : ℕ) → v < value_count job → v < length shapes
  shape-listed v l = elim (cases_lt v (length shapes)) [
    | inl low ↦ low
    | inr high ↦ absurd (nothing (ap (λ f. f v) (sym at.shapes_are) ∙ beyond shapes v high))
  ]
    where
      nothing : shape job v ≡ no_shape → ⊥
      nothing e =
          let some = subst (λ s. is_dense s.sort ≡ true → 1 ≤ s.columns) e (at.phased.shapes v l).some_column refl in
          let bad : ⊥ = omega arith in
          bad

  pub shape-read : (v : ℕ) (d : Shape) → v < value_count job → get_or shapes v d ≡ shape job v
  shape-read v d l = get_or_default shapes v d no_shape (shape-listed v l) ∙ ap (λ f. f v) at.shapes_are

  there : (v : ℕ) → v < k → (p : Piece S) × (slice_get pieces v ≡ Some p)
  there v l = some-at pieces v (let many = at.pieces_are.many in omega (arith, many, l))

  -- a matrix before, and a vector before
  pub matrix-there : (v : ℕ) → v < k → is_dense (shape job v).sort ≡ false → (m : RankMatrix S) × (slice_get pieces v ≡ Some (of.Matrix m))
  matrix-there v l thin = by (there v l).0 (there v l).1 (at.pieces_are.each v (there v l).0 (there v l).1)
    where
      by : (p : Piece S) → slice_get pieces v ≡ Some p → IsOwnPiece R F job files me given v p → (m : RankMatrix S) × (slice_get pieces v ≡ Some (of.Matrix m))
      by (of.Matrix m) e is = (m, e)
      by (of.Vector x) e is = absurd (let thick = is.of.dense in let bad : ⊥ = cc in bad)

  pub vector-there : (v : ℕ) → v < k → is_dense (shape job v).sort ≡ true → (x : VectorState S) × (slice_get pieces v ≡ Some (of.Vector x))
  vector-there v l thick = by (there v l).0 (there v l).1 (at.pieces_are.each v (there v l).0 (there v l).1)
    where
      by : (p : Piece S) → slice_get pieces v ≡ Some p → IsOwnPiece R F job files me given v p → (x : VectorState S) × (slice_get pieces v ≡ Some (of.Vector x))
      by (of.Vector x) e is = (x, e)
      by (of.Matrix m) e is = absurd (let thin = is.of.sparse in let bad : ⊥ = cc in bad)

  module _ (apply : IsApply job k) {o : Operands} (said : AreOperands apply o) where
    pub matrix-named : (m : RankMatrix S) × (slice_get pieces o.matrix ≡ Some (of.Matrix m))
    matrix-named = subst (λ v. (m : RankMatrix S) × (slice_get pieces v ≡ Some (of.Matrix m))) (sym said.matrix) (matrix-there apply.a apply.before_a apply.sparse_a)

    pub vector-named : (x : VectorState S) × (slice_get pieces o.x ≡ Some (of.Vector x))
    vector-named = subst (λ v. (x : VectorState S) × (slice_get pieces v ≡ Some (of.Vector x))) (sym said.x) (vector-there apply.x apply.before_x apply.dense_x)

    -- what is added
    pub addend-named : (y : ℕ) → o.y ≡ Some y → (v : VectorState S) × (slice_get pieces y ≡ Some (of.Vector v))
    addend-named y e =
        let is = apply.addend y (sym said.y ∙ e) in
        vector-there y is.0 (ap is_dense is.1 ∙ apply.dense)

-- ---- a stage that is begun

module _ {S : Type 0} {R : Semiring S} {F : Conversions S} {job : Job} {files : List File} {me : ℕ} {share : Share} {shapes : List Shape} {pieces : List (Piece S)} {given : List Letter} {book : Book}
    {k stage : ℕ} {came : Option (VectorState S)} (can : CanBegin R F job files me share shapes pieces given book k stage came) (apply : IsApply job k)
    {o : Operands} (said : AreOperands apply o) {m : RankMatrix S} (matrix_at : slice_get pieces o.matrix ≡ Some (of.Matrix m)) where
  abbrev is-applying : (x : VectorState S) → slice_get pieces o.x ≡ Some (of.Vector x) → IsApplying R F job files me pieces given k stage o.x m x o.transposed
  is-applying x vector_at = record {
    share = share;
    shapes = shapes;
    at = can.at;
    apply = apply;
    known = can.known;
    phase = can.phase;
    sends = can.sends;
    heard = can.heard;
    value_is = said.x;
    transposed_is = said.transposed;
    matrix_at = ap (slice_get pieces) (sym said.matrix) ∙ matrix_at;
    vector_at = ap (slice_get pieces) (sym said.x) ∙ vector_at;
  }

  rows-read : (d : Shape) → (get_or shapes k d).rows ≡ (shape job k).rows
  rows-read d = ap (λ s. s.rows) (shape-read can.at k d apply.below)

  -- where nothing came before, it is the first one
  first-stage : came ≡ None → stage ≡ 0
  first-stage none = by stage came can.before none
    where
      by : (n : ℕ) (c : Option (VectorState S)) → CameBefore R F job files me share shapes pieces given k n c → c ≡ None → n ≡ 0
      by zero c b e = refl
      by (suc n) None b e = absurd b
      by (suc n) (Some v) b e = absurd (let bad : ⊥ = cc in bad)

  pub copies-first : came ≡ None → (x : VectorState S) → slice_get pieces o.x ≡ Some (of.Vector x) → starts_with_copies m.rows o.transposed ≡ true
      → AreCopiesOf R F job files me pieces given k stage o.x m x o.transposed
  copies-first none x vector_at copies = record { applying = is-applying x vector_at; first = first-stage none; copies = copies }

  pub sums-first : came ≡ None → (x : VectorState S) → slice_get pieces o.x ≡ Some (of.Vector x) → starts_with_copies m.rows o.transposed ≡ false → (d : Shape)
      → AreSumsOf R F job files me pieces given k stage (get_or shapes k d).rows m x o.transposed
  sums-first none x vector_at sums d = by (is_split_sort (shape job apply.a).sort) refl (is-m applying).rows o.transposed refl
    where
      applying : IsApplying R F job files me pieces given k stage o.x m x o.transposed
      applying = is-applying x vector_at

      way : is_split_sort (shape job apply.a).sort ≡ false → o.transposed ≡ true → (transfer_at job k stage).way ≡ ToOwners
      way s t =
          ap (λ n. (transfer_at job k n).way) (first-stage none)
          ∙ ap (λ u. u.way) (applies-have-transfers job k apply).0
          ∙ (λ i. (first_transfer apply.a (s i) ((sym said.transposed ∙ t) i)).way)

      by : (split : Bool) → is_split_sort (shape job apply.a).sort ≡ split → HasRows job files me split apply.a m → (t : Bool) → o.transposed ≡ t
          → AreSumsOf R F job files me pieces given k stage (get_or shapes k d).rows m x o.transposed
      by true s rows t e = absurd (let one : starts_with_copies m.rows o.transposed ≡ true = ap (λ r. starts_with_copies r o.transposed) rows.1 ∙ refl in let bad : ⊥ = cc in bad)
      by false s rows false e = absurd (let one : starts_with_copies m.rows o.transposed ≡ true = (λ i. starts_with_copies (rows.1 i) (e i)) in let bad : ⊥ = cc in bad)
      by false s rows true e = record {
        value = o.x;
        x = x;
        applying = applying;
        to_owners = way s e;
        rows_are = rows-read d;
        map =
            (own-x applying).of.map
            ∙ ap (λ n. list_of job n me) (apply.rows_x ∙ ap (λ b. cond b (shape job apply.a).rows (shape job apply.a).domain) (sym said.transposed ∙ e))
            ∙ sym rows.0
            ∙ ap (λ t. source_list t m.matrix.graph) (sym e);
        columns = x-columns applying;
        table = sym (first-x applying) ∙ ap (λ b. cond b (got R F job files me (arrivals R F job files me given) k 1) (mine R F job files me (arrivals R F job files me given) k apply.x)) (sym s);
      }

  pub sums-second : (near : VectorState S) → came ≡ Some near → (d : Shape) → AreSumsOf R F job files me pieces given k stage (get_or shapes k d).rows m near o.transposed
  sums-second near some d = by stage refl came can.before some
    where
      x : VectorState S
      x = (vector-named can.at apply said).0

      applying : IsApplying R F job files me pieces given k stage o.x m x o.transposed
      applying = is-applying x (vector-named can.at apply said).1

      -- copies came to the list of the first transfer
      first-list : (t : Bool) → target_list job files me pieces (first_transfer apply.a true t) ≡ source_list t m.matrix.graph
      first-list false = ap columns_in applying.matrix_at
      first-list true = ap (rows_in _) applying.matrix_at

      last-way : (t : Bool) → (second_transfer apply.a t).way ≡ ToOwners
      last-way false = refl
      last-way true = refl

      is : (n : ℕ) → stage ≡ suc n → HaveCome R F job files me pieces given k n near → (split : Bool) → is_split_sort (shape job apply.a).sort ≡ split
          → AreSumsOf R F job files me pieces given k stage (get_or shapes k d).rows m near o.transposed
      is n e have false s =
          let one = (applies-have-transfers job k apply).1 ∙ ap (λ b. cond b 2 1) s in
          let known = can.known in
          absurd (omega (arith, known, one, e))
      is n e have true s =
          let all = applies-have-transfers job k apply in
          let two : stage_count job k ≡ 2 = all.1 ∙ ap (λ b. cond b 2 1) s in
          let known = can.known in
          let first : n ≡ 0 = omega (arith, known, two, e) in
          record {
            value = o.x;
            x = x;
            applying = applying;
            to_owners = ap (λ i. (transfer_at job k i).way) (e ∙ ap suc first) ∙ ap (λ u. u.way) (all.2 s) ∙ last-way apply.transposed;
            rows_are = rows-read d;
            map =
                have.map
                ∙ ap (λ i. target_list job files me pieces (transfer_at job k i)) first
                ∙ ap (target_list job files me pieces) (all.0 ∙ (λ i. first_transfer apply.a (s i) (sym said.transposed i)))
                ∙ first-list o.transposed;
            columns = have.columns;
            table =
                have.table
                ∙ ap (λ i. got R F job files me (arrivals R F job files me given) k (suc i)) first
                ∙ ap (λ b. cond b (got R F job files me (arrivals R F job files me given) k 1) (mine R F job files me (arrivals R F job files me given) k apply.x)) (sym s);
          }

      by : (n : ℕ) → stage ≡ n → (c : Option (VectorState S)) → CameBefore R F job files me share shapes pieces given k n c → c ≡ Some near
          → AreSumsOf R F job files me pieces given k stage (get_or shapes k d).rows m near o.transposed
      by n e None b some = absurd (let bad : ⊥ = cc in bad)
      by zero e (Some v) b some = absurd b
      by (suc n) e (Some v) b some = is n e (subst (HaveCome R F job files me pieces given k n) (same_Some v near some) b) (is_split_sort (shape job apply.a).sort) refl
