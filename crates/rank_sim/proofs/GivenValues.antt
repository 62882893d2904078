-- What the ranks have once all letters came, whatever the numbers in these: their pieces have the places of the values, and
-- together they are values of the job's shapes.
use Rattle.std.proofs.Common.{◌≡◌, ℕ, zero, suc, ◌+◌, ◌<◌, ◌≤◌, inl, inr, Bool, true, false, cond, ◌||◌, eqb, ltb, List, map, Option, None, Some, refl, sym, ap, ◌∙◌, arith}
use Rattle.std.specs.Prelude.{is_some}
use Rattle.std.proofs.lemmas.Bool.{cases_lt, eq-eqb, eqb-true}
use Rattle.scalar_laws.specs.Semiring.{Semiring}
use Rattle.scalar_laws.specs.Conversions.{Conversions}
use Rattle.tables.specs.Indices.{count_from, each_rank}
use Rattle.tables.specs.Sums.{both_or_one}
use Rattle.tables.specs.Tables.{Table, nowhere, sum_of}
use Rattle.map_core.specs.Layouts.{owner}
use Rattle.map_core.proofs.Owners.{owner-has, owner-none, owner-only, owner-total}
use Rattle.mm_text.specs.Reading.{File}
use Rattle.outside.specs.declared.name.Name.{Name}
use Rattle.outside.specs.MailRoom.{names_of}
use Rattle.peers.specs.Protocols.{Letter, stands_in}
use Rattle.model_defs.specs.declared.job.Job.{Job}
use Rattle.model_defs.specs.declared.shape.Shape.{Shape}
use Rattle.model_defs.specs.declared.shape.Sort.{Sort}
use Rattle.model_defs.specs.declared.shape.Sort.TheVariants.{Vector, Parts, Matrix, Split}
use Rattle.model_defs.specs.Fitting.{IsFitting}
use Rattle.model_defs.specs.Laws.{AreBefore, HasPlaces, HasRowLaws, IsFormed, IsOwned, has_cells}
use Rattle.model_defs.specs.Letters.{letter_names}
use Rattle.model_defs.specs.Machine.{arrivals, gathered_value, piece, united}
use Rattle.model_defs.specs.Makers.{value_count}
use Rattle.model_defs.specs.Maps.{has_index, is_mapped, layout_of}
use Rattle.model_defs.specs.Pieces.{Value, piece_of}
use Rattle.model_defs.specs.Plans.{one_conversions, one_semiring, structure, structure_before}
use Rattle.model_defs.specs.Shapes.{is_by_rank, is_dense, shape}
use Rattle.model_defs.specs.Stages.{make_piece}
use Rattle.model_defs.specs.Turns.{Each, in_turn}
use Rattle.model_defs.specs.Valid.{IsValid}
use Rattle.model_defs.proofs.AllRows.{fitting, one_laws, row-laws}
use Rattle.model_defs.proofs.Filters.{both}
use Rattle.model_defs.proofs.Placed.{pieces-placed}
use Rattle.model_defs.proofs.Whole.{are_before}

none-there : {S : Type 0} (o : Option S) → is_some o ≡ false → o ≡ None
none-there None e = refl
none-there (Some x) e = absurd (cc)

-- ---- the sum of tables of which one has a place

module _ {S : Type 0} (R : Semiring S) (f : ℕ → Table S) (i j : ℕ) where
  abbrev sum_from : ℕ → ℕ → Option S
  sum_from n k = sum_of R (map f (count_from n k)) i j

  sum-none : (n k : ℕ) → ((p : ℕ) → n ≤ p → p < n + k → f p i j ≡ None) → sum_from n k ≡ None
  sum-none n zero h = refl
  sum-none n (suc k) h =
      ap (λ o. both_or_one R.plus o (sum_from (n + 1) k)) (h n (omega arith) (omega arith))
      ∙ sum-none (n + 1) k (λ p l m. h p (omega arith) (omega arith))

  one-left : (o : Option S) → both_or_one R.plus o None ≡ o
  one-left None = refl
  one-left (Some x) = refl

  sum-one : (q n k : ℕ) → n ≤ q → q < n + k → ((p : ℕ) → n ≤ p → p < n + k → eqb p q ≡ false → f p i j ≡ None) → sum_from n k ≡ f q i j
  sum-one q n zero l m h = absurd (omega arith)
  sum-one q n (suc k) l m h = elim (cases_lt n q) [
    | inl after ↦
        ap (λ o. both_or_one R.plus o (sum_from (n + 1) k)) (h n (omega arith) (omega arith) (apart n q after))
        ∙ sum-one q (n + 1) k (omega arith) (omega arith) (λ p a b e. h p (omega arith) (omega arith) e)
    | inr here ↦
        let same : n ≡ q = omega arith in
        ap (λ o. both_or_one R.plus (f n i j) o) (sum-none (n + 1) k (λ p a b. h p (omega arith) (omega arith) (above p q (omega arith))))
        ∙ one-left (f n i j) ∙ ap (λ p. f p i j) same
  ]
    where
      unlike : (b : Bool) (x y : ℕ) → eqb x y ≡ b → (x ≡ y → ⊥) → b ≡ false
      unlike false x y e differ = refl
      unlike true x y e differ = absurd (differ (eqb-true x y e))

      apart : (x y : ℕ) → x < y → eqb x y ≡ false
      apart x y low = unlike (eqb x y) x y refl (λ s. omega arith)

      above : (x y : ℕ) → y < x → eqb x y ≡ false
      above x y low = unlike (eqb x y) x y refl (λ s. omega arith)

-- ---- values that are not there

beyond : {A : Type 0} (none : A) (rule : ℕ → Each A → A) (n v : ℕ) → n ≤ v → in_turn none rule n v ≡ none
beyond none rule zero v l = refl
beyond none rule (suc n) v l =
    ap (λ b. cond b (rule n (in_turn none rule n)) (in_turn none rule n v)) (later (eqb v n) refl) ∙ beyond none rule n v (omega arith)
  where
    later : (b : Bool) → eqb v n ≡ b → b ≡ false
    later false e = refl
    later true e = let same = eqb-true v n e in absurd (omega arith)

pub piece-beyond : {S : Type 0} (R : Semiring S) (F : Conversions S) (job : Job) (files : List File) (p v : ℕ) (g : List Letter) → value_count job ≤ v
    → piece R F job files p v g ≡ nowhere
piece-beyond R F job files p v g l = beyond nowhere (make_piece R F job files p (arrivals R F job files p g)) (value_count job) v l

-- ---- owners

-- a row of a whole value that has a place stands in the list of a rank
pub owning-rank : {S : Type 0} (job : Job) (s : Shape) (v : Value S) → IsFormed job s v → IsOwned job s → is_by_rank s.sort ≡ false → (p i j : ℕ) → is_some (v p i j) ≡ true
    → (q : ℕ) × (q < job.ranks) × (has_index job s.rows q i ≡ true)
owning-rank job s v formed owned whole p i j e = by (owner (layout_of job s.rows) i) refl
  where
    cells : (sort : Sort) → is_by_rank sort ≡ false → is_dense sort ≡ true → has_cells job s sort p i ≡ is_mapped job s.rows i
    cells Vector a b = refl
    cells Parts a b = absurd (cc)
    cells Matrix a b = absurd (cc)
    cells Split a b = absurd (cc)

    nobody : owner (layout_of job s.rows) i ≡ None → (b : Bool) → is_dense s.sort ≡ b → ⊥
    nobody o true d =
        let cell = both (has_cells job s s.sort p i) (ltb j s.columns) (sym (formed.dense d p i j) ∙ e) in
        let unmapped : is_mapped job s.rows i ≡ false = (owner-none (layout_of job s.rows) i).0 o in
        let bad : true ≡ false = sym cell.0 ∙ cells s.sort whole d ∙ unmapped in
        cc
    nobody o false d =
        let some = owner-total (layout_of job s.rows) i (owned.total d) (formed.within d p i j e).0 in
        let bad : true ≡ false = sym some ∙ ap is_some o in
        cc

    by : (o : Option ℕ) → owner (layout_of job s.rows) i ≡ o → (q : ℕ) × (q < job.ranks) × (has_index job s.rows q i ≡ true)
    by (Some q) o = (q, owned.below i q o, owner-has (layout_of job s.rows) i q o)
    by None o = absurd (nobody o (is_dense s.sort) refl)

-- where a rank has a row of such a value, no other one has it
only-owner : (job : Job) (s : Shape) → IsOwned job s → (i q p : ℕ) → has_index job s.rows q i ≡ true → eqb p q ≡ false → has_index job s.rows p i ≡ false
only-owner job s owned i q p has apart = by (has_index job s.rows p i) refl
  where
    by : (b : Bool) → has_index job s.rows p i ≡ b → b ≡ false
    by false e = refl
    by true e =
        let one : Some p ≡ Some q = sym (owner-only (layout_of job s.rows) i p owned.one e) ∙ owner-only (layout_of job s.rows) i q owned.one has in
        let same : p ≡ q = cc in
        let bad : true ≡ false = sym (eq-eqb p q same) ∙ apart in
        absurd (cc)

-- ---- pieces and values

module _ {S : Type 0} (R : Semiring S) (F : Conversions S) (job : Job) (files : List File) (valid : IsValid job) (fit : IsFitting job files) (g : List Letter)
    (came : (y : Name) → stands_in (letter_names job files) y ≡ true → stands_in (names_of g) y ≡ true) where
  laws : HasRowLaws one_semiring one_conversions job files
  laws = row-laws one_laws one_conversions job files valid (fitting job files fit)

  before : AreBefore job files (value_count job) (structure_before job files (value_count job))
  before = are_before one_laws one_conversions job files laws (λ v i j. 0) (value_count job) (omega arith)

  structure-formed : (v : ℕ) → v < value_count job → IsFormed job (shape job v) (structure job files v)
  structure-formed v l = before.formed v l

  pub owned-is : (v : ℕ) → v < value_count job → is_by_rank (shape job v).sort ≡ false → IsOwned job (shape job v)
  owned-is v l whole = laws.owned v l whole

  -- the places of a rank's piece
  pub placed : (v p : ℕ) → HasPlaces (piece R F job files p v g) (piece_of job (shape job v) p (structure job files v))
  placed v p = pieces-placed R F job files valid (fitting job files fit) g p (value_count job) (omega arith) (λ u t l m at y named to here. came y named) v

  -- of a value by rank each place is there
  placed-part : (v p i j : ℕ) → is_by_rank (shape job v).sort ≡ true → is_some (piece R F job files p v g i j) ≡ is_some (structure job files v p i j)
  placed-part v p i j by_rank = placed v p i j ∙ (λ t. is_some (cond (by_rank t || has_index job (shape job v).rows p i) (structure job files v p i j) None))

  -- of a whole value those in the rank's rows
  placed-rows : (v p i j : ℕ) (b : Bool) → is_by_rank (shape job v).sort ≡ false → has_index job (shape job v).rows p i ≡ b
      → is_some (piece R F job files p v g i j) ≡ is_some (cond b (structure job files v p i j) None)
  placed-rows v p i j b whole has = placed v p i j ∙ (λ t. is_some (cond (whole t || has t) (structure job files v p i j) None))

  -- a row has one rank, whose piece has all places of it
  sum-at : (v q i j : ℕ) → v < value_count job → is_by_rank (shape job v).sort ≡ false → q < job.ranks → has_index job (shape job v).rows q i ≡ true
      → sum_of R (each_rank job.ranks (λ p. piece R F job files p v g)) i j ≡ piece R F job files q v g i j
  sum-at v q i j l whole low has =
      sum-one R (λ p. piece R F job files p v g) i j q 0 job.ranks (omega arith) (omega arith)
      (λ p a b apart. none-there (piece R F job files p v g i j) (placed-rows v p i j false whole (only-owner job (shape job v) (owned-is v l whole) i q p has apart)))

  united-whole : (v p : ℕ) → is_by_rank (shape job v).sort ≡ false → gathered_value R F job files v g p ≡ sum_of R (each_rank job.ranks (λ q. piece R F job files q v g))
  united-whole v p whole = ap (λ b. united R F job files b (λ q. piece R F job files q v g) p) whole

  united-part : (v p : ℕ) → is_by_rank (shape job v).sort ≡ true → gathered_value R F job files v g p ≡ piece R F job files p v g
  united-part v p by_rank = ap (λ b. united R F job files b (λ q. piece R F job files q v g) p) by_rank

  whole-alike : (v : ℕ) → v < value_count job → is_by_rank (shape job v).sort ≡ false → (q p i j : ℕ) → is_some (structure job files v q i j) ≡ is_some (structure job files v p i j)
  whole-alike v l whole q p i j = λ t. is_some (((structure-formed v l).whole whole q ∙ sym ((structure-formed v l).whole whole p)) t i j)

  value-placed : (v p : ℕ) → v < value_count job → HasPlaces (gathered_value R F job files v g p) (structure job files v p)
  value-placed v p l i j = by (is_by_rank (shape job v).sort) refl
    where
      there : is_by_rank (shape job v).sort ≡ false → (b : Bool) → is_some (structure job files v p i j) ≡ b
          → is_some (sum_of R (each_rank job.ranks (λ q. piece R F job files q v g)) i j) ≡ b
      there whole true e =
          let q = owning-rank job (shape job v) (structure job files v) (structure-formed v l) (owned-is v l whole) whole p i j e in
          ap is_some (sum-at v q.0 i j l whole q.1 q.2)
          ∙ placed-rows v q.0 i j true whole q.2 ∙ whole-alike v l whole q.0 p i j ∙ e
      there whole false e =
          ap is_some (sum-none R (λ q. piece R F job files q v g) i j 0 job.ranks (λ q a b.
          none-there (piece R F job files q v g i j) (nothing q (has_index job (shape job v).rows q i) refl)))
        where
          nothing : (q : ℕ) (b : Bool) → has_index job (shape job v).rows q i ≡ b → is_some (piece R F job files q v g i j) ≡ false
          nothing q true has = placed-rows v q i j true whole has ∙ whole-alike v l whole q p i j ∙ e
          nothing q false has = placed-rows v q i j false whole has

      by : (b : Bool) → is_by_rank (shape job v).sort ≡ b → is_some (gathered_value R F job files v g p i j) ≡ is_some (structure job files v p i j)
      by true by_rank = (λ t. is_some (united-part v p by_rank t i j)) ∙ placed-part v p i j by_rank
      by false whole = (λ t. is_some (united-whole v p whole t i j)) ∙ there whole (is_some (structure job files v p i j)) refl

  -- the pieces together are a value of the shape
  pub formed-is : (v : ℕ) → v < value_count job → IsFormed job (shape job v) (gathered_value R F job files v g)
  formed-is v l = record {
    dense = λ d p i j. value-placed v p l i j ∙ (structure-formed v l).dense d p i j;
    within = λ d p i j e. (structure-formed v l).within d p i j (sym (value-placed v p l i j) ∙ e);
    whole = λ w p. united-whole v p w ∙ sym (united-whole v 0 w);
  }

  -- and each rank's piece is its part of this value
  pub piece-is : (v p : ℕ) → v < value_count job → p < job.ranks → piece R F job files p v g ≡ piece_of job (shape job v) p (gathered_value R F job files v g)
  piece-is v p l low = λ t i j. at i j t
    where
      at : (i j : ℕ) → piece R F job files p v g i j ≡ piece_of job (shape job v) p (gathered_value R F job files v g) i j
      at i j = by (is_by_rank (shape job v).sort) refl
        where
          rows : is_by_rank (shape job v).sort ≡ false → (b : Bool) → has_index job (shape job v).rows p i ≡ b
              → piece R F job files p v g i j ≡ cond b (gathered_value R F job files v g p i j) None
          rows whole true has = sym (sum-at v p i j l whole low has) ∙ (λ t. sym (united-whole v p whole) t i j)
          rows whole false has = none-there (piece R F job files p v g i j) (placed-rows v p i j false whole has)

          by : (b : Bool) → is_by_rank (shape job v).sort ≡ b → piece R F job files p v g i j ≡ piece_of job (shape job v) p (gathered_value R F job files v g) i j
          by true by_rank =
              (λ t. sym (united-part v p by_rank) t i j)
              ∙ (λ t. cond (sym by_rank t || has_index job (shape job v).rows p i) (gathered_value R F job files v g p i j) None)
          by false whole =
              rows whole (has_index job (shape job v).rows p i) refl
              ∙ (λ t. cond (sym whole t || has_index job (shape job v).rows p i) (gathered_value R F job files v g p i j) None)
