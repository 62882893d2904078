-- Values that a rank makes of its own cells.
use Rattle.std.proofs.Common.{◌≡◌, ℕ, ◌+◌, ◌*◌, Bool, true, false, cond, ◌&&◌, eqb, ltb, List, [], length, Option, Some, None, refl, sym, ap, ◌∙◌}
use Rattle.std.specs.Prelude.{is_some, slice_get}
use Rattle.std.proofs.lemmas.Bool.{eq-eqb, ltb-true}
use Rattle.std.proofs.lemmas.Option.{slice_get_within}
use Rattle.scalar_laws.specs.Semiring.{Semiring}
use Rattle.scalar_laws.specs.Conversions.{Conversions}
use Rattle.tables.specs.Indices.{stands}
use Rattle.tables.specs.Tables.{Table, nowhere, only_rows}
use Rattle.map_core.specs.Layouts.{local_index}
use Rattle.map_core.proofs.Places.{global_index-from}
use Rattle.combine_modes.specs.Modes.{after_one, gathered}
use Rattle.combine_modes.specs.declared.mode.Mode.TheVariants.{Replace}
use Rattle.multivector.specs.Vectors.{IsVector, VectorState}
use Rattle.multivector.proofs.Cells.{all-there, has-cell}
use Rattle.mm_text.specs.Reading.{File}
use Rattle.model_defs.specs.declared.job.Job.{Job}
use Rattle.model_defs.specs.declared.job.Step.TheVariants as step
use Rattle.model_defs.specs.declared.phase.Plan.TheVariants.{ExportPlan, ImportPlan}
use Rattle.model_defs.specs.Machine.{tables_of_phase}
use Rattle.model_defs.specs.Makers.{Maker, Made, maker_of}
use Rattle.model_defs.specs.Maps.{has_index, list_of}
use Rattle.model_defs.specs.Operations.{filled}
use Rattle.model_defs.specs.Plans.{brought, passes}
use Rattle.model_defs.specs.Shapes.{shape}
use Rattle.model_defs.specs.Stages.{Arrivals, first_pieces, gathered_after, gathered_next, is_fixed, last_way, made_by, made_piece, make_piece, target_at}
use Rattle.model_defs.specs.Transfers.{from_owners, to_owners, transfers_by}
use Rattle.rank_stages.specs.DataLaws.{copied_by}
use Rattle.rank_values.specs.Vectors.{global_table}
use Rattle.rank_values.proofs.Globals.{global-at, global-none, none_stands, some_stands}
use Rattle.rank_transfers.specs.Arrivals.{after_table}
use Rattle.rank_transfers.specs.JobLocals.{CopiesAreGathered, LocalExportsAreMade, LocalImportsAreMade, LocalMovesAreMade, LocalSpreadsAreMade, NothingComesByLocals}
use Rattle.rank_transfers.specs.JobMoves.{gathered_first}
use Rattle.rank_transfers.proofs.Moved.{first_by, first-is}
use Rattle.rank_transfers.proofs.Unsent.{local-transfers-are-unsent}

-- the rows of a vector's own list are all its rows
own-cells : {S : Type 0} (x : VectorState S) (test : ℕ → Bool) → ((i : ℕ) → stands i x.map ≡ true → test i ≡ true) → only_rows test (global_table x) ≡ global_table x
own-cells {S} x test h = λ t i j. by i j (local_index x.map i) refl t
  where
    nothing : (b : Bool) → cond {A = Option S} b None None ≡ None
    nothing true = refl
    nothing false = refl

    by : (i j : ℕ) (o : Option ℕ) → local_index x.map i ≡ o → cond (test i) (global_table x i j) None ≡ global_table x i j
    by i j None e = let none = global-none x i j e in ap (λ c. cond (test i) c None) none ∙ nothing (test i) ∙ sym none
    by i j (Some l) e = ap (λ b. cond b (global_table x i j) None) (h i (some_stands x.map i l e))

-- a vector's cells that replace noughts in all its rows and columns
replaced : {S : Type 0} (R : Semiring S) (x : VectorState S) (list : List ℕ) (columns : ℕ) → IsVector x → x.map ≡ list → x.columns ≡ columns
    → after_table R Replace (filled (λ i. stands i list) columns R.nought) (global_table x) ≡ global_table x
replaced {S} R x list columns is on wide = λ t i j. (ap (λ xs. after_one R Replace true (cond (stands i xs && ltb j columns) (Some R.nought) None) (global_table x i j)) (sym on) ∙ ap (λ n. after_one R Replace true (cond (stands i x.map && ltb j n) (Some R.nought) None) (global_table x i j)) (sym wide) ∙ by i j (local_index x.map i) refl) t
  where
    some : (o : Option S) → is_some o ≡ true → after_one R Replace true (Some R.nought) o ≡ o
    some None e = absurd (let bad : ⊥ = cc in bad)
    some (Some v) e = refl

    in-row : (i j l : ℕ) (b : Bool) → ltb j x.columns ≡ b → local_index x.map i ≡ Some l → after_one R Replace true (cond (true && b) (Some R.nought) None) (global_table x i j) ≡ global_table x i j
    in-row i j l true c e =
        let low = slice_get_within x.map l i (global_index-from x.map i l e) in
        some (global_table x i j) (ap is_some (global-at x i j l e) ∙ all-there x is l j (has-cell x l j low (ltb-true j x.columns c)))
    in-row i j l false c e =
        let none : global_table x i j ≡ None = global-at x i j l e ∙ ap (λ b. cond (ltb l (length x.map) && b) (slice_get x.values (l * x.columns + j)) None) c ∙ off (ltb l (length x.map)) in
        ap (after_one R Replace true None) none ∙ sym none
      where
        off : (b : Bool) → cond (b && false) (slice_get x.values (l * x.columns + j)) None ≡ None
        off true = refl
        off false = refl

    by : (i j : ℕ) (o : Option ℕ) → local_index x.map i ≡ o → after_one R Replace true (cond (stands i x.map && ltb j x.columns) (Some R.nought) None) (global_table x i j) ≡ global_table x i j
    by i j None e =
        let none = global-none x i j e in
        ap (λ b. after_one R Replace true (cond (b && ltb j x.columns) (Some R.nought) None) (global_table x i j)) (none_stands x.map i e) ∙ ap (after_one R Replace true None) none ∙ sym none
    by i j (Some l) e =
        ap (λ b. after_one R Replace true (cond (b && ltb j x.columns) (Some R.nought) None) (global_table x i j)) (some_stands x.map i l e) ∙ in-row i j l (ltb j x.columns) refl e

module _ {S : Type 0} (R : Semiring S) (F : Conversions S) where
  pub nothing-comes-by-locals : NothingComesByLocals R F
  nothing-comes-by-locals job files p k t given local = ap (tables_of_phase R F job files p given) (local-transfers-are-unsent job k t local)

  -- by the maker of the value
  one-transfer : (job : Job) (k : ℕ) (m : Maker) (source : ℕ) → copied_by m ≡ Some source → length (transfers_by job k m) ≡ 1
  one-transfer job k (Made (step.Move name s t)) source e = refl
  one-transfer job k (Made (step.Import name s onto mode)) source e = refl
  one-transfer job k (Made (step.Export name s onto mode)) source e = refl
  one-transfer job k (Made (step.Spread name s t)) source e = refl
  one-transfer job k m source e = absurd (let bad : ⊥ = cc in bad)

  as-gathered : (job : Job) (files : List File) (p k : ℕ) (mine : ℕ → Table S) (got : Table S) (m : Maker) (source : ℕ) → copied_by m ≡ Some source
      → made_by R F job files p k (last_way (transfers_by job k m)) mine got m ≡ got
  as-gathered job files p k mine got (Made (step.Move name s t)) source e = refl
  as-gathered job files p k mine got (Made (step.Import name s onto mode)) source e = refl
  as-gathered job files p k mine got (Made (step.Export name s onto mode)) source e = refl
  as-gathered job files p k mine got (Made (step.Spread name s t)) source e = refl
  as-gathered job files p k mine got m source e = absurd (let bad : ⊥ = cc in bad)

  pub copies-are-gathered : CopiesAreGathered R F
  copies-are-gathered job files k source p mine got e = (one-transfer job k (maker_of job k) source e, as-gathered job files p k mine got (maker_of job k) source e)

  module _ (job : Job) (files : List File) (k p : ℕ) (arrivals : Arrivals R F job files) (none : arrivals k 0 ≡ []) where
    -- where nothing comes, the piece is what was gathered first
    alone : (source : ℕ) → copied_by (maker_of job k) ≡ Some source
        → make_piece R F job files p arrivals k (first_pieces R F job files p arrivals k) ≡ gathered_first R F job files k p arrivals
    alone source copied =
        let mine = first_pieces R F job files p arrivals k in
        let onto = target_at R F job files p k 0 mine in
        ap (λ n. made_piece R F job files p k mine (gathered_after R F job files p arrivals k mine n)) (one-transfer job k (maker_of job k) source copied)
        ∙ as-gathered job files p k mine (gathered_next R F job files p arrivals k mine 0 nowhere) (maker_of job k) source copied
        ∙ ap (gathered R onto.mode (is_fixed job k) (gathered_first R F job files k p arrivals)) none

    -- by a maker of these, what was gathered first is known
    made-of : (m : Maker) (source : ℕ) → maker_of job k ≡ m → copied_by m ≡ Some source → is_fixed job k ≡ true → (t : Table S) → t ≡ first_by R F job files k p arrivals m true
        → make_piece R F job files p arrivals k (first_pieces R F job files p arrivals k) ≡ t
    made-of m source made copied fixed t e =
        alone source (ap copied_by made ∙ copied) ∙ sym (first-is R F job files k p arrivals m made fixed t e)

  -- by a plan from a map to itself a rank brings all its cells to itself
  all-brought : (job : Job) (files : List File) (p m n : ℕ) (x : VectorState S) → m ≡ n → x.map ≡ list_of job m p
      → (brought job files (from_owners (ImportPlan m n)) (global_table x) p p ≡ global_table x) × (brought job files (to_owners (ExportPlan m n)) (global_table x) p p ≡ global_table x)
  all-brought job files p m n x same on = (
    own-cells x (passes job files (from_owners (ImportPlan m n)) p p) (λ i e. test (stands i (list_of job n p) && stands i (list_of job m p)) _ (λ t. there i e n (sym same) t && there i e m refl t)),
    own-cells x (passes job files (to_owners (ExportPlan m n)) p p) (λ i e. test (stands i (list_of job m p) && stands i (list_of job n p)) _ (λ t. there i e m refl t && there i e n (sym same) t)),
  )
    where
      there : (i : ℕ) → stands i x.map ≡ true → (v : ℕ) → v ≡ m → stands i (list_of job v p) ≡ true
      there i e v same = ap (λ w. stands i (list_of job w p)) same ∙ ap (stands i) (sym on) ∙ e

      test : (b c : Bool) → b ≡ true → cond (eqb p p) b c ≡ true
      test b c e = ap (λ d. cond d b c) (eq-eqb p p refl) ∙ e

  pub local-imports-are-made : LocalImportsAreMade R F
  local-imports-are-made job files k source onto mode p arrivals x old imported same none on piece own =
      made-of job files k p arrivals none (Made (step.Import imported.name source onto mode)) source imported.is refl imported.dense (after_table R mode (global_table old) (global_table x))
      ((λ t. after_table R mode (own t) (sym (all-brought job files p (shape job source).rows (shape job onto).rows x same on).0 t))
      ∙ (λ t. after_table R mode (first_pieces R F job files p arrivals k onto) (brought job files (from_owners (ImportPlan (shape job source).rows (shape job onto).rows)) (piece t) p p)))

  pub local-exports-are-made : LocalExportsAreMade R F
  local-exports-are-made job files k source onto mode p arrivals x old exported same none on piece own =
      made-of job files k p arrivals none (Made (step.Export exported.name source onto mode)) source exported.is refl exported.dense (after_table R mode (global_table old) (global_table x))
      ((λ t. after_table R mode (own t) (sym (all-brought job files p (shape job source).rows (shape job onto).rows x same on).1 t))
      ∙ (λ t. after_table R mode (first_pieces R F job files p arrivals k onto) (brought job files (to_owners (ExportPlan (shape job source).rows (shape job onto).rows)) (piece t) p p)))

  -- noughts in the rows of a list, and the cells of a vector on it
  whole : (job : Job) (files : List File) (k source target p : ℕ) (arrivals : Arrivals R F job files) (x : VectorState S) → (shape job source).rows ≡ target
      → IsVector x → x.columns ≡ (shape job k).columns → x.map ≡ list_of job (shape job source).rows p → global_table x ≡ first_pieces R F job files p arrivals k source
      → global_table x
      ≡ after_table R Replace (filled (has_index job target p) (shape job k).columns R.nought)
      (brought job files (from_owners (ImportPlan (shape job source).rows target)) (first_pieces R F job files p arrivals k source) p p)
  whole job files k source target p arrivals x same is wide on piece =
      sym (replaced R x (list_of job target p) (shape job k).columns is (on ∙ ap (λ m. list_of job m p) same) wide)
      ∙ (λ t. after_table R Replace (filled (has_index job target p) (shape job k).columns R.nought) (sym (all-brought job files p (shape job source).rows target x same on).0 t))
      ∙ (λ t. after_table R Replace (filled (has_index job target p) (shape job k).columns R.nought)
      (brought job files (from_owners (ImportPlan (shape job source).rows target)) (piece t) p p))

  pub local-moves-are-made : LocalMovesAreMade R F
  local-moves-are-made job files k source target p arrivals x moved same none is wide on piece =
      made-of job files k p arrivals none (Made (step.Move moved.name source target)) source moved.is refl moved.dense (global_table x)
      (whole job files k source target p arrivals x same is wide on piece)

  pub local-spreads-are-made : LocalSpreadsAreMade R F
  local-spreads-are-made job files k source target p arrivals x spread same none is wide on piece =
      made-of job files k p arrivals none (Made (step.Spread spread.name source target)) source spread.is refl spread.dense (global_table x)
      (whole job files k source target p arrivals x same is wide on piece)
