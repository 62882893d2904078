-- A matrix that is moved to its own map stays as it is.
use Rattle.std.proofs.Common.{◌≡◌, ℕ, Bool, true, false, cond, ◌&&◌, eqb, List, [], ◌∷◌, Option, Some, None, refl, sym, ap, ◌∙◌}
use Rattle.std.proofs.lemmas.Bool.{eq-eqb}
use Rattle.scalar_laws.specs.Semiring.{Semiring, IsSemiring}
use Rattle.scalar_laws.specs.Conversions.{Conversions}
use Rattle.tables.specs.Indices.{stands}
use Rattle.tables.specs.Tables.{Table, nowhere, only_rows}
use Rattle.map_core.specs.Layouts.{local_index}
use Rattle.combine_modes.specs.Modes.{after_one, gathered}
use Rattle.combine_modes.specs.declared.mode.Mode.TheVariants as modes
use Rattle.crs_matrix.specs.Matrices.{Crs, crs_number, crs_table}
use Rattle.mm_text.specs.Reading.{File}
use Rattle.model_defs.specs.declared.job.Job.{Job}
use Rattle.model_defs.specs.declared.job.Step.TheVariants as step
use Rattle.model_defs.specs.declared.phase.Plan.TheVariants.{ImportPlan}
use Rattle.model_defs.specs.Makers.{Made, maker_of}
use Rattle.model_defs.specs.Maps.{list_of}
use Rattle.model_defs.specs.Plans.{brought, passes}
use Rattle.model_defs.specs.Shapes.{is_dense, shape}
use Rattle.model_defs.specs.Stages.{Arrivals, entries, entries_by, first_pieces, gathered_after, gathered_next, is_fixed, made_piece, make_piece, target_at, transfer_at}
use Rattle.model_defs.specs.Transfers.{from_owners, transfers_by}
use Rattle.std.specs.List.{slice_index_or}
use Rattle.rank_stages.specs.DataLaws.{copied_by}
use Rattle.rank_transfers.proofs.Local.{copies-are-gathered}
use Rattle.rank_values.proofs.Globals.{some_stands}
use Rattle.matrix_arrivals.specs.RowsBegun.{is_plain}
use Rattle.matrix_arrivals.proofs.Begun.{plain-rows-are-added}

-- the rows of a matrix's own list are all its rows
pub own-places : {S : Type 0} (x : Crs S) (test : ℕ → Bool) → ((i : ℕ) → stands i x.graph.rows ≡ true → test i ≡ true) → only_rows test (crs_table x) ≡ crs_table x
own-places {S} x test h = λ t i j. by i j (local_index x.graph.rows i) refl t
  where
    nothing : (b : Bool) → cond {A = Option S} b None None ≡ None
    nothing true = refl
    nothing false = refl

    by : (i j : ℕ) (o : Option ℕ) → local_index x.graph.rows i ≡ o → cond (test i) (crs_table x i j) None ≡ crs_table x i j
    by i j None e =
        let none : crs_table x i j ≡ None = ap (λ l. crs_number x l (local_index x.graph.cols j)) e in
        ap (λ c. cond (test i) c None) none ∙ nothing (test i) ∙ sym none
    by i j (Some l) e = ap (λ b. cond b (crs_table x i j) None) (h i (some_stands x.graph.rows i l e))

-- what comes for an absent place is there then
pub added-to-none : {S : Type 0} (R : Semiring S) → IsSemiring R → (o : Option S) → after_one R modes.Add false None o ≡ o
added-to-none R laws None = refl
added-to-none R laws (Some v) = ap (λ x. Some x) (laws.plus_comm v R.nought ∙ laws.plus_nought v)

module _ {S : Type 0} (R : Semiring S) (F : Conversions S) (laws : IsSemiring R) (job : Job) (files : List File) (k source target p : ℕ) (name : List ℕ) (arrivals : Arrivals R F job files)
    (maker : maker_of job k ≡ Made (step.Move name source target)) (loose : is_dense (shape job k).sort ≡ false) (same : (shape job source).rows ≡ target) (none : arrivals k 0 ≡ [])
    (x : Crs S) (on : x.graph.rows ≡ list_of job (shape job source).rows p) (piece : crs_table x ≡ first_pieces R F job files p arrivals k source) where
  abbrev mine : ℕ → Table S
  mine = first_pieces R F job files p arrivals k

  abbrev own : Table S
  own = brought job files (transfer_at job k 0) (entries R F job files p k 0 (first_pieces R F job files p arrivals k) nowhere) p p

  -- it brings all its places to itself
  all-brought : own ≡ crs_table x
  all-brought =
      let t : transfer_at job k 0 ≡ from_owners (ImportPlan (shape job source).rows target) = ap (λ m. slice_index_or (transfers_by job k m) 0 (from_owners (ImportPlan 0 0))) maker in
      (λ s. brought job files (t s) (entries_by R F job files p k (t s).way 0 (first_pieces R F job files p arrivals k) nowhere (maker s)) p p)
      ∙ (λ s. brought job files (from_owners (ImportPlan (shape job source).rows target)) (sym piece s) p p)
      ∙ own-places x (passes job files (from_owners (ImportPlan (shape job source).rows target)) p p)
      (λ i e. test (stands i (list_of job target p) && stands i (list_of job (shape job source).rows p)) _ (λ s. there i e target (sym same) s && there i e (shape job source).rows refl s))
    where
      there : (i : ℕ) → stands i x.graph.rows ≡ true → (v : ℕ) → v ≡ (shape job source).rows → stands i (list_of job v p) ≡ true
      there i e v is = ap (λ w. stands i (list_of job w p)) is ∙ ap (stands i) (sym on) ∙ e

      test : (b c : Bool) → b ≡ true → cond (eqb p p) b c ≡ true
      test b c e = ap (λ d. cond d b c) (eq-eqb p p refl) ∙ e

  pub local-matrix-moves : make_piece R F job files p arrivals k (first_pieces R F job files p arrivals k) ≡ crs_table x
  local-matrix-moves =
      let copied : copied_by (maker_of job k) ≡ Some source = ap copied_by maker in
      let onto = target_at R F job files p k 0 (first_pieces R F job files p arrivals k) in
      let got = gathered_next R F job files p arrivals k (first_pieces R F job files p arrivals k) 0 nowhere in
      let plain = plain-rows-are-added R F job files k 0 p arrivals (ap is_plain maker) loose in
      ap (λ n. made_piece R F job files p k (first_pieces R F job files p arrivals k) (gathered_after R F job files p arrivals k (first_pieces R F job files p arrivals k) n)) (copies-are-gathered R F job files k source p (first_pieces R F job files p arrivals k) got copied).0
      ∙ (copies-are-gathered R F job files k source p (first_pieces R F job files p arrivals k) got copied).1
      ∙ ap (λ came. gathered R onto.mode (is_fixed job k) onto.old (own ∷ came)) none
      ∙ (λ s i j. after_one R (plain.0 s) (loose s) (plain.1 s i j) (all-brought s i j))
      ∙ (λ s i j. added-to-none R laws (crs_table x i j) s)
