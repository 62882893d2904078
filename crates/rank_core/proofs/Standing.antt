-- A rank's pieces stay what they are while letters of its phase come.
use Rattle.std.proofs.Common.{◌≡◌, ℕ, suc, ◌<◌, ◌≤◌, inl, inr, List, [], ◌∷◌, ◌++◌, length, get_or, Option, Some, refl, sym, ap, ◌∙◌, subst, arith}
use Rattle.std.specs.Prelude.{slice_get}
use Rattle.std.specs.Option.{option_map}
use Rattle.std.proofs.lemmas.Bool.{cases_lt}
use Rattle.std.proofs.lemmas.Option.{slice_get-get_or, slice_get_within}
use Rattle.scalar_laws.specs.Semiring.{Semiring}
use Rattle.scalar_laws.specs.Conversions.{Conversions}
use Rattle.tables.specs.Tables.{Table}
use Rattle.mm_text.specs.Reading.{File}
use Rattle.peers.specs.Protocols.{Letter}
use Rattle.rank_phases.specs.Stages.{Stage, entering}
use Rattle.model_defs.specs.declared.job.Job.{Job}
use Rattle.model_defs.specs.declared.phase.Phase.{Phase}
use Rattle.model_defs.specs.Machine.{piece}
use Rattle.model_defs.specs.Phases.{phases, send_phase}
use Rattle.rank_stages.specs.JobStages.{HasValues, IsMade, about_at}
use Rattle.rank_stages.proofs.Stepping.{made_values_stay}
use Rattle.value_phases.specs.ValuePhases.{HasValuePhases, IsAfter}
use Rattle.rank_makings.specs.Comings.{IsFilled}
use Rattle.rank_pieces.specs.declared.pieces.Piece.{Piece}
use Rattle.rank_pieces.specs.Pieces.{AreOwnPieces}
use Rattle.crs_matrix.specs.Rows.{RowCells}
use Rattle.rank_core.specs.Makings.{IsPhaseOf, IsStructuring}
use Rattle.rank_core.specs.Pieces.{made_count}
use Rattle.rank_core.proofs.Counted.{made-made}

-- what a phase of the list is about
pub about-of : (job : Job) (list : List Phase) (n : ℕ) (x : Phase) → list ≡ phases job → n < length list → x ≡ get_or list n x → about_at job n ≡ Some x.about
about-of job list n x e l is = ap (option_map (λ p. p.about)) (ap (λ xs. slice_get xs n) (sym e) ∙ slice_get-get_or list n x l ∙ ap (λ p. Some p) (sym is))

module _ {S : Type 0} (R : Semiring S) (F : Conversions S) (job : Job) (files : List File) (me : ℕ) where
  -- so are the pieces
  pub pieces-stay : (phased : HasValuePhases job) (entered : ℕ) (given : List Letter) (l : Letter) (pieces : List (Piece S)) → entered ≤ suc l.0.phase
      → AreOwnPieces R F job files me given (made_count job entered) pieces → AreOwnPieces R F job files me (given ++ l ∷ []) (made_count job entered) pieces
  pieces-stay phased entered given l pieces low own = record {
    many = own.many;
    each = λ v p at.
        let is = own.each v p at in
        let short = slice_get_within pieces v p at in
        let many = own.many in
        let made = made-made job phased entered v (omega arith) in
        record { of = is.of; table = is.table ∙ sym (made_values_stay R F job files me v entered given l made.0 made.1 low) };
  }

  -- a value whose numbers came is made, though its structure is not shared yet
  pub structuring-made : (phased : HasValuePhases job) (n k : ℕ) → IsStructuring job n k → IsMade job (suc n) k
  structuring-made phased n k x = record {
    begun = omega arith;
    left = λ v t m low sends. by v t m low sends;
  }
    where
      by : (v t m : ℕ) → v ≤ k → send_phase job v t ≡ Some m → suc m < suc n
      by v t m low sends = elim (cases_lt v k) [
        | inl below ↦ let before = phased.left n v t m x.of.phase x.of.at (let value = x.of.value in omega arith) sends in omega arith
        | inr here ↦
            let same : v ≡ k = omega arith in
            let before = x.after.sent t m (ap (λ u. send_phase job u t) (sym same) ∙ sends) in omega arith
      ]

  -- and so is what is under construction
  pub filled-stays : (phased : HasValuePhases job) (n k : ℕ) (given : List Letter) (l : Letter) (pieces : List (Piece S)) (fill : RowCells S) → n ≤ l.0.phase
      → IsStructuring job n k → IsFilled R F job files me pieces given k fill → IsFilled R F job files me pieces (given ++ l ∷ []) k fill
  filled-stays phased n k given l pieces fill low x filled = record {
    rows = filled.rows;
    table = filled.table ∙ sym (made_values_stay R F job files me k (suc n) given l x.after.structured.below (structuring-made phased n k x) (omega arith));
  }

  -- Whatever it keeps of values beside them: each has its piece.
  pub all-values : (s : Stage) → ℕ → Option (Table S)
  all-values s v = Some (piece R F job files s.rank v s.absorbed)

  pub all-made : (s : Stage) → HasValues R F job files (all-values s) (entering s)
  unfolding all-values
  all-made s k below made = refl
