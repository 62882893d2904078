-- What a worker has of a value of which no phase was entered.
use Rattle.std.proofs.Common.{◌≡◌, ℕ, suc, ◌<◌, inl, inr, Bool, true, false, List, length, Option, None, Some, refl, sym, ◌∙◌, subst, arith}
use Rattle.scalar_laws.specs.Semiring.{Semiring}
use Rattle.scalar_laws.specs.Conversions.{Conversions}
use Rattle.mm_text.specs.Reading.{File}
use Rattle.peers.specs.Protocols.{Letter}
use Rattle.model_defs.specs.declared.job.Job.{Job}
use Rattle.model_defs.specs.Makers.{maker_of, value_count}
use Rattle.model_defs.specs.Phases.{phases}
use Rattle.value_phases.specs.ValueKinds.{HasValueKinds, IsOwnMatrix, is_own_matrix}
use Rattle.value_phases.specs.ValuePhases.{HasValuePhases}
use Rattle.rank_pieces.specs.declared.pieces.Piece.{Piece}
use Rattle.rank_core.specs.declared.makings.Making.{Making}
use Rattle.rank_core.specs.Leaving.{IsBegunBy}
use Rattle.rank_core.specs.Makings.{IsMakingFor, IsPhaseOf}
use Rattle.rank_core.specs.Pieces.{made_count}
use Rattle.rank_core.proofs.Counted.{at-place, count-at, count-end}
use Rattle.rank_core.proofs.Turns.{IsFirst, first-second, first-unsent, own-structured}

module _ {S : Type 0} (R : Semiring S) (F : Conversions S) (job : Job) (phased : HasValuePhases job) (kinds : HasValueKinds job) (files : List File) (me : ℕ) where
  -- a value of which no phase was entered
  pub begun-for : (pieces : List (Piece S)) (given : List Letter) (n k : ℕ) → IsFirst job phased n k → k ≡ made_count job (suc n) → (next : Option (Making S))
      → IsBegunBy R F job files me (is_own_matrix job (maker_of job k)) pieces given k next → IsMakingFor R F job files me pieces given n k next
  begun-for pieces given n k first count next begun = by (is_own_matrix job (maker_of job k)) refl begun
    where
      by : (b : Bool) → is_own_matrix job (maker_of job k) ≡ b → IsBegunBy R F job files me b pieces given k next → IsMakingFor R F job files me pieces given n k next
      by true e (fill, is, filled) =
          let own = kinds.own k e in
          let of : IsPhaseOf job n k = (elim (at-place (phases job) n) [
            | inl (a, at) ↦ record { phase = a; at = at; value = sym (count-at job phased n a at) ∙ sym count }
            | inr (none, long) ↦ absurd (let all = count-end job phased n long in let low = own-below own in omega arith)
          ]) in
          subst (IsMakingFor R F job files me pieces given n k) (sym is) (own-structured job phased n k of own, filled)
        where
          own-below : IsOwnMatrix job k → k < value_count job
          own-below (inl split) = split.structured.below
          own-below (inr sum) = sum.sum.made.structured.below
      by false e is =
          subst (IsMakingFor R F job files me pieces given n k) (sym is) (
            (λ t x. first-second job phased n k t first x),
            (λ x. let own = kinds.alone k x.after.structured (first-unsent job phased n k first x.after) in let wrong : ⊥ = cc in absurd wrong),
          )
