-- What a plan that serves a transfer of a value sends, and what comes by it.
use Rattle.std.proofs.Common.{◌≡◌, ℕ, ◌<◌, List, length, sym, ap, ◌∙◌, subst}
use Rattle.std.proofs.lemmas.List.{length-map}
use Rattle.scalar_laws.specs.Semiring.{Semiring}
use Rattle.scalar_laws.specs.Conversions.{Conversions}
use Rattle.map_core.specs.Classes.{index_at}
use Rattle.map_core.specs.Plans.{PlanLists, export_list, remote_list}
use Rattle.mm_text.specs.Reading.{File}
use Rattle.peers.specs.Protocols.{Letter}
use Rattle.model_defs.specs.declared.job.Job.{Job}
use Rattle.model_defs.specs.Plans.{sent_rows}
use Rattle.model_defs.specs.Stages.{transfer_at}
use Rattle.rank_pieces.specs.declared.pieces.Piece.{Piece}
use Rattle.rank_makings.specs.Comings.{IsBetween}

module _ {S : Type 0} (R : Semiring S) (F : Conversions S) (job : Job) (files : List File) (me : ℕ) (pieces : List (Piece S)) (given : List Letter)
    (k stage : ℕ) (source target : List ℕ) (plan : PlanLists) (h : IsBetween R F job files me pieces given k stage source target plan) where
  pub known-rank : (q : ℕ) → q < job.ranks → q < plan.ranks
  known-rank q l = subst (λ n. q < n) (sym h.serves.ranks) l

  -- as many rows as the transfer sends
  pub exports-many : (q : ℕ) → q < job.ranks → length (export_list plan q) ≡ length (sent_rows job files (transfer_at job k stage) me q)
  exports-many q l = sym (length-map (export_list plan q) (index_at source)) ∙ ap length (h.serves.sent q l)

  pub remotes-many : (q : ℕ) → q < job.ranks → length (remote_list plan q) ≡ length (sent_rows job files (transfer_at job k stage) q me)
  remotes-many q l = sym (length-map (remote_list plan q) (index_at target)) ∙ ap length (h.serves.come q l)
