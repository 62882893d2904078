-- Which of several ranks' numbers for one cell is picked: by the order in which the letters were delivered first.
use Rattle.std.specs.Prelude.{ℕ, Bool, ◌&&◌, ◌==◌, List, [], ◌∷◌, map, filter, is_some, Option, None, Some}
use Rattle.mm_text.specs.Reading.{File}
use Rattle.outside.specs.declared.name.Name.{Name}
use Rattle.combine_modes.specs.declared.mode.Mode.{Mode}
use Rattle.combine_modes.specs.declared.mode.Mode.TheVariants.{Add}
use Rattle.combine_modes.specs.Modes.{picked_of}
use Rattle.model_defs.specs.declared.job.Job.{Job}
use Rattle.model_defs.specs.Maps.{owner_rank}
use Rattle.model_defs.specs.Makers.{Maker, Made, maker_of}
use Rattle.model_defs.specs.Eval.{Pick}
use Rattle.model_defs.specs.Phases.{send_phase}
use Rattle.model_defs.specs.Transfers.{owner_map}
use Rattle.model_defs.specs.Plans.{brought}
use Rattle.model_defs.specs.Stages.{transfer_at, is_fixed}
use Rattle.model_defs.specs.Letters.{entry_places}
use Rattle.peers.specs.Protocols.{first_names}
use Rattle.model_defs.specs.declared.job.Step.TheVariants as step

abbrev pub mode_by : Maker → Mode
mode_by (Made (step.Export name source onto mode)) = mode
mode_by (Made (step.Assemble name source onto mode)) = mode
mode_by _ = Add

-- the senders of the letters to rank q of a phase, in the order of their first deliveries
abbrev pub senders_of : Option ℕ → ℕ → List Name → List ℕ
senders_of None q d = []
senders_of (Some n) q d = map (λ m. m.from) (filter (λ m. (m.phase == n) && (m.to == q)) (first_names d))

module _ (job : Job) (files : List File) where
  -- whether rank p has a number for the cell of rank q
  abbrev pub has_number : ℕ → ℕ → ℕ → ℕ → ℕ → Bool
  has_number k q i j p = is_some (brought job files (transfer_at job k 0) (entry_places job files p k 0) p q i j)

  abbrev pub picked_rank : List Name → ℕ → ℕ → ℕ → ℕ → ℕ
  picked_rank d k q i j =
      picked_of (mode_by (maker_of job k)) (is_fixed job k) q (filter (has_number k q i j) (q ∷ senders_of (send_phase job k 0) q d))

  -- the pick of a list of deliveries
  abbrev pub pick_of : List Name → Pick
  pick_of d k i j = picked_rank d k (owner_rank job (owner_map job (transfer_at job k 0).plan) i) i j
