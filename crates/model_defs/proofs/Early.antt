-- What a rank has for others depends on what came to it in earlier transfers alone.
use Rattle.std.proofs.Common.{◌≡◌, ℕ, zero, suc, ◌<◌, inl, inr, List, ◌∷◌, map, Option, Some, None, refl, ap, ◌∙◌, arith}
use Rattle.scalar_laws.specs.Semiring.{Semiring}
use Rattle.scalar_laws.specs.Conversions.{Conversions}
use Rattle.tables.specs.Tables.{Table}
use Rattle.mm_text.specs.Reading.{File}
use Rattle.model_defs.specs.declared.job.Job.{Job}
use Rattle.model_defs.specs.Turns.{Each, with_next}
use Rattle.model_defs.specs.Stages.{Arrivals, stage_count, gathered_next, gathered_after, made_piece, make_piece, first_pieces, entries, rank_entries, target_at, transfer_at, is_fixed}
use Rattle.combine_modes.specs.Modes.{gathered}
use Rattle.model_defs.specs.Plans.{brought}
use Rattle.model_defs.specs.Laws.{IsEarlierStage, EntriesAreEarly, EarlierLetters}
use Rattle.model_defs.specs.Phases.{send_phase}
use Rattle.peers.specs.Protocols.{Letter}
use Rattle.model_defs.specs.Machine.{letters_of, letter_table, tables_of_phase, arrivals}
use Rattle.model_defs.proofs.Phases.{stages_are_in_order}

module _ {S : Type 0} (R : Semiring S) (F : Conversions S) (job : Job) (files : List File) (p : ℕ) where
  -- with one more transfer
  next-same : (a b : Arrivals R F job files) (k : ℕ) (mine : Each (Table S)) (t : ℕ) (got : Table S) → a k t ≡ b k t
      → gathered_next R F job files p a k mine t got ≡ gathered_next R F job files p b k mine t got
  next-same a b k mine t got e = ap (λ ts. gathered R (target_at R F job files p k t mine).mode (is_fixed job k) (target_at R F job files p k t mine).old
      (brought job files (transfer_at job k t) (entries R F job files p k t mine got) p p ∷ ts)) e

  after-same : (a b : Arrivals R F job files) (k : ℕ) (mine : Each (Table S)) (t : ℕ) → ((s : ℕ) → s < t → a k s ≡ b k s)
      → gathered_after R F job files p a k mine t ≡ gathered_after R F job files p b k mine t
  after-same a b k mine zero e = refl
  after-same a b k mine (suc t) e =
      next-same a b k mine t (gathered_after R F job files p a k mine t) (e t (omega arith))
      ∙ ap (gathered_next R F job files p b k mine t) (after-same a b k mine t (λ s l. e s (omega arith)))

  pub first_pieces-same : (a b : Arrivals R F job files) (k : ℕ) → ((v s : ℕ) → v < k → a v s ≡ b v s)
      → first_pieces R F job files p a k ≡ first_pieces R F job files p b k
  first_pieces-same a b zero e = refl
  first_pieces-same a b (suc k) e = step (first_pieces-same a b k (λ v s l. e v s (omega arith)))
    where
      step : first_pieces R F job files p a k ≡ first_pieces R F job files p b k → first_pieces R F job files p a (suc k) ≡ first_pieces R F job files p b (suc k)
      step rest =
          ap (λ got. with_next (first_pieces R F job files p a k) k (made_piece R F job files p k (first_pieces R F job files p a k) got))
          (after-same a b k (first_pieces R F job files p a k) (stage_count job k) (λ s l. e k s (omega arith)))
          ∙ ap (λ mine. with_next mine k (make_piece R F job files p b k mine)) rest

  pub entries-early : (k t : ℕ) (a b : Arrivals R F job files) → ((v s : ℕ) → IsEarlierStage v s k t → a v s ≡ b v s)
      → rank_entries R F job files p a k t ≡ rank_entries R F job files p b k t
  entries-early k t a b e =
      ap (entries R F job files p k t (first_pieces R F job files p a k)) (after-same a b k (first_pieces R F job files p a k) t (λ s l. e k s (inr (refl, l))))
      ∙ ap (λ mine. entries R F job files p k t mine (gathered_after R F job files p b k mine t)) (first_pieces-same a b k (λ v s l. e v s (inl l)))

pub entries_are_early : {S : Type 0} (R : Semiring S) (F : Conversions S) → EntriesAreEarly R F
entries_are_early R F = λ job files p k t a b e. entries-early R F job files p k t a b e

module _ {S : Type 0} (R : Semiring S) (F : Conversions S) (job : Job) (files : List File) (p : ℕ) where
  -- in an earlier transfer the same came, where the same letters of earlier phases were given
  pub arrivals-early : (g h : List Letter) (k t n : ℕ) → send_phase job k t ≡ Some n → ((m : ℕ) → m < n → letters_of m p g ≡ letters_of m p h)
      → (v s : ℕ) → IsEarlierStage v s k t → arrivals R F job files p g v s ≡ arrivals R F job files p h v s
  arrivals-early g h k t n e same v s early = go (send_phase job v s) refl
    where
      go : (o : Option ℕ) → send_phase job v s ≡ o → tables_of_phase R F job files p g o ≡ tables_of_phase R F job files p h o
      go None f = refl
      go (Some m) f = ap (λ ls. map (letter_table R F job files) ls) (same m (stages_are_in_order job v s k t m n early f e))

pub earlier_letters : {S : Type 0} (R : Semiring S) (F : Conversions S) → EarlierLetters R F
earlier_letters R F = λ job files p k t n g h e same.
    entries-early R F job files p k t (arrivals R F job files p g) (arrivals R F job files p h) (arrivals-early R F job files p g h k t n e same)
