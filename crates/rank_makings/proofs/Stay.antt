-- What comes stays what it is while letters of its phase, or of later ones, come.
use Rattle.std.proofs.Common.{◌≡◌, ℕ, ◌<◌, ◌≤◌, Bool, true, false, cond, ◌&&◌, eqb, List, [], ◌∷◌, ◌++◌, inl, Some, refl, sym, ap, ◌∙◌, subst, arith}
use Rattle.std.proofs.lemmas.Bool.{ne_eqb}
use Rattle.scalar_laws.specs.Semiring.{Semiring}
use Rattle.scalar_laws.specs.Conversions.{Conversions}
use Rattle.combine_modes.specs.declared.mode.Mode.{Mode}
use Rattle.mm_text.specs.Reading.{File}
use Rattle.peers.specs.Protocols.{Letter}
use Rattle.rank_values.specs.Vectors.{global_table}
use Rattle.dense_arrivals.specs.DenseBegun.{AgreeOn}
use Rattle.map_core.specs.Plans.{PlanLists}
use Rattle.model_defs.specs.declared.job.Job.{Job}
use Rattle.model_defs.specs.Machine.{arrivals, letters_of}
use Rattle.model_defs.specs.Phases.{send_phase}
use Rattle.model_defs.specs.Stages.{target_at, transfer_at}
use Rattle.model_defs.proofs.Early.{arrivals-early, earlier_letters, first_pieces-same}
use Rattle.rank_stages.specs.JobStages.{target_so_far}
use Rattle.rank_pieces.specs.declared.pieces.Piece.{Piece}
use Rattle.rank_makings.specs.declared.coming.Coming.{Coming}
use Rattle.rank_makings.specs.declared.coming.Coming.TheVariants.{Cells, Rows}
use Rattle.rank_makings.specs.Comings.{IsBetween, IsComing, own_entries}
use Rattle.rank_makings.specs.Laws.{ComingsStay}

-- a letter of another phase is none of those of this one
letters-stay : (p n : ℕ) (given : List Letter) (l : Letter) → n < l.0.phase → letters_of n p given ≡ letters_of n p (given ++ l ∷ [])
letters-stay p n [] l later =
    let other : eqb l.0.phase n ≡ false = ne_eqb l.0.phase n (λ e. absurd (omega (arith, e, later))) in
    sym (ap (λ b. cond (b && (eqb l.0.to p)) (l ∷ []) []) other)
letters-stay p n (x ∷ xs) l later = ap (λ ys. cond ((eqb x.0.phase n) && (eqb x.0.to p)) (x ∷ ys) ys) (letters-stay p n xs l later)

module _ {S : Type 0} (R : Semiring S) (F : Conversions S) (job : Job) (files : List File) (me : ℕ) (pieces : List (Piece S)) (given : List Letter) (l : Letter)
    (k stage phase : ℕ) (sends : send_phase job k stage ≡ Some phase) (later : phase ≤ l.0.phase) where
  before : (m : ℕ) → m < phase → letters_of m me given ≡ letters_of m me (given ++ l ∷ [])
  before m less = letters-stay me m given l (omega (arith, less, later))

  entries-stay : own_entries R F job files me pieces given k stage ≡ own_entries R F job files me pieces (given ++ l ∷ []) k stage
  entries-stay = earlier_letters R F job files me k stage phase given (given ++ l ∷ []) sends before

  target-stays : target_so_far R F job files me given k stage ≡ target_so_far R F job files me (given ++ l ∷ []) k stage
  target-stays =
      ap (target_at R F job files me k stage)
      (first_pieces-same R F job files me (arrivals R F job files me given) (arrivals R F job files me (given ++ l ∷ [])) k
      (λ v s less. arrivals-early R F job files me given (given ++ l ∷ []) k stage phase sends before v s (inl less)))

  mode-stays : (target_so_far R F job files me given k stage).mode ≡ (target_so_far R F job files me (given ++ l ∷ []) k stage).mode
  mode-stays = ap (λ t. t.mode) target-stays

  between-stays : (source target : List ℕ) (plan : PlanLists) → IsBetween R F job files me pieces given k stage source target plan
      → IsBetween R F job files me pieces (given ++ l ∷ []) k stage source target plan
  between-stays source target plan h = record {
    valid = h.valid;
    fitting = h.fitting;
    within = h.within;
    below = h.below;
    known = h.known;
    source_is = h.source_is;
    target_is = h.target_is;
    serves = h.serves;
  }

pub comings-stay : {S : Type 0} (R : Semiring S) (F : Conversions S) → ComingsStay R F
comings-stay R F job files me pieces given l k stage phase now (Cells c) sends later h = record {
  dense = h.dense;
  sent = h.sent;
  sent_is = h.sent_is;
  between = between-stays R F job files me pieces given l k stage phase sends later h.sent.map c.arriving.vector.map c.arriving.plan h.between;
  sent_columns = h.sent_columns;
  columns = h.columns;
  entries =
      subst (AgreeOn job files (transfer_at job k stage) me (global_table h.sent)) (entries-stay R F job files me pieces given l k stage phase sends later) h.entries;
  mode = h.mode ∙ mode-stays R F job files me pieces given l k stage phase sends later;
  table = h.table;
}
comings-stay R F job files me pieces given l k stage phase now (Rows c) sends later h = record {
  sparse = h.sparse;
  sent = h.sent;
  sent_is = h.sent_is;
  between = between-stays R F job files me pieces given l k stage phase sends later h.sent.rows c.arriving.fill.rows c.arriving.plan h.between;
  entries = h.entries ∙ entries-stay R F job files me pieces given l k stage phase sends later;
  placed = h.placed;
  mode = h.mode ∙ mode-stays R F job files me pieces given l k stage phase sends later;
  table = h.table;
}
