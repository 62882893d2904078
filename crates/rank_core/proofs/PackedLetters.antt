-- What a worker packs is the letter of the job.
use Rattle.std.proofs.Common.{◌≡◌, ℕ, suc, ◌<◌, ◌≤◌, false, eqb, List, [], length, get_or, Option, None, Some, refl, sym, ap, ◌∙◌, subst, arith}
use Rattle.std.specs.Prelude.{slice_get}
use Rattle.std.specs.Option.{option_map}
use Rattle.std.proofs.lemmas.Option.{same_Some}
use Rattle.scalar_laws.specs.Semiring.{Semiring}
use Rattle.scalar_laws.specs.Conversions.{Conversions}
use Rattle.mm_text.specs.Reading.{File}
use Rattle.outside.specs.declared.name.Name.{Name}
use Rattle.letter_codec.specs.Letters.{letter_bytes}
use Rattle.rank_phases.specs.Stages.{Stage, CanSend}
use Rattle.model_defs.specs.declared.job.Job.{Job}
use Rattle.model_defs.specs.declared.phase.Phase.{Phase}
use Rattle.model_defs.specs.Letters.{entries_about, sent_places}
use Rattle.model_defs.specs.Machine.{arrivals, place_bytes}
use Rattle.model_defs.specs.Phases.{phases, send_kind}
use Rattle.model_defs.specs.Stages.{rank_entries}
use Rattle.rank_stages.specs.LetterLaws.{row_words, sends_numbers}
use Rattle.rank_stages.proofs.LetterForms.{numbers_are_packed, plans_are_packed}
use Rattle.plan_phases.specs.BookCalls.{IsSendingBook}
use Rattle.value_phases.specs.ValuePhases.{HasValuePhases}
use Rattle.rank_pieces.specs.declared.pieces.Piece.{Piece}
use Rattle.rank_makings.specs.declared.coming.Coming.{Coming}
use Rattle.rank_makings.specs.Comings.{HasLetterTo, IsComing, IsComingIn, Scene, letter_to}
use Rattle.rank_core.specs.declared.makings.Making.{Making}
use Rattle.rank_core.specs.declared.makings.Making.TheVariants.{Arriving, Arrived, Filled}
use Rattle.rank_core.specs.declared.worker.JobWorker.{JobWorker}
use Rattle.rank_core.specs.Makings.{IsMakingIn, IsSending}
use Rattle.rank_core.specs.Workers.{IsJobWorker, IsMakingAt}
use Rattle.rank_core.proofs.Entered.{plain-otherwise}
use Rattle.rank_core.proofs.RankNames.{listed, phase-of, posted, to-known, to-other}
use Rattle.rank_core.proofs.SentNames.{row-goes}
use Rattle.rank_core.proofs.Turns.{sent-of-any}
use Rattle.rank_core.proofs.Counted.{value-here}

module _ {S : Type 0} (R : Semiring S) (F : Conversions S) (worker : JobWorker S) (s : Stage) (stands : IsJobWorker R F worker s) where
  -- what is made in the phase that was entered last
  pub making-in : (n : ℕ) → suc n ≡ s.entered
      → IsMakingIn R F worker.job.value stands.files worker.me worker.values.items s.absorbed n (length worker.values.items) stands.view.gathered worker.making
  making-in n here = subst (IsMakingAt R F worker stands.files s stands.view.gathered) (sym here) stands.making

  -- where no numbers come, the phase that was entered last sends none
  pub words-alone : ((c : Coming S) → worker.making ≡ Some (Arriving c) → ⊥) → (n : ℕ) → suc n ≡ s.entered → (x : Phase) → slice_get (phases worker.job.value) n ≡ Some x
      → x.value ≡ length worker.values.items → sends_numbers x.about ≡ false
  words-alone none n here x at value =
      plain-otherwise x.about (λ t e. by t (record { phase = x; at = at; value = value; about = e }) worker.making refl (making-in n here))
    where
      by : (t : ℕ) → IsSending worker.job.value n (length worker.values.items) t → (making : Option (Making S)) → worker.making ≡ making
          → IsMakingIn R F worker.job.value stands.files worker.me worker.values.items s.absorbed n (length worker.values.items) stands.view.gathered making → ⊥
      by t sends None e is = is.0 t sends
      by t sends (Some (Arriving c)) e is = none c e
      by t sends (Some (Arrived v)) e is = is
      by t sends (Some (Filled fill)) e (y, filled) = let before = y.after.sent t n (sent-of-any worker.job.value n (length worker.values.items) t sends) in absurd (omega arith)

module _ {S : Type 0} (R : Semiring S) (F : Conversions S) (worker : JobWorker S) (s : Stage) (stands : IsJobWorker R F worker s) (name : Name) (send : CanSend s name) where
  abbrev job : Job
  job = worker.job.value

  pub phase-there : name.phase < length worker.phases.items
  phase-there = listed R F job stands.files stands.view s stands.book.stage name send.named worker.phases.items stands.worker_of.phase_list

  to-there : name.to < worker.job.value.ranks
  to-there = to-known R F job stands.files stands.view s stands.book.stage name send.named

  other : eqb name.to s.rank ≡ false
  other = ap (eqb name.to) (sym send.from) ∙ to-other R F job stands.files stands.view s stands.book.stage name send.named

  -- ---- words

  module _ (none : (c : Coming S) → worker.making ≡ Some (Arriving c) → ⊥) (x : Phase) (is : x ≡ get_or worker.phases.items name.phase x) where
    at : slice_get (phases worker.job.value) name.phase ≡ Some x
    at = phase-of job worker.phases.items name.phase x stands.worker_of.phase_list phase-there is

    plain : sends_numbers x.about ≡ false
    plain = words-alone R F worker s stands none name.phase send.here x at (value-here worker.job.value worker.values.items s.entered stands.values.many name.phase send.here x at)

    pub sending-book : IsSendingBook R F worker.job.value stands.files worker.book x.about name.to
    sending-book = record {
      view = stands.view;
      stage = s;
      phase = name.phase;
      kept = stands.book;
      here = send.here;
      is = ap (option_map (λ p. p.about)) at;
      plain = plain;
      known = to-there;
      other = other;
    }

    pub words-content : (words : List ℕ)
        → ((files : List File) (k : ℕ) (e : IsSendingBook R F worker.job.value files worker.book x.about name.to) → words ≡ entries_about worker.job.value files k x.about e.stage.rank name.to)
        → letter_bytes x.kind words [] ≡ s.protocol.content name s.absorbed
    unfolding sending-book
    words-content words made =
        ap (λ ws. letter_bytes x.kind ws []) (made stands.files x.value sending-book ∙ ap (λ p. entries_about job stands.files x.value x.about p name.to) (sym send.from))
        ∙ sym (plans_are_packed R F job stands.files name x s.absorbed at plain)
        ∙ ap (λ P. P.content name s.absorbed) (sym stands.book.stage.protocol)

  -- ---- numbers

  module _ (c : Coming S) (some : worker.making ≡ Some (Arriving c)) where
    pub coming-now : (stage : ℕ) × (IsSending worker.job.value name.phase (length worker.values.items) stage
        × IsComing R F worker.job.value stands.files worker.me worker.values.items s.absorbed (length worker.values.items) stage (stands.view.gathered (length worker.values.items) stage) c)
    coming-now =
        subst (IsMakingIn R F job stands.files worker.me worker.values.items s.absorbed name.phase (length worker.values.items) stands.view.gathered) some
        (making-in R F worker s stands name.phase send.here)

    abbrev k : ℕ
    k = length worker.values.items

    pub scene : Scene S
    scene = record {
      job = worker.job.value;
      files = stands.files;
      me = worker.me;
      pieces = worker.values.items;
      given = s.absorbed;
      k = length worker.values.items;
      stage = coming-now.0;
      now = stands.view.gathered (length worker.values.items) coming-now.0;
    }

    pub comes : IsComingIn R F scene c
    unfolding scene
    comes = coming-now.1.1

    pub pieces-are : (items : List (Piece S)) → items ≡ worker.values.items → scene.pieces ≡ items
    unfolding scene
    pieces-are items same = sym same

    pub has-letter : HasLetterTo scene name.to
    unfolding scene
    has-letter = record {
      known = to-there;
      some_row = row-goes job stands.files worker.me name.phase k coming-now.0 coming-now.1.0 stands.worker_of.input.rank
          name (send.from ∙ stands.worker_of.rank) (posted R F job stands.files stands.view s stands.book.stage name send.named);
    }

    pub numbers-content : letter_to R F scene name.to ≡ s.protocol.content name s.absorbed
    unfolding scene
    numbers-content =
        ap (λ p. letter_bytes (send_kind job k) (row_words job stands.files k coming-now.0 p name.to)
        (place_bytes R F (rank_entries R F job stands.files p (arrivals R F job stands.files p s.absorbed) k coming-now.0) (sent_places job stands.files k coming-now.0 p name.to))) (sym stands.worker_of.rank)
        ∙ sym (numbers_are_packed R F job stands.files stands.view s name k coming-now.0 stands.book.stage send (sent-of-any job name.phase k coming-now.0 coming-now.1.0))
