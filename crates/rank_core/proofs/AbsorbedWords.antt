-- A worker absorbs a letter of words.
use Rattle.std.proofs.Common.{◌≡◌, ℕ, suc, ◌≤◌, false, if◌then◌else◌, List, [], ◌∷◌, ◌++◌, length, Option, None, Some, refl, sym, ap, subst, ◌∙◌, arith}
use Rattle.std.specs.Prelude.{slice_get}
use Rattle.std.specs.Option.{option_map}
use Rattle.std.proofs.lemmas.Bool.{ne_eqb}
use Rattle.scalar_laws.specs.Semiring.{Semiring}
use Rattle.scalar_laws.specs.Conversions.{Conversions}
use Rattle.mm_text.specs.Reading.{File}
use Rattle.outside.specs.declared.name.Name.{Name}
use Rattle.letter_codec.specs.declared.kind.Kind.{Kind}
use Rattle.letter_codec.specs.Letters.{IsLetter, letter_bytes}
use Rattle.letter_codec.specs.Parts.{IsEntryCount}
use Rattle.outside.specs.Letters.{same_name}
use Rattle.rank_phases.specs.Stages.{Stage, CanAbsorb, absorbing}
use Rattle.model_defs.specs.declared.job.Job.{Job}
use Rattle.model_defs.specs.declared.phase.About.{About}
use Rattle.model_defs.specs.declared.phase.About.TheVariants.{RegisterMap, AskOwners, TellOwners, SharePlan, SendNumbers}
use Rattle.model_defs.specs.declared.phase.Phase.{Phase}
use Rattle.model_defs.specs.Letters.{entries_about}
use Rattle.model_defs.specs.Phases.{phases}
use Rattle.rank_plans.specs.Books.{Book}
use Rattle.rank_stages.specs.JobStages.{about_at}
use Rattle.rank_stages.specs.LetterLaws.{sends_numbers}
use Rattle.rank_stages.proofs.LetterForms.{phases_have_kinds, plan_letters_have_form, plans_are_read}
use Rattle.plan_phases.specs.BookCalls.{IsAbsorbingBook}
use Rattle.plan_phases.specs.BookStages.{IsBookStage, with_book}
use Rattle.rank_core.specs.declared.counts.EntryCounts.{EntryCounts}
use Rattle.rank_core.specs.declared.worker.JobWorker.{JobWorker}
use Rattle.rank_core.specs.Counts.{count_of}
use Rattle.rank_core.specs.declared.makings.Making.{Making}
use Rattle.rank_core.specs.declared.makings.Making.TheVariants.{Arriving, Arrived, Filled}
use Rattle.rank_core.specs.Makings.{IsMakingIn}
use Rattle.rank_makings.specs.declared.coming.Coming.{Coming}
use Rattle.rank_pieces.specs.declared.pieces.Piece.{Piece}
use Rattle.value_phases.specs.ValuePhases.{HasValuePhases}
use Rattle.tables.specs.Tables.{Table}
use Rattle.peers.specs.Protocols.{Letter}
use Rattle.rank_core.specs.Results.{HasEntries}
use Rattle.rank_core.specs.Workers.{IsJobWorker, IsMakingAt}
use Rattle.rank_core.proofs.Counted.{value-here}
use Rattle.rank_core.proofs.PackedLetters.{making-in, words-alone}
use Rattle.rank_core.proofs.Standing.{filled-stays, pieces-stay}
use Rattle.rank_core.proofs.RankNames.{apart, from-known}
use Rattle.rank_core.proofs.MoreLetters.{counted}

-- the entries of a letter without numbers are the same for each value
any-value : (job : Job) (files : List File) (about : About) (p q k l : ℕ) → sends_numbers about ≡ false → entries_about job files k about p q ≡ entries_about job files l about p q
any-value job files (RegisterMap m) p q k l e = refl
any-value job files (AskOwners plan) p q k l e = refl
any-value job files (TellOwners plan) p q k l e = refl
any-value job files (SharePlan plan) p q k l e = refl
any-value job files (SendNumbers t) p q k l e = absurd (let bad : ⊥ = cc in bad)

-- what is being made stays what it is
making-stays : {S : Type 0} (R : Semiring S) (F : Conversions S) (job : Job) (files : List File) (me : ℕ) (pieces : List (Piece S)) (given : List Letter) (phased : HasValuePhases job) (n k : ℕ) (l : Letter)
    → n ≤ l.0.phase → (gathered : ℕ → ℕ → Table S) → (making : Option (Making S)) → ((c : Coming S) → making ≡ Some (Arriving c) → ⊥) → IsMakingIn R F job files me pieces given n k gathered making
    → IsMakingIn R F job files me pieces (given ++ l ∷ []) n k gathered making
making-stays R F job files me pieces given phased n k l low gathered None none is = is
making-stays R F job files me pieces given phased n k l low gathered (Some (Arriving c)) none is = absurd (none c refl)
making-stays R F job files me pieces given phased n k l low gathered (Some (Arrived v)) none is = absurd is
making-stays R F job files me pieces given phased n k l low gathered (Some (Filled fill)) none (x, filled) = (x, filled-stays R F job files me phased n k given l pieces fill low x filled)

module _ {S : Type 0} (R : Semiring S) (F : Conversions S) (worker : JobWorker S) (s : Stage) (stands : IsJobWorker R F worker s) (name : Name) (bytes : List ℕ)
    (can : CanAbsorb s name bytes) (phased : HasValuePhases worker.job.value) (none : (c : Coming S) → worker.making ≡ Some (Arriving c) → ⊥) (x : Phase) (at : slice_get (phases worker.job.value) name.phase ≡ Some x) where
  abbrev job : Job
  job = worker.job.value

  plain : sends_numbers x.about ≡ false
  plain = words-alone R F worker s stands none name.phase can.here x at (value-here worker.job.value worker.values.items s.entered stands.values.many name.phase can.here x at)

  about-is : about_at worker.job.value name.phase ≡ Some x.about
  about-is = ap (option_map (λ (p : Phase). p.about)) at

  -- the letter's words are the job's
  pub words-form : IsLetter x.kind (entries_about worker.job.value stands.files x.value x.about name.from s.rank) []
  words-form =
      subst (λ kind. IsLetter kind (entries_about job stands.files x.value x.about name.from s.rank) []) (sym (phases_have_kinds job name.phase x at))
      (plan_letters_have_form job stands.files name.phase x.value x.about name.from s.rank stands.book.valid about-is plain)

  pub words-read : bytes ≡ letter_bytes x.kind (entries_about worker.job.value stands.files x.value x.about name.from s.rank) []
  words-read = plans_are_read R F job stands.files stands.view s name bytes x stands.book.valid stands.book.stage can at plain

  pub has-words : (kind : Kind) × ((words : List ℕ) × (IsLetter kind words [] × (bytes ≡ letter_bytes kind words [])))
  has-words = (x.kind, (entries_about job stands.files x.value x.about name.from s.rank, (words-form, words-read)))

  pub has-form : (kind : Kind) × ((words : List ℕ) × ((numbers : List ℕ) × (IsLetter kind words numbers × (bytes ≡ letter_bytes kind words numbers))))
  has-form = (x.kind, (entries_about job stands.files x.value x.about name.from s.rank, ([], (words-form, words-read))))

  module _ (words : List ℕ) (read : (kind : Kind) (ws : List ℕ) → IsLetter kind ws [] → bytes ≡ letter_bytes kind ws [] → words ≡ ws) where
    pub absorbing-book : IsAbsorbingBook R F worker.job.value stands.files worker.book x.about name.from words
    absorbing-book = record {
      view = stands.view;
      stage = s;
      name = name;
      bytes = bytes;
      kept = stands.book;
      can_absorb = can;
      is = about-is;
      plain = plain;
      sender = refl;
      known = from-known R F job stands.files stands.view s stands.book.stage name can.is_letter.named;
      other = ne_eqb name.from s.rank (λ e. apart R F job stands.files stands.view s stands.book.stage name can.is_letter.named (e ∙ sym can.is_letter.to));
      words_are = λ k. read x.kind (entries_about job stands.files x.value x.about name.from s.rank) words-form words-read
          ∙ any-value job stands.files x.about name.from s.rank x.value k plain;
    }

    pub words-absorbed : (new : Book) (counts : EntryCounts) (count : ℕ)
        → ((files : List File) (e : IsAbsorbingBook R F worker.job.value files worker.book x.about name.from words)
        → IsBookStage R F worker.job.value files new (with_book e.view new) (absorbing e.stage ((e.name, e.bytes) ∷ [])))
        → ((kind : Kind) (ws numbers : List ℕ) → IsLetter kind ws numbers → bytes ≡ letter_bytes kind ws numbers → IsEntryCount kind ws count)
        → ((n : Name) → count_of counts n ≡ (if same_name name n then Some count else count_of worker.counts n))
        → IsJobWorker R F (record worker { book = new; counts = counts }) (absorbing s ((name, bytes) ∷ []))
    unfolding absorbing-book
    words-absorbed new counts count absorbed entries put =
        let has : HasEntries bytes count = record {
          kind = x.kind;
          words = entries_about job stands.files x.value x.about name.from s.rank;
          numbers = [];
          letter = words-form;
          whole = words-read;
          entries = entries x.kind (entries_about job stands.files x.value x.about name.from s.rank) [] words-form words-read;
        } in
        record {
          files = stands.files;
          view = with_book stands.view new;
          worker_of = record {
            input = stands.worker_of.input;
            rank = stands.worker_of.rank;
            shapes = stands.worker_of.shapes;
            shape_count = stands.worker_of.shape_count;
            phase_list = stands.worker_of.phase_list;
            phase_count = stands.worker_of.phase_count;
          };
          book = absorbed stands.files absorbing-book;
          values = pieces-stay R F job stands.files worker.me phased s.entered s.absorbed (name, bytes) worker.values.items (let here = can.here in omega arith) stands.values;
          making = subst (IsMakingAt R F (record worker { book = new; counts = counts }) stands.files (absorbing s ((name, bytes) ∷ [])) stands.view.gathered) can.here
              (making-stays R F job stands.files worker.me worker.values.items s.absorbed phased name.phase (length worker.values.items) (name, bytes) (omega arith) stands.view.gathered worker.making none
              (making-in R F worker s stands name.phase can.here));
          counts = counted worker.counts counts name bytes count s stands.counts can.first has put;
        }
