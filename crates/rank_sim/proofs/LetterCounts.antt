-- The letters that were given to finished ranks are those of the job, and have as many entries.
use Rattle.std.proofs.Common.{◌≡◌, ℕ, zero, suc, ◌*◌, ◌<◌, Bool, true, false, cond, ◌||◌, eqb, List, [], ◌∷◌, ◌++◌, filter, length, Option, None, Some, refl, sym, ap, ◌∙◌, subst, arith}
use Rattle.std.specs.Prelude.{slice_get}
use Rattle.std.specs.List.{find, list_all}
use Rattle.std.specs.Option.{option_map}
use Rattle.std.proofs.lemmas.List.{length-map}
use Rattle.scalar_laws.specs.Semiring.{Semiring}
use Rattle.scalar_laws.specs.Conversions.{Conversions, AreConversions}
use Rattle.tables.specs.declared.Cell.{Cell}
use Rattle.mm_text.specs.Reading.{File}
use Rattle.outside.specs.declared.name.Name.{Name}
use Rattle.outside.specs.Letters.{IsAlike, same_name}
use Rattle.outside.specs.MailRoom.{names_of}
use Rattle.letter_codec.specs.declared.kind.Kind.{Kind}
use Rattle.letter_codec.specs.declared.kind.Kind.TheVariants.{Reg, Ask, Tell, Want, Offer, Nums, Rows}
use Rattle.letter_codec.specs.Letters.{IsLetter, letter_bytes}
use Rattle.letter_codec.specs.Parts.{IsEntryCount}
use Rattle.letter_codec.proofs.AlikeLetters.{alike-letter}
use Rattle.letter_codec.proofs.ReadLetters.{same_parts}
use Rattle.letter_codec.proofs.WrittenNumbers.{length-number_bytes}
use Rattle.peers.specs.Peers.{was_given}
use Rattle.peers.specs.Protocols.{Letter, Protocol, firsts, only, stands_in}
use Rattle.peers.specs.Runs.{EachOfAll}
use Rattle.schedule.proofs.Contents.{stands_in-to_rank}
use Rattle.schedule.proofs.Firsts.{stands_in-firsts}
use Rattle.message_play.specs.Plays.{given_to}
use Rattle.message_play.proofs.EarlierLetters.{run_of_all}
use Rattle.model_defs.specs.declared.job.Job.{Job}
use Rattle.model_defs.specs.declared.phase.About.{About}
use Rattle.model_defs.specs.declared.phase.About.TheVariants.{RegisterMap, AskOwners, TellOwners, SharePlan, SendNumbers}
use Rattle.model_defs.specs.declared.phase.Phase.{Phase}
use Rattle.model_defs.specs.declared.phase.Plan.{Plan}
use Rattle.model_defs.specs.declared.phase.Plan.TheVariants.{ImportPlan, ExportPlan, ColumnPlan, RowPlan}
use Rattle.model_defs.specs.declared.sheets.LetterLine.{LetterLine}
use Rattle.model_defs.specs.Fitting.{IsFitting}
use Rattle.model_defs.specs.Letters.{letter_entries, letter_words}
use Rattle.model_defs.specs.Machine.{arrivals, job_protocol, letter_of_phase, names_before, no_phase, place_bytes}
use Rattle.model_defs.specs.Phases.{phases, share_kind}
use Rattle.model_defs.specs.Plans.{One}
use Rattle.model_defs.specs.Stages.{rank_entries}
use Rattle.model_defs.specs.Traffic.{letter_line}
use Rattle.model_defs.specs.Valid.{IsValid}
use Rattle.model_defs.proofs.Filters.{both, same_name-true}
use Rattle.model_defs.proofs.Protocols.{jobs_are_protocols}
use Rattle.model_defs.proofs.Runs.{all-known}
use Rattle.job_phases.specs.Laws.{phase_at}
use Rattle.rank_stages.proofs.LetterForms.{packed, phase-at, phases_have_kinds, plan-letter}
use Rattle.letter_entries.proofs.Entries.{letters-have-job-entries}
use Rattle.rank_core.specs.declared.rank.Rank.{Rank}
use Rattle.rank_core.specs.Results.{HasEntries, IsEntriesGiven, letter_given}
use Rattle.rank_sim.specs.LetterLines.{line_of}
use Rattle.rank_sim.specs.Ranks.{AreFinished}

-- ---- which letters were given

-- what holds of each letter to what its sender makes holds of the one that was given
found-of-all : (Q : List ℕ → List ℕ → Type 0) (P : Protocol) (all : List Letter) (c : Letter → Bool) (n : Name) (bytes : List ℕ) (ls : List Letter)
    → EachOfAll Q P all ls → letter_given (filter c ls) n ≡ Some bytes → Q (P.content n (firsts all)) bytes
found-of-all Q P all c n bytes [] each e = absurd (cc)
found-of-all Q P all c n bytes (l ∷ ls) each e = by (c l) e (found-of-all Q P all c n bytes ls each.1)
  where
    by : (b : Bool) → letter_given (cond b (l ∷ filter c ls) (filter c ls)) n ≡ Some bytes → (letter_given (filter c ls) n ≡ Some bytes → Q (P.content n (firsts all)) bytes) → Q (P.content n (firsts all)) bytes
    by false e rest = rest e
    by true e rest = at (same_name n l.0) refl e
      where
        at : (s : Bool) → same_name n l.0 ≡ s → option_map (λ (x : Letter). x.1) (cond s (Some l) (find (λ x. same_name n x.0) (filter c ls))) ≡ Some bytes → Q (P.content n (firsts all)) bytes
        at true s e =
            let same : n ≡ l.0 = same_name-true n l.0 s in
            let is : l.1 ≡ bytes = cc in
            subst (Q (P.content n (firsts all))) is (subst (λ m. Q (P.content m (firsts all)) l.1) (sym same) each.0)
        at false s e = rest e

given-there : (n : Name) (bytes : List ℕ) (ls : List Letter) → letter_given ls n ≡ Some bytes → was_given ls n ≡ true
given-there n bytes [] e = absurd (cc)
given-there n bytes (l ∷ ls) e = by (same_name n l.0) e (given-there n bytes ls)
  where
    by : (s : Bool) → option_map (λ (x : Letter). x.1) (cond s (Some l) (find (λ x. same_name n x.0) ls)) ≡ Some bytes → (letter_given ls n ≡ Some bytes → was_given ls n ≡ true) → s || was_given ls n ≡ true
    by true e rest = refl
    by false e rest = rest e

among-letters : (a : Name → Bool) (n : Name) (ls : List Letter) → list_all (λ l. a l.0) ls ≡ true → stands_in (names_of ls) n ≡ true → a n ≡ true
among-letters a n [] all e = absurd (cc)
among-letters a n (l ∷ ls) all e = by (same_name n l.0) refl e (among-letters a n ls (both (a l.0) (list_all (λ l. a l.0) ls) all).1)
  where
    by : (s : Bool) → same_name n l.0 ≡ s → s || stands_in (names_of ls) n ≡ true → (stands_in (names_of ls) n ≡ true → a n ≡ true) → a n ≡ true
    by true s e rest = ap a (same_name-true n l.0 s) ∙ (both (a l.0) (list_all (λ l. a l.0) ls) all).0
    by false s e rest = rest e

-- ---- the entries of a letter

-- bytes that are alike to a letter have as many entries
alike-counted : (kind : Kind) (words numbers posted bytes : List ℕ) (count many : ℕ) → ((n : ℕ) → IsEntryCount kind words n → n ≡ many) → IsLetter kind words numbers
    → posted ≡ letter_bytes kind words numbers → IsAlike posted bytes → HasEntries bytes count → count ≡ many
alike-counted kind words numbers posted bytes count many counted letter is alike h =
    let other = alike-letter kind words numbers bytes letter (subst (λ b. IsAlike b bytes) is alike) in
    let one = same_parts h.kind kind h.words words h.numbers other.0 h.letter.few other.3.few h.letter.fit other.3.fit (sym h.whole ∙ other.1) in
    counted count (subst (λ k. IsEntryCount k words count) one.0 (subst (λ ws. IsEntryCount h.kind ws count) one.1 h.entries))

-- ---- what the receiver answers

-- the line of a letter that has so many entries, if it was given
abbrev pub line_given : Name → Option ℕ → List LetterLine
line_given n None = []
line_given n (Some count) = record { name = n; entries = count } ∷ []

there : (xs : List Phase) (k : ℕ) (d : Phase) → k < length xs → (x : Phase) × (slice_get xs k ≡ Some x)
there [] k d l = absurd (omega arith)
there (x ∷ xs) zero d l = (x, refl)
there (x ∷ xs) (suc k) d l = there xs k d (omega arith)

module _ {S : Type 0} {R : Semiring S} {F : Conversions S} (FL : AreConversions F) (job : Job) (files : List File) (letters : List Letter) (ranks : List (Rank S)) (all : AreFinished R F job files letters ranks) (n : Name) where
  abbrev P : Protocol
  P = job_protocol R F job files

  named-given : was_given (given_to n.to (firsts letters)) n ≡ true → stands_in P.names n ≡ true
  named-given e =
      among-letters (stands_in P.names) n letters (all-known P letters all.comes)
      (sym (stands_in-firsts letters n) ∙ sym (stands_in-to_rank n.to n refl (firsts letters)) ∙ e)

  not-named : n.to < job.ranks → was_given (given_to n.to (firsts letters)) n ≡ false → stands_in P.names n ≡ false
  not-named low e = by (stands_in P.names n) refl
    where
      by : (b : Bool) → stands_in P.names n ≡ b → b ≡ false
      by false s = refl
      by true s = let bad : false ≡ true = sym e ∙ (all.finished n.to low).given n s refl in absurd (cc)

  alike-given : (bytes : List ℕ) → letter_given (given_to n.to (firsts letters)) n ≡ Some bytes → IsAlike (P.content n (firsts letters)) bytes
  alike-given bytes e = found-of-all IsAlike P letters (λ l. eqb l.0.to n.to) n bytes (firsts letters) (run_of_all IsAlike P (jobs_are_protocols R F job files) letters all.comes all.run) e

  line-is : n.phase < length (phases job) → n.to < job.ranks → (result : Option ℕ) → IsEntriesGiven (given_to n.to (firsts letters)) n result → line_given n result ≡ line_of job files n
  line-is known low None is = sym (ap (λ b. cond b (letter_line job files (phase_at job n.phase) n ∷ []) []) (not-named low is))
  line-is known low (Some count) is =
      let at = there (phases job) n.phase no_phase known in
      let words = letters-have-job-entries R F FL job files at.0 n (firsts letters) all.input.valid all.input.fitting at.1 in
      let same : phase_at job n.phase ≡ at.0 = phase-at (phases job) n.phase no_phase at.0 at.1 in
      let many : count ≡ length (letter_entries job files (phase_at job n.phase) n) =
      alike-counted at.0.kind (letter_words job files at.0 n) words.numbers (P.content n (firsts letters)) is.0 count (length (letter_entries job files at.0 n)) words.counted words.letter words.whole (alike-given is.0 is.1) is.2
      ∙ ap (λ x. length (letter_entries job files x n)) (sym same) in
      ap (λ m. record { name = n; entries = m } ∷ []) many
      ∙ sym (ap (λ b. cond b (letter_line job files (phase_at job n.phase) n ∷ []) []) (named-given (given-there n is.0 (given_to n.to (firsts letters)) is.1)))

  -- so what is put at the end of the lines is the letter's line
  pub put-line : n.phase < length (phases job) → n.to < job.ranks → (result : Option ℕ) → IsEntriesGiven (given_to n.to (firsts letters)) n result
      → (old now : List LetterLine) → now ≡ old ++ line_given n result → now ≡ old ++ line_of job files n
  put-line known low result is old now put = put ∙ ap (λ xs. old ++ xs) (line-is known low result is)
