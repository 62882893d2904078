-- What a run of the job of a size came to, at each of its steps.
use Rattle.std.proofs.Common.{◌≡◌, ◌⊎◌, ℕ, Bool, true, false, cond, List, length, Option, None, Some, Result, Ok, Err, IfErr, inl, inr, refl, sym, ap, ◌∙◌, subst}
use Rattle.outside.specs.Faults.{Rose}
use Rattle.outside.specs.Letters.{no_letters}
use Rattle.outside.specs.Reads.{Source}
use Rattle.outside.specs.Writes.{Writes}
use Rattle.schedule.specs.Orders as orders
use Rattle.message_play.specs.Plays.{WireState}
use Rattle.scalar_laws.specs.declared.weighed.Weighed.{Weighed}
use Rattle.scalar_laws.specs.Weighed.{weighed_conversions}
use Rattle.model_defs.specs.Pieces.{Value}
use Rattle.model_defs.specs.Sheets.{is_any_over}
use Rattle.model_defs.specs.Turns.{Each}
use Rattle.model_defs.specs.declared.sheets.LetterLine.{LetterLine}
use Rattle.model_defs.specs.declared.sheets.Sheet.{Sheet}
use Rattle.model_defs.specs.Traffic.{letter_lines}
use Rattle.generated_job.specs.Generated.{generated_files, generated_job}
use Rattle.rank_sim.specs.declared.ends.Outcome.{Outcome}
use Rattle.run_output.specs.declared.summary.Summary.{Summary}
use Rattle.run_output.specs.Summaries.{summary_of, summary_text}
use Rattle.tpx.specs.declared.fault.Fault.{Fault}
use Rattle.tpx.specs.declared.fault.Fault.TheVariants.{Memory, NoCommand, Unread, Unwritten, Refused, Undelivered, Overflow, WrongLine, WireFailed}
use Rattle.tpx.specs.Calls.{SomeCall, is_settled}
use Rattle.tpx.specs.Endings.{EndsWith, generated_ending, generated_input, generated_summary, overflow, summary_ending}
use Rattle.run_input.specs.Walk.{Input}
use Rattle.tpx.specs.Faults.{result_status, status_of}
use Rattle.tpx.specs.Runs.{IsRunOf, end_of, gathered, on_global_data}
use Rattle.tpx.specs.Running.{AnswersRun, IsPlayedRun}
use Rattle.tpx.specs.Steps.{Gives, HasPlayed, IsWireFailed, MayHaveRun, Touches, UnreadIsAmong}
use Rattle.tpx.specs.Streams.{TakesPart, TakesText}
use Rattle.tpx.specs.Words.{gen}
use Rattle.tpx.proofs.RunCalls.{call-unread, has-status, some-source}

-- ---- the endings

summary-fails : (summary : Option Summary) → EndsWith (summary_ending summary) 9
summary-fails None = inr (inl refl)
summary-fails (Some summary) = inr (inr (inl refl))

ending-fails : (b : Bool) (summary : Option Summary) → EndsWith (cond b overflow (summary_ending summary)) 9
ending-fails true summary = inr (inl refl)
ending-fails false summary = summary-fails summary

module _ {S : Type 0} (taken : S → Option (List ℕ)) (old : S) (n : ℕ) (complete : end_of (generated_input n) ≡ orders.Complete) (values : Each (Value Weighed)) where
  gives-failed : (f : Fault) → AnswersRun (generated_input n) values (Err f) → Gives taken old old (Err f) (generated_ending n values)
  gives-failed Memory h = tt
  gives-failed Overflow h = ap (λ b. cond b overflow (summary_ending (generated_summary n values))) h.1
  gives-failed (Undelivered names) h = (let no : orders.Left names.items ≡ orders.Complete = sym h ∙ complete in absurd (cc))
  gives-failed (WrongLine line name) h = (let no : orders.Wrong line name ≡ orders.Complete = sym h ∙ complete in absurd (cc))
  gives-failed WireFailed h = ending-fails (is_any_over weighed_conversions (generated_job n) values) (generated_summary n values)
  gives-failed NoCommand h = absurd h
  gives-failed (Unread file) h = absurd h
  gives-failed Unwritten h = absurd h
  gives-failed (Refused file f) h = absurd h

  module _ (outcome : Outcome) (summary : Option Summary) (made : summary ≡ summary_of n outcome.sheets.items (length outcome.letters.items)) where
    ending-is : AnswersRun (generated_input n) values (Ok outcome) → generated_ending n values ≡ summary_ending summary
    ending-is h =
        ap (λ b. cond b overflow (summary_ending (generated_summary n values))) h.2
        ∙ ap (λ sheets. summary_ending (summary_of n sheets (length (letter_lines (generated_job n) (generated_files n))))) (sym h.1.sheets)
        ∙ ap (λ (letters : List _). summary_ending (summary_of n outcome.sheets.items (length letters))) (sym h.1.letters)
        ∙ ap summary_ending (sym made)

  gives-over : (outcome : Outcome) → None ≡ summary_of n outcome.sheets.items (length outcome.letters.items) → AnswersRun (generated_input n) values (Ok outcome)
      → Gives taken old old (Err Overflow) (generated_ending n values)
  gives-over outcome made h = ending-is outcome None made h

  gives-lines : (faults : S → ℕ) (now : S) (outcome : Outcome) (summary : Summary) (r : Result (Unit {0}) Fault) → Some summary ≡ summary_of n outcome.sheets.items (length outcome.letters.items)
      → AnswersRun (generated_input n) values (Ok outcome) → Writes taken faults old now (summary_text summary) r → IfErr r (λ f. f ≡ Unwritten) → Gives taken old now r (generated_ending n values)
  gives-lines faults now outcome summary (Ok x) made h w is = subst (TakesText taken old now) (sym (ending-is outcome (Some summary) made h)) w.taken
  gives-lines faults now outcome summary (Err Unwritten) made h w is = subst (TakesPart taken old now) (sym (ending-is outcome (Some summary) made h)) w.prefix
  gives-lines faults now outcome summary (Err f) made h w is = absurd (cc)

-- the summary of lists that are the same
pub summed : (n : ℕ) (r : Option Summary) (sheets sheets' : List Sheet) (letters letters' : List LetterLine) → r ≡ summary_of n sheets (length letters) → sheets ≡ sheets' → letters ≡ letters'
    → r ≡ summary_of n sheets' (length letters')
summed n r sheets sheets' letters letters' made same same' =
    made ∙ ap (λ xs. summary_of n xs (length letters)) same ∙ ap (λ (xs : List LetterLine). summary_of n sheets' (length xs)) same'

-- ---- calls

settled-lines : (r : Result (Unit {0}) Fault) → IfErr r (λ f. f ≡ Unwritten) → is_settled (result_status r) ≡ true
settled-lines (Ok x) is = refl
settled-lines (Err Unwritten) is = refl
settled-lines (Err f) is = absurd (cc)

module _ {S : Type 0} (told : Option Source) (taken : S → Option (List ℕ)) (old : S) (n : ℕ) (complete : end_of (generated_input n) ≡ orders.Complete) (before after : WireState)
    (input : Input) (same : input ≡ generated_input n) where
  moved : (answer : Result Outcome Fault) → IsPlayedRun input before after answer → IsPlayedRun (generated_input n) before after answer
  moved answer p = subst (λ i. IsPlayedRun i before after answer) same p

  pub generated-played : (f : Fault) → IsPlayedRun input before after (Err f)
      → SomeCall told (Some (gen n)) (is_settled (result_status (let r : Result (Unit {0}) Fault = Err f in r))) before after (Gives taken old old (Err f))
  generated-played f h =
      let some = some-source told in
      let p = moved (Err f) h in
      record {
        source = some.0;
        agrees = some.1;
        letters = p.letters;
        wire = p.wire;
        passes = gives-failed taken old n complete (gathered (generated_input n) p.letters) f p.shows;
        on_global_data = λ honest. gives-failed taken old n complete (on_global_data (generated_input n)) f (p.on_global_data honest);
      }

  -- one of the two sums is over
  pub generated-over : (outcome : Outcome) → IsPlayedRun input before after (Ok outcome) → None ≡ summary_of n outcome.sheets.items (length outcome.letters.items)
      → SomeCall told (Some (gen n)) true before after (Gives taken old old (Err Overflow))
  generated-over outcome h made =
      let some = some-source told in
      let p = moved (Ok outcome) h in
      record {
        source = some.0;
        agrees = some.1;
        letters = p.letters;
        wire = p.wire;
        passes = gives-over taken old n complete (gathered (generated_input n) p.letters) outcome made p.shows;
        on_global_data = λ honest. gives-over taken old n complete (on_global_data (generated_input n)) outcome made (p.on_global_data honest);
      }

  -- the lines were written, or a part of them
  pub generated-written : (faults : S → ℕ) (now : S) (outcome : Outcome) (summary : Summary) (r : Result (Unit {0}) Fault) → IsPlayedRun input before after (Ok outcome)
      → Some summary ≡ summary_of n outcome.sheets.items (length outcome.letters.items) → Writes taken faults old now (summary_text summary) r → IfErr r (λ f. f ≡ Unwritten)
      → SomeCall told (Some (gen n)) (is_settled (result_status r)) before after (Gives taken old now r)
  generated-written faults now outcome summary r h made w is =
      let some = some-source told in
      let p = moved (Ok outcome) h in
      record {
        source = some.0;
        agrees = some.1;
        letters = p.letters;
        wire = subst (λ s. IsRunOf (generated_input n) s before after p.letters) (sym (settled-lines r is)) p.wire;
        passes = gives-lines taken old n complete (gathered (generated_input n) p.letters) faults now outcome summary r made p.shows w is;
        on_global_data = λ honest. gives-lines taken old n complete (on_global_data (generated_input n)) faults now outcome summary r made (p.on_global_data honest) w is;
      }

-- memory did not suffice for the job
pub generated-unmade : {S : Type 0} (told : Option Source) (taken : S → Option (List ℕ)) (old : S) (n : ℕ) (before : WireState) (f : Fault) → f ≡ Memory → before.pending ≡ no_letters
    → SomeCall told (Some (gen n)) (is_settled (result_status (let r : Result (Unit {0}) Fault = Err f in r))) before before (Gives taken old old (Err f))
generated-unmade told taken old n before f is none =
    subst (λ f. SomeCall told (Some (gen n)) (is_settled (status_of f)) before before (Gives taken old old (Err f))) (sym is)
    (call-unread told taken old before (Some (gen n)) none)

-- ---- what was written, or in part

pub lines-played : (r : Result (Unit {0}) Fault) → IfErr r (λ f. f ≡ Unwritten) → HasPlayed r
lines-played (Ok x) is = tt
lines-played (Err Unwritten) is = tt
lines-played (Err f) is = absurd (cc)

pub lines-touch : (r : Result (Unit {0}) Fault) (P : Type 0) → IfErr r (λ f. f ≡ Unwritten) → Touches r ⊎ P
lines-touch (Ok x) P is = inl tt
lines-touch (Err Unwritten) P is = inl tt
lines-touch (Err f) P is = absurd (cc)

pub lines-rose : {S : Type 0} (taken : S → Option (List ℕ)) (faults : S → ℕ) (old now : S) (text : List ℕ) (r : Result (Unit {0}) Fault) → Writes taken faults old now text r
    → IfErr r (λ f. f ≡ Unwritten → Rose (faults old) (faults now))
lines-rose taken faults old now text (Ok x) w = tt
lines-rose taken faults old now text (Err f) w = λ is. w.fault

pub lines-wire : (r : Result (Unit {0}) Fault) (P : Type 0) → IfErr r (λ f. f ≡ Unwritten) → IsWireFailed r → P
lines-wire (Ok x) P is failed = absurd failed
lines-wire (Err WireFailed) P is failed = (let no : WireFailed ≡ Unwritten = is in absurd (cc))
lines-wire (Err f) P is failed = absurd failed

pub lines-no_wire : {A : Type 0} (r : Result (Unit {0}) Fault) (x : A) (P : Type 0) → (let answer : Result A Fault = Ok x in IsWireFailed answer) ⊎ P → IsWireFailed r ⊎ P
lines-no_wire r x P (inl u) = absurd u
lines-no_wire r x P (inr p) = inr p

pub generated-status : (n : ℕ) (r : Result (Unit {0}) Fault) → HasPlayed r → MayHaveRun (Some (gen n)) (result_status r)
generated-status n r h = has-status r h

-- such an answer names no file
pub named-played : (names : List (List ℕ)) (r : Result (Unit {0}) Fault) → HasPlayed r → UnreadIsAmong names r
named-played names (Ok x) h = tt
named-played names (Err Memory) h = tt
named-played names (Err Unwritten) h = tt
named-played names (Err (Undelivered letters)) h = tt
named-played names (Err Overflow) h = tt
named-played names (Err (WrongLine line letter)) h = tt
named-played names (Err WireFailed) h = tt
named-played names (Err NoCommand) h = absurd h
named-played names (Err (Unread file)) h = absurd h
named-played names (Err (Refused file f)) h = absurd h
