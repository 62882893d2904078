-- What a run came to, at each of its steps.
use Rattle.std.proofs.Common.{◌≡◌, inl, inr, ℕ, Bool, true, false, cond, List, [], ◌++◌, Option, None, Some, option_map, Result, Ok, Err, IfErr, refl, sym, ap, ◌∙◌, subst, arith}
use Rattle.std.proofs.lemmas.List.{append-nil}
use Rattle.outside.specs.Letters.{no_letters}
use Rattle.outside.specs.Reads.{AgreesWith, Source}
use Rattle.outside.specs.Writes.{Writes}
use Rattle.peers.specs.Protocols.{Letter, Protocol}
use Rattle.schedule.specs.Orders as orders
use Rattle.message_play.specs.Plays.{IsCourse, WireState}
use Rattle.scalar_laws.specs.declared.weighed.Weighed.{Weighed}
use Rattle.scalar_laws.specs.Weighed.{weighed_conversions}
use Rattle.model_defs.specs.Pieces.{Value}
use Rattle.model_defs.specs.Sheets.{is_any_over}
use Rattle.model_defs.specs.Turns.{Each}
use Rattle.rank_sim.specs.declared.ends.Outcome.{Outcome}
use Rattle.run_words.specs.Given.{RunCommand}
use Rattle.run_input.specs.declared.fault.InputFault.{InputFault}
use Rattle.run_input.specs.declared.fault.InputFault.TheVariants as fault
use Rattle.run_input.specs.declared.given.Given.{Given}
use Rattle.run_input.specs.Answering.{GivesInput, input_view}
use Rattle.run_input.specs.Sources.{SomeSource}
use Rattle.run_input.specs.Walk.{Input, Stop, input_of, reads_for}
use Rattle.run_input.specs.Walk as walk
use Rattle.tpx.specs.declared.fault.Fault.{Fault}
use Rattle.tpx.specs.declared.fault.Fault.TheVariants.{Memory, NoCommand, Unread, Unwritten, Refused, Undelivered, Overflow, WrongLine, WireFailed}
use Rattle.tpx.specs.declared.output.Output.{Output}
use Rattle.tpx.specs.Calls.{SomeCall, is_settled}
use Rattle.tpx.specs.Endings.{Ending, EndsWith, input_if, no_command, ordered_ending, overflow, reads, result_text, run_ending, run_input, writes}
use Rattle.tpx.specs.Faults.{result_status}
use Rattle.tpx.specs.Runs.{IsRunOf, OnWire, deliveries_of, end_of, gathered, on_global_data, protocol_of}
use Rattle.tpx.specs.Running.{AnswersRun, IsOutputOf, IsPlayedRun, output_text}
use Rattle.tpx.specs.Steps.{Gives, HasPlayed, IsNoCommand, MayHaveRun, UnreadIsAmong, fault_given}
use Rattle.tpx.specs.Streams.{TakesPart, TakesText}
use Rattle.tpx.specs.Words.{Command, run}
use Rattle.tpx.proofs.Outputs.{output-is}

-- ---- nothing happened on the wire

told-none : (given : Option (List Letter)) → given ≡ option_map (λ told. told ++ []) given
told-none None = refl
told-none (Some given) = ap Some (sym (append-nil given))

no-course : (P : Protocol) (before : WireState) → before.pending ≡ no_letters → IsCourse P before before []
no-course P before none = record {
  taken = sym (append-nil before.taken);
  given = told-none before.given;
  same_honesty = refl;
  comes = tt;
  run = tt;
  exact = λ honest. tt;
  pending = λ n bytes is. (let no : None ≡ Some bytes = sym (ap (λ pending. pending n) none) ∙ is in absurd (cc));
}

pub nothing-run : (input : Option Input) (before : WireState) → before.pending ≡ no_letters → OnWire input false before before []
nothing-run None before none = (refl, refl)
nothing-run (Some input) before none = record {
  course = no-course (protocol_of input) before none;
  rest = deliveries_of input;
  first_of = refl;
  whole = λ e. absurd (cc);
  pends = λ e. absurd (cc);
  none_left = λ e. absurd (cc);
}

-- a run whose order may not have been settled
unsettled : (input : Input) (settled : Bool) (before after : WireState) (letters : List Letter) → IsRunOf input settled before after letters → IsRunOf input false before after letters
unsettled input settled before after letters r = record {
  course = r.course;
  rest = r.rest;
  first_of = r.first_of;
  whole = λ e. absurd (cc);
  pends = λ e. absurd (cc);
  none_left = λ e. absurd (cc);
}

-- ---- the endings of runs

complete-command : (b : Bool) (text : List ℕ) → cond b overflow (writes text) ≡ no_command → ⊥
complete-command true text e = absurd (cc)
complete-command false text e = absurd (cc)

ordered-command : (e : orders.Ending) (traffic : Bool) (input : Input) (values : Each (Value Weighed)) → ordered_ending e traffic input values ≡ no_command → ⊥
ordered-command orders.Complete traffic input values is = complete-command (is_any_over weighed_conversions input.job values) (result_text traffic input values) is
ordered-command (orders.Left names) traffic input values is = absurd (cc)
ordered-command (orders.Wrong line name) traffic input values is = absurd (cc)

run-command : (traffic : Bool) (values : Input → Each (Value Weighed)) (given : Result Input Stop) → run_ending traffic values given ≡ no_command → ⊥
run-command traffic values (Ok input) is = ordered-command (end_of input) traffic input (values input) is
run-command traffic values (Err (walk.no_file name)) is = absurd (cc)
run-command traffic values (Err (walk.refused name f)) is = absurd (cc)

complete-fails : (b : Bool) (text : List ℕ) → EndsWith (cond b overflow (writes text)) 9
complete-fails true text = inr (inl refl)
complete-fails false text = inr (inr (inl refl))

ordered-fails : (e : orders.Ending) (traffic : Bool) (input : Input) (values : Each (Value Weighed)) → EndsWith (ordered_ending e traffic input values) 9
ordered-fails orders.Complete traffic input values = complete-fails (is_any_over weighed_conversions input.job values) (result_text traffic input values)
ordered-fails (orders.Left names) traffic input values = inr (inl refl)
ordered-fails (orders.Wrong line name) traffic input values = inr (inl refl)

-- the ranks were played, and the command ends
module _ {S : Type 0} (taken : S → Option (List ℕ)) (old : S) (traffic : Bool) (input : Input) (values : Each (Value Weighed)) where
  pub gives-played : (f : Fault) → AnswersRun input values (Err f) → Gives taken old old (Err f) (ordered_ending (end_of input) traffic input values)
  gives-played Memory h = tt
  gives-played Overflow h =
      ap (λ e. ordered_ending e traffic input values) h.0 ∙ ap (λ b. cond b overflow (writes (result_text traffic input values))) h.1
  gives-played (Undelivered names) h = ap (λ e. ordered_ending e traffic input values) h
  gives-played (WrongLine line name) h = ap (λ e. ordered_ending e traffic input values) h
  gives-played WireFailed h = ordered-fails (end_of input) traffic input values
  gives-played NoCommand h = absurd h
  gives-played (Unread file) h = absurd h
  gives-played Unwritten h = absurd h
  gives-played (Refused file f) h = absurd h

  ending-writes : (outcome : Outcome) (output : Output) → AnswersRun input values (Ok outcome) → IsOutputOf outcome output
      → ordered_ending (end_of input) traffic input values ≡ writes (output_text traffic output)
  ending-writes outcome output h made =
      ap (λ e. ordered_ending e traffic input values) h.0
      ∙ ap (λ b. cond b overflow (writes (result_text traffic input values))) h.2
      ∙ ap writes (sym (output-is input values outcome output h.1 made traffic))

  pub gives-written : (faults : S → ℕ) (now : S) (outcome : Outcome) (output : Output) (r : Result (Unit {0}) Fault) → AnswersRun input values (Ok outcome) → IsOutputOf outcome output
      → Writes taken faults old now (output_text traffic output) r → IfErr r (λ f. f ≡ Unwritten) → Gives taken old now r (ordered_ending (end_of input) traffic input values)
  gives-written faults now outcome output (Ok x) h made w is = subst (TakesText taken old now) (sym (ending-writes outcome output h made)) w.taken
  gives-written faults now outcome output (Err Unwritten) h made w is = subst (TakesPart taken old now) (sym (ending-writes outcome output h made)) w.prefix
  gives-written faults now outcome output (Err f) h made w is = absurd (cc)

-- ---- calls

module _ {S : Type 0} (told : Option Source) (taken : S → Option (List ℕ)) (old : S) (c : RunCommand) (before : WireState) where
  -- what the run is given is refused, or not had
  pub call-stopped : (f : InputFault) → before.pending ≡ no_letters → SomeSource told (λ source. GivesInput source c.job c.order (Err f))
      → SomeCall told (Some (run c)) (is_settled (result_status (let r : Result (Unit {0}) Fault = Err (fault_given f) in r))) before before (Gives taken old old (Err (fault_given f)))
  call-stopped fault.Memory none some = record {
    source = some.source;
    agrees = some.agrees;
    letters = [];
    wire = nothing-run (input_if (input_of some.source c.job c.order)) before none;
    passes = tt;
    on_global_data = λ honest. tt;
  }
  call-stopped (fault.Unread name) none some = record {
    source = some.source;
    agrees = some.agrees;
    letters = [];
    wire = nothing-run (input_if (input_of some.source c.job c.order)) before none;
    passes = run-command c.traffic (λ input. gathered input []) (input_of some.source c.job c.order);
    on_global_data = λ honest. run-command c.traffic on_global_data (input_of some.source c.job c.order);
  }
  call-stopped (fault.Refused name f) none some = record {
    source = some.source;
    agrees = some.agrees;
    letters = [];
    wire = nothing-run (input_if (input_of some.source c.job c.order)) before none;
    passes = ap (run_ending c.traffic (λ input. gathered input [])) some.passes;
    on_global_data = λ honest. ap (run_ending c.traffic on_global_data) some.passes;
  }

  pub call-named : (f : InputFault) → SomeSource told (λ source. GivesInput source c.job c.order (Err f))
      → SomeSource told (λ source. UnreadIsAmong (reads (Some (run c)) source) (let r : Result (Unit {0}) Fault = Err (fault_given f) in r))
  call-named fault.Memory some = record { source = some.source; agrees = some.agrees; passes = tt }
  call-named (fault.Unread name) some = record { source = some.source; agrees = some.agrees; passes = some.passes }
  call-named (fault.Refused name f) some = record { source = some.source; agrees = some.agrees; passes = tt }

  -- the ranks were played on what the source gives
  module _ (after : WireState) (g : Given) (some : SomeSource told (λ source. GivesInput source c.job c.order (Ok g))) where
    abbrev input : Input
    input = input_view g

    wire-of : (settled : Bool) (letters : List Letter) → IsRunOf input settled before after letters → OnWire (run_input (Some (run c)) some.source) settled before after letters
    wire-of settled letters h = subst (λ walked. OnWire (input_if walked) settled before after letters) (sym some.passes) h

    ending-of : (P : Ending → Type 0) (values : Input → Each (Value Weighed)) → P (ordered_ending (end_of input) c.traffic input (values input)) → P (run_ending c.traffic values (input_of some.source c.job c.order))
    ending-of P values h = subst (λ walked. P (run_ending c.traffic values walked)) (sym some.passes) h

    pub call-played : (f : Fault) → IsPlayedRun input before after (Err f)
        → SomeCall told (Some (run c)) (is_settled (result_status (let r : Result (Unit {0}) Fault = Err f in r))) before after (Gives taken old old (Err f))
    call-played f p = record {
      source = some.source;
      agrees = some.agrees;
      letters = p.letters;
      wire = wire-of (is_settled (result_status (let r : Result (Unit {0}) Fault = Err f in r))) p.letters p.wire;
      passes = ending-of (Gives taken old old (Err f)) (λ input. gathered input p.letters) (gives-played taken old c.traffic input (gathered input p.letters) f p.shows);
      on_global_data = λ honest. ending-of (Gives taken old old (Err f)) on_global_data (gives-played taken old c.traffic input (on_global_data input) f (p.on_global_data honest));
    }

    -- memory ran out before the writing
    pub call-memory : (outcome : Outcome) → IsPlayedRun input before after (Ok outcome) → SomeCall told (Some (run c)) false before after (Gives taken old old (Err Memory))
    call-memory outcome p = record {
      source = some.source;
      agrees = some.agrees;
      letters = p.letters;
      wire = wire-of false p.letters (unsettled input true before after p.letters p.wire);
      passes = tt;
      on_global_data = λ honest. tt;
    }

    settled-written : (r : Result (Unit {0}) Fault) → IfErr r (λ f. f ≡ Unwritten) → is_settled (result_status r) ≡ true
    settled-written (Ok x) is = refl
    settled-written (Err Unwritten) is = refl
    settled-written (Err f) is = absurd (cc)

    -- the text was written, or a part of it
    pub call-written : (faults : S → ℕ) (now : S) (outcome : Outcome) (output : Output) (r : Result (Unit {0}) Fault) → IsPlayedRun input before after (Ok outcome) → IsOutputOf outcome output
        → Writes taken faults old now (output_text c.traffic output) r → IfErr r (λ f. f ≡ Unwritten)
        → SomeCall told (Some (run c)) (is_settled (result_status r)) before after (Gives taken old now r)
    call-written faults now outcome output r p made w is = record {
      source = some.source;
      agrees = some.agrees;
      letters = p.letters;
      wire = wire-of (is_settled (result_status r)) p.letters (subst (λ s. IsRunOf input s before after p.letters) (sym (settled-written r is)) p.wire);
      passes = ending-of (Gives taken old now r) (λ input. gathered input p.letters) (gives-written taken old c.traffic input (gathered input p.letters) faults now outcome output r p.shows made w is);
      on_global_data = λ honest. ending-of (Gives taken old now r) on_global_data (gives-written taken old c.traffic input (on_global_data input) faults now outcome output r (p.on_global_data honest) made w is);
    }

-- ---- calls without a run

-- there is always a source that agrees
pub some-source : (told : Option Source) → (source : Source) × AgreesWith told source
some-source None = (λ name. None, tt)
some-source (Some source) = (source, refl)

module _ {S : Type 0} (told : Option Source) (taken : S → Option (List ℕ)) (old : S) (before : WireState) where
  -- the words are no command
  pub call-none : (c : Option Command) (settled : Bool) → None ≡ c → SomeCall told c settled before before (Gives taken old old (Err NoCommand))
  call-none c settled is =
      let some = some-source told in
      subst (λ (d : Option Command). SomeCall told d settled before before (Gives taken old old (Err NoCommand))) is
      (record { source = some.0; agrees = some.1; letters = []; wire = (refl, refl); passes = refl; on_global_data = λ honest. refl })

  -- memory ran out while the words were read
  pub call-unread : (c : Option Command) → before.pending ≡ no_letters → SomeCall told c false before before (Gives taken old old (Err Memory))
  call-unread c none =
      let some = some-source told in
      record { source = some.0; agrees = some.1; letters = []; wire = nothing-run (run_input c some.0) before none; passes = tt; on_global_data = λ honest. tt }

-- a run does not end as no command
pub run-known : {S : Type 0} (told : Option Source) (taken : S → Option (List ℕ)) (old now : S) (c : RunCommand) (settled : Bool) (before after : WireState) (r : Result (Unit {0}) Fault) →
    SomeCall told (Some (run c)) settled before after (Gives taken old now r) → IsNoCommand r → ⊥
run-known told taken old now c settled before after (Err NoCommand) some h =
    run-command c.traffic (λ input. gathered input some.letters) (input_of some.source c.job c.order) some.passes
run-known told taken old now c settled before after r some h = absurd h

-- with the status of an answer where the ranks may have been played
abbrev pub Plays : ℕ → Type 0
Plays status = (status ≡ 2 → ⊥) × (status ≡ 3 → ⊥) × (status ≡ 5 → ⊥)

pub has-status : (r : Result (Unit {0}) Fault) → HasPlayed r → Plays (result_status r)
has-status (Ok x) h = (λ e. absurd (omega arith), λ e. absurd (omega arith), λ e. absurd (omega arith))
has-status (Err Memory) h = (λ e. absurd (omega arith), λ e. absurd (omega arith), λ e. absurd (omega arith))
has-status (Err Unwritten) h = (λ e. absurd (omega arith), λ e. absurd (omega arith), λ e. absurd (omega arith))
has-status (Err (Undelivered names)) h = (λ e. absurd (omega arith), λ e. absurd (omega arith), λ e. absurd (omega arith))
has-status (Err Overflow) h = (λ e. absurd (omega arith), λ e. absurd (omega arith), λ e. absurd (omega arith))
has-status (Err (WrongLine line name)) h = (λ e. absurd (omega arith), λ e. absurd (omega arith), λ e. absurd (omega arith))
has-status (Err WireFailed) h = (λ e. absurd (omega arith), λ e. absurd (omega arith), λ e. absurd (omega arith))
has-status (Err NoCommand) h = absurd h
has-status (Err (Unread file)) h = absurd h
has-status (Err (Refused file f)) h = absurd h

pub may-have : (c : RunCommand) (r : Result (Unit {0}) Fault) → HasPlayed r → MayHaveRun (Some (run c)) (result_status r)
may-have c r h = has-status r h
