-- What the status of a command says, by its answer.
use Rattle.std.proofs.Common.{◌≡◌, ◌⊎◌, inl, inr, ℕ, Bool, List, Option, Result, Ok, Err, OnOk, IfErr, refl, sym, ap, subst, arith}
use Rattle.outside.specs.Reads.{Source}
use Rattle.message_play.specs.Plays.{WireState}
use Rattle.run_input.specs.Reading.{name_text}
use Rattle.tpx.specs.declared.fault.Fault.{Fault}
use Rattle.tpx.specs.declared.fault.Fault.TheVariants.{Memory, NoCommand, Unread, Unwritten, Refused, Undelivered, Overflow, WrongLine, WireFailed}
use Rattle.tpx.specs.Calls.{SomeCall}
use Rattle.tpx.specs.Endings.{Ending, no_command, no_file, refused, undelivered, overflow, wrong_line, writes, EndsWith, run_input}
use Rattle.tpx.specs.Faults.{message_of, result_status}
use Rattle.tpx.specs.Messages.{memory_message, overflow_message, unwritten_message, usage_message, wire_message}
use Rattle.tpx.specs.Runs.{OnWire}
use Rattle.tpx.specs.Steps.{Gives, IsNoCommand, IsUnread, IsWireFailed, RoseAt, Touches, UnreadIsAmong}
use Rattle.tpx.specs.Streams.{Says, SaysRefusal, SaysUndelivered, SaysUnread, SaysWrongLine, TakesPart, TakesText}
use Rattle.tpx.specs.Words.{Command}

-- the answer of a command
abbrev Ended : Type 0
Ended = Result (Unit {0}) Fault

-- what passes of a call
pub SomeCall-weaker : (told : Option Source) (c : Option Command) (settled settled' : Bool) (before after : WireState) (P Q : Ending → Type 0) → settled ≡ settled' →
    ((e : Ending) → P e → Q e) → SomeCall told c settled before after P → SomeCall told c settled' before after Q
SomeCall-weaker told c settled settled' before after P Q same h some = record {
  source = some.source;
  agrees = some.agrees;
  letters = some.letters;
  wire = subst (λ s. OnWire (run_input c some.source) s before after some.letters) same some.wire;
  passes = h _ some.passes;
  on_global_data = λ honest. h _ (some.on_global_data honest);
}

-- a status that may come with every ending, and one with every command
any_memory : (e : Ending) (s : ℕ) → s ≡ 1 → EndsWith e s
any_memory no_command s is = inr is
any_memory (no_file name) s is = inr is
any_memory (refused name fault) s is = inr (inr is)
any_memory (undelivered names) s is = inr (inr (inr is))
any_memory overflow s is = inr (inr (inr is))
any_memory (wrong_line line name) s is = inr (inr (inr is))
any_memory (writes text) s is = inr (inr (inr (inr is)))

any_unread : (e : Ending) (s : ℕ) → (e ≡ no_command → ⊥) → s ≡ 3 → EndsWith e s
any_unread no_command s h is = absurd (h refl)
any_unread (no_file name) s h is = inl is
any_unread (refused name fault) s h is = inr (inl is)
any_unread (undelivered names) s h is = inr (inr (inl is))
any_unread overflow s h is = inr (inr (inl is))
any_unread (wrong_line line name) s h is = inr (inr (inl is))
any_unread (writes text) s h is = inr (inr (inr (inl is)))

module _ {S : Type 0} (told : S → Option (List ℕ)) (old now : S) where
  whole-ends : (e : Ending) (s : ℕ) → s ≡ 0 → TakesText told old now e → EndsWith e s
  whole-ends (writes text) s is h = inl is
  whole-ends e s is h = absurd h

  part-ends : (e : Ending) (s : ℕ) → s ≡ 4 → TakesPart told old now e → EndsWith e s
  part-ends (writes text) s is h = inr (inl is)
  part-ends e s is h = absurd h

  pub ends : (r : Ended) (s : ℕ) → s ≡ result_status r → (e : Ending) → Gives told old now r e → EndsWith e s
  ends (Ok x) s is e h = whole-ends e s is h
  ends (Err Memory) s is e h = any_memory e s is
  ends (Err NoCommand) s is e h = subst (λ (x : Ending). EndsWith x s) (sym h) (inl is)
  ends (Err (Unread file)) s is e h = any_unread e s h is
  ends (Err Unwritten) s is e h = part-ends e s is h
  ends (Err (Refused file fault)) s is e h = subst (λ (x : Ending). EndsWith x s) (sym h) (inl is)
  ends (Err (Undelivered names)) s is e h = subst (λ (x : Ending). EndsWith x s) (sym h) (inl is)
  ends (Err Overflow) s is e h = subst (λ (x : Ending). EndsWith x s) (sym h) (inl is)
  ends (Err (WrongLine line name)) s is e h = subst (λ (x : Ending). EndsWith x s) (sym h) (inl is)
  ends (Err WireFailed) s is e h = subst (λ (n : ℕ). EndsWith e n) (sym is) h

  pub written : (r : Ended) (s : ℕ) → s ≡ result_status r → s ≡ 0 → (e : Ending) → Gives told old now r e → TakesText told old now e
  written (Ok x) s is zero e h = h
  written (Err Memory) s is zero e h = absurd (omega arith)
  written r s is zero e h = absurd (omega arith)

  pub prefix : (r : Ended) (s : ℕ) → s ≡ result_status r → s ≡ 4 → (e : Ending) → Gives told old now r e → TakesPart told old now e
  prefix (Err Unwritten) s is four e h = h
  prefix r s is four e h = absurd (omega arith)

  module _ {E : Type 0} (said : E → Option (List ℕ)) (faults : E → ℕ) (before after : E) where
    pub refusal : (r : Ended) (s : ℕ) → s ≡ result_status r → s ≡ 5 → IfErr r (λ f. Says said faults before after (message_of f)) →
        (e : Ending) → Gives told old now r e → SaysRefusal said faults before after e
    refusal (Err (Refused file fault)) s is five says e h = subst (SaysRefusal said faults before after) (sym h) says
    refusal r s is five says e h = absurd (omega arith)

    pub left : (r : Ended) (s : ℕ) → s ≡ result_status r → s ≡ 6 → IfErr r (λ f. Says said faults before after (message_of f)) →
        (e : Ending) → Gives told old now r e → SaysUndelivered said faults before after e
    left (Err (Undelivered names)) s is six says e h = subst (SaysUndelivered said faults before after) (sym h) says
    left r s is six says e h = absurd (omega arith)

    pub wrong : (r : Ended) (s : ℕ) → s ≡ result_status r → s ≡ 8 → IfErr r (λ f. Says said faults before after (message_of f)) →
        (e : Ending) → Gives told old now r e → SaysWrongLine said faults before after e
    wrong (Err (WrongLine line name)) s is eight says e h = subst (SaysWrongLine said faults before after) (sym h) says
    wrong r s is eight says e h = absurd (omega arith)

pub unread : {E : Type 0} (said : E → Option (List ℕ)) (faults : E → ℕ) (before after : E) (counted counts : List ℕ → ℕ) (names : List (List ℕ)) (r : Ended) (s : ℕ) →
    s ≡ result_status r → s ≡ 3 → IfErr r (λ f. Says said faults before after (message_of f)) → RoseAt counted counts r →
    UnreadIsAmong names r → SaysUnread said faults before after counted counts names
unread said faults before after counted counts names (Err (Unread file)) s is three says rose h =
    record { name = name_text file; read = h; rose = rose; says = says }
unread said faults before after counted counts names r s is three says rose h = absurd (omega arith)

-- where the words are no command
pub usage : (r : Ended) (s : ℕ) (P : Type 0) → s ≡ result_status r → (IsNoCommand r → P) → s ≡ 2 → P
usage (Err NoCommand) s P is h two = h tt
usage r s P is h two = absurd (omega arith)

pub none : (r : Ended) (s : ℕ) (P : Type 0) → s ≡ result_status r → IsNoCommand r ⊎ ((result_status r ≡ 1) × P) → (s ≡ 2) ⊎ ((s ≡ 1) × P)
none (Err NoCommand) s P is (inl h) = inl is
none r s P is (inl h) = absurd h
none r s P is (inr h) = (let one : s ≡ 1 = omega (arith, is, h.0) in inr (one, h.1))

pub untouched : (r : Ended) (s : ℕ) (P : Type 0) → s ≡ result_status r → Touches r ⊎ P → (s ≡ 0) ⊎ (s ≡ 4) ⊎ P
untouched r s P is (inr p) = inr (inr p)
untouched (Ok x) s P is (inl t) = inl is
untouched (Err Unwritten) s P is (inl t) = inr (inl is)
untouched (Err f) s P is (inl t) = absurd t

pub no_read : (r : Ended) (s : ℕ) (P : Type 0) → s ≡ result_status r → IsUnread r ⊎ P → (s ≡ 3) ⊎ P
no_read r s P is (inr p) = inr p
no_read (Err (Unread file)) s P is (inl u) = inl is
no_read r s P is (inl u) = absurd u

pub no_wire : (r : Ended) (s : ℕ) (P : Type 0) → s ≡ result_status r → IsWireFailed r ⊎ P → (s ≡ 9) ⊎ P
no_wire r s P is (inr p) = inr p
no_wire (Err WireFailed) s P is (inl u) = inl is
no_wire r s P is (inl u) = absurd u

pub wired : (r : Ended) (s : ℕ) (P : Type 0) → s ≡ result_status r → s ≡ 9 → (IsWireFailed r → P) → P
wired (Err WireFailed) s P is nine h = h tt
wired r s P is nine h = absurd (omega arith)

pub failed : (r : Ended) (s : ℕ) (P : Type 0) → s ≡ result_status r → s ≡ 4 → IfErr r (λ f. f ≡ Unwritten → P) → P
failed (Err Unwritten) s P is four h = h refl
failed r s P is four h = absurd (omega arith)

pub unfailed : {O : Type 0} (faults : O → ℕ) (old now : O) (r : Ended) (s : ℕ) → s ≡ result_status r →
    Touches r ⊎ (now ≡ old) → OnOk r (faults now ≡ faults old) → (s ≡ 4) ⊎ (faults now ≡ faults old)
unfailed faults old now r s is (inr same) whole = inr (ap faults same)
unfailed faults old now (Ok x) s is (inl t) whole = inr whole
unfailed faults old now (Err Unwritten) s is (inl t) whole = inl is
unfailed faults old now (Err f) s is (inl t) whole = absurd t

pub quiet : (r : Ended) (s : ℕ) (P : Type 0) → s ≡ result_status r → s ≡ 0 → OnOk r P → P
quiet (Ok x) s P is zero h = h
quiet (Err Memory) s P is zero h = absurd (omega arith)
quiet r s P is zero h = absurd (omega arith)

-- the message of a status
module _ (P : List ℕ → Type 0) where
  pub memory : (r : Ended) (s : ℕ) → s ≡ result_status r → s ≡ 1 → IfErr r (λ f. P (message_of f)) → P memory_message
  memory (Err Memory) s is one h = h
  memory r s is one h = absurd (omega arith)

  pub no_words : (r : Ended) (s : ℕ) → s ≡ result_status r → s ≡ 2 → IfErr r (λ f. P (message_of f)) → P usage_message
  no_words (Err NoCommand) s is two h = h
  no_words r s is two h = absurd (omega arith)

  pub unwritten : (r : Ended) (s : ℕ) → s ≡ result_status r → s ≡ 4 → IfErr r (λ f. P (message_of f)) → P unwritten_message
  unwritten (Err Unwritten) s is four h = h
  unwritten r s is four h = absurd (omega arith)

  pub over : (r : Ended) (s : ℕ) → s ≡ result_status r → s ≡ 7 → IfErr r (λ f. P (message_of f)) → P overflow_message
  over (Err Overflow) s is seven h = h
  over r s is seven h = absurd (omega arith)

  pub wire : (r : Ended) (s : ℕ) → s ≡ result_status r → s ≡ 9 → IfErr r (λ f. P (message_of f)) → P wire_message
  wire (Err WireFailed) s is nine h = h
  wire r s is nine h = absurd (omega arith)
