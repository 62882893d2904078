-- What a command leaves on its two sinks. `told` is what a sink tells of the bytes that it took, `faults` its count of
-- faults, `old` the sink before and `now` the sink after.
use Rattle.std.specs.Prelude.{◌≡◌, ℕ, List, Option}
use Rattle.std.specs.List.{IsAmong}
use Rattle.outside.specs.Bytes.{with_bytes}
use Rattle.outside.specs.Faults.{Rose}
use Rattle.outside.specs.Writes.{TakesPrefix}
use Rattle.tpx.specs.Endings.{Ending, refused, undelivered, wrong_line, writes}
use Rattle.tpx.specs.Messages.{refused_message, undelivered_message, unread_message, wrong_line_message}

-- the sink took the whole text of the ending
abbrev pub TakesText : {S : Type 0} → (S → Option (List ℕ)) → S → S → Ending → Type 0
TakesText told old now (writes text) = told now ≡ with_bytes (told old) text
TakesText told old now _ = ⊥

-- the sink took a prefix of the text of the ending
abbrev pub TakesPart : {S : Type 0} → (S → Option (List ℕ)) → S → S → Ending → Type 0
TakesPart told old now (writes text) = TakesPrefix (told old) (told now) text
TakesPart told old now _ = ⊥

-- of a message the sink took the whole, or a prefix where a write of it failed
pub record Says {S : Type 0} (told : S → Option (List ℕ)) (faults : S → ℕ) (old now : S) (message : List ℕ) : Type 0 where
  pub whole : ¬ Rose (faults old) (faults now) → told now ≡ with_bytes (told old) message
  pub prefix : TakesPrefix (told old) (told now) message

-- the sink took the message of the refusal that the ending is
abbrev pub SaysRefusal : {S : Type 0} → (S → Option (List ℕ)) → (S → ℕ) → S → S → Ending → Type 0
SaysRefusal told faults old now (refused name fault) = Says told faults old now (refused_message name fault)
SaysRefusal told faults old now _ = ⊥

-- the sink took the list of the letters that the ending leaves undelivered
abbrev pub SaysUndelivered : {S : Type 0} → (S → Option (List ℕ)) → (S → ℕ) → S → S → Ending → Type 0
SaysUndelivered told faults old now (undelivered names) = Says told faults old now (undelivered_message names)
SaysUndelivered told faults old now _ = ⊥

-- the sink took the message of the line and the letter that the ending names
abbrev pub SaysWrongLine : {S : Type 0} → (S → Option (List ℕ)) → (S → ℕ) → S → S → Ending → Type 0
SaysWrongLine told faults old now (wrong_line line name) = Says told faults old now (wrong_line_message line name)
SaysWrongLine told faults old now _ = ⊥

-- The sink took the message that a file cannot be read: one of these names, of which the count of faults rose between
-- `before` and `after`.
pub record SaysUnread {S : Type 0} (told : S → Option (List ℕ)) (faults : S → ℕ) (old now : S)
    (before after : List ℕ → ℕ) (names : List (List ℕ)) : Type 0 where
  pub name : List ℕ
  pub read : IsAmong names name
  pub rose : Rose (before name) (after name)
  pub says : Says told faults old now (unread_message name)
