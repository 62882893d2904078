-- How a file that was read, and of which the numbers were shown or are over, ends the command.
use Rattle.std.proofs.Common.{◌≡◌, ◌⊎◌, inl, ◌∙◌, ℕ, Bool, true, false, cond, List, [], ◌∷◌, Option, None, Some, Result, Ok, Err, IfErr, refl, sym, ap, subst, lit<}
use Rattle.outside.specs.Faults.{Rose}
use Rattle.outside.specs.Reads.{HasText, Source}
use Rattle.outside.specs.Writes.{Writes}
use Rattle.mm_text.specs.declared.fault.MmFault.{MmFault}
use Rattle.mm_text.specs.Outcomes.{Outcome}
use Rattle.mm_text.specs.Reading.{File, HasFault, IsFile, reading}
use Rattle.tpx.specs.declared.fault.Fault.{Fault}
use Rattle.tpx.specs.declared.fault.Fault.TheVariants.{Memory, NoCommand, Unread, Unwritten, Refused, Overflow, WireFailed}
use Rattle.run_input.specs.declared.fault.TextFault.TheVariants.{Matrix}
use Rattle.tpx.specs.Endings.{no_command, refused, overflow, writes, is_over, text_of, file_ending, show_ending, shown_profile}
use Rattle.run_input.specs.Sources.{SomeSource}
use Rattle.message_play.specs.Plays.{WireState}
use Rattle.tpx.specs.Calls.{SomeCall}
use Rattle.tpx.specs.Words.{show}
use Rattle.tpx.specs.Steps.{Gives, IsNoCommand, IsUnread, IsWireFailed, RoseAt, StopsReading, StopsShowing, Touches, UnreadIsAmong}
use Rattle.tpx.specs.Streams.{TakesPart, TakesText}
use Rattle.tpx.proofs.Sources.{SomeSource-any}

-- showing a file is a command
file-command : (name : List ℕ) (b : Bool) (text : List ℕ) → cond b overflow (writes text) ≡ no_command → ⊥
file-command name true text e = absurd (cc)
file-command name false text e = absurd (cc)

outcome-command : (name : List ℕ) (o : Outcome File) → file_ending name o ≡ no_command → ⊥
outcome-command name (Ok file) e = file-command name (is_over file) (text_of file) e
outcome-command name (Err fault) e = absurd (cc)

pub show-command : (name : List ℕ) (file : Option (List ℕ)) → show_ending name file ≡ no_command → ⊥
show-command name None e = absurd (cc)
show-command name (Some text) e = outcome-command name (reading shown_profile text) e

-- the ending where the text of the name is refused, or is this file
pub ending-refused : (source : Source) (name text : List ℕ) (fault : MmFault) → source name ≡ Some text → HasFault shown_profile text fault →
    show_ending name (source name) ≡ refused name (Matrix fault)
ending-refused source name text fault named has = ap (show_ending name) named ∙ ap (file_ending name) has

pub ending-over : (source : Source) (name text : List ℕ) (file : File) → source name ≡ Some text → IsFile shown_profile text file →
    is_over file ≡ true → show_ending name (source name) ≡ overflow
ending-over source name text file named is over =
    ap (show_ending name) named ∙ ap (file_ending name) is ∙ ap (λ b. cond b overflow (writes (text_of file))) over

pub ending-writes : (source : Source) (name text : List ℕ) (file : File) → source name ≡ Some text → IsFile shown_profile text file →
    is_over file ≡ false → show_ending name (source name) ≡ writes (text_of file)
ending-writes source name text file named is over =
    ap (show_ending name) named ∙ ap (file_ending name) is ∙ ap (λ b. cond b overflow (writes (text_of file))) over

module _ {S : Type 0} (told : Option Source) (taken : S → Option (List ℕ)) (name : List ℕ) where
  -- a fault of reading
  pub gives-reading : (old : S) (f : Fault) → StopsReading told name f →
      SomeSource told (λ source. Gives taken old old (Err f) (show_ending name (source name)))
  gives-reading old Memory h = SomeSource-any told _ (λ source. tt)
  gives-reading old (Unread file) h = SomeSource-any told _ (λ source. show-command name (source name))
  gives-reading old (Refused file (Matrix fault)) h = record {
    source = h.1.source;
    agrees = h.1.agrees;
    passes = ending-refused h.1.source name h.1.text fault h.1.named h.1.holds ∙ ap (λ (n : List ℕ). refused n (Matrix fault)) (sym h.0);
  }
  gives-reading old f h = absurd h

  -- a fault of gathering and showing
  pub gives-showing : (old : S) (file : File) (f : Fault) → HasText told name (λ text. IsFile shown_profile text file) → StopsShowing (is_over file) f →
      SomeSource told (λ source. Gives taken old old (Err f) (show_ending name (source name)))
  gives-showing old file Memory has h = SomeSource-any told _ (λ source. tt)
  gives-showing old file Overflow has h = record {
    source = has.source;
    agrees = has.agrees;
    passes = ending-over has.source name has.text file has.named has.holds h;
  }
  gives-showing old file f has h = absurd h

  -- the answer of writing
  pub gives-writing : (faults : S → ℕ) (old now : S) (file : File) (r : Result (Unit {0}) Fault) → HasText told name (λ text. IsFile shown_profile text file) →
      is_over file ≡ false → Writes taken faults old now (text_of file) r → IfErr r (λ f. f ≡ Unwritten) →
      SomeSource told (λ source. Gives taken old now r (show_ending name (source name)))
  gives-writing faults old now file (Ok x) has fits w e = record {
    source = has.source;
    agrees = has.agrees;
    passes = subst (TakesText taken old now) (sym (ending-writes has.source name has.text file has.named has.holds fits)) w.taken;
  }
  gives-writing faults old now file (Err Unwritten) has fits w e = record {
    source = has.source;
    agrees = has.agrees;
    passes = subst (TakesPart taken old now) (sym (ending-writes has.source name has.text file has.named has.holds fits)) w.prefix;
  }
  gives-writing faults old now file (Err f) has fits w e = absurd (cc)

-- no read fails where numbers are shown, nor where a text is written
pub showing-read : (T : Type 0) (over : Bool) (f : Fault) → StopsShowing over f → (let r : Result T Fault = Err f in IsUnread r) → ⊥
showing-read T over (Unread file) h u = h
showing-read T over f h u = u

pub writing-read : (r : Result (Unit {0}) Fault) → IfErr r (λ f. f ≡ Unwritten) → IsUnread r → ⊥
writing-read (Ok x) e u = u
writing-read (Err (Unread file)) e u = absurd (cc)
writing-read (Err f) e u = u

pub touches-writing : (r : Result (Unit {0}) Fault) (P : Type 0) → IfErr r (λ f. f ≡ Unwritten) → Touches r ⊎ P
touches-writing (Ok x) P e = inl tt
touches-writing (Err Unwritten) P e = inl tt
touches-writing (Err f) P e = absurd (cc)

-- the count of the file that the answer names rose
module _ (before after : List ℕ → ℕ) where
  pub rose-reading : (told : Option Source) (name : List ℕ) (f : Fault) → StopsReading told name f →
      ((let r : Result (Unit {0}) Fault = Err f in IsUnread r) → Rose (before name) (after name)) → RoseAt before after (let r : Result (Unit {0}) Fault = Err f in r)
  rose-reading told name (Unread file) h r = subst (λ (n : List ℕ). Rose (before n) (after n)) (sym h) (r tt)
  rose-reading told name f h r = tt

  pub rose-showing : (over : Bool) (f : Fault) → StopsShowing over f → RoseAt before after (let r : Result (Unit {0}) Fault = Err f in r)
  rose-showing over (Unread file) h = absurd h
  rose-showing over f h = tt

  pub rose-writing : (r : Result (Unit {0}) Fault) → IfErr r (λ f. f ≡ Unwritten) → RoseAt before after r
  rose-writing (Err (Unread file)) e = absurd (cc)
  rose-writing (Err f) e = tt
  rose-writing (Ok x) e = tt

-- the name of a file that could not be read
pub named-reading : (told : Option Source) (name : List ℕ) (f : Fault) → StopsReading told name f → UnreadIsAmong (name ∷ []) (let r : Result (Unit {0}) Fault = Err f in r)
named-reading told name (Unread file) h = (0, (lit< tt, h))
named-reading told name f h = tt

pub named-showing : (names : List (List ℕ)) (over : Bool) (f : Fault) → StopsShowing over f → UnreadIsAmong names (let r : Result (Unit {0}) Fault = Err f in r)
named-showing names over (Unread file) h = absurd h
named-showing names over f h = tt

pub named-writing : (names : List (List ℕ)) (r : Result (Unit {0}) Fault) → IfErr r (λ f. f ≡ Unwritten) → UnreadIsAmong names r
named-writing names (Err (Unread file)) e = absurd (cc)
named-writing names (Err f) e = tt
named-writing names (Ok x) e = tt

-- no wire fails where a file is shown
pub wire-reading : (told : Option Source) (name : List ℕ) (f : Fault) → StopsReading told name f → IsWireFailed (let r : Result (Unit {0}) Fault = Err f in r) → ⊥
wire-reading told name WireFailed h u = h
wire-reading told name f h u = u

pub wire-showing : (over : Bool) (f : Fault) → StopsShowing over f → IsWireFailed (let r : Result (Unit {0}) Fault = Err f in r) → ⊥
wire-showing over WireFailed h u = h
wire-showing over f h u = u

pub wire-writing : (r : Result (Unit {0}) Fault) → IfErr r (λ f. f ≡ Unwritten) → IsWireFailed r → ⊥
wire-writing (Err WireFailed) e u = absurd (cc)
wire-writing (Err f) e u = u
wire-writing (Ok x) e u = u

-- showing a file does not end as no command
pub shown-command : {S : Type 0} (told : Option Source) (taken : S → Option (List ℕ)) (name : List ℕ) (old now : S) (r : Result (Unit {0}) Fault) →
    SomeSource told (λ source. Gives taken old now r (show_ending name (source name))) → IsNoCommand r → ⊥
shown-command told taken name old now (Err NoCommand) some h = show-command name (some.source name) some.passes
shown-command told taken name old now r some h = absurd h

-- the call that shows a file
pub call-shown : {S : Type 0} (told : Option Source) (taken : S → Option (List ℕ)) (ranks : ℕ) (name : List ℕ) (settled : Bool) (wire : WireState) (old now : S) (r : Result (Unit {0}) Fault) →
    SomeSource told (λ source. Gives taken old now r (show_ending name (source name))) → SomeCall told (Some (show ranks name)) settled wire wire (Gives taken old now r)
call-shown told taken ranks name settled wire old now r some = record {
  source = some.source;
  agrees = some.agrees;
  letters = [];
  wire = (refl, refl);
  passes = some.passes;
  on_global_data = λ honest. some.passes;
}
