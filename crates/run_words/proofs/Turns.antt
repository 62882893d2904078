-- One turn of the walk, at each form of a word.
use Rattle.std.proofs.Common.{◌≡◌, ◌==◌, ℕ, Bool, true, false, List, [], ◌∷◌, ◌++◌, map, Option, Some, None, if◌then◌else◌, refl, sym, ap, ◌∙◌, option_map, inl, inr}
use Rattle.std.proofs.lemmas.Bool.{cases_Bool}
use Rattle.std.specs.Str.{bytes_eq}
use Rattle.clap.specs.Lexer.{long_of, short_of}
use Rattle.clap.specs.Walk.{Held, Rule, Step, Waiting, Walk, idle, next, option, trailing, arg_by_long, long_or_other, settled, after_flag, long_met, reacted, used}
use Rattle.clap.specs.Kinds.{Kinds, or_else}
use Rattle.clap.specs.Faults.{flag_word_fault, long_fault, settle_fault, step_fault, turn_fault, use_fault}
use Rattle.run_words.specs.Given.{Form, Given, Name, Text, form_of, form_after_hyphen, form_of_name, long, plain, unfit, has, job, schedule, order, seed, traffic, named}
use Rattle.run_words.proofs.Table.{both_empty, by_long, repeat_kinds, row, rule, rules, shape, use_fault_is, use_text, use_values, used_is}

-- the word of each form, as clap's lexer sees it
abbrev pub Lexed : Text → Form → Type 0
Lexed word (long name text) = (bytes_eq word (45 ∷ 45 ∷ []) ≡ false) × (long_of word ≡ Some (name, text))
Lexed word plain = (bytes_eq word (45 ∷ 45 ∷ []) ≡ false) × (long_of word ≡ None) × (short_of word ≡ None)
Lexed word unfit = Unit {0}

lexed_name : (x y : ℕ) (word : Text) → (x == 45) ≡ true → (y == 45) ≡ true → Lexed (x ∷ y ∷ word) (form_of_name word)
lexed_name x y [] ex ey = tt
lexed_name x y (z ∷ zs) ex ey = (rw (ex, ey), rw (ex, ey))

lexed_hyphen : (x : ℕ) (word : Text) → (x == 45) ≡ true → Lexed (x ∷ word) (form_after_hyphen word)
lexed_hyphen x [] ex = tt
lexed_hyphen x (y ∷ ys) ex =
    elim (cases_Bool (y == 45)) [
      | inl ey ↦ rw ey (lexed_name x y ys ex ey)
      | inr ey ↦ rw ey tt
    ]

pub lexed : (word : Text) → Lexed word (form_of word)
lexed [] = tt
lexed (x ∷ xs) =
    elim (cases_Bool (x == 45)) [
      | inl ex ↦ rw ex (lexed_hyphen x xs ex)
      | inr ex ↦ rw ex (rw ex, rw ex, rw ex)
    ]

abbrev pub at : Held → Waiting → ℕ → Walk
at h waiting position = record { held = h; waiting = waiting; position = position; is_trailing = false; stopped = None }

abbrev pub met_by : Held → Waiting → ℕ → Text → Bool → Option (Text × Option Text) → Held × Step
met_by h waiting position word dashes look = if dashes then (h, trailing position) else long_or_other rules waiting word look h

abbrev pub turn_by : Held → Waiting → ℕ → Text → Bool → Option (Text × Option Text) → Kinds
turn_by h waiting position word dashes look =
    or_else (if dashes then [] else flag_word_fault rules false look word h)
    (step_fault shape position (met_by h waiting position word dashes look).0 (met_by h waiting position word dashes look).1)

pub turn_idle : (h : Held) (position : ℕ) (word : Text) → turn_fault shape [] (at h idle position) word ≡ turn_by h idle position word (bytes_eq word (45 ∷ 45 ∷ [])) (long_of word)
turn_idle h position word = refl

pub turn_option : (h : Held) (id : Text) (position : ℕ) (word : Text) → turn_fault shape [] (at h (option id) position) word ≡ turn_by h (option id) position word (bytes_eq word (45 ∷ 45 ∷ [])) (long_of word)
turn_option h id position word = refl

-- ---- a word `--name`

abbrev pub met_long : Held → Waiting → Text → Option Rule → Option Text → Held × Step
met_long h waiting word found text = after_flag rules waiting word (long_met rules found text h).0 (long_met rules found text h).1

abbrev pub turn_long : Held → Waiting → ℕ → Text → Option Rule → Option Text → Kinds
turn_long h waiting position word found text =
    or_else (long_fault rules false found text h)
    (step_fault shape position (met_long h waiting word found text).0 (met_long h waiting word found text).1)

-- what is held is settled, and stands for what was given
pub record Ready (gs : List Given) (h : Held) : Type 0 where
  pub settles : settle_fault rules false h ≡ []
  pub rows : settled rules h ≡ record { rows = map row gs; pending = None; skip = 0 }

-- a name that is not known
pub unknown_name : (h : Held) (waiting : Waiting) (position : ℕ) (word : Text) (text : Option Text) → turn_long h waiting position word None text ≡ [] → ⊥
unknown_name h waiting position word text e = absurd (cc)

-- where what is pending does not settle, no flag passes
stuck_name : (h : Held) (k : Name) (text : Option Text) → (settle_fault rules false h ≡ [] → ⊥) → long_fault rules false (Some (rule k)) text h ≡ [] → ⊥
stuck_name h job (Some v) stuck e = stuck (both_empty _ _ e).0
stuck_name h job None stuck e = stuck e
stuck_name h schedule (Some v) stuck e = stuck (both_empty _ _ e).0
stuck_name h schedule None stuck e = stuck e
stuck_name h order (Some v) stuck e = stuck (both_empty _ _ e).0
stuck_name h order None stuck e = stuck e
stuck_name h seed (Some v) stuck e = stuck (both_empty _ _ e).0
stuck_name h seed None stuck e = stuck e
stuck_name h traffic (Some v) stuck e = absurd (cc)
stuck_name h traffic None stuck e = stuck (both_empty _ _ e).0

stuck_found : (h : Held) (waiting : Waiting) (position : ℕ) (word : Text) (found : Option Name) (text : Option Text) → (settle_fault rules false h ≡ [] → ⊥) → turn_long h waiting position word (option_map rule found) text ≡ [] → ⊥
stuck_found h waiting position word None text stuck e = unknown_name h waiting position word text e
stuck_found h waiting position word (Some k) text stuck e = stuck_name h k text stuck (both_empty _ _ e).0

pub stuck_long : (h : Held) (waiting : Waiting) (position : ℕ) (word name : Text) (text : Option Text) → (settle_fault rules false h ≡ [] → ⊥) → turn_long h waiting position word (arg_by_long rules name) text ≡ [] → ⊥
stuck_long h waiting position word name text stuck e =
    stuck_found h waiting position word (named name) text stuck (ap (λ r. turn_long h waiting position word r text) (sym (by_long name)) ∙ e)

-- the kinds of one use after what was given
abbrev pub use_kinds : Held → Name → Text → Kinds
use_kinds h k v = or_else (or_else (settle_fault rules false h) (use_fault false (rule k) (use_values k v) (settled rules h).rows)) []

pub use_kinds_are : (gs : List Given) (h : Held) → Ready gs h → (k : Name) (v : Text) → use_kinds h k v ≡ or_else (repeat_kinds (has k gs)) []
use_kinds_are gs h ready k v =
    ap (λ a. or_else (or_else a (use_fault false (rule k) (use_values k v) (settled rules h).rows)) []) ready.settles
    ∙ ap (λ (g : Held). or_else (use_fault false (rule k) (use_values k v) g.rows) []) ready.rows
    ∙ ap (λ a. or_else a []) (use_fault_is k v gs)

-- the words of an option with its value, and of the flag
abbrev pub use_look : Name → Text → Option Text
use_look traffic v = None
use_look _ v = Some v

pub turn_use : (h : Held) (position : ℕ) (word : Text) (k : Name) (v : Text) → turn_long h idle position word (Some (rule k)) (use_look k v) ≡ use_kinds h k v
turn_use h position word job v = refl
turn_use h position word schedule v = refl
turn_use h position word order v = refl
turn_use h position word seed v = refl
turn_use h position word traffic v = refl

pub met_use : (h : Held) (word : Text) (k : Name) (v : Text) → met_long h idle word (Some (rule k)) (use_look k v) ≡ (reacted rules (rule k) (use_values k v) h, next idle)
met_use h word job v = refl
met_use h word schedule v = refl
met_use h word order v = refl
met_use h word seed v = refl
met_use h word traffic v = refl

pub ready_after : (gs : List Given) (h : Held) → Ready gs h → (k : Name) (v : Text) → has k gs ≡ false → Ready (gs ++ (k, use_text k v) ∷ []) (reacted rules (rule k) (use_values k v) h)
ready_after gs h ready k v none = record {
  settles = refl;
  rows = ap (λ (g : Held). record { rows = used (rule k) (use_values k v) g.rows; pending = None; skip = g.skip }) ready.rows
      ∙ ap (λ rs. record { rows = rs; pending = None; skip = 0 }) (used_is k v gs none);
}
