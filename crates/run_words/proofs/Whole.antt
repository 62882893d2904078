-- The whole walk, and what was given.
use Rattle.std.proofs.Common.{◌≡◌, ◌&&◌, ◌||◌, ℕ, Bool, true, false, List, [], ◌∷◌, ◌++◌, map, Option, Some, None, codes, cond, if◌then◌else◌, refl, sym, ap, ◌∙◌, option_map, inl, inr, fold, ◌⊎◌}
use Rattle.std.proofs.lemmas.Bool.{cases_Bool, and_parts}
use Rattle.std.specs.List.{list_all}
use Rattle.std.specs.Str.{bytes_eq}
use Rattle.clap.specs.Lexer.{long_of, short_of}
use Rattle.clap.specs.Walk.{Held, Step, Walk, idle, option, arg_by_index, arg_by_long, after_step, is_pending, positional_held, short_or_plain, to_positional, settled, walked, finished, walk_from, nothing_held, pushed, with_default, reacted}
use Rattle.clap.specs.Kinds.{Kinds, or_else}
use Rattle.std.specs.Option.{option_map_or}
use Rattle.clap.specs.Faults.{bundle_fault, check_fault, defaults_fault, settle_fault, step_fault, turn_fault, walk_fault}
use Rattle.run_words.specs.Given.{Form, Given, Name, Text, form_of, is_fit, is_fit_form, long, plain, unfit, has, job, schedule, order, seed, traffic, name_text, named, once, long_read, reads, word_read}
use Rattle.run_words.proofs.Table.{both_empty, by_long, is_named, is_option, no_values, repeat_kinds, row, rule, rules, shape, use_fault_is, use_text, use_values, used_is}
use Rattle.run_words.proofs.Turns.{Lexed, Ready, at, lexed, met_by, met_long, ready_after, stuck_long, turn_by, turn_long, use_look, use_kinds_are, turn_use, met_use, unknown_name}

abbrev pub end_fault : Held → Kinds
end_fault h =
    or_else (settle_fault rules false h)
    (or_else (defaults_fault (settled rules h).rows rules) (check_fault shape (finished rules h) false))

abbrev pub final_fault : List Given → Kinds
final_fault gs = or_else (defaults_fault (map row gs) rules) (check_fault shape (fold with_default (map row gs) rules) false)

abbrev pub end_of : Walk → List Text → Held
end_of w words = (fold (walked rules []) w words).held

abbrev pub whole : Walk → List Text → Kinds
whole w words = or_else (walk_fault shape [] w words) (end_fault (end_of w words))

-- what a walk over the words comes to
abbrev pub Claims : Walk → List Text → Option (List Given) → Type 0
Claims w words None = whole w words ≡ [] → ⊥
Claims w words (Some gs) = (whole w words ≡ final_fault gs) × ((settled rules (end_of w words)).rows ≡ map row gs)

assoc : (a b c : Kinds) → or_else (or_else a b) c ≡ or_else a (or_else b c)
assoc [] b c = refl
assoc (x ∷ a) b c = refl

whole_step : (w : Walk) (word : Text) (words : List Text) → whole w (word ∷ words) ≡ or_else (turn_fault shape [] w word) (whole (walked rules [] w word) words)
unfolding walk_fault
whole_step w word words = assoc (turn_fault shape [] w word) (walk_fault shape [] (walked rules [] w word) words) (end_fault (end_of (walked rules [] w word) words))

fails : (w : Walk) (word : Text) (words : List Text) → (turn_fault shape [] w word ≡ [] → ⊥) → whole w (word ∷ words) ≡ [] → ⊥
fails w word words bad e = bad (both_empty _ _ (sym (whole_step w word words) ∙ e)).0

goes_on : (w after : Walk) (word : Text) (words : List Text) (r : Option (List Given)) → turn_fault shape [] w word ≡ [] → walked rules [] w word ≡ after → Claims after words r → Claims w (word ∷ words) r
goes_on w after word words None turn step claims = λ e.
    claims (ap (λ (v : Walk). whole v words) (sym step) ∙ ap (λ a. or_else a (whole (walked rules [] w word) words)) (sym turn) ∙ sym (whole_step w word words) ∙ e)
goes_on w after word words (Some gs) turn step claims = (
  whole_step w word words ∙ ap (λ a. or_else a (whole (walked rules [] w word) words)) turn ∙ ap (λ (v : Walk). whole v words) step ∙ claims.0,
  ap (λ (v : Walk). (settled rules (end_of v words)).rows) step ∙ claims.1,
)

-- the walk after a word that is no `--`
after_idle : (h : Held) (position : ℕ) (word : Text) → walked rules [] (at h idle position) word
    ≡ after_step rules word (at h idle position) (met_by h idle position word (bytes_eq word (45 ∷ 45 ∷ [])) (long_of word)).0 (met_by h idle position word (bytes_eq word (45 ∷ 45 ∷ [])) (long_of word)).1
unfolding walked
after_idle h position word = refl

after_option : (h : Held) (id : Text) (position : ℕ) (word : Text) → walked rules [] (at h (option id) position) word
    ≡ after_step rules word (at h (option id) position) (met_by h (option id) position word (bytes_eq word (45 ∷ 45 ∷ [])) (long_of word)).0 (met_by h (option id) position word (bytes_eq word (45 ∷ 45 ∷ [])) (long_of word)).1
unfolding walked
after_option h id position word = refl

-- ---- one turn from a state in which nothing waits

-- JOB goes to the first place, and no word to the second
abbrev pub Placed : ℕ → List Given → Type 0
Placed position gs = ((position ≡ 1) × (has job gs ≡ false)) ⊎ ((position ≡ 2) × (has job gs ≡ true))

abbrev pub NextIdle : List Text → Type 0
NextIdle words = (gs : List Given) (h : Held) (position : ℕ) → Ready gs h → Placed position gs → Claims (at h idle position) words (reads words gs None)

abbrev pub half_held : List Given → Name → Held
half_held gs k = record { rows = map row gs; pending = Some (name_text k, []); skip = 0 }

abbrev pub NextValue : List Text → Type 0
NextValue words = (gs : List Given) (k : Name) (position : ℕ) → is_option k ≡ true → is_named k ≡ true → Placed position gs → Claims (at (half_held gs k) (option (name_text k)) position) words (reads words gs (Some k))

has-push : (k : Name) (gs : List Given) (j : Name) (v : Text) → has k (gs ++ (j, v) ∷ []) ≡ (has k gs || has k ((j, v) ∷ []))
has-push k [] j v = refl
has-push k (g ∷ gs) j v = ap (λ b. bytes_eq (name_text g.0) (name_text k) || b) (has-push k gs j v) ∙ or-assoc (bytes_eq (name_text g.0) (name_text k)) (has k gs) (has k ((j, v) ∷ []))
  where
    or-assoc : (a b c : Bool) → (a || (b || c)) ≡ ((a || b) || c)
    or-assoc true b c = refl
    or-assoc false b c = refl

no_job : (k : Name) (v : Text) → is_named k ≡ true → has job ((k, v) ∷ []) ≡ false
no_job job v e = absurd (cc)
no_job schedule v e = refl
no_job order v e = refl
no_job seed v e = refl
no_job traffic v e = refl

or-false : (b : Bool) → (b || false) ≡ b
or-false true = refl
or-false false = refl

placed_after : (position : ℕ) (gs : List Given) (k : Name) (v : Text) → is_named k ≡ true → Placed position gs → Placed position (gs ++ (k, v) ∷ [])
placed_after position gs k v named_one placed =
    let same : has job (gs ++ (k, v) ∷ []) ≡ has job gs = has-push job gs k v ∙ ap (λ b. has job gs || b) (no_job k v named_one) ∙ or-false (has job gs) in
    elim placed [ inl p ↦ inl (p.0, same ∙ p.1) | inr p ↦ inr (p.0, same ∙ p.1) ]

-- a use of a name that is there already fails, and another goes on
used_turn : (words : List Text) → NextIdle words → (gs : List Given) (h : Held) (position : ℕ) (word : Text) (k : Name) (v : Text) → is_named k ≡ true
    → Ready gs h → Placed position gs → bytes_eq word (45 ∷ 45 ∷ []) ≡ false → (name : Text) → long_of word ≡ Some (name, use_look k v) → named name ≡ Some k
    → Claims (at h idle position) (word ∷ words) (once k (use_text k v) gs (λ all. reads words all None))
used_turn words rest gs h position word k v named_one ready placed dashes name look is =
    let found : arg_by_long rules name ≡ Some (rule k) = by_long name ∙ ap (option_map rule) is in
    let turn : turn_fault shape [] (at h idle position) word ≡ or_else (repeat_kinds (has k gs)) [] =
    ap (λ b. turn_by h idle position word b (long_of word)) dashes
    ∙ ap (turn_by h idle position word false) look
    ∙ ap (λ r. turn_long h idle position word r (use_look k v)) found
    ∙ turn_use h position word k v ∙ use_kinds_are gs h ready k v in
    let step : walked rules [] (at h idle position) word ≡ at (reacted rules (rule k) (use_values k v) h) idle position =
    after_idle h position word
    ∙ ap (λ b. after_step rules word (at h idle position) (met_by h idle position word b (long_of word)).0 (met_by h idle position word b (long_of word)).1) dashes
    ∙ ap (λ l. after_step rules word (at h idle position) (met_by h idle position word false l).0 (met_by h idle position word false l).1) look
    ∙ ap (λ r. after_step rules word (at h idle position) (met_long h idle word r (use_look k v)).0 (met_long h idle word r (use_look k v)).1) found
    ∙ ap (λ (m : Held × Step). after_step rules word (at h idle position) m.0 m.1) (met_use h word k v) in
    elim (cases_Bool (has k gs)) [
      | inl there ↦ rw there (fails (at h idle position) word words (λ e. filled (has k gs) there (sym turn ∙ e)))
      | inr none ↦ rw none (goes_on (at h idle position) _ word words _ (turn ∙ ap (λ b. or_else (repeat_kinds b) []) none) step
          (rest (gs ++ (k, use_text k v) ∷ []) _ position (ready_after gs h ready k v none) (placed_after position gs k _ named_one placed)))
    ]
  where
    filled : (b : Bool) → b ≡ true → or_else (repeat_kinds b) [] ≡ [] → ⊥
    filled true t e = absurd (cc)
    filled false t e = absurd (cc)

turn_wait : (h : Held) (position : ℕ) (word : Text) (k : Name) → is_option k ≡ true → turn_long h idle position word (Some (rule k)) None ≡ or_else (settle_fault rules false h) []
turn_wait h position word job is = refl
turn_wait h position word schedule is = refl
turn_wait h position word order is = refl
turn_wait h position word seed is = refl
turn_wait h position word traffic is = absurd (cc)

step_wait : (h : Held) (position : ℕ) (word : Text) (k : Name) → is_option k ≡ true
    → after_step rules word (at h idle position) (met_long h idle word (Some (rule k)) None).0 (met_long h idle word (Some (rule k)) None).1
    ≡ at (record (settled rules h) { pending = Some (name_text k, []) }) (option (name_text k)) position
step_wait h position word job is = refl
step_wait h position word schedule is = refl
step_wait h position word order is = refl
step_wait h position word seed is = refl
step_wait h position word traffic is = absurd (cc)

-- ---- a word that begins with no hyphen

abbrev turn_plain : Held → ℕ → Text → Option Text → Kinds
turn_plain h position word short =
    or_else (option_map_or (λ flags. bundle_fault rules false flags h) short [])
    (step_fault shape position (short_or_plain rules idle word short h).0 (short_or_plain rules idle word short h).1)

turn_plain_is : (h : Held) (position : ℕ) (word : Text) → bytes_eq word (45 ∷ 45 ∷ []) ≡ false → long_of word ≡ None
    → turn_fault shape [] (at h idle position) word ≡ turn_plain h position word (short_of word)
turn_plain_is h position word dashes look =
    ap (λ b. turn_by h idle position word b (long_of word)) dashes
    ∙ ap (turn_by h idle position word false) look

both_false : (b : Bool) → (b && false) ≡ false
both_false true = refl
both_false false = refl

-- JOB does not take several values, so what is pending settles first
job_turn : (h : Held) (word : Text) → turn_plain h 1 word None ≡ settle_fault rules false h
job_turn h word = ap (λ b. if b then [] else settle_fault rules false h) (both_false (is_pending (rule job) h.pending))

stray : (h : Held) (word : Text) → turn_plain h 2 word None ≡ [] → ⊥
stray h word e = absurd (cc)

job_step : (h : Held) (word : Text) → positional_held rules (rule job) word h ≡ pushed (name_text job) word (settled rules h)
job_step h word = ap (λ b. pushed (name_text job) word (if b then h else settled rules h)) (both_false (is_pending (rule job) h.pending))

-- an option without its value waits for the next word
waits_turn : (words : List Text) → NextValue words → (gs : List Given) (h : Held) (position : ℕ) (word : Text) (k : Name) → is_named k ≡ true → is_option k ≡ true
    → Ready gs h → Placed position gs → bytes_eq word (45 ∷ 45 ∷ []) ≡ false → (name : Text) → long_of word ≡ Some (name, None) → named name ≡ Some k
    → Claims (at h idle position) (word ∷ words) (reads words gs (Some k))
waits_turn words rest gs h position word k named_one is_one ready placed dashes name look is =
    let found : arg_by_long rules name ≡ Some (rule k) = by_long name ∙ ap (option_map rule) is in
    let turn : turn_fault shape [] (at h idle position) word ≡ [] =
    ap (λ b. turn_by h idle position word b (long_of word)) dashes
    ∙ ap (turn_by h idle position word false) look
    ∙ ap (λ r. turn_long h idle position word r None) found
    ∙ turn_wait h position word k is_one ∙ ap (λ a. or_else a []) ready.settles in
    let step : walked rules [] (at h idle position) word ≡ at (half_held gs k) (option (name_text k)) position =
    after_idle h position word
    ∙ ap (λ b. after_step rules word (at h idle position) (met_by h idle position word b (long_of word)).0 (met_by h idle position word b (long_of word)).1) dashes
    ∙ ap (λ l. after_step rules word (at h idle position) (met_by h idle position word false l).0 (met_by h idle position word false l).1) look
    ∙ ap (λ r. after_step rules word (at h idle position) (met_long h idle word r None).0 (met_long h idle word r None).1) found
    ∙ step_wait h position word k is_one
    ∙ ap (λ (g : Held). at (record g { pending = Some (name_text k, []) }) (option (name_text k)) position) ready.rows in
    goes_on (at h idle position) _ word words _ turn step (rest gs k position is_one named_one placed)

or-true : (b : Bool) → (b || true) ≡ true
or-true true = refl
or-true false = refl

-- a pending use that is not yet there settles
pub ready_pending : (gs : List Given) (k : Name) (v : Text) → is_option k ≡ true → has k gs ≡ false
    → Ready (gs ++ (k, v) ∷ []) (record { rows = map row gs; pending = Some (name_text k, v ∷ []); skip = 0 })
ready_pending gs job v is none = record { settles = use_fault_is job v gs ∙ ap repeat_kinds none; rows = ap (λ rs. record { rows = rs; pending = None; skip = 0 }) (used_is job v gs none) }
ready_pending gs schedule v is none = record { settles = use_fault_is schedule v gs ∙ ap repeat_kinds none; rows = ap (λ rs. record { rows = rs; pending = None; skip = 0 }) (used_is schedule v gs none) }
ready_pending gs order v is none = record { settles = use_fault_is order v gs ∙ ap repeat_kinds none; rows = ap (λ rs. record { rows = rs; pending = None; skip = 0 }) (used_is order v gs none) }
ready_pending gs seed v is none = record { settles = use_fault_is seed v gs ∙ ap repeat_kinds none; rows = ap (λ rs. record { rows = rs; pending = None; skip = 0 }) (used_is seed v gs none) }
ready_pending gs traffic v is none = absurd (cc)

-- a word that begins with no hyphen is JOB, or is refused
pub plain_turn : (words : List Text) → NextIdle words → (gs : List Given) (h : Held) (position : ℕ) (word : Text)
    → Ready gs h → Placed position gs → bytes_eq word (45 ∷ 45 ∷ []) ≡ false → long_of word ≡ None → short_of word ≡ None
    → Claims (at h idle position) (word ∷ words) (once job word gs (λ all. reads words all None))
plain_turn words rest gs h position word ready placed dashes look short =
    let turn : (n : ℕ) → position ≡ n → turn_fault shape [] (at h idle position) word ≡ turn_plain h n word None =
    λ n e. turn_plain_is h position word dashes look ∙ ap (turn_plain h position word) short ∙ ap (λ m. turn_plain h m word None) e in
    elim placed [
      | inr p ↦ rw p.1 (fails (at h idle position) word words (λ e. stray h word (sym (turn 2 p.0) ∙ e)))
      | inl p ↦ rw p.1 (goes_on (at h idle position) (at (record { rows = map row gs; pending = Some (name_text job, word ∷ []); skip = 0 }) idle 2) word words _
          (turn 1 p.0 ∙ job_turn h word ∙ ready.settles)
          (after_idle h position word
          ∙ ap (λ b. after_step rules word (at h idle position) (met_by h idle position word b (long_of word)).0 (met_by h idle position word b (long_of word)).1) dashes
          ∙ ap (λ l. after_step rules word (at h idle position) (met_by h idle position word false l).0 (met_by h idle position word false l).1) look
          ∙ ap (λ l. after_step rules word (at h idle position) (short_or_plain rules idle word l h).0 (short_or_plain rules idle word l h).1) short
          ∙ ap (λ n. to_positional rules (arg_by_index rules n) word (at h idle n) h) p.0
          ∙ ap (λ (g : Held). at g idle 2) (job_step h word ∙ ap (pushed (name_text job) word) ready.rows))
          (rest (gs ++ (job, word) ∷ []) _ 2 (ready_pending gs job word refl p.1) (inr (refl, has-push job gs job word ∙ or-true (has job gs)))))
    ]

-- ---- what cannot settle fails at the next word, or at the end

stuck_all : (words : List Text) → list_all is_fit words ≡ true → (gs : List Given) (h : Held) (position : ℕ) → Placed position gs → (settle_fault rules false h ≡ [] → ⊥) → whole (at h idle position) words ≡ [] → ⊥
unfolding walk_fault
stuck_all [] fit gs h position placed stuck = λ e. stuck (both_empty _ _ e).0
stuck_all (word ∷ words) fit gs h position placed stuck = by (form_of word) (lexed word) (and_parts _ _ fit).0
  where
    by : (f : Form) → Lexed word f → is_fit_form f ≡ true → whole (at h idle position) (word ∷ words) ≡ [] → ⊥
    by (long name text) look here = fails (at h idle position) word words (λ e.
        stuck_long h idle position word name text stuck
        (sym (ap (λ b. turn_by h idle position word b (long_of word)) look.0 ∙ ap (turn_by h idle position word false) look.1) ∙ e))
    by plain look here = fails (at h idle position) word words (λ e.
        let turn : (n : ℕ) → position ≡ n → turn_plain h n word None ≡ [] =
        λ n at_n. sym (turn_plain_is h position word look.0 look.1 ∙ ap (turn_plain h position word) look.2 ∙ ap (λ m. turn_plain h m word None) at_n) ∙ e in
        elim placed [
          | inl p ↦ stuck (sym (job_turn h word) ∙ turn 1 p.0)
          | inr p ↦ stray h word (turn 2 p.0)
        ])
    by unfit look here = absurd (cc)

-- an option that waits does not settle
half_stuck : (gs : List Given) (k : Name) → is_option k ≡ true → settle_fault rules false (half_held gs k) ≡ [] → ⊥
half_stuck gs job is e = no_values job (map row gs) is e
half_stuck gs schedule is e = no_values schedule (map row gs) is e
half_stuck gs order is e = no_values order (map row gs) is e
half_stuck gs seed is e = no_values seed (map row gs) is e
half_stuck gs traffic is e = absurd (cc)

abbrev full_held : List Given → Name → Text → Held
full_held gs k word = record { rows = map row gs; pending = Some (name_text k, word ∷ []); skip = 0 }

abbrev turn_value : Held → Text → ℕ → Text → Option Text → Kinds
turn_value h id position word short =
    or_else (option_map_or (λ flags. bundle_fault rules false flags h) short [])
    (step_fault shape position (short_or_plain rules (option id) word short h).0 (short_or_plain rules (option id) word short h).1)

value_passes : (gs : List Given) (k : Name) (position : ℕ) (word : Text) → is_option k ≡ true → turn_value (half_held gs k) (name_text k) position word None ≡ []
value_passes gs job position word is = refl
value_passes gs schedule position word is = refl
value_passes gs order position word is = refl
value_passes gs seed position word is = refl
value_passes gs traffic position word is = absurd (cc)

value_step : (gs : List Given) (k : Name) (position : ℕ) (word : Text) → is_option k ≡ true
    → after_step rules word (at (half_held gs k) (option (name_text k)) position) (short_or_plain rules (option (name_text k)) word None (half_held gs k)).0 (short_or_plain rules (option (name_text k)) word None (half_held gs k)).1
    ≡ at (full_held gs k word) idle position
value_step gs job position word is = refl
value_step gs schedule position word is = refl
value_step gs order position word is = refl
value_step gs seed position word is = refl
value_step gs traffic position word is = absurd (cc)

full_stuck : (gs : List Given) (k : Name) (word : Text) → is_option k ≡ true → has k gs ≡ true → settle_fault rules false (full_held gs k word) ≡ [] → ⊥
full_stuck gs job word is there e = absurd (cc (use_fault_is job word gs, ap repeat_kinds there))
full_stuck gs schedule word is there e = absurd (cc (use_fault_is schedule word gs, ap repeat_kinds there))
full_stuck gs order word is there e = absurd (cc (use_fault_is order word gs, ap repeat_kinds there))
full_stuck gs seed word is there e = absurd (cc (use_fault_is seed word gs, ap repeat_kinds there))
full_stuck gs traffic word is there e = absurd (cc)

value_turn : (words : List Text) → list_all is_fit words ≡ true → NextIdle words → (gs : List Given) (k : Name) (position : ℕ) (word : Text) → is_option k ≡ true → is_named k ≡ true → Placed position gs
    → bytes_eq word (45 ∷ 45 ∷ []) ≡ false → long_of word ≡ None → short_of word ≡ None
    → Claims (at (half_held gs k) (option (name_text k)) position) (word ∷ words) (once k word gs (λ all. reads words all None))
value_turn words fit rest gs k position word is named_one placed dashes look short =
    let h = half_held gs k in
    let turn : turn_fault shape [] (at h (option (name_text k)) position) word ≡ [] =
    ap (λ b. turn_by h (option (name_text k)) position word b (long_of word)) dashes
    ∙ ap (turn_by h (option (name_text k)) position word false) look
    ∙ ap (turn_value h (name_text k) position word) short ∙ value_passes gs k position word is in
    let step : walked rules [] (at h (option (name_text k)) position) word ≡ at (full_held gs k word) idle position =
    after_option h (name_text k) position word
    ∙ ap (λ b. after_step rules word (at h (option (name_text k)) position) (met_by h (option (name_text k)) position word b (long_of word)).0 (met_by h (option (name_text k)) position word b (long_of word)).1) dashes
    ∙ ap (λ l. after_step rules word (at h (option (name_text k)) position) (met_by h (option (name_text k)) position word false l).0 (met_by h (option (name_text k)) position word false l).1) look
    ∙ ap (λ l. after_step rules word (at h (option (name_text k)) position) (short_or_plain rules (option (name_text k)) word l h).0 (short_or_plain rules (option (name_text k)) word l h).1) short
    ∙ value_step gs k position word is in
    elim (cases_Bool (has k gs)) [
      | inl there ↦ rw there (goes_on _ _ word words None turn step (stuck_all words fit gs (full_held gs k word) position placed (full_stuck gs k word is there)))
      | inr none ↦ rw none (goes_on _ _ word words _ turn step
          (rest (gs ++ (k, word) ∷ []) _ position (ready_pending gs k word is none) (placed_after position gs k word named_one placed)))
    ]

named_picked : (a b c d : Bool) (k : Name) → cond a (Some schedule) (cond b (Some order) (cond c (Some seed) (cond d (Some traffic) None))) ≡ Some k → is_named k ≡ true
named_picked true b c d schedule e = refl
named_picked false true c d order e = refl
named_picked false false true d seed e = refl
named_picked false false false true traffic e = refl
named_picked a b c d k e = absurd (cc)

pub named_is : (name : Text) (k : Name) → named name ≡ Some k → is_named k ≡ true
named_is name k e = named_picked (bytes_eq (codes "schedule") name) (bytes_eq (codes "order") name) (bytes_eq (codes "seed") name) (bytes_eq (codes "traffic") name) k e

once_none : (k : Name) (text : Text) (gs : List Given) (go : List Given → Option (List Given)) → ((all : List Given) → go all ≡ None) → once k text gs go ≡ None
once_none k text gs go none =
    elim (cases_Bool (has k gs)) [
      | inl there ↦ rw there
      | inr absent ↦ rw absent (none _)
    ]

-- ---- all the words

ends : (gs : List Given) (h : Held) (position : ℕ) → Ready gs h → Claims (at h idle position) [] (Some gs)
unfolding walk_fault
ends gs h position ready = (
  ap (λ a. or_else a (or_else (defaults_fault (settled rules h).rows rules) (check_fault shape (finished rules h) false))) ready.settles
      ∙ ap (λ (g : Held). or_else (defaults_fault g.rows rules) (check_fault shape (fold with_default g.rows rules) false)) ready.rows,
  ap (λ (g : Held). g.rows) ready.rows,
)

short_of_words : (gs : List Given) (k : Name) (position : ℕ) → is_option k ≡ true → whole (at (half_held gs k) (option (name_text k)) position) [] ≡ [] → ⊥
unfolding walk_fault
short_of_words gs k position is e = half_stuck gs k is (both_empty _ _ e).0

long_turn : (words : List Text) → NextIdle words → NextValue words → (gs : List Given) (h : Held) (position : ℕ) (word : Text) → Ready gs h → Placed position gs
    → bytes_eq word (45 ∷ 45 ∷ []) ≡ false → (name : Text) (text : Option Text) → long_of word ≡ Some (name, text) → (found : Option Name) → named name ≡ found
    → Claims (at h idle position) (word ∷ words) (long_read found text gs (reads words))
long_turn words go value gs h position word ready placed dashes name text look None is = fails (at h idle position) word words (λ e.
    unknown_name h idle position word text
    (sym (ap (λ b. turn_by h idle position word b (long_of word)) dashes ∙ ap (turn_by h idle position word false) look
    ∙ ap (λ r. turn_long h idle position word r text) (by_long name ∙ ap (option_map rule) is)) ∙ e))
long_turn words go value gs h position word ready placed dashes name (Some t) look (Some traffic) is = fails (at h idle position) word words (λ e.
    flag_value h position word t
    (sym (ap (λ b. turn_by h idle position word b (long_of word)) dashes ∙ ap (turn_by h idle position word false) look
    ∙ ap (λ r. turn_long h idle position word r (Some t)) (by_long name ∙ ap (option_map rule) is)) ∙ e))
  where
    flag_value : (h : Held) (position : ℕ) (word t : Text) → turn_long h idle position word (Some (rule traffic)) (Some t) ≡ [] → ⊥
    flag_value h position word t e = absurd (cc)
long_turn words go value gs h position word ready placed dashes name None look (Some traffic) is = used_turn words go gs h position word traffic [] refl ready placed dashes name look is
long_turn words go value gs h position word ready placed dashes name (Some t) look (Some schedule) is = used_turn words go gs h position word schedule t refl ready placed dashes name look is
long_turn words go value gs h position word ready placed dashes name None look (Some schedule) is = waits_turn words value gs h position word schedule refl refl ready placed dashes name look is
long_turn words go value gs h position word ready placed dashes name (Some t) look (Some order) is = used_turn words go gs h position word order t refl ready placed dashes name look is
long_turn words go value gs h position word ready placed dashes name None look (Some order) is = waits_turn words value gs h position word order refl refl ready placed dashes name look is
long_turn words go value gs h position word ready placed dashes name (Some t) look (Some seed) is = used_turn words go gs h position word seed t refl ready placed dashes name look is
long_turn words go value gs h position word ready placed dashes name None look (Some seed) is = waits_turn words value gs h position word seed refl refl ready placed dashes name look is
long_turn words go value gs h position word ready placed dashes name text look (Some job) is = absurd (cc (named_is name job is))

idle_turn : (words : List Text) → NextIdle words → NextValue words → (gs : List Given) (h : Held) (position : ℕ) (word : Text) → Ready gs h → Placed position gs
    → (f : Form) → Lexed word f → is_fit_form f ≡ true → Claims (at h idle position) (word ∷ words) (word_read f None word gs (reads words))
idle_turn words go value gs h position word ready placed (long name text) look fit = long_turn words go value gs h position word ready placed look.0 name text look.1 (named name) refl
idle_turn words go value gs h position word ready placed plain look fit = plain_turn words go gs h position word ready placed look.0 look.1 look.2
idle_turn words go value gs h position word ready placed unfit look fit = absurd (cc)

option_turn : (words : List Text) → list_all is_fit words ≡ true → NextIdle words → (gs : List Given) (k : Name) (position : ℕ) (word : Text) → is_option k ≡ true → is_named k ≡ true → Placed position gs
    → (f : Form) → Lexed word f → is_fit_form f ≡ true → Claims (at (half_held gs k) (option (name_text k)) position) (word ∷ words) (word_read f (Some k) word gs (reads words))
option_turn words all_fit go gs k position word is named_one placed (long name text) look fit = fails _ word words (λ e.
    stuck_long (half_held gs k) (option (name_text k)) position word name text (half_stuck gs k is)
    (sym (ap (λ b. turn_by (half_held gs k) (option (name_text k)) position word b (long_of word)) look.0 ∙ ap (turn_by (half_held gs k) (option (name_text k)) position word false) look.1) ∙ e))
option_turn words all_fit go gs k position word is named_one placed plain look fit = value_turn words all_fit go gs k position word is named_one placed look.0 look.1 look.2
option_turn words all_fit go gs k position word is named_one placed unfit look fit = absurd (cc)

claims : (words : List Text) → list_all is_fit words ≡ true → NextIdle words × NextValue words
claims [] fit = (λ gs h position ready placed. ends gs h position ready, λ gs k position is named_one placed. short_of_words gs k position is)
claims (word ∷ words) fit =
    let here : is_fit word ≡ true = (and_parts (is_fit word) (list_all is_fit words) fit).0 in
    let more : list_all is_fit words ≡ true = (and_parts (is_fit word) (list_all is_fit words) fit).1 in
    let rest = claims words more in (
      λ gs h position ready placed. idle_turn words rest.0 rest.1 gs h position word ready placed (form_of word) (lexed word) here,
      λ gs k position is named_one placed. option_turn words more rest.0 gs k position word is named_one placed (form_of word) (lexed word) here,
    )

pub whole_claims : (words : List Text) → list_all is_fit words ≡ true → Claims (walk_from nothing_held) words (reads words [] None)
whole_claims words fit = (claims words fit).0 [] nothing_held 1 (record { settles = refl; rows = refl }) (inl (refl, refl))

word_none : (f : Form) (waiting : Option Name) (word : Text) (gs : List Given) (go : List Given → Option Name → Option (List Given)) → ((all : List Given) (w : Option Name) → go all w ≡ None) → word_read f waiting word gs go ≡ None
word_none plain None word gs go none = once_none job word gs _ (λ all. none all None)
word_none plain (Some k) word gs go none = once_none k word gs _ (λ all. none all None)
word_none (long name text) (Some k) word gs go none = refl
word_none (long name text) None word gs go none = by (named name) text
  where
    by : (found : Option Name) (text : Option Text) → long_read found text gs go ≡ None
    by None text = refl
    by (Some traffic) None = once_none traffic (codes "true") gs _ (λ all. none all None)
    by (Some traffic) (Some t) = refl
    by (Some job) None = none gs (Some job)
    by (Some job) (Some t) = once_none job t gs _ (λ all. none all None)
    by (Some schedule) None = none gs (Some schedule)
    by (Some schedule) (Some t) = once_none schedule t gs _ (λ all. none all None)
    by (Some order) None = none gs (Some order)
    by (Some order) (Some t) = once_none order t gs _ (λ all. none all None)
    by (Some seed) None = none gs (Some seed)
    by (Some seed) (Some t) = once_none seed t gs _ (λ all. none all None)
word_none unfit waiting word gs go none = refl

-- an unfit word makes the words no command
pub unfit_reads : (words : List Text) → list_all is_fit words ≡ false → (gs : List Given) (waiting : Option Name) → reads words gs waiting ≡ None
unfit_reads [] bad gs waiting = absurd (cc)
unfit_reads (word ∷ words) bad gs waiting =
    elim (cases_Bool (list_all is_fit words)) [
      | inl rest_fit ↦ none_here (form_of word) (sym (ap (λ b. is_fit word && b) rest_fit ∙ and-true (is_fit word)) ∙ bad)
      | inr rest_bad ↦ word_none (form_of word) waiting word gs (reads words) (unfit_reads words rest_bad)
    ]
  where
    and-true : (b : Bool) → (b && true) ≡ b
    and-true true = refl
    and-true false = refl

    none_here : (f : Form) → is_fit_form f ≡ false → word_read f waiting word gs (reads words) ≡ None
    none_here unfit e = refl
    none_here plain e = absurd (cc)
    none_here (long name text) e = absurd (cc)
