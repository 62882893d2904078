-- The built command's arguments, and what a use of one does.
use Rattle.std.proofs.Common.{◌≡◌, Bool, true, false, ◌&&◌, append-nil, fold, List, [], ◌∷◌, ◌++◌, map, Some, None, codes, cond, ◌||◌, refl, sym, ap, ◌∙◌, option_map}
use Rattle.std.proofs.lemmas.Bool.{cases_Bool}
use Rattle.std.proofs.Common.{inl, inr}
use Rattle.std.specs.Str.{bytes_eq}
use Rattle.clap.specs.Walk.{Row, Rule, arg_by_id, arg_by_index, arg_by_long, at_row, has_row, first_of, one_of, more_values, used, with_default}
use Rattle.clap.specs.Simple.{Shape, built, filled, with_index}
use Rattle.clap.specs.Kinds.{Kinds, or_else}
use Rattle.clap.specs.Faults.{use_fault}
use Rattle.clap.specs.declared.builder.value_parser.Reading.TheVariants as reading
use Rattle.clap.specs.declared.parser.matches.ValueSource.TheVariants.{CommandLine, DefaultValue}
use Rattle.clap.specs.declared.error.kind.ErrorKind.TheVariants as kind
use Rattle.run_words.specs.App.{run_app, flag_rule, option_rule, positional_rule}
use Rattle.run_words.specs.Given.{Given, Name, Text, has, job, schedule, order, seed, traffic, name_text, named, text_of}

abbrev pub rule : Name → Rule
rule job = with_index 1 (filled (positional_rule (codes "job")))
rule schedule = with_index 2 (filled (option_rule (codes "schedule")))
rule order = with_index 2 (filled (option_rule (codes "order")))
rule seed = with_index 2 (filled (option_rule (codes "seed")))
rule traffic = with_index 2 (filled (flag_rule (codes "traffic")))

abbrev pub shape : Shape
shape = (built run_app).top

abbrev pub rules : List Rule
rules = rule job ∷ rule schedule ∷ rule order ∷ rule seed ∷ rule traffic ∷ []

pub rules_are : shape.rules ≡ rules
rules_are = refl

pub by_id : (k : Name) → arg_by_id rules (name_text k) ≡ Some (rule k)
by_id job = refl
by_id schedule = refl
by_id order = refl
by_id seed = refl
by_id traffic = refl

picked : (a b c d : Bool) → cond (a || false) (Some (rule schedule)) (cond (b || false) (Some (rule order)) (cond (c || false) (Some (rule seed)) (cond (d || false) (Some (rule traffic)) None)))
    ≡ option_map rule (cond a (Some schedule) (cond b (Some order) (cond c (Some seed) (cond d (Some traffic) None))))
picked true b c d = refl
picked false true c d = refl
picked false false true d = refl
picked false false false true = refl
picked false false false false = refl

pub by_long : (name : Text) → arg_by_long rules name ≡ option_map rule (named name)
by_long name = picked (bytes_eq (codes "schedule") name) (bytes_eq (codes "order") name) (bytes_eq (codes "seed") name) (bytes_eq (codes "traffic") name)

pub first_place : arg_by_index rules 1 ≡ Some (rule job)
first_place = refl

pub second_place : arg_by_index rules 2 ≡ None
second_place = refl

-- the values of a use: none are written for the flag
abbrev pub use_values : Name → Text → List Text
use_values traffic v = []
use_values _ v = v ∷ []

abbrev pub use_text : Name → Text → Text
use_text traffic v = codes "true"
use_text _ v = v

abbrev pub row : Given → Row
row g = record { id = name_text g.0; values = use_text g.0 g.1 ∷ []; count = None; source = Some CommandLine; reading = reading.AsWritten }

pub has_row-given : (k : Name) (gs : List Given) → has_row (name_text k) (map row gs) ≡ has k gs
has_row-given k [] = refl
has_row-given k (g ∷ gs) = ap (λ b. bytes_eq (name_text g.0) (name_text k) || b) (has_row-given k gs)

pub at_row-absent : (id : Text) (change : Row → List Row) (missing : List Row) (rows : List Row) → has_row id rows ≡ false → at_row id change missing rows ≡ rows ++ missing
at_row-absent id change missing [] h = refl
at_row-absent id change missing (r ∷ rs) h =
    elim (cases_Bool (bytes_eq r.id id)) [
      | inl same ↦ absurd (cc)
      | inr other ↦ rw other (ap (λ t. r ∷ t) (at_row-absent id change missing rs (sym (ap (λ b. b || has_row id rs) other) ∙ h)))
    ]

pub map-row-push : (gs : List Given) (g : Given) → map row (gs ++ g ∷ []) ≡ map row gs ++ row g ∷ []
map-row-push [] g = refl
map-row-push (x ∷ gs) g = ap (λ t. row x ∷ t) (map-row-push gs g)

-- what a use with one value leaves, for all but the flag
with_value : (k : Name) (v : Text) (gs : List Given) → has k gs ≡ false → at_row (name_text k) (λ _. []) [] (map row gs) ≡ map row gs
with_value k v gs none = at_row-absent (name_text k) (λ _. []) [] (map row gs) (has_row-given k gs ∙ none) ∙ append-nil (map row gs)

placed : (k : Name) (v : Text) (gs : List Given) (change : Row → List Row) → has k gs ≡ false
    → at_row (name_text k) change (row (k, v) ∷ []) (at_row (name_text k) (λ _. []) [] (map row gs)) ≡ map row (gs ++ (k, v) ∷ [])
placed k v gs change none =
    ap (at_row (name_text k) change (row (k, v) ∷ [])) (with_value k v gs none)
    ∙ at_row-absent (name_text k) change (row (k, v) ∷ []) (map row gs) (has_row-given k gs ∙ none)
    ∙ sym (map-row-push gs (k, v))

pub used_is : (k : Name) (v : Text) (gs : List Given) → has k gs ≡ false → used (rule k) (use_values k v) (map row gs) ≡ map row (gs ++ (k, use_text k v) ∷ [])
used_is job v gs none = placed job v gs (more_values CommandLine (v ∷ [])) none
used_is schedule v gs none = placed schedule v gs (more_values CommandLine (v ∷ [])) none
used_is order v gs none = placed order v gs (more_values CommandLine (v ∷ [])) none
used_is seed v gs none = placed seed v gs (more_values CommandLine (v ∷ [])) none
used_is traffic v gs none = placed traffic (codes "true") gs (more_values CommandLine (codes "true" ∷ [])) none

abbrev pub repeat_kinds : Bool → Kinds
repeat_kinds b = cond b (kind.ArgumentConflict ∷ []) []

faulted : (b c : Bool) → b ≡ c → or_else (cond (b && true) (kind.ArgumentConflict ∷ []) []) [] ≡ repeat_kinds c
faulted true true e = refl
faulted false false e = refl
faulted true false e = absurd (cc)
faulted false true e = absurd (cc)

pub use_fault_is : (k : Name) (v : Text) (gs : List Given) → use_fault false (rule k) (use_values k v) (map row gs) ≡ repeat_kinds (has k gs)
use_fault_is job v gs = faulted _ _ (has_row-given job gs)
use_fault_is schedule v gs = faulted _ _ (has_row-given schedule gs)
use_fault_is order v gs = faulted _ _ (has_row-given order gs)
use_fault_is seed v gs = faulted _ _ (has_row-given seed gs)
use_fault_is traffic v gs = faulted _ _ (has_row-given traffic gs)

-- the names that are written with hyphens
abbrev pub is_named : Name → Bool
is_named job = false
is_named _ = true

-- the options take one value, and JOB too
abbrev pub is_option : Name → Bool
is_option traffic = false
is_option _ = true

pub no_values : (k : Name) (rows : List Row) → is_option k ≡ true → use_fault false (rule k) [] rows ≡ [] → ⊥
no_values job rows is e = absurd (cc)
no_values schedule rows is e = absurd (cc)
no_values order rows is e = absurd (cc)
no_values seed rows is e = absurd (cc)
no_values traffic rows is e = absurd (cc)

pub both_empty : (a b : Kinds) → or_else a b ≡ [] → (a ≡ []) × (b ≡ [])
both_empty [] b e = (refl, e)
both_empty (x ∷ a) b e = absurd (cc)

-- ---- the rows at the end

same_cond : (b : Bool) (rows : List Row) → cond b rows rows ≡ rows
same_cond true rows = refl
same_cond false rows = refl

abbrev pub flag_off : Row
flag_off = record { id = codes "traffic"; values = codes "false" ∷ []; count = None; source = Some DefaultValue; reading = reading.AsWritten }

abbrev pub end_rows : Bool → List Row → List Row
end_rows given rows = cond given rows (rows ++ flag_off ∷ [])

with_flag : (rows : List Row) → with_default rows (rule traffic) ≡ end_rows (has_row (codes "traffic") rows) rows
with_flag rows = by (has_row (codes "traffic") rows) refl
  where
    by : (b : Bool) → has_row (codes "traffic") rows ≡ b → cond b rows (at_row (codes "traffic") (more_values DefaultValue (codes "false" ∷ [])) (flag_off ∷ []) rows) ≡ end_rows b rows
    by true e = refl
    by false e = at_row-absent (codes "traffic") (more_values DefaultValue (codes "false" ∷ [])) (flag_off ∷ []) rows e

pub defaults_added : (rows : List Row) → fold with_default rows rules ≡ end_rows (has_row (codes "traffic") rows) rows
defaults_added rows =
    ap (λ rs. with_default (with_default (with_default (with_default rs (rule schedule)) (rule order)) (rule seed)) (rule traffic)) (same_cond (has_row (codes "job") rows) rows)
    ∙ ap (λ rs. with_default (with_default (with_default rs (rule order)) (rule seed)) (rule traffic)) (same_cond (has_row (codes "schedule") rows) rows)
    ∙ ap (λ rs. with_default (with_default rs (rule seed)) (rule traffic)) (same_cond (has_row (codes "order") rows) rows)
    ∙ ap (λ rs. with_default rs (rule traffic)) (same_cond (has_row (codes "seed") rows) rows)
    ∙ with_flag rows

first_in : (k : Name) → is_option k ≡ true → (extra : List Row) → first_of (name_text k) extra ≡ None → (gs : List Given) → first_of (name_text k) (map row gs ++ extra) ≡ text_of k gs
first_in k is extra none [] = none
first_in k is extra none (g ∷ gs) =
    elim (cases_Bool (bytes_eq (name_text g.0) (name_text k))) [
      | inl same ↦ rw same (text_at g.0 g.1 k is same)
      | inr other ↦ rw other (first_in k is extra none gs)
    ]
  where
    text_at : (j : Name) (v : Text) (k : Name) → is_option k ≡ true → bytes_eq (name_text j) (name_text k) ≡ true → Some (use_text j v) ≡ Some v
    text_at job v k is e = refl
    text_at schedule v k is e = refl
    text_at order v k is e = refl
    text_at seed v k is e = refl
    text_at traffic v job is e = absurd (cc)
    text_at traffic v schedule is e = absurd (cc)
    text_at traffic v order is e = absurd (cc)
    text_at traffic v seed is e = absurd (cc)
    text_at traffic v traffic is e = absurd (cc)

no_default : (k : Name) → is_option k ≡ true → first_of (name_text k) (flag_off ∷ []) ≡ None
no_default job is = refl
no_default schedule is = refl
no_default order is = refl
no_default seed is = refl
no_default traffic is = absurd (cc)

-- what `get_str` reads at the end
pub first_given : (k : Name) → is_option k ≡ true → (gs : List Given) → first_of (name_text k) (fold with_default (map row gs) rules) ≡ text_of k gs
first_given k is gs =
    ap (first_of (name_text k)) (defaults_added (map row gs))
    ∙ by (has_row (codes "traffic") (map row gs))
  where
    by : (b : Bool) → first_of (name_text k) (end_rows b (map row gs)) ≡ text_of k gs
    by true = ap (first_of (name_text k)) (sym (append-nil (map row gs))) ∙ first_in k is [] refl gs
    by false = first_in k is (flag_off ∷ []) (no_default k is) gs

flag_in : (gs : List Given) (b : Bool) → has traffic gs ≡ b → one_of (codes "traffic") (end_rows b (map row gs)) ≡ Some (cond b (codes "true") (codes "false"))
flag_in gs true e = found gs e
  where
    here : (j : Name) (v : Text) → bytes_eq (name_text j) (codes "traffic") ≡ true → Some (use_text j v) ≡ Some (codes "true")
    here job v e = absurd (cc)
    here schedule v e = absurd (cc)
    here order v e = absurd (cc)
    here seed v e = absurd (cc)
    here traffic v e = refl

    found : (gs : List Given) → has traffic gs ≡ true → one_of (codes "traffic") (map row gs) ≡ Some (codes "true")
    found [] e = absurd (cc)
    found (g ∷ gs) e =
        elim (cases_Bool (bytes_eq (name_text g.0) (codes "traffic"))) [
          | inl same ↦ rw same (here g.0 g.1 same)
          | inr other ↦ rw other (found gs (sym (ap (λ b. b || has traffic gs) other) ∙ e))
        ]
flag_in gs false e = absent gs e
  where
    absent : (gs : List Given) → has traffic gs ≡ false → one_of (codes "traffic") (map row gs ++ flag_off ∷ []) ≡ Some (codes "false")
    absent [] e = refl
    absent (g ∷ gs) e =
        elim (cases_Bool (bytes_eq (name_text g.0) (codes "traffic"))) [
          | inl same ↦ absurd (cc)
          | inr other ↦ rw other (absent gs (sym (ap (λ b. b || has traffic gs) other) ∙ e))
        ]

-- what `get_flag` reads at the end
pub flag_given : (gs : List Given) → one_of (codes "traffic") (fold with_default (map row gs) rules) ≡ Some (cond (has traffic gs) (codes "true") (codes "false"))
flag_given gs =
    ap (one_of (codes "traffic")) (defaults_added (map row gs) ∙ ap (λ b. end_rows b (map row gs)) (has_row-given traffic gs))
    ∙ flag_in gs (has traffic gs) refl
