-- What clap's clauses say of the words, in the words of the command's rule.
use Rattle.std.proofs.Common.{◌≡◌, ◌||◌, Bool, true, false, not, List, [], ◌∷◌, ◌++◌, map, Option, Some, None, codes, cond, option_and_then, append-nil, fold, refl, sym, ap, subst, ◌∙◌, inl, inr}
use Rattle.std.specs.Option.{option_map_or}
use Rattle.std.proofs.lemmas.Bool.{cases_Bool}
use Rattle.std.specs.List.{list_all}
use Rattle.std.specs.Str.{bytes_eq}
use Rattle.clap.specs.declared.parser.matches.Found.{Found}
use Rattle.clap.specs.Matches.{one_text}
use Rattle.clap.proofs.WalkLemmas.{one_text-rows}
use Rattle.clap.specs.Walk.{Row, has_row, first_of, one_of, rows_of, nothing_held, walk_from, with_default, settled}
use Rattle.clap.specs.Simple.{built, matches_of}
use Rattle.clap.specs.Kinds.{Kinds, HasKind, or_else}
use Rattle.clap.specs.Takes.{is_given}
use Rattle.clap.specs.Values.{kind_of}
use Rattle.clap.specs.Faults.{check_fault, default_fault, defaults_fault, fault_of, is_simple_and_free}
use Rattle.clap.proofs.FaultLemmas.{leaf_fault}
use Rattle.clap.specs.declared.error.Error.{Error}
use Rattle.clap.specs.declared.error.kind.ErrorKind.TheVariants as kind
use Rattle.run_words.specs.App.{run_app}
use Rattle.run_words.specs.Given.{Given, Name, RunCommand, Text, assembled, command, command_of, has, is_fit, job, schedule, order, seed, traffic, name_text, reads, text_of}
use Rattle.run_words.proofs.Table.{defaults_added, end_rows, first_given, flag_given, flag_off, row, rule, rules, shape}
use Rattle.run_words.proofs.Whole.{Claims, end_of, final_fault, whole, whole_claims}

pub is_plain : is_simple_and_free run_app ≡ true
is_plain = refl

pub fault_is : (words : List Text) → fault_of run_app words ≡ whole (walk_from nothing_held) words
fault_is words = leaf_fault (built run_app) nothing_held words refl

pub rows_are : (words : List Text) → matches_of run_app words ≡ fold with_default (settled rules (end_of (walk_from nothing_held) words)).rows rules
rows_are words = refl

-- ---- the checks after the walk

or_else_empty : (b c : Bool) (ks : Kinds) → ks ≡ [] → cond (b || c) [] ks ≡ []
or_else_empty true c ks e = refl
or_else_empty false true ks e = refl
or_else_empty false false ks e = e

default_passes : (k : Name) (rows : List Row) → default_fault rows (rule k) ≡ []
default_passes job rows = or_else_empty (has_row (codes "job") rows) true [] refl
default_passes schedule rows = or_else_empty (has_row (codes "schedule") rows) true [] refl
default_passes order rows = or_else_empty (has_row (codes "order") rows) true [] refl
default_passes seed rows = or_else_empty (has_row (codes "seed") rows) true [] refl
default_passes traffic rows = or_else_empty (has_row (codes "traffic") rows) false [] refl

skips : (a b : Kinds) → a ≡ [] → b ≡ [] → or_else a b ≡ []
skips a b x y = ap (λ c. or_else c b) x ∙ y

defaults_pass : (rows : List Row) → defaults_fault rows rules ≡ []
unfolding defaults_fault
defaults_pass rows =
    skips _ _ (default_passes job rows)
    (skips _ _ (default_passes schedule (with_default rows (rule job)))
    (skips _ _ (default_passes order (with_default (with_default rows (rule job)) (rule schedule)))
    (skips _ _ (default_passes seed (with_default (with_default (with_default rows (rule job)) (rule schedule)) (rule order)))
    (skips _ _ (default_passes traffic (with_default (with_default (with_default (with_default rows (rule job)) (rule schedule)) (rule order)) (rule seed))) refl))))

-- JOB was given where its row is there
job_in : (extra : List Row) → is_given (codes "job") extra ≡ false → (gs : List Given) → is_given (codes "job") (map row gs ++ extra) ≡ has job gs
job_in extra none [] = none
job_in extra none (g ∷ gs) =
    elim (cases_Bool (bytes_eq (name_text g.0) (codes "job"))) [
      | inl same ↦ rw same
      | inr other ↦ rw other (job_in extra none gs)
    ]

job_given : (gs : List Given) → is_given (codes "job") (fold with_default (map row gs) rules) ≡ has job gs
job_given gs =
    ap (is_given (codes "job")) (defaults_added (map row gs))
    ∙ by (has_row (codes "traffic") (map row gs))
  where
    by : (b : Bool) → is_given (codes "job") (end_rows b (map row gs)) ≡ has job gs
    by true = ap (is_given (codes "job")) (sym (append-nil (map row gs))) ∙ job_in [] refl gs
    by false = job_in (flag_off ∷ []) refl gs

abbrev missing_kinds : Bool → Kinds
missing_kinds b = cond b [] (kind.MissingRequiredArgument ∷ [])

checked_is : (b : Bool) → cond (not b || false) (kind.MissingRequiredArgument ∷ []) [] ≡ missing_kinds b
checked_is true = refl
checked_is false = refl

final_is : (gs : List Given) → final_fault gs ≡ missing_kinds (has job gs)
final_is gs =
    ap (λ a. or_else a (check_fault shape (fold with_default (map row gs) rules) false)) (defaults_pass (map row gs))
    ∙ checked_is (is_given (codes "job") (fold with_default (map row gs) rules))
    ∙ ap missing_kinds (job_given gs)

no_job_text : (gs : List Given) → has job gs ≡ false → text_of job gs ≡ None
no_job_text [] e = refl
no_job_text (g ∷ gs) e =
    elim (cases_Bool (bytes_eq (name_text g.0) (codes "job"))) [
      | inl same ↦ absurd (cc)
      | inr other ↦ rw other (no_job_text gs (sym (ap (λ b. b || has job gs) other) ∙ e))
    ]

-- what the getters read of the matches, put together
abbrev pub read_command : List Row → Option RunCommand
read_command rows = assembled (first_of (codes "job") rows) (first_of (codes "schedule") rows) (first_of (codes "order") rows) (first_of (codes "seed") rows)
    (option_map_or (λ t. bytes_eq t (codes "true")) (one_of (codes "traffic") rows) false)

flag_text : (b : Bool) → bytes_eq (cond b (codes "true") (codes "false")) (codes "true") ≡ b
flag_text true = refl
flag_text false = refl

read_is : (rows : List Row) (gs : List Given) → rows ≡ map row gs → read_command (fold with_default rows rules) ≡ command_of gs
read_is rows gs e =
    ap (λ rs. read_command (fold with_default rs rules)) e
    ∙ ap (λ t. assembled t (first_of (codes "schedule") (fold with_default (map row gs) rules)) (first_of (codes "order") (fold with_default (map row gs) rules)) (first_of (codes "seed") (fold with_default (map row gs) rules)) (option_map_or (λ t. bytes_eq t (codes "true")) (one_of (codes "traffic") (fold with_default (map row gs) rules)) false)) (first_given job refl gs)
    ∙ ap (λ t. assembled (text_of job gs) t (first_of (codes "order") (fold with_default (map row gs) rules)) (first_of (codes "seed") (fold with_default (map row gs) rules)) (option_map_or (λ t. bytes_eq t (codes "true")) (one_of (codes "traffic") (fold with_default (map row gs) rules)) false)) (first_given schedule refl gs)
    ∙ ap (λ t. assembled (text_of job gs) (text_of schedule gs) t (first_of (codes "seed") (fold with_default (map row gs) rules)) (option_map_or (λ t. bytes_eq t (codes "true")) (one_of (codes "traffic") (fold with_default (map row gs) rules)) false)) (first_given order refl gs)
    ∙ ap (λ t. assembled (text_of job gs) (text_of schedule gs) (text_of order gs) t (option_map_or (λ t. bytes_eq t (codes "true")) (one_of (codes "traffic") (fold with_default (map row gs) rules)) false)) (first_given seed refl gs)
    ∙ ap (λ o. assembled (text_of job gs) (text_of schedule gs) (text_of order gs) (text_of seed gs) (option_map_or (λ t. bytes_eq t (codes "true")) o false)) (flag_given gs)
    ∙ ap (assembled (text_of job gs) (text_of schedule gs) (text_of order gs) (text_of seed gs)) (flag_text (has traffic gs))

module _ (words : List Text) where
  -- clap takes the words: the command is what its getters read
  taken_by : (r : Option (List Given)) → Claims (walk_from nothing_held) words r → fault_of run_app words ≡ [] → option_and_then command_of r ≡ read_command (matches_of run_app words)
  taken_by None claims none = absurd (claims (sym (fault_is words) ∙ none))
  taken_by (Some gs) claims none = sym (read_is (settled rules (end_of (walk_from nothing_held) words)).rows gs claims.1)

  pub taken : list_all is_fit words ≡ true → fault_of run_app words ≡ [] → command words ≡ read_command (matches_of run_app words)
  taken fit none = taken_by (reads words [] None) (whole_claims words fit) none

  -- clap refuses the words: they are no command
  refused_by : (r : Option (List Given)) (e : Error) → Claims (walk_from nothing_held) words r → HasKind (fault_of run_app words) e → (kind_of e ≡ kind.OutOfMemory → ⊥) → option_and_then command_of r ≡ None
  refused_by None e claims has_kind other = refl
  refused_by (Some gs) e claims has_kind other = by (has job gs) refl
    where
      fault : fault_of run_app words ≡ missing_kinds (has job gs)
      fault = fault_is words ∙ claims.0 ∙ final_is gs

      by : (b : Bool) → has job gs ≡ b → command_of gs ≡ None
      by false none = ap (λ t. assembled t (text_of schedule gs) (text_of order gs) (text_of seed gs) (has traffic gs)) (no_job_text gs none)
      by true there = absurd (elim (subst (λ ks. HasKind ks e) (fault ∙ ap missing_kinds there) has_kind) [ inl memory ↦ other memory | inr among ↦ among ])

  pub refused : list_all is_fit words ≡ true → (e : Error) → HasKind (fault_of run_app words) e → (kind_of e ≡ kind.OutOfMemory → ⊥) → command words ≡ None
  refused fit e has_kind other = refused_by (reads words [] None) e (whole_claims words fit) has_kind other

  pub flag_known : list_all is_fit words ≡ true → fault_of run_app words ≡ [] → (b : Bool) × (one_of (codes "traffic") (matches_of run_app words) ≡ Some (cond b (codes "true") (codes "false")))
  flag_known fit none = by (reads words [] None) (whole_claims words fit)
    where
      by : (r : Option (List Given)) → Claims (walk_from nothing_held) words r → (b : Bool) × (one_of (codes "traffic") (matches_of run_app words) ≡ Some (cond b (codes "true") (codes "false")))
      by None claims = absurd (claims (sym (fault_is words) ∙ none))
      by (Some gs) claims = (has traffic gs, ap (λ rs. one_of (codes "traffic") (fold with_default rs rules)) claims.1 ∙ flag_given gs)

-- what `get_flag` answers, by its clauses
flag_at : (b : Bool) (o : Option Text) (answer : Bool) → o ≡ Some (cond b (codes "true") (codes "false"))
    → (o ≡ Some (codes "true") → answer ≡ true) → (o ≡ Some (codes "false") → answer ≡ false)
    → answer ≡ option_map_or (λ t. bytes_eq t (codes "true")) o false
flag_at true o answer e on off = on e ∙ sym (ap (λ p. option_map_or (λ t. bytes_eq t (codes "true")) p false) e)
flag_at false o answer e on off = off e ∙ sym (ap (λ p. option_map_or (λ t. bytes_eq t (codes "true")) p false) e)

-- the getters' answers make the command
pub read_by : (words : List Text) → list_all is_fit words ≡ true → fault_of run_app words ≡ [] → (f : Found) → rows_of f ≡ matches_of run_app words
    → (j sch o sd : Option Text) (t : Bool) → j ≡ first_of (codes "job") (rows_of f) → sch ≡ first_of (codes "schedule") (rows_of f) → o ≡ first_of (codes "order") (rows_of f) → sd ≡ first_of (codes "seed") (rows_of f)
    → (one_text f (codes "traffic") ≡ Some (codes "true") → t ≡ true) → (one_text f (codes "traffic") ≡ Some (codes "false") → t ≡ false)
    → assembled j sch o sd t ≡ command words
read_by words fit none f rows j sch o sd t ej es eo ed on off =
    let known = flag_known words fit none in
    let at_flag : one_of (codes "traffic") (rows_of f) ≡ Some (cond known.0 (codes "true") (codes "false")) = ap (one_of (codes "traffic")) rows ∙ known.1 in
    let same : one_text f (codes "traffic") ≡ one_of (codes "traffic") (rows_of f) = one_text-rows f (codes "traffic") in
    let et : t ≡ option_map_or (λ t. bytes_eq t (codes "true")) (one_of (codes "traffic") (rows_of f)) false =
    flag_at known.0 (one_of (codes "traffic") (rows_of f)) t at_flag (λ e. on (same ∙ e)) (λ e. off (same ∙ e)) in
    (λ i. assembled (ej i) (es i) (eo i) (ed i) (et i)) ∙ ap read_command rows ∙ sym (taken words fit none)
