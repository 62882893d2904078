-- The words after `run`: one that names the job, the options `--schedule`, `--order` and `--seed`, each with a value in the
-- next word or behind `=`, and the flag `--traffic`, in any order and each at most once.
use Rattle.std.specs.Prelude.{◌==◌, ◌&&◌, ◌^◌, length, nat_lt, nat_le, not, ℕ, Bool, true, false, List, [], ◌∷◌, ◌++◌, Option, Some, None}
use Rattle.std.specs.Prelude.{codes, if◌then◌else◌, find, option_map, option_and_then}
use Rattle.std.specs.List.{list_any, before_first, after_first}
use Rattle.std.specs.Str.{all_ascii_digits, bytes_eq}
use Rattle.std.specs.Str.Parse.{digits_value}

abbrev pub Text : Type 0
Text = List ℕ

-- what a word can give: JOB, an option's value, or the flag
pub data Name : Type 0 where
  job : Name
  schedule : Name
  order : Name
  seed : Name
  traffic : Name

abbrev pub name_text : Name → Text
name_text job = codes "job"
name_text schedule = codes "schedule"
name_text order = codes "order"
name_text seed = codes "seed"
name_text traffic = codes "traffic"

-- what was given, with its text
abbrev pub Given : Type 0
Given = Name × Text

abbrev pub has : Name → List Given → Bool
has k gs = list_any (λ g. bytes_eq (name_text g.0) (name_text k)) gs

-- the text that a name was given
abbrev pub text_of : Name → List Given → Option Text
text_of k gs = option_map (λ g. g.1) (find (λ g. bytes_eq (name_text g.0) (name_text k)) gs)

-- what a word looks like: `--name` or `--name=value`, a word that begins with no hyphen, or none of
-- these: the empty word, `-`, `--` and what begins with one hyphen
pub data Form : Type 0 where
  long : Text → Option Text → Form
  plain : Form
  unfit : Form

abbrev pub form_of_name : Text → Form
form_of_name [] = unfit
form_of_name (x ∷ xs) = long (before_first (λ y. y == 61) (x ∷ xs))
    (if list_any (λ y. y == 61) (x ∷ xs) then Some (after_first (λ y. y == 61) (x ∷ xs)) else None)

abbrev pub form_after_hyphen : Text → Form
form_after_hyphen [] = unfit
form_after_hyphen (x ∷ xs) = if x == 45 then form_of_name xs else unfit

abbrev pub form_of : Text → Form
form_of [] = unfit
form_of (x ∷ xs) = if x == 45 then form_after_hyphen xs else plain

abbrev pub is_fit_form : Form → Bool
is_fit_form unfit = false
is_fit_form _ = true

abbrev pub is_fit : Text → Bool
is_fit word = is_fit_form (form_of word)

-- the option or the flag of this name
abbrev pub named : Text → Option Name
named name = if bytes_eq (codes "schedule") name then Some schedule
    else (if bytes_eq (codes "order") name then Some order
    else (if bytes_eq (codes "seed") name then Some seed
    else (if bytes_eq (codes "traffic") name then Some traffic else None)))

-- what is given, and one more that is not yet there
abbrev pub once : Name → Text → List Given → (List Given → Option (List Given)) → Option (List Given)
once k text gs next = if has k gs then None else next (gs ++ (k, text) ∷ [])

abbrev pub option_read : Name → Option Text → List Given
    → (List Given → Option Name → Option (List Given)) → Option (List Given)
option_read traffic None gs next = once traffic (codes "true") gs (λ all. next all None)
option_read traffic (Some text) gs next = None
option_read k None gs next = next gs (Some k)
option_read k (Some text) gs next = once k text gs (λ all. next all None)

abbrev pub long_read : Option Name → Option Text → List Given
    → (List Given → Option Name → Option (List Given)) → Option (List Given)
long_read None text gs next = None
long_read (Some k) text gs next = option_read k text gs next

-- one word, where `waiting` is the option whose value comes next
abbrev pub word_read : Form → Option Name → Text → List Given
    → (List Given → Option Name → Option (List Given)) → Option (List Given)
word_read (long name text) None word gs next = long_read (named name) text gs next
word_read plain None word gs next = once job word gs (λ all. next all None)
word_read plain (Some k) word gs next = once k word gs (λ all. next all None)
word_read _ _ word gs next = None

-- what the words give, each name once
abbrev pub reads : List Text → List Given → Option Name → Option (List Given)
reads [] gs None = Some gs
reads [] gs (Some k) = None
reads (word ∷ words) gs waiting = word_read (form_of word) waiting word gs (reads words)

-- a value is not empty, and begins with no hyphen
abbrev pub is_value : Text → Bool
is_value [] = false
is_value (x ∷ xs) = not (x == 45)

-- the order in which letters are delivered
pub data DeliveryOrder : Type 0 where
  fifo : DeliveryOrder
  lifo : DeliveryOrder
  seeded : ℕ → DeliveryOrder
  listed : Text → DeliveryOrder

-- what the words ask for: the job file, the order of deliveries, and whether the traffic is listed
pub record RunCommand : Type 0 where
  pub job : Text
  pub order : DeliveryOrder
  pub traffic : Bool

-- 1 to 20 decimal digits of a number below 2^64
abbrev pub seed_number : Text → Option ℕ
seed_number text = if all_ascii_digits text && (nat_lt 0 (length text) && (nat_le (length text) 20
    && nat_lt (digits_value 10 text) (2 ^ 64))) then Some (digits_value 10 text) else None

-- the order of this name, and the digits of `--seed`, which stands just where the order is `seed`
abbrev pub ordered : Text → Option Text → Option DeliveryOrder
ordered name (Some digits) =
    if bytes_eq name (codes "seed") then option_map seeded (seed_number digits) else None
ordered name None = if bytes_eq name (codes "fifo") then Some fifo
    else (if bytes_eq name (codes "lifo") then Some lifo else None)

-- `--schedule` and `--order` do not both stand; without either letters are delivered in the order of posting
abbrev pub order_of : Option Text → Option Text → Option Text → Option DeliveryOrder
order_of (Some file) None None = Some (listed file)
order_of None None None = Some fifo
order_of None (Some name) digits = ordered name digits
order_of _ _ _ = None

-- a value that is not given is no fault
abbrev pub is_value_if_given : Option Text → Bool
is_value_if_given None = true
is_value_if_given (Some text) = is_value text

abbrev pub with_order : Text → Option DeliveryOrder → Bool → Option RunCommand
with_order j None t = None
with_order j (Some chosen) t = Some (record { job = j; order = chosen; traffic = t })

abbrev pub with_job : Text → Option Text → Option Text → Option Text → Bool → Option RunCommand
with_job j sch o sd t =
    if is_value j && (is_value_if_given sch && (is_value_if_given o && is_value_if_given sd))
    then with_order j (order_of sch o sd) t else None

-- the command of these texts: JOB stands, and each value is one
abbrev pub assembled : Option Text → Option Text → Option Text → Option Text → Bool → Option RunCommand
assembled None sch o sd t = None
assembled (Some j) sch o sd t = with_job j sch o sd t

abbrev pub command_of : List Given → Option RunCommand
command_of gs = assembled (text_of job gs) (text_of schedule gs) (text_of order gs) (text_of seed gs) (has traffic gs)

-- the command that the words are
abbrev pub command : List Text → Option RunCommand
command words = option_and_then command_of (reads words [] None)
