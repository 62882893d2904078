-- Which letters a rank posts and awaits in a phase that sends numbers.
use Rattle.std.proofs.Common.{◌≡◌, ℕ, zero, suc, ◌+◌, ◌<◌, ◌≤◌, Bool, true, false, cond, nat_lt, List, [], ◌∷◌, map, length, Some, refl, sym, ap, ◌∙◌, subst, arith}
use Rattle.std.specs.Prelude.{All, slice_get}
use Rattle.std.specs.List.{filter, range_with_len}
use Rattle.std.proofs.lemmas.Bool.{lt-ltb, ltb-true}
use Rattle.std.proofs.lemmas.Option.{get_or_from_slice_get, slice_get_within}
use Rattle.mm_text.specs.Reading.{File}
use Rattle.outside.specs.declared.name.Name.{Name}
use Rattle.rank_phases.specs.Pairs.{from_others, others, to_others}
use Rattle.rank_phases.specs.Phases.{names_from, names_to}
use Rattle.job_phases.specs.Laws.{is_sent, phase_at}
use Rattle.job_phases.proofs.JobNames.{others-awaited, others-posted}
use Rattle.model_defs.specs.declared.job.Job.{Job}
use Rattle.model_defs.specs.declared.phase.About.{About}
use Rattle.model_defs.specs.declared.phase.About.TheVariants.{SendNumbers}
use Rattle.model_defs.specs.Letters.{is_posted, letter_entries, letter_names}
use Rattle.model_defs.specs.Machine.{no_phase}
use Rattle.model_defs.specs.Phases.{phases}
use Rattle.model_defs.specs.Plans.{sent_rows}
use Rattle.model_defs.specs.Stages.{transfer_at}
use Rattle.rank_core.specs.Makings.{IsSending}

-- ---- lists

abbrev pub EachOf : {A : Type 0} → (A → Type 0) → List A → Type 0
EachOf P [] = Unit {0}
EachOf P (x ∷ xs) = P x × EachOf P xs

pub all-of : {A : Type 0} (P : A → Type 0) (xs : List A) → EachOf P xs → All P xs
all-of P [] h k d l = absurd (omega arith)
all-of P (x ∷ xs) h zero d l = h.0
all-of P (x ∷ xs) h (suc k) d l = all-of P xs h.1 k d (omega arith)

pub filter-alike : {A : Type 0} (P : A → Type 0) (f g : A → Bool) (xs : List A) → EachOf P xs → ((x : A) → P x → f x ≡ g x) → filter f xs ≡ filter g xs
filter-alike P f g [] h same = refl
filter-alike P f g (x ∷ xs) h same =
    ap (λ b. cond b (x ∷ filter f xs) (filter f xs)) (same x h.0) ∙ ap (λ ys. cond (g x) (x ∷ ys) ys) (filter-alike P f g xs h.1 same)

each-map : {A B : Type 0} (P : B → Type 0) (f : A → B) (xs : List A) → EachOf (λ x. P (f x)) xs → EachOf P (map f xs)
each-map P f [] h = tt
each-map P f (x ∷ xs) h = (h.0, each-map P f xs h.1)

each-filter : {A : Type 0} (P : A → Type 0) (t : A → Bool) (xs : List A) → EachOf P xs → EachOf P (filter t xs)
each-filter P t [] h = tt
each-filter P t (x ∷ xs) h = go (t x) (each-filter P t xs h.1)
  where
    go : (b : Bool) → EachOf P (filter t xs) → EachOf P (cond b (x ∷ filter t xs) (filter t xs))
    go true rest = (h.0, rest)
    go false rest = rest

each-range : (a n m : ℕ) → a + n ≤ m → EachOf (λ q. q < m) (range_with_len a n)
each-range a zero m l = tt
each-range a (suc n) m l = (omega arith, each-range (a + 1) n m (omega arith))

-- ---- names

-- letters of a phase between a rank and others
pub record IsFrom (ranks n p : ℕ) (m : Name) : Type 0 where
  pub phase : m.phase ≡ n
  pub sender : m.from ≡ p
  pub known : m.to < ranks

pub record IsTo (ranks n p : ℕ) (m : Name) : Type 0 where
  pub phase : m.phase ≡ n
  pub receiver : m.to ≡ p
  pub known : m.from < ranks

pub from-each : (ranks n p : ℕ) → EachOf (IsFrom ranks n p) (to_others ranks n p)
from-each ranks n p =
    each-map (IsFrom ranks n p) (λ q. record { phase = n; from = p; to = q }) (others ranks p)
    (each-filter (λ q. IsFrom ranks n p (record { phase = n; from = p; to = q })) _ (range_with_len 0 ranks)
    (each-of (range_with_len 0 ranks) (each-range 0 ranks ranks (omega arith))))
  where
    each-of : (xs : List ℕ) → EachOf (λ q. q < ranks) xs → EachOf (λ q. IsFrom ranks n p (record { phase = n; from = p; to = q })) xs
    each-of [] h = tt
    each-of (x ∷ xs) h = (record { phase = refl; sender = refl; known = h.0 }, each-of xs h.1)

pub to-each : (ranks n p : ℕ) → EachOf (IsTo ranks n p) (from_others ranks n p)
to-each ranks n p =
    each-map (IsTo ranks n p) (λ q. record { phase = n; from = q; to = p }) (others ranks p)
    (each-filter (λ q. IsTo ranks n p (record { phase = n; from = q; to = p })) _ (range_with_len 0 ranks)
    (each-of (range_with_len 0 ranks) (each-range 0 ranks ranks (omega arith))))
  where
    each-of : (xs : List ℕ) → EachOf (λ q. q < ranks) xs → EachOf (λ q. IsTo ranks n p (record { phase = n; from = q; to = p })) xs
    each-of [] h = tt
    each-of (x ∷ xs) h = (record { phase = refl; receiver = refl; known = h.0 }, each-of xs h.1)

-- ---- the phase in which its numbers are sent

posted-where : (job : Job) (files : List File) (t : ℕ) (xs : List ℕ) → is_posted job files (SendNumbers t) xs ≡ nat_lt 0 (length xs)
posted-where job files t [] = refl
posted-where job files t (x ∷ xs) = sym (lt-ltb 0 (suc (length xs)) (omega arith))

module _ (job : Job) (files : List File) (me n k stage : ℕ) (sends : IsSending job n k stage) (within : me < job.ranks) where
  phase-is : phase_at job n ≡ sends.phase
  phase-is = get_or_from_slice_get (phases job) n sends.phase no_phase sends.at

  short : n < length (phases job)
  short = slice_get_within (phases job) n sends.phase sends.at

  pub sent-is : (m : Name) → is_sent job files (phase_at job n) m ≡ nat_lt 0 (length (sent_rows job files (transfer_at job k stage) m.from m.to))
  sent-is m =
      (λ t. is_sent job files (phase-is t) m)
      ∙ (λ t. is_posted job files (sends.about t) (entries_of (sends.about t)))
      ∙ posted-where job files stage (sent_rows job files (transfer_at job sends.phase.value stage) m.from m.to)
      ∙ ap (λ v. nat_lt 0 (length (sent_rows job files (transfer_at job v stage) m.from m.to))) sends.value
    where
      entries_of : About → List ℕ
      entries_of a = letter_entries job files (record sends.phase { about = a }) m

  -- with a letter that is posted some row goes
  pub row-goes : (m : Name) → m.from ≡ me → is_sent job files (phase_at job n) m ≡ true → 1 ≤ length (sent_rows job files (transfer_at job k stage) me m.to)
  row-goes m from sent =
      let many : nat_lt 0 (length (sent_rows job files (transfer_at job k stage) me m.to)) ≡ true =
      ap (λ p. nat_lt 0 (length (sent_rows job files (transfer_at job k stage) p m.to))) (sym from) ∙ sym (sent-is m) ∙ sent in
      let low = ltb-true 0 (length (sent_rows job files (transfer_at job k stage) me m.to)) many in
      omega arith

  pub row-posts : names_from (letter_names job files) n me ≡ filter (λ m. nat_lt 0 (length (sent_rows job files (transfer_at job k stage) me m.to))) (to_others job.ranks n me)
  row-posts =
      others-posted job files n me short within
      ∙ filter-alike (IsFrom job.ranks n me) (is_sent job files (phase_at job n)) (λ m. nat_lt 0 (length (sent_rows job files (transfer_at job k stage) me m.to))) (to_others job.ranks n me) (from-each job.ranks n me)
      (λ m is. sent-is m ∙ ap (λ p. nat_lt 0 (length (sent_rows job files (transfer_at job k stage) p m.to))) is.sender)

  pub row-awaits : names_to (letter_names job files) n me ≡ filter (λ m. nat_lt 0 (length (sent_rows job files (transfer_at job k stage) m.from me))) (from_others job.ranks n me)
  row-awaits =
      others-awaited job files n me short within
      ∙ filter-alike (IsTo job.ranks n me) (is_sent job files (phase_at job n)) (λ m. nat_lt 0 (length (sent_rows job files (transfer_at job k stage) m.from me))) (from_others job.ranks n me) (to-each job.ranks n me)
      (λ m is. sent-is m ∙ ap (λ p. nat_lt 0 (length (sent_rows job files (transfer_at job k stage) m.from p))) is.receiver)

-- ---- what is asked of such names

each-of-same : {A : Type 0} {P Q : A → Type 0} (xs : List A) → ((x : A) → P x → Q x) → EachOf P xs → EachOf Q xs
each-of-same [] f h = tt
each-of-same (x ∷ xs) f h = (f x h.0, each-of-same xs f h.1)

pub from-known : (ranks n p many : ℕ) (names : List Name) → many ≡ ranks → names ≡ to_others ranks n p → All (λ m. m.to < many) names
from-known ranks n p many names same is =
    subst (All (λ m. m.to < many)) (sym is)
    (all-of (λ m. m.to < many) (to_others ranks n p)
    (each-of-same {P = IsFrom ranks n p} {Q = λ m. m.to < many} (to_others ranks n p) (λ m from. subst (λ r. m.to < r) (sym same) from.known) (from-each ranks n p)))

pub to-known : (ranks n p many : ℕ) (names : List Name) → many ≡ ranks → names ≡ from_others ranks n p → All (λ m. m.from < many) names
to-known ranks n p many names same is =
    subst (All (λ m. m.from < many)) (sym is)
    (all-of (λ m. m.from < many) (from_others ranks n p)
    (each-of-same {P = IsTo ranks n p} {Q = λ m. m.from < many} (from_others ranks n p) (λ m to. subst (λ r. m.from < r) (sym same) to.known) (to-each ranks n p)))
