-- The lines of a job's letters, asked for one after the other, are their listing.
use Rattle.std.proofs.Common.{◌≡◌, ℕ, zero, suc, ◌+◌, ◌<◌, ◌≤◌, Bool, true, false, not, cond, ◌&&◌, ◌||◌, eqb, List, [], ◌∷◌, ◌++◌, map, filter, length, get_or, refl, sym, ap, ◌∙◌, arith}
use Rattle.std.specs.List.{flat_map, range_with_len}
use Rattle.std.proofs.lemmas.Bool.{eq-eqb, eqb-true}
use Rattle.std.proofs.lemmas.List.{append-nil, append_assoc}
use Rattle.tables.specs.Indices.{count_from, stands}
use Rattle.map_core.proofs.Members.{stands-filter}
use Rattle.map_core.proofs.Runs.{stands_in_run}
use Rattle.mm_text.specs.Reading.{File}
use Rattle.outside.specs.declared.name.Name.{Name}
use Rattle.outside.specs.Letters.{same_name}
use Rattle.peers.specs.Protocols.{stands_in}
use Rattle.rank_phases.specs.Pairs.{others as other_ranks, to_others}
use Rattle.model_defs.specs.declared.job.Job.{Job}
use Rattle.model_defs.specs.declared.phase.Phase.{Phase}
use Rattle.model_defs.specs.declared.sheets.LetterLine.{LetterLine}
use Rattle.model_defs.specs.declared.sheets.PhaseLine.{PhaseLine}
use Rattle.model_defs.specs.Letters.{letter_names, names_from}
use Rattle.model_defs.specs.Machine.{no_phase}
use Rattle.model_defs.specs.Phases.{phases}
use Rattle.model_defs.specs.Traffic.{letter_line, letter_lines, letter_lines_at, letter_lines_from, phase_lines_from, phase_lines_of}
use Rattle.model_defs.proofs.Filters.{among-all, among-filter, among-kept, and, both, later, same_name-self}
use Rattle.model_defs.proofs.Names.{is_pair, names-pairs}
use Rattle.job_phases.specs.Laws.{is_sent, phase_at}
use Rattle.job_phases.proofs.JobNames.{others-posted}
use Rattle.rank_sim.specs.LetterLines.{line_of, lines_from, lines_of_phase}

-- ---- lists

filter-append : {B : Type 0} (c : B → Bool) (xs ys : List B) → filter c (xs ++ ys) ≡ filter c xs ++ filter c ys
filter-append c [] ys = refl
filter-append c (x ∷ xs) ys = by (c x) (filter-append c xs ys)
  where
    by : (b : Bool) → filter c (xs ++ ys) ≡ filter c xs ++ filter c ys → cond b (x ∷ filter c (xs ++ ys)) (filter c (xs ++ ys)) ≡ cond b (x ∷ filter c xs) (filter c xs) ++ filter c ys
    by true e = ap (λ zs. x ∷ zs) e
    by false e = e

module _ {A : Type 0} where
  -- one number more
  flat-next : (f : ℕ → List A) (n k : ℕ) → flat_map f (count_from n (suc k)) ≡ flat_map f (count_from n k) ++ f (n + k)
  flat-next f n zero = append-nil (f n) ∙ ap f (omega arith)
  flat-next f n (suc k) =
      ap (λ zs. f n ++ zs) (flat-next f (n + 1) k)
      ∙ sym (append_assoc (f n) (flat_map f (count_from (n + 1) k)) (f (n + 1 + k)))
      ∙ ap (λ m. (f n ++ flat_map f (count_from (n + 1) k)) ++ f m) (omega arith)

  pub put-next : (f : ℕ → List A) (k : ℕ) (old was now : List A) → was ≡ old ++ flat_map f (count_from 0 k) → now ≡ was ++ f k
      → now ≡ old ++ flat_map f (count_from 0 (k + 1))
  put-next f k old was now e h =
      let here : k ≡ 0 + k = omega arith in
      let more : suc k ≡ k + 1 = omega arith in
      h ∙ ap (λ xs. xs ++ f k) e ∙ append_assoc old (flat_map f (count_from 0 k)) (f k)
      ∙ ap (λ m. old ++ (flat_map f (count_from 0 k) ++ f m)) here
      ∙ ap (λ xs. old ++ xs) (sym (flat-next f 0 k))
      ∙ ap (λ m. old ++ flat_map f (count_from 0 m)) more

  flat-alike : (f g : ℕ → List A) (n k m : ℕ) → n + k ≤ m → ((p : ℕ) → p < m → f p ≡ g p) → flat_map f (count_from n k) ≡ flat_map g (count_from n k)
  flat-alike f g n zero m l h = refl
  flat-alike f g n (suc k) m l h = λ t. h n (omega arith) t ++ flat-alike f g (n + 1) k m (omega arith) h t

  map-front : {B : Type 0} (f : B → A) (xs ys : List B) → map f (xs ++ ys) ≡ map f xs ++ map f ys
  map-front f [] ys = refl
  map-front f (x ∷ xs) ys = ap (λ zs. f x ∷ zs) (map-front f xs ys)

  kept-flat : {B C : Type 0} (g : B → A) (c : B → Bool) (f : C → List B) (xs : List C) → map g (filter c (flat_map f xs)) ≡ flat_map (λ x. map g (filter c (f x))) xs
  kept-flat g c f [] = refl
  kept-flat g c f (x ∷ xs) =
      ap (map g) (filter-append c (f x) (flat_map f xs))
      ∙ map-front g (filter c (f x)) (filter c (flat_map f xs))
      ∙ ap (λ zs. map g (filter c (f x)) ++ zs) (kept-flat g c f xs)

-- ---- which phases are listed

module _ (job : Job) where
  lines-many : (n : ℕ) (xs : List Phase) → length (phase_lines_from job n xs) ≡ length xs
  lines-many n [] = refl
  lines-many n (x ∷ xs) = ap suc (lines-many (n + 1) xs)

  number-at : (n k : ℕ) (xs : List Phase) (d : PhaseLine) → k < length xs → (get_or (phase_lines_from job n xs) k d).phase ≡ n + k
  number-at n k [] d l = absurd (omega arith)
  number-at n zero (x ∷ xs) d l = omega arith
  number-at n (suc k) (x ∷ xs) d l = number-at (n + 1) k xs d (omega arith) ∙ omega arith

  pub known-line : (k : ℕ) (d : PhaseLine) → k < length (phase_lines_of job) → (get_or (phase_lines_of job) k d).phase < length (phases job)
  known-line k d l = let many = lines-many 0 (phases job) in let is = number-at 0 k (phases job) d (omega arith) in omega arith

-- ---- which letters there are

both-ways : (a b : Bool) → (a ≡ true → b ≡ true) → (b ≡ true → a ≡ true) → a ≡ b
both-ways true true f g = refl
both-ways true false f g = sym (f refl)
both-ways false true f g = g refl
both-ways false false f g = refl

among-others : (n p q : ℕ) (rs : List ℕ) → stands q rs ≡ true → stands_in (map (λ r. record { phase = n; from = p; to = r }) rs) (record { phase = n; from = p; to = q }) ≡ true
among-others n p q [] e = absurd (cc)
among-others n p q (r ∷ rs) e = go (eqb r q) refl e (among-others n p q rs)
  where
    here : Name
    here = record { phase = n; from = p; to = q }

    go : (b : Bool) → eqb r q ≡ b → b || stands q rs ≡ true → (stands q rs ≡ true → stands_in (map (λ s. record { phase = n; from = p; to = s }) rs) here ≡ true)
        → same_name here (record { phase = n; from = p; to = r }) || stands_in (map (λ s. record { phase = n; from = p; to = s }) rs) here ≡ true
    go true s e rest =
        ap (λ b. b || stands_in (map (λ s. record { phase = n; from = p; to = s }) rs) here)
        (ap (λ u. same_name here (record { phase = n; from = p; to = u })) (eqb-true r q s) ∙ same_name-self here)
    go false s e rest = later (same_name here (record { phase = n; from = p; to = r })) _ (rest e)

module _ (job : Job) (files : List File) where
  abbrev name : ℕ → ℕ → ℕ → Name
  name n p q = record { phase = n; from = p; to = q }

  -- a letter between two ranks is one of the job's where its phase sends it
  is-named : (n p q : ℕ) → n < length (phases job) → p < job.ranks → q < job.ranks
      → stands_in (letter_names job files) (name n p q) ≡ (not (eqb p q) && is_sent job files (phase_at job n) (name n p q))
  is-named n p q known low few = both-ways _ _ forth back
    where
      at_phase : Name → Bool
      at_phase m = eqb m.phase n && eqb m.from p

      same : stands_in (filter at_phase (letter_names job files)) (name n p q) ≡ stands_in (filter (is_sent job files (phase_at job n)) (to_others job.ranks n p)) (name n p q)
      same = ap (λ ns. stands_in ns (name n p q)) (others-posted job files n p known low)

      forth : stands_in (letter_names job files) (name n p q) ≡ true → (not (eqb p q) && is_sent job files (phase_at job n) (name n p q)) ≡ true
      forth e =
          let pair = among-all (is_pair job.ranks) (name n p q) (letter_names job files) (names-pairs job files) e in
          let kept = among-filter at_phase (name n p q) (letter_names job files) e (and (eqb n n) (eqb p p) (eq-eqb n n refl) (eq-eqb p p refl)) in
          and (not (eqb p q)) (is_sent job files (phase_at job n) (name n p q)) (both _ (not (eqb p q)) pair).1
          (among-kept (is_sent job files (phase_at job n)) (name n p q) (to_others job.ranks n p) (sym same ∙ kept)).1

      back : (not (eqb p q) && is_sent job files (phase_at job n) (name n p q)) ≡ true → stands_in (letter_names job files) (name n p q) ≡ true
      back e =
          let parts = both (not (eqb p q)) (is_sent job files (phase_at job n) (name n p q)) e in
          let other : stands q (other_ranks job.ranks p) ≡ true =
          stands-filter q (λ r. not (eqb p r)) (range_with_len 0 job.ranks) ∙ and (stands q (range_with_len 0 job.ranks)) (not (eqb p q)) (stands_in_run q 0 job.ranks (omega arith) (omega arith)) parts.0 in
          let sent = among-filter (is_sent job files (phase_at job n)) (name n p q) (to_others job.ranks n p) (among-others n p q (other_ranks job.ranks p) other) parts.1 in
          (among-kept at_phase (name n p q) (letter_names job files) (same ∙ sent)).0

  module _ (n : ℕ) (known : n < length (phases job)) where
    abbrev line : Name → LetterLine
    line = letter_line job files (phase_at job n)

    abbrev sent : Name → Bool
    sent = is_sent job files (phase_at job n)

    -- the lines of one sender
    lines-kept : (p : ℕ) → p < job.ranks → (m k : ℕ) → m + k ≤ job.ranks
        → flat_map (λ q. line_of job files (name n p q)) (count_from m k) ≡ map line (filter sent (map (name n p) (filter (λ q. not (eqb p q)) (count_from m k))))
    lines-kept p low m zero l = refl
    lines-kept p low m (suc k) l =
        ap (λ b. cond b (line (name n p m) ∷ []) [] ++ flat_map (λ q. line_of job files (name n p q)) (count_from (m + 1) k)) (is-named n p m known low (omega arith))
        ∙ ap (λ zs. cond (not (eqb p m) && sent (name n p m)) (line (name n p m) ∷ []) [] ++ zs) (lines-kept p low (m + 1) k (omega arith))
        ∙ by (not (eqb p m)) (sent (name n p m)) refl
      where
        rest : List ℕ
        rest = filter (λ q. not (eqb p q)) (count_from (m + 1) k)

        by : (a b : Bool) → sent (name n p m) ≡ b → cond (a && b) (line (name n p m) ∷ []) [] ++ map line (filter sent (map (name n p) rest)) ≡ map line (filter sent (map (name n p) (cond a (m ∷ rest) rest)))
        by false b e = refl
        by true b e = sym (ap (λ c. map line (cond c (name n p m ∷ filter sent (map (name n p) rest)) (filter sent (map (name n p) rest)))) e ∙ out b)
          where
            out : (b : Bool) → map line (cond b (name n p m ∷ filter sent (map (name n p) rest)) (filter sent (map (name n p) rest))) ≡ cond b (line (name n p m) ∷ []) [] ++ map line (filter sent (map (name n p) rest))
            out true = refl
            out false = refl

    pub lines-at : lines_of_phase job files n job.ranks ≡ letter_lines_at job files n (phase_at job n)
    lines-at =
        flat-alike (λ p. lines_from job files n p job.ranks) (λ p. map line (filter sent (names_from job.ranks n p))) 0 job.ranks job.ranks (omega arith)
        (λ p low. lines-kept p low 0 job.ranks (omega arith))
        ∙ sym (kept-flat line sent (names_from job.ranks n) (count_from 0 job.ranks))

  lines-on : (n : ℕ) (xs : List Phase) → n + length xs ≡ length (phases job) → ((m : ℕ) → get_or xs m no_phase ≡ phase_at job (n + m))
      → flat_map (λ (l : PhaseLine). lines_of_phase job files l.phase job.ranks) (phase_lines_from job n xs) ≡ letter_lines_from job files n xs
  lines-on n [] long at = refl
  lines-on n (x ∷ xs) long at =
      ap (λ zs. zs ++ flat_map (λ (l : PhaseLine). lines_of_phase job files l.phase job.ranks) (phase_lines_from job (n + 1) xs))
      (lines-at n (omega arith) ∙ ap (letter_lines_at job files n) (ap (phase_at job) (omega arith) ∙ sym (at 0)))
      ∙ ap (λ zs. letter_lines_at job files n x ++ zs) (lines-on (n + 1) xs (omega arith) (λ m. at (suc m) ∙ ap (phase_at job) (omega arith)))

  -- the lines of all phases
  pub lines-listed : flat_map (λ (l : PhaseLine). lines_of_phase job files l.phase job.ranks) (phase_lines_of job) ≡ letter_lines job files
  lines-listed = lines-on 0 (phases job) (omega arith) (λ m. ap (phase_at job) (omega arith))
