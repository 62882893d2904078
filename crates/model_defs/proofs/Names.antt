-- Which names the letters of a job have.
use Rattle.std.proofs.Common.{◌≡◌, ℕ, zero, suc, ◌<◌, ◌≤◌, ◌+◌, Bool, true, false, cond, not, ◌&&◌, ◌||◌, eqb, ltb, List, [], ◌∷◌, ◌++◌, map, Some, get_or, refl, ap, ◌∙◌, arith, lt-ltb}
use Rattle.std.specs.Prelude.{filter}
use Rattle.std.specs.List.{list_all, flat_map, position_from}
use Rattle.std.proofs.lemmas.Bool.{eqb-true}
use Rattle.std.proofs.lemmas.List.Folds.{list_any-append, list_all-append}
use Rattle.tables.specs.Indices.{stands, count_from}
use Rattle.tables.proofs.Counting.{stands-within}
use Rattle.mm_text.specs.Reading.{File}
use Rattle.outside.specs.declared.name.Name.{Name}
use Rattle.outside.specs.Letters.{same_name}
use Rattle.model_defs.specs.declared.job.Job.{Job}
use Rattle.model_defs.specs.Phases.{About, RegisterMap, AskOwners, TellOwners, SharePlan, SendNumbers, Phase, phases, sends, is_stage, send_phase}
use Rattle.model_defs.specs.Letters.{others, names_from, names_of_phase, is_posted, letter_entries, phase_names, names_of_phases, letter_names}
use Rattle.peers.specs.Protocols.{stands_in}
use Rattle.model_defs.proofs.Filters.{both, and, later, filter-all, filter-passes, all-both, among-filter, same_name-self}

-- ---- the pairs of ranks

pub all-append : {A : Type 0} (a : A → Bool) (xs ys : List A) → list_all a xs ≡ true → list_all a ys ≡ true → list_all a (xs ++ ys) ≡ true
all-append a xs ys e f = list_all-append a xs ys ∙ and (list_all a xs) (list_all a ys) e f

pub all-flat : {A B : Type 0} (a : B → Bool) (b : A → Bool) (f : A → List B) → ((x : A) → b x ≡ true → list_all a (f x) ≡ true) → (xs : List A) → list_all b xs ≡ true → list_all a (flat_map f xs) ≡ true
all-flat a b f h [] e = refl
all-flat a b f h (x ∷ xs) e = let t = both (b x) (list_all b xs) e in all-append a (f x) (flat_map f xs) (h x t.0) (all-flat a b f h xs t.1)

pub all-map : {A B : Type 0} (a : B → Bool) (b : A → Bool) (f : A → B) → ((x : A) → b x ≡ true → a (f x) ≡ true) → (xs : List A) → list_all b xs ≡ true → list_all a (map f xs) ≡ true
all-map a b f h [] e = refl
all-map a b f h (x ∷ xs) e = let t = both (b x) (list_all b xs) e in and (a (f x)) _ (h x t.0) (all-map a b f h xs t.1)

count-all : (m n k : ℕ) → n + k ≤ m → list_all (λ g. ltb g m) (count_from n k) ≡ true
count-all m n zero l = refl
count-all m n (suc k) l = and (ltb n m) _ (lt-ltb n m (omega arith)) (count-all m (n + 1) k (omega arith))

-- two ranks below P that differ
abbrev pub is_pair : ℕ → Name → Bool
is_pair P m = (ltb m.from P && ltb m.to P) && not (eqb m.from m.to)

pair-names : (P n : ℕ) → list_all (is_pair P) (names_of_phase P n) ≡ true
pair-names P n = all-flat (is_pair P) (λ p. ltb p P) (names_from P n) from (count_from 0 P) (count-all P 0 P (omega arith))
  where
    from : (p : ℕ) → ltb p P ≡ true → list_all (is_pair P) (names_from P n p) ≡ true
    from p l =
        all-map (is_pair P) (λ q. ltb q P && not (eqb p q)) (λ q. record { phase = n; from = p; to = q })
        (λ q e. let t = both (ltb q P) (not (eqb p q)) e in and (ltb p P && ltb q P) _ (and (ltb p P) _ l t.0) t.1)
        (others P p)
        (all-both (λ q. ltb q P) (λ q. not (eqb p q)) (others P p) (filter-all (λ q. ltb q P) (λ q. not (eqb p q)) (count_from 0 P) (count-all P 0 P (omega arith))) (filter-passes (λ q. not (eqb p q)) (count_from 0 P)))

pub stands-filter : (c : ℕ → Bool) (g : ℕ) (xs : List ℕ) → stands g xs ≡ true → c g ≡ true → stands g (filter c xs) ≡ true
stands-filter c g [] e f = cc
stands-filter c g (x ∷ xs) e f = go (eqb x g) refl e (c x) refl (stands-filter c g xs)
  where
    go : (s : Bool) → eqb x g ≡ s → s || stands g xs ≡ true → (b : Bool) → c x ≡ b → (stands g xs ≡ true → c g ≡ true → stands g (filter c xs) ≡ true)
        → stands g (cond b (x ∷ filter c xs) (filter c xs)) ≡ true
    go true s e true k rest = ap (λ z. z || stands g (filter c xs)) s
    go true s e false k rest = let same = ap c (eqb-true x g s) in absurd (let bad : ⊥ = cc in bad)
    go false s e true k rest = later (eqb x g) _ (rest e f)
    go false s e false k rest = rest e f

among-map : (n p q : ℕ) (xs : List ℕ) → stands q xs ≡ true → stands_in (map (λ r. record { phase = n; from = p; to = r }) xs) (record { phase = n; from = p; to = q }) ≡ true
among-map n p q [] e = cc
among-map n p q (x ∷ xs) e = go (eqb x q) refl e (among-map n p q xs)
  where
    here : Name
    here = record { phase = n; from = p; to = q }

    go : (s : Bool) → eqb x q ≡ s → s || stands q xs ≡ true → (stands q xs ≡ true → stands_in (map (λ r. record { phase = n; from = p; to = r }) xs) (record { phase = n; from = p; to = q }) ≡ true)
        → stands_in (record { phase = n; from = p; to = x } ∷ map (λ r. record { phase = n; from = p; to = r }) xs) (record { phase = n; from = p; to = q }) ≡ true
    go true s e rest = ap (λ z. z || stands_in (map (λ r. record { phase = n; from = p; to = r }) xs) (record { phase = n; from = p; to = q }))
        (ap (λ x. same_name (record { phase = n; from = p; to = q }) (record { phase = n; from = p; to = x })) (eqb-true x q s) ∙ same_name-self (record { phase = n; from = p; to = q }))
    go false s e rest = later (same_name (record { phase = n; from = p; to = q }) (record { phase = n; from = p; to = x })) _ (rest e)

among-flat : (f : ℕ → List Name) (y : Name) (p : ℕ) (xs : List ℕ) → stands p xs ≡ true → stands_in (f p) y ≡ true → stands_in (flat_map f xs) y ≡ true
among-flat f y p [] e g = cc
among-flat f y p (x ∷ xs) e g = list_any-append (same_name y) (f x) (flat_map f xs) ∙ go (eqb x p) refl e (among-flat f y p xs)
  where
    go : (s : Bool) → eqb x p ≡ s → s || stands p xs ≡ true → (stands p xs ≡ true → stands_in (f p) y ≡ true → stands_in (flat_map f xs) y ≡ true) → stands_in (f x) y || stands_in (flat_map f xs) y ≡ true
    go true s e rest = ap (λ z. z || stands_in (flat_map f xs) y) (ap (λ x. stands_in (f x) y) (eqb-true x p s) ∙ g)
    go false s e rest = later (stands_in (f x) y) _ (rest e g)

pair-among : (P n p q : ℕ) → p < P → q < P → eqb p q ≡ false → stands_in (names_of_phase P n) (record { phase = n; from = p; to = q }) ≡ true
pair-among P n p q l m e =
    among-flat (names_from P n) (record { phase = n; from = p; to = q }) p (count_from 0 P) (stands-within 0 P p (omega arith) (omega arith))
    (among-map n p q (others P p) (stands-filter (λ q. not (eqb p q)) q (count_from 0 P) (stands-within 0 P q (omega arith) (omega arith)) (ap not e)))

-- ---- the phases

-- the phase of a number that was found
pub phase-found : (c : Phase → Bool) (i n : ℕ) (xs : List Phase) (d : Phase) → position_from c i xs ≡ Some n → (m : ℕ) × (n ≡ i + m) × (c (get_or xs m d) ≡ true)
phase-found c i n [] d e = cc
phase-found c i n (x ∷ xs) d e = go (c x) refl e (phase-found c (i + 1) n xs d)
  where
    go : (b : Bool) → c x ≡ b → cond b (Some i) (position_from c (i + 1) xs) ≡ Some n
        → (position_from c (i + 1) xs ≡ Some n → (m : ℕ) × (n ≡ (i + 1) + m) × (c (get_or xs m d) ≡ true))
        → (m : ℕ) × (n ≡ i + m) × (c (get_or (x ∷ xs) m d) ≡ true)
    go true f e rest = let same : i ≡ n = cc in (0, omega arith, f)
    go false f e rest = let t = rest e in (suc t.0, omega (arith, t.1), t.2)

pub stage-is : (stage : ℕ) (about : About) → is_stage stage about ≡ true → about ≡ SendNumbers stage
stage-is stage (SendNumbers s) e = ap SendNumbers (eqb-true s stage e)
stage-is stage (RegisterMap m) e = cc
stage-is stage (AskOwners plan) e = cc
stage-is stage (TellOwners plan) e = cc
stage-is stage (SharePlan plan) e = cc

-- the phase that sends the numbers of a transfer is for its value and about its stage
pub sends-is : (job : Job) (k t n : ℕ) (d : Phase) → send_phase job k t ≡ Some n → ((get_or (phases job) n d).value ≡ k) × ((get_or (phases job) n d).about ≡ SendNumbers t)
sends-is job k t n d e =
    let found = phase-found (sends k t) 0 n (phases job) d e in
    let same : n ≡ found.0 = omega (arith, found.1) in
    let test : sends k t (get_or (phases job) n d) ≡ true = ap (λ m. sends k t (get_or (phases job) m d)) same ∙ found.2 in
    let parts = both (eqb (get_or (phases job) n d).value k) (is_stage t (get_or (phases job) n d).about) test in
    (eqb-true (get_or (phases job) n d).value k parts.0, stage-is t (get_or (phases job) n d).about parts.1)

module _ (job : Job) (files : List File) where
  pub names-pairs : list_all (is_pair job.ranks) (letter_names job files) ≡ true
  names-pairs = go 0 (phases job)
    where
      go : (n : ℕ) (xs : List Phase) → list_all (is_pair job.ranks) (names_of_phases job files n xs) ≡ true
      go n [] = refl
      go n (x ∷ xs) = all-append (is_pair job.ranks) (phase_names job files n x) _ (filter-all (is_pair job.ranks) _ (names_of_phase job.ranks n) (pair-names job.ranks n)) (go (n + 1) xs)

  -- a letter that is posted in the phase that passes the test is among them
  posted-among : (c : Phase → Bool) (i n p q : ℕ) (xs : List Phase) → position_from c i xs ≡ Some n → p < job.ranks → q < job.ranks → eqb p q ≡ false
      → ((x : Phase) → c x ≡ true → is_posted job files x.about (letter_entries job files x (record { phase = n; from = p; to = q })) ≡ true)
      → stands_in (names_of_phases job files i xs) (record { phase = n; from = p; to = q }) ≡ true
  posted-among c i n p q [] e l m f h = cc
  posted-among c i n p q (x ∷ xs) e l m f h =
      list_any-append (same_name (record { phase = n; from = p; to = q })) (phase_names job files i x) (names_of_phases job files (i + 1) xs)
      ∙ go (c x) refl e (λ g. posted-among c (i + 1) n p q xs g l m f h)
    where
      go : (b : Bool) → c x ≡ b → cond b (Some i) (position_from c (i + 1) xs) ≡ Some n
          → (position_from c (i + 1) xs ≡ Some n → stands_in (names_of_phases job files (i + 1) xs) (record { phase = n; from = p; to = q }) ≡ true)
          → stands_in (phase_names job files i x) (record { phase = n; from = p; to = q }) || stands_in (names_of_phases job files (i + 1) xs) (record { phase = n; from = p; to = q }) ≡ true
      go true g e rest =
          let same : i ≡ n = cc in
          ap (λ z. z || stands_in (names_of_phases job files (i + 1) xs) (record { phase = n; from = p; to = q }))
          (ap (λ j. stands_in (phase_names job files j x) (record { phase = n; from = p; to = q })) same
          ∙ among-filter (λ name. is_posted job files x.about (letter_entries job files x name)) (record { phase = n; from = p; to = q }) (names_of_phase job.ranks n) (pair-among job.ranks n p q l m f) (h x g))
      go false g e rest = later (stands_in (phase_names job files i x) (record { phase = n; from = p; to = q })) _ (rest e)

  pub names-among : (k t n p q : ℕ) → send_phase job k t ≡ Some n → p < job.ranks → q < job.ranks → eqb p q ≡ false
      → ((x : Phase) → sends k t x ≡ true → is_posted job files x.about (letter_entries job files x (record { phase = n; from = p; to = q })) ≡ true)
      → stands_in (letter_names job files) (record { phase = n; from = p; to = q }) ≡ true
  names-among k t n p q e l m f h = posted-among (sends k t) 0 n p q (phases job) e l m f h
