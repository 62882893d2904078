-- Runs over an honest wire: each letter is what its sender makes of all letters of earlier phases.
use Rattle.std.proofs.Common.{◌≡◌, ℕ, ◌<◌, ◌⊎◌, inl, inr, Bool, true, false, cond, not, ◌&&◌, eqb, ltb, List, [], ◌∷◌, ◌++◌, map, drop, Some, refl, sym, ap, subst, ◌∙◌, arith, lt-ltb, ltb-true, append_assoc, append-nil}
use Rattle.std.specs.List.{list_all}
use Rattle.std.proofs.lemmas.Bool.{eqb-true}
use Rattle.std.proofs.lemmas.List.{map-append}
use Rattle.std.proofs.lemmas.List.Elements.{filter-append}
use Rattle.std.proofs.lemmas.List.Folds.{list_all-append}
use Rattle.scalar_laws.specs.Semiring.{Semiring}
use Rattle.scalar_laws.specs.Conversions.{Conversions, AreConversions}
use Rattle.tables.specs.Tables.{Table, found, only_rows}
use Rattle.tables.specs.Indices.{stands}
use Rattle.mm_text.specs.Reading.{File}
use Rattle.outside.specs.declared.name.Name.{Name}
use Rattle.model_defs.specs.declared.job.Job.{Job}
use Rattle.model_defs.specs.Phases.{SendNumbers, send_phase}
use Rattle.model_defs.specs.Plans.{brought, sent_rows, rank_list_by, owns}
use Rattle.model_defs.specs.Stages.{transfer_at, rank_entries}
use Rattle.model_defs.specs.Letters.{letter_names, letter_words, letter_places, places_about, sent_places, entry_places, width}
use Rattle.peers.specs.Protocols.{Protocol, Letter, stands_in, firsts, only, flies, firsts_beyond}
use Rattle.std.proofs.lemmas.Bool.{or_cases}
use Rattle.peers.specs.Runs.{EachComes, EachAfter, IsExactRun, may_come}
use Rattle.model_defs.proofs.Firsts.{is_unseen, firsts_beyond-all, firsts_beyond-unseen, firsts_beyond-append}
use Rattle.outside.specs.MailRoom.{names_of}
use Rattle.model_defs.specs.Machine.{job_protocol, letters_of, names_before, letter_table, phase_of, no_phase, numbers_about, cells_at, index_length, arrivals}
use Rattle.model_defs.specs.Laws.{IsSendable}
use Rattle.model_defs.proofs.Filters.{both, and, not-true, filter-implied, filter-none, all-both, among-filter, among-all}
use Rattle.model_defs.proofs.Names.{is_pair, names-pairs, sends-is}
use Rattle.model_defs.proofs.Decoding.{cell_of, cells-decoded, found-sent, numbers-behind}
use Rattle.model_defs.proofs.Early.{earlier_letters}

-- whether a letter's name is not among those of the letters before
abbrev pub is_new : List Letter → Letter → Bool
is_new h y = is_unseen (names_of h) y

-- the first ones of t that come after h
abbrev pub rest_of : List Letter → List Letter → List Letter
rest_of h t = firsts_beyond (names_of h) t

names-push : (h : List Letter) (l : Letter) → names_of (h ++ l ∷ []) ≡ names_of h ++ l.0 ∷ []
names-push h l = map-append (λ (y : Letter). y.0) h (l ∷ [])

-- the letters that are left, one after the other
pub rest-step : (h t : List Letter) (l : Letter) → rest_of h (l ∷ t) ≡ cond (is_new h l) (l ∷ rest_of (h ++ l ∷ []) t) (rest_of (h ++ l ∷ []) t)
rest-step h t l = ap (λ ns. cond (stands_in (names_of h) l.0) [] (l ∷ []) ++ firsts_beyond ns t) (sym (names-push h l)) ∙ go (stands_in (names_of h) l.0)
  where
    go : (b : Bool) → cond b [] (l ∷ []) ++ rest_of (h ++ l ∷ []) t ≡ cond (not b) (l ∷ rest_of (h ++ l ∷ []) t) (rest_of (h ++ l ∷ []) t)
    go true = refl
    go false = refl

-- the first ones of two lists
pub firsts-append : (h t : List Letter) → firsts (h ++ t) ≡ firsts h ++ rest_of h t
firsts-append h t = firsts_beyond-append [] h t

all-names : (a : Name → Bool) (h : List Letter) → list_all (λ l. a l.0) h ≡ true → list_all a (names_of h) ≡ true
all-names a [] e = refl
all-names a (x ∷ xs) e = let t = both (a x.0) (list_all (λ l. a l.0) xs) e in and (a x.0) _ t.0 (all-names a xs t.1)

all-split : {A : Type 0} (a : A → Bool) (xs ys : List A) → list_all a (xs ++ ys) ≡ true → (list_all a xs ≡ true) × (list_all a ys ≡ true)
all-split a xs ys e = both (list_all a xs) (list_all a ys) (sym (list_all-append a xs ys) ∙ e)

-- in a list of deliveries each comes after those before it
comes-at : (P : Protocol) (before h t : List Name) (n : Name) → EachComes P before (h ++ n ∷ t) → may_come P (before ++ h) n ≡ true
comes-at P before [] t n c = ap (λ d. may_come P d n) (append-nil before) ∙ c.0
comes-at P before (x ∷ h) t n c = ap (λ d. may_come P d n) (sym (append_assoc before (x ∷ []) h)) ∙ comes-at P (before ++ x ∷ []) h t n c.1

-- each letter is what its sender made of the letters before it
made-at : (P : Protocol) (earlier h t : List Letter) (l : Letter) → EachAfter (λ posted given. given ≡ posted) P earlier (h ++ l ∷ t) → l.1 ≡ P.content l.0 (firsts (earlier ++ h))
made-at P earlier [] t l r = r.0 ∙ ap (λ g. P.content l.0 (firsts g)) (sym (append-nil earlier))
made-at P earlier (x ∷ h) t l r = made-at P (earlier ++ x ∷ []) h t l r.1 ∙ ap (λ g. P.content l.0 (firsts g)) (append_assoc earlier (x ∷ []) h)

names-split : (h t : List Letter) (l : Letter) → names_of (h ++ l ∷ t) ≡ names_of h ++ l.0 ∷ names_of t
names-split h t l = map-append (λ (y : Letter). y.0) h (l ∷ t)

-- ---- in any protocol

module _ (P : Protocol) (g : List Letter) (comes : EachComes P [] (names_of g)) where
  -- a letter comes again, or was in flight
  came-so : (h t : List Letter) (l : Letter) → g ≡ h ++ l ∷ t → (stands_in (names_of h) l.0 ≡ true) ⊎ (flies P (names_of h) l.0 ≡ true)
  came-so h t l e = or_cases (stands_in (names_of h) l.0) (flies P (names_of h) l.0)
      (comes-at P [] (names_of h) (names_of t) l.0 (subst (EachComes P []) (ap names_of e ∙ names-split h t l) comes))

  -- each letter is one of the protocol's
  pub all-known : list_all (λ l. stands_in P.names l.0) g ≡ true
  all-known = go [] g refl refl
    where
      go : (h t : List Letter) → g ≡ h ++ t → list_all (λ l. stands_in P.names l.0) h ≡ true → list_all (λ l. stands_in P.names l.0) t ≡ true
      go h [] e f = refl
      go h (l ∷ t) e f = and (stands_in P.names l.0) _ here (go (h ++ l ∷ []) t (e ∙ sym (append_assoc h (l ∷ []) t)) (list_all-append _ h (l ∷ []) ∙ and (list_all _ h) _ f (and (stands_in P.names l.0) true here refl)))
        where
          by : (stands_in (names_of h) l.0 ≡ true) ⊎ (flies P (names_of h) l.0 ≡ true) → stands_in P.names l.0 ≡ true
          by (inl a) = among-all (stands_in P.names) l.0 (names_of h) (all-names (stands_in P.names) h f) a
          by (inr a) = (both (stands_in P.names l.0) _ a).0

          here : stands_in P.names l.0 ≡ true
          here = by (came-so h t l e)

  -- a letter that comes first was in flight: all that must come before it came
  pub was-ready : (h t : List Letter) (l : Letter) → g ≡ h ++ l ∷ t → is_new h l ≡ true → (stands_in P.names l.0 ≡ true) × (list_all (stands_in (names_of h)) (P.before l.0) ≡ true)
  was-ready h t l e new = by (came-so h t l e)
    where
      by : (stands_in (names_of h) l.0 ≡ true) ⊎ (flies P (names_of h) l.0 ≡ true) → (stands_in P.names l.0 ≡ true) × (list_all (stands_in (names_of h)) (P.before l.0) ≡ true)
      by (inl a) = let b = not-true (stands_in (names_of h) l.0) new in absurd (let bad : ⊥ = cc in bad)
      by (inr a) = let k = both (stands_in P.names l.0) _ a in (k.0, (both (not (stands_in (names_of h) l.0)) (list_all (stands_in (names_of h)) (P.before l.0)) k.1).1)

-- ---- in a job

module _ {S : Type 0} (R : Semiring S) {F : Conversions S} (L : AreConversions F) (job : Job) (files : List File) (g : List Letter) (comes : EachComes (job_protocol R F job files) [] (names_of g)) (exact : IsExactRun (job_protocol R F job files) g) where
  known : list_all (λ l. stands_in (letter_names job files) l.0) g ≡ true
  known = all-known (job_protocol R F job files) g comes

  -- what its sender was given when a letter was made
  abbrev given : List Letter → Letter → List Letter
  given h l = only (names_before l.0 (letter_names job files)) (firsts h)

  -- these are all letters of earlier phases to its sender
  pub given-all : (h t : List Letter) (l : Letter) → g ≡ h ++ l ∷ t → is_new h l ≡ true → (m : ℕ) → m < l.0.phase
      → letters_of m l.0.from (given h l) ≡ letters_of m l.0.from (firsts g)
  given-all h t l e new m less =
      filter-implied (λ y. stands_in (letter_names job files) y.0) (λ y. (eqb y.0.phase m) && (eqb y.0.to l.0.from)) (λ y. stands_in (names_before l.0 (letter_names job files)) y.0) before (firsts h) (firsts_beyond-all (λ y. stands_in (letter_names job files) y.0) [] h parts.0)
      ∙ sym (append-nil (letters_of m l.0.from (firsts h)))
      ∙ ap (λ z. letters_of m l.0.from (firsts h) ++ z) (sym (filter-none (λ y. stands_in (letter_names job files) y.0 && is_new h y) (λ y. (eqb y.0.phase m) && (eqb y.0.to l.0.from)) gone (rest_of h (l ∷ t)) left))
      ∙ sym (filter-append (λ y. (eqb y.0.phase m) && (eqb y.0.to l.0.from)) (firsts h) (rest_of h (l ∷ t)))
      ∙ ap (letters_of m l.0.from) (sym (firsts-append h (l ∷ t)) ∙ ap firsts (sym e))
    where
      ready : (stands_in (letter_names job files) l.0 ≡ true) × (list_all (stands_in (names_of h)) (names_before l.0 (letter_names job files)) ≡ true)
      ready = was-ready (job_protocol R F job files) g comes h t l e new

      parts : (list_all (λ y. stands_in (letter_names job files) y.0) h ≡ true) × (list_all (λ y. stands_in (letter_names job files) y.0) (l ∷ t) ≡ true)
      parts = all-split (λ y. stands_in (letter_names job files) y.0) h (l ∷ t) (ap (list_all (λ y. stands_in (letter_names job files) y.0)) (sym e) ∙ known)

      before : (y : Letter) → stands_in (letter_names job files) y.0 ≡ true → (eqb y.0.phase m) && (eqb y.0.to l.0.from) ≡ true → stands_in (names_before l.0 (letter_names job files)) y.0 ≡ true
      before y a b =
          let c = both (eqb y.0.phase m) (eqb y.0.to l.0.from) b in
          let same = eqb-true y.0.phase m c.0 in
          among-filter (λ n. (eqb n.to l.0.from) && ltb n.phase l.0.phase) y.0 (letter_names job files) a (and (eqb y.0.to l.0.from) _ c.1 (lt-ltb y.0.phase l.0.phase (omega arith)))

      gone : (y : Letter) → stands_in (letter_names job files) y.0 && is_new h y ≡ true → (eqb y.0.phase m) && (eqb y.0.to l.0.from) ≡ false
      gone y a = by ((eqb y.0.phase m) && (eqb y.0.to l.0.from)) refl
        where
          by : (b : Bool) → (eqb y.0.phase m) && (eqb y.0.to l.0.from) ≡ b → b ≡ false
          by false b = refl
          by true b =
              let c = both (stands_in (letter_names job files) y.0) (is_new h y) a in
              let came = among-all (stands_in (names_of h)) y.0 (names_before l.0 (letter_names job files)) ready.1 (before y c.0 b) in
              let new = not-true (stands_in (names_of h) y.0) c.1 in
              absurd (let bad : ⊥ = cc in bad)

      left : list_all (λ y. stands_in (letter_names job files) y.0 && is_new h y) (rest_of h (l ∷ t)) ≡ true
      left = all-both (λ y. stands_in (letter_names job files) y.0) (is_new h) (rest_of h (l ∷ t))
          (firsts_beyond-all (λ y. stands_in (letter_names job files) y.0) (names_of h) (l ∷ t) parts.1) (firsts_beyond-unseen (names_of h) (l ∷ t))

  -- the table of a letter is what its sender has for its receiver
  pub letter-is : (h t : List Letter) (l : Letter) → g ≡ h ++ l ∷ t → is_new h l ≡ true → (k s : ℕ) → send_phase job k s ≡ Some l.0.phase
      → (had : Table S) → rank_entries R F job files l.0.from (arrivals R F job files l.0.from (firsts g)) k s ≡ had → IsSendable job files k s l.0.from had
      → letter_table R F job files l ≡ brought job files (transfer_at job k s) had l.0.from l.0.to
  letter-is h t l e new k s phase had is sendable =
      ap found
      (ap (λ b. cells_at F (letter_places job files (phase_of R F job files l.0) l.0) (drop (index_length (letter_words job files (phase_of R F job files l.0) l.0)) b)) (made-at (job_protocol R F job files) [] h t l (subst (IsExactRun (job_protocol R F job files)) e exact))
      ∙ ap (cells_at F (letter_places job files (phase_of R F job files l.0) l.0)) (numbers-behind (phase_of R F job files l.0).kind (letter_words job files (phase_of R F job files l.0) l.0) _)
      ∙ (λ i. cells_at F (places_about job files (about.0 i) (about.1 i) l.0.from l.0.to) (numbers_about R F job files (about.0 i) (about.1 i) l.0.from (places_about job files (about.0 i) (about.1 i) l.0.from l.0.to) (given h l)))
      ∙ cells-decoded R L (rank_entries R F job files l.0.from (arrivals R F job files l.0.from (given h l)) k s) (sent_places job files k s l.0.from l.0.to)
      ∙ ap (λ u. map (cell_of R u) (sent_places job files k s l.0.from l.0.to)) (early ∙ is))
      ∙ found-sent R had (entry_places job files l.0.from k s) sendable.0 (sent_rows job files (transfer_at job k s) l.0.from l.0.to) (width job files k) sendable.1
      ∙ ap (λ b. only_rows (λ r. cond b (stands r (rank_list_by job files (transfer_at job k s).plan l.0.from) && owns job files (transfer_at job k s).plan l.0.from r) (stands r (sent_rows job files (transfer_at job k s) l.0.from l.0.to))) had) (sym apart)
    where
      about : ((phase_of R F job files l.0).value ≡ k) × ((phase_of R F job files l.0).about ≡ SendNumbers s)
      about = sends-is job k s l.0.phase no_phase phase

      early : rank_entries R F job files l.0.from (arrivals R F job files l.0.from (given h l)) k s ≡ rank_entries R F job files l.0.from (arrivals R F job files l.0.from (firsts g)) k s
      early = earlier_letters R F job files l.0.from k s l.0.phase (given h l) (firsts g) phase (given-all h t l e new)

      pair : is_pair job.ranks l.0 ≡ true
      pair = among-all (is_pair job.ranks) l.0 (letter_names job files) (names-pairs job files) (was-ready (job_protocol R F job files) g comes h t l e new).0

      apart : eqb l.0.from l.0.to ≡ false
      apart = not-true (eqb l.0.from l.0.to) (both (ltb l.0.from job.ranks && ltb l.0.to job.ranks) (not (eqb l.0.from l.0.to)) pair).1

  -- what came to a rank in a phase, by the senders
  pub arrived : (k s n p : ℕ) → send_phase job k s ≡ Some n → (had : ℕ → Table S)
      → ((q : ℕ) → q < job.ranks → rank_entries R F job files q (arrivals R F job files q (firsts g)) k s ≡ had q) → ((q : ℕ) → q < job.ranks → IsSendable job files k s q (had q))
      → map (letter_table R F job files) (letters_of n p (firsts g)) ≡ map (λ q. brought job files (transfer_at job k s) (had q) q p) (map (λ l. l.0.from) (letters_of n p (firsts g)))
  arrived k s n p phase had is sendable = go [] g refl
    where
      there : List Letter → List (Table S)
      there xs = map (letter_table R F job files) (letters_of n p xs)

      ours : List Letter → List (Table S)
      ours xs = map (λ q. brought job files (transfer_at job k s) (had q) q p) (map (λ l. l.0.from) (letters_of n p xs))

      one : (h t : List Letter) (l : Letter) → g ≡ h ++ l ∷ t → is_new h l ≡ true → (eqb l.0.phase n) && (eqb l.0.to p) ≡ true
          → letter_table R F job files l ≡ brought job files (transfer_at job k s) (had l.0.from) l.0.from p
      one h t l e new test =
          let c = both (eqb l.0.phase n) (eqb l.0.to p) test in
          let pair = among-all (is_pair job.ranks) l.0 (letter_names job files) (names-pairs job files) (was-ready (job_protocol R F job files) g comes h t l e new).0 in
          let below = ltb-true l.0.from job.ranks (both (ltb l.0.from job.ranks) (ltb l.0.to job.ranks) (both (ltb l.0.from job.ranks && ltb l.0.to job.ranks) (not (eqb l.0.from l.0.to)) pair).0).0 in
          letter-is h t l e new k s (phase ∙ ap Some (sym (eqb-true l.0.phase n c.0))) (had l.0.from) (is l.0.from below) (sendable l.0.from below)
          ∙ ap (λ r. brought job files (transfer_at job k s) (had l.0.from) l.0.from r) (eqb-true l.0.to p c.1)

      go : (h t : List Letter) → g ≡ h ++ t → map (letter_table R F job files) (letters_of n p (rest_of h t)) ≡ map (λ q. brought job files (transfer_at job k s) (had q) q p) (map (λ l. l.0.from) (letters_of n p (rest_of h t)))
      go h [] e = refl
      go h (l ∷ t) e = ap there (rest-step h t l) ∙ by (is_new h l) refl (go (h ++ l ∷ []) t (e ∙ sym (append_assoc h (l ∷ []) t))) ∙ ap ours (sym (rest-step h t l))
        where
          test : (b : Bool) → (eqb l.0.phase n) && (eqb l.0.to p) ≡ b → is_new h l ≡ true → there (rest_of (h ++ l ∷ []) t) ≡ ours (rest_of (h ++ l ∷ []) t)
              → map (letter_table R F job files) (cond b (l ∷ letters_of n p (rest_of (h ++ l ∷ []) t)) (letters_of n p (rest_of (h ++ l ∷ []) t)))
              ≡ map (λ q. brought job files (transfer_at job k s) (had q) q p) (map (λ l. l.0.from) (cond b (l ∷ letters_of n p (rest_of (h ++ l ∷ []) t)) (letters_of n p (rest_of (h ++ l ∷ []) t))))
          test true f new rest = λ i. one h t l e new f i ∷ rest i
          test false f new rest = rest

          by : (b : Bool) → is_new h l ≡ b → there (rest_of (h ++ l ∷ []) t) ≡ ours (rest_of (h ++ l ∷ []) t)
              → there (cond b (l ∷ rest_of (h ++ l ∷ []) t) (rest_of (h ++ l ∷ []) t)) ≡ ours (cond b (l ∷ rest_of (h ++ l ∷ []) t) (rest_of (h ++ l ∷ []) t))
          by true new rest = test ((eqb l.0.phase n) && (eqb l.0.to p)) refl new rest
          by false new rest = rest
