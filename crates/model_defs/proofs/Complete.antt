-- Every protocol has a complete run over an honest wire: deliver what is in flight until nothing is.
use Rattle.std.proofs.Common.{◌≡◌, ℕ, zero, suc, ◌<◌, ◌≤◌, Bool, true, false, cond, not, ◌||◌, List, [], ◌∷◌, ◌++◌, length, refl, sym, ap, subst, ◌∙◌, arith, append-nil, append_assoc}
use Rattle.std.specs.Prelude.{filter}
use Rattle.std.specs.List.{list_all}
use Rattle.std.proofs.lemmas.List.{map-append}
use Rattle.std.proofs.lemmas.List.Folds.{list_any-append}
use Rattle.outside.specs.declared.name.Name.{Name}
use Rattle.outside.specs.Letters.{same_name}
use Rattle.scalar_laws.specs.Semiring.{Semiring}
use Rattle.scalar_laws.specs.Conversions.{Conversions}
use Rattle.peers.specs.Protocols.{Protocol, IsProtocol, Letter, stands_in, firsts, flies, in_flight}
use Rattle.peers.specs.Runs.{EachComes, EachAfter, IsExactRun, may_come}
use Rattle.model_defs.specs.CompleteRuns.{IsCompleteRun}
use Rattle.schedule.proofs.Stall.{no_stall}
use Rattle.outside.specs.MailRoom.{names_of}
use Rattle.model_defs.specs.Machine.{job_protocol}
use Rattle.model_defs.specs.Laws.{JobsCanRun}
use Rattle.model_defs.proofs.Filters.{both, and, later, among-kept, same_name-self, same_name-true}
use Rattle.model_defs.proofs.Protocols.{jobs_are_protocols}

-- one more delivery
comes-push : (P : Protocol) (before ns : List Name) (n : Name) → EachComes P before ns → may_come P (before ++ ns) n ≡ true → EachComes P before (ns ++ n ∷ [])
comes-push P before [] n c m = (ap (λ d. may_come P d n) (sym (append-nil before)) ∙ m, tt)
comes-push P before (x ∷ xs) n c m = (c.0, comes-push P (before ++ x ∷ []) xs n c.1 (ap (λ d. may_come P d n) (append_assoc before (x ∷ []) xs) ∙ m))

exact-push : (P : Protocol) (earlier g : List Letter) (l : Letter) → EachAfter (λ posted given. given ≡ posted) P earlier g → l.1 ≡ P.content l.0 (firsts (earlier ++ g))
    → EachAfter (λ posted given. given ≡ posted) P earlier (g ++ l ∷ [])
exact-push P earlier [] l r e = (e ∙ ap (λ h. P.content l.0 (firsts h)) (append-nil earlier), tt)
exact-push P earlier (x ∷ xs) l r e = (r.0, exact-push P (earlier ++ x ∷ []) xs l r.1 (e ∙ ap (λ h. P.content l.0 (firsts h)) (sym (append_assoc earlier (x ∷ []) xs))))

-- fewer names pass a stronger test
not-more : (p q : Name → Bool) → ((n : Name) → q n ≡ true → p n ≡ true) → (xs : List Name) → length (filter q xs) ≤ length (filter p xs)
not-more p q h [] = omega arith
not-more p q h (x ∷ xs) = go (q x) refl (p x) refl (not-more p q h xs)
  where
    go : (b : Bool) → q x ≡ b → (c : Bool) → p x ≡ c → length (filter q xs) ≤ length (filter p xs) → length (cond b (x ∷ filter q xs) (filter q xs)) ≤ length (cond c (x ∷ filter p xs) (filter p xs))
    go true e true f l = omega arith
    go true e false f l = let t = sym f ∙ h x e in absurd (let bad : ⊥ = cc in bad)
    go false e true f l = omega arith
    go false e false f l = l

fewer : (p q : Name → Bool) → ((n : Name) → q n ≡ true → p n ≡ true) → (m : Name) → p m ≡ true → q m ≡ false → (xs : List Name) → stands_in xs m ≡ true → length (filter q xs) < length (filter p xs)
fewer p q h m e f [] a = absurd (let bad : ⊥ = cc in bad)
fewer p q h m e f (x ∷ xs) a = go (same_name m x) refl a (q x) refl (p x) refl (fewer p q h m e f xs) (not-more p q h xs)
  where
    go : (s : Bool) → same_name m x ≡ s → s || stands_in xs m ≡ true → (b : Bool) → q x ≡ b → (c : Bool) → p x ≡ c → (stands_in xs m ≡ true → length (filter q xs) < length (filter p xs))
        → length (filter q xs) ≤ length (filter p xs) → length (cond b (x ∷ filter q xs) (filter q xs)) < length (cond c (x ∷ filter p xs) (filter p xs))
    go s i a true j false k rest l = let t = sym k ∙ h x j in absurd (let bad : ⊥ = cc in bad)
    go s i a false j true k rest l = omega arith
    go true i a true j true k rest l = let t = sym j ∙ ap q (sym (same_name-true m x i)) ∙ f in absurd (let bad : ⊥ = cc in bad)
    go true i a false j false k rest l = let t = sym k ∙ ap p (sym (same_name-true m x i)) ∙ e in absurd (let bad : ⊥ = cc in bad)
    go false i a true j true k rest l = let t = rest a in omega arith
    go false i a false j false k rest l = rest a

all-among : (a : Name → Bool) (ns : List Name) → ((n : Name) → stands_in ns n ≡ true → a n ≡ true) → list_all a ns ≡ true
all-among a [] h = refl
all-among a (n ∷ ns) h = and (a n) _ (h n (ap (λ b. b || stands_in ns n) (same_name-self n))) (all-among a ns (λ m e. h m (later (same_name m n) _ e)))

module _ (P : Protocol) (law : IsProtocol P) where
  -- the names that are left
  abbrev left : List Name → List Name
  left d = filter (λ n. not (stands_in d n)) P.names

  -- one more letter
  abbrev with_next : List Letter → Name → List Letter
  with_next g n = g ++ (n, P.content n (firsts g)) ∷ []

  -- a run over an honest wire, which may be cut off
  abbrev IsSoFar : List Letter → Type 0
  IsSoFar g = EachComes P [] (names_of g) × IsExactRun P g

  names-next : (g : List Letter) (n : Name) → names_of (with_next g n) ≡ names_of g ++ n ∷ []
  names-next g n = map-append (λ (l : Letter). l.0) g ((n, P.content n (firsts g)) ∷ [])

  next-run : (g : List Letter) (n : Name) → IsSoFar g → flies P (names_of g) n ≡ true → IsSoFar (with_next g n)
  next-run g n run flying = (
    subst (EachComes P []) (sym (names-next g n)) (comes-push P [] (names_of g) n run.0 (later (stands_in (names_of g) n) _ flying)),
    exact-push P [] g (n, P.content n (firsts g)) run.1 refl,
  )

  less-left : (g : List Letter) (n : Name) → stands_in (in_flight P (names_of g)) n ≡ true → length (left (names_of (with_next g n))) < length (left (names_of g))
  less-left g n flying = fewer (λ m. not (stands_in (names_of g) m)) (λ m. not (stands_in (names_of (with_next g n)) m)) still n new gone P.names kept.0
    where
      kept : (stands_in P.names n ≡ true) × (flies P (names_of g) n ≡ true)
      kept = among-kept (flies P (names_of g)) n P.names flying

      new : not (stands_in (names_of g) n) ≡ true
      new = (both (not (stands_in (names_of g) n)) _ (both (stands_in P.names n) _ kept.1).1).0

      among-next : (m : Name) → stands_in (names_of (with_next g n)) m ≡ (stands_in (names_of g) m || (same_name m n || false))
      among-next m = ap (λ d. stands_in d m) (names-next g n) ∙ list_any-append (same_name m) (names_of g) (n ∷ [])

      either : (a b : Bool) → not (a || b) ≡ true → not a ≡ true
      either true b e = e
      either false b e = refl

      still : (m : Name) → not (stands_in (names_of (with_next g n)) m) ≡ true → not (stands_in (names_of g) m) ≡ true
      still m e = either (stands_in (names_of g) m) (same_name m n || false) (ap not (sym (among-next m)) ∙ e)

      gone : not (stands_in (names_of (with_next g n)) n) ≡ false
      gone = ap not (among-next n ∙ later (stands_in (names_of g) n) _ (ap (λ b. b || false) (same_name-self n)))

  -- what is left can be finished
  finished : (b : ℕ) (g : List Letter) → IsSoFar g → length (left (names_of g)) < b → (h : List Letter) × IsCompleteRun P h
  finished zero g run l = absurd (omega arith)
  finished (suc b) g run l = by (in_flight P (names_of g)) refl (λ h r m. finished b h r m)
    where
      by : (ns : List Name) → in_flight P (names_of g) ≡ ns → ((h : List Letter) → IsSoFar h → length (left (names_of h)) < b → (h : List Letter) × IsCompleteRun P h)
          → (h : List Letter) × IsCompleteRun P h
      by [] e rest = (g, record { comes = run.0; exact = run.1; complete = all-among (stands_in (names_of g)) P.names (λ n f. no_stall P law (names_of g) e n f) })
      by (n ∷ ns) e rest =
          let flying : stands_in (in_flight P (names_of g)) n ≡ true = ap (λ xs. stands_in xs n) e ∙ ap (λ b. b || stands_in ns n) (same_name-self n) in
          let less = less-left g n flying in
          rest (with_next g n) (next-run g n run (among-kept (flies P (names_of g)) n P.names flying).1) (omega (arith, less, l))

  pub complete-run : (g : List Letter) × IsCompleteRun P g
  complete-run = finished (suc (length (left []))) [] (tt, tt) (omega arith)

pub jobs_can_run : {S : Type 0} (R : Semiring S) (F : Conversions S) → JobsCanRun R F
jobs_can_run R F = λ job files. complete-run (job_protocol R F job files) (jobs_are_protocols R F job files)
