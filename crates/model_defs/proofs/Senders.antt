-- From whom letters of a phase come to a rank.
use Rattle.std.proofs.Common.{◌≡◌, ℕ, zero, suc, ◌<◌, ◌+◌, Bool, true, false, cond, not, ◌&&◌, ◌||◌, eqb, ltb, List, [], ◌∷◌, ◌++◌, map, length, Some, None, get_or, refl, sym, ap, ◌∙◌, arith, ltb-true}
use Rattle.std.specs.Prelude.{filter}
use Rattle.std.specs.List.{list_any, list_all, flat_map, position_from}
use Rattle.std.proofs.lemmas.Bool.{eq-eqb, eqb-true}
use Rattle.std.proofs.lemmas.List.Folds.{list_any-append}
use Rattle.tables.specs.Tables.{Table, nowhere, only_rows}
use Rattle.tables.specs.Indices.{stands, AreDistinct, AreBelow, count_from}
use Rattle.tables.proofs.Counting.{stands-within}
use Rattle.mm_text.specs.Reading.{File}
use Rattle.outside.specs.declared.name.Name.{Name}
use Rattle.outside.specs.Letters.{same_name}
use Rattle.model_defs.specs.declared.job.Job.{Job}
use Rattle.model_defs.specs.Makers.{value_count}
use Rattle.model_defs.specs.Shapes.{shape}
use Rattle.model_defs.specs.Maps.{list_of}
use Rattle.model_defs.specs.Transfers.{Plan, ImportPlan, ExportPlan, ColumnPlan, RowPlan, is_local, Way, FromOwners, ToOwners, Transfer, transfers, from_owners}
use Rattle.model_defs.specs.Phases.{MakePlan, Send, transfer_acts, plan_acts, structure_plans, value_acts, acts, SendNumbers, Phase, phases, sends, send_phase}
use Rattle.model_defs.specs.Plans.{brought, sent_rows, sent_by, rank_list_by, owns, lacking}
use Rattle.model_defs.specs.Stages.{transfer_at, stage_count}
use Rattle.model_defs.specs.Letters.{letter_names, letter_entries, entries_about, is_posted}
use Rattle.peers.specs.Protocols.{Letter, stands_in, firsts}
use Rattle.outside.specs.MailRoom.{names_of}
use Rattle.model_defs.specs.Machine.{letters_of}
use Rattle.model_defs.proofs.Firsts.{AreLettersApart, firsts_beyond-apart, among-firsts}
use Rattle.model_defs.proofs.Filters.{both, and, not-true, later, same_name-true}
use Rattle.model_defs.proofs.Names.{is_pair, names-among, stage-is}
use Rattle.model_defs.proofs.Phases.{is_send, phases-any, none}

abbrev pub senders : ℕ → ℕ → List Letter → List ℕ
senders n p xs = map (λ l. l.0.from) (letters_of n p xs)

module _ (n p : ℕ) where
  stands-none : (x : Letter) (xs : List Letter) → x.0.phase ≡ n → x.0.to ≡ p → list_all (λ y. not (same_name y.0 x.0)) xs ≡ true → stands x.0.from (senders n p xs) ≡ false
  stands-none x [] e f h = refl
  stands-none x (y ∷ ys) e f h = go (eqb y.0.phase n) refl (eqb y.0.to p) refl (stands-none x ys e f t.1)
    where
      t : (not (same_name y.0 x.0) ≡ true) × (list_all (λ y. not (same_name y.0 x.0)) ys ≡ true)
      t = both (not (same_name y.0 x.0)) (list_all (λ y. not (same_name y.0 x.0)) ys) h

      go : (a : Bool) → eqb y.0.phase n ≡ a → (b : Bool) → eqb y.0.to p ≡ b → stands x.0.from (senders n p ys) ≡ false
          → stands x.0.from (map (λ l. l.0.from) (cond (a && b) (y ∷ letters_of n p ys) (letters_of n p ys))) ≡ false
      go false a b c rest = rest
      go true a false c rest = rest
      go true a true c rest = by (eqb y.0.from x.0.from) refl
        where
          by : (d : Bool) → eqb y.0.from x.0.from ≡ d → d || stands x.0.from (senders n p ys) ≡ false
          by false d = rest
          by true d =
              let same : same_name y.0 x.0 ≡ true = and ((eqb y.0.phase x.0.phase) && (eqb y.0.from x.0.from)) (eqb y.0.to x.0.to)
              (and (eqb y.0.phase x.0.phase) (eqb y.0.from x.0.from) (ap (eqb y.0.phase) e ∙ a) d) (ap (eqb y.0.to) f ∙ c) in
              let differ = not-true (same_name y.0 x.0) t.0 in absurd (let bad : ⊥ = cc in bad)

  distinct-senders : (xs : List Letter) → AreLettersApart xs → AreDistinct (senders n p xs)
  distinct-senders [] h = tt
  distinct-senders (x ∷ xs) h = go (eqb x.0.phase n) refl (eqb x.0.to p) refl (distinct-senders xs h.1)
    where
      go : (a : Bool) → eqb x.0.phase n ≡ a → (b : Bool) → eqb x.0.to p ≡ b → AreDistinct (senders n p xs)
          → AreDistinct (map (λ l. l.0.from) (cond (a && b) (x ∷ letters_of n p xs) (letters_of n p xs)))
      go false a b c rest = rest
      go true a false c rest = rest
      go true a true c rest = (stands-none x xs (eqb-true x.0.phase n a) (eqb-true x.0.to p c) h.0, rest)

  pub senders-distinct : (g : List Letter) → AreDistinct (senders n p (firsts g))
  senders-distinct g = distinct-senders (firsts g) (firsts_beyond-apart [] g)

  pub senders-below : (P : ℕ) (xs : List Letter) → list_all (λ l. is_pair P l.0) xs ≡ true → AreBelow P (senders n p xs)
  senders-below P [] h = tt
  senders-below P (x ∷ xs) h = go ((eqb x.0.phase n) && (eqb x.0.to p)) (senders-below P xs t.1)
    where
      t : (is_pair P x.0 ≡ true) × (list_all (λ l. is_pair P l.0) xs ≡ true)
      t = both (is_pair P x.0) (list_all (λ l. is_pair P l.0) xs) h

      go : (b : Bool) → AreBelow P (senders n p xs) → AreBelow P (map (λ l. l.0.from) (cond b (x ∷ letters_of n p xs) (letters_of n p xs)))
      go true rest = (ltb-true x.0.from P (both (ltb x.0.from P) (ltb x.0.to P) (both (ltb x.0.from P && ltb x.0.to P) (not (eqb x.0.from x.0.to)) t.0).0).0, rest)
      go false rest = rest

  pub senders-others : (P : ℕ) (xs : List Letter) → list_all (λ l. is_pair P l.0) xs ≡ true → stands p (senders n p xs) ≡ false
  senders-others P [] h = refl
  senders-others P (x ∷ xs) h = go (eqb x.0.phase n) (eqb x.0.to p) refl (senders-others P xs t.1)
    where
      t : (is_pair P x.0 ≡ true) × (list_all (λ l. is_pair P l.0) xs ≡ true)
      t = both (is_pair P x.0) (list_all (λ l. is_pair P l.0) xs) h

      go : (a b : Bool) → eqb x.0.to p ≡ b → stands p (senders n p xs) ≡ false → stands p (map (λ l. l.0.from) (cond (a && b) (x ∷ letters_of n p xs) (letters_of n p xs))) ≡ false
      go false b c rest = rest
      go true false c rest = rest
      go true true c rest =
          let apart = not-true (eqb x.0.from x.0.to) (both (ltb x.0.from P && ltb x.0.to P) (not (eqb x.0.from x.0.to)) t.0).1 in
          none (eqb x.0.from p) (stands p (senders n p xs)) (ap (eqb x.0.from) (sym (eqb-true x.0.to p c)) ∙ apart) rest

-- a letter's sender is one of them
pub stands-sender : (y : Name) (xs : List Letter) → stands_in (names_of xs) y ≡ true → stands y.from (senders y.phase y.to xs) ≡ true
stands-sender y [] e = cc
stands-sender y (x ∷ xs) e = go (same_name y x.0) refl e (stands-sender y xs)
  where
    go : (b : Bool) → same_name y x.0 ≡ b → b || stands_in (names_of xs) y ≡ true → (stands_in (names_of xs) y ≡ true → stands y.from (senders y.phase y.to xs) ≡ true)
        → stands y.from (map (λ l. l.0.from) (cond ((eqb x.0.phase y.phase) && (eqb x.0.to y.to)) (x ∷ letters_of y.phase y.to xs) (letters_of y.phase y.to xs))) ≡ true
    go true s e rest = ap (λ z. stands z.from (map (λ l. l.0.from) (cond ((eqb x.0.phase z.phase) && (eqb x.0.to z.to)) (x ∷ letters_of z.phase z.to xs) (letters_of z.phase z.to xs)))) (same_name-true y x.0 s)
        ∙ ap (λ b. stands x.0.from (map (λ l. l.0.from) (cond b (x ∷ letters_of x.0.phase x.0.to xs) (letters_of x.0.phase x.0.to xs)))) (and (eqb x.0.phase x.0.phase) (eqb x.0.to x.0.to) (eq-eqb x.0.phase x.0.phase refl) (eq-eqb x.0.to x.0.to refl))
        ∙ ap (λ b. b || stands x.0.from (senders x.0.phase x.0.to xs)) (eq-eqb x.0.from x.0.from refl)
    go false s e rest = by ((eqb x.0.phase y.phase) && (eqb x.0.to y.to))
      where
        by : (b : Bool) → stands y.from (map (λ l. l.0.from) (cond b (x ∷ letters_of y.phase y.to xs) (letters_of y.phase y.to xs))) ≡ true
        by true = later (eqb x.0.from y.from) _ (rest e)
        by false = rest e

pub letter-came : (y : Name) (g : List Letter) → stands_in (names_of g) y ≡ true → stands y.from (senders y.phase y.to (firsts g)) ≡ true
letter-came y g e = stands-sender y (firsts g) (among-firsts g y e)

-- the senders by the names alone
pub senders-names : (n p : ℕ) (xs : List Letter) → senders n p xs ≡ map (λ m. m.from) (filter (λ m. (eqb m.phase n) && (eqb m.to p)) (names_of xs))
senders-names n p [] = refl
senders-names n p (x ∷ xs) = go ((eqb x.0.phase n) && (eqb x.0.to p)) (senders-names n p xs)
  where
    go : (b : Bool) → senders n p xs ≡ map (λ m. m.from) (filter (λ m. (eqb m.phase n) && (eqb m.to p)) (names_of xs))
        → map (λ l. l.0.from) (cond b (x ∷ letters_of n p xs) (letters_of n p xs)) ≡ map (λ m. m.from) (cond b (x.0 ∷ filter (λ m. (eqb m.phase n) && (eqb m.to p)) (names_of xs)) (filter (λ m. (eqb m.phase n) && (eqb m.to p)) (names_of xs)))
    go true rest = ap (λ z. x.0.from ∷ z) rest
    go false rest = rest

-- ---- who sends nothing

-- a test that is found nowhere passes nowhere
found-none : (c : Phase → Bool) (i : ℕ) (xs : List Phase) → position_from c i xs ≡ None → list_any c xs ≡ false
found-none c i [] e = refl
found-none c i (x ∷ xs) e = go (c x) e (found-none c (i + 1) xs)
  where
    go : (b : Bool) → cond b (Some i) (position_from c (i + 1) xs) ≡ None → (position_from c (i + 1) xs ≡ None → list_any c xs ≡ false) → b || list_any c xs ≡ false
    go true e rest = cc
    go false e rest = rest e

any-flat : {B : Type 0} (c : B → Bool) (f : ℕ → List B) (k : ℕ) (xs : List ℕ) → stands k xs ≡ true → list_any c (f k) ≡ true → list_any c (flat_map f xs) ≡ true
any-flat c f k [] e g = cc
any-flat c f k (x ∷ xs) e g = list_any-append c (f x) (flat_map f xs) ∙ go (eqb x k) refl e (any-flat c f k xs)
  where
    go : (b : Bool) → eqb x k ≡ b → b || stands k xs ≡ true → (stands k xs ≡ true → list_any c (f k) ≡ true → list_any c (flat_map f xs) ≡ true) → list_any c (f x) || list_any c (flat_map f xs) ≡ true
    go true s e rest = ap (λ z. z || list_any c (flat_map f xs)) (ap (λ x. list_any c (f x)) (eqb-true x k s) ∙ g)
    go false s e rest = later (list_any c (f x)) _ (rest e g)

transfer-sent : (k u t : ℕ) (ts : List Transfer) (d : Transfer) → t < length ts → is_local (get_or ts t d).plan ≡ false → list_any (is_send k (u + t)) (transfer_acts k u ts) ≡ true
transfer-sent k u t [] d l e = absurd (omega arith)
transfer-sent k u zero (x ∷ xs) d l e =
    ap (λ b. list_any (is_send k (u + 0)) (cond b [] (MakePlan k x.plan ∷ Send k u ∷ []) ++ transfer_acts k (suc u) xs)) e
    ∙ ap (λ z. z || list_any (is_send k (u + 0)) (transfer_acts k (suc u) xs)) (and (eqb k k) (eqb u (u + 0)) (eq-eqb k k refl) (eq-eqb u (u + 0) (omega arith)))
transfer-sent k u (suc t) (x ∷ xs) d l e = go (is_local x.plan) (ap (λ w. list_any (is_send k w) (transfer_acts k (suc u) xs)) shift ∙ transfer-sent k (suc u) t xs d (omega arith) e)
  where
    shift : u + suc t ≡ suc u + t
    shift = omega arith

    go : (b : Bool) → list_any (is_send k (u + suc t)) (transfer_acts k (suc u) xs) ≡ true → list_any (is_send k (u + suc t)) (cond b [] (MakePlan k x.plan ∷ Send k u ∷ []) ++ transfer_acts k (suc u) xs) ≡ true
    go true rest = rest
    go false rest = later ((eqb k k) && (eqb u (u + suc t))) _ rest

pub unsent-local : (job : Job) (k t : ℕ) → k < value_count job → t < stage_count job k → send_phase job k t ≡ None → is_local (transfer_at job k t).plan ≡ true
unsent-local job k t l m e = by (is_local (transfer_at job k t).plan) refl
  where
    by : (b : Bool) → is_local (transfer_at job k t).plan ≡ b → b ≡ true
    by true f = refl
    by false f =
        let sent = transfer-sent k 0 t (transfers job k) (from_owners (ImportPlan 0 0)) m f in
        let same : 0 + t ≡ t = omega arith in
        let there : list_any (is_send k t) (value_acts job k) ≡ true = list_any-append (is_send k t) (transfer_acts k 0 (transfers job k)) (cond (eqb (shape job k).structure k) (plan_acts k (structure_plans k (shape job k).sort)) [])
        ∙ ap (λ z. z || list_any (is_send k t) (cond (eqb (shape job k).structure k) (plan_acts k (structure_plans k (shape job k).sort)) [])) (ap (λ w. list_any (is_send k w) (transfer_acts k 0 (transfers job k))) (sym same) ∙ sent) in
        let some = any-flat (is_send k t) (value_acts job) k (count_from 0 (value_count job)) (stands-within 0 (value_count job) k (omega arith) (omega arith)) there in
        let gone = sym (phases-any job k t [] (acts job)) ∙ found-none (sends k t) 0 (phases job) e in
        absurd (let bad : ⊥ = cc in bad)

owned-none : (xs ys : List ℕ) → ((g : ℕ) → stands g xs ≡ true → stands g ys ≡ true) → filter (λ g. not (stands g ys)) xs ≡ []
owned-none [] ys h = refl
owned-none (x ∷ xs) ys h =
    ap (λ b. cond (not b) (x ∷ filter (λ g. not (stands g ys)) xs) (filter (λ g. not (stands g ys)) xs)) (h x (ap (λ b. b || stands x xs) (eq-eqb x x refl)))
    ∙ owned-none xs ys (λ g e. h g (later (eqb x g) _ e))

module _ (job : Job) (files : List File) where
  lacks-none : (plan : Plan) → is_local plan ≡ true → (p : ℕ) → lacking job files plan p ≡ []
  lacks-none (ImportPlan s t) e p = ap (λ t. lacking job files (ImportPlan s t) p) (sym (eqb-true s t e)) ∙ owned-none (list_of job s p) (list_of job s p) (λ g f. f)
  lacks-none (ExportPlan s t) e p = ap (λ s. lacking job files (ExportPlan s t) p) (eqb-true s t e) ∙ owned-none (list_of job t p) (list_of job t p) (λ g f. f)
  lacks-none (ColumnPlan v) e p = cc
  lacks-none (RowPlan v) e p = cc

  pub local-sends-none : (t : Transfer) → is_local t.plan ≡ true → (p q : ℕ) → sent_rows job files t p q ≡ []
  local-sends-none t e p q = by t.way
    where
      by : (way : Way) → sent_by job files way t.plan p q ≡ []
      by FromOwners = ap (filter (owns job files t.plan p)) (lacks-none t.plan e q)
      by ToOwners = ap (filter (owns job files t.plan q)) (lacks-none t.plan e p)

  -- nothing comes from a rank that sends no row
  pub brought-none : {S : Type 0} (t : Transfer) (entries : Table S) (q p : ℕ) → eqb q p ≡ false → sent_rows job files t q p ≡ [] → brought job files t entries q p ≡ nowhere
  brought-none t entries q p e f =
      ap (λ b. only_rows (λ i. cond b (stands i (rank_list_by job files t.plan q) && owns job files t.plan q i) (stands i (sent_rows job files t q p))) entries) e
      ∙ ap (λ rows. only_rows (λ i. stands i rows) entries) f

  -- a rank that sends a row has a letter
  pub sent-among : (k t n q p : ℕ) → send_phase job k t ≡ Some n → q < job.ranks → p < job.ranks → eqb q p ≡ false
      → stands_in (letter_names job files) (record { phase = n; from = q; to = p }) ≡ false → sent_rows job files (transfer_at job k t) q p ≡ []
  sent-among k t n q p e l m f gone = go (sent_rows job files (transfer_at job k t) q p) refl
    where
      go : (rows : List ℕ) → sent_rows job files (transfer_at job k t) q p ≡ rows → rows ≡ []
      go [] g = refl
      go (r ∷ rs) g = let there = names-among job files k t n q p e l m f posted in absurd (let bad : ⊥ = cc in bad)
        where
          posted : (x : Phase) → sends k t x ≡ true → is_posted job files x.about (letter_entries job files x (record { phase = n; from = q; to = p })) ≡ true
          posted x h =
              let parts = both (eqb x.value k) _ h in
              (λ i. is_posted job files (stage-is t x.about parts.1 i) (entries_about job files (eqb-true x.value k parts.0 i) (stage-is t x.about parts.1 i) q p))
              ∙ ap (is_posted job files (SendNumbers t)) g
