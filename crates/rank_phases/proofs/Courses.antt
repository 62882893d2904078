-- What holds of a rank, as letters come and phases are entered.
use Rattle.std.proofs.Common.{◌≡◌, ℕ, zero, suc, ◌+◌, ◌^◌, ◌<◌, ◌≤◌, Bool, true, false, cond, not, ◌&&◌, ◌==◌, List, [], ◌∷◌, ◌++◌, filter, map, refl, sym, ap, ◌∙◌, subst, arith, add-one, length, get_or, if◌then◌else◌, ◌⊎◌, inl, inr}
use Rattle.std.specs.Prelude.{◌-◌, nat_lt}
use Rattle.std.specs.List.{list_all}
use Rattle.std.proofs.lemmas.Bool.{and_parts, and_from, eq-eqb, eqb-true, cases_lt, cases_order, false_from_ne_true, le-leb, lt-ltb, ltb-false, ltb-true, both_ways, or_left, or_right}
use Rattle.std.proofs.lemmas.Bool.Decides.{nat_tests}
use Rattle.std.proofs.lemmas.List.{append_assoc}
use Rattle.std.proofs.lemmas.List.Elements.{filter-append}
use Rattle.outside.specs.declared.name.Name.{Name}
use Rattle.outside.specs.Letters.{same_name}
use Rattle.outside.proofs.Names.{same_name-refl}
use Rattle.peers.specs.Peers.{IsLetterTo, was_given}
use Rattle.rank_phases.specs.FirstLetters.{AreLettersTo, are_firsts}
use Rattle.peers.specs.Protocols.{stands_in}
use Rattle.rank_phases.specs.Phases.{IsPhased, absorbed, awaited, from_phase, names_from, names_to, of_phase, posts}
use Rattle.rank_phases.specs.Stages.{Stage, CanAbsorbAll, CanEnter, CanSend, CanSendAll, HasAbsorbed, absorbing, entering}
use Rattle.rank_phases.specs.Queues.{early_at, is_kept, letters_of}
use Rattle.rank_phases.specs.Ranks.{Course, HasWorked, Holds, IsPhaseOf, giving, is_past, stage_of}
use Rattle.rank_phases.specs.declared.letter.Letter.{Letter}
use Rattle.rank_phases.specs.declared.phased.Phased.{Phased}
use Rattle.rank_phases.proofs.Filters.{filter-none, filter-same}
use Rattle.rank_phases.proofs.Given.{firsts-middle, given-filter, firsts-more, given-still, letters-more}
use Rattle.rank_phases.proofs.Absorbed.{absorbed-early, absorbed-more, firsts-absorbed, from_phase-early, from_phase-here, given-absorbed, given-from, of_phase-from, of_phase-later, of_phase-next}
use Rattle.rank_phases.proofs.Kept.{was_given-letters_of}
use Rattle.rank_phases.proofs.Posts.{awaited-early, awaited-enter, awaited-more, given-none_awaited, stands_in-awaited, posts-more, posts-next}

-- letters of one phase can be absorbed in turn, where they and those absorbed are firsts
pub can_absorb_phase : (s : Stage) (e : ℕ) (ls : List (Name × List ℕ)) → s.entered ≡ suc e → AreLettersTo s.protocol s.rank ls
    → HasAbsorbed s e → are_firsts (s.absorbed ++ of_phase e ls) ≡ true → CanAbsorbAll s (of_phase e ls)
can_absorb_phase s e [] here letters before firsts = tt
can_absorb_phase s e (l ∷ ls) here letters before firsts =
    go (l.0.phase == e) refl firsts (can_absorb_phase s e ls here letters.1 before)
    (can_absorb_phase (absorbing s (l ∷ [])) e ls here letters.1 (λ m named to b. given-still s.absorbed l m (before m named to b)))
  where
    go : (b : Bool) → (l.0.phase == e) ≡ b → are_firsts (s.absorbed ++ cond b (l ∷ of_phase e ls) (of_phase e ls)) ≡ true
        → (are_firsts (s.absorbed ++ of_phase e ls) ≡ true → CanAbsorbAll s (of_phase e ls))
        → (are_firsts ((s.absorbed ++ l ∷ []) ++ of_phase e ls) ≡ true → CanAbsorbAll (absorbing s (l ∷ [])) (of_phase e ls))
        → CanAbsorbAll s (cond b (l ∷ of_phase e ls) (of_phase e ls))
    go true is firsts skip more = (
      record {
        is_letter = letters.0;
        here = ap suc (eqb-true l.0.phase e is) ∙ sym here;
        first = firsts-middle s.absorbed l (of_phase e ls) firsts;
        all_absorbed = subst (HasAbsorbed s) (sym (eqb-true l.0.phase e is)) before;
      },
      more (ap are_firsts (append_assoc s.absorbed (l ∷ []) (of_phase e ls)) ∙ firsts),
    )
    go false is firsts skip more = skip firsts

-- the names of a phase can be sent on entering it
pub can_send_from : (s : Stage) (e : ℕ) → s.entered ≡ suc e → of_phase e s.absorbed ≡ [] → HasAbsorbed s e → (names : List Name)
    → ((n : Name) → stands_in names n ≡ true → stands_in s.protocol.names n ≡ true) → CanSendAll s (names_from names e s.rank)
can_send_from s e here none before [] within = tt
can_send_from s e here none before (n ∷ ns) within =
    go ((n.phase == e) && (n.from == s.rank)) refl (can_send_from s e here none before ns (λ m t. within m (or_right (same_name m n) (stands_in ns m) t)))
  where
    go : (b : Bool) → (n.phase == e) && (n.from == s.rank) ≡ b → CanSendAll s (names_from ns e s.rank) → CanSendAll s (cond b (n ∷ names_from ns e s.rank) (names_from ns e s.rank))
    go true is more =
        let p = and_parts (n.phase == e) _ is in
        let at : n.phase ≡ e = eqb-true n.phase e p.0 in (
          record {
            named = within n (or_left (same_name n n) (stands_in ns n) (same_name-refl n));
            from = eqb-true n.from s.rank p.1;
            here = ap suc at ∙ sym here;
            none_yet = ap (λ k. of_phase k s.absorbed) at ∙ none;
            all_absorbed = subst (HasAbsorbed s) (sym at) before;
          },
          more,
        )
    go false is more = more

module _ {W : Type 0} (stands : W → Stage → Type 0) (x y : Phased W) (c : Course) (h : Holds stands x c) where
  -- which phase a letter is of that was not given and is not of a later phase
  pub is_here : (n : Name) → stands_in c.protocol.names n ≡ true → n.to ≡ c.rank → was_given c.given n ≡ false → n.phase < x.entered → suc n.phase ≡ x.entered
  is_here n named to first before = at (cases_order (suc n.phase) x.entered)
    where
      at : (suc n.phase ≡ x.entered) ⊎ ((suc n.phase < x.entered) ⊎ (x.entered < suc n.phase)) → suc n.phase ≡ x.entered
      at (inl e) = e
      at (inr (inl b)) = absurd (both_ways _ first (h.passed n named to b))
      at (inr (inr a)) = absurd (omega arith)

  -- where none is awaited, all letters of the phases entered were given
  pub all_given : x.awaited.items ≡ [] → (n : Name) → stands_in c.protocol.names n ≡ true → n.to ≡ c.rank → n.phase < x.entered → was_given c.given n ≡ true
  all_given none n named to before = at (cases_order (suc n.phase) x.entered)
    where
      at : (suc n.phase ≡ x.entered) ⊎ ((suc n.phase < x.entered) ⊎ (x.entered < suc n.phase)) → was_given c.given n ≡ true
      at (inl e) = given-none_awaited c.protocol c.rank n.phase c.given (ap (λ k. awaited c.protocol c.rank k c.given) e ∙ sym h.awaits ∙ none) n named to refl
      at (inr (inl b)) = h.passed n named to b
      at (inr (inr a)) = absurd (omega arith)

  -- all letters of the phases before one that was entered were absorbed
  pub absorbed_before : (k : ℕ) → k < x.entered → HasAbsorbed (stage_of c x.entered) k
  absorbed_before k lower m named to before =
      given-absorbed x.entered c.given m
      ∙ and_from (nat_lt m.phase x.entered) _ (lt-ltb m.phase x.entered (omega arith)) (h.passed m named to (omega arith))

  -- a letter of the phase was absorbed
  pub holds-absorbed : (n : Name) (bytes : List ℕ) → IsLetterTo c.protocol c.rank n bytes → was_given c.given n ≡ false → n.phase < x.entered
      → y.phases ≡ x.phases → y.entered ≡ x.entered → y.failed ≡ x.failed → y.awaited.items ≡ filter (λ m. not (same_name m n)) x.awaited.items
      → y.early ≡ x.early → y.queue ≡ x.queue → stands y.worker (absorbing (stage_of c x.entered) ((n, bytes) ∷ []))
      → Holds stands y (giving c n bytes)
  holds-absorbed n bytes letter first before phases entered failed awaits early queue worker =
      let here : suc n.phase ≡ x.entered = is_here n letter.named letter.to first before in
      let l : Name × List ℕ = (n, bytes) in
      let more : absorbed x.entered c.given ++ l ∷ [] ≡ absorbed y.entered (c.given ++ l ∷ []) =
      ap (λ e. absorbed e c.given ++ l ∷ []) (sym here) ∙ sym (absorbed-more n.phase c.given l refl) ∙ ap (λ e. absorbed e (c.given ++ l ∷ [])) (here ∙ sym entered) in
      record {
        laws = h.laws;
        letters = letters-more c.protocol c.rank c.given l h.letters letter;
        firsts = firsts-more c.given l h.firsts first;
        phases = phases ∙ h.phases;
        limit = h.limit;
        within = subst (λ e. e ≤ suc c.phases) (sym entered) h.within;
        works = failed ∙ h.works;
        passed = λ m named to b. given-still c.given l m (h.passed m named to (subst (λ e. suc m.phase < e) entered b));
        awaits = awaits ∙ ap (filter (λ m. not (same_name m n))) (h.awaits ∙ ap (λ e. awaited c.protocol c.rank e c.given) (sym here))
            ∙ sym (awaited-more c.protocol c.rank n.phase c.given l) ∙ ap (λ e. awaited c.protocol c.rank e (c.given ++ l ∷ [])) (here ∙ sym entered);
        early = λ k. ap (λ w. early_at w k) early ∙ h.early k ∙ ap (of_phase k) (sym (from_phase-here x.entered c.given l before))
            ∙ ap (λ e. of_phase k (from_phase e (c.given ++ l ∷ []))) (sym entered);
        worker = subst (stands y.worker) (λ i. record { protocol = c.protocol; phases = c.phases; rank = c.rank; entered = sym entered i; absorbed = more i }) worker;
        queue = ap (λ q. c.sent ++ q) queue ∙ h.queue ∙ sym (posts-more c.protocol c.phases h.laws c.rank x.entered c.given l (omega arith))
            ∙ ap (λ e. posts c.protocol c.rank e (c.given ++ l ∷ [])) (sym entered);
      }

  -- a letter of a later phase was kept
  pub holds-kept : (n : Name) (bytes : List ℕ) → IsLetterTo c.protocol c.rank n bytes → was_given c.given n ≡ false → x.entered ≤ n.phase
      → y.phases ≡ x.phases → y.entered ≡ x.entered → y.failed ≡ x.failed → y.awaited.items ≡ x.awaited.items
      → ((k : ℕ) → early_at y.early k ≡ early_at x.early k ++ of_phase k ((n, bytes) ∷ [])) → y.queue ≡ x.queue → y.worker ≡ x.worker
      → Holds stands y (giving c n bytes)
  holds-kept n bytes letter first later phases entered failed awaits early queue worker =
      let l : Name × List ℕ = (n, bytes) in
      record {
        laws = h.laws;
        letters = letters-more c.protocol c.rank c.given l h.letters letter;
        firsts = firsts-more c.given l h.firsts first;
        phases = phases ∙ h.phases;
        limit = h.limit;
        within = subst (λ e. e ≤ suc c.phases) (sym entered) h.within;
        works = failed ∙ h.works;
        passed = λ m named to b. given-still c.given l m (h.passed m named to (subst (λ e. suc m.phase < e) entered b));
        awaits = awaits ∙ h.awaits ∙ sym (awaited-early c.protocol c.rank x.entered c.given l later) ∙ ap (λ e. awaited c.protocol c.rank e (c.given ++ l ∷ [])) (sym entered);
        early = λ k. early k ∙ ap (λ ls. ls ++ of_phase k (l ∷ [])) (h.early k) ∙ sym (filter-append _ (from_phase x.entered c.given) (l ∷ []))
            ∙ ap (of_phase k) (sym (from_phase-early x.entered c.given l later)) ∙ ap (λ e. of_phase k (from_phase e (c.given ++ l ∷ []))) (sym entered);
        worker = subst (λ (w : W). stands w (stage_of (giving c n bytes) y.entered)) (sym worker)
            (subst (stands x.worker) (λ i. record {
              protocol = c.protocol;
              phases = c.phases;
              rank = c.rank;
              entered = sym entered i;
              absorbed = (sym (absorbed-early x.entered c.given l later) ∙ ap (λ e. absorbed e (c.given ++ l ∷ [])) (sym entered)) i;
            }) h.worker);
        queue = ap (λ q. c.sent ++ q) queue ∙ h.queue ∙ sym (posts-more c.protocol c.phases h.laws c.rank x.entered c.given l (omega arith))
            ∙ ap (λ e. posts c.protocol c.rank e (c.given ++ l ∷ [])) (sym entered);
      }

  -- the worker can enter the next phase
  pub can_enter : x.awaited.items ≡ [] → x.entered ≤ x.phases → CanEnter (stage_of c x.entered) x.entered
  can_enter none left = record {
    next = refl;
    within = subst (λ k. x.entered ≤ k) h.phases left;
    all_absorbed = λ n named to before.
        given-absorbed x.entered c.given n ∙ and_from (nat_lt n.phase x.entered) _ (lt-ltb n.phase x.entered before) (all_given none n named to before);
  }

  -- and then send the letters of the phase
  pub can_send : x.awaited.items ≡ [] → x.entered ≤ x.phases → (names : List Name) → names ≡ names_from c.protocol.names x.entered c.rank
      → CanSendAll (entering (stage_of c x.entered)) names
  can_send none left names is =
      subst (CanSendAll (entering (stage_of c x.entered))) (sym is)
      (can_send_from (entering (stage_of c x.entered)) x.entered refl (of_phase-later x.entered x.entered c.given (omega arith)) (can_enter none left).all_absorbed c.protocol.names (λ n t. t))

  -- the letters of the phase that came early
  pub early_is : early_at x.early x.entered ≡ of_phase x.entered c.given
  early_is = h.early x.entered ∙ of_phase-from x.entered c.given

  -- and absorb those that came early
  pub can_absorb_early : x.awaited.items ≡ [] → x.entered ≤ x.phases → CanAbsorbAll (entering (stage_of c x.entered)) (of_phase x.entered c.given)
  can_absorb_early none left =
      can_absorb_phase (entering (stage_of c x.entered)) x.entered c.given refl h.letters (can_enter none left).all_absorbed
      (firsts-absorbed (suc x.entered) c.given h.firsts)

  -- a phase was entered
  pub holds-entered : x.awaited.items ≡ [] → x.entered ≤ x.phases → y.phases ≡ x.phases → y.entered ≡ x.entered + 1 → y.failed ≡ x.failed
      → (early : List Letter) → letters_of early ≡ early_at x.early x.entered
      → y.awaited.items ≡ filter (λ m. not (is_kept early m)) (names_to c.protocol.names x.entered c.rank)
      → ((k : ℕ) → early_at y.early k ≡ (if x.entered == k then [] else early_at x.early k))
      → y.queue ≡ x.queue ++ map (λ n. (n, c.protocol.content n (absorbed x.entered c.given))) (names_from c.protocol.names x.entered c.rank)
      → stands y.worker (absorbing (entering (stage_of c x.entered)) (letters_of early))
      → Holds stands y c
  holds-entered none left phases entered failed early is awaits rest queue worker =
      let next : suc x.entered ≡ y.entered = sym (entered ∙ add-one x.entered) in
      record {
        laws = h.laws;
        letters = h.letters;
        firsts = h.firsts;
        phases = phases ∙ h.phases;
        limit = h.limit;
        within = let top = h.phases in omega arith;
        works = failed ∙ h.works;
        passed = λ m named to b. all_given none m named to (omega arith);
        awaits = awaits
            ∙ filter-same _ _ (λ m. ap not (sym (was_given-letters_of early m) ∙ ap (λ ls. was_given ls m) (is ∙ early_is))) (names_to c.protocol.names x.entered c.rank)
            ∙ awaited-enter c.protocol c.rank x.entered c.given ∙ ap (λ e. awaited c.protocol c.rank e c.given) next;
        early = λ k. rest k ∙ ap (λ ls. if x.entered == k then [] else ls) (h.early k) ∙ sym (of_phase-next x.entered k c.given)
            ∙ ap (λ e. of_phase k (from_phase e c.given)) next;
        worker = subst (stands y.worker) (λ i. record {
          protocol = c.protocol;
          phases = c.phases;
          rank = c.rank;
          entered = next i;
          absorbed = (ap (λ ls. absorbed x.entered c.given ++ ls) (is ∙ early_is) ∙ ap (λ e. absorbed e c.given) next) i;
        }) worker;
        queue = ap (λ q. c.sent ++ q) queue ∙ sym (append_assoc c.sent _ _)
            ∙ ap (λ q. q ++ map (λ n. (n, c.protocol.content n (absorbed x.entered c.given))) (names_from c.protocol.names x.entered c.rank)) h.queue
            ∙ sym (posts-next c.protocol c.phases h.laws c.rank x.entered c.given) ∙ ap (λ e. posts c.protocol c.rank e c.given) next;
      }

  -- whether a letter of a later phase was given: it waits
  pub repeat_later : (n : Name) → x.entered ≤ n.phase → (early : List Letter) → letters_of early ≡ early_at x.early n.phase → is_kept early n ≡ was_given c.given n
  repeat_later n later early is =
      sym (was_given-letters_of early n) ∙ ap (λ ls. was_given ls n) (is ∙ h.early n.phase)
      ∙ given-filter (λ m. m.phase == n.phase) n (from_phase x.entered c.given)
      ∙ (λ i. eq-eqb n.phase n.phase refl i && given-from x.entered c.given n i)
      ∙ ap (λ b. b && was_given c.given n) (le-leb x.entered n.phase later)

  -- whether a letter of the phase was given: it is not awaited
  pub repeat_here : (n : Name) → stands_in c.protocol.names n ≡ true → n.to ≡ c.rank → suc n.phase ≡ x.entered → not (stands_in x.awaited.items n) ≡ was_given c.given n
  repeat_here n named to here =
      ap (λ ns. not (stands_in ns n)) (h.awaits ∙ ap (λ e. awaited c.protocol c.rank e c.given) (sym here))
      ∙ ap not (stands_in-awaited c.protocol c.rank n.phase c.given n named to refl) ∙ twice (was_given c.given n)
    where
      twice : (b : Bool) → not (not b) ≡ b
      twice true = refl
      twice false = refl

-- a rank that has entered no phase
pub holds-start : {W : Type 0} (stands : W → Stage → Type 0) (x : Phased W) (c : Course) → c.given ≡ [] → c.sent ≡ [] → IsPhased c.protocol c.phases → stands x.worker (stage_of c 0)
    → x.phases ≡ c.phases → c.phases + 1 < 2 ^ 32 → x.entered ≡ 0 → x.failed ≡ false → x.awaited.items ≡ [] → ((k : ℕ) → early_at x.early k ≡ []) → x.queue ≡ [] → Holds stands x c
holds-start {W} stands x c given sent laws worker phases limit entered failed awaits early queue = record {
  laws = laws;
  letters = subst (AreLettersTo c.protocol c.rank) (sym given) tt;
  firsts = ap are_firsts given;
  phases = phases;
  limit = limit;
  within = omega arith;
  works = failed;
  passed = λ m named to b. absurd (omega arith);
  awaits = awaits ∙ ap (λ e. awaited c.protocol c.rank e c.given) (sym entered);
  early = λ k. early k ∙ sym (ap (λ ls. of_phase k (from_phase x.entered ls)) given);
  worker = subst (λ e. stands x.worker (stage_of c e)) (sym entered) worker;
  queue = (λ i. sent i ++ queue i) ∙ sym none;
}
  where
    none : posts c.protocol c.rank x.entered c.given ≡ []
    none = ap (map (λ n. (n, c.protocol.content n c.given))) (filter-none _ (λ n. off n.phase (n.from == c.rank)) c.protocol.names)
      where
        off : (a : ℕ) (t : Bool) → t && nat_lt a x.entered ≡ false
        off a t = grind (arith, nat_tests)

-- each of the letters can be sent
pub can_send_at : (s : Stage) (names : List Name) (i : ℕ) (d : Name) → CanSendAll s names → i < length names → CanSend s (get_or names i d)
can_send_at s [] i d all within = absurd (omega arith)
can_send_at s (n ∷ ns) zero d all within = all.0
can_send_at s (n ∷ ns) (suc i) d all within = can_send_at s ns i d all.1 (omega arith)

pub none_left : (p : Name → Bool) (ns : List Name) → list_all p ns ≡ true → filter (λ n. not (p n)) ns ≡ []
none_left p [] h = refl
none_left p (n ∷ ns) h = let q = and_parts (p n) _ h in ap (λ b. cond (not b) (n ∷ filter (λ n. not (p n)) ns) (filter (λ n. not (p n)) ns)) q.0 ∙ none_left p ns q.1

-- the phase of a rank that worked
pub phase_of : {W : Type 0} (stands : W → Stage → Type 0) (x : Phased W) (c : Course) → HasWorked stands x c → IsPhaseOf c (x.entered - 1) (is_past x)
phase_of {W} stands x c w = record {
  before = λ n named to b. w.holds.passed n named to (omega arith);
  at = λ awaits. false_from_ne_true _ (λ all. omega (arith, w.worked (none all), ltb-false x.phases x.entered awaits));
  end = λ past. let top = w.holds.within in let phases = w.holds.phases in let over = ltb-true x.phases x.entered past in omega arith;
  within = λ awaits. let some = entered in let phases = w.holds.phases in let under = ltb-false x.phases x.entered awaits in omega arith;
}
  where
    entered : 0 < x.entered
    entered = at (cases_lt 0 x.entered)
      where
        at : (0 < x.entered) ⊎ (x.entered ≤ 0) → 0 < x.entered
        at (inl some) = some
        at (inr none_yet) =
            let zero_is : x.entered ≡ 0 = omega arith in
            let none : x.awaited.items ≡ [] = w.holds.awaits ∙ ap (λ e. awaited c.protocol c.rank e c.given) zero_is in
            let past : x.phases < x.entered = w.worked none in
            omega arith

    none : list_all (was_given c.given) (names_to c.protocol.names (x.entered - 1) c.rank) ≡ true → x.awaited.items ≡ []
    none all =
        let next : x.entered ≡ suc (x.entered - 1) = let some = entered in omega arith in
        w.holds.awaits ∙ ap (λ e. awaited c.protocol c.rank e c.given) next ∙ none_left (was_given c.given) _ all
