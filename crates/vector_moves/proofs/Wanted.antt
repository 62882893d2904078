-- The classes of imports and exports, as rows that move.
use Rattle.std.proofs.Common.{◌≡◌, ℕ, zero, suc, ◌+◌, ◌<◌, ◌≤◌, Bool, true, false, cond, ◌&&◌, ◌||◌, eqb, nat_le, List, [], ◌∷◌, ◌++◌, map, Option, Some, None, refl, sym, ap, subst, ◌∙◌, arith, length, get_or}
use Rattle.std.specs.List.{filter, range_with_len}
use Rattle.std.specs.Option.{unwrap_or}
use Rattle.std.proofs.lemmas.Bool.{ne_eqb, eq-eqb, eqb-true}
use Rattle.std.proofs.lemmas.Bool.Decides.{nat_tests}
use Rattle.tables.specs.Indices.{stands, AreDistinct, AreBelow, count_from}
use Rattle.map_core.specs.Classes.{index_at, indices_at, places, place, same_count, permuted, is_permuted, is_lacked, lacked, lacked_of_each, lacked_positions, first_lacked}
use Rattle.map_core.specs.Plans.{export_list, remote_list}
use Rattle.map_core.proofs.Accepted.{AreBelow-filter, permuted-places, placed, none_lacked, places-lacked, each_at}
use Rattle.map_core.proofs.Classes.{same_count-same, same_count-le}
use Rattle.map_core.proofs.Members.{and_true, stands-filter, AreDistinct-filter, AreDistinct-append}
use Rattle.import_plan.specs.Imports.{Import, import_lists, want_of, wanted_from}
use Rattle.export_plan.specs.Exports.{Export, export_lists, offer_of, offered_to}
use Rattle.vector_moves.specs.Moves.{AreMoves, own_sources, own_targets}
use Rattle.vector_moves.proofs.Positions.{below-count, distinct-indices}

-- ---- runs of numbers

before-count : (g n k : ℕ) → g < n → stands g (count_from n k) ≡ false
before-count g n zero l = refl
before-count g n (suc k) l =
    ap (λ b. b || stands g (count_from (n + 1) k)) (ne_eqb n g (λ e. absurd (omega (arith, e, l))))
    ∙ before-count g (n + 1) k (omega (arith, l))

distinct-count : (n k : ℕ) → AreDistinct (count_from n k)
distinct-count n zero = tt
distinct-count n (suc k) = (before-count n (n + 1) k (omega arith), distinct-count (n + 1) k)

before-range : (g n k : ℕ) → g < n → stands g (range_with_len n k) ≡ false
before-range g n zero l = refl
before-range g n (suc k) l =
    ap (λ b. b || stands g (range_with_len (n + 1) k)) (ne_eqb n g (λ e. absurd (omega (arith, e, l))))
    ∙ before-range g (n + 1) k (omega (arith, l))

distinct-range : (n k : ℕ) → AreDistinct (range_with_len n k)
distinct-range n zero = tt
distinct-range n (suc k) = (before-range n (n + 1) k (omega arith), distinct-range (n + 1) k)

within-count : (g n k : ℕ) → stands g (count_from n k) ≡ true → g < n + k
within-count g n zero h = absurd (cc)
within-count g n (suc k) h = by (eqb n g) refl (within-count g (n + 1) k) h
  where
    by : (b : Bool) → eqb n g ≡ b → (stands g (count_from (n + 1) k) ≡ true → g < n + 1 + k) → (b || stands g (count_from (n + 1) k)) ≡ true → g < n + suc k
    by true e rest h = let same : n ≡ g = eqb-true n g e in omega (arith, same)
    by false e rest h = omega (arith, rest h)

-- ---- lists of positions

below-both : (n : ℕ) (xs ys : List ℕ) → AreBelow n xs → AreBelow n ys → AreBelow n (xs ++ ys)
below-both n [] ys h k = k
below-both n (x ∷ xs) ys h k = (h.0, below-both n xs ys h.1 k)

indices-both : (xs as_ bs : List ℕ) → indices_at xs (as_ ++ bs) ≡ indices_at xs as_ ++ indices_at xs bs
indices-both xs [] bs = refl
indices-both xs (a ∷ more) bs = ap (λ z. index_at xs a ∷ z) (indices-both xs more bs)

same-indices : (xs ys : List ℕ) (n k : ℕ) → ((l : ℕ) → l < n + k → index_at xs l ≡ index_at ys l) → indices_at xs (count_from n k) ≡ indices_at ys (count_from n k)
same-indices xs ys n zero h = refl
same-indices xs ys n (suc k) h = λ t. h n (omega arith) t ∷ same-indices xs ys (n + 1) k (λ l low. h l (omega (arith, low))) t

-- the held indices of permuted positions
module _ (held xs : List ℕ) where
  held-first : (a : ℕ) (ls : List ℕ) (b : Bool) → is_permuted held xs a ≡ b → indices_at held (places held (indices_at xs ls)) ≡ indices_at xs ls
      → indices_at held (places held (indices_at xs (cond b (a ∷ ls) ls))) ≡ indices_at xs (cond b (a ∷ ls) ls)
  held-first a ls true e rest =
      let here = and_true (nat_le (same_count held xs) a) (stands (index_at xs a) held) e in
      λ t. (placed held (index_at xs a) here.1).index t ∷ rest t
  held-first a ls false e rest = rest

  held-permuted : (a m : ℕ) → indices_at held (places held (indices_at xs (filter (is_permuted held xs) (range_with_len a m)))) ≡ indices_at xs (filter (is_permuted held xs) (range_with_len a m))
  held-permuted a zero = refl
  held-permuted a (suc m) = held-first a (filter (is_permuted held xs) (range_with_len (a + 1) m)) (is_permuted held xs a) refl (held-permuted (a + 1) m)

  -- a permuted position is past the same ones
  apart : (g : ℕ) → stands g (count_from 0 (same_count held xs)) ≡ true → stands g (permuted held xs) ≡ false
  apart g h =
      let low : g < 0 + same_count held xs = within-count g 0 (same_count held xs) h in
      let off : nat_le (same_count held xs) g ≡ false = grind (arith, nat_tests) in
      stands-filter g (is_permuted held xs) (range_with_len 0 (length xs))
      ∙ ap (λ b. stands g (range_with_len 0 (length xs)) && (b && stands (index_at xs g) held)) off
      ∙ never (stands g (range_with_len 0 (length xs)))
    where
      never : (b : Bool) → (b && false) ≡ false
      never true = refl
      never false = refl

-- what stays on a rank moves from the list that is held to the one that is parted
parted-moves : (held parted : List ℕ)
    → AreMoves held parted (count_from 0 (same_count held parted) ++ places held (indices_at parted (permuted held parted))) (count_from 0 (same_count held parted) ++ permuted held parted)
parted-moves held parted =
    let n = same_count held parted in
    let le = same_count-le held parted in
    let far = permuted held parted in
    record {
      sources = below-both (length held) (count_from 0 n) (places held (indices_at parted far)) (below-count (length held) 0 n (omega (arith, le.0))) (permuted-places held parted 0 (length parted));
      targets = below-both (length parted) (count_from 0 n) far (below-count (length parted) 0 n (omega (arith, le.1))) (AreBelow-filter (is_permuted held parted) 0 (length parted) (length parted) (omega arith));
      indices =
          indices-both held (count_from 0 n) (places held (indices_at parted far))
          ∙ (λ t. same-indices held parted 0 n (λ l low. (same_count-same held parted l (omega (arith, low))).index) t ++ held-permuted held parted 0 (length parted) t)
          ∙ sym (indices-both parted (count_from 0 n) far);
      once = AreDistinct-append (count_from 0 n) far (distinct-count 0 n) (AreDistinct-filter (is_permuted held parted) (range_with_len 0 (length parted)) (distinct-range 0 (length parted))) (apart held parted);
    }

each : {A B : Type 0} (f : A → B) (xs : List A) (k : ℕ) (d : A) → get_or (map f xs) k (f d) ≡ f (get_or xs k d)
each f [] k d = refl
each f (x ∷ xs) zero d = refl
each f (x ∷ xs) (suc k) d = each f xs k d

-- what one rank lacks moves from the list of another, which accepted it
lacked-moves : (held own parted : List ℕ) (owners : List (Option ℕ)) (P k m : ℕ) (lists : List (List ℕ)) (accepted : List (Option (List ℕ)))
    → AreDistinct parted → lists ≡ lacked_of_each P own parted owners → k < P → get_or accepted m None ≡ Some (get_or lists k []) → first_lacked held (get_or lists k []) ≡ None
    → AreMoves held parted (get_or (map (λ o. places held (unwrap_or o [])) accepted) m []) (get_or (map (places parted) lists) k [])
lacked-moves held own parted owners P k m lists accepted distinct lacking known heard none =
    let ls = lacked_positions own parted owners k in
    let froms : get_or (map (λ o. places held (unwrap_or o [])) accepted) m [] ≡ places held (get_or lists k []) =
    each (λ (o : Option (List ℕ)). places held (unwrap_or o [])) accepted m None ∙ ap (λ o. places held (unwrap_or o [])) heard in
    let lacks : get_or lists k [] ≡ lacked own parted owners k = ap (λ zs. get_or zs k []) lacking ∙ each_at (lacked own parted owners) P k known in
    let tos : get_or (map (places parted) lists) k [] ≡ ls = each (places parted) lists k [] ∙ ap (places parted) lacks ∙ places-lacked own parted owners k distinct in
    let are = none_lacked held (get_or lists k []) none in
    let Below : ℕ → List ℕ → Type 0 = AreBelow in
    let Distinct : List ℕ → Type 0 = AreDistinct in
    record {
      sources = subst (Below (length held)) (sym froms) are.below;
      targets = subst (Below (length parted)) (sym tos) (AreBelow-filter (is_lacked own parted owners k) 0 (length parted) (length parted) (omega arith));
      indices = ap (indices_at held) froms ∙ are.indices ∙ lacks ∙ ap (indices_at parted) (sym tos);
      once = subst Distinct (sym tos) (AreDistinct-filter (is_lacked own parted owners k) (range_with_len 0 (length parted)) (distinct-range 0 (length parted)));
    }

pub own-moves : (i : Import) → AreMoves i.source i.target (own_sources (import_lists i)) (own_targets (import_lists i))
own-moves i = parted-moves i.source i.target

pub wanted-moves : (p q : Import) (owners : List (Option ℕ)) → AreDistinct q.target → q.wanted ≡ lacked_of_each q.ranks q.source q.target owners
    → p.me < q.ranks → want_of p q.me ≡ Some (wanted_from q p.me) → first_lacked p.source (wanted_from q p.me) ≡ None
    → AreMoves p.source q.target (export_list (import_lists p) q.me) (remote_list (import_lists q) p.me)
wanted-moves p q owners = lacked-moves p.source q.source q.target owners q.ranks p.me q.me q.wanted p.wants

-- ---- the other way

stands-indices : (xs : List ℕ) (f : ℕ) (fs : List ℕ) → stands f fs ≡ true → stands (index_at xs f) (indices_at xs fs) ≡ true
stands-indices xs f [] h = absurd (cc)
stands-indices xs f (a ∷ more) h = by (eqb a f) refl (stands-indices xs f more) h
  where
    by : (b : Bool) → eqb a f ≡ b → (stands f more ≡ true → stands (index_at xs f) (indices_at xs more) ≡ true) → (b || stands f more) ≡ true
        → (eqb (index_at xs a) (index_at xs f) || stands (index_at xs f) (indices_at xs more)) ≡ true
    by true e rest h = ap (λ b. b || stands (index_at xs f) (indices_at xs more)) (eq-eqb (index_at xs a) (index_at xs f) (ap (index_at xs) (eqb-true a f e)))
    by false e rest h = ap (λ b. eqb (index_at xs a) (index_at xs f) || b) (rest h) ∙ or_true (eqb (index_at xs a) (index_at xs f))
      where
        or_true : (b : Bool) → (b || true) ≡ true
        or_true true = refl
        or_true false = refl

-- positions with distinct indices are distinct
distinct-positions : (xs froms : List ℕ) → AreDistinct (indices_at xs froms) → AreDistinct froms
distinct-positions xs [] h = tt
distinct-positions xs (f ∷ fs) h = (by (stands f fs) refl, distinct-positions xs fs h.1)
  where
    by : (b : Bool) → stands f fs ≡ b → stands f fs ≡ false
    by true e = let both : true ≡ false = sym (stands-indices xs f fs e) ∙ h.0 in absurd (cc)
    by false e = e

turned : (xs ys froms tos : List ℕ) → AreMoves xs ys froms tos → AreDistinct ys → AreMoves ys xs tos froms
turned xs ys froms tos moves d =
    let P : List ℕ → Type 0 = AreDistinct in
    record {
      sources = moves.targets;
      targets = moves.sources;
      indices = sym moves.indices;
      once = distinct-positions xs froms (subst P (sym moves.indices) (distinct-indices ys tos d moves.targets moves.once));
    }

pub exported-moves : (e : Export) → AreDistinct e.source → AreMoves e.source e.target (own_sources (export_lists e)) (own_targets (export_lists e))
exported-moves e d = turned e.target e.source _ _ (parted-moves e.target e.source) d

pub offered-moves : (p q : Export) (owners : List (Option ℕ)) → AreDistinct p.source → p.offered ≡ lacked_of_each p.ranks p.target p.source owners
    → q.me < p.ranks → offer_of q p.me ≡ Some (offered_to p q.me) → first_lacked q.target (offered_to p q.me) ≡ None
    → AreMoves p.source q.target (export_list (export_lists p) q.me) (remote_list (export_lists q) p.me)
offered-moves p q owners d lists known heard none =
    turned q.target p.source _ _ (lacked-moves q.target p.target p.source owners p.ranks q.me p.me p.offered q.offers d lists known heard none) d
