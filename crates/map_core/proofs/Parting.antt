-- Positions that are parted one after the other.
use Rattle.std.proofs.Common.{◌≡◌, ◌≢◌, ℕ, ◌+◌, ◌<◌, ◌≤◌, Bool, true, false, ◌&&◌, not, cond, if◌then◌else◌, nat_le, nat_lt, is_some, List, [], ◌∷◌, ◌++◌, map, length, get_or, Option, None, Some, slice_set, inl, inr, refl, sym, ap, ◌∙◌, arith, length-set, get_or-set_other}
use Rattle.std.specs.List.{range_with_len}
use Rattle.std.specs.Global.{Vec}
use Rattle.std.proofs.lemmas.List.{append-nil, get_or-map, map-append, map-set, same_lists}
use Rattle.std.proofs.lemmas.List.FromFn.{get_or-map-range_with_len, length-map-range_with_len}
use Rattle.std.proofs.lemmas.Bool.{cases_eq, eq-eqb, ne_eqb}
use Rattle.std.proofs.lemmas.Bool.Decides.{nat_tests}
use Rattle.std.proofs.lemmas.Grind.{get_or-set_at}
use Rattle.map_core.specs.Classes.{index_at, indices_at, place, places, same_count, is_permuted, is_lacked, owns, owner_at}
use Rattle.map_core.specs.Layouts.{stands, local_index}
use Rattle.map_core.specs.Parts.{PartLists, lists_of, pushed_to, permuted_below, lacked_below, parts_below, with_position}
use Rattle.map_core.proofs.Classes.{filter-none, filter-push, stands-same}

never : (b : Bool) → (b && false) ≡ false
never true = refl
never false = refl

module _ {X : Type 0} where
  -- an item is put at the end of one list
  pub lists_of-push : (vs : List (Vec X)) (q : ℕ) (v w : Vec X) (x : X) → q < length vs → w.items ≡ (get_or vs q v).items ++ x ∷ []
      → lists_of (slice_set vs q w) ≡ pushed_to (lists_of vs) q x
  lists_of-push vs q v w x within pushed =
      map-set (λ v. v.items) vs q w
      ∙ ap (slice_set (lists_of vs) q) (pushed ∙ ap (λ l. l ++ x ∷ []) (sym (get_or-map (λ v. v.items) vs q v [] within)))

  -- where each rank q has the list f q, and x is put at the end of one
  pub pushed_to-map : (P q : ℕ) (f g : ℕ → List X) (x : X) → q < P → g q ≡ f q ++ x ∷ [] → ((r : ℕ) → r ≢ q → g r ≡ f r)
      → pushed_to (map f (range_with_len 0 P)) q x ≡ map g (range_with_len 0 P)
  pushed_to-map P q f g x within here there =
      same_lists (pushed_to fs q x) (map g (range_with_len 0 P)) (length-set fs q (get_or fs q [] ++ x ∷ []) ∙ many f ∙ sym (many g)) each
    where
      fs : List (List X)
      fs = map f (range_with_len 0 P)

      many : (h : ℕ → List X) → length (map h (range_with_len 0 P)) ≡ P
      many h = length-map-range_with_len h 0 P

      at : (h : ℕ → List X) (k : ℕ) (d : List X) → k < P → get_or (map h (range_with_len 0 P)) k d ≡ h k
      at h k d low = get_or-map-range_with_len h 0 P k k d low (omega arith)

      each : (k : ℕ) (d : List X) → k < length (pushed_to fs q x) → get_or (pushed_to fs q x) k d ≡ get_or (map g (range_with_len 0 P)) k d
      each k d low = elim (cases_eq k q) [
        | inl e ↦
            ap (λ j. get_or (pushed_to fs q x) j d) e
            ∙ get_or-set_at fs q q (get_or fs q [] ++ x ∷ []) d refl inside
            ∙ ap (λ l. l ++ x ∷ []) (at f q [] within)
            ∙ sym here
            ∙ sym (at g q d within)
            ∙ ap (λ j. get_or (map g (range_with_len 0 P)) j d) (sym e)
        | inr e ↦ get_or-set_other fs q k (get_or fs q [] ++ x ∷ []) d e ∙ at f k d small ∙ sym (there k e) ∙ sym (at g k d small)
      ]
        where
          inside : q < length fs
          inside = let all = many f in omega arith

          small : k < P
          small = let same = length-set fs q (get_or fs q [] ++ x ∷ []) in let all = many f in omega arith

-- the place that was found is that of the index
pub place-is : (xs : List ℕ) (g l : ℕ) → Some l ≡ local_index xs g → l ≡ place xs g
place-is xs g l e = at (nat_lt (place xs g) (length xs)) e
  where
    at : (b : Bool) → Some l ≡ cond b (Some (place xs g)) None → l ≡ place xs g
    at true h = cc
    at false h = absurd (cc)

-- nothing is parted before the lists differ
pub parts_below-same : (P : ℕ) (held xs : List ℕ) (owners : List (Option ℕ)) (n : ℕ) (ps qs : List ℕ) (ls rs : List (List ℕ)) → n ≡ same_count held xs
    → ps ≡ [] → qs ≡ [] → ls ≡ map (λ _. []) (range_with_len 0 P) → rs ≡ map (λ _. []) (range_with_len 0 P)
    → record { permuted = ps; places = qs; lacked = ls; remotes = rs } ≡ parts_below P held xs owners n
parts_below-same P held xs owners n ps qs ls rs first p q l r =
    λ t. record {
      permuted = (p ∙ sym kept) t;
      places = (q ∙ ap (λ ls. places held (indices_at xs ls)) (sym kept)) t;
      lacked = (l ∙ (λ u. map (λ q. indices_at xs (sym (away q) u)) (range_with_len 0 P))) t;
      remotes = (r ∙ (λ u. map (λ q. sym (away q) u) (range_with_len 0 P))) t;
    }
  where
    kept : permuted_below held xs n ≡ []
    kept = filter-none (is_permuted held xs) n (λ k h. let low : nat_le (same_count held xs) k ≡ false = grind (arith, nat_tests) in ap (λ b. b && stands (index_at xs k) held) low)

    away : (k : ℕ) → lacked_below held xs owners n k ≡ []
    away k = filter-none (is_lacked held xs owners k) n (λ j h. ap (λ b. not b && owns (owner_at owners j) k) (stands-same held xs j (omega arith)))

-- there is a list for each rank
pub length-parts_below : (P : ℕ) (held xs : List ℕ) (owners : List (Option ℕ)) (n : ℕ) (p : PartLists) → p ≡ parts_below P held xs owners n → (length p.lacked ≡ P) × (length p.remotes ≡ P)
length-parts_below P held xs owners n p e = (
  ap (λ p. length p.lacked) e ∙ length-map-range_with_len (λ q. indices_at xs (lacked_below held xs owners n q)) 0 P,
  ap (λ p. length p.remotes) e ∙ length-map-range_with_len (lacked_below held xs owners n) 0 P,
)

module _ (P : ℕ) (held xs : List ℕ) (owners : List (Option ℕ)) (n g : ℕ) where
  permuted-next : same_count held xs ≤ n → g ≡ index_at xs n → stands g held ≡ true → permuted_below held xs n ++ n ∷ [] ≡ permuted_below held xs (n + 1)
  permuted-next past is held_it = sym (filter-push (is_permuted held xs) n ∙ ap (λ b. permuted_below held xs n ++ (if b then n ∷ [] else [])) test)
    where
      test : is_permuted held xs n ≡ true
      test = let low : nat_le (same_count held xs) n ≡ true = grind (arith, nat_tests) in ap (λ b. b && stands (index_at xs n) held) low ∙ ap (λ h. stands h held) (sym is) ∙ held_it

  permuted-stays : g ≡ index_at xs n → stands g held ≡ false → permuted_below held xs n ≡ permuted_below held xs (n + 1)
  permuted-stays is off = sym (filter-push (is_permuted held xs) n ∙ ap (λ b. permuted_below held xs n ++ (if b then n ∷ [] else [])) test ∙ append-nil (permuted_below held xs n))
    where
      test : is_permuted held xs n ≡ false
      test = ap (λ b. nat_le (same_count held xs) n && b) (ap (λ h. stands h held) (sym is) ∙ off) ∙ never (nat_le (same_count held xs) n)

  lacked-stays : (q : ℕ) → is_lacked held xs owners q n ≡ false → lacked_below held xs owners n q ≡ lacked_below held xs owners (n + 1) q
  lacked-stays q test =
      sym (filter-push (is_lacked held xs owners q) n ∙ ap (λ b. lacked_below held xs owners n q ++ (if b then n ∷ [] else [])) test ∙ append-nil (lacked_below held xs owners n q))

  lacked-next : (q : ℕ) → is_lacked held xs owners q n ≡ true → lacked_below held xs owners (n + 1) q ≡ lacked_below held xs owners n q ++ n ∷ []
  lacked-next q test = filter-push (is_lacked held xs owners q) n ∙ ap (λ b. lacked_below held xs owners n q ++ (if b then n ∷ [] else [])) test

  -- whether the position is lacked, where its index is held and where not
  held_is : (q : ℕ) → g ≡ index_at xs n → stands g held ≡ true → is_lacked held xs owners q n ≡ false
  held_is q is on = ap (λ b. not b && owns (owner_at owners n) q) (ap (λ h. stands h held) (sym is) ∙ on)

  owned_is : (q : ℕ) (owner : Option ℕ) → g ≡ index_at xs n → stands g held ≡ false → owner ≡ owner_at owners n → is_lacked held xs owners q n ≡ owns owner q
  owned_is q owner is off who = ap (λ b. not b && owns (owner_at owners n) q) (ap (λ h. stands h held) (sym is) ∙ off) ∙ ap (λ o. owns o q) (sym who)

  -- the position n is parted
  pub parts_below-next : (at owner : Option ℕ) → same_count held xs ≤ n → g ≡ index_at xs n → at ≡ local_index held g → is_some at ≡ stands g held
      → owner ≡ owner_at owners n → ((q : ℕ) → owner ≡ Some q → q < P)
      → with_position (parts_below P held xs owners n) n g at owner ≡ parts_below P held xs owners (n + 1)
  parts_below-next (Some l) owner past is found on who below =
      λ t. record {
        permuted = permuted-next past is (sym on) t;
        places = ((λ u. places held (indices_at xs (permuted_below held xs n)) ++ first u ∷ []) ∙ sym pushed ∙ ap (λ ls. places held (indices_at xs ls)) (permuted-next past is (sym on))) t;
        lacked = map (λ q. indices_at xs (lacked-stays q (held_is q is (sym on)) t)) (range_with_len 0 P);
        remotes = map (λ q. lacked-stays q (held_is q is (sym on)) t) (range_with_len 0 P);
      }
    where
      first : l ≡ place held (index_at xs n)
      first = place-is held g l found ∙ ap (place held) is

      pushed : places held (indices_at xs (permuted_below held xs n ++ n ∷ [])) ≡ places held (indices_at xs (permuted_below held xs n)) ++ place held (index_at xs n) ∷ []
      pushed = ap (map (place held)) (map-append (index_at xs) (permuted_below held xs n) (n ∷ [])) ∙ map-append (place held) (indices_at xs (permuted_below held xs n)) (index_at xs n ∷ [])
  parts_below-next None (Some q) past is found off who below =
      λ t. record {
        permuted = permuted-stays is (sym off) t;
        places = places held (indices_at xs (permuted-stays is (sym off) t));
        lacked = pushed_to-map P q (λ r. indices_at xs (lacked_below held xs owners n r)) (λ r. indices_at xs (lacked_below held xs owners (n + 1) r)) g (below q refl)
            (ap (indices_at xs) mine ∙ map-append (index_at xs) (lacked_below held xs owners n q) (n ∷ []) ∙ ap (λ h. indices_at xs (lacked_below held xs owners n q) ++ h ∷ []) (sym is))
            (λ r other. ap (indices_at xs) (theirs r other)) t;
        remotes = pushed_to-map P q (lacked_below held xs owners n) (lacked_below held xs owners (n + 1)) n (below q refl) mine theirs t;
      }
    where
      mine : lacked_below held xs owners (n + 1) q ≡ lacked_below held xs owners n q ++ n ∷ []
      mine = lacked-next q (owned_is q (Some q) is (sym off) who ∙ eq-eqb q q refl)

      theirs : (r : ℕ) → r ≢ q → lacked_below held xs owners (n + 1) r ≡ lacked_below held xs owners n r
      theirs r other = sym (lacked-stays r (owned_is r (Some q) is (sym off) who ∙ ne_eqb q r (λ e. other (sym e))))
  parts_below-next None None past is found off who below =
      λ t. record {
        permuted = permuted-stays is (sym off) t;
        places = places held (indices_at xs (permuted-stays is (sym off) t));
        lacked = map (λ q. indices_at xs (lacked-stays q (owned_is q None is (sym off) who) t)) (range_with_len 0 P);
        remotes = map (λ q. lacked-stays q (owned_is q None is (sym off) who) t) (range_with_len 0 P);
      }
