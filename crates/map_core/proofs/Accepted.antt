-- Plans under construction: the places of lacked and accepted indices.
use Rattle.std.proofs.Common.{◌≡◌, ℕ, zero, suc, ◌+◌, ◌<◌, ◌≤◌, Bool, true, false, not, cond, if◌then◌else◌, ◌||◌, ◌==◌, Result, Ok, Err, IfOk, get_or, List, [], ◌∷◌, map, length, Option, None, Some, slice_set, inl, inr, refl, sym, ap, ◌∙◌, subst, length-set, arith, nat_le, ◌&&◌}
use Rattle.std.specs.List.{filter, range_with_len}
use Rattle.std.specs.Option.{unwrap_or}
use Rattle.std.specs.Global.{Vec}
use Rattle.std.proofs.lemmas.Bool.{cases_Bool, cases_eq, cases_lt, eq-eqb, ne_eqb}
use Rattle.std.proofs.lemmas.List.{get_or_past, map-set}
use Rattle.std.proofs.lemmas.List.FromFn.{get_or-map-range_with_len, length-map-range_with_len}
use Rattle.tables.specs.Indices.{AreBelow}
use Rattle.map_core.specs.Layouts.{stands, AreDistinct}
use Rattle.map_core.specs.Classes.{AreOwners, first_lacked, index_at, indices_at, is_lacked, is_permuted, lacked, lacked_of_each, lacked_positions, owner_at, owns, place, places, same_count}
use Rattle.map_core.specs.Parts.{PartLists, parts_below}
use Rattle.map_core.specs.BuilderFields.{accepted_indices, accepted_places, AreAllBelow, IsBuilder}
use Rattle.map_core.specs.PlanBuilders.{plan_of}
use Rattle.map_core.specs.Plans.{PlanLists, IsWithin, reversed}
use Rattle.map_core.proofs.Classes.{filter-none, same_count-le}
use Rattle.map_core.proofs.Places.{first_place}

-- the places of the indices at positions are these positions
pub places-indices_at : (xs ls : List ℕ) → AreDistinct xs → AreBelow (length xs) ls → places xs (indices_at xs ls) ≡ ls
places-indices_at xs [] distinct below = refl
places-indices_at xs (l ∷ ls) distinct below =
    (λ t. first_place xs l (index_at xs l) distinct below.0 refl t ∷ places-indices_at xs ls distinct below.1 t)

and_second : (a b : Bool) → (a && b) ≡ true → b ≡ true
and_second true b h = h
and_second false b h = absurd (cc)

AreBelow-first : (n a : ℕ) (xs : List ℕ) (b : Bool) → a < n → AreBelow n xs → AreBelow n (cond b (a ∷ xs) xs)
AreBelow-first n a xs true low below = (low, below)
AreBelow-first n a xs false low below = below

-- numbers that pass a test are below the end of the run that they are of
pub AreBelow-filter : (p : ℕ → Bool) (a m n : ℕ) → a + m ≤ n → AreBelow n (filter p (range_with_len a m))
AreBelow-filter p a zero n h = tt
AreBelow-filter p a (suc m) n h = AreBelow-first n a (filter p (range_with_len (a + 1) m)) (p a) (omega arith) (AreBelow-filter p (a + 1) m n (omega arith))

-- the positions of the lacked indices
pub places-lacked : (held xs : List ℕ) (owners : List (Option ℕ)) (q : ℕ) → AreDistinct xs → places xs (lacked held xs owners q) ≡ lacked_positions held xs owners q
places-lacked held xs owners q distinct =
    places-indices_at xs (lacked_positions held xs owners q) distinct (AreBelow-filter (is_lacked held xs owners q) 0 (length xs) (length xs) (omega arith))

pub places-lacked_of_each : (P : ℕ) (held xs : List ℕ) (owners : List (Option ℕ)) → AreDistinct xs
    → map (lacked_positions held xs owners) (range_with_len 0 P) ≡ map (places xs) (map (lacked held xs owners) (range_with_len 0 P))
places-lacked_of_each P held xs owners distinct = over (range_with_len 0 P)
  where
    over : (qs : List ℕ) → map (lacked_positions held xs owners) qs ≡ map (places xs) (map (lacked held xs owners) qs)
    over [] = refl
    over (q ∷ qs) = λ t. sym (places-lacked held xs owners q distinct) t ∷ over qs t

pub lacked_positions-below : (P : ℕ) (held xs : List ℕ) (owners : List (Option ℕ)) (q : ℕ)
    → AreBelow (length xs) (get_or (map (lacked_positions held xs owners) (range_with_len 0 P)) q [])
lacked_positions-below P held xs owners q = elim (cases_lt q P) [
  | inl low ↦ subst (AreBelow (length xs)) (sym (get_or-map-range_with_len (lacked_positions held xs owners) 0 P q q [] low (omega arith))) (AreBelow-filter (is_lacked held xs owners q) 0 (length xs) (length xs) (omega arith))
  | inr past ↦ subst (AreBelow (length xs)) (sym (get_or_past (map (lacked_positions held xs owners) (range_with_len 0 P)) q [] (let many = length-map-range_with_len (lacked_positions held xs owners) 0 P in omega arith))) tt
]

-- the place of an index that stands in the list
pub record IsPlaced (xs : List ℕ) (g : ℕ) : Type 0 where
  pub within : place xs g < length xs
  pub index : index_at xs (place xs g) ≡ g

pub placed : (xs : List ℕ) (g : ℕ) → stands g xs ≡ true → IsPlaced xs g
placed [] g h = absurd (cc)
placed (x ∷ xs) g h = elim (cases_eq g x) [
  | inl e ↦
      let first : place (x ∷ xs) g ≡ 0 = ap (λ b. cond (not b) (1 + place xs g) 0) (eq-eqb g x e) in
      record { within = omega arith; index = ap (index_at (x ∷ xs)) first ∙ sym e }
  | inr e ↦
      let other : (x == g) ≡ false = ne_eqb x g (λ d. e (sym d)) in
      let rest = placed xs g (sym (ap (λ b. b || stands g xs) other) ∙ h) in
      let next : place (x ∷ xs) g ≡ suc (place xs g) = ap (λ b. cond (not b) (1 + place xs g) 0) (ne_eqb g x e) ∙ omega arith in
      let low = rest.within in
      record { within = omega arith; index = ap (index_at (x ∷ xs)) next ∙ rest.index }
]

-- the places of permuted indices are in the held list
permuted-first : (held xs : List ℕ) (a : ℕ) (ls : List ℕ) (b : Bool) → is_permuted held xs a ≡ b → AreBelow (length held) (places held (indices_at xs ls))
    → AreBelow (length held) (places held (indices_at xs (cond b (a ∷ ls) ls)))
permuted-first held xs a ls true e below = ((placed held (index_at xs a) (and_second (nat_le (same_count held xs) a) (stands (index_at xs a) held) e)).within, below)
permuted-first held xs a ls false e below = below

pub permuted-places : (held xs : List ℕ) (a m : ℕ) → AreBelow (length held) (places held (indices_at xs (filter (is_permuted held xs) (range_with_len a m))))
permuted-places held xs a zero = tt
permuted-places held xs a (suc m) = permuted-first held xs a (filter (is_permuted held xs) (range_with_len (a + 1) m)) (is_permuted held xs a) refl (permuted-places held xs (a + 1) m)

-- where no index is lacked, the places are those of held indices
pub record ArePlaced (held gs : List ℕ) : Type 0 where
  pub below : AreBelow (length held) (places held gs)
  pub indices : indices_at held (places held gs) ≡ gs

pub none_lacked : (held gs : List ℕ) → first_lacked held gs ≡ None → ArePlaced held gs
none_lacked held [] h = record { below = tt; indices = refl }
none_lacked held (g ∷ gs) h = elim (cases_Bool (stands g held)) [
  | inl e ↦
      let here = placed held g e in
      let rest = none_lacked held gs (sym (ap (λ b. if b then first_lacked held gs else Some g) e) ∙ h) in
      record { below = (here.within, rest.below); indices = λ t. here.index t ∷ rest.indices t }
  | inr e ↦ let some : Some g ≡ None = sym (ap (λ b. if b then first_lacked held gs else Some g) e) ∙ h in absurd (cc)
]

-- one more index is looked for
pub first_lacked-held : (held gs : List ℕ) (g : ℕ) → stands g held ≡ true → first_lacked held (g ∷ gs) ≡ first_lacked held gs
first_lacked-held held gs g e = ap (λ b. if b then first_lacked held gs else Some g) e

pub first_lacked-not_held : (held gs : List ℕ) (g : ℕ) → stands g held ≡ false → first_lacked held (g ∷ gs) ≡ Some g
first_lacked-not_held held gs g e = ap (λ b. if b then first_lacked held gs else Some g) e

-- no rank was heard
pub AreAllBelow-none : (n a m : ℕ) → AreAllBelow n (map (λ _. None) (range_with_len a m))
AreAllBelow-none n a zero = tt
AreAllBelow-none n a (suc m) = (tt, AreAllBelow-none n (a + 1) m)

pub accepted-none : (held : List ℕ) (a m : ℕ) → map (accepted_indices held) (map (λ _. None) (range_with_len a m)) ≡ map (λ _. None) (range_with_len a m)
accepted-none held a zero = refl
accepted-none held a (suc m) = ap (λ ps. None ∷ ps) (accepted-none held (a + 1) m)

-- a rank was heard
pub AreAllBelow-set : (n : ℕ) (ps : List (Option (Vec ℕ))) (q : ℕ) (v : Vec ℕ) → AreAllBelow n ps → AreBelow n v.items → AreAllBelow n (slice_set ps q (Some v))
AreAllBelow-set n [] q v h below = h
AreAllBelow-set n (p ∷ ps) zero v h below = (below, h.1)
AreAllBelow-set n (p ∷ ps) (suc q) v h below = (h.0, AreAllBelow-set n ps q v h.1 below)

-- the places of what was accepted
pub accepted_places-is : (held : List ℕ) (ps : List (Option (Vec ℕ))) → AreDistinct held → AreAllBelow (length held) ps
    → map accepted_places ps ≡ map (λ a. places held (unwrap_or a [])) (map (accepted_indices held) ps)
accepted_places-is held [] distinct below = refl
accepted_places-is held (None ∷ ps) distinct below = ap (λ ls. [] ∷ ls) (accepted_places-is held ps distinct below.1)
accepted_places-is held (Some v ∷ ps) distinct below = λ t. sym (places-indices_at held v.items distinct below.0) t ∷ accepted_places-is held ps distinct below.1 t

pub accepted_places-below : (n : ℕ) (ps : List (Option (Vec ℕ))) (q : ℕ) → AreAllBelow n ps → AreBelow n (get_or (map accepted_places ps) q [])
accepted_places-below n [] q below = tt
accepted_places-below n (p ∷ ps) zero below = below.0
accepted_places-below n (p ∷ ps) (suc q) below = accepted_places-below n ps q below.1

pub accepted-set : (held : List ℕ) (ps : List (Option (Vec ℕ))) (q : ℕ) (v : Vec ℕ) (gs : List ℕ) → indices_at held v.items ≡ gs
    → map (accepted_indices held) (slice_set ps q (Some v)) ≡ slice_set (map (accepted_indices held) ps) q (Some gs)
accepted-set held ps q v gs e = map-set (accepted_indices held) ps q (Some v) ∙ ap (λ gs. slice_set (map (accepted_indices held) ps) q (Some gs)) e

-- what is kept at the start
pub IsBuilder-start : (me ranks same : ℕ) (held parted h p : List ℕ) (owners : List (Option ℕ)) (parts : PartLists) (accepted : List (Option (Vec ℕ)))
    → h ≡ held → p ≡ parted → me < ranks → ranks ≤ 32 → AreDistinct held → AreDistinct parted → same ≡ same_count held parted
    → parts ≡ parts_below ranks held parted owners (length parted) → accepted ≡ map (λ _. None) (range_with_len 0 ranks)
    → IsBuilder me ranks same h p parts accepted
IsBuilder-start me ranks same held parted h p owners parts accepted is_held is_parted known limit one two same_positions parted_all none =
    subst (λ h. IsBuilder me ranks same h p parts accepted) (sym is_held)
    (subst (λ p. IsBuilder me ranks same held p parts accepted) (sym is_parted)
    (record {
      known = known;
      ranks_limit = limit;
      distinct = one;
      same_positions = same_positions;
      permuted_positions = ap (λ ps. ps.permuted) parted_all;
      permuted_places = ap (λ ps. ps.places) parted_all;
      remote_positions = ap (λ ps. ps.remotes) parted_all ∙ places-lacked_of_each ranks held parted owners two ∙ ap (λ ps. map (places parted) ps.lacked) (sym parted_all);
      remotes_below = λ q. subst (λ ps. AreBelow (length parted) (get_or ps.remotes q [])) (sym parted_all) (lacked_positions-below ranks held parted owners q);
      lacked_of_each = ap (λ ps. length ps.lacked) parted_all ∙ length-map-range_with_len (lacked held parted owners) 0 ranks;
      accepted_of_each = ap length none ∙ length-map-range_with_len (λ _. None) 0 ranks;
      accepted_below = subst (AreAllBelow (length held)) (sym none) (AreAllBelow-none (length held) 0 ranks);
    }))

-- what is kept where a rank was heard
pub IsBuilder-set : (me ranks same : ℕ) (held parted : List ℕ) (parts : PartLists) (accepted : List (Option (Vec ℕ))) (q : ℕ) (v : Vec ℕ)
    → IsBuilder me ranks same held parted parts accepted → AreBelow (length held) v.items → IsBuilder me ranks same held parted parts (slice_set accepted q (Some v))
IsBuilder-set me ranks same held parted parts accepted q v kept below =
    record {
      known = kept.known;
      ranks_limit = kept.ranks_limit;
      distinct = kept.distinct;
      same_positions = kept.same_positions;
      permuted_positions = kept.permuted_positions;
      permuted_places = kept.permuted_places;
      remote_positions = kept.remote_positions;
      remotes_below = kept.remotes_below;
      lacked_of_each = kept.lacked_of_each;
      accepted_of_each = length-set accepted q (Some v) ∙ kept.accepted_of_each;
      accepted_below = AreAllBelow-set (length held) accepted q v kept.accepted_below below;
    }

-- the lists that are kept are those of the plan
pub plan_of-is : (me ranks same : ℕ) (held parted : List ℕ) (parts : PartLists) (accepted : List (Option (Vec ℕ))) (to from : List ℕ) (es rs : List (List ℕ))
    → IsBuilder me ranks same held parted parts accepted → to ≡ parts.permuted → from ≡ parts.places → es ≡ map accepted_places accepted → rs ≡ parts.remotes
    → record { me = me; ranks = ranks; same = same; permute_to = to; permute_from = from; exports = es; remotes = rs }
    ≡ plan_of (record { me = me; ranks = ranks; held = held; parted = parted; lacked = parts.lacked; accepted = map (accepted_indices held) accepted })
plan_of-is me ranks same held parted parts accepted to from es rs kept t f e r =
    λ u. record {
      me = me;
      ranks = ranks;
      same = kept.same_positions u;
      permute_to = (t ∙ kept.permuted_positions) u;
      permute_from = (f ∙ kept.permuted_places) u;
      exports = (e ∙ accepted_places-is held accepted kept.distinct kept.accepted_below) u;
      remotes = (r ∙ kept.remote_positions) u;
    }

-- its positions are in both lists
pub IsWithin-plan_of : (me ranks same : ℕ) (held parted : List ℕ) (parts : PartLists) (accepted : List (Option (Vec ℕ)))
    → IsBuilder me ranks same held parted parts accepted
    → IsWithin (length held) (length parted) (plan_of (record { me = me; ranks = ranks; held = held; parted = parted; lacked = parts.lacked; accepted = map (accepted_indices held) accepted }))
IsWithin-plan_of me ranks same held parted parts accepted kept =
    record {
      same_sources = (same_count-le held parted).0;
      same_targets = (same_count-le held parted).1;
      permuted_sources = permuted-places held parted 0 (length parted);
      permuted_targets = AreBelow-filter (is_permuted held parted) 0 (length parted) (length parted) (omega arith);
      export_sources = λ q. subst (λ ls. AreBelow (length held) (get_or ls q [])) (accepted_places-is held accepted kept.distinct kept.accepted_below) (accepted_places-below (length held) accepted q kept.accepted_below);
      remote_targets = λ q. subst (λ ls. AreBelow (length parted) (get_or ls q [])) kept.remote_positions (kept.remotes_below q);
    }

-- on the way back source and target are exchanged
pub IsWithin-reversed : (m n : ℕ) (p : PlanLists) → IsWithin m n p → IsWithin n m (reversed p)
IsWithin-reversed m n p h =
    record {
      same_sources = h.same_targets;
      same_targets = h.same_sources;
      permuted_sources = h.permuted_targets;
      permuted_targets = h.permuted_sources;
      export_sources = h.remote_targets;
      remote_targets = h.export_sources;
    }

-- what an answer is has what that value has
pub ok_along : {T E : Type 0} (P : T → Type 0) (x : T) (r : Result T E) → P x → IfOk r (λ y. y ≡ x) → IfOk r P
ok_along P x (Ok y) h e = subst P (sym e) h
ok_along P x (Err y) h e = e

-- a list for each rank, at a rank
pub each_at : (f : ℕ → List ℕ) (P q : ℕ) → q < P → get_or (map f (range_with_len 0 P)) q [] ≡ f q
each_at f P q low = get_or-map-range_with_len f 0 P q q [] low (omega arith)

-- the lists of positions of the lacked indices
pub remotes-lacked : (P : ℕ) (held xs : List ℕ) (owners : List (Option ℕ)) (ls : List (List ℕ)) → AreDistinct xs → ls ≡ lacked_of_each P held xs owners
    → map (places xs) ls ≡ map (lacked_positions held xs owners) (range_with_len 0 P)
remotes-lacked P held xs owners ls distinct e = ap (map (places xs)) e ∙ sym (places-lacked_of_each P held xs owners distinct)

-- a rank lacks nothing that it owns itself
pub none_of_own : (me P : ℕ) (held xs : List ℕ) (owners : List (Option ℕ)) (ls : List (List ℕ)) → AreOwners me P held xs owners → ls ≡ lacked_of_each P held xs owners → get_or ls me [] ≡ []
none_of_own me P held xs owners ls owned e = ap (λ ls. get_or ls me []) e ∙ elim (cases_lt me P) [
  | inl known ↦
      each_at (lacked held xs owners) P me known
      ∙ ap (indices_at xs) (filter-none (is_lacked held xs owners me) (length xs) (λ l low. own l low (owner_at owners l) (stands (index_at xs l) held) refl refl))
  | inr past ↦ get_or_past (lacked_of_each P held xs owners) me [] (let many = length-map-range_with_len (lacked held xs owners) 0 P in omega arith)
]
  where
    own : (l : ℕ) → l < length xs → (o : Option ℕ) (b : Bool) → owner_at owners l ≡ o → stands (index_at xs l) held ≡ b → is_lacked held xs owners me l ≡ false
    own l low o true e h = ap (λ b. not b && owns (owner_at owners l) me) h
    own l low None false e h = (λ t. not (h t) && owns (e t) me)
    own l low (Some p) false e h = elim (cases_eq p me) [
      | inl mine ↦ let on = (owned.mine l low).1 (e ∙ ap Some mine) in absurd (cc)
      | inr other ↦ (λ t. not (h t) && owns (e t) me) ∙ ne_eqb p me other
    ]
