-- What each rank lacks, accepted one rank after the other.
use Rattle.std.proofs.Common.{◌≡◌, ℕ, suc, Bool, eqb, ◌+◌, ◌<◌, ◌≤◌, true, false, cond, List, [], ◌∷◌, ◌++◌, length, map, take, drop, get_or, set, Option, None, Some, All, refl, sym, ap, subst, ◌∙◌, arith}
use Rattle.std.specs.List.{range_with_len}
use Rattle.std.proofs.lemmas.Bool.{eqb-true, eqb-false}
use Rattle.std.specs.Global.{Vec}
use Rattle.std.proofs.Math.Seq.{get_or-append_seam, set-append_seam}
use Rattle.std.proofs.lemmas.List.{append-nil, drop_all, drop_more, ext_get_or, get_or-set_other, get_or-set_same, length-map, length-set, length-take-le, map-append, take_all, take_more}
use Rattle.std.proofs.lemmas.List.FromFn.{get_or-map-range_with_len, length-map-range_with_len}
use Rattle.map_core.specs.Layouts.{stands}
use Rattle.map_core.specs.Classes.{first_lacked}

abbrev pub none_each : ℕ → List (Option (List ℕ))
none_each n = map (λ _. None) (range_with_len 0 n)

abbrev pub wants_of : List (Vec ℕ) → List (Option (List ℕ))
wants_of told = map (λ v. Some v.items) told

-- those of the first ranks are accepted
abbrev pub wants_at : List (Vec ℕ) → ℕ → List (Option (List ℕ)) → List (Option (List ℕ))
wants_at told at none = wants_of (take at told) ++ drop at none

length-wants : (told : List (Vec ℕ)) (at : ℕ) → at < length told → length (wants_of (take at told)) ≡ at
length-wants told at low = length-map (take at told) (λ v. Some v.items) ∙ length-take-le at told (omega arith)

-- the next one is not
pub want-first : (told : List (Vec ℕ)) (at n : ℕ) (none : List (Option (List ℕ))) → none ≡ none_each n → length told ≡ n → at < length told
    → get_or (wants_at told at none) at None ≡ None
want-first told at n none is same low =
    let below : at < n = omega arith in
    let within : at < length none = subst (λ m. at < m) (sym (ap length is ∙ length-map-range_with_len (λ _. None) 0 n)) below in
    let nothing : get_or none at None ≡ None = ap (λ w. get_or w at None) is ∙ get_or-map-range_with_len (λ _. None) 0 n at at None below (omega arith) in
    ap (λ ws. get_or (wants_of (take at told) ++ ws) at None) (drop_more none at None within)
    ∙ ap (λ m. get_or (wants_of (take at told) ++ get_or none at None ∷ drop (at + 1) none) m None) (sym (length-wants told at low))
    ∙ get_or-append_seam (wants_of (take at told)) (get_or none at None) (drop (at + 1) none) None
    ∙ nothing

pub want-next : (told : List (Vec ℕ)) (at n : ℕ) (none : List (Option (List ℕ))) (v d : Vec ℕ) (gs : List ℕ) → none ≡ none_each n → length told ≡ n → at < length told
    → get_or told at d ≡ v → gs ≡ v.items → set (wants_at told at none) at (Some gs) ≡ wants_at told (at + 1) none
want-next told at n none v d gs is same low entry items =
    let below : at < n = omega arith in
    let within : at < length none = subst (λ m. at < m) (sym (ap length is ∙ length-map-range_with_len (λ _. None) 0 n)) below in
    let front = wants_of (take at told) in
    let rest = drop (at + 1) none in
    ap (λ ws. set (front ++ ws) at (Some gs)) (drop_more none at None within)
    ∙ ap (λ m. set (front ++ get_or none at None ∷ rest) m (Some gs)) (sym (length-wants told at low))
    ∙ set-append_seam front (get_or none at None) rest (Some gs)
    ∙ ap (λ w. front ++ Some w ∷ rest) (items ∙ ap (λ v. v.items) (sym entry))
    ∙ sym (ap (λ ws. ws ++ rest) (ap wants_of (take_more told at d low) ∙ map-append (λ v. Some v.items) (take at told) (get_or told at d ∷ []))
    ∙ again front (Some (get_or told at d).items) rest)
  where
    again : {A : Type 0} (xs : List A) (y : A) (zs : List A) → (xs ++ y ∷ []) ++ zs ≡ xs ++ y ∷ zs
    again [] y zs = refl
    again (x ∷ xs) y zs = ap (λ r. x ∷ r) (again xs y zs)

pub want-all : (told : List (Vec ℕ)) (at n : ℕ) (none : List (Option (List ℕ))) → none ≡ none_each n → length told ≡ n → length told ≤ at → wants_at told at none ≡ wants_of told
want-all told at n none is same high =
    let end : length none ≤ at = subst (λ m. m ≤ at) (sym (ap length is ∙ length-map-range_with_len (λ _. None) 0 n ∙ sym same)) high in
    (λ i. wants_of (take_all at told high i) ++ drop_all at none end i) ∙ append-nil (wants_of told)

-- a source that holds all of them
pub none-lacked : (source gs : List ℕ) → All (λ g. stands g source ≡ true) gs → first_lacked source gs ≡ None
none-lacked source [] h = refl
none-lacked source (g ∷ gs) h =
    ap (λ b. cond b (first_lacked source gs) (Some g)) (h 0 0 (omega arith)) ∙ none-lacked source gs (λ k d low. h (suc k) d (omega arith))

-- the list of one rank alone
pub set-only : (P me : ℕ) (xs : List ℕ) → me < P → set (map (λ _. []) (range_with_len 0 P)) me xs ≡ map (λ q. cond (eqb q me) xs []) (range_with_len 0 P)
set-only P me xs low = ext_get_or [] (set (map (λ _. []) (range_with_len 0 P)) me xs) (map (λ q. cond (eqb q me) xs []) (range_with_len 0 P)) lengths (λ i h. each i (subst (λ n. i < n) long h))
  where
    long : length (set (map (λ _. []) (range_with_len 0 P)) me xs) ≡ P
    long = length-set (map (λ _. []) (range_with_len 0 P)) me xs ∙ length-map-range_with_len (λ _. []) 0 P

    lengths : length (set (map (λ _. []) (range_with_len 0 P)) me xs) ≡ length (map (λ q. cond (eqb q me) xs []) (range_with_len 0 P))
    lengths = length-set (map (λ _. []) (range_with_len 0 P)) me xs ∙ length-map-range_with_len (λ _. []) 0 P ∙ sym (length-map-range_with_len (λ q. cond (eqb q me) xs []) 0 P)

    each : (i : ℕ) → i < P → get_or (set (map (λ _. []) (range_with_len 0 P)) me xs) i [] ≡ get_or (map (λ q. cond (eqb q me) xs []) (range_with_len 0 P)) i []
    each i h = by (eqb i me) refl ∙ sym (get_or-map-range_with_len (λ q. cond (eqb q me) xs []) 0 P i i [] h (omega arith))
      where
        by : (b : Bool) → eqb i me ≡ b → get_or (set (map (λ _. []) (range_with_len 0 P)) me xs) i [] ≡ cond b xs []
        by true e =
            ap (λ k. get_or (set (map (λ _. []) (range_with_len 0 P)) me xs) k []) (eqb-true i me e)
            ∙ get_or-set_same (map (λ _. []) (range_with_len 0 P)) me xs [] (subst (λ n. me < n) (sym (length-map-range_with_len (λ _. []) 0 P)) low)
        by false e = get_or-set_other (map (λ _. []) (range_with_len 0 P)) me i xs [] (eqb-false i me e) ∙ get_or-map-range_with_len (λ _. []) 0 P i i [] h (omega arith)
