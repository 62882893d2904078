-- The indices of all lists together: whether one stands twice, and whether none is missing.
use Rattle.std.proofs.Common.{◌≡◌, ℕ, zero, suc, ◌+◌, ◌<◌, ◌≤◌, ◌↔◌, true, false, ◌==◌, ◌⊎◌, List, [], ◌∷◌, ◌++◌, map, length, take, get_or, nat_eq, inl, inr, sym, ap, ◌∙◌, subst, arith}
use Rattle.std.specs.List.{concat, list_any, range_with_len, IsDistinct}
use Rattle.std.specs.Set.{distinct_count, is_member}
use Rattle.std.proofs.lemmas.Bool.{cases_Bool, cases_lt, eq-eqb, eqb-true, or_cases}
use Rattle.std.proofs.lemmas.Cmp.{nat_eq_equiv}
use Rattle.std.proofs.lemmas.List.{append-nil, get_or_past, map-append, take_more}
use Rattle.std.proofs.lemmas.List.Folds.{concat-append}
use Rattle.std.proofs.lemmas.List.FromFn.{length-range_with_len}
use Rattle.std.proofs.lemmas.Map.Keys.{IsDistinct-cons}
use Rattle.std.proofs.lemmas.Map.Made.{IsDistinct-from_count, distinct_count-from_IsDistinct, length-from_keys, length-from_same_keys}
use Rattle.std.proofs.lemmas.Map.Steps.{length-le_from_distinct_below}
use Rattle.map_core.specs.Layouts.{stands, AreDistinct, IsLayout}
use Rattle.map_core.specs.Faults.{IsSound}
use Rattle.map_core.specs.Checked.{IsChecked}
use Rattle.map_core.proofs.Members.{stands-append, stands-list_any, AreDistinct-from_set, AreDistinct-to_set, none_equal}
use Rattle.map_core.proofs.Runs.{stands_in_run, past_run, AreDistinct-run}

-- the lists of the first places, and one more
pub concat_more : {X : Type 0} (f : X → List ℕ) (ls : List X) (i : ℕ) (x : X) → i < length ls → x ≡ get_or ls i x
    → concat (map f (take (i + 1) ls)) ≡ concat (map f (take i ls)) ++ f x
concat_more f ls i x h is =
    ap (λ ys. concat (map f ys)) (take_more ls i x h)
    ∙ ap concat (map-append f (take i ls) (get_or ls i x ∷ []))
    ∙ concat-append (map f (take i ls)) (f (get_or ls i x) ∷ [])
    ∙ ap (λ ys. concat (map f (take i ls)) ++ ys) (append-nil (f (get_or ls i x)) ∙ ap f (sym is))

-- the list at a place, and the maps of the first places after one more is pushed
pub list_at : {Y : Type 0} (f : Y → List ℕ) (ls : List Y) (i : ℕ) (y : Y) → i < length ls → y ≡ get_or ls i y → get_or (map f ls) i [] ≡ f y
list_at f [] i y h is = absurd (omega arith)
list_at f (l ∷ ls) zero y h is = ap f (sym is)
list_at f (l ∷ ls) (suc i) y h is = list_at f ls i y (omega arith) is

pub maps_push : {X Y : Type 0} (value : X → List ℕ) (f : Y → List ℕ) (before after : List X) (x : X) (ls : List Y) (i : ℕ) (y : Y)
    → i < length ls → y ≡ get_or ls i y → after ≡ before ++ x ∷ [] → map value before ≡ map f (take i ls) → value x ≡ f y
    → map value after ≡ map f (take (i + 1) ls)
maps_push value f before after x ls i y h is pushed kept same =
    ap (map value) pushed
    ∙ map-append value before (x ∷ [])
    ∙ ap (λ xs. xs ++ value x ∷ []) kept
    ∙ ap (λ l. map f (take i ls) ++ l ∷ []) (same ∙ ap f is)
    ∙ sym (map-append f (take i ls) (get_or ls i y ∷ []))
    ∙ ap (map f) (sym (take_more ls i y h))

-- what stands in the lists together stands in one of them
pub record IsIn (ls : List (List ℕ)) (g : ℕ) : Type 0 where
  pub rank : ℕ
  pub known : rank < length ls
  pub on : stands g (get_or ls rank []) ≡ true

pub list_with : (g : ℕ) (ls : List (List ℕ)) → stands g (concat ls) ≡ true → IsIn ls g
list_with g [] h = absurd (cc)
list_with g (l ∷ ls) h = elim (or_cases (stands g l) (stands g (concat ls)) (sym (stands-append g l (concat ls)) ∙ h)) [
  | inl here ↦ record { rank = 0; known = omega arith; on = here }
  | inr there ↦
      let rest = list_with g ls there in
      let known = rest.known in
      record { rank = suc rest.rank; known = omega arith; on = rest.on }
]

-- the lists of all ranks are sound, also where there is no such rank
abbrev pub AreSound : ℕ → List (List ℕ) → Type 0
AreSound size ls = (p : ℕ) → p < length ls → IsSound size (get_or ls p [])

pub is_layout-sound : (size : ℕ) (ls : List (List ℕ)) → AreSound size ls → IsLayout (record { size = size; lists = ls })
is_layout-sound size ls sound = record { distinct = distinct; below = below }
  where
    distinct : (p : ℕ) → AreDistinct (get_or ls p [])
    distinct p = elim (cases_lt p (length ls)) [
      | inl within ↦ (sound p within).distinct
      | inr past ↦ subst AreDistinct (sym (get_or_past ls p [] past)) tt
    ]

    below : (p g : ℕ) → stands g (get_or ls p []) ≡ true → g < size
    below p g h = elim (cases_lt p (length ls)) [
      | inl within ↦ (sound p within).below g h
      | inr past ↦ let off : stands g (get_or ls p []) ≡ false = ap (stands g) (get_or_past ls p [] past) in absurd (cc)
    ]

pub below-sound : (size : ℕ) (ls : List (List ℕ)) (g : ℕ) → AreSound size ls → stands g (concat ls) ≡ true → g < size
below-sound size ls g sound h = let w = list_with g ls h in (sound w.rank w.known).below g w.on

-- a set that has the numbers of a list
abbrev pub HasMembers : List ℕ → List ℕ → Type 0
HasMembers keys xs = (g : ℕ) → stands g keys ≡ stands g xs

members_of : (keys xs : List ℕ) → HasMembers keys xs → (q : ℕ) → is_member nat_eq keys q ≡ is_member nat_eq xs q
members_of keys xs same q = stands-list_any q keys ∙ same q ∙ sym (stands-list_any q xs)

-- it has as many as the list exactly where none stands twice in the list
pub distinct_by_count : (keys xs : List ℕ) (count : ℕ) → IsDistinct nat_eq keys → HasMembers keys xs → count ≡ length xs
    → (nat_eq (length keys) count ≡ true) ↔ AreDistinct xs
distinct_by_count keys xs count unique same counted = (there, back)
  where
    once : length keys ≡ distinct_count nat_eq xs
    once = length-from_keys nat_eq_equiv keys xs unique (members_of keys xs same)

    there : nat_eq (length keys) count ≡ true → AreDistinct xs
    there e =
        let all : distinct_count nat_eq xs ≡ length xs = sym once ∙ eqb-true (length keys) count e ∙ counted in
        AreDistinct-from_set xs (IsDistinct-from_count nat_eq_equiv xs all)

    back : AreDistinct xs → nat_eq (length keys) count ≡ true
    back h = eq-eqb (length keys) count (once ∙ distinct_count-from_IsDistinct nat_eq_equiv xs (AreDistinct-to_set xs h) ∙ sym counted)

-- numbers below the size are all of these exactly where there are as many
pub total_by_count : (keys xs : List ℕ) (size : ℕ) → IsDistinct nat_eq keys → HasMembers keys xs → ((g : ℕ) → stands g xs ≡ true → g < size)
    → (nat_eq (length keys) size ≡ true) ↔ ((g : ℕ) → g < size → stands g xs ≡ true)
total_by_count keys xs size unique same below = (there, back)
  where
    there : nat_eq (length keys) size ≡ true → (g : ℕ) → g < size → stands g xs ≡ true
    there e g h = elim (cases_Bool (stands g keys)) [
      | inl on ↦ sym (same g) ∙ on
      | inr off ↦
          let many : length keys ≡ size = eqb-true (length keys) size e in
          let more : IsDistinct nat_eq (g ∷ keys) = IsDistinct-cons nat_eq g keys (none_equal g keys off) unique in
          let low : (q : ℕ) → list_any (nat_eq q) (g ∷ keys) ≡ true → q < size = λ q at. lower q (or_cases (g == q) (stands q keys) (sym (stands-list_any q (g ∷ keys)) ∙ at)) h in
          let few : length (g ∷ keys) ≤ size = length-le_from_distinct_below (g ∷ keys) size more low in
          absurd (omega arith)
    ]
      where
        lower : (q : ℕ) → ((g == q) ≡ true) ⊎ (stands q keys ≡ true) → g < size → q < size
        lower q (inl here) within = let at : g ≡ q = eqb-true g q here in omega arith
        lower q (inr on) within = below q (sym (same q) ∙ on)

    all_members : ((g : ℕ) → g < size → stands g xs ≡ true) → HasMembers keys (range_with_len 0 size)
    all_members total g = elim (cases_lt g size) [
      | inl low ↦ same g ∙ total g low ∙ sym (stands_in_run g 0 size (omega arith) (omega arith))
      | inr high ↦ elim (cases_Bool (stands g xs)) [
        | inl on ↦ let low = below g on in absurd (omega arith)
        | inr off ↦ same g ∙ off ∙ sym (past_run g 0 size (omega arith))
      ]
    ]

    back : ((g : ℕ) → g < size → stands g xs ≡ true) → nat_eq (length keys) size ≡ true
    back total =
        let run = range_with_len 0 size in
        let many : length keys ≡ length run = length-from_same_keys nat_eq_equiv keys run unique (AreDistinct-to_set run (AreDistinct-run 0 size)) (members_of keys run (all_members total)) in
        eq-eqb (length keys) size (many ∙ length-range_with_len 0 size)

-- a layout of sound lists, with what the set of all their indices tells of it
pub checked_by_count : (size : ℕ) (ls : List (List ℕ)) (keys : List ℕ) (count : ℕ) → 1 ≤ length ls → length ls ≤ 32 → AreSound size ls
    → IsDistinct nat_eq keys → HasMembers keys (concat ls) → count ≡ length (concat ls)
    → IsChecked (record { size = size; lists = ls }) (nat_eq (length keys) count) (nat_eq (length keys) size)
checked_by_count size ls keys count some few sound unique same counted = record {
  some_rank = some;
  ranks_limit = few;
  is_layout = is_layout-sound size ls sound;
  one_to_one = distinct_by_count keys (concat ls) count unique same counted;
  total = total_by_count keys (concat ls) size unique same (λ g h. below-sound size ls g sound h);
}
