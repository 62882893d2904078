-- Rows that stand one after the other in one list.
use Rattle.std.proofs.Common.{◌≡◌, ℕ, zero, suc, ◌+◌, ◌-◌, ◌<◌, ◌≤◌, List, [], ◌∷◌, ◌++◌, length, get_or, take, drop, map, slice_range, refl, sym, ap, ◌∙◌, arith, append_assoc, length-append}
use Rattle.std.proofs.lemmas.List.{append-nil, map_more, map-append}
use Rattle.std.proofs.Math.Seq.{drop-append_seam, take-append_seam}
use Rattle.crs_graph.specs.Packed.{joined, offsets_from, offsets_of, slices, slices_from, IsPacked}

-- the first row, and those after it
slices_first : {A : Type 0} (n m : ℕ) (rs : List (List A)) (xs : List A) → slices_from n (offsets_from m rs) xs ≡ slice_range xs n m ∷ slices (offsets_from m rs) xs
slices_first n m [] xs = refl
slices_first n m (r ∷ rs) xs = refl

row_in : {A : Type 0} (pre r xs : List A) (n : ℕ) → n ≡ length pre → slice_range (pre ++ (r ++ xs)) n (n + length r) ≡ r
row_in pre r xs n e =
    let count : n + length r - n ≡ length r = omega arith in
    ap (λ k. take k (drop n (pre ++ (r ++ xs)))) count
    ∙ ap (λ k. take (length r) (drop k (pre ++ (r ++ xs)))) e
    ∙ ap (take (length r)) (drop-append_seam pre (r ++ xs))
    ∙ take-append_seam r xs

slices_after : {A : Type 0} (pre : List A) (n : ℕ) (rs : List (List A)) → n ≡ length pre → slices (offsets_from n rs) (pre ++ joined rs) ≡ rs
slices_after pre n [] e = refl
slices_after pre n (r ∷ rs) e =
    slices_first n (n + length r) rs (pre ++ (r ++ joined rs))
    ∙ (λ t. row_in pre r (joined rs) n e t
    ∷ (ap (slices (offsets_from (n + length r) rs)) (sym (append_assoc pre r (joined rs)))
    ∙ slices_after (pre ++ r) (n + length r) rs (ap (λ k. k + length r) e ∙ sym (length-append pre r))) t)

-- rows are determined by their offsets and what stands in them
pub slices-packed : {A : Type 0} (os : List ℕ) (xs : List A) (rs : List (List A)) → os ≡ offsets_of rs → xs ≡ joined rs → slices os xs ≡ rs
slices-packed os xs rs e f = (λ t. slices (e t) (f t)) ∙ slices_after [] 0 rs refl

pub IsPacked-of : {A : Type 0} (os : List ℕ) (xs : List A) (rs : List (List A)) → os ≡ offsets_of rs → xs ≡ joined rs → IsPacked os xs
IsPacked-of os xs rs e f = record {
  begin = e ∙ ap offsets_of (sym (slices-packed os xs rs e f));
  all = f ∙ ap joined (sym (slices-packed os xs rs e f));
}

-- one more row
pub joined-push : {A : Type 0} (rs : List (List A)) (r : List A) → joined (rs ++ r ∷ []) ≡ joined rs ++ r
joined-push [] r = append-nil r
joined-push (q ∷ rs) r = ap (λ xs. q ++ xs) (joined-push rs r) ∙ sym (append_assoc q (joined rs) r)

offsets_push : {A : Type 0} (n : ℕ) (rs : List (List A)) (r : List A) (m : ℕ) → m ≡ n + length (joined rs ++ r) → offsets_from n (rs ++ r ∷ []) ≡ offsets_from n rs ++ m ∷ []
offsets_push n [] r m e = ap (λ k. n ∷ k ∷ []) (sym e)
offsets_push n (q ∷ rs) r m e =
    ap (λ os. n ∷ os) (offsets_push (n + length q) rs r m
    (let all = length-append q (joined rs ++ r) in
    let split : length ((q ++ joined rs) ++ r) ≡ length (q ++ (joined rs ++ r)) = ap length (append_assoc q (joined rs) r) in
    omega arith))

pub offsets-push : {A : Type 0} (rs : List (List A)) (r : List A) (m : ℕ) → m ≡ length (joined rs ++ r) → offsets_of (rs ++ r ∷ []) ≡ offsets_of rs ++ m ∷ []
offsets-push rs r m e = offsets_push 0 rs r m (omega arith)

pub length-offsets : {A : Type 0} (n : ℕ) (rs : List (List A)) → length (offsets_from n rs) ≡ suc (length rs)
length-offsets n [] = refl
length-offsets n (r ∷ rs) = let rest = length-offsets (n + length r) rs in omega arith

pub first_offset : {A : Type 0} (n : ℕ) (rs : List (List A)) → get_or (offsets_from n rs) 0 0 ≡ n
first_offset n [] = refl
first_offset n (r ∷ rs) = refl

-- where the next row begins
pub offset-next : {A : Type 0} (n : ℕ) (rs : List (List A)) (l : ℕ) → l < length rs → get_or (offsets_from n rs) (suc l) 0 ≡ get_or (offsets_from n rs) l 0 + length (get_or rs l [])
offset-next n [] l low = absurd (omega arith)
offset-next n (r ∷ rs) zero low = first_offset (n + length r) rs
offset-next n (r ∷ rs) (suc l) low = offset-next (n + length r) rs l (omega arith)

pub offset-within : {A : Type 0} (n : ℕ) (rs : List (List A)) (l : ℕ) → l ≤ length rs → get_or (offsets_from n rs) l 0 ≤ n + length (joined rs)
offset-within n [] zero low = omega arith
offset-within n [] (suc l) low = absurd (omega arith)
offset-within n (r ∷ rs) zero low = omega arith
offset-within n (r ∷ rs) (suc l) low =
    let rest = offset-within (n + length r) rs l (omega arith) in
    let all = length-append r (joined rs) in
    omega arith

pub offset-last : {A : Type 0} (n : ℕ) (rs : List (List A)) → get_or (offsets_from n rs) (length rs) 0 ≡ n + length (joined rs)
offset-last n [] = omega arith
offset-last n (r ∷ rs) =
    let rest = offset-last (n + length r) rs in
    let all = length-append r (joined rs) in
    omega arith

-- a row between its offsets
slices_from-at : {A : Type 0} (o : ℕ) (os : List ℕ) (xs : List A) (l : ℕ) → l < length os → get_or (slices_from o os xs) l [] ≡ slice_range xs (get_or (o ∷ os) l 0) (get_or os l 0)
slices_from-at o [] xs l low = absurd (omega arith)
slices_from-at o (p ∷ ps) xs zero low = refl
slices_from-at o (p ∷ ps) xs (suc l) low = slices_from-at p ps xs l (omega arith)

pub slices-at : {A : Type 0} (os : List ℕ) (xs : List A) (l : ℕ) → suc l < length os → get_or (slices os xs) l [] ≡ slice_range xs (get_or os l 0) (get_or os (suc l) 0)
slices-at [] xs l low = absurd (omega arith)
slices-at (o ∷ os) xs l low = slices_from-at o os xs l (omega arith)

-- rows of numbers that are each changed in the same way
slices_from-map : {A B : Type 0} (f : A → B) (o : ℕ) (os : List ℕ) (xs : List A) → slices_from o os (map f xs) ≡ map (map f) (slices_from o os xs)
slices_from-map f o [] xs = refl
slices_from-map {A = A} f o (p ∷ ps) xs = (λ t. range_map t ∷ slices_from-map f p ps xs t)
  where
    drop_map : (n : ℕ) (ys : List A) → drop n (map f ys) ≡ map f (drop n ys)
    drop_map zero ys = refl
    drop_map (suc n) [] = refl
    drop_map (suc n) (y ∷ ys) = drop_map n ys

    take_map : (n : ℕ) (ys : List A) → take n (map f ys) ≡ map f (take n ys)
    take_map zero ys = refl
    take_map (suc n) [] = refl
    take_map (suc n) (y ∷ ys) = ap (λ zs. f y ∷ zs) (take_map n ys)

    range_map : slice_range (map f xs) o p ≡ map f (slice_range xs o p)
    range_map = ap (take (p - o)) (drop_map o xs) ∙ take_map (p - o) (drop o xs)

pub slices-map : {A B : Type 0} (f : A → B) (os : List ℕ) (xs : List A) → slices os (map f xs) ≡ map (map f) (slices os xs)
slices-map f [] xs = refl
slices-map f (o ∷ os) xs = slices_from-map f o os xs

-- the lists with one more row
pub record IsPushed {A : Type 0} (os : List ℕ) (xs r : List A) (ps : List ℕ) (ys : List A) : Type 0 where
  pub rows : slices ps ys ≡ slices os xs ++ r ∷ []
  pub packed : IsPacked ps ys

pub pushed : {A : Type 0} (os : List ℕ) (xs r : List A) (ps : List ℕ) (ys : List A) (m : ℕ) → IsPacked os xs → ys ≡ xs ++ r → m ≡ length ys → ps ≡ os ++ m ∷ [] → IsPushed os xs r ps ys
pushed os xs r ps ys m kept e f g =
    let rs = slices os xs in
    let all : ys ≡ joined (rs ++ r ∷ []) = e ∙ ap (λ zs. zs ++ r) kept.all ∙ sym (joined-push rs r) in
    let begin : ps ≡ offsets_of (rs ++ r ∷ []) = g ∙ ap (λ qs. qs ++ m ∷ []) kept.begin ∙ sym (offsets-push rs r m (f ∙ ap length (all ∙ joined-push rs r))) in
    record { rows = slices-packed ps ys (rs ++ r ∷ []) begin all; packed = IsPacked-of ps ys (rs ++ r ∷ []) begin all }

-- where a row stands
pub record IsBounded {A : Type 0} (os : List ℕ) (xs : List A) (l : ℕ) : Type 0 where
  pub ordered : get_or os l 0 ≤ get_or os (l + 1) 0
  pub within : get_or os (l + 1) 0 ≤ length xs
  pub row : slice_range xs (get_or os l 0) (get_or os (l + 1) 0) ≡ get_or (slices os xs) l []

pub bounded : {A : Type 0} (os : List ℕ) (xs : List A) (l : ℕ) → IsPacked os xs → l + 1 < length os → IsBounded os xs l
bounded os xs l kept low =
    let rs = slices os xs in
    let many = ap length kept.begin ∙ length-offsets 0 rs in
    let step = offset-next 0 rs l (omega arith) in
    let next : l + 1 ≡ suc l = omega arith in
    let first = ap (λ qs. get_or qs l 0) kept.begin in
    let second = ap (λ qs. get_or qs (suc l) 0) kept.begin in
    let last = ap (λ n. get_or os n 0) next in
    let most = offset-within 0 rs (suc l) (omega arith) in
    let all = ap length kept.all in
    record {
      ordered = omega arith;
      within = omega arith;
      row = ap (λ n. slice_range xs (get_or os l 0) (get_or os n 0)) next ∙ sym (slices-at os xs l (omega arith));
    }

pub length-slices : {A : Type 0} (os : List ℕ) (xs : List A) → IsPacked os xs → length os ≡ suc (length (slices os xs))
length-slices os xs kept = ap length kept.begin ∙ length-offsets 0 (slices os xs)

-- one more row of which something is made
pub joined-more : {A B : Type 0} (f : List A → List B) (rs : List (List A)) (l k : ℕ) → k ≡ l + 1 → l < length rs
    → joined (map f (take k rs)) ≡ joined (map f (take l rs)) ++ f (get_or rs l [])
joined-more f rs l k e low =
    ap (λ n. joined (map f (take n rs))) e
    ∙ ap joined (map_more f rs l [] low)
    ∙ joined-push (map f (take l rs)) (f (get_or rs l []))

-- rows of the same lengths begin at the same places
offsets_from-map : {A B : Type 0} (f : List A → List B) (n : ℕ) (rs : List (List A)) → ((l : ℕ) → l < length rs → length (f (get_or rs l [])) ≡ length (get_or rs l [])) → offsets_from n (map f rs) ≡ offsets_from n rs
offsets_from-map f n [] same = refl
offsets_from-map f n (r ∷ rs) same =
    ap (λ os. n ∷ os) (ap (λ k. offsets_from (n + k) (map f rs)) (same 0 (omega arith)) ∙ offsets_from-map f (n + length r) rs (λ l low. same (suc l) (omega arith)))

pub offsets-map : {A B : Type 0} (f : List A → List B) (rs : List (List A)) → ((l : ℕ) → l < length rs → length (f (get_or rs l [])) ≡ length (get_or rs l [])) → offsets_of (map f rs) ≡ offsets_of rs
offsets-map f rs same = offsets_from-map f 0 rs same

-- what is made of each element of all rows
pub joined-map : {A B : Type 0} (f : A → B) (rs : List (List A)) → map f (joined rs) ≡ joined (map (map f) rs)
joined-map f [] = refl
joined-map f (r ∷ rs) = map-append f r (joined rs) ∙ ap (λ xs. map f r ++ xs) (joined-map f rs)

pub map_rows : {A B : Type 0} (f g : List A → List B) (rs : List (List A)) → ((l : ℕ) → l < length rs → f (get_or rs l []) ≡ g (get_or rs l [])) → map f rs ≡ map g rs
map_rows f g [] same = refl
map_rows f g (r ∷ rs) same = (λ t. same 0 (omega arith) t ∷ map_rows f g rs (λ l low. same (suc l) (omega arith)) t)

pub map-map : {A B C : Type 0} (f : B → C) (g : A → B) (rs : List A) → map f (map g rs) ≡ map (λ r. f (g r)) rs
map-map f g [] = refl
map-map f g (r ∷ rs) = ap (λ xs. f (g r) ∷ xs) (map-map f g rs)
