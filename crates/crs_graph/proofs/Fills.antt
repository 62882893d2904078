-- Rows of a fill.
use Rattle.std.proofs.Common.{◌≡◌, ℕ, zero, suc, ◌<◌, List, [], ◌∷◌, length, map, get_or, slice_set, Result, Ok, Err, OnErr, rules, sym, ap, ◌∙◌, arith, length-set}
use Rattle.std.proofs.lemmas.List.{get_or-map, length-map, map-set, set-get_or}
use Rattle.smallvec.specs.SmallVec.{SmallVec}
use Rattle.crs_graph.specs.Ascending.{IsAscending}
use Rattle.crs_graph.specs.Fills.{columns_of, Fill, IsFill}
use Rattle.crs_graph.proofs.Ascending.{ascend-set}

-- the columns of one row in its vector
pub row_at : (vs : List (SmallVec ℕ)) (l : ℕ) (v : SmallVec ℕ) → l < length vs → get_or (columns_of vs) l [] ≡ (get_or vs l v).items
row_at vs l v within = get_or-map (λ v. v.items) vs l v [] within

-- one vector is replaced
pub columns_of-set : (vs : List (SmallVec ℕ)) (l : ℕ) (w : SmallVec ℕ) → columns_of (slice_set vs l w) ≡ slice_set (columns_of vs) l w.items
columns_of-set vs l w = map-set (λ v. v.items) vs l w

-- by one with the same columns
pub columns_of-same : (vs : List (SmallVec ℕ)) (l : ℕ) (v w : SmallVec ℕ) → l < length vs → w.items ≡ (get_or vs l v).items → columns_of (slice_set vs l w) ≡ columns_of vs
columns_of-same vs l v w within same =
    columns_of-set vs l w
    ∙ ap (slice_set (columns_of vs) l) (same ∙ sym (row_at vs l v within))
    ∙ set-get_or (columns_of vs) l []

pub IsFill-set : (f : Fill) (l : ℕ) (xs : List ℕ) → IsFill f → IsAscending xs → IsFill (record { rows = f.rows; columns = slice_set f.columns l xs })
IsFill-set f l xs kept up = record { rows = length-set f.columns l xs ∙ kept.rows; ascend = ascend-set f.columns l xs kept.ascend up }

-- rows without columns
pub IsFill-empty : (rows : List ℕ) → IsFill (record { rows = rows; columns = map (λ _. []) rows })
IsFill-empty rows = record { rows = length-map rows (λ _. []); ascend = none rows }
  where
    none : (xs : List ℕ) (l : ℕ) → IsAscending (get_or (map (λ _. []) xs) l [])
    none [] l = tt
    none (x ∷ xs) zero = tt
    none (x ∷ xs) (suc l) = none xs l

pub row_within : (rows found : List ℕ) (vs : List (SmallVec ℕ)) (l : ℕ) → l < length found → found ≡ rows → length (columns_of vs) ≡ length rows → l < length vs
row_within rows found vs l low same many =
    let kept = length-map vs (λ v. v.items) in
    let as_many = ap length same in
    omega arith

pub on_err : {T E : Type 0} (r : Result T E) (P : Type 0) → P → OnErr r P
on_err (Ok x) P p = search rules
on_err (Err e) P p = p
