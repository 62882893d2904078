-- A row that is gathered, and what it leaves behind in a matrix.
use Rattle.std.proofs.Common.{◌≡◌, ℕ, zero, suc, ◌<◌, ◌≤◌, ◌⊎◌, Bool, true, false, cond, eqb, ◌&&◌, ◌||◌, List, [], ◌∷◌, ◌++◌, length, get_or, set, drop, replicate, Option, Some, None, refl, sym, ap, ◌∙◌, arith, inl, inr, length-set, get_or-set_same, get_or-set_other}
use Rattle.std.specs.Prelude.{is_some}
use Rattle.std.proofs.lemmas.Bool.{cases_eq, eqb-true, eq-eqb, ne_eqb, or_cases, false≢true}
use Rattle.scalar_laws.specs.Semiring.{Semiring, IsSemiring}
use Rattle.tables.specs.Indices.{stands}
use Rattle.tables.specs.Sums.{both_or_one}
use Rattle.tables.specs.Tables.{Table}
use Rattle.tables.proofs.Counting.{stands-append}
use Rattle.combine_modes.specs.declared.mode.Mode.TheVariants.{Add}
use Rattle.combine_modes.specs.Modes.{after_one}
use Rattle.distributor.specs.Entries.{with_cell}
use Rattle.crs_graph.specs.Ascending.{IsAscending}
use Rattle.crs_graph.proofs.Ascending.{above_at, ascending_tail}
use Rattle.sparse_product.specs.Dense.{number_under, IsReached}
use Rattle.sparse_product.specs.Rows.{with_row}

module _ {S : Type 0} where
  -- ---- what was reached

  pub reached-push : (reached : List ℕ) (numbers : List (Option S)) (at : ℕ) (v : S) → IsReached reached numbers → at < length numbers
      → IsReached (reached ++ at ∷ []) (set numbers at (Some v))
  reached-push reached numbers at v h low = record {
    within = λ p e. let many = length-set numbers at (Some v) in elim (or_cases (stands p reached) (stands p (at ∷ [])) (sym (stands-append p reached (at ∷ [])) ∙ e)) [
      | inl before ↦ let old : p < length numbers = h.within p before in omega arith
      | inr here ↦ elim (or_cases (eqb at p) false here) [
        | inl same ↦ let one : at ≡ p = eqb-true at p same in omega arith
        | inr never ↦ absurd (false≢true never)
      ]
    ];
    all = λ p e. stands-append p reached (at ∷ []) ∙ go p (cases_eq p at) e;
  }
    where
      always : (b : Bool) → (b || true) ≡ true
      always true = refl
      always false = refl

      go : (p : ℕ) → (p ≡ at) ⊎ (p ≡ at → ⊥) → is_some (get_or (set numbers at (Some v)) p None) ≡ true → (stands p reached || stands p (at ∷ [])) ≡ true
      go p (inl same) e = ap (λ b. stands p reached || (b || false)) (eq-eqb at p (sym same)) ∙ always (stands p reached)
      go p (inr other) e = ap (λ b. b || stands p (at ∷ [])) (h.all p (ap is_some (sym (get_or-set_other numbers at p (Some v) None other)) ∙ e))

  pub reached-set : (reached : List ℕ) (numbers : List (Option S)) (at : ℕ) (v w : S) → IsReached reached numbers → at < length numbers → get_or numbers at None ≡ Some w
      → IsReached reached (set numbers at (Some v))
  reached-set reached numbers at v w h low is = record {
    within = λ p e. let old : p < length numbers = h.within p e in omega (arith, length-set numbers at (Some v));
    all = λ p e. go p (cases_eq p at) e;
  }
    where
      go : (p : ℕ) → (p ≡ at) ⊎ (p ≡ at → ⊥) → is_some (get_or (set numbers at (Some v)) p None) ≡ true → stands p reached ≡ true
      go p (inl same) e = h.all p (ap (λ k. is_some (get_or numbers k None)) same ∙ ap is_some is)
      go p (inr other) e = h.all p (ap is_some (sym (get_or-set_other numbers at p (Some v) None other)) ∙ e)

  pub none-reached : (n : ℕ) → IsReached {S = S} [] (replicate n None)
  none-reached n = record { within = λ p e. absurd (false≢true e); all = λ p e. absurd (false≢true (sym (nothing n p) ∙ e)) }
    where
      nothing : (n p : ℕ) → is_some {T = S} (get_or (replicate n None) p None) ≡ false
      nothing zero p = refl
      nothing (suc n) zero = refl
      nothing (suc n) (suc p) = nothing n p

  pub reached-permuted : (xs ys : List ℕ) (numbers : List (Option S)) → ((p : ℕ) → stands p ys ≡ true → stands p xs ≡ true) → ((p : ℕ) → stands p xs ≡ true → stands p ys ≡ true)
      → IsReached xs numbers → IsReached ys numbers
  reached-permuted xs ys numbers back forth h = record { within = λ p e. h.within p (back p e); all = λ p e. forth p (h.all p e) }

  -- ---- numbers under columns

  two_tests : (a b : Bool) (x y z : Option S) → (a ≡ true → b ≡ true → ⊥) → cond a x (cond b y z) ≡ cond b y (cond a x z)
  two_tests true true x y z h = absurd (h refl refl)
  two_tests true false x y z h = refl
  two_tests false b x y z h = refl

  pub number_under-set : (cs : List ℕ) → IsAscending cs → (ds : List (Option S)) (p : ℕ) (d : Option S) (j : ℕ) → p < length cs → p < length ds
      → number_under cs (set ds p d) j ≡ cond (eqb (get_or cs p 0) j) d (number_under cs ds j)
  number_under-set [] up ds p d j l m = absurd (omega arith)
  number_under-set (c ∷ cs) up [] p d j l m = absurd (omega arith)
  number_under-set (c ∷ cs) up (e ∷ ds) zero d j l m = go (eqb c j)
    where
      go : (b : Bool) → cond b d (number_under cs ds j) ≡ cond b d (cond b e (number_under cs ds j))
      go true = refl
      go false = refl
  number_under-set (c ∷ cs) up (e ∷ ds) (suc p) d j l m =
      let low : c < get_or cs p 0 = above_at c cs up p (omega arith) in
      ap (cond (eqb c j) e) (number_under-set cs (ascending_tail c cs up) ds p d j (omega arith) (omega arith))
      ∙ two_tests (eqb c j) (eqb (get_or cs p 0) j) e d (number_under cs ds j) (λ a b.
      let one : c ≡ j = eqb-true c j a in
      let two : get_or cs p 0 ≡ j = eqb-true (get_or cs p 0) j b in
      omega arith)

  pub number_under-at : (cs : List ℕ) → IsAscending cs → (ds : List (Option S)) (p : ℕ) → p < length cs → p < length ds → number_under cs ds (get_or cs p 0) ≡ get_or ds p None
  number_under-at [] up ds p l m = absurd (omega arith)
  number_under-at (c ∷ cs) up [] p l m = absurd (omega arith)
  number_under-at (c ∷ cs) up (d ∷ ds) zero l m = ap (λ b. cond b d (number_under cs ds c)) (eq-eqb c c refl)
  number_under-at (c ∷ cs) up (d ∷ ds) (suc p) l m =
      let low : c < get_or cs p 0 = above_at c cs up p (omega arith) in
      ap (λ b. cond b d (number_under cs ds (get_or cs p 0))) (ne_eqb c (get_or cs p 0) (λ e. absurd (omega arith)))
      ∙ number_under-at cs (ascending_tail c cs up) ds p (omega arith) (omega arith)

  pub number_under-none : (cs : List ℕ) (n j : ℕ) → number_under {S = S} cs (replicate n None) j ≡ None
  number_under-none [] n j = refl
  number_under-none (c ∷ cs) zero j = refl
  number_under-none (c ∷ cs) (suc n) j = ap (cond (eqb c j) None) (number_under-none cs n j) ∙ go (eqb c j)
    where
      go : (b : Bool) → cond {A = Option S} b None None ≡ None
      go true = refl
      go false = refl

  -- ---- the numbers that were taken out: those of the first list that the second lacks

  abbrev pub taken : List (Option S) → List (Option S) → List (Option S)
  taken [] es = []
  taken (d ∷ ds) [] = []
  taken (d ∷ ds) (None ∷ es) = d ∷ taken ds es
  taken (d ∷ ds) (Some v ∷ es) = None ∷ taken ds es

  length-taken : (ds es : List (Option S)) → length es ≡ length ds → length (taken ds es) ≡ length ds
  length-taken [] es h = refl
  length-taken (d ∷ ds) [] h = absurd (omega arith)
  length-taken (d ∷ ds) (None ∷ es) h = ap suc (length-taken ds es (omega arith))
  length-taken (d ∷ ds) (Some v ∷ es) h = ap suc (length-taken ds es (omega arith))

  taken-set : (ds es : List (Option S)) (p : ℕ) (v : S) → p < length ds → length es ≡ length ds → get_or es p None ≡ Some v → get_or ds p None ≡ Some v
      → taken ds (set es p None) ≡ set (taken ds es) p (Some v)
  taken-set [] es p v l h e d = absurd (omega arith)
  taken-set (x ∷ ds) [] p v l h e d = absurd (omega arith)
  taken-set (x ∷ ds) (y ∷ es) zero v l h e d = ap (λ z. z ∷ taken ds es) d ∙ ap (λ z. set (taken (x ∷ ds) (z ∷ es)) 0 (Some v)) (sym e)
  taken-set (x ∷ ds) (None ∷ es) (suc p) v l h e d = ap (λ zs. x ∷ zs) (taken-set ds es p v (omega arith) (omega arith) e d)
  taken-set (x ∷ ds) (Some y ∷ es) (suc p) v l h e d = ap (λ zs. None ∷ zs) (taken-set ds es p v (omega arith) (omega arith) e d)

  taken-at : (ds es : List (Option S)) (p : ℕ) (v : S) → p < length ds → length es ≡ length ds → get_or es p None ≡ Some v → get_or (taken ds es) p None ≡ None
  taken-at [] es p v l h e = absurd (omega arith)
  taken-at (x ∷ ds) [] p v l h e = absurd (omega arith)
  taken-at (x ∷ ds) (y ∷ es) zero v l h e = ap (λ z. get_or (taken (x ∷ ds) (z ∷ es)) 0 None) e
  taken-at (x ∷ ds) (None ∷ es) (suc p) v l h e = taken-at ds es p v (omega arith) (omega arith) e
  taken-at (x ∷ ds) (Some y ∷ es) (suc p) v l h e = taken-at ds es p v (omega arith) (omega arith) e

  none-taken : (cs : List ℕ) (ds : List (Option S)) (j : ℕ) → number_under cs (taken ds ds) j ≡ None
  none-taken [] ds j = refl
  none-taken (c ∷ cs) [] j = refl
  none-taken (c ∷ cs) (None ∷ ds) j = ap (cond (eqb c j) None) (none-taken cs ds j) ∙ go (eqb c j)
    where
      go : (b : Bool) → cond {A = Option S} b None None ≡ None
      go true = refl
      go false = refl
  none-taken (c ∷ cs) (Some v ∷ ds) j = ap (cond (eqb c j) None) (none-taken cs ds j) ∙ go (eqb c j)
    where
      go : (b : Bool) → cond {A = Option S} b None None ≡ None
      go true = refl
      go false = refl

  all-none : (es : List (Option S)) → ((p : ℕ) → is_some (get_or es p None) ≡ true → ⊥) → es ≡ replicate (length es) None
  all-none [] h = refl
  all-none (None ∷ es) h = ap (λ zs. None ∷ zs) (all-none es (λ p e. h (suc p) e))
  all-none (Some v ∷ es) h = absurd (h 0 refl)

  all-taken : (ds : List (Option S)) → taken ds (replicate (length ds) None) ≡ ds
  all-taken [] = refl
  all-taken (d ∷ ds) = ap (λ zs. d ∷ zs) (all-taken ds)

  some_here : (o : Option S) → is_some o ≡ true → (o ≡ None → ⊥)
  some_here None e f = absurd (false≢true e)
  some_here (Some v) e f = absurd (cc)

pub drop-past : {A : Type 0} (n : ℕ) (xs : List A) → length xs ≤ n → drop n xs ≡ []
drop-past zero [] l = refl
drop-past zero (x ∷ xs) l = absurd (omega arith)
drop-past (suc n) [] l = refl
drop-past (suc n) (x ∷ xs) l = drop-past n xs (omega arith)

-- ---- the numbers go over to a row of a table

-- the numbers at the places `rest` are still to come; those that were taken out were added
pub record IsTaking {S : Type 0} (R : Semiring S) (rest columns : List ℕ) (lid : ℕ) (first now : List (Option S)) (before after : Table S) : Type 0 where
  pub size : length now ≡ length first
  pub part : (p : ℕ) → (get_or now p None ≡ get_or first p None) ⊎ (get_or now p None ≡ None)
  pub left : (p : ℕ) → is_some (get_or now p None) ≡ true → stands p rest ≡ true
  pub row : after ≡ with_row R before lid (number_under columns (taken first now))

module _ {S : Type 0} (R : Semiring S) (L : IsSemiring R) (columns : List ℕ) (lid : ℕ) (first : List (Option S)) (before : Table S) where
  none_more : (o : Option S) → both_or_one R.plus o None ≡ o
  none_more None = refl
  none_more (Some v) = refl

  with_none : (b : Bool) (o : Option S) → o ≡ cond b (both_or_one R.plus o None) o
  with_none true o = sym (none_more o)
  with_none false o = refl

  pub taking-start : (reached : List ℕ) → IsReached reached first → IsTaking R reached columns lid first first before before
  taking-start reached h = record {
    size = refl;
    part = λ p. inl refl;
    left = h.all;
    row = λ t l j. (with_none (eqb lid l) (before l j) ∙ ap (λ o. cond (eqb lid l) (both_or_one R.plus (before l j) o) (before l j)) (sym (none-taken columns first j))) t;
  }

  pub taking-skip : (at : ℕ) (rest : List ℕ) (now : List (Option S)) (after : Table S) → IsTaking R (at ∷ rest) columns lid first now before after → get_or now at None ≡ None
      → IsTaking R rest columns lid first now before after
  taking-skip at rest now after h none = record {
    size = h.size;
    part = h.part;
    left = λ p e. go p (cases_eq at p) e;
    row = h.row;
  }
    where
      go : (p : ℕ) → (at ≡ p) ⊎ (at ≡ p → ⊥) → is_some (get_or now p None) ≡ true → stands p rest ≡ true
      go p (inl same) e = absurd (some_here (get_or now p None) e (ap (λ k. get_or now k None) (sym same) ∙ none))
      go p (inr other) e = ap (λ b. b || stands p rest) (sym (ne_eqb at p other)) ∙ h.left p e

  pub taking-step : (at : ℕ) (rest : List ℕ) (now : List (Option S)) (after next : Table S) (v : S) → IsAscending columns → length columns ≡ length first → at < length first
      → IsTaking R (at ∷ rest) columns lid first now before after → get_or now at None ≡ Some v
      → next ≡ with_cell R Add false after lid (get_or columns at 0) v
      → IsTaking R rest columns lid first (set now at None) before next
  taking-step at rest now after next v up each low h is step = record {
    size = length-set now at None ∙ h.size;
    part = λ p. parts p (cases_eq p at);
    left = λ p e. lefts p (cases_eq p at) e;
    row = step ∙ (λ t l j. rows l j t);
  }
    where
      parts : (p : ℕ) → (p ≡ at) ⊎ (p ≡ at → ⊥) → (get_or (set now at None) p None ≡ get_or first p None) ⊎ (get_or (set now at None) p None ≡ None)
      parts p (inl same) = inr (ap (λ k. get_or (set now at None) k None) same ∙ get_or-set_same now at None None (omega (arith, h.size)))
      parts p (inr other) = elim (h.part p) [
        | inl kept ↦ inl (get_or-set_other now at p None None other ∙ kept)
        | inr gone ↦ inr (get_or-set_other now at p None None other ∙ gone)
      ]

      lefts : (p : ℕ) → (p ≡ at) ⊎ (p ≡ at → ⊥) → is_some (get_or (set now at None) p None) ≡ true → stands p rest ≡ true
      lefts p (inl same) e = absurd (some_here (get_or (set now at None) p None) e (ap (λ k. get_or (set now at None) k None) same ∙ get_or-set_same now at None None (omega (arith, h.size))))
      lefts p (inr other) e =
          ap (λ b. b || stands p rest) (sym (ne_eqb at p (λ same. other (sym same))))
          ∙ h.left p (ap is_some (sym (get_or-set_other now at p None None other)) ∙ e)

      was : get_or first at None ≡ Some v
      was = elim (h.part at) [
        | inl kept ↦ sym kept ∙ is
        | inr gone ↦ let clash : Some v ≡ None = sym is ∙ gone in absurd (cc)
      ]

      taken_row : ℕ → Option S
      taken_row = number_under columns (taken first now)

      more : (j : ℕ) → number_under columns (taken first (set now at None)) j ≡ cond (eqb (get_or columns at 0) j) (Some v) (number_under columns (taken first now) j)
      more j =
          ap (λ ds. number_under columns ds j) (taken-set first now at v low h.size is was)
          ∙ number_under-set columns up (taken first now) at (Some v) j (omega (arith, each)) (omega (arith, length-taken first now h.size))

      here : number_under columns (taken first now) (get_or columns at 0) ≡ None
      here = number_under-at columns up (taken first now) at (omega (arith, each)) (omega (arith, length-taken first now h.size)) ∙ taken-at first now at v low h.size is

      old : after lid (get_or columns at 0) ≡ before lid (get_or columns at 0)
      old = (λ t. h.row t lid (get_or columns at 0))
          ∙ ap (λ b. cond b (both_or_one R.plus (before lid (get_or columns at 0)) (number_under columns (taken first now) (get_or columns at 0))) (before lid (get_or columns at 0))) (eq-eqb lid lid refl)
          ∙ ap (both_or_one R.plus (before lid (get_or columns at 0))) here
          ∙ none_more (before lid (get_or columns at 0))

      number : after_one R Add false (after lid (get_or columns at 0)) (Some v) ≡ both_or_one R.plus (before lid (get_or columns at 0)) (Some v)
      number = (λ t. both_or_one R.plus (old t) (Some ((L.plus_comm v R.nought ∙ L.plus_nought v) t)))

      rows : (l j : ℕ) → cond (eqb lid l && eqb (get_or columns at 0) j) (after_one R Add false (after lid (get_or columns at 0)) (Some v)) (after l j)
          ≡ cond (eqb lid l) (both_or_one R.plus (before l j) (number_under columns (taken first (set now at None)) j)) (before l j)
      rows l j = go (eqb lid l) (eqb (get_or columns at 0) j) refl refl
        where
          go : (a b : Bool) → eqb lid l ≡ a → eqb (get_or columns at 0) j ≡ b
              → cond (a && b) (after_one R Add false (after lid (get_or columns at 0)) (Some v)) (after l j)
              ≡ cond a (both_or_one R.plus (before l j) (number_under columns (taken first (set now at None)) j)) (before l j)
          go true true p q =
              let one : lid ≡ l = eqb-true lid l p in
              let two : get_or columns at 0 ≡ j = eqb-true (get_or columns at 0) j q in
              number
              ∙ (λ t. both_or_one R.plus (before (one t) (two t)) (Some v))
              ∙ ap (both_or_one R.plus (before l j)) (sym (more j ∙ ap (λ b. cond b (Some v) (number_under columns (taken first now) j)) q))
          go true false p q =
              (λ t. h.row t l j)
              ∙ ap (λ b. cond b (both_or_one R.plus (before l j) (number_under columns (taken first now) j)) (before l j)) p
              ∙ ap (both_or_one R.plus (before l j)) (sym (more j ∙ ap (λ b. cond b (Some v) (number_under columns (taken first now) j)) q))
          go false b p q =
              (λ t. h.row t l j)
              ∙ ap (λ b. cond b (both_or_one R.plus (before l j) (number_under columns (taken first now) j)) (before l j)) p

  pub taking-empty : (now : List (Option S)) (after : Table S) → IsTaking R [] columns lid first now before after → now ≡ replicate (length first) None
  taking-empty now after h = all-none now (λ p e. false≢true (h.left p e)) ∙ ap (λ n. replicate n None) h.size

  pub taking-row : (now : List (Option S)) (after : Table S) → IsTaking R [] columns lid first now before after → after ≡ with_row R before lid (number_under columns first)
  taking-row now after h = h.row ∙ ap (λ ds. with_row R before lid (number_under columns ds)) (ap (taken first) (taking-empty now after h) ∙ all-taken first)

  pub taking-reached : (reached rest : List ℕ) (now : List (Option S)) (after : Table S) → IsReached reached first → IsTaking R rest columns lid first now before after → IsReached reached now
  taking-reached reached rest now after r h = record {
    within = λ p e. let low : p < length first = r.within p e in omega (arith, h.size);
    all = λ p e. elim (h.part p) [
      | inl kept ↦ r.all p (ap is_some (sym kept) ∙ e)
      | inr gone ↦ absurd (some_here (get_or now p None) e gone)
    ];
  }
