-- What all ranks together bring to a rank: copies come from the one owner, and what goes to an owner comes from all.
use Rattle.std.proofs.Common.{◌≡◌, ℕ, zero, suc, ◌<◌, ◌≤◌, ◌+◌, ◌⊎◌, inl, inr, Bool, true, false, cond, not, ◌&&◌, ◌||◌, eqb, List, [], ◌∷◌, map, Option, Some, None, refl, sym, ap, ◌∙◌, arith}
use Rattle.std.specs.Prelude.{filter, is_some}
use Rattle.std.specs.Option.{unwrap_or}
use Rattle.std.proofs.lemmas.Bool.{eq-eqb, eqb-true, cases_lt}
use Rattle.scalar_laws.specs.Semiring.{Semiring}
use Rattle.scalar_laws.specs.Conversions.{Conversions}
use Rattle.tables.specs.Tables.{Table, only_rows}
use Rattle.tables.specs.Indices.{stands, each_rank, count_from}
use Rattle.map_core.specs.Layouts.{IsOneToOne, owner}
use Rattle.map_core.proofs.Owners.{owner-only, owner-has, owner-none}
use Rattle.mm_text.specs.Reading.{File}
use Rattle.combine_modes.specs.declared.mode.Mode.{Mode}
use Rattle.combine_modes.specs.Modes.{combine, after_one, there, combined}
use Rattle.model_defs.specs.declared.job.Job.{Job}
use Rattle.model_defs.specs.Maps.{layout_of, is_mapped, owner_rank}
use Rattle.model_defs.specs.Transfers.{owner_map, FromOwners, ToOwners, Transfer}
use Rattle.model_defs.specs.Plans.{rank_list_by, owns, lacking, sent_by, sent_rows, passes, brought}
use Rattle.model_defs.specs.Stages.{source_of}
use Rattle.model_defs.proofs.Filters.{both, and}
use Rattle.model_defs.proofs.Names.{stands-filter}
use Rattle.model_defs.proofs.Picked.{to-owner, owner-rank}

module _ {S : Type 0} (R : Semiring S) (F : Conversions S) (job : Job) (files : List File) (t : Transfer) (one : IsOneToOne (layout_of job (owner_map job t.plan))) where
  -- only one rank owns an index
  not-owned : (p q i : ℕ) → eqb q p ≡ false → owns job files t.plan p i ≡ true → owns job files t.plan q i ≡ false
  not-owned p q i e f = by (owns job files t.plan q i) refl
    where
      by : (b : Bool) → owns job files t.plan q i ≡ b → b ≡ false
      by false g = refl
      by true g =
          let a = owner-rank job files t one p i f in
          let b = owner-rank job files t one q i g in
          let yes = eq-eqb q p (sym b ∙ a) in
          absurd (let bad : ⊥ = cc in bad)

  -- ---- to owners

  -- the owner is brought all that a rank has
  pub pass-to : t.way ≡ ToOwners → (q p i : ℕ) → owns job files t.plan p i ≡ true → stands i (rank_list_by job files t.plan q) ≡ true → passes job files t q p i ≡ true
  pass-to way q p i own has = go (eqb q p) refl
    where
      go : (b : Bool) → eqb q p ≡ b → cond b (stands i (rank_list_by job files t.plan q) && owns job files t.plan q i) (stands i (sent_rows job files t q p)) ≡ true
      go true e = and (stands i (rank_list_by job files t.plan q)) _ has (ap (λ r. owns job files t.plan r i) (eqb-true q p e) ∙ own)
      go false e =
          ap (λ w. stands i (sent_by job files w t.plan q p)) way
          ∙ stands-filter (owns job files t.plan p) i (lacking job files t.plan q)
          (stands-filter (λ g. not (owns job files t.plan q g)) i (rank_list_by job files t.plan q) has (ap not (not-owned p q i e own))) own

  module _ (way : t.way ≡ ToOwners) (entries : ℕ → Table S) (within : (q i j : ℕ) → is_some (entries q i j) ≡ true → stands i (rank_list_by job files t.plan q) ≡ true) where
    all-brought : (q p i j : ℕ) → owns job files t.plan p i ≡ true → brought job files t (entries q) q p i j ≡ entries q i j
    all-brought q p i j own = by (entries q i j) refl
      where
        none : (b : Bool) → let absent : Option S = None in cond b absent None ≡ None
        none true = refl
        none false = refl

        by : (o : Option S) → entries q i j ≡ o → cond (passes job files t q p i) o None ≡ o
        by None e = none (passes job files t q p i)
        by (Some v) e = ap (λ b. cond b (Some v) None) (pass-to way q p i own (within q i j (ap is_some e)))

    none-brought : (q p i j : ℕ) → owns job files t.plan p i ≡ false → brought job files t (entries q) q p i j ≡ None
    none-brought q p i j own = by (passes job files t q p i) refl
      where
        by : (b : Bool) → passes job files t q p i ≡ b → cond b (entries q i j) None ≡ None
        by false e = refl
        by true e = let o = to-owner job files t q p i way e in absurd (let bad : ⊥ = cc in bad)

    there-none : (f : ℕ → Option S) → ((q : ℕ) → f q ≡ None) → (xs : List ℕ) → there (map f xs) ≡ []
    there-none f h [] = refl
    there-none f h (x ∷ xs) = ap (λ o. there (o ∷ map f xs)) (h x) ∙ there-none f h xs

    -- an owner combines what all ranks have, and others keep what they have
    pub combined-to : (mode : Mode) (fixed : Bool) (P p : ℕ) (old : Table S) (pick : ℕ → ℕ → ℕ) (i j : ℕ)
        → combined R mode fixed P old (λ q. brought job files t (entries q) q p) (source_of job t.way t.plan pick) i j
        ≡ cond (owns job files t.plan p i) (combined R mode fixed P old entries pick i j) (old i j)
    combined-to mode fixed P p old pick i j = ap (λ w. combined R mode fixed P old (λ q. brought job files t (entries q) q p) (source_of job w t.plan pick) i j) way ∙ by (owns job files t.plan p i) refl
      where
        by : (b : Bool) → owns job files t.plan p i ≡ b → combined R mode fixed P old (λ q. brought job files t (entries q) q p) pick i j ≡ cond b (combined R mode fixed P old entries pick i j) (old i j)
        by true e = λ s. combine R mode fixed (old i j) (there (each_rank P (λ q. all-brought q p i j e s))) (unwrap_or (all-brought (pick i j) p i j e s) R.nought)
        by false e = ap (λ ss. combine R mode fixed (old i j) ss (unwrap_or (brought job files t (entries (pick i j)) (pick i j) p i j) R.nought))
            (there-none (λ q. brought job files t (entries q) q p i j) (λ q. none-brought q p i j e) (count_from 0 P))

  -- ---- from owners

  pub pass-from : t.way ≡ FromOwners → (q p i : ℕ) → owns job files t.plan q i ≡ true → stands i (rank_list_by job files t.plan p) ≡ true → passes job files t q p i ≡ true
  pass-from way q p i own has = go (eqb q p) refl
    where
      swap : eqb q p ≡ false → eqb p q ≡ false
      swap e = by (eqb p q) refl
        where
          by : (c : Bool) → eqb p q ≡ c → c ≡ false
          by false f = refl
          by true f = let yes = eq-eqb q p (sym (eqb-true p q f)) in absurd (let bad : ⊥ = cc in bad)

      go : (b : Bool) → eqb q p ≡ b → cond b (stands i (rank_list_by job files t.plan q) && owns job files t.plan q i) (stands i (sent_rows job files t q p)) ≡ true
      go true e = and (stands i (rank_list_by job files t.plan q)) _ (ap (λ r. stands i (rank_list_by job files t.plan r)) (eqb-true q p e) ∙ has) own
      go false e =
          ap (λ w. stands i (sent_by job files w t.plan q p)) way
          ∙ stands-filter (owns job files t.plan q) i (lacking job files t.plan p)
          (stands-filter (λ g. not (owns job files t.plan p g)) i (rank_list_by job files t.plan p) has (ap not (not-owned q p i (swap e) own))) own

  -- only rows of a rank's list come to it
  pass-listed : t.way ≡ FromOwners → (q p i : ℕ) → passes job files t q p i ≡ true → stands i (rank_list_by job files t.plan p) ≡ true
  pass-listed way q p i e = go (eqb q p) refl e
    where
      kept : (c : ℕ → Bool) (g : ℕ) (xs : List ℕ) → stands g (filter c xs) ≡ true → stands g xs ≡ true
      kept c g [] e = cc
      kept c g (x ∷ xs) e = pick (c x) e (kept c g xs)
        where
          later : (a b : Bool) → b ≡ true → a || b ≡ true
          later true b e = refl
          later false b e = e

          pick : (b : Bool) → stands g (cond b (x ∷ filter c xs) (filter c xs)) ≡ true → (stands g (filter c xs) ≡ true → stands g xs ≡ true) → eqb x g || stands g xs ≡ true
          pick false e rest = later (eqb x g) _ (rest e)
          pick true e rest = by (eqb x g) e
            where
              by : (b : Bool) → b || stands g (filter c xs) ≡ true → b || stands g xs ≡ true
              by true e = refl
              by false e = rest e

      go : (b : Bool) → eqb q p ≡ b → cond b (stands i (rank_list_by job files t.plan q) && owns job files t.plan q i) (stands i (sent_rows job files t q p)) ≡ true → stands i (rank_list_by job files t.plan p) ≡ true
      go true s e = ap (λ r. stands i (rank_list_by job files t.plan r)) (sym (eqb-true q p s)) ∙ (both (stands i (rank_list_by job files t.plan q)) (owns job files t.plan q i) e).0
      go false s e = kept (λ g. not (owns job files t.plan p g)) i (rank_list_by job files t.plan p) (kept (owns job files t.plan q) i (lacking job files t.plan p) (ap (λ w. stands i (sent_by job files w t.plan q p)) (sym way) ∙ e))

  module _ (way : t.way ≡ FromOwners) (P : ℕ) (below : (i q : ℕ) → owner (layout_of job (owner_map job t.plan)) i ≡ Some q → q < P) (whole : Table S) where
    -- each rank has the rows of the whole that it owns
    abbrev had_by : ℕ → Table S
    had_by q = only_rows (owns job files t.plan q) whole

    -- one rank alone brings a number
    alone : (f : ℕ → Option S) (o n k : ℕ) → n ≤ o → o < n + k → ((q : ℕ) → eqb q o ≡ false → f q ≡ None) → there (map f (count_from n k)) ≡ there (f o ∷ [])
    alone f o n zero l m h = absurd (omega arith)
    alone f o n (suc k) l m h = go (eqb n o) refl (alone f o (n + 1) k)
      where
        rest-none : (a k : ℕ) → o < a → there (map f (count_from a k)) ≡ []
        rest-none a zero l = refl
        rest-none a (suc k) l = ap (λ u. there (u ∷ map f (count_from (a + 1) k))) (h a (differ a l)) ∙ rest-none (a + 1) k (omega arith)
          where
            differ : (a : ℕ) → o < a → eqb a o ≡ false
            differ a l = by (eqb a o) refl
              where
                by : (b : Bool) → eqb a o ≡ b → b ≡ false
                by false e = refl
                by true e = let same = eqb-true a o e in absurd (omega arith)

        ends : (u : Option S) (xs : List (Option S)) → there xs ≡ [] → there (u ∷ xs) ≡ there (u ∷ [])
        ends None xs e = e
        ends (Some v) xs e = ap (λ z. v ∷ z) e

        go : (b : Bool) → eqb n o ≡ b → (n + 1 ≤ o → o < (n + 1) + k → ((q : ℕ) → eqb q o ≡ false → f q ≡ None) → there (map f (count_from (n + 1) k)) ≡ there (f o ∷ [])) → there (f n ∷ map f (count_from (n + 1) k)) ≡ there (f o ∷ [])
        go true e rest = let same = eqb-true n o e in ends (f n) (map f (count_from (n + 1) k)) (rest-none (n + 1) k (omega arith)) ∙ ap (λ q. there (f q ∷ [])) same
        go false e rest = ap (λ u. there (u ∷ map f (count_from (n + 1) k))) (h n e) ∙ rest (lower (cases_lt n o)) (omega arith) h
          where
            lower : (n < o) ⊎ (o ≤ n) → n + 1 ≤ o
            lower (inl a) = omega arith
            lower (inr a) = let same : n ≡ o = omega arith in let t = eq-eqb n o same in absurd (let bad : ⊥ = cc in bad)

    -- a rank combines the owner's number for each row of its list
    pub combined-from : (mode : Mode) (fixed : Bool) (p : ℕ) (old : Table S) (pick : ℕ → ℕ → ℕ) (i j : ℕ)
        → combined R mode fixed P old (λ q. brought job files t (only_rows (owns job files t.plan q) whole) q p) (source_of job t.way t.plan pick) i j
        ≡ after_one R mode fixed (old i j) (cond (stands i (rank_list_by job files t.plan p) && is_mapped job (owner_map job t.plan) i) (whole i j) None)
    combined-from mode fixed p old pick i j =
        ap (λ w. combined R mode fixed P old (λ q. brought job files t (only_rows (owns job files t.plan q) whole) q p) (source_of job w t.plan pick) i j) way
        ∙ by (owner (layout_of job (owner_map job t.plan)) i) refl
      where
        f : ℕ → Option S
        f q = brought job files t (only_rows (owns job files t.plan q) whole) q p i j

        gone : (q : ℕ) → owns job files t.plan q i ≡ false → f q ≡ None
        gone q e = cases (passes job files t q p i)
          where
            cases : (b : Bool) → cond b (cond (owns job files t.plan q i) (whole i j) None) None ≡ None
            cases true = ap (λ b. cond b (whole i j) None) e
            cases false = refl

        none-there : (xs : List ℕ) → ((q : ℕ) → f q ≡ None) → there (map f xs) ≡ []
        none-there [] h = refl
        none-there (x ∷ xs) h = ap (λ o. there (o ∷ map f xs)) (h x) ∙ none-there xs h

        single : (old u : Option S) → combine R mode fixed old (there (u ∷ [])) (unwrap_or u R.nought) ≡ after_one R mode fixed old u
        single old None = refl
        single old (Some v) = refl

        empty : (b : Bool) → let absent : Option S = None in cond (b && false) (whole i j) absent ≡ absent
        empty true = refl
        empty false = refl

        by : (u : Option ℕ) → owner (layout_of job (owner_map job t.plan)) i ≡ u
            → combined R mode fixed P old (λ q. brought job files t (only_rows (owns job files t.plan q) whole) q p) (λ i j. owner_rank job (owner_map job t.plan) i) i j
            ≡ after_one R mode fixed (old i j) (cond (stands i (rank_list_by job files t.plan p) && is_mapped job (owner_map job t.plan) i) (whole i j) None)
        by None e =
            ap (λ ss. combine R mode fixed (old i j) ss (unwrap_or (f (owner_rank job (owner_map job t.plan) i)) R.nought)) (none-there (count_from 0 P) (λ q. gone q (unowned q)))
            ∙ ap (after_one R mode fixed (old i j)) (sym (ap (λ b. cond (stands i (rank_list_by job files t.plan p) && b) (whole i j) None) ((owner-none (layout_of job (owner_map job t.plan)) i).0 e) ∙ empty (stands i (rank_list_by job files t.plan p))))
          where
            unowned : (q : ℕ) → owns job files t.plan q i ≡ false
            unowned q = cases (owns job files t.plan q i) refl
              where
                cases : (b : Bool) → owns job files t.plan q i ≡ b → b ≡ false
                cases false g = refl
                cases true g = let is : Some q ≡ None = sym (owner-only (layout_of job (owner_map job t.plan)) i q one g) ∙ e in absurd (let bad : ⊥ = cc in bad)
        by (Some o) e =
            ap (λ r. combine R mode fixed (old i j) (there (map f (count_from 0 P))) (unwrap_or (f r) R.nought)) (ap (λ u. unwrap_or u 0) e)
            ∙ ap (λ ss. combine R mode fixed (old i j) ss (unwrap_or (f o) R.nought)) (alone f o 0 P (omega arith) (let l = below i o e in omega arith) others)
            ∙ single (old i j) (f o)
            ∙ ap (after_one R mode fixed (old i j)) value
          where
            own : owns job files t.plan o i ≡ true
            own = owner-has (layout_of job (owner_map job t.plan)) i o e

            others : (q : ℕ) → eqb q o ≡ false → f q ≡ None
            others q g = gone q (not-owned o q i g own)

            mapped : is_mapped job (owner_map job t.plan) i ≡ true
            mapped = cases (is_mapped job (owner_map job t.plan) i) refl
              where
                cases : (b : Bool) → is_mapped job (owner_map job t.plan) i ≡ b → b ≡ true
                cases true g = refl
                cases false g = let is : Some o ≡ None = sym e ∙ (owner-none (layout_of job (owner_map job t.plan)) i).1 g in absurd (let bad : ⊥ = cc in bad)

            value : f o ≡ cond (stands i (rank_list_by job files t.plan p) && is_mapped job (owner_map job t.plan) i) (whole i j) None
            value = ap (λ b. cond (passes job files t o p i) (cond b (whole i j) None) None) own ∙ cases (stands i (rank_list_by job files t.plan p)) refl ∙ ap (λ b. cond (stands i (rank_list_by job files t.plan p) && b) (whole i j) None) (sym mapped)
              where
                cases : (b : Bool) → stands i (rank_list_by job files t.plan p) ≡ b → cond (passes job files t o p i) (whole i j) None ≡ cond (b && true) (whole i j) None
                cases true g = ap (λ b. cond b (whole i j) None) (pass-from way o p i own g)
                cases false g = not_passed (passes job files t o p i) refl
                  where
                    not_passed : (b : Bool) → passes job files t o p i ≡ b → cond b (whole i j) None ≡ None
                    not_passed false h = refl
                    not_passed true h = let s = pass-listed way o p i h in absurd (let bad : ⊥ = cc in bad)
