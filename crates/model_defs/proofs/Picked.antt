-- The picked number is that of the order in which the letters came.
use Rattle.std.proofs.Common.{◌≡◌, ℕ, zero, suc, ◌⊎◌, inl, inr, Bool, true, false, cond, ◌&&◌, ◌||◌, eqb, List, [], ◌∷◌, map, Option, Some, None, get_or, refl, sym, ap, ◌∙◌}
use Rattle.std.specs.Prelude.{filter, is_some}
use Rattle.std.specs.Option.{unwrap_or}
use Rattle.std.proofs.lemmas.Bool.{eq-eqb, eqb-true}
use Rattle.scalar_laws.specs.Semiring.{Semiring}
use Rattle.scalar_laws.specs.Conversions.{Conversions}
use Rattle.tables.specs.Tables.{Table}
use Rattle.tables.specs.Indices.{stands}
use Rattle.map_core.specs.Layouts.{IsOneToOne}
use Rattle.map_core.proofs.Owners.{owner-only}
use Rattle.mm_text.specs.Reading.{File}
use Rattle.outside.specs.declared.name.Name.{Name}
use Rattle.combine_modes.specs.declared.mode.Mode.{Mode}
use Rattle.combine_modes.specs.declared.mode.Mode.TheVariants.{Add}
use Rattle.combine_modes.specs.Modes.{combine, picked_of, there}
use Rattle.model_defs.specs.declared.job.Job.{Job}
use Rattle.model_defs.specs.Maps.{layout_of, owner_rank}
use Rattle.model_defs.specs.Turns.{Each}
use Rattle.model_defs.specs.Makers.{Maker, Made, maker_of}
use Rattle.model_defs.specs.Transfers.{ImportPlan, owner_map, Way, FromOwners, ToOwners, Transfer, from_owners, transfers_by}
use Rattle.model_defs.specs.Phases.{send_phase}
use Rattle.model_defs.specs.Plans.{brought, passes, sent_rows, sent_by, rank_list_by, owns, lacking}
use Rattle.model_defs.specs.Stages.{Target, target_by, plain_target, transfer_at, is_fixed, source_of}
use Rattle.model_defs.specs.Letters.{entry_places}
use Rattle.model_defs.specs.Picks.{mode_by, senders_of, has_number, picked_rank, pick_of}
use Rattle.model_defs.specs.Laws.{HasPlaces}
use Rattle.model_defs.proofs.Filters.{both}
use Rattle.model_defs.proofs.Combining.{came, num_at, picked-by, picked-only}
use Rattle.model_defs.specs.declared.job.Step.TheVariants as step

stands-kept : (c : ℕ → Bool) (g : ℕ) (xs : List ℕ) → stands g (filter c xs) ≡ true → c g ≡ true
stands-kept c g [] e = cc
stands-kept c g (x ∷ xs) e = go (c x) refl e (stands-kept c g xs)
  where
    go : (b : Bool) → c x ≡ b → stands g (cond b (x ∷ filter c xs) (filter c xs)) ≡ true → (stands g (filter c xs) ≡ true → c g ≡ true) → c g ≡ true
    go false k e rest = rest e
    go true k e rest = by (eqb x g) refl e
      where
        by : (s : Bool) → eqb x g ≡ s → s || stands g (filter c xs) ≡ true → c g ≡ true
        by true s e = ap c (sym (eqb-true x g s)) ∙ k
        by false s e = rest e

module _ (job : Job) (files : List File) (t : Transfer) where
  -- copies come from owners
  pub from-owner : (q p i : ℕ) → t.way ≡ FromOwners → passes job files t q p i ≡ true → owns job files t.plan q i ≡ true
  from-owner q p i way e = go (eqb q p) e
    where
      go : (b : Bool) → cond b (stands i (rank_list_by job files t.plan q) && owns job files t.plan q i) (stands i (sent_rows job files t q p)) ≡ true → owns job files t.plan q i ≡ true
      go true e = (both (stands i (rank_list_by job files t.plan q)) (owns job files t.plan q i) e).1
      go false e = stands-kept (owns job files t.plan q) i (lacking job files t.plan p) (ap (λ w. stands i (sent_by job files w t.plan q p)) (sym way) ∙ e)

  -- what goes to owners comes to the owner
  pub to-owner : (q p i : ℕ) → t.way ≡ ToOwners → passes job files t q p i ≡ true → owns job files t.plan p i ≡ true
  to-owner q p i way e = go (eqb q p) refl e
    where
      go : (b : Bool) → eqb q p ≡ b → cond b (stands i (rank_list_by job files t.plan q) && owns job files t.plan q i) (stands i (sent_rows job files t q p)) ≡ true → owns job files t.plan p i ≡ true
      go true s e = ap (λ r. owns job files t.plan r i) (sym (eqb-true q p s)) ∙ (both (stands i (rank_list_by job files t.plan q)) (owns job files t.plan q i) e).1
      go false s e = stands-kept (owns job files t.plan p) i (lacking job files t.plan q) (ap (λ w. stands i (sent_by job files w t.plan q p)) (sym way) ∙ e)

  pub owner-rank : IsOneToOne (layout_of job (owner_map job t.plan)) → (p i : ℕ) → owns job files t.plan p i ≡ true → owner_rank job (owner_map job t.plan) i ≡ p
  owner-rank one p i e = ap (λ o. unwrap_or o 0) (owner-only (layout_of job (owner_map job t.plan)) i p one e)

-- modes that pick nothing
pub combine-any : {S : Type 0} (R : Semiring S) (fixed : Bool) (old : Option S) (ss : List S) (a b : S) → combine R Add fixed old ss a ≡ combine R Add fixed old ss b
combine-any R fixed old [] a b = refl
combine-any R true None (s ∷ ss) a b = refl
combine-any R true (Some o) (s ∷ ss) a b = refl
combine-any R false old (s ∷ ss) a b = refl

module _ {S : Type 0} (R : Semiring S) (F : Conversions S) (job : Job) (files : List File) where
  -- what goes to owners is added, or combined by the mode that the statement names
  pub adds : (fixed : Bool) (way : Way) (noughts : Table S) → way ≡ ToOwners → (plain_target fixed way noughts).mode ≡ Add
  adds true FromOwners noughts e = absurd (let bad : ⊥ = cc in bad)
  adds true ToOwners noughts e = refl
  adds false way noughts e = refl

  pub target-mode : (k t : ℕ) (mine : Each (Table S)) (plain : Target S) (m : Maker) → (get_or (transfers_by job k m) t (from_owners (ImportPlan 0 0))).way ≡ ToOwners → plain.mode ≡ Add
      → ((target_by mine plain m).mode ≡ Add) ⊎ (((target_by mine plain m).mode ≡ mode_by m) × (t ≡ 0))
  target-mode k zero mine plain (Made (step.Import name source onto mode)) w e = absurd (let bad : ⊥ = cc in bad)
  target-mode k (suc t) mine plain (Made (step.Import name source onto mode)) w e = absurd (let bad : ⊥ = cc in bad)
  target-mode k zero mine plain (Made (step.Export name source onto mode)) w e = inr (refl, refl)
  target-mode k (suc t) mine plain (Made (step.Export name source onto mode)) w e = absurd (let bad : ⊥ = cc in bad)
  target-mode k zero mine plain (Made (step.Assemble name source onto mode)) w e = inr (refl, refl)
  target-mode k (suc t) mine plain (Made (step.Assemble name source onto mode)) w e = absurd (let bad : ⊥ = cc in bad)
  target-mode k t mine plain m w e = inl e

  came-none : (f : ℕ → Option S) → ((q : ℕ) → f q ≡ None) → (xs : List ℕ) → came R f xs ≡ []
  came-none f h [] = refl
  came-none f h (x ∷ xs) = ap (λ o. there (o ∷ map f xs)) (h x) ∙ came-none f h xs

  module _ (d : List Name) (k p : ℕ) (i j : ℕ) (had : ℕ → Table S) where
    -- the number that comes from rank q for the cell
    abbrev from : ℕ → ℕ → Option S
    from t q = brought job files (transfer_at job k t) (had q) q p i j

    absent : (t q : ℕ) (b : Bool) → passes job files (transfer_at job k t) q p i ≡ b → b ≡ false → from t q ≡ None
    absent t q b e f = ap (λ c. cond c (had q i j) None) (e ∙ f)

    pub picked-from : (t : ℕ) (mode : Mode) (old : Option S) (qs : List ℕ) → IsOneToOne (layout_of job (owner_map job (transfer_at job k t).plan)) → (transfer_at job k t).way ≡ FromOwners
        → combine R mode (is_fixed job k) old (came R (from t) (p ∷ qs)) (picked_of mode (is_fixed job k) R.nought (came R (from t) (p ∷ qs)))
        ≡ combine R mode (is_fixed job k) old (came R (from t) (p ∷ qs)) (num_at R (from t) (source_of job (transfer_at job k t).way (transfer_at job k t).plan (pick_of job files d k) i j))
    picked-from t mode old qs one way =
        combine-picked' mode old (came R (from t) (p ∷ qs)) (picked-only R (from t) o only mode (is_fixed job k) (p ∷ qs))
        ∙ ap (λ w. combine R mode (is_fixed job k) old (came R (from t) (p ∷ qs)) (num_at R (from t) (source_of job w (transfer_at job k t).plan (pick_of job files d k) i j))) (sym way)
      where
        o : ℕ
        o = owner_rank job (owner_map job (transfer_at job k t).plan) i

        only : (q : ℕ) → eqb q (owner_rank job (owner_map job (transfer_at job k t).plan) i) ≡ false → from t q ≡ None
        only q e = by (passes job files (transfer_at job k t) q p i) refl
          where
            by : (b : Bool) → passes job files (transfer_at job k t) q p i ≡ b → from t q ≡ None
            by false f = absent t q false f refl
            by true f =
                let owned = from-owner job files (transfer_at job k t) q p i way f in
                let same = owner-rank job files (transfer_at job k t) one q i owned in
                let yes = eq-eqb q (owner_rank job (owner_map job (transfer_at job k t).plan) i) (sym same) in
                absurd (let bad : ⊥ = cc in bad)

        combine-picked' : (mode : Mode) (old : Option S) (ss : List S) → (ss ≡ []) ⊎ (num_at R (from t) (owner_rank job (owner_map job (transfer_at job k t).plan) i) ≡ picked_of mode (is_fixed job k) R.nought ss)
            → combine R mode (is_fixed job k) old ss (picked_of mode (is_fixed job k) R.nought ss) ≡ combine R mode (is_fixed job k) old ss (num_at R (from t) (owner_rank job (owner_map job (transfer_at job k t).plan) i))
        combine-picked' mode old ss (inl e) = ap (λ z. combine R mode (is_fixed job k) old z (picked_of mode (is_fixed job k) R.nought ss)) e ∙ sym (ap (λ z. combine R mode (is_fixed job k) old z (num_at R (from t) (owner_rank job (owner_map job (transfer_at job k t).plan) i))) e)
        combine-picked' mode old ss (inr e) = ap (combine R mode (is_fixed job k) old ss) (sym e)

    -- where nothing comes
    pub picked-none : (t : ℕ) (mode : Mode) (old : Option S) (qs : List ℕ) (a b : S) → (transfer_at job k t).way ≡ ToOwners → owns job files (transfer_at job k t).plan p i ≡ false
        → combine R mode (is_fixed job k) old (came R (from t) (p ∷ qs)) a ≡ combine R mode (is_fixed job k) old (came R (from t) (p ∷ qs)) b
    picked-none t mode old qs a b way e =
        ap (λ z. combine R mode (is_fixed job k) old z a) empty ∙ sym (ap (λ z. combine R mode (is_fixed job k) old z b) empty)
      where
        gone : (q : ℕ) → from t q ≡ None
        gone q = by (passes job files (transfer_at job k t) q p i) refl
          where
            by : (b : Bool) → passes job files (transfer_at job k t) q p i ≡ b → from t q ≡ None
            by false f = absent t q false f refl
            by true f = let owned = to-owner job files (transfer_at job k t) q p i way f in absurd (let bad : ⊥ = cc in bad)

        empty : came R (from t) (p ∷ qs) ≡ []
        empty = came-none (from t) gone (p ∷ qs)

    has-same : ((q : ℕ) → HasPlaces (had q) (entry_places job files q k 0)) → (q : ℕ) → has_number job files k p i j q ≡ is_some (from 0 q)
    has-same places q = by (passes job files (transfer_at job k 0) q p i)
      where
        by : (b : Bool) → is_some (cond b (entry_places job files q k 0 i j) None) ≡ is_some (cond b (had q i j) None)
        by true = sym (places q i j)
        by false = refl

    -- where it is the owner, by the mode of the statement
    pub picked-owner : (mode : Mode) (old : Option S) (qs : List ℕ) → IsOneToOne (layout_of job (owner_map job (transfer_at job k 0).plan)) → (transfer_at job k 0).way ≡ ToOwners → owns job files (transfer_at job k 0).plan p i ≡ true
        → ((q : ℕ) → HasPlaces (had q) (entry_places job files q k 0)) → mode ≡ mode_by (maker_of job k) → qs ≡ senders_of (send_phase job k 0) p d
        → combine R mode (is_fixed job k) old (came R (from 0) (p ∷ qs)) (picked_of mode (is_fixed job k) R.nought (came R (from 0) (p ∷ qs)))
        ≡ combine R mode (is_fixed job k) old (came R (from 0) (p ∷ qs)) (num_at R (from 0) (source_of job (transfer_at job k 0).way (transfer_at job k 0).plan (pick_of job files d k) i j))
    picked-owner mode old qs one way own places e s =
        by (picked-by R (from 0) (has_number job files k p i j) (has-same places) mode (is_fixed job k) p (p ∷ qs))
        ∙ ap (λ w. combine R mode (is_fixed job k) old (came R (from 0) (p ∷ qs)) (num_at R (from 0) (source_of job w (transfer_at job k 0).plan (pick_of job files d k) i j))) (sym way)
      where
        is : picked_of mode (is_fixed job k) p (filter (has_number job files k p i j) (p ∷ qs)) ≡ pick_of job files d k i j
        is = (λ u. picked_of (e u) (is_fixed job k) p (filter (has_number job files k p i j) (p ∷ s u))) ∙ ap (λ r. picked_rank job files d k r i j) (sym (owner-rank job files (transfer_at job k 0) one p i own))

        by : (came R (from 0) (p ∷ qs) ≡ []) ⊎ (num_at R (from 0) (picked_of mode (is_fixed job k) p (filter (has_number job files k p i j) (p ∷ qs))) ≡ picked_of mode (is_fixed job k) R.nought (came R (from 0) (p ∷ qs)))
            → combine R mode (is_fixed job k) old (came R (from 0) (p ∷ qs)) (picked_of mode (is_fixed job k) R.nought (came R (from 0) (p ∷ qs)))
            ≡ combine R mode (is_fixed job k) old (came R (from 0) (p ∷ qs)) (num_at R (from 0) (pick_of job files d k i j))
        by (inl g) = ap (λ z. combine R mode (is_fixed job k) old z (picked_of mode (is_fixed job k) R.nought (came R (from 0) (p ∷ qs)))) g ∙ sym (ap (λ z. combine R mode (is_fixed job k) old z (num_at R (from 0) (pick_of job files d k i j))) g)
        by (inr g) = ap (combine R mode (is_fixed job k) old (came R (from 0) (p ∷ qs))) (sym g ∙ ap (num_at R (from 0)) is)
