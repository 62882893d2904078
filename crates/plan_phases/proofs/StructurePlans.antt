-- The plan of a structure, as a rank's book has it once it was shared.
use Rattle.std.proofs.Common.{◌≡◌, ℕ, ◌<◌, ◌≤◌, ◌⊎◌, inl, inr, Bool, true, false, cond, not, ◌||◌, eqb, List, [], ◌∷◌, Some, None, Option, All, filter, map, length, refl, sym, ap, subst, ◌∙◌, arith}
use Rattle.std.specs.Option.{unwrap_or}
use Rattle.std.proofs.lemmas.Bool.{cases_lt, eq-eqb, eqb-true, or_right}
use Rattle.std.proofs.lemmas.List.{get_or_past}
use Rattle.scalar_laws.specs.Semiring.{Semiring}
use Rattle.scalar_laws.specs.Conversions.{Conversions}
use Rattle.map_core.specs.Classes.{owns as owned_by}
use Rattle.map_core.specs.Layouts.{IsOneToOne, Layout, owner, rank_list, stands}
use Rattle.map_core.proofs.Members.{and_true, both_true, stands-filter}
use Rattle.map_core.proofs.Owners.{owner-has, owner-only}
use Rattle.mm_text.specs.Reading.{File}
use Rattle.matrix_arrivals.specs.RowPlans.{IsFromOwners}
use Rattle.model_defs.specs.declared.job.Job.{Job}
use Rattle.model_defs.specs.declared.phase.Plan.{Plan}
use Rattle.model_defs.specs.Maps.{layout_of, list_of, map_at, owner_rank, size_of}
use Rattle.model_defs.specs.Plans.{lacking, owns, rank_list_by, remote}
use Rattle.model_defs.specs.Transfers.{owner_map}
use Rattle.model_defs.specs.Valid.{IsOwnerMap}
use Rattle.model_defs.proofs.KnownShapes.{lists-length}
use Rattle.rank_plans.specs.Answers.{lacked_in, owner_by}
use Rattle.rank_plans.specs.Books.{Book, has_plan, own_of, owners_of, told_of}
use Rattle.rank_plans.specs.Tasks.{import_of}
use Rattle.plan_phases.specs.BookStages.{IsBookStage}
use Rattle.plan_phases.specs.BookCalls.{IsPlanList, IsSharedBook}
use Rattle.plan_phases.proofs.SharedBook.{import-is, shared-held, shared-none, shared-one, shared-owns, shared-there, shared-told}
use Rattle.plan_phases.proofs.StructureLists.{none-kept}

-- ---- lists

-- tests that agree on a list keep the same of it
kept-same : (f h : ℕ → Bool) (xs : List ℕ) → ((g : ℕ) → stands g xs ≡ true → f g ≡ h g) → filter f xs ≡ filter h xs
kept-same f h [] same = refl
kept-same f h (x ∷ xs) same = λ i.
    cond (same x (ap (λ b. b || stands x xs) (eq-eqb x x refl)) i) (x ∷ kept-same f h xs (λ g on. same g (or_right (eqb x g) (stands g xs) on)) i)
    (kept-same f h xs (λ g on. same g (or_right (eqb x g) (stands g xs) on)) i)

mapped-same : (f h : ℕ → ℕ) (xs : List ℕ) → ((g : ℕ) → stands g xs ≡ true → f g ≡ h g) → map f xs ≡ map h xs
mapped-same f h [] same = refl
mapped-same f h (x ∷ xs) same = λ i.
    same x (ap (λ b. b || stands x xs) (eq-eqb x x refl)) i ∷ mapped-same f h xs (λ g on. same g (or_right (eqb x g) (stands g xs) on)) i

-- where an index has one owner at most, that is the rank whose list has it
one-owned : (m : Layout) (g q : ℕ) → IsOneToOne m → owned_by (owner m g) q ≡ stands g (rank_list m q)
one-owned m g q one = by (stands g (rank_list m q)) refl (owner m g) refl
  where
    by : (b : Bool) → stands g (rank_list m q) ≡ b → (o : Option ℕ) → owner m g ≡ o → owned_by o q ≡ b
    by true e None f = let is = owner-only m g q one e in absurd (let bad : ⊥ = cc in bad)
    by true e (Some p) f = let is = sym f ∙ owner-only m g q one e in let same : p ≡ q = cc in eq-eqb p q same
    by false e None f = refl
    by false e (Some p) f = go (eqb p q) refl
      where
        go : (b : Bool) → eqb p q ≡ b → b ≡ false
        go false h = refl
        go true h =
            let has = owner-has m g p f in
            let mine : stands g (rank_list m q) ≡ true = ap (λ r. stands g (rank_list m r)) (sym (eqb-true p q h)) ∙ has in
            absurd (let bad : ⊥ = cc in bad)

-- ---- the plan

module _ {S : Type 0} (R : Semiring S) (F : Conversions S) (job : Job) (files : List File) (b : Book) (plan : Plan) (h : IsSharedBook R F job files b plan) where
  abbrev k : IsBookStage R F job files b h.view h.stage
  k = h.kept

  abbrev m : ℕ
  m = owner_map job plan

  one : IsOwnerMap job m
  one = shared-one R F job files b h.view h.stage k h.phase plan h.is h.left

  pub plan-known : m < length job.maps
  plan-known = one.0

  pub rank-known : b.me < job.ranks
  rank-known = subst (λ p. p < job.ranks) (sym k.me) k.stage.within

  pub plan-there : has_plan b plan ≡ true
  plan-there = shared-there R F job files b h.view h.stage k h.phase plan h.is h.left

  pub none-of-own : own_of b plan b.me ≡ []
  none-of-own = shared-none R F job files b h.view h.stage k h.phase plan h.is h.left

  pub others-held : (q : ℕ) → q < b.ranks → All (λ g. owns job files plan b.me g ≡ true) (told_of b plan q)
  others-held = shared-held R F job files b h.view h.stage k h.phase plan h.is h.left

  own-is : (q : ℕ) → own_of b plan q ≡ remote job files plan b.me q
  own-is q = shared-owns R F job files b h.view h.stage k h.phase plan h.is h.left q ∙ (λ t. remote job files plan (sym k.me t) q)

  told-is : (q : ℕ) → q < job.ranks → told_of b plan q ≡ remote job files plan q b.me
  told-is q l = shared-told R F job files b h.view h.stage k h.phase plan h.is h.left q l ∙ (λ t. remote job files plan q (sym k.me t))

  known-owner : (g : ℕ) → stands g (rank_list_by job files plan b.me) ≡ true → owns job files plan b.me g ≡ false → owners_of b plan g ≡ owner (layout_of job m) g
  known-owner g on off =
      k.known h.phase plan g h.is h.left.entered
      ((λ t. stands g (lacking job files plan (sym k.me t)))
      ∙ stands-filter g (λ x. not (owns job files plan b.me x)) (rank_list_by job files plan b.me)
      ∙ both_true (stands g (rank_list_by job files plan b.me)) (not (owns job files plan b.me g)) on (ap not off))

  -- no rank that is not of the job owns an index
  none-beyond : (q g : ℕ) → job.ranks ≤ q → owns job files plan q g ≡ false
  none-beyond q g l =
      let count : length (layout_of job m).lists ≡ job.ranks = lists-length job.ranks (size_of job m) (map_at job m).form (k.valid.forms m plan-known) in
      ap (stands g) (get_or_past (layout_of job m).lists q [] (omega (arith, count, l)))

  pub owners-are : map (owner_by b.me (list_of job m b.me) (owners_of b plan)) (rank_list_by job files plan b.me) ≡ map (owner_rank job m) (rank_list_by job files plan b.me)
  owners-are = mapped-same (owner_by b.me (list_of job m b.me) (owners_of b plan)) (owner_rank job m) (rank_list_by job files plan b.me) (λ g on. by g on (owns job files plan b.me g) refl)
    where
      by : (g : ℕ) → stands g (rank_list_by job files plan b.me) ≡ true → (c : Bool) → owns job files plan b.me g ≡ c
          → cond c b.me (unwrap_or (owners_of b plan g) 0) ≡ owner_rank job m g
      by g on true e = ap (λ o. unwrap_or o 0) (sym (owner-only (layout_of job m) g b.me one.1 e))
      by g on false e = ap (λ o. unwrap_or o 0) (known-owner g on e)

  module _ (list : List ℕ) (is : IsPlanList job files plan b.me list) where
    abbrev lacked : List ℕ
    lacked = lacked_in (list_of job m b.me) list

    lacked-owned : (q g : ℕ) → stands g lacked ≡ true → owned_by (owners_of b plan g) q ≡ owns job files plan q g
    lacked-owned q g on =
        let both = and_true (stands g list) (not (owns job files plan b.me g)) (sym (stands-filter g (λ x. not (owns job files plan b.me x)) list) ∙ on) in
        ap (λ o. owned_by o q) (known-owner g (sym (is.listed g) ∙ both.0) (not-on (owns job files plan b.me g) both.1))
        ∙ one-owned (layout_of job m) g q one.1
      where
        not-on : (c : Bool) → not c ≡ true → c ≡ false
        not-on true e = absurd (let bad : ⊥ = cc in bad)
        not-on false e = refl

    pub lacked-is : (q : ℕ) → filter (λ g. owned_by (owners_of b plan g) q) lacked ≡ own_of b plan q
    lacked-is q = kept-same (λ g. owned_by (owners_of b plan g) q) (owns job files plan q) lacked (lacked-owned q) ∙ by (cases_lt q job.ranks) ∙ sym (own-is q)
      where
        by : (q < job.ranks) ⊎ (job.ranks ≤ q) → filter (owns job files plan q) lacked ≡ remote job files plan b.me q
        by (inl l) = is.order q l
        by (inr l) =
            none-kept (owns job files plan q) lacked (λ g on. none-beyond q g l)
            ∙ sym (none-kept (owns job files plan q) (lacking job files plan b.me) (λ g on. none-beyond q g l))

    pub made-is : IsFromOwners job files plan b.me (list_of job m b.me) list (import_of b.me b.ranks (list_of job m b.me) list (own_of b plan) (told_of b plan))
    made-is =
        subst (λ P. IsFromOwners job files plan b.me (list_of job m b.me) list (import_of b.me P (list_of job m b.me) list (own_of b plan) (told_of b plan))) (sym k.ranks)
        (import-is job files plan b.me (list_of job m b.me) list (own_of b plan) (told_of b plan) rank-known k.valid.limits.ranks own-is told-is)
