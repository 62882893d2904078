-- What a book says once one task of it changed, or a new one was begun.
use Rattle.std.proofs.Common.{◌≡◌, ℕ, ◌<◌, ◌≤◌, Bool, true, false, ◌&&◌, ◌==◌, cond, eqb, List, [], ◌∷◌, ◌++◌, length, get_or, set, slice_set, Option, None, Some, All, refl, sym, ap, subst, ◌∙◌}
use Rattle.std.specs.List.{position_or_len}
use Rattle.std.specs.Option.{is_some}
use Rattle.std.proofs.lemmas.Bool.{eqb-true, eqb-false, eq-eqb}
use Rattle.std.proofs.lemmas.List.{get_or-set_other, get_or-set_same, length-set}
use Rattle.std.proofs.lemmas.List.Elements.{All-push}
use Rattle.model_defs.specs.declared.phase.Plan.{Plan}
use Rattle.model_defs.specs.declared.phase.Plan.TheVariants.{ImportPlan, ExportPlan, ColumnPlan, RowPlan}
use Rattle.model_defs.specs.Transfers.{same_plan}
use Rattle.map_core.specs.Plans.{PlanLists}
use Rattle.model_defs.proofs.Filters.{both}
use Rattle.rank_plans.specs.Answers.{known_at}
use Rattle.rank_plans.specs.Tasks.{Task}
use Rattle.rank_plans.specs.Books.{Book, IsBook, slices, asked_in, asked_of, directory_of, lacking_in, made_in, made_of, map_size_of, owners_in, owners_of, size_in, task_in, told_in, told_of}
use Rattle.rank_plans.proofs.Found.{IsFound, find-apart, find-new, find-old, find-put, find-stays, found-at, past-none, place-within, within-found}

pub same-is : (a b : Plan) → same_plan a b ≡ true → a ≡ b
same-is (ImportPlan s t) (ImportPlan u v) e = let p = both (eqb s u) (eqb t v) e in λ i. ImportPlan (eqb-true s u p.0 i) (eqb-true t v p.1 i)
same-is (ExportPlan s t) (ExportPlan u v) e = let p = both (eqb s u) (eqb t v) e in λ i. ExportPlan (eqb-true s u p.0 i) (eqb-true t v p.1 i)
same-is (ColumnPlan v) (ColumnPlan w) e = ap ColumnPlan (eqb-true v w e)
same-is (RowPlan v) (RowPlan w) e = ap RowPlan (eqb-true v w e)
same-is (ImportPlan s t) (ExportPlan u v) e = absurd (let bad : ⊥ = cc in bad)
same-is (ImportPlan s t) (ColumnPlan w) e = absurd (let bad : ⊥ = cc in bad)
same-is (ImportPlan s t) (RowPlan w) e = absurd (let bad : ⊥ = cc in bad)
same-is (ExportPlan s t) (ImportPlan u v) e = absurd (let bad : ⊥ = cc in bad)
same-is (ExportPlan s t) (ColumnPlan w) e = absurd (let bad : ⊥ = cc in bad)
same-is (ExportPlan s t) (RowPlan w) e = absurd (let bad : ⊥ = cc in bad)
same-is (ColumnPlan v) (ImportPlan s t) e = absurd (let bad : ⊥ = cc in bad)
same-is (ColumnPlan v) (ExportPlan s t) e = absurd (let bad : ⊥ = cc in bad)
same-is (ColumnPlan v) (RowPlan w) e = absurd (let bad : ⊥ = cc in bad)
same-is (RowPlan v) (ImportPlan s t) e = absurd (let bad : ⊥ = cc in bad)
same-is (RowPlan v) (ExportPlan s t) e = absurd (let bad : ⊥ = cc in bad)
same-is (RowPlan v) (ColumnPlan w) e = absurd (let bad : ⊥ = cc in bad)

pub same-self : (plan : Plan) → same_plan plan plan ≡ true
same-self (ImportPlan s t) = λ i. (eq-eqb s s refl i) && (eq-eqb t t refl i)
same-self (ExportPlan s t) = λ i. (eq-eqb s s refl i) && (eq-eqb t t refl i)
same-self (ColumnPlan v) = eq-eqb v v refl
same-self (RowPlan v) = eq-eqb v v refl

-- the task of a plan stands at this place
abbrev pub IsTaskAt : List Task → Plan → ℕ → Task → Type 0
IsTaskAt = IsFound (λ t. t.plan) same_plan same-is same-self

pub task-at : (ts : List Task) (plan : Plan) (k : ℕ) (t d : Task) → k ≡ position_or_len (λ t. same_plan plan t.plan) ts → is_some (size_in (task_in ts plan)) ≡ true → get_or ts k d ≡ t → IsTaskAt ts plan k t
task-at ts plan k t d at there entry = found-at (λ t. t.plan) same_plan same-is same-self ts plan k t d at (sized (task_in ts plan) there) entry
  where
    sized : (o : Option Task) → is_some (size_in o) ≡ true → is_some o ≡ true
    sized None e = cc
    sized (Some t) e = refl

abbrev pub with_task : Book → ℕ → Task → Book
with_task b k t = record b { plans = slice_set b.plans k t }

module _ (b : Book) (plan : Plan) (k : ℕ) (t : Task) (h : IsTaskAt b.plans plan k t) where
  -- the task itself, and those of other plans
  pub task-put : (u : Task) → u.plan ≡ t.plan → task_in (slice_set b.plans k u) plan ≡ Some u
  task-put u e = find-put (λ t. t.plan) same_plan same-is same-self b.plans plan k t u h e

  pub task-apart : (u : Task) → u.plan ≡ t.plan → (other : Plan) → same_plan other plan ≡ false → task_in (slice_set b.plans k u) other ≡ task_in b.plans other
  task-apart u e other off = find-apart (λ t. t.plan) same_plan same-is same-self b.plans plan k t u h e other off

  pub task-stays : {X : Type 0} (f : Option Task → X) (u : Task) → u.plan ≡ t.plan → f (Some u) ≡ f (Some t) → (other : Plan) → f (task_in (slice_set b.plans k u) other) ≡ f (task_in b.plans other)
  task-stays f u e says other = find-stays (λ t. t.plan) same_plan same-is same-self f b.plans plan k t u h e says other

  pub asked-slices : (ls : List (List ℕ)) → slices (with_task b k (record t { asked = ls })) ≡ record (slices b) { asked = asked_of (with_task b k (record t { asked = ls })) }
  asked-slices ls = λ i. record {
    me = b.me;
    ranks = b.ranks;
    map_size = map_size_of b;
    directory = directory_of b;
    size = λ p. task-stays size_in (record t { asked = ls }) refl refl p i;
    lacking = λ p. task-stays lacking_in (record t { asked = ls }) refl refl p i;
    asked = asked_of (with_task b k (record t { asked = ls }));
    owners = λ p. task-stays owners_in (record t { asked = ls }) refl refl p i;
    told = λ p. task-stays told_in (record t { asked = ls }) refl refl p i;
    made = λ p. task-stays made_in (record t { asked = ls }) refl refl p i;
  }

  pub told-slices : (ls : List (List ℕ)) → slices (with_task b k (record t { told = ls })) ≡ record (slices b) { told = told_of (with_task b k (record t { told = ls })) }
  told-slices ls = λ i. record {
    me = b.me;
    ranks = b.ranks;
    map_size = map_size_of b;
    directory = directory_of b;
    size = λ p. task-stays size_in (record t { told = ls }) refl refl p i;
    lacking = λ p. task-stays lacking_in (record t { told = ls }) refl refl p i;
    asked = λ p. task-stays asked_in (record t { told = ls }) refl refl p i;
    owners = λ p. task-stays owners_in (record t { told = ls }) refl refl p i;
    told = told_of (with_task b k (record t { told = ls }));
    made = λ p. task-stays made_in (record t { told = ls }) refl refl p i;
  }

  pub owners-slices : (os : List (Option ℕ)) → slices (with_task b k (record t { owners = os })) ≡ record (slices b) { owners = owners_of (with_task b k (record t { owners = os })) }
  owners-slices os = λ i. record {
    me = b.me;
    ranks = b.ranks;
    map_size = map_size_of b;
    directory = directory_of b;
    size = λ p. task-stays size_in (record t { owners = os }) refl refl p i;
    lacking = λ p. task-stays lacking_in (record t { owners = os }) refl refl p i;
    asked = λ p. task-stays asked_in (record t { owners = os }) refl refl p i;
    owners = owners_of (with_task b k (record t { owners = os }));
    told = λ p. task-stays told_in (record t { owners = os }) refl refl p i;
    made = λ p. task-stays made_in (record t { owners = os }) refl refl p i;
  }

  -- of a list by rank one entry changes
  pub asked-others : (from : ℕ) (words : List ℕ) (other : Plan) (q : ℕ) → same_plan other plan && (q == from) ≡ false
      → asked_of (with_task b k (record t { asked = slice_set t.asked from words })) other q ≡ asked_of b other q
  asked-others from words other q e = go (same_plan other plan) refl e
    where
      go : (s : Bool) → same_plan other plan ≡ s → s && (q == from) ≡ false → asked_of (with_task b k (record t { asked = slice_set t.asked from words })) other q ≡ asked_of b other q
      go true same e = subst (λ p. asked_of (with_task b k (record t { asked = slice_set t.asked from words })) p q ≡ asked_of b p q) (sym (same-is other plan same))
          (ap (λ o. asked_in o q) (task-put (record t { asked = slice_set t.asked from words }) refl)
          ∙ get_or-set_other t.asked from q words [] (eqb-false q from e)
          ∙ sym (ap (λ o. asked_in o q) h.found))
      go false off e = ap (λ o. asked_in o q) (task-apart (record t { asked = slice_set t.asked from words }) refl other off)

  pub told-others : (from : ℕ) (words : List ℕ) (other : Plan) (q : ℕ) → same_plan other plan && (q == from) ≡ false
      → told_of (with_task b k (record t { told = slice_set t.told from words })) other q ≡ told_of b other q
  told-others from words other q e = go (same_plan other plan) refl e
    where
      go : (s : Bool) → same_plan other plan ≡ s → s && (q == from) ≡ false → told_of (with_task b k (record t { told = slice_set t.told from words })) other q ≡ told_of b other q
      go true same e = subst (λ p. told_of (with_task b k (record t { told = slice_set t.told from words })) p q ≡ told_of b p q) (sym (same-is other plan same))
          (ap (λ o. told_in o q) (task-put (record t { told = slice_set t.told from words }) refl)
          ∙ get_or-set_other t.told from q words [] (eqb-false q from e)
          ∙ sym (ap (λ o. told_in o q) h.found))
      go false off e = ap (λ o. told_in o q) (task-apart (record t { told = slice_set t.told from words }) refl other off)

  pub made-slices : (m : Option PlanLists) → slices (with_task b k (record t { made = m })) ≡ record (slices b) { made = made_of (with_task b k (record t { made = m })) }
  made-slices m = λ i. record {
    me = b.me;
    ranks = b.ranks;
    map_size = map_size_of b;
    directory = directory_of b;
    size = λ p. task-stays size_in (record t { made = m }) refl refl p i;
    lacking = λ p. task-stays lacking_in (record t { made = m }) refl refl p i;
    asked = λ p. task-stays asked_in (record t { made = m }) refl refl p i;
    owners = λ p. task-stays owners_in (record t { made = m }) refl refl p i;
    told = λ p. task-stays told_in (record t { made = m }) refl refl p i;
    made = made_of (with_task b k (record t { made = m }));
  }

-- the place of a task
pub plan-within : (ts : List Task) (plan : Plan) (k : ℕ) → k ≡ position_or_len (λ t. same_plan plan t.plan) ts → is_some (size_in (task_in ts plan)) ≡ true → k < length ts
plan-within ts plan k at there = subst (λ n. n < length ts) (sym at) (place-within (λ t. same_plan plan t.plan) ts (sized (task_in ts plan) there))
  where
    sized : (o : Option Task) → is_some (size_in o) ≡ true → is_some o ≡ true
    sized None e = cc
    sized (Some t) e = refl

-- a change keeps what holds of all
pub All-changed : {A : Type 0} (P : A → Type 0) (xs : List A) (k : ℕ) (y : A) → All P xs → P y → All P (set xs k y)
All-changed {A = A} P xs k y all one = λ i d low. go i d low (eqb i k) refl
  where
    go : (i : ℕ) (d : A) → i < length (set xs k y) → (b : Bool) → eqb i k ≡ b → P (get_or (set xs k y) i d)
    go i d low true e =
        let here : i ≡ k = eqb-true i k e in
        let within : k < length xs = subst (λ n. n < length xs) here (subst (λ n. i < n) (length-set xs k y) low) in
        subst P (sym (ap (λ n. get_or (set xs k y) n d) here ∙ get_or-set_same xs k y d within)) one
    go i d low false e = subst P (sym (get_or-set_other xs k i y d (eqb-false i k e))) (all i d (subst (λ n. i < n) (length-set xs k y) low))

pub IsBook-task : (b : Book) (k : ℕ) (u : Task) → IsBook b → u.ranks ≡ b.ranks → IsBook (with_task b k u)
IsBook-task b k u h e =
    record {
      some_rank = h.some_rank;
      ranks_limit = h.ranks_limit;
      own_rank = h.own_rank;
      directories = h.directories;
      tasks = All-changed (λ t. t.ranks ≡ b.ranks) b.plans k u h.tasks e;
    }

-- the owners that are known change at those indices that answers came for
module _ (b : Book) (plan : Plan) (k : ℕ) (t : Task) (h : IsTaskAt b.plans plan k t) where
  pub owners-others : (os : List (Option ℕ)) (test : ℕ → Bool) (f : ℕ → Option ℕ) → ((g : ℕ) → known_at t.lacking os g ≡ cond (test g) (f g) (known_at t.lacking t.owners g))
      → (other : Plan) (g : ℕ) → same_plan other plan && test g ≡ false → owners_of (with_task b k (record t { owners = os })) other g ≡ owners_of b other g
  owners-others os test f says other g e = go (same_plan other plan) refl e
    where
      go : (s : Bool) → same_plan other plan ≡ s → s && test g ≡ false → owners_of (with_task b k (record t { owners = os })) other g ≡ owners_of b other g
      go true same e = subst (λ p. owners_of (with_task b k (record t { owners = os })) p g ≡ owners_of b p g) (sym (same-is other plan same))
          (ap (λ o. owners_in o g) (task-put b plan k t h (record t { owners = os }) refl)
          ∙ says g ∙ ap (λ a. cond a (f g) (known_at t.lacking t.owners g)) e
          ∙ sym (ap (λ o. owners_in o g) h.found))
      go false off e = ap (λ o. owners_in o g) (task-apart b plan k t h (record t { owners = os }) refl other off)

-- a task that is begun
pub task-begun : (ts : List Task) (u : Task) (plan : Plan) → u.plan ≡ plan → is_some (size_in (task_in ts plan)) ≡ false → task_in (ts ++ u ∷ []) plan ≡ Some u
task-begun ts u plan e none =
    subst (λ p. task_in (ts ++ u ∷ []) p ≡ Some u) e (find-new (λ t. t.plan) same_plan same-is same-self ts u (sized (task_in ts u.plan) (subst (λ p. is_some (size_in (task_in ts p)) ≡ false) (sym e) none)))
  where
    sized : (o : Option Task) → is_some (size_in o) ≡ false → is_some o ≡ false
    sized None e = refl
    sized (Some t) e = cc

pub task-old : (ts : List Task) (u : Task) (plan other : Plan) → u.plan ≡ plan → same_plan other plan ≡ false → task_in (ts ++ u ∷ []) other ≡ task_in ts other
task-old ts u plan other e off = find-old (λ t. t.plan) same_plan same-is same-self ts u other (subst (λ p. same_plan other p ≡ false) (sym e) off)

pub IsBook-begun : (b : Book) (u : Task) → IsBook b → u.ranks ≡ b.ranks → IsBook (record b { plans = b.plans ++ u ∷ [] })
IsBook-begun b u h e =
    record {
      some_rank = h.some_rank;
      ranks_limit = h.ranks_limit;
      own_rank = h.own_rank;
      directories = h.directories;
      tasks = All-push (λ t. t.ranks ≡ b.ranks) b.plans u h.tasks e;
    }

-- the size of a task at a place
pub size-at : (ts : List Task) (plan : Plan) (k : ℕ) (t : Task) → IsTaskAt ts plan k t → size_in (task_in ts plan) ≡ Some t.size
size-at ts plan k t h = ap size_in h.found

pub plan-found : (ts : List Task) (plan : Plan) → position_or_len (λ t. same_plan plan t.plan) ts < length ts → is_some (size_in (task_in ts plan)) ≡ true
plan-found ts plan low = go (task_in ts plan) (within-found (λ t. same_plan plan t.plan) ts low)
  where
    go : (o : Option Task) → is_some o ≡ true → is_some (size_in o) ≡ true
    go None e = e
    go (Some t) e = refl

pub plan-missing : (ts : List Task) (plan : Plan) → length ts ≤ position_or_len (λ t. same_plan plan t.plan) ts → is_some (size_in (task_in ts plan)) ≡ false
plan-missing ts plan high = ap (λ o. is_some (size_in o)) (past-none (λ t. same_plan plan t.plan) ts high)

pub made-known : (o : Option Task) → is_some (made_in o) ≡ true → is_some (size_in o) ≡ true
made-known None e = e
made-known (Some t) e = refl
