-- A plan is made in its task of a book.
use Rattle.std.proofs.Common.{◌≡◌, ℕ, true, false, List, get_or, Some, refl, sym, ap, ◌∙◌}
use Rattle.std.specs.Prelude.{filter}
use Rattle.std.specs.List.{position_or_len}
use Rattle.std.specs.Option.{is_some}
use Rattle.map_core.specs.Classes.{owns}
use Rattle.map_core.specs.Plans.{PlanLists}
use Rattle.model_defs.specs.declared.phase.Plan.{Plan}
use Rattle.model_defs.specs.Transfers.{same_plan}
use Rattle.rank_plans.specs.Tasks.{Task, owned_of, told_by}
use Rattle.rank_plans.specs.Books.{Book, IsBook, has_plan, lacking_in, made_in, made_of, own_of, owners_in, size_in, slices, task_in, told_in, told_of}
use Rattle.rank_plans.proofs.Changes.{IsTaskAt, made-slices, plan-within, task-apart, task-at, task-put, with_task}

-- the task of a plan, at its place among those of the book b, which contracts see as `now`
pub record IsTaskOf (b now : Book) (plan : Plan) (k : ℕ) (t : Task) : Type 0 where
  pub view : b ≡ now
  pub found : IsTaskAt b.plans plan k t
  pub ranks : t.ranks ≡ now.ranks
  pub is : task_in now.plans plan ≡ Some t

pub task-of : (b now : Book) (plan : Plan) (k : ℕ) (t : Task) → b ≡ now → IsBook b → k ≡ position_or_len (λ t. same_plan plan t.plan) b.plans
    → has_plan now plan ≡ true → t ≡ get_or b.plans k t → IsTaskOf b now plan k t
task-of b now plan k t view book at begun entry =
    let known : is_some (size_in (task_in b.plans plan)) ≡ true = ap {A = Book} (λ v. has_plan v plan) view ∙ begun in
    let found : IsTaskAt b.plans plan k t = task-at b.plans plan k t t at known (sym entry) in
    record {
      view = view;
      found = found;
      ranks = ap {A = Task} (λ u. u.ranks) entry ∙ book.tasks k t (plan-within b.plans plan k at known) ∙ ap {A = Book} (λ v. v.ranks) view;
      is = sym (ap {A = Book} (λ v. task_in v.plans plan) view) ∙ found.found;
    }

module _ (b now : Book) (plan : Plan) (k : ℕ) (t : Task) (h : IsTaskOf b now plan k t) where
  -- what is made of the task's lists is made of the book's
  pub lists-of : (F : (me P : ℕ) → (own told : ℕ → List ℕ) → PlanLists) → F b.me t.ranks (owned_of t) (told_by t) ≡ F now.me now.ranks (own_of now plan) (told_of now plan)
  lists-of F = λ i. F (h.view i).me (h.ranks i) (λ q. filter (λ g. owns (owners_in (sym h.is i) g) q) (lacking_in (sym h.is i))) (told_in (sym h.is i))

  module _ (new : Task) (lists : PlanLists) (changed : new ≡ record t { made = Some lists }) where
    pub made-is : made_of (with_task b k new) plan ≡ Some lists
    made-is = (λ i. made_of (with_task b k (changed i)) plan) ∙ ap made_in (task-put b plan k t h.found (record t { made = Some lists }) refl)

    pub made-apart : (other : Plan) → same_plan other plan ≡ false → made_of (with_task b k new) other ≡ made_of now other
    made-apart other off =
        (λ i. made_of (with_task b k (changed i)) other)
        ∙ ap made_in (task-apart b plan k t h.found (record t { made = Some lists }) refl other off)
        ∙ ap {A = Book} (λ v. made_of v other) h.view

    pub made-alone : slices (with_task b k new) ≡ record (slices now) { made = made_of (with_task b k new) }
    made-alone =
        (λ i. slices (with_task b k (changed i)))
        ∙ made-slices b plan k t h.found (Some lists)
        ∙ (λ i. record (slices (h.view i)) { made = made_of (with_task b k (sym changed i)) })
