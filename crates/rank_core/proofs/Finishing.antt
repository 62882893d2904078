-- The pieces of the values before the next phase's.
use Rattle.std.proofs.Common.{◌≡◌, ℕ, zero, suc, ◌+◌, ◌<◌, ◌≤◌, ◌⊎◌, inl, inr, List, [], ◌∷◌, ◌++◌, length, Option, None, Some, refl, sym, ap, ◌∙◌, subst, arith}
use Rattle.std.specs.Prelude.{slice_get}
use Rattle.std.proofs.lemmas.Option.{same_Some, slice_get_within}
use Rattle.scalar_laws.specs.Semiring.{Semiring}
use Rattle.scalar_laws.specs.Conversions.{Conversions}
use Rattle.mm_text.specs.Reading.{File}
use Rattle.peers.specs.Protocols.{Letter}
use Rattle.rank_phases.specs.Stages.{Stage, CanEnter}
use Rattle.model_defs.specs.declared.job.Job.{Job}
use Rattle.model_defs.specs.declared.shape.Shape.{Shape}
use Rattle.model_defs.specs.Makers.{value_count}
use Rattle.model_defs.specs.Phases.{phases}
use Rattle.rank_share.specs.declared.share.Share.{Share}
use Rattle.value_phases.specs.ValueKinds.{HasValueKinds}
use Rattle.value_phases.specs.ValuePhases.{HasValuePhases}
use Rattle.value_phases.specs.ValueStages.{HasValueStages}
use Rattle.rank_pieces.specs.declared.pieces.Piece.{Piece}
use Rattle.rank_pieces.specs.Inputs.{IsRankInput}
use Rattle.rank_pieces.specs.Pieces.{AreOwnPieces, IsMadeHere, IsOwnPiece}
use Rattle.rank_core.specs.declared.makings.Making.{Making}
use Rattle.rank_core.specs.declared.worker.JobWorker.{JobWorker}
use Rattle.rank_core.specs.Leaving.{CanLeave, with_made}
use Rattle.rank_core.specs.Makings.{IsPhaseOf}
use Rattle.rank_core.specs.Pieces.{count_before, made_count}
use Rattle.rank_core.specs.Workers.{IsJobWorker}
use Rattle.rank_core.proofs.Counted.{at-place, count-at, count-end, count-grows, count-most}
use Rattle.rank_core.proofs.Leaving.{can-leave, none-first, own}
use Rattle.rank_core.proofs.Turns.{IsFirst, first-after, passed-here}

length-made : {A : Type 0} (xs : List A) (o : Option A) → length (with_made xs o) ≤ length xs + 1
length-made xs None = omega arith
length-made [] (Some x) = omega arith
length-made (y ∷ ys) (Some x) = let rest = length-made ys (Some x) in omega arith

length-more : {A : Type 0} (xs : List A) (x : A) → length xs < length (xs ++ x ∷ [])
length-more [] x = omega arith
length-more (y ∷ ys) x = let rest = length-more ys x in omega arith

-- one of the list, or the one that was put at its end
last-of : {A : Type 0} (xs : List A) (x : A) (v : ℕ) (y : A) → slice_get (xs ++ x ∷ []) v ≡ Some y → (slice_get xs v ≡ Some y) ⊎ ((v ≡ length xs) × (x ≡ y))
last-of [] x zero y e = inr (refl, same_Some x y e)
last-of [] x (suc v) y e = absurd (let bad : ⊥ = cc in bad)
last-of (z ∷ zs) x zero y e = inl e
last-of (z ∷ zs) x (suc v) y e = elim (last-of zs x v y e) [ inl there ↦ inl there | inr (at, is) ↦ inr (ap suc at, is) ]

module _ {S : Type 0} (R : Semiring S) (F : Conversions S) (job : Job) (files : List File) (me : ℕ) (given : List Letter) where
  pub put-own : (pieces : List (Piece S)) (made : Option (Piece S)) → AreOwnPieces R F job files me given (length pieces) pieces
      → ((p : Piece S) → made ≡ Some p → IsOwnPiece R F job files me given (length pieces) p)
      → AreOwnPieces R F job files me given (length (with_made pieces made)) (with_made pieces made)
  put-own pieces None before is = before
  put-own pieces (Some p) before is = record {
    many = refl;
    each = λ v q at. elim (last-of pieces p v q at) [
      | inl there ↦ before.each v q there
      | inr (here, one) ↦ subst (λ n. IsOwnPiece R F job files me given n q) (sym here) (subst (IsOwnPiece R F job files me given (length pieces)) one (is p refl))
    ];
  }

module _ {S : Type 0} (R : Semiring S) (F : Conversions S) (worker : JobWorker S) (s : Stage) (stands : IsJobWorker R F worker s) (phase : ℕ) (can : CanEnter s phase)
    (phased : HasValuePhases worker.job.value) (staged : HasValueStages worker.job.value) (kinds : HasValueKinds worker.job.value)
    (count : ℕ) (count_is : count ≡ count_before worker.job.value (slice_get worker.phases.items phase)) (more : length worker.values.items < count) where
  abbrev job : Job
  job = worker.job.value

  pub count-made : count ≡ made_count worker.job.value (suc s.entered)
  count-made =
      count_is
      ∙ ap (λ xs. count_before worker.job.value (slice_get xs phase)) stands.worker_of.phase_list
      ∙ ap (λ n. count_before worker.job.value (slice_get (phases worker.job.value) n)) (sym can.next)

  pub count-known : count ≤ value_count worker.job.value
  count-known = let most = count-most job phased (suc s.entered) in let same = count-made in omega arith

  above : length worker.values.items < made_count worker.job.value (suc s.entered)
  above = subst (λ n. length worker.values.items < n) count-made more

  -- what is left, as the code has it
  pub leaves-as : (j : Job) (shapes : List Shape) (pieces : List (Piece S)) (k : ℕ) (making : Option (Making S)) → j ≡ worker.job.value → shapes ≡ worker.shapes.items → pieces ≡ worker.values.items
      → k ≡ length worker.values.items → making ≡ worker.making
      → CanLeave R F j stands.files worker.me worker.share shapes pieces s.absorbed worker.book k making
  leaves-as j shapes pieces k making job_is shapes_are pieces_are k_is making_is =
      subst (λ a. CanLeave R F a stands.files worker.me worker.share shapes pieces s.absorbed worker.book k making) (sym job_is)
      (subst (λ a. CanLeave R F job stands.files worker.me worker.share a pieces s.absorbed worker.book k making) (sym shapes_are)
      (subst (λ a. CanLeave R F job stands.files worker.me worker.share worker.shapes.items a s.absorbed worker.book k making) (sym pieces_are)
      (subst (λ a. CanLeave R F job stands.files worker.me worker.share worker.shapes.items worker.values.items s.absorbed worker.book a making) (sym k_is)
      (subst (CanLeave R F job stands.files worker.me worker.share worker.shapes.items worker.values.items s.absorbed worker.book (length worker.values.items)) (sym making_is)
      (can-leave R F worker s stands phase can phased staged kinds above)))))

  -- so its piece is the rank's
  pub own-as : (j : Job) (shapes : List Shape) (pieces : List (Piece S)) (k : ℕ) (making : Option (Making S)) → j ≡ worker.job.value → shapes ≡ worker.shapes.items → pieces ≡ worker.values.items
      → k ≡ length worker.values.items → making ≡ worker.making → (p : Piece S)
      → ((files : List File) (given : List Letter) (share : Share) → CanLeave R F j files worker.me share shapes pieces given worker.book k making → IsOwnPiece R F j files worker.me given k p)
      → IsOwnPiece R F worker.job.value stands.files worker.me s.absorbed (length worker.values.items) p
  own-as j shapes pieces k making job_is shapes_are pieces_are k_is making_is p is =
      subst (λ a. IsOwnPiece R F a stands.files worker.me s.absorbed (length worker.values.items) p) job_is
      (subst (λ n. IsOwnPiece R F j stands.files worker.me s.absorbed n p) k_is
      (is stands.files s.absorbed worker.share (leaves-as j shapes pieces k making job_is shapes_are pieces_are k_is making_is)))

  -- no phase that was entered is for a value behind it
  pub first-behind : (v : ℕ) → length worker.values.items < v → IsFirst job phased s.entered v
  first-behind v low = by s.entered refl
    where
      by : (e : ℕ) → s.entered ≡ e → IsFirst job phased s.entered v
      by zero e = λ m of before. omega (arith, e, before)
      by (suc m) e = elim (at-place (phases job) m) [
        | inl (a, at) ↦
            subst (λ n. IsFirst job phased n v) (sym e)
            (first-after job phased m v (length worker.values.items) (record { phase = a; at = at; value = sym (count-at job phased m a at) ∙ ap (made_count job) (sym e) ∙ sym stands.values.many }) low)
        | inr (past, long) ↦
            let all = count-end job phased m long in
            let many : length worker.values.items ≡ made_count job (suc m) = stands.values.many ∙ ap (made_count job) e in
            let most = count-most job phased (suc s.entered) in
            let over = above in absurd (omega arith)
      ]

  module _ (made : Option (Piece S)) (none : made ≡ None → worker.making ≡ None) (items : List (Piece S)) (items_are : items ≡ with_made worker.values.items made) where
    pub items-few : length items ≤ count
    items-few =
        let short = length-made worker.values.items made in
        let many : length items ≡ length (with_made worker.values.items made) = ap length items_are in omega arith

    pub items-here : (v : ℕ) → length items ≤ v → v < count → IsMadeHere worker.job.value v
    items-here v from to = passed-here job phased s.entered v (subst (λ n. v < n) count-made to) (by made refl)
      where
        by : (o : Option (Piece S)) → made ≡ o → IsFirst job phased s.entered v
        by None e = let first = none-first R F worker s stands phase can phased staged kinds above (none e) in λ m of before. omega (arith, first, before)
        by (Some p) e =
            first-behind v
            (let longer = length-more worker.values.items p in
            let many : length items ≡ length (worker.values.items ++ p ∷ []) = ap length (items_are ∙ ap (with_made worker.values.items) e) in omega (arith, from, longer, many))

    pub items-own : ((p : Piece S) → made ≡ Some p → IsOwnPiece R F worker.job.value stands.files worker.me s.absorbed (length worker.values.items) p)
        → AreOwnPieces R F worker.job.value stands.files worker.me s.absorbed (length items) items
    items-own is =
        subst (λ xs. AreOwnPieces R F job stands.files worker.me s.absorbed (length xs) xs) (sym items_are)
        (put-own R F job stands.files worker.me s.absorbed worker.values.items made (own R F worker s stands phase can phased staged kinds) is)

module _ {S : Type 0} (R : Semiring S) (F : Conversions S) (worker : JobWorker S) (s : Stage) (stands : IsJobWorker R F worker s) (phase : ℕ) (can : CanEnter s phase)
    (phased : HasValuePhases worker.job.value) (staged : HasValueStages worker.job.value) (kinds : HasValueKinds worker.job.value)
    (count : ℕ) (count_is : count ≡ count_before worker.job.value (slice_get worker.phases.items phase)) (all : count ≤ length worker.values.items) where
  -- where none is to be made, all are there
  pub all-there : length worker.values.items ≡ count
  all-there =
      let next = can.next in
      let low = can.within in
      let phases_are = stands.book.stage.phases in
      let grows = count-grows worker.job.value phased s.entered (omega arith) in
      let many = stands.values.many in
      let same : count ≡ made_count worker.job.value (suc s.entered) = count_is
      ∙ ap (λ xs. count_before worker.job.value (slice_get xs phase)) stands.worker_of.phase_list
      ∙ ap (λ n. count_before worker.job.value (slice_get (phases worker.job.value) n)) (sym can.next) in
      omega arith

  pub own-all : AreOwnPieces R F worker.job.value stands.files worker.me s.absorbed count worker.values.items
  own-all = subst (λ n. AreOwnPieces R F worker.job.value stands.files worker.me s.absorbed n worker.values.items) all-there (own R F worker s stands phase can phased staged kinds)
