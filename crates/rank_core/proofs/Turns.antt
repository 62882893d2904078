-- From a phase to the next one: what is being made of a value while its phases go on, and how the value is left.
use Rattle.std.proofs.Common.{◌≡◌, ℕ, zero, suc, ◌<◌, ◌≤◌, ◌⊎◌, inl, inr, true, false, List, [], length, Option, None, Some, refl, sym, ap, ◌∙◌, subst, arith}
use Rattle.std.specs.Prelude.{slice_get}
use Rattle.std.specs.List.{slice_index_or}
use Rattle.std.proofs.lemmas.Bool.{cases_lt, eq-eqb}
use Rattle.std.proofs.lemmas.Option.{slice_get_within, same_Some}
use Rattle.model_defs.specs.declared.job.Job.{Job}
use Rattle.model_defs.specs.declared.phase.About.TheVariants.{SendNumbers, SharePlan}
use Rattle.model_defs.specs.declared.phase.Phase.{Phase}
use Rattle.model_defs.specs.Phases.{phases, send_phase}
use Rattle.model_defs.specs.Shapes.{shape, is_dense, is_split_sort}
use Rattle.model_defs.specs.Stages.{stage_count, transfer_at}
use Rattle.model_defs.specs.Transfers.{from_owners, is_local}
use Rattle.model_defs.specs.declared.phase.Plan.TheVariants.{ColumnPlan, ImportPlan, RowPlan}
use Rattle.model_defs.proofs.Phases.{stages_are_in_order}
use Rattle.rank_stages.specs.JobStages.{about_at}
use Rattle.rank_stages.proofs.SendPhases.{send-phase-is}
use Rattle.rank_stages.proofs.SentOnce.{transfers_are_sent_once}
use Rattle.rank_transfers.proofs.Unsent.{local-transfers-are-unsent}
use Rattle.value_phases.specs.ValueKinds.{IsOwnMatrix}
use Rattle.value_phases.specs.ValuePhases.{HasValuePhases, IsAfter, IsBefore, IsStructured}
use Rattle.value_phases.specs.ValueStages.{HasValueStages}
use Rattle.rank_pieces.specs.Pieces.{IsMadeHere}
use Rattle.rank_core.specs.Makings.{IsPhaseOf, IsSending, IsStructuring}
use Rattle.rank_core.specs.Pieces.{made_count}
use Rattle.rank_core.proofs.Counted.{at-place, count-at, count-end, made-left}

pub sent-of-any : (job : Job) (m k t : ℕ) → IsSending job m k t → send_phase job k t ≡ Some m
sent-of-any job m k t s = ap (λ v. send_phase job v t) (sym s.value) ∙ transfers_are_sent_once job m t s.phase s.at s.about

module _ (job : Job) (phased : HasValuePhases job) where
  pub sending-phase : (k t m : ℕ) → send_phase job k t ≡ Some m → IsSending job m k t
  sending-phase k t m e = let p = send-phase-is job k t m e in record { phase = p.phase; at = p.is; value = p.value; about = p.about }

  pub of-sending : (m k t : ℕ) → IsSending job m k t → IsPhaseOf job m k
  of-sending m k t s = record { phase = s.phase; at = s.at; value = s.value }

  pub sent-of : (m k t : ℕ) → IsSending job m k t → send_phase job k t ≡ Some m
  sent-of m k t s = sent-of-any job m k t s

  -- a phase in which the same numbers are sent is the same
  same-sending : (m n k t : ℕ) → send_phase job k t ≡ Some m → send_phase job k t ≡ Some n → m ≡ n
  same-sending m n k t e f = same_Some m n (sym e ∙ f)

  -- phases are for values in order
  pub in-order : (m n k l : ℕ) → IsPhaseOf job m k → IsPhaseOf job n l → m ≤ n → k ≤ l
  in-order m n k l a b low =
      let order = phased.in_order m n a.phase b.phase a.at b.at low in
      let one = a.value in
      let two = b.value in omega arith

  -- a value is left for good
  pub no-more : (m k n : ℕ) → k < made_count job (suc (suc m)) → IsPhaseOf job n k → n ≤ m
  no-more m k n above b = elim (cases_lt m n) [
    | inr low ↦ low
    | inl high ↦ elim (at-place (phases job) (suc m)) [
      | inl (c, at) ↦
          let count = count-at job phased (suc m) c at in
          let order = phased.in_order (suc m) n c b.phase at b.at (omega arith) in
          let value = b.value in absurd (omega arith)
      | inr (none, long) ↦ let short = slice_get_within (phases job) n b.phase b.at in absurd (omega arith)
    ]
  ]

  -- ---- leaving a value

  pub leave-none : (m k : ℕ) → IsPhaseOf job m k → ((t : ℕ) → IsSending job m k t → ⊥) → (IsStructuring job m k → ⊥) → k < made_count job (suc (suc m)) → ⊥
  leave-none m k of unsent plain above =
      by (subst (λ v. IsBefore job m v ⊎ IsAfter job m v) of.value (phased.when m of.phase of.at))
    where
      by : IsBefore job m k ⊎ IsAfter job m k → ⊥
      by (inl b) =
          let s = sending-phase k b.stage b.phase b.sends in
          let low = no-more m k b.phase above (of-sending b.phase k b.stage s) in
          let later = b.later in
          let same : b.phase ≡ m = omega arith in
          unsent b.stage (subst (λ n. IsSending job n k b.stage) same s)
      by (inr a) = plain (record { of = of; after = a })

  module _ (staged : HasValueStages job) where
    pub leave-sparse : (m k t : ℕ) → IsSending job m k t → is_dense (shape job k).sort ≡ false → k < made_count job (suc (suc m)) → ⊥
    leave-sparse m k t s sparse above =
        let sent = sent-of m k t s in
        let structured = staged.sent_structured k t m sent sparse in
        let plan = phased.column_plans k structured in
        let low = no-more m k plan.0 above (record { phase = plan.1; at = plan.2; value = plan.3 }) in
        let before = plan.5.sent t m sent in absurd (omega arith)

    pub leave-dense : (m k t : ℕ) → IsSending job m k t → k < made_count job (suc (suc m)) → suc t ≡ stage_count job k
    leave-dense m k t s above =
        let known : t < stage_count job k = subst (λ v. t < stage_count job v) s.value (phased.stages m t s.phase s.at s.about) in
        elim (cases_lt (suc t) (stage_count job k)) [
          | inl more ↦
              let sent = sent-of m k t s in
              let next = staged.all_sent k t m sent more in
              let order = stages_are_in_order job k t k (suc t) m next.0 (inr (refl, omega arith)) sent next.1 in
              let low = no-more m k next.0 above (of-sending next.0 k (suc t) (sending-phase k (suc t) next.0 next.1)) in absurd (omega arith)
          | inr none ↦ omega arith
        ]

    -- ---- going on with it

    pub on-dense : (m k t : ℕ) → IsSending job m k t → IsPhaseOf job (suc m) k → is_dense (shape job k).sort ≡ true → IsSending job (suc m) k (suc t)
    on-dense m k t s of dense = by (subst (λ v. IsBefore job (suc m) v ⊎ IsAfter job (suc m) v) of.value (phased.when (suc m) of.phase of.at))
      where
        by : IsBefore job (suc m) k ⊎ IsAfter job (suc m) k → IsSending job (suc m) k (suc t)
        by (inr a) = absurd (let bad : true ≡ false = sym dense ∙ a.structured.sparse in let wrong : ⊥ = cc in wrong)
        by (inl b) = go b.stage b.phase b.sends b.later (sending-phase k b.stage b.phase b.sends)
          where
            go : (stage n : ℕ) → send_phase job k stage ≡ Some n → suc m ≤ n → IsSending job n k stage → IsSending job (suc m) k (suc t)
            go zero n sends later x = elim (cases_lt 0 t) [
              | inl after ↦
                  let order = stages_are_in_order job k 0 k t n m (inr (refl, after)) sends (sent-of m k t s) in absurd (omega arith)
              | inr first ↦
                  let same : t ≡ 0 = omega arith in
                  let one = same-sending n m k 0 sends (ap (send_phase job k) (sym same) ∙ sent-of m k t s) in absurd (omega arith)
            ]
            go (suc u) n sends later x =
                let before = phased.in_turn n u x.phase x.at x.about in
                let y : IsSending job before.0 k u = record { phase = record x.phase { about = SendNumbers u }; at = before.2; value = x.value; about = refl } in
                let few = staged.few_stages k in
                let low : suc u < stage_count job k = subst (λ v. suc u < stage_count job v) x.value (phased.stages n (suc u) x.phase x.at x.about) in
                let first : u ≡ 0 = omega arith in
                let started : t ≡ 0 = (elim (cases_lt 0 t) [
                  | inl after ↦
                      let known : t < stage_count job k = subst (λ v. t < stage_count job v) s.value (phased.stages m t s.phase s.at s.about) in
                      let one : t ≡ suc u = omega arith in
                      let equal = same-sending m n k (suc u) (ap (send_phase job k) (sym one) ∙ sent-of m k t s) sends in absurd (omega arith)
                  | inr none ↦ omega arith
                ]) in
                let same_stage : u ≡ t = first ∙ sym started in
                let equal : before.0 ≡ m = same-sending before.0 m k u (sent-of before.0 k u y) (ap (send_phase job k) same_stage ∙ sent-of m k t s) in
                let number : n ≡ suc m = before.1 ∙ ap suc equal in
                subst (λ i. IsSending job i k (suc t)) number (subst (λ w. IsSending job n k (suc w)) same_stage x)

    pub on-sparse : (m k t : ℕ) → IsSending job m k t → IsPhaseOf job (suc m) k → is_dense (shape job k).sort ≡ false → IsStructuring job (suc m) k
    on-sparse m k t s of sparse = by (subst (λ v. IsBefore job (suc m) v ⊎ IsAfter job (suc m) v) of.value (phased.when (suc m) of.phase of.at))
      where
        by : IsBefore job (suc m) k ⊎ IsAfter job (suc m) k → IsStructuring job (suc m) k
        by (inr a) = record { of = of; after = a }
        by (inl b) =
            let x = sending-phase k b.stage b.phase b.sends in
            let one = staged.one_stage k sparse in
            let low : b.stage < stage_count job k = subst (λ v. b.stage < stage_count job v) x.value (phased.stages b.phase b.stage x.phase x.at x.about) in
            let known : t < stage_count job k = subst (λ v. t < stage_count job v) s.value (phased.stages m t s.phase s.at s.about) in
            let same : b.stage ≡ t = omega arith in
            let equal = same-sending b.phase m k t (ap (send_phase job k) (sym same) ∙ b.sends) (sent-of m k t s) in
            let later = b.later in absurd (omega arith)

  pub on-structured : (m k : ℕ) → IsStructuring job m k → IsPhaseOf job (suc m) k → IsStructuring job (suc m) k
  on-structured m k x of = by (subst (λ v. IsBefore job (suc m) v ⊎ IsAfter job (suc m) v) of.value (phased.when (suc m) of.phase of.at))
    where
      by : IsBefore job (suc m) k ⊎ IsAfter job (suc m) k → IsStructuring job (suc m) k
      by (inr a) = record { of = of; after = a }
      by (inl b) = let before = x.after.sent b.stage b.phase b.sends in let later = b.later in absurd (omega arith)

  pub on-none : (m k : ℕ) → IsPhaseOf job m k → ((t : ℕ) → IsSending job m k t → ⊥) → (IsStructuring job m k → ⊥)
      → ((t : ℕ) → IsSending job (suc m) k (suc t) → ⊥) × (IsStructuring job (suc m) k → ⊥)
  on-none m k of unsent plain = (no-second, no-structure)
    where
      no-second : (t : ℕ) → IsSending job (suc m) k (suc t) → ⊥
      no-second t x =
          let before = phased.in_turn (suc m) t x.phase x.at x.about in
          let same : before.0 ≡ m = (let e = before.1 in omega arith) in
          unsent t (subst (λ n. IsSending job n k t) same (record { phase = record x.phase { about = SendNumbers t }; at = before.2; value = x.value; about = refl }))

      by : IsAfter job (suc m) k → IsBefore job m k ⊎ IsAfter job m k → ⊥
      by after (inl b) =
          let before = after.sent b.stage b.phase b.sends in
          let later = b.later in
          let same : b.phase ≡ m = omega arith in
          unsent b.stage (subst (λ n. IsSending job n k b.stage) same (sending-phase k b.stage b.phase b.sends))
      by after (inr a) = plain (record { of = of; after = a })

      no-structure : IsStructuring job (suc m) k → ⊥
      no-structure x = by x.after (subst (λ v. IsBefore job m v ⊎ IsAfter job m v) of.value (phased.when m of.phase of.at))

  -- ---- a new value

  -- no phase before this one is for value k
  abbrev pub IsFirst : ℕ → ℕ → Type 0
  IsFirst n k = (m : ℕ) → IsPhaseOf job m k → m < n → ⊥

  pub first-after : (m k l : ℕ) → IsPhaseOf job m l → l < k → IsFirst (suc m) k
  first-after m k l of low n x before = let order = in-order n m k l x of (omega arith) in omega arith

  pub first-unsent : (n k : ℕ) → IsFirst n k → IsAfter job n k → (t : ℕ) → send_phase job k t ≡ None
  first-unsent n k first after t = go (send_phase job k t) refl
    where
      go : (o : Option ℕ) → send_phase job k t ≡ o → send_phase job k t ≡ None
      go None e = e
      go (Some m) e = absurd (first m (of-sending m k t (sending-phase k t m e)) (after.sent t m e))

  pub first-second : (n k t : ℕ) → IsFirst n k → IsSending job n k (suc t) → ⊥
  first-second n k t first x =
      let before = phased.in_turn n t x.phase x.at x.about in
      first before.0 (record { phase = record x.phase { about = SendNumbers t }; at = before.2; value = x.value }) (let e = before.1 in omega arith)

  -- nothing is sent for a matrix of which each rank makes its rows by itself
  own-unsent : (k t n : ℕ) → IsOwnMatrix job k → t < stage_count job k → send_phase job k t ≡ Some n → ⊥
  own-unsent k t n (inl split) low sends = let none : stage_count job k ≡ 0 = ap length split.transfers_are in omega arith
  own-unsent k t n (inr sum) low sends =
      let one : stage_count job k ≡ 1 = ap length sum.sum.transfers_are in
      let first : t ≡ 0 = omega (arith, low, one) in
      let only : transfer_at job k t ≡ from_owners (ImportPlan (shape job sum.sum.b).rows (shape job sum.sum.a).rows) =
      (λ i. slice_index_or (sum.sum.transfers_are i) (first i) (from_owners (ImportPlan 0 0))) in
      let none = local-transfers-are-unsent job k t (ap (λ u. is_local u.plan) only ∙ eq-eqb (shape job sum.sum.b).rows (shape job sum.sum.a).rows sum.here) in
      let bad : ⊥ = cc in
      bad

  pub own-structured : (n k : ℕ) → IsPhaseOf job n k → IsOwnMatrix job k → IsStructuring job n k
  own-structured n k of own = by (subst (λ v. IsBefore job n v ⊎ IsAfter job n v) of.value (phased.when n of.phase of.at))
    where
      by : IsBefore job n k ⊎ IsAfter job n k → IsStructuring job n k
      by (inr a) = record { of = of; after = a }
      by (inl b) =
          let x = sending-phase k b.stage b.phase b.sends in
          let low : b.stage < stage_count job k = subst (λ v. b.stage < stage_count job v) x.value (phased.stages b.phase b.stage x.phase x.at x.about) in
          absurd (own-unsent k b.stage b.phase own low b.sends)

  -- values that are passed over are made without letters and without plans
  pub passed-here : (n v : ℕ) → v < made_count job (suc n) → IsFirst n v → IsMadeHere job v
  passed-here n v below first = record { unsent = λ t. go t (send_phase job v t) refl; shared = none }
    where
      go : (t : ℕ) (o : Option ℕ) → send_phase job v t ≡ o → send_phase job v t ≡ None
      go t None e = e
      go t (Some m) e = absurd (first m (of-sending m v t (sending-phase v t m e)) (made-left job phased n v t m below e))

      none : IsStructured job v → ⊥
      none structured =
          let plan = phased.column_plans v structured in
          let x : IsPhaseOf job plan.0 v = record { phase = plan.1; at = plan.2; value = plan.3 } in
          elim (cases_lt plan.0 n) [
            | inl low ↦ first plan.0 x low
            | inr high ↦ elim (at-place (phases job) n) [
              | inl (c, at) ↦
                  let count = count-at job phased n c at in
                  let order = phased.in_order n plan.0 c plan.1 at plan.2 high in
                  let value = plan.3 in absurd (omega arith)
              | inr (past, long) ↦ let short = slice_get_within (phases job) plan.0 plan.1 plan.2 in absurd (omega arith)
            ]
          ]
