-- An apply at one rank, stage after stage.
use Rattle.std.proofs.Common.{◌≡◌, ℕ, zero, suc, ◌<◌, ◌-◌, Bool, true, false, cond, not, ◌&&◌, ltb, length, Option, Some, None, refl, sym, ap, subst, ◌∙◌, arith}
use Rattle.std.specs.Prelude.{is_some}
use Rattle.std.specs.Option.{option_map, unwrap_or}
use Rattle.std.proofs.lemmas.Bool.{eq-eqb}
use Rattle.scalar_laws.specs.Semiring.{Semiring}
use Rattle.scalar_laws.specs.Conversions.{Conversions}
use Rattle.tables.specs.Indices.{stands}
use Rattle.tables.specs.Sums.{both_or_one}
use Rattle.tables.specs.Tables.{Table}
use Rattle.combine_modes.specs.declared.mode.Mode.TheVariants.{Add, Replace}
use Rattle.map_core.proofs.Members.{and_true}
use Rattle.model_defs.specs.declared.job.Step.TheVariants as step
use Rattle.model_defs.specs.declared.phase.Way.{Way}
use Rattle.model_defs.specs.declared.phase.Way.TheVariants.{FromOwners, ToOwners}
use Rattle.model_defs.specs.FileMatrix.{number_of}
use Rattle.model_defs.specs.Makers.{Made}
use Rattle.model_defs.specs.Maps.{has_index, size_of}
use Rattle.model_defs.specs.Operations.{completed, filled, product, turned}
use Rattle.model_defs.specs.Plans.{is_target_row, lacking, owns, passes, rank_list_by, sent_by, sent_rows, target_by as target_rows}
use Rattle.model_defs.specs.Shapes.{is_split_sort, shape}
use Rattle.model_defs.specs.Stages.{entries_by, first_pieces, gathered_after, last_way, made_by, near_x, own_addend, plain_target, rank_entries, target_at, target_by, transfer_at}
use Rattle.model_defs.specs.Transfers.{apply_transfers, owner_map, transfers}
use Rattle.dense_arrivals.specs.Applies.{AppliesAreOntoNoughts, AppliesHaveTransfers, CopiesAreApplied, CopiesOfX, SumsAreApplied, SumsOfOwn, first_transfer, is_from_owners, second_transfer}
use Rattle.dense_arrivals.proofs.ApplyPlaces.{kept, nth, sums-full}

pub applies-have-transfers : AppliesHaveTransfers
applies-have-transfers job k apply = (
  ap (λ ts. nth ts 0) apply.transfers_are ∙ first (is_split_sort (shape job apply.a).sort) apply.transposed,
  ap length apply.transfers_are ∙ count (is_split_sort (shape job apply.a).sort) apply.transposed,
  λ s. ap (λ ts. nth ts 1) apply.transfers_are ∙ ap (λ b. nth (apply_transfers apply.a b apply.transposed) 1) s ∙ second apply.transposed,
)
  where
    first : (split transposed : Bool) → nth (apply_transfers apply.a split transposed) 0 ≡ first_transfer apply.a split transposed
    first false false = refl
    first false true = refl
    first true false = refl
    first true true = refl

    count : (split transposed : Bool) → length (apply_transfers apply.a split transposed) ≡ cond split 2 1
    count false false = refl
    count false true = refl
    count true false = refl
    count true true = refl

    second : (transposed : Bool) → nth (apply_transfers apply.a true transposed) 1 ≡ second_transfer apply.a transposed
    second false = refl
    second true = refl

module _ {S : Type 0} (R : Semiring S) (F : Conversions S) where
  pub copies-of-x : CopiesOfX R F
  copies-of-x job files k p arrivals good w =
      λ s. entries_by R F job files p k (w s) 0 (first_pieces R F job files p arrivals k)
      (gathered_after R F job files p arrivals k (first_pieces R F job files p arrivals k) 0) (good.apply.is s)

  pub applies-are-onto-noughts : AppliesAreOntoNoughts R F
  applies-are-onto-noughts job files k p stage arrivals good list known listed = (ap (λ t. t.mode) plain ∙ mode (transfer_at job k stage).way, ap (λ t. t.old) plain ∙ old (transfer_at job k stage).way ∙ rows)
    where
      noughts : Table S
      noughts = filled (is_target_row job files (transfer_at job k stage) p) (shape job k).columns R.nought

      plain : target_at R F job files p k stage (first_pieces R F job files p arrivals k) ≡ plain_target true (transfer_at job k stage).way noughts
      plain = λ s. target_by (first_pieces R F job files p arrivals k) (plain_target (good.apply.dense s) (transfer_at job k stage).way noughts) (good.apply.is s)

      mode : (way : Way) → (plain_target true way noughts).mode ≡ cond (is_from_owners way) Replace Add
      mode FromOwners = refl
      mode ToOwners = refl

      old : (way : Way) → (plain_target true way noughts).old ≡ noughts
      old FromOwners = refl
      old ToOwners = refl

      target : (way : Way) (i : ℕ) → target_rows job files way (transfer_at job k stage).plan p i
          ≡ cond (is_from_owners way) (stands i (rank_list_by job files (transfer_at job k stage).plan p)) (has_index job (owner_map job (transfer_at job k stage).plan) p i)
      target FromOwners i = refl
      target ToOwners i = refl

      rows : noughts ≡ filled (λ i. stands i list) (shape job k).columns R.nought
      rows = λ s. filled (λ i. (target (transfer_at job k stage).way i ∙ sym (listed i)) s) (shape job k).columns R.nought

  pub copies-are-applied : CopiesAreApplied R F
  copies-are-applied job files k p arrivals good came whole plain =
      (λ s. made_by R F job files p k (last_way (good.apply.transfers_are s)) mine came (good.apply.is s))
      ∙ (λ s. finish (whole s) (plain s))
    where
      mine : ℕ → Table S
      mine = first_pieces R F job files p arrivals k

      finish : Bool → Bool → Table S
      finish split b =
          made_by R F job files p k (last_way (apply_transfers good.apply.a split b)) mine came
          (Made (step.Apply good.apply.name good.apply.a good.apply.x good.apply.y good.apply.alpha good.apply.beta b))

  pub sums-are-applied : SumsAreApplied R F
  sums-are-applied job files k p arrivals good came way there =
      (λ s. made_by R F job files p k (last-is s) mine came (good.apply.is s))
      ∙ (λ s i j. at (came i j) (addend i j) (there i j) s)
    where
      mine : ℕ → Table S
      mine = first_pieces R F job files p arrivals k

      addend : Table S
      addend = own_addend R job p (shape job k) mine good.apply.y

      alpha : S
      alpha = number_of R F good.apply.alpha

      beta : S
      beta = number_of R F good.apply.beta

      last-of : (split b : Bool) → last_way (apply_transfers good.apply.a split b) ≡ (nth (apply_transfers good.apply.a split b) (length (apply_transfers good.apply.a split b) - 1)).way
      last-of false false = refl
      last-of false true = refl
      last-of true false = refl
      last-of true true = refl

      last-is : last_way (transfers job k) ≡ ToOwners
      last-is =
          ap last_way good.apply.transfers_are
          ∙ last-of (is_split_sort (shape job good.apply.a).sort) good.apply.transposed
          ∙ ap (λ ts. (nth ts (length ts - 1)).way) (sym good.apply.transfers_are) ∙ way

      at : (c d : Option S) → is_some c ≡ is_some d → option_map (λ old. R.plus (R.times alpha (unwrap_or c R.nought)) (R.times beta old)) d ≡ both_or_one R.plus (option_map (R.times alpha) c) (option_map (R.times beta) d)
      at None None e = refl
      at None (Some d) e = absurd (let bad : ⊥ = cc in bad)
      at (Some c) None e = absurd (let bad : ⊥ = cc in bad)
      at (Some c) (Some d) e = refl

  pub sums-of-own : SumsOfOwn R F
  sums-of-own job files k p stage arrivals good list near known way placed listed near-is =
      (λ i j e. agree i j (own-row i e), λ q i j l e. agree i j (sent-row q i e))
    where
      a : ℕ
      a = good.apply.a

      mine : ℕ → Table S
      mine = first_pieces R F job files p arrivals k

      list-of : ℕ → Bool
      list-of i = stands i (rank_list_by job files (transfer_at job k stage).plan p)

      own-row : (i : ℕ) → passes job files (transfer_at job k stage) p p i ≡ true → list-of i ≡ true
      own-row i e =
          (and_true (list-of i) (owns job files (transfer_at job k stage).plan p i)
          (ap (λ b. cond b (list-of i && owns job files (transfer_at job k stage).plan p i) (stands i (sent_rows job files (transfer_at job k stage) p p))) (sym (eq-eqb p p refl)) ∙ e)).0

      sent-row : (q i : ℕ) → stands i (sent_rows job files (transfer_at job k stage) p q) ≡ true → list-of i ≡ true
      sent-row q i e =
          (kept (λ g. not (owns job files (transfer_at job k stage).plan p g)) i (rank_list_by job files (transfer_at job k stage).plan p)
          (kept (owns job files (transfer_at job k stage).plan q) i (lacking job files (transfer_at job k stage).plan p)
          (ap (λ w. stands i (sent_by job files w (transfer_at job k stage).plan p q)) (sym way) ∙ e)).0).0

      sums : Table S
      sums = product R (size_of job (shape job good.apply.x).rows) (turned good.apply.transposed (mine a)) near

      -- of a whole matrix sums are sent first, of a split one after the copies came
      near-here : near ≡ near_x stage (mine good.apply.x) (gathered_after R F job files p arrivals k mine stage)
      near-here = near-is ∙ by (is_split_sort (shape job a).sort) good.apply.transposed stage (ap (λ ts. (nth ts stage).way) (sym good.apply.transfers_are) ∙ way) (subst (λ ts. stage < length ts) good.apply.transfers_are known)
        where
          by : (split b : Bool) (t : ℕ) → (nth (apply_transfers a split b) t).way ≡ ToOwners → t < length (apply_transfers a split b)
              → cond split (gathered_after R F job files p arrivals k mine 1) (mine good.apply.x) ≡ near_x t (mine good.apply.x) (gathered_after R F job files p arrivals k mine t)
          by false false zero w l = absurd (let bad : ⊥ = cc in bad)
          by false true zero w l = refl
          by false false (suc t) w l = absurd (omega arith)
          by false true (suc t) w l = absurd (omega arith)
          by true false zero w l = absurd (let bad : ⊥ = cc in bad)
          by true true zero w l = absurd (let bad : ⊥ = cc in bad)
          by true false (suc zero) w l = refl
          by true true (suc zero) w l = refl
          by true false (suc (suc t)) w l = absurd (omega arith)
          by true true (suc (suc t)) w l = absurd (omega arith)

      entries-are : rank_entries R F job files p arrivals k stage ≡ sums
      entries-are =
          (λ s. entries_by R F job files p k (way s) stage mine (gathered_after R F job files p arrivals k mine stage) (good.apply.is s))
          ∙ (λ s. product R (size_of job (shape job good.apply.x).rows) (turned good.apply.transposed (mine a)) (sym near-here s))

      full : (i j : ℕ) → list-of i ≡ true → is_some (sums i j) ≡ ltb j (shape job k).columns
      full i j e =
          ap (λ t. is_some (t i j)) (sym entries-are) ∙ placed i j
          ∙ sums-full job files good.valid good.fitting k good.apply.below good.apply.name a good.apply.x good.apply.y good.apply.alpha good.apply.beta good.apply.transposed good.apply.is p stage known way i j e

      -- where a sum is there it is completed by nothing
      same : (w : Bool) (o : Option S) → is_some o ≡ w → cond (true && w) (Some (unwrap_or o R.nought)) None ≡ o
      same true (Some c) e = refl
      same true None e = absurd (let bad : ⊥ = cc in bad)
      same false None e = refl
      same false (Some c) e = absurd (let bad : ⊥ = cc in bad)

      agree : (i j : ℕ) → list-of i ≡ true
          → completed R (λ i. stands i list) (shape job k).columns sums i j ≡ rank_entries R F job files p arrivals k stage i j
      agree i j e =
          ap (λ b. cond (b && ltb j (shape job k).columns) (Some (unwrap_or (sums i j) R.nought)) None) (listed i ∙ e)
          ∙ same (ltb j (shape job k).columns) (sums i j) (full i j e)
          ∙ ap (λ t. t i j) (sym entries-are)
