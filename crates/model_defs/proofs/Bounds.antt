-- The sizes and the words of a valid job are bounded.
use Rattle.std.proofs.Common.{◌≡◌, ℕ, zero, suc, ◌<◌, ◌≤◌, ◌+◌, inl, inr, Bool, true, false, cond, ◌||◌, eqb, ltb, List, [], ◌∷◌, ◌++◌, map, filter, length, Option, Some, None, refl, sym, ap, subst, ◌∙◌, arith, lt-ltb, length-append}
use Rattle.std.specs.List.{list_all}
use Rattle.std.specs.Option.{unwrap_or}
use Rattle.std.proofs.lemmas.Bool.{cases_lt, eq-eqb}
use Rattle.std.proofs.lemmas.List.{get_or_past}
use Rattle.tables.specs.Indices.{stands, count_from}
use Rattle.mm_text.specs.Reading.{File}
use Rattle.map_core.specs.Layouts.{Layout, IsLayout, owner}
use Rattle.map_core.specs.Uniform.{uniform_layout}
use Rattle.map_core.proofs.Contiguous.{is_layout-uniform, length-uniform}
use Rattle.map_core.proofs.Owners.{owner-below}
use Rattle.model_defs.specs.declared.job.Job.{Job}
use Rattle.model_defs.specs.declared.job.MapSpec.{MapSpec}
use Rattle.model_defs.specs.declared.job.MapForm.{MapForm}
use Rattle.model_defs.specs.declared.job.MapForm.TheVariants.{Uniform, Blocks, Cyclic, Lists}
use Rattle.model_defs.specs.Limits.{most_size, IsSmallForm}
use Rattle.model_defs.specs.Maps.{map_at, no_map, size_of, layout_of, lists_of, list_of}
use Rattle.model_defs.specs.Makers.{GivenVector, GivenParts, GivenMatrix, Made, gives_value}
use Rattle.model_defs.specs.Shapes.{shape}
use Rattle.model_defs.specs.Transfers.{Plan, ImportPlan, ExportPlan, ColumnPlan, RowPlan, Way, FromOwners, ToOwners, Transfer}
use Rattle.model_defs.specs.Plans.{rank_list_by, lacking, remote, sent_by, sent_rows}
use Rattle.model_defs.specs.Phases.{About, RegisterMap, AskOwners, TellOwners, SharePlan, SendNumbers}
use Rattle.model_defs.specs.Stages.{transfer_at}
use Rattle.model_defs.specs.Letters.{owner_word, no_owner, entries_about}
use Rattle.model_defs.specs.Valid.{IsValid}
use Rattle.model_defs.specs.BoundLaws.{MapsAreLayouts, EntriesAreSmall, WidthsAreSmall, ValuesAreFew}
use Rattle.model_defs.proofs.Filters.{and, later, filter-all}
use Rattle.model_defs.proofs.KnownShapes.{ranked}

abbrev is_small : ℕ → Bool
is_small g = ltb g most_size

all-from : (p : ℕ → Bool) (xs : List ℕ) → ((g : ℕ) → stands g xs ≡ true → p g ≡ true) → list_all p xs ≡ true
all-from p [] h = refl
all-from p (x ∷ xs) h = and (p x) _ (h x (ap (λ b. b || stands x xs) (eq-eqb x x refl))) (all-from p xs (λ g e. h g (later (eqb x g) _ e)))

counts-small : (n k : ℕ) → n + k ≤ most_size → list_all is_small (count_from n k) ≡ true
counts-small n zero l = refl
counts-small n (suc k) l = and (is_small n) _ (lt-ltb n most_size (omega arith)) (counts-small (n + 1) k (omega arith))

below-small : (k : ℕ) → k ≤ most_size → list_all is_small (count_from 0 k) ≡ true
below-small k l = counts-small 0 k (omega (arith, l))

small-form : (size : ℕ) (form : MapForm) → IsSmallForm size form → size ≤ most_size
small-form size Uniform h = omega (arith, h)
small-form size (Blocks counts) h = omega (arith, h)
small-form size Cyclic h = omega (arith, h)
small-form size (Lists lists) h = h.0

abbrev layout_by : ℕ → MapSpec → Layout
layout_by P spec = record { size = spec.size; lists = lists_of P spec.size spec.form }

-- a map that is not there has no index
unknown : (job : Job) (m : ℕ) → length job.maps ≤ m → layout_of job m ≡ uniform_layout job.ranks 0
unknown job m l = ap (layout_by job.ranks) (get_or_past job.maps m no_map l)

pub maps-are-layouts : MapsAreLayouts
maps-are-layouts = λ job m valid. elim (cases_lt m (length job.maps)) [
  | inl known ↦ (valid.layouts m known, small-form (size_of job m) (map_at job m).form (valid.limits.forms m no_map known))
  | inr past ↦ (
    subst IsLayout (sym (unknown job m past)) (is_layout-uniform job.ranks 0 valid.some),
    (let none : size_of job m ≡ 0 = ap (λ u. u.size) (unknown job m past) in omega (arith, none)),
  )
]

owners-few : (job : Job) → IsValid job → (m g q : ℕ) → owner (layout_of job m) g ≡ Some q → q < job.ranks
owners-few job valid m g q e = elim (cases_lt m (length job.maps)) [
  | inl known ↦ ranked job valid m known g q e
  | inr past ↦
      let below = owner-below (layout_of job m) g q e in
      let many : length (layout_of job m).lists ≡ job.ranks = ap (λ u. length u.lists) (unknown job m past) ∙ length-uniform job.ranks 0 in
      omega (arith, below, many)
]

module _ (job : Job) (files : List File) (valid : IsValid job) where
  size-small : (m : ℕ) → size_of job m ≤ most_size
  size-small m = (maps-are-layouts job m valid).1

  list-small : (m p : ℕ) → list_all is_small (list_of job m p) ≡ true
  list-small m p = all-from is_small (list_of job m p) (λ g e. let t = (maps-are-layouts job m valid).0.below p g e in let s = size-small m in lt-ltb g most_size (omega (arith, t, s)))

  rank-list-small : (plan : Plan) (p : ℕ) → list_all is_small (rank_list_by job files plan p) ≡ true
  rank-list-small (ImportPlan source target) p = list-small target p
  rank-list-small (ExportPlan source target) p = list-small source p
  rank-list-small (ColumnPlan v) p = filter-all is_small _ (count_from 0 (size_of job (shape job v).domain)) (below-small (size_of job (shape job v).domain) (size-small (shape job v).domain))
  rank-list-small (RowPlan v) p = filter-all is_small _ (count_from 0 (size_of job (shape job v).rows)) (below-small (size_of job (shape job v).rows) (size-small (shape job v).rows))

  lacking-small : (plan : Plan) (p : ℕ) → list_all is_small (lacking job files plan p) ≡ true
  lacking-small plan p = filter-all is_small _ (rank_list_by job files plan p) (rank-list-small plan p)

  remote-small : (plan : Plan) (p q : ℕ) → list_all is_small (remote job files plan p q) ≡ true
  remote-small plan p q = filter-all is_small _ (lacking job files plan p) (lacking-small plan p)

  sent-small : (t : Transfer) (p q : ℕ) → list_all is_small (sent_rows job files t p q) ≡ true
  sent-small t p q = by t.way
    where
      by : (way : Way) → list_all is_small (sent_by job files way t.plan p q) ≡ true
      by FromOwners = remote-small t.plan q p
      by ToOwners = remote-small t.plan p q

  owner-small : (m g : ℕ) → is_small (owner_word job files m g) ≡ true
  owner-small m g = by (owner (layout_of job m) g) refl
    where
      by : (o : Option ℕ) → owner (layout_of job m) g ≡ o → is_small (unwrap_or o no_owner) ≡ true
      by None e = refl
      by (Some q) e = let few = owners-few job valid m g q e in let ranks = valid.limits.ranks in lt-ltb q most_size (omega (arith, few, ranks))

  owners-small : (m : ℕ) (gs : List ℕ) → list_all is_small (map (owner_word job files m) gs) ≡ true
  owners-small m [] = refl
  owners-small m (g ∷ gs) = and (is_small (owner_word job files m g)) _ (owner-small m g) (owners-small m gs)

  entries-small : (k : ℕ) (about : About) (p q : ℕ) → list_all is_small (entries_about job files k about p q) ≡ true
  entries-small k (RegisterMap m) p q = filter-all is_small _ (list_of job m p) (list-small m p)
  entries-small k (AskOwners plan) p q = filter-all is_small _ (lacking job files plan p) (lacking-small plan p)
  entries-small k (TellOwners plan) p q = owners-small _ _
  entries-small k (SharePlan plan) p q = remote-small plan p q
  entries-small k (SendNumbers stage) p q = sent-small (transfer_at job k stage) p q

pub entries-are-small : EntriesAreSmall
entries-are-small = λ job files phase n valid. entries-small job files valid phase.value phase.about n.from n.to

pub widths-are-small : WidthsAreSmall
widths-are-small = λ job files k valid e. subst (λ b. cond b (shape job k).columns (size_of job (shape job k).domain) ≤ most_size) (sym e) (size-small job files valid (shape job k).domain)

-- ---- how many values there are

filter-shorter : {A : Type 0} (p : A → Bool) (xs : List A) → length (filter p xs) ≤ length xs
filter-shorter p [] = omega arith
filter-shorter p (x ∷ xs) = go (p x) (filter-shorter p xs)
  where
    go : (b : Bool) → length (filter p xs) ≤ length xs → length (cond b (x ∷ filter p xs) (filter p xs)) ≤ suc (length xs)
    go true l = omega (arith, l)
    go false l = omega (arith, l)

length-of-map : {A B : Type 0} (f : A → B) (xs : List A) → length (map f xs) ≡ length xs
length-of-map f [] = refl
length-of-map f (x ∷ xs) = ap suc (length-of-map f xs)

pub values-are-few : ValuesAreFew
values-are-few = λ job valid.
    let steps = map Made (filter gives_value job.steps) in
    let matrices = map GivenMatrix job.matrices in
    let parts = map GivenParts job.parts in
    let vectors = map GivenVector job.vectors in
    let a = length-append (vectors ++ parts ++ matrices) steps in
    let b = length-append (vectors ++ parts) matrices in
    let c = length-append vectors parts in
    let n = length-of-map Made (filter gives_value job.steps) in
    let m = length-of-map GivenMatrix job.matrices in
    let p = length-of-map GivenParts job.parts in
    let v = length-of-map GivenVector job.vectors in
    let s = filter-shorter gives_value job.steps in
    let few = valid.limits.given in
    let short = valid.limits.steps in
    omega (arith, a, b, c, n, m, p, v, s, few, short)
