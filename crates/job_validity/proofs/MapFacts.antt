-- What holds of a map that is read.
use Rattle.std.proofs.Common.{◌≡◌, ◌<◌, ◌≤◌, ℕ, true, List, [], ◌∷◌, length, get_or, sum, Ok, refl, subst, sym}
use Rattle.std.specs.Prelude.{codes}
use Rattle.std.specs.List.{concat}
use Rattle.std.proofs.lemmas.Bool.{and_parts}
use Rattle.std.proofs.lemmas.Bool.Decides.{Decides-ltb}
use Rattle.toml.specs.Data.{Members}
use Rattle.tables.specs.Indices.{stands, AreDistinct}
use Rattle.map_core.specs.Layouts.{IsLayout}
use Rattle.map_core.proofs.Contiguous.{is_layout-uniform}
use Rattle.map_core.proofs.Cyclic.{is_layout-cyclic}
use Rattle.map_core.proofs.Blocks.{is_layout-blocks}
use Rattle.model_defs.specs.declared.job.MapSpec.{MapSpec}
use Rattle.model_defs.specs.Limits.{IsSmallForm, most_indices, most_size}
use Rattle.model_defs.specs.Valid.{IsForm}
use Rattle.job_text.specs.declared.fault.JobFault.TheVariants.{BadMap}
use Rattle.job_text.specs.declared.place.Place.{Place}
use Rattle.job_text.specs.declared.words.MapKind.{MapKind}
use Rattle.job_text.specs.declared.words.MapKind.TheVariants as kind
use Rattle.job_text.specs.declared.words.Form.TheVariants as form
use Rattle.job_text.specs.Names.{Text}
use Rattle.job_text.specs.Keys.{required, only_keys, new_name_at}
use Rattle.job_text.specs.Layouts.{are_distinct, is_sound_list, are_sound_lists}
use Rattle.job_text.specs.Known.{Known, layout_by}
use Rattle.job_text.specs.Maps.{kind_at, map_in, lists_at, size_at, uniform_in, cyclic_in, blocks_in, lists_in, form_in, lists_map, sound_map}
use Rattle.job_text.proofs.LayoutTests.{distinct_decides, all_stand}
use Rattle.job_validity.proofs.Outcomes.{Holds, weaken, bind, when, skip}
use Rattle.job_validity.proofs.KeyFacts.{IsWithin, IsNewName, number-at, new-name}
use Rattle.job_validity.proofs.ListFacts.{counts-of, index-lists-of}

-- a map over P ranks
pub record IsGoodSpec (P : ℕ) (spec : MapSpec) : Type 0 where
  pub form : IsForm P spec.size spec.form
  pub small : IsSmallForm spec.size spec.form
  pub layout : 0 < P → IsLayout (layout_by P spec)

pub record IsMapFor (known : Known) (spec : MapSpec) : Type 0 where
  pub name : IsNewName known spec.name
  pub good : IsGoodSpec known.ranks spec

-- sound lists are a layout
module _ (size : ℕ) where
  sound-distinct : (ls : List (List ℕ)) → are_sound_lists size ls ≡ true → (p : ℕ) → AreDistinct (get_or ls p [])
  sound-distinct [] e p = tt
  sound-distinct (l ∷ ls) e ℕ.zero = (distinct_decides l).0 ((and_parts (are_distinct l) _ ((and_parts (is_sound_list size l) _ e).0)).0)
  sound-distinct (l ∷ ls) e (ℕ.suc p) = sound-distinct ls ((and_parts (is_sound_list size l) _ e).1) p

  sound-below : (ls : List (List ℕ)) → are_sound_lists size ls ≡ true → (p g : ℕ) → stands g (get_or ls p []) ≡ true → g < size
  sound-below [] e p g s = absurd (cc)
  sound-below (l ∷ ls) e ℕ.zero g s =
      (Decides-ltb g size).0 (all_stand _ l ((and_parts (are_distinct l) _ ((and_parts (is_sound_list size l) _ e).0)).1) g s)
  sound-below (l ∷ ls) e (ℕ.suc p) g s = sound-below ls ((and_parts (is_sound_list size l) _ e).1) p g s

  pub sound-layout : (ls : List (List ℕ)) → are_sound_lists size ls ≡ true → IsLayout (record { size = size; lists = ls })
  sound-layout ls e = record { distinct = sound-distinct ls e; below = sound-below ls e }

module _ (at : Place) (table : Members) (P : ℕ) (name : Text) where
  abbrev IsGood : MapSpec → Type 0
  IsGood spec = (spec.name ≡ name) × IsGoodSpec P spec

  size-at : (most : ℕ) → Holds (IsWithin 0 most) (size_at at table P name most)
  size-at most = number-at at table (codes "size") 0 most

  uniform-in : Holds IsGood (uniform_in at table P name)
  uniform-in = bind (IsWithin 0 most_indices) IsGood (size_at at table P name most_indices) _ (size-at most_indices)
      (λ size w. (refl, record { form = tt; small = w.1; layout = λ some. is_layout-uniform P size some }))

  cyclic-in : Holds IsGood (cyclic_in at table P name)
  cyclic-in = bind (IsWithin 0 most_indices) IsGood (size_at at table P name most_indices) _ (size-at most_indices)
      (λ size w. (refl, record { form = tt; small = w.1; layout = λ some. is_layout-cyclic P size }))

  blocks-in : Holds IsGood (blocks_in at table P name)
  blocks-in =
      bind (λ counts. (length counts ≡ P) × (sum counts ≤ most_indices)) IsGood _ _
      (skip (λ counts. (length counts ≡ P) × (sum counts ≤ most_indices)) (required at table (codes "counts")) _ (counts-of at (codes "counts") P most_indices))
      (λ counts w. (refl, record { form = (w.0, refl); small = w.1; layout = λ some. is_layout-blocks counts }))

  lists-at : Holds (λ lists. (length lists ≡ P) × (length (concat lists) ≤ most_indices)) (lists_at at table P)
  lists-at = skip _ (required at table (codes "lists")) _ (index-lists-of at (codes "lists") P most_indices)

  lists-in : Holds IsGood (lists_in at table P name)
  lists-in =
      bind (IsWithin 0 most_size) IsGood (size_at at table P name most_size) _ (size-at most_size)
      (λ size w. bind (λ lists. (length lists ≡ P) × (length (concat lists) ≤ most_indices)) IsGood (lists_at at table P) (sound_map name size) lists-at
      (λ lists v. when IsGood (are_sound_lists size lists) (Ok (lists_map name size lists)) (BadMap name) (λ e. (refl, record { form = v.0; small = (w.1, v.1); layout = λ some. sound-layout size lists e }))))

  form-in : (k : MapKind) → Holds IsGood (form_in at table P name k)
  form-in kind.Uniform = uniform-in
  form-in kind.Blocks = blocks-in
  form-in kind.Cyclic = cyclic-in
  form-in kind.Lists = lists-in

pub map-in : (at : Place) (table : Members) (known : Known) → Holds (IsMapFor known) (map_in at table known)
map-in at table known =
    skip (IsMapFor known) (kind_at at table) _ (λ k. skip (IsMapFor known) (only_keys at (form.Map k) table) _ (λ only.
    bind (IsNewName known) (IsMapFor known) (new_name_at at table known) _ (new-name at table known) (λ name new.
    weaken (λ spec. (spec.name ≡ name) × IsGoodSpec known.ranks spec) (IsMapFor known) (form_in at table known.ranks name k)
    (λ spec g. record { name = subst (IsNewName known) (sym g.0) new; good = g.1 }) (form-in at table known.ranks name k))))
