-- The maps that are named are those of the job.
use Rattle.std.proofs.Common.{◌≡◌, ◌<◌, ℕ, List, [], ◌∷◌, ◌++◌, map, length, get_or, refl, ap, sym, ◌∙◌, inl, inr, arith, append-nil, append_assoc}
use Rattle.std.specs.List.{All}
use Rattle.std.proofs.lemmas.Bool.{cases_lt}
use Rattle.std.proofs.lemmas.List.{length-map, get_or-map, get_or_past}
use Rattle.std.proofs.lemmas.List.Elements.{All-nil, All-cons}
use Rattle.model_defs.specs.declared.job.Job.{Job}
use Rattle.model_defs.specs.declared.job.MapSpec.{MapSpec}
use Rattle.model_defs.specs.Maps.{layout_of, size_of}
use Rattle.model_defs.specs.Maps.{no_map as no_spec}
use Rattle.model_defs.specs.Makers.{Maker}
use Rattle.job_text.specs.declared.known.KnownMap.{KnownMap}
use Rattle.job_text.specs.Known.{Known, no_names, no_map, layout_by, layout_at, with_spec, with_maker}
use Rattle.job_validity.proofs.MapFacts.{IsGoodSpec, IsMapFor}
use Rattle.job_validity.proofs.Seen.{IsMapped}
use Rattle.job_validity.proofs.Traces.{all_next, AreFor}
use Rattle.job_validity.proofs.Reading.{after_maps}

-- what is named by the table of a map over P ranks
abbrev pub known_map : ℕ → MapSpec → KnownMap
known_map P spec = record { name = spec.name; layout = layout_by P spec }

maps-named : (specs : List MapSpec) (known : Known) → (all_next with_spec known specs).maps ≡ known.maps ++ map (known_map known.ranks) specs
maps-named [] known = sym (append-nil known.maps)
maps-named (s ∷ ss) known = maps-named ss (with_spec known s) ∙ append_assoc known.maps (known_map known.ranks s ∷ []) (map (known_map known.ranks) ss)

ranks-stay : (specs : List MapSpec) (known : Known) → (all_next with_spec known specs).ranks ≡ known.ranks
ranks-stay [] known = refl
ranks-stay (s ∷ ss) known = ranks-stay ss (with_spec known s)

values-stay : (specs : List MapSpec) (known : Known) → (all_next with_spec known specs).values ≡ known.values
values-stay [] known = refl
values-stay (s ∷ ss) known = values-stay ss (with_spec known s)

pub good-specs : (specs : List MapSpec) (known : Known) → AreFor with_spec IsMapFor known specs → All (IsGoodSpec known.ranks) specs
good-specs [] known h = All-nil (IsGoodSpec known.ranks)
good-specs (s ∷ ss) known h = All-cons (IsGoodSpec known.ranks) s ss (h.0.good) (good-specs ss (with_spec known s) h.1)

module _ (job : Job) where
  -- after the tables of the maps
  pub maps-are : (after_maps job).maps ≡ map (known_map job.ranks) job.maps
  maps-are = maps-named job.maps (no_names job.ranks)

  pub no-values : (after_maps job).values ≡ []
  no-values = values-stay job.maps (no_names job.ranks)

  count : length (after_maps job).maps ≡ length job.maps
  count = ap length maps-are ∙ length-map job.maps (known_map job.ranks)

  layouts : (m : ℕ) → m < length (after_maps job).maps → layout_at (after_maps job) m ≡ layout_of job m
  layouts m l =
      ap (λ ms. (get_or ms m no_map).layout) maps-are
      ∙ ap (λ k. k.layout) (get_or-map (known_map job.ranks) job.maps m no_spec no_map (let e = count in omega arith))

  sizes : (m : ℕ) → (layout_at (after_maps job) m).size ≡ size_of job m
  sizes m = elim (cases_lt m (length (after_maps job).maps)) [
    | inl within ↦ ap (λ k. k.size) (layouts m within)
    | inr past ↦
        ap (λ k. k.layout.size) (get_or_past (after_maps job).maps m no_map past)
        ∙ sym (ap (λ s. s.size) (get_or_past job.maps m no_spec (let e = count in omega arith)))
  ]

  pub mapped-first : IsMapped job (after_maps job)
  mapped-first = record { count = count; ranks = ranks-stay job.maps (no_names job.ranks); layouts = layouts; sizes = sizes }

  -- a value more names no map
  pub mapped-next : (known : Known) (maker : Maker) → IsMapped job known → IsMapped job (with_maker known maker)
  mapped-next known maker h = record { count = h.count; ranks = h.ranks; layouts = h.layouts; sizes = h.sizes }

  pub mapped-after : {A : Type 0} (wrap : A → Maker) (xs : List A) (known : Known) → IsMapped job known → IsMapped job (all_next (λ k x. with_maker k (wrap x)) known xs)
  mapped-after wrap [] known h = h
  mapped-after wrap (x ∷ xs) known h = mapped-after wrap xs (with_maker known (wrap x)) (mapped-next known (wrap x) h)

  -- what holds of each by the maps alone, as that vectors and parts have few cells
  module _ {A : Type 0} (wrap : A → Maker) (For : Known → A → Type 0) (P : A → Type 0) (each : (known : Known) (x : A) → IsMapped job known → For known x → P x) where
    pub all-mapped : (xs : List A) (known : Known) → IsMapped job known → AreFor (λ k x. with_maker k (wrap x)) For known xs → All P xs
    all-mapped [] known mapped h = All-nil P
    all-mapped (x ∷ xs) known mapped h =
        All-cons P x xs (each known x mapped h.0) (all-mapped xs (with_maker known (wrap x)) (mapped-next known (wrap x) mapped) h.1)
