-- Once all letters came, a cell of some value is over exactly where one of some rank's piece is.
use Rattle.std.proofs.Common.{◌≡◌, ℕ, zero, suc, ◌+◌, ◌<◌, ◌≤◌, inl, inr, Bool, true, false, cond, ◌||◌, ltb, List, Option, None, Some, refl, sym, ap, ◌∙◌, subst, arith}
use Rattle.std.specs.Prelude.{is_some}
use Rattle.std.specs.List.{list_any}
use Rattle.std.proofs.lemmas.Bool.{cases_lt, ltb-true, or_left, or_right}
use Rattle.scalar_laws.specs.Semiring.{Semiring}
use Rattle.scalar_laws.specs.Conversions.{Conversions}
use Rattle.tables.specs.Indices.{count_from}
use Rattle.tables.proofs.Places.{list_any-cells_of}
use Rattle.mm_text.specs.Reading.{File}
use Rattle.outside.specs.declared.name.Name.{Name}
use Rattle.outside.specs.MailRoom.{names_of}
use Rattle.peers.specs.Protocols.{Letter, stands_in}
use Rattle.model_defs.specs.declared.job.Job.{Job}
use Rattle.model_defs.specs.declared.shape.Shape.{Shape}
use Rattle.model_defs.specs.declared.shape.Sort.{Sort}
use Rattle.model_defs.specs.declared.shape.Sort.TheVariants.{Vector, Parts, Matrix, Split}
use Rattle.model_defs.specs.Fitting.{IsFitting}
use Rattle.model_defs.specs.Laws.{IsFormed, has_cells}
use Rattle.model_defs.specs.Letters.{letter_names}
use Rattle.model_defs.specs.Machine.{gathered_value, piece}
use Rattle.model_defs.specs.Makers.{value_count}
use Rattle.model_defs.specs.Maps.{has_index, is_mapped, size_of}
use Rattle.model_defs.specs.Pieces.{Value, has_row}
use Rattle.model_defs.specs.Plans.{width_of}
use Rattle.model_defs.specs.Shapes.{is_by_rank, is_dense, shape}
use Rattle.model_defs.specs.Sheets.{is_any_over, is_value_over, part_count}
use Rattle.model_defs.specs.ShowText.{any_over}
use Rattle.model_defs.specs.Valid.{IsValid}
use Rattle.model_defs.proofs.Bounds.{maps-are-layouts}
use Rattle.model_defs.proofs.Filters.{both}
use Rattle.model_defs.proofs.Mapped.{mapped-below}
use Rattle.model_defs.proofs.Rows.{list-mapped}
use Rattle.rank_values.specs.Vectors.{is_over_there}
use Rattle.rank_sim.proofs.GivenValues.{formed-is, owned-is, owning-rank, piece-beyond, piece-is}

any-from : (f : ℕ → Bool) (n k i : ℕ) → n ≤ i → i < n + k → f i ≡ true → list_any f (count_from n k) ≡ true
any-from f n zero i l m e = absurd (omega arith)
any-from f n (suc k) i l m e = elim (cases_lt n i) [
  | inl after ↦ or_right (f n) _ (any-from f (n + 1) k i (omega arith) (omega arith) e)
  | inr here ↦ let same : n ≡ i = omega arith in or_left (f n) _ (ap f same ∙ e)
]

any-to : (f : ℕ → Bool) (n k : ℕ) → list_any f (count_from n k) ≡ true → (i : ℕ) × (i < n + k) × (f i ≡ true)
any-to f n zero e = absurd (cc)
any-to f n (suc k) e = go (f n) refl e (any-to f (n + 1) k)
  where
    go : (b : Bool) → f n ≡ b → b || list_any f (count_from (n + 1) k) ≡ true → (list_any f (count_from (n + 1) k) ≡ true → (i : ℕ) × (i < n + 1 + k) × (f i ≡ true)) → (i : ℕ) × (i < n + suc k) × (f i ≡ true)
    go true is e rest = (n, omega arith, is)
    go false is e rest = let r = rest e in (r.0, omega (arith, r.1), r.2)

module _ {S : Type 0} (F : Conversions S) where
  -- the number that is over
  there-over : (o : Option S) → is_over_there F o ≡ true → (x : S) × (o ≡ Some x) × (F.is_over x ≡ true)
  there-over None e = absurd (cc)
  there-over (Some x) e = (x, refl, e)

  kept-over : (b : Bool) (o : Option S) → is_over_there F (cond b o None) ≡ true → (b ≡ true) × (is_over_there F o ≡ true)
  kept-over true o e = (refl, e)
  kept-over false o e = absurd (cc)

  -- where a value has a place, it is within the sizes of the value
  pub within-formed : (job : Job) (valid : IsValid job) (s : Shape) (v : Value S) → IsFormed job s v → (p i j : ℕ) → is_some (v p i j) ≡ true → (i < size_of job s.rows) × (j < width_of job s)
  within-formed job valid s v formed p i j e = by (is_dense s.sort) refl
    where
      mapped : (sort : Sort) → has_cells job s sort p i ≡ true → is_mapped job s.rows i ≡ true
      mapped Vector h = h
      mapped Parts h = list-mapped job s.rows p i h
      mapped Matrix h = list-mapped job s.rows p i h
      mapped Split h = list-mapped job s.rows p i h

      by : (b : Bool) → is_dense s.sort ≡ b → (i < size_of job s.rows) × (j < width_of job s)
      by true d =
          let cell = both (has_cells job s s.sort p i) (ltb j s.columns) (sym (formed.dense d p i j) ∙ e) in
          (mapped-below job s.rows i (maps-are-layouts job s.rows valid).0 (mapped s.sort cell.0), subst (λ b. j < cond b s.columns (size_of job s.domain)) (sym d) (ltb-true j s.columns cell.1))
      by false d =
          let in_sizes = formed.within d p i j e in
          (in_sizes.0, subst (λ b. j < cond b s.columns (size_of job s.domain)) (sym d) in_sizes.1)

module _ {S : Type 0} (R : Semiring S) (F : Conversions S) (job : Job) (files : List File) (valid : IsValid job) (fit : IsFitting job files) (g : List Letter)
    (came : (y : Name) → stands_in (letter_names job files) y ≡ true → stands_in (names_of g) y ≡ true) where
  abbrev e : ℕ → Value S
  e v = gathered_value R F job files v g

  formed : (v : ℕ) → v < value_count job → IsFormed job (shape job v) (e v)
  formed v l = formed-is R F job files valid fit g came v l

  value-over : (v p i j : ℕ) → v < value_count job → p < part_count F job (shape job v).sort → is_over_there F (e v p i j) ≡ true → is_any_over F job e ≡ true
  value-over v p i j l m over =
      let x = there-over F (e v p i j) over in
      let low = within-formed F job valid (shape job v) (e v) (formed v l) p i j (ap is_some x.1) in
      any-from (λ k. is_value_over F job (shape job k) (e k)) 0 (value_count job) v (omega arith) (omega arith)
      (any-from (λ q. any_over F (size_of job (shape job v).rows) (width_of job (shape job v)) (e v q)) 0 (part_count F job (shape job v).sort) p (omega arith) (omega arith)
      ((list_any-cells_of F.is_over (size_of job (shape job v).rows) (width_of job (shape job v)) (e v p)).1 (i, j, x.0, low.0, low.1, x.1, x.2)))

  -- a cell of a rank's piece is one of its value
  pub piece-over : (p v i j : ℕ) → p < job.ranks → is_over_there F (piece R F job files p v g i j) ≡ true → is_any_over F job e ≡ true
  piece-over p v i j m over = elim (cases_lt v (value_count job)) [
    | inl low ↦ of_value low
    | inr high ↦
        let gone : piece R F job files p v g i j ≡ None = (λ t. piece-beyond R F job files p v g high t i j) in
        let bad : false ≡ true = sym (ap (is_over_there F) gone) ∙ over in
        absurd (cc)
  ]
    where
      of_value : v < value_count job → is_any_over F job e ≡ true
      of_value low =
          let kept = kept-over F (has_row job (shape job v) p i) (e v p i j) (sym (ap (is_over_there F) (λ t. piece-is R F job files valid fit g came v p low m t i j)) ∙ over) in
          by (is_by_rank (shape job v).sort) refl kept.1
        where
          by : (b : Bool) → is_by_rank (shape job v).sort ≡ b → is_over_there F (e v p i j) ≡ true → is_any_over F job e ≡ true
          by true r o = value-over v p i j low (subst (λ b. p < cond b job.ranks 1) (sym r) m) o
          by false r o =
              value-over v 0 i j low (subst (λ b. 0 < cond b job.ranks 1) (sym r) (omega arith)) (ap (is_over_there F) (λ t. sym ((formed v low).whole r p) t i j) ∙ o)

  -- a cell of a value is one of a rank's piece
  pub over-piece : is_any_over F job e ≡ true → (p : ℕ) × (v : ℕ) × (i : ℕ) × (j : ℕ) × (p < job.ranks) × (is_over_there F (piece R F job files p v g i j) ≡ true)
  over-piece over =
      let value = any-to (λ k. is_value_over F job (shape job k) (e k)) 0 (value_count job) over in
      let part = any-to (λ q. any_over F (size_of job (shape job value.0).rows) (width_of job (shape job value.0)) (e value.0 q)) 0 (part_count F job (shape job value.0).sort) value.2 in
      let place = (list_any-cells_of F.is_over (size_of job (shape job value.0).rows) (width_of job (shape job value.0)) (e value.0 part.0)).0 part.2 in
      at value.0 part.0 place.0 place.1 place.2 (omega (arith, value.1)) (omega (arith, part.1)) place.5 place.6
    where
      at : (v p i j : ℕ) (x : S) → v < value_count job → p < part_count F job (shape job v).sort → e v p i j ≡ Some x → F.is_over x ≡ true
          → (p : ℕ) × (v : ℕ) × (i : ℕ) × (j : ℕ) × (p < job.ranks) × (is_over_there F (piece R F job files p v g i j) ≡ true)
      at v p i j x l m is over = by (is_by_rank (shape job v).sort) refl m
        where
          piece-at : (q : ℕ) → q < job.ranks → has_row job (shape job v) q i ≡ true → e v q i j ≡ Some x → is_over_there F (piece R F job files q v g i j) ≡ true
          piece-at q n row same =
              ap (is_over_there F) ((λ t. piece-is R F job files valid fit g came v q l n t i j) ∙ (λ t. cond (row t) (same t) None)) ∙ over

          by : (b : Bool) → is_by_rank (shape job v).sort ≡ b → p < cond b job.ranks 1
              → (p : ℕ) × (v : ℕ) × (i : ℕ) × (j : ℕ) × (p < job.ranks) × (is_over_there F (piece R F job files p v g i j) ≡ true)
          by true r n = (p, v, i, j, n, piece-at p n (ap (λ b. b || has_index job (shape job v).rows p i) r) is)
          by false r n =
              let q = owning-rank job (shape job v) (e v) (formed v l) (owned-is R F job files valid fit g came v l r) r p i j (ap is_some is) in
              (q.0, v, i, j, q.1, piece-at q.0 q.1 (ap (λ b. b || has_index job (shape job v).rows q.0 i) r ∙ q.2) ((λ t. ((formed v l).whole r q.0 ∙ sym ((formed v l).whole r p)) t i j) ∙ is))
