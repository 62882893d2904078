-- What holds of a statement that is read.
use Rattle.std.proofs.Common.{◌≡◌, ◌≢◌, ◌<◌, ℕ, pos, Bool, true, false, Option, Ok, length, subst}
use Rattle.std.specs.Prelude.{codes}
use Rattle.std.proofs.lemmas.Bool.{and_parts}
use Rattle.std.proofs.lemmas.List.Elements.{All-nil}
use Rattle.toml.specs.Data.{Members}
use Rattle.combine_modes.specs.declared.mode.Mode.TheVariants as mode
use Rattle.model_defs.specs.declared.job.Job.{Job}
use Rattle.model_defs.specs.declared.job.Step.{Step}
use Rattle.model_defs.specs.declared.job.Step.TheVariants as step
use Rattle.model_defs.specs.declared.shape.Sort.TheVariants.{Split}
use Rattle.model_defs.specs.Makers.{Made, step_name}
use Rattle.model_defs.specs.Shapes.{shape, shape_by}
use Rattle.model_defs.specs.Valid.{IsValidStep, IsPrintable}
use Rattle.job_text.specs.declared.words.Op.{Op}
use Rattle.job_text.specs.declared.words.Op.TheVariants as op
use Rattle.job_text.specs.Outcomes.{Outcome, ◌>>=◌}
use Rattle.job_text.specs.Names.{Text}
use Rattle.job_text.specs.Known.{Known, shape_at}
use Rattle.job_text.specs.Keys.{new_name_at, map_at, value_at, value_or_none, mode_at, mode_or, integer_at, integer_or, flag_or}
use Rattle.job_text.specs.Statements.{passes, sort_at, can_move}
use Rattle.job_text.specs.Steps.{here, move_in, import_in, export_in, spread_in, update_in, scale_in, apply_in, transpose_in, multiply_in, add_in, assemble_in, print_in, step_of}
use Rattle.job_validity.proofs.Outcomes.{Holds, bind, skip}
use Rattle.job_validity.proofs.KeyFacts.{IsNewName, IsFilled, IsBelowOrNone, new-name, map-at, value-at, value-or-none}
use Rattle.job_validity.proofs.Seen.{IsSeen, IsMakerFor, below-maps}
use Rattle.job_validity.proofs.StatementFacts.{CanMove, both-pass, move-passes, not-split-sort, alike-seen, matrix-or-split-seen, vector-seen, parts-seen, matrix-seen, split-seen, rows-seen, columns-seen, domain-rows-seen, row-sizes, domain-sizes, size-with, moved-seen, owner-seen, covered-seen, operand-seen, addend-seen, base-seen}

-- A statement may be made of what is named: it gives the next value, or prints one of those before.
abbrev pub IsStepFor : Known → Step → Type 0
IsStepFor known (step.Print value) = (job : Job) → IsSeen job known → IsPrintable job (length known.values) (step.Print value)
IsStepFor known s = IsMakerFor known (Made s)

-- ---- the steps of reading one

module _ (k : ℕ) (table : Members) (known : Known) where
  abbrev IsRead : Outcome Step → Type 0
  IsRead o = Holds (IsStepFor known) o

  named : (next : Text → Outcome Step) → ((name : Text) → IsNewName known name → IsRead (next name)) → IsRead (new_name_at (here k table known) table known >>= next)
  named next each = bind (IsNewName known) (IsStepFor known) (new_name_at (here k table known) table known) next (new-name (here k table known) table known) each

  value : (key : Text) (next : ℕ → Outcome Step) → ((v : ℕ) → v < length known.values → IsRead (next v)) → IsRead (value_at (here k table known) table key known >>= next)
  value key next each = bind (λ v. v < length known.values) (IsStepFor known) (value_at (here k table known) table key known) next (value-at (here k table known) table key known) each

  value-or : (key : Text) (next : Option ℕ → Outcome Step) → ((v : Option ℕ) → IsBelowOrNone (length known.values) v → IsRead (next v)) → IsRead (value_or_none (here k table known) table key known >>= next)
  value-or key next each = bind (IsBelowOrNone (length known.values)) (IsStepFor known) (value_or_none (here k table known) table key known) next (value-or-none (here k table known) table key known) each

  map : (key : Text) (next : ℕ → Outcome Step) → ((m : ℕ) → m < length known.maps → IsRead (next m)) → IsRead (map_at (here k table known) table key known >>= next)
  map key next each = bind (λ m. m < length known.maps) (IsStepFor known) (map_at (here k table known) table key known) next (map-at (here k table known) table key known) each

  any : {A : Type 0} (o : Outcome A) (next : A → Outcome Step) → ((x : A) → IsRead (next x)) → IsRead (o >>= next)
  any o next each = skip (IsStepFor known) o next each

  fits : (sorts maps : Bool) (s : Step) → (sorts ≡ true → maps ≡ true → IsStepFor known s) → IsRead (passes k sorts maps >>= λ t. Ok s)
  fits sorts maps s each = bind (λ t. (sorts ≡ true) × (maps ≡ true)) (IsStepFor known) (passes k sorts maps) (λ t. Ok s) (both-pass k sorts maps) (λ t h. each h.0 h.1)

  -- a statement of a new name gives a value
  made : (s : Step) → IsNewName known (step_name s) → ((job : Job) → IsSeen job known → shape job (length known.values) ≡ shape_by (length known.values) (shape_at known) (Made s) → IsValidStep job (length known.values) s) → IsMakerFor known (Made s)
  made s name valid = record { name = name; files = All-nil IsFilled; valid = valid }

  move-in : IsRead (move_in k table known)
  move-in = named _ (λ name new. value (codes "from") _ (λ source l. map (codes "map") _ (λ m lm.
      bind (λ t. CanMove known source m) (IsStepFor known) (can_move known k source m) _ (move-passes known k source m) (λ t c.
      made (step.Move name source m) new (λ job seen e. (
        l,
        moved-seen job known seen source m l lm c,
        size-with job known seen source m l c.size,
        owner-seen job known seen source m lm c,
        covered-seen job known seen source m l lm c,
      ))))))

  import-in : IsRead (import_in k table known)
  import-in = named _ (λ name new. value (codes "from") _ (λ source l. value (codes "onto") _ (λ onto lo. any (mode_at (here k table known) table (codes "mode")) _ (λ mode. fits _ _ _ (λ a b.
      made (step.Import name source onto mode) new (λ job seen e.
      let sorts = and_parts _ _ a in
      let maps = and_parts _ _ b in
      (vector-seen job known seen source l sorts.0, parts-seen job known seen onto lo sorts.1, row-sizes job known seen source onto l lo maps.0, columns-seen job known seen source onto l lo maps.1)))))))

  export-in : IsRead (export_in k table known)
  export-in = named _ (λ name new. value (codes "from") _ (λ source l. value (codes "onto") _ (λ onto lo. any (mode_at (here k table known) table (codes "mode")) _ (λ mode. fits _ _ _ (λ a b.
      made (step.Export name source onto mode) new (λ job seen e.
      let sorts = and_parts _ _ a in
      let maps = and_parts _ _ b in
      (parts-seen job known seen source l sorts.0, vector-seen job known seen onto lo sorts.1, row-sizes job known seen source onto l lo maps.0, columns-seen job known seen source onto l lo maps.1)))))))

  spread-in : IsRead (spread_in k table known)
  spread-in = named _ (λ name new. value (codes "from") _ (λ source l. map (codes "map") _ (λ m lm. fits _ _ _ (λ a b.
      made (step.Spread name source m) new (λ job seen e.
      (vector-seen job known seen source l a, below-maps job known seen.maps m lm, size-with job known seen source m l b))))))

  update-in : IsRead (update_in k table known)
  update-in = named _ (λ name new. value (codes "x") _ (λ x l. value (codes "y") _ (λ y m.
      any (integer_or (here k table known) table (codes "alpha") (pos 1)) _ (λ alpha. any (integer_or (here k table known) table (codes "beta") (pos 1)) _ (λ beta. fits _ _ _ (λ a b.
      made (step.Update name x y alpha beta) new (λ job seen e.
      let sorts = alike-seen job known seen x y l m a in
      let maps = and_parts _ _ b in
      (l, m, sorts.0, sorts.1, rows-seen job known seen x y l m maps.0, columns-seen job known seen x y l m maps.1))))))))

  scale-in : IsRead (scale_in k table known)
  scale-in = named _ (λ name new. value (codes "value") _ (λ v l. any (integer_at (here k table known) table (codes "alpha")) _ (λ alpha.
      made (step.Scale name v alpha) new (λ job seen e. l))))

  apply-in : IsRead (apply_in k table known)
  apply-in = named _ (λ name new. value (codes "matrix") _ (λ a l. value (codes "x") _ (λ x m. value-or (codes "y") _ (λ y ly.
      any (integer_or (here k table known) table (codes "alpha") (pos 1)) _ (λ alpha. any (integer_or (here k table known) table (codes "beta") (pos 0)) _ (λ beta.
      any (flag_or (here k table known) table (codes "transposed") false) _ (λ transposed. fits _ _ _ (λ s b.
      made (step.Apply name a x y alpha beta transposed) new (λ job seen e.
      let outer = and_parts _ _ s in
      let inner = and_parts _ _ outer.0 in
      let maps = and_parts _ _ b in (
        l,
        matrix-or-split-seen job known seen a l inner.0,
        vector-seen job known seen x m inner.1,
        operand-seen job known seen a x transposed l m maps.0,
        addend-seen job known seen a x transposed y ly outer.1 maps.1 e,
      ))))))))))

  transpose-in : IsRead (transpose_in k table known)
  transpose-in = named _ (λ name new. value (codes "matrix") _ (λ a l. fits _ true (step.Transpose name a) (λ s b. made (step.Transpose name a) new (λ job seen e. matrix-seen job known seen a l s))))

  multiply-in : IsRead (multiply_in k table known)
  multiply-in = named _ (λ name new. value (codes "a") _ (λ a l. value (codes "b") _ (λ b m. fits _ _ _ (λ s same.
      made (step.Multiply name a b) new (λ job seen e.
      let sorts = and_parts _ _ s in
      (matrix-seen job known seen a l sorts.0, matrix-seen job known seen b m sorts.1, domain-rows-seen job known seen a b l m same))))))

  add-in : IsRead (add_in k table known)
  add-in = named _ (λ name new. value (codes "a") _ (λ a l. value (codes "b") _ (λ b m.
      any (integer_or (here k table known) table (codes "alpha") (pos 1)) _ (λ alpha. any (integer_or (here k table known) table (codes "beta") (pos 1)) _ (λ beta. fits _ _ _ (λ s same.
      made (step.Add name a b alpha beta) new (λ job seen e.
      let sorts = and_parts _ _ s in
      let sizes = and_parts _ _ same in
      (matrix-seen job known seen a l sorts.0, matrix-seen job known seen b m sorts.1, row-sizes job known seen a b l m sizes.0, domain-sizes job known seen a b l m sizes.1))))))))

  assemble-in : IsRead (assemble_in k table known)
  assemble-in = named _ (λ name new. value (codes "from") _ (λ source l. value-or (codes "onto") _ (λ onto lo. any (mode_or (here k table known) table (codes "mode") mode.Add) _ (λ mode. fits _ _ _ (λ s b.
      made (step.Assemble name source onto mode) new (λ job seen e.
      let sorts = and_parts _ _ s in
      (split-seen job known seen source l sorts.0, base-seen job known seen source onto l lo sorts.1 b)))))))

  print-in : IsRead (print_in k table known)
  print-in = value (codes "value") _ (λ v l. fits _ true (step.Print v) (λ s b job seen.
      (l, subst (λ t. t.sort ≢ Split) (seen.shapes v l) (not-split-sort (sort_at known v) s))))

  pub step-of : (o : Op) → IsRead (step_of k table known o)
  step-of op.Move = move-in
  step-of op.Import = import-in
  step-of op.Export = export-in
  step-of op.Spread = spread-in
  step-of op.Update = update-in
  step-of op.Scale = scale-in
  step-of op.Apply = apply-in
  step-of op.Transpose = transpose-in
  step-of op.Multiply = multiply-in
  step-of op.Add = add-in
  step-of op.Assemble = assemble-in
  step-of op.Print = print-in
