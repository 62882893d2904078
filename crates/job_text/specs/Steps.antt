-- The tables of `do`: the keys of each statement in their order, then what its operands must be.
use Rattle.std.specs.Prelude.{◌+◌, ◌∷◌, ◌++◌, ℕ, ℤ, pos, Bool, true, false, List, [], Option, Some, None, Ok, Err, codes}
use Rattle.toml.specs.Data.{Data, Items, no_items, item, Members}
use Rattle.combine_modes.specs.declared.mode.Mode.TheVariants as mode
use Rattle.model_defs.specs.declared.job.Step.{Step}
use Rattle.model_defs.specs.declared.job.Step.TheVariants as step
use Rattle.job_text.specs.declared.place.Place.{Place}
use Rattle.job_text.specs.declared.place.Place.TheVariants as place
use Rattle.job_text.specs.declared.words.Op.{Op}
use Rattle.job_text.specs.declared.words.Op.TheVariants as op
use Rattle.job_text.specs.declared.words.Form.TheVariants as form
use Rattle.job_text.specs.Outcomes.{Outcome, ◌>>=◌, or_fault}
use Rattle.job_text.specs.Words.{op_named}
use Rattle.job_text.specs.Keys.{wrong_kind, required, text_of, only_keys, new_name_at, map_at, value_at, value_or_none, mode_at, mode_or, integer_at, integer_or, flag_or}
use Rattle.job_text.specs.Known.{Known, with_step, Read, read}
use Rattle.job_text.specs.Tables.{table_of}
use Rattle.job_text.specs.Statements.{can_move, can_import, can_export, can_spread, can_update, can_apply, can_transpose, can_multiply, can_add, can_assemble, can_print}

-- what the statement does decides its form
abbrev pub op_of : Place → Data → Outcome Op
op_of at d = text_of at (codes "op") d >>= λ word. or_fault (wrong_kind at (codes "op")) (op_named word)

abbrev pub op_at : Place → Members → Outcome Op
op_at at table = required at table (codes "op") >>= op_of at

-- Statement k.
module _ (k : ℕ) (table : Members) (known : Known) where
  abbrev pub here : Place
  here = place.Do k

  abbrev pub move_in : Outcome Step
  move_in = do
    name ← new_name_at here table known
    source ← value_at here table (codes "from") known
    m ← map_at here table (codes "map") known
    fits ← can_move known k source m
    Ok (step.Move name source m)

  abbrev pub import_in : Outcome Step
  import_in = do
    name ← new_name_at here table known
    source ← value_at here table (codes "from") known
    onto ← value_at here table (codes "onto") known
    mode ← mode_at here table (codes "mode")
    fits ← can_import known k source onto
    Ok (step.Import name source onto mode)

  abbrev pub export_in : Outcome Step
  export_in = do
    name ← new_name_at here table known
    source ← value_at here table (codes "from") known
    onto ← value_at here table (codes "onto") known
    mode ← mode_at here table (codes "mode")
    fits ← can_export known k source onto
    Ok (step.Export name source onto mode)

  abbrev pub spread_in : Outcome Step
  spread_in = do
    name ← new_name_at here table known
    source ← value_at here table (codes "from") known
    m ← map_at here table (codes "map") known
    fits ← can_spread known k source m
    Ok (step.Spread name source m)

  abbrev pub update_in : Outcome Step
  update_in = do
    name ← new_name_at here table known
    x ← value_at here table (codes "x") known
    y ← value_at here table (codes "y") known
    alpha ← integer_or here table (codes "alpha") (pos 1)
    beta ← integer_or here table (codes "beta") (pos 1)
    fits ← can_update known k x y
    Ok (step.Update name x y alpha beta)

  abbrev pub scale_in : Outcome Step
  scale_in = do
    name ← new_name_at here table known
    value ← value_at here table (codes "value") known
    alpha ← integer_at here table (codes "alpha")
    Ok (step.Scale name value alpha)

  abbrev pub apply_in : Outcome Step
  apply_in = do
    name ← new_name_at here table known
    a ← value_at here table (codes "matrix") known
    x ← value_at here table (codes "x") known
    y ← value_or_none here table (codes "y") known
    alpha ← integer_or here table (codes "alpha") (pos 1)
    beta ← integer_or here table (codes "beta") (pos 0)
    transposed ← flag_or here table (codes "transposed") false
    fits ← can_apply known k a x y transposed
    Ok (step.Apply name a x y alpha beta transposed)

  abbrev pub transpose_in : Outcome Step
  transpose_in = do
    name ← new_name_at here table known
    a ← value_at here table (codes "matrix") known
    fits ← can_transpose known k a
    Ok (step.Transpose name a)

  abbrev pub multiply_in : Outcome Step
  multiply_in = do
    name ← new_name_at here table known
    a ← value_at here table (codes "a") known
    b ← value_at here table (codes "b") known
    fits ← can_multiply known k a b
    Ok (step.Multiply name a b)

  abbrev pub add_in : Outcome Step
  add_in = do
    name ← new_name_at here table known
    a ← value_at here table (codes "a") known
    b ← value_at here table (codes "b") known
    alpha ← integer_or here table (codes "alpha") (pos 1)
    beta ← integer_or here table (codes "beta") (pos 1)
    fits ← can_add known k a b
    Ok (step.Add name a b alpha beta)

  abbrev pub assemble_in : Outcome Step
  assemble_in = do
    name ← new_name_at here table known
    source ← value_at here table (codes "from") known
    onto ← value_or_none here table (codes "onto") known
    mode ← mode_or here table (codes "mode") mode.Add
    fits ← can_assemble known k source onto
    Ok (step.Assemble name source onto mode)

  abbrev pub print_in : Outcome Step
  print_in = do
    value ← value_at here table (codes "value") known
    fits ← can_print known k value
    Ok (step.Print value)

  abbrev pub step_of : Op → Outcome Step
  step_of op.Move = move_in
  step_of op.Import = import_in
  step_of op.Export = export_in
  step_of op.Spread = spread_in
  step_of op.Update = update_in
  step_of op.Scale = scale_in
  step_of op.Apply = apply_in
  step_of op.Transpose = transpose_in
  step_of op.Multiply = multiply_in
  step_of op.Add = add_in
  step_of op.Assemble = assemble_in
  step_of op.Print = print_in

  abbrev pub step_by : Op → Outcome Step
  step_by o = only_keys here (form.Do o) table >>= λ only. step_of o

  abbrev pub step_in : Outcome Step
  step_in = op_at here table >>= step_by

-- the statements of the tables from number k on, after those that were read
abbrev pub steps_after : Read Step → ℕ → Items → Outcome (Read Step)
steps_after so_far k no_items = Ok so_far
steps_after so_far k (item d ds) = do
  table ← table_of (codes "do") d
  step ← step_in k table so_far.known
  steps_after (read (with_step so_far.known step) (so_far.done ++ step ∷ [])) (k + 1) ds
