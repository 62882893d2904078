-- The words of the job text: kinds, statements and modes.
use Rattle.std.specs.Prelude.{Bool, true, false, Option, Some, None, codes, bytes_eq, if◌then◌else◌}
use Rattle.combine_modes.specs.declared.mode.Mode.{Mode}
use Rattle.combine_modes.specs.declared.mode.Mode.TheVariants as mode
use Rattle.job_text.specs.declared.words.MapKind.{MapKind}
use Rattle.job_text.specs.declared.words.MapKind.TheVariants as kind
use Rattle.job_text.specs.declared.words.Op.{Op}
use Rattle.job_text.specs.declared.words.Op.TheVariants as op
use Rattle.job_text.specs.Names.{Text}

-- the kind of a map of this name
abbrev pub kind_named : Text → Option MapKind
kind_named word =
    if bytes_eq word (codes "uniform") then Some kind.Uniform
    else (if bytes_eq word (codes "blocks") then Some kind.Blocks
    else (if bytes_eq word (codes "cyclic") then Some kind.Cyclic
    else (if bytes_eq word (codes "lists") then Some kind.Lists else None)))

-- statements that move, copy or combine cells
abbrev pub transfer_named : Text → Option Op
transfer_named word =
    if bytes_eq word (codes "move") then Some op.Move
    else (if bytes_eq word (codes "import") then Some op.Import
    else (if bytes_eq word (codes "export") then Some op.Export
    else (if bytes_eq word (codes "spread") then Some op.Spread else None)))

-- statements that make a value of others cell by cell, or print one
abbrev pub cellwise_named : Text → Option Op
cellwise_named word =
    if bytes_eq word (codes "update") then Some op.Update
    else (if bytes_eq word (codes "scale") then Some op.Scale
    else (if bytes_eq word (codes "add") then Some op.Add
    else (if bytes_eq word (codes "print") then Some op.Print else None)))

-- statements that work with a matrix
abbrev pub matrix_step_named : Text → Option Op
matrix_step_named word =
    if bytes_eq word (codes "apply") then Some op.Apply
    else (if bytes_eq word (codes "transpose") then Some op.Transpose
    else (if bytes_eq word (codes "multiply") then Some op.Multiply
    else (if bytes_eq word (codes "assemble") then Some op.Assemble else None)))

-- the first of two, where it is there
abbrev pub or_else : {A : Type 0} → Option A → Option A → Option A
or_else (Some x) other = Some x
or_else None other = other

-- what a statement of this name does
abbrev pub op_named : Text → Option Op
op_named word = or_else (transfer_named word) (or_else (cellwise_named word) (matrix_step_named word))

-- the combine mode of this name
abbrev pub mode_named : Text → Option Mode
mode_named word =
    if bytes_eq word (codes "insert") then Some mode.Insert
    else (if bytes_eq word (codes "replace") then Some mode.Replace
    else (if bytes_eq word (codes "add") then Some mode.Add
    else (if bytes_eq word (codes "absmax") then Some mode.AbsMax
    else (if bytes_eq word (codes "zero") then Some mode.Zero else None))))

-- whether a matrix of this kind is split
abbrev pub split_named : Text → Option Bool
split_named word =
    if bytes_eq word (codes "assembled") then Some false
    else (if bytes_eq word (codes "split") then Some true else None)
