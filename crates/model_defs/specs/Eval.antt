-- The values of a job on the global data: the given ones, then the statements one after the other. No phase, plan or
-- letter stands here.
use Rattle.std.specs.Prelude.{ℕ, Bool, true, false, List, Option, None, Some}
use Rattle.scalar_laws.specs.Semiring.{Semiring}
use Rattle.scalar_laws.specs.Conversions.{Conversions}
use Rattle.tables.specs.Tables.{Table, nowhere, only_rows, sum_of}
use Rattle.tables.specs.Indices.{each_rank}
use Rattle.mm_text.specs.Reading.{File}
use Rattle.combine_modes.specs.Modes.{after_one, combined}
use Rattle.model_defs.specs.declared.job.Job.{Job}
use Rattle.model_defs.specs.declared.job.Step.{Step}
use Rattle.model_defs.specs.declared.job.Step.TheVariants as step
use Rattle.model_defs.specs.Maps.{has_index, is_mapped, size_of}
use Rattle.model_defs.specs.Makers.{Maker, Made, maker_of, value_count}
use Rattle.model_defs.specs.Turns.{Each, in_turn}
use Rattle.model_defs.specs.Shapes.{Shape, shape, is_split_sort}
use Rattle.model_defs.specs.Operations.{product, transpose, turned, scaled, combination, grown, filled, completed}
use Rattle.model_defs.specs.Pieces.{Value}
use Rattle.model_defs.specs.FileMatrix.{number_of}
use Rattle.model_defs.specs.Given.{given}

-- For a value, a row and a column the number of the part whose number is picked among those that meet there.
abbrev pub Pick : Type 0
Pick = ℕ → ℕ → ℕ → ℕ

module _ {S : Type 0} (R : Semiring S) (F : Conversions S) (job : Job) (files : List File) where
  -- a split matrix stands for the sum of its parts
  abbrev pub assembled : Bool → Value S → Table S
  assembled true a = sum_of R (each_rank job.ranks a)
  assembled false a = a 0

  abbrev pub onto_or_nowhere : Each (Value S) → Option ℕ → Value S
  onto_or_nowhere before None = λ p. nowhere
  onto_or_nowhere before (Some onto) = before onto

  -- what is added in an apply: y, or noughts where it is not given
  abbrev pub addend : Shape → Each (Value S) → Option ℕ → Value S
  addend s before None = λ p. filled (is_mapped job s.rows) s.columns R.nought
  addend s before (Some y) = before y

  abbrev pub value_by : Pick → ℕ → Each (Value S) → Step → Value S
  value_by pick k before (step.Move name source m) = λ p. only_rows (is_mapped job m) (before source p)
  value_by pick k before (step.Import name source onto mode) = λ p i j. after_one R mode true (before onto p i j) (before source p i j)
  value_by pick k before (step.Export name source onto mode) = λ p. combined R mode true job.ranks (before onto p) (before source) (pick k)
  value_by pick k before (step.Spread name source m) = λ p. completed R (has_index job m p) (shape job k).columns (before source p)
  value_by pick k before (step.Update name x y alpha beta) = λ p. combination R (number_of R F alpha) (before x p) (number_of R F beta) (before y p)
  value_by pick k before (step.Scale name value alpha) = λ p. scaled R (number_of R F alpha) (before value p)
  value_by pick k before (step.Apply name a x y alpha beta transposed) = λ p.
      grown R (number_of R F alpha)
      (product R (size_of job (shape job x).rows) (turned transposed (assembled (is_split_sort (shape job a).sort) (before a))) (before x p))
      (number_of R F beta) (addend (shape job k) before y p)
  value_by pick k before (step.Transpose name a) = λ p. transpose (before a p)
  value_by pick k before (step.Multiply name a b) = λ p. product R (size_of job (shape job a).domain) (before a p) (before b p)
  value_by pick k before (step.Add name a b alpha beta) = λ p. combination R (number_of R F alpha) (before a p) (number_of R F beta) (before b p)
  value_by pick k before (step.Assemble name source onto mode) = λ p. combined R mode false job.ranks (onto_or_nowhere before onto p) (before source) (pick k)
  value_by pick k before (step.Print value) = λ p. nowhere

  abbrev pub make_value : Pick → ℕ → Each (Value S) → Maker → Value S
  make_value pick k before (Made step) = value_by pick k before step
  make_value pick k before m = given R F job files k m

  -- the first n values, each made from those before it
  abbrev pub first_values : Pick → ℕ → Each (Value S)
  first_values pick n = in_turn (λ p. nowhere) (λ k before. make_value pick k before (maker_of job k)) n

  abbrev pub eval : Pick → Each (Value S)
  eval pick = first_values pick (value_count job)
