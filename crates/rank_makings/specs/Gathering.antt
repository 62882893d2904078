-- What the statements say that make a matrix of rows of others.
use Rattle.std.specs.Prelude.{◌≡◌, ℕ, Bool, true, false}
use Rattle.model_defs.specs.declared.job.Job.{Job}
use Rattle.model_defs.specs.declared.job.Step.TheVariants as step
use Rattle.model_defs.specs.Makers.{Maker, Made}
use Rattle.value_phases.specs.ValueKinds.{IsGathered, IsProduct, IsSum}
use Rattle.rank_makings.specs.declared.gathering.Assembly.{Assembly}
use Rattle.rank_makings.specs.declared.gathering.Factors.{Factors}
use Rattle.rank_makings.specs.declared.gathering.Summands.{Summands}

-- which statement makes a value
abbrev pub is_transpose : Maker → Bool
is_transpose (Made (step.Transpose name a)) = true
is_transpose _ = false

abbrev pub is_product : Maker → Bool
is_product (Made (step.Multiply name a b)) = true
is_product _ = false

abbrev pub is_sum : Maker → Bool
is_sum (Made (step.Add name a b alpha beta)) = true
is_sum _ = false

-- These are the operands of a product,
pub record AreFactors {job : Job} {k : ℕ} (is : IsProduct job k) (o : Factors) : Type 0 where
  pub a : o.a ≡ is.a
  pub b : o.b ≡ is.b

-- of a sum,
pub record AreSummands {job : Job} {k : ℕ} (is : IsSum job k) (o : Summands) : Type 0 where
  pub a : o.a ≡ is.a
  pub b : o.b ≡ is.b
  pub alpha : o.alpha ≡ is.alpha
  pub beta : o.beta ≡ is.beta

-- and of a matrix that is assembled of a split one.
pub record AreAssembled {job : Job} {k : ℕ} (is : IsGathered job k) (o : Assembly) : Type 0 where
  pub source : o.source ≡ is.source
  pub base : o.base ≡ is.base
  pub mode : o.mode ≡ is.mode
