-- The value of the ranks' tables, as the machine of the ranks has it.
use Rattle.std.proofs.Common.{◌≡◌, ℕ, zero, suc, ◌+◌, ◌<◌, Bool, true, false, List, [], ◌∷◌, None, Some, map, cond, refl, ap, arith}
use Rattle.scalar_laws.specs.Semiring.{Semiring}
use Rattle.scalar_laws.specs.Conversions.{Conversions}
use Rattle.tables.specs.Indices.{count_from, each_rank}
use Rattle.tables.specs.Tables.{Table, sum_of}
use Rattle.mm_text.specs.Reading.{File}
use Rattle.model_defs.specs.declared.job.Job.{Job}
use Rattle.model_defs.specs.Machine.{united}
use Rattle.model_defs.specs.declared.shape.Shape.{Shape}
use Rattle.model_defs.specs.declared.shape.Sort.{Sort}
use Rattle.model_defs.specs.declared.shape.Sort.TheVariants.{Vector, Parts, Matrix, Split}
use Rattle.model_defs.specs.Shapes.{is_by_rank}
use Rattle.model_defs.specs.Sheets.{array_sheet, coordinate_sheet, is_total, sheets_by}
use Rattle.job_sheets.specs.Values.{value_of}

pub value_of-united : {S : Type 0} (R : Semiring S) (F : Conversions S) (job : Job) (files : List File) (b : Bool) (ts : ℕ → Table S) → value_of R job.ranks b ts ≡ united R F job files b ts
value_of-united R F job files true ts = refl
value_of-united R F job files false ts = refl

same-from : {B : Type 0} (f g : ℕ → B) (n k : ℕ) → ((p : ℕ) → p < n + k → f p ≡ g p) → map f (count_from n k) ≡ map g (count_from n k)
same-from f g n zero e = refl
same-from f g n (suc k) e = λ t. e n (omega arith) t ∷ same-from f g (n + 1) k (λ p l. e p (omega arith)) t

-- what is printed depends on the tables of the ranks alone
pub sheets-below : {S : Type 0} (R : Semiring S) (F : Conversions S) (job : Job) (s : Shape) (ts us : ℕ → Table S) → ((p : ℕ) → p < job.ranks → ts p ≡ us p)
    → sheets_by F job s.sort s (value_of R job.ranks (is_by_rank s.sort) ts) ≡ sheets_by F job s.sort s (value_of R job.ranks (is_by_rank s.sort) us)
sheets-below {S} R F job s ts us e = by s.sort
  where
    whole : sum_of R (each_rank job.ranks ts) ≡ sum_of R (each_rank job.ranks us)
    whole = ap (sum_of R) (same-from ts us 0 job.ranks (λ p l. e p (omega arith)))

    by : (sort : Sort) → sheets_by F job sort s (value_of R job.ranks (is_by_rank sort) ts) ≡ sheets_by F job sort s (value_of R job.ranks (is_by_rank sort) us)
    by Vector = ap (λ t. cond (is_total job s.rows) (array_sheet F job s t) (coordinate_sheet F job s None t) ∷ []) whole
    by Parts = same-from (λ p. coordinate_sheet F job s (Some p) (ts p)) (λ p. coordinate_sheet F job s (Some p) (us p)) 0 job.ranks (λ p l. ap (coordinate_sheet F job s (Some p)) (e p (omega arith)))
    by Matrix = ap (λ t. coordinate_sheet F job s None t ∷ []) whole
    by Split = refl
