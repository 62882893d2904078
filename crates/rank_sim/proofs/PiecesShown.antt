-- What is shown of the ranks' pieces.
use Rattle.std.proofs.Common.{◌≡◌, ℕ, List, Result, Ok, Err, IfOk, ap, ◌∙◌}
use Rattle.std.specs.Global.{Vec}
use Rattle.scalar_laws.specs.Semiring.{Semiring}
use Rattle.scalar_laws.specs.Conversions.{Conversions}
use Rattle.tables.specs.declared.Cell.{Cell}
use Rattle.mm_text.specs.Reading.{File}
use Rattle.peers.specs.Protocols.{Letter, firsts}
use Rattle.model_defs.specs.declared.job.Job.{Job}
use Rattle.model_defs.specs.Machine.{piece}
use Rattle.model_defs.specs.Shapes.{is_by_rank, shape}
use Rattle.model_defs.specs.Sheets.{sheets_by}
use Rattle.job_sheets.specs.Values.{sheets_of_pieces, table_at}
use Rattle.job_sheets.proofs.Unions.{sheets-below, value_of-united}
use Rattle.rank_sim.specs.Ranks.{ArePieces}
use Rattle.rank_sim.specs.Runs.{gathered_values}

pub if-ok : {T E : Type 0} {P Q : T → Type 0} (r : Result T E) → IfOk r P → ((x : T) → P x → Q x) → IfOk r Q
if-ok (Ok x) p f = f x p
if-ok (Err e) p f = tt

pub pieces-shown : {S : Type 0} (R : Semiring S) (F : Conversions S) (job : Job) (files : List File) (letters : List Letter) (v : ℕ) (pieces : List (Vec (Cell S))) → ArePieces R F job files letters v pieces
    → sheets_of_pieces R F job v pieces ≡ sheets_by F job (shape job v).sort (shape job v) (gathered_values R F job files letters v)
pieces-shown R F job files letters v pieces are =
    sheets-below R F job (shape job v) (table_at pieces) (λ p. piece R F job files p v (firsts letters)) are
    ∙ ap (sheets_by F job (shape job v).sort (shape job v)) (value_of-united R F job files (is_by_rank (shape job v).sort) (λ p. piece R F job files p v (firsts letters)))
