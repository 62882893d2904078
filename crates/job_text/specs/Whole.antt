-- The job of a text: the length, the document, the top table, then the tables of each array in their order.
use Rattle.std.specs.Prelude.{◌+◌, ℕ, [], Option, Some, None, Ok, Err, codes, length, nat_le, if◌then◌else◌}
use Rattle.std.specs.Str.{is_utf8}
use Rattle.toml.specs.Data.{Items, Members}
use Rattle.toml.specs.Parse.{parse_document}
use Rattle.model_defs.specs.declared.job.Job.{Job}
use Rattle.model_defs.specs.Limits.{most_ranks, most_maps, most_given, most_steps}
use Rattle.job_text.specs.declared.fault.JobFault.TheVariants.{NotToml, Limit}
use Rattle.job_text.specs.declared.place.Place.TheVariants as place
use Rattle.job_text.specs.declared.words.Form.TheVariants as form
use Rattle.job_text.specs.Outcomes.{Outcome, ◌>>=◌, or_fault}
use Rattle.job_text.specs.Names.{Text}
use Rattle.job_text.specs.Keys.{only_keys, number_at}
use Rattle.job_text.specs.Lists.{item_count}
use Rattle.job_text.specs.Tables.{tables_at}
use Rattle.job_text.specs.Known.{no_names, read}
use Rattle.job_text.specs.Maps.{maps_after}
use Rattle.job_text.specs.Given.{vectors_after, parts_after, matrices_after}
use Rattle.job_text.specs.Steps.{steps_after}

-- the arrays of the top table
pub record Arrays : Type 0 where
  pub ranks : ℕ
  pub maps : Items
  pub vectors : Items
  pub parts : Items
  pub matrices : Items
  pub steps : Items

abbrev pub job_of_arrays : Arrays → Outcome Job
job_of_arrays a = do
  maps ← maps_after (read (no_names a.ranks) []) 0 a.maps
  vectors ← vectors_after (read maps.known []) 0 a.vectors
  parts ← parts_after (read vectors.known []) 0 a.parts
  matrices ← matrices_after (read parts.known []) 0 a.matrices
  steps ← steps_after (read matrices.known []) 0 a.steps
  Ok (record { ranks = a.ranks; maps = maps.done; vectors = vectors.done; parts = parts.done; matrices = matrices.done; steps = steps.done })

abbrev pub job_in : Members → Outcome Job
job_in top = do
  only ← only_keys place.Top form.Top top
  ranks ← number_at place.Top top (codes "ranks") 1 most_ranks
  maps ← tables_at top (codes "map") 0 most_maps
  vectors ← tables_at top (codes "vector") 0 most_given
  parts ← tables_at top (codes "parts") (item_count vectors) most_given
  matrices ← tables_at top (codes "matrix") (item_count vectors + item_count parts) most_given
  steps ← tables_at top (codes "do") 0 most_steps
  job_of_arrays (record { ranks = ranks; maps = maps; vectors = vectors; parts = parts; matrices = matrices; steps = steps })

-- the table of a document, where the text is one
abbrev pub document_of : Text → Outcome Members
document_of text = if is_utf8 text then or_fault NotToml (parse_document text) else Err NotToml

-- the most bytes of a job text
abbrev pub most_bytes : ℕ
most_bytes = 1048576

-- the job of a text
abbrev pub job_of : Text → Outcome Job
job_of text = if nat_le (length text) most_bytes then document_of text >>= job_in else Err (Limit (codes "job"))
