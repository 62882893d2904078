-- What the phases of a job are about, and what the letters of a directory say.
use Rattle.std.proofs.Common.{sym, ◌∙◌}
use Rattle.tables.specs.Indices.{stands}
use Rattle.map_core.proofs.Members.{stands-filter}
use Rattle.map_core.proofs.Owners.{owner-only, owner-has}
use Rattle.model_defs.specs.Maps.{layout_of, list_of, is_home_rank}
use Rattle.model_defs.specs.Machine.{no_phase}
use Rattle.model_defs.specs.PhaseLaws.{TransfersHavePhases, RegistrationsSayOwners}
use Rattle.model_defs.proofs.Filters.{both, and}
use Rattle.model_defs.proofs.Names.{sends-is}
use Rattle.model_defs.proofs.Senders.{unsent-local}

pub transfers-have-phases : TransfersHavePhases
transfers-have-phases = λ job k t. (λ n e. sends-is job k t n no_phase e, λ l m e. unsent-local job k t l m e)

pub registrations-say-owners : RegistrationsSayOwners
registrations-say-owners = λ job files k m p h g one home. (
  (λ e. owner-only (layout_of job m) g p one (both (stands g (list_of job m p)) (is_home_rank job m h g) (sym (stands-filter g (is_home_rank job m h) (list_of job m p)) ∙ e)).0),
  (λ e. stands-filter g (is_home_rank job m h) (list_of job m p) ∙ and (stands g (list_of job m p)) (is_home_rank job m h g) (owner-has (layout_of job m) g p e) home),
)
