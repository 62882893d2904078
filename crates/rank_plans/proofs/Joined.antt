-- A book and the plans of a job.
use Rattle.std.proofs.Common.{◌<◌, length, refl, ap, arith}
use Rattle.map_core.specs.Layouts.{owner}
use Rattle.map_core.specs.Classes.{owns}
use Rattle.map_core.proofs.Owners.{owner-below}
use Rattle.model_defs.specs.Maps.{layout_of}
use Rattle.model_defs.specs.Transfers.{owner_map}
use Rattle.model_defs.specs.Plans.{lacking}
use Rattle.rank_plans.specs.JobPlans.{AnswersNameOwners, ExportsLackTheRest, ImportsLackTheRest, OwnListsAreRemote, QuestionsAreAsked, RegistrationsAreEntries}
use Rattle.rank_plans.proofs.Known.{answered-words, filter-within}

pub registrations_are_entries : RegistrationsAreEntries
registrations_are_entries job files k m p q = refl

pub questions_are_asked : QuestionsAreAsked
questions_are_asked job files plan p q = refl

pub imports_lack_the_rest : ImportsLackTheRest
imports_lack_the_rest job files source target p = refl

pub exports_lack_the_rest : ExportsLackTheRest
exports_lack_the_rest job files source target p = refl

pub answers_name_owners : AnswersNameOwners
answers_name_owners job files m g xs few ranks on =
    answered-words job.ranks (owner (layout_of job m)) xs g few (λ h q e. let low : q < length (layout_of job m).lists = owner-below (layout_of job m) h q e in omega arith) on

pub own_lists_are_remote : OwnListsAreRemote
own_lists_are_remote job files plan p q known e =
    filter-within (λ g. owns (known g) q) (λ g. owns (owner (layout_of job (owner_map job plan)) g) q) (lacking job files plan p) (λ g on. ap (λ o. owns o q) (e g on))
