-- The letters of a job are a protocol.
use Rattle.std.proofs.Common.{◌≡◌, Bool, true, false, not, ◌&&◌, eqb, ltb, List, refl, sym, ap, ◌∙◌, ltb-true}
use Rattle.std.proofs.lemmas.Bool.{eqb-true}
use Rattle.scalar_laws.specs.Semiring.{Semiring}
use Rattle.scalar_laws.specs.Conversions.{Conversions}
use Rattle.outside.specs.declared.name.Name.{Name}
use Rattle.model_defs.specs.Phases.{phases}
use Rattle.model_defs.specs.Letters.{letter_names}
use Rattle.peers.specs.Protocols.{Letter, stands_in, only}
use Rattle.model_defs.proofs.NameOrder.{names-ascend}
use Rattle.model_defs.specs.Machine.{names_before, phase_of, letter_of_phase}
use Rattle.model_defs.specs.Laws.{JobsAreProtocols}
use Rattle.model_defs.proofs.Filters.{both, filter-filter, filter-ext, among-kept, among-all}
use Rattle.model_defs.proofs.Names.{is_pair, names-pairs}

-- ---- the laws

only-twice : (ns : List Name) (g : List Letter) → only ns g ≡ only ns (only ns g)
only-twice ns g = sym (filter-filter (λ l. stands_in ns l.0) (λ l. stands_in ns l.0) g ∙ filter-ext _ (λ l. stands_in ns l.0) (λ l. same (stands_in ns l.0)) g)
  where
    same : (b : Bool) → (b && b) ≡ b
    same true = refl
    same false = refl

abbrev is_before : Name → Name → Bool
is_before n m = (eqb m.to n.from) && ltb m.phase n.phase

pub jobs_are_protocols : {S : Type 0} (R : Semiring S) (F : Conversions S) → JobsAreProtocols R F
jobs_are_protocols R F = λ job files. record {
  ordered = names-ascend job files 0 (phases job);
  from_rank = λ n e. ltb-true n.from job.ranks (both (ltb n.from job.ranks) (ltb n.to job.ranks) (both (ltb n.from job.ranks && ltb n.to job.ranks) (not (eqb n.from n.to)) (among-all (is_pair job.ranks) n (letter_names job files) (names-pairs job files) e)).0).0;
  to_rank = λ n e. ltb-true n.to job.ranks (both (ltb n.from job.ranks) (ltb n.to job.ranks) (both (ltb n.from job.ranks && ltb n.to job.ranks) (not (eqb n.from n.to)) (among-all (is_pair job.ranks) n (letter_names job files) (names-pairs job files) e)).0).1;
  before_known = λ m n h. (among-kept (is_before n) m (letter_names job files) h.1).0;
  before_given = λ m n h. eqb-true m.to n.from (both (eqb m.to n.from) (ltb m.phase n.phase) (among-kept (is_before n) m (letter_names job files) h.1).1).0;
  depth = λ n. n.phase;
  before_falls = λ m n h. ltb-true m.phase n.phase (both (eqb m.to n.from) (ltb m.phase n.phase) (among-kept (is_before n) m (letter_names job files) h.1).1).1;
  made_of_before = λ n g. ap (letter_of_phase R F job files (phase_of R F job files n) n) (only-twice (names_before n (letter_names job files)) g);
}
