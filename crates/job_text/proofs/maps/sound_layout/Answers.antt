use Rattle.std.proofs.Common.{map, sym, ◌∙◌}
use Rattle.std.proofs.lemmas.Bool.{false≢true}
use Rattle.job_text.proofs.SoundLists.{sound_kept, fault_unsound}
use Rattle.job_text.proofs.maps.sound_layout.Goals as goal

pub returns-in-Ok : goal.returns-in-Ok
returns-in-Ok c = (sound_kept c.args.size (map (λ l. l.items) c.args.lists.now) c.in-Ok.layout c.in-Ok.ensures.kept c.in-Ok.ensures.sound, c.in-Ok.ensures.kept)

pub returns-else-is_memory : goal.returns-else-is_memory
returns-else-is_memory c = fault_unsound c.args.size (map (λ l. l.items) c.args.lists.now) c.in-Err.fault c.in-Err.ensures.refused (λ e. false≢true (sym c.if-is_memory.false ∙ c.is_memory.ensures.1 e))
