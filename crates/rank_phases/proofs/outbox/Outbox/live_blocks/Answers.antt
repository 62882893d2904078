use Rattle.std.proofs.Common.{ap, sym, ◌∙◌, length}
use Rattle.std.proofs.lemmas.List.{length-map}
use Rattle.byte_pool.specs.Leases.{leases}
use Rattle.rank_phases.specs.Outboxes.{bytes_or_none}
use Rattle.rank_phases.specs.declared.outbox.Post.{Post}
use Rattle.rank_phases.proofs.LiveBlocks.{lent-posts}
use Rattle.rank_phases.proofs.outbox.Outbox.live_blocks.Goals as goal

pub returns : goal.returns
returns c =
    let pool = c.self.inside.pool in
    let posts = c.self.inside.queue.items in
    c.live.ensures ∙ lent-posts pool posts c.self.invariant
    ∙ sym (length-map posts (λ p. (p.name, bytes_or_none (leases pool p.lease))))
    ∙ ap length c.self.view_is
