use Rattle.std.proofs.Common.{ap, sym, ◌∙◌}
use Rattle.std.specs.List.{filter}
use Rattle.gather_example.specs.Gathers.{is_sent}
use Rattle.gather_example.proofs.Gathering.{posts-here, posts-past}
use Rattle.gather_example.proofs.teller.Teller.posts.Goals as goal

pub returns-then-phase-self : goal.returns-then-phase-self
returns-then-phase-self c =
    c.new.ensures.items ∙ sym (posts-past c.args.self.now.ranks c.args.self.now.rounds c.args.self.now.phases c.args.phase c.args.self.now.rank c.if-phase-self.true)

pub returns : goal.returns
returns c =
    c.keep_sent.ensures ∙ ap (filter (is_sent c.args.self.now.rounds)) c.in_ok-names.ensures
    ∙ sym (posts-here c.args.self.now.ranks c.args.self.now.rounds c.args.self.now.phases c.args.phase c.args.self.now.rank c.if-phase-self.false c.requires)
