use Rattle.std.proofs.Common.{rules, ◌≡◌, ◌∙◌, sym}
use Rattle.gather_example.specs.Gathers.{gather}
use Rattle.gather_example.proofs.Gathering.{gather-phased}
use Rattle.gather_example.proofs.play.new_rank.Goals as goal

pub returns : goal.returns
returns c = λ words is.
    let copied : c.in_ok-to_vec.field-0.items ≡ c.args.word.now = search rules in
    c.new.ensures.peer (gather words c.args.ranks c.args.rounds c.args.phases) c.args.phases c.args.rank (gather-phased words c.args.ranks c.args.rounds c.args.phases)
    (c.new-teller.ensures words (is ∙ sym copied))
