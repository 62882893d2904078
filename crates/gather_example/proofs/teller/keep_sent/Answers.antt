use Rattle.std.proofs.Common.{rules}
use Rattle.std.proofs.lemmas.Fn.{filter_same}
use Rattle.gather_example.specs.Gathers.{is_sent}
use Rattle.gather_example.proofs.teller.keep_sent.Goals as goal

pub returns : goal.returns
returns c = filter_same _ (is_sent c.args.rounds) _ (λ x b f' k. search rules) c.args.names.now.items c.retain.new.self.items c.retain.ensures.filtered
