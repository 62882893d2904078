use Rattle.std.proofs.Common.{ap₂, ◌∙◌}
use Rattle.clap.specs.Simple.{with_rule}
use Rattle.run_words.proofs.app.run_command.Goals as goal

pub returns : goal.returns
returns c = record {
  app = c.in_ok-command.ensures.shape c.flag.ensures.local
      ∙ ap₂ with_rule (c.in_ok-arg-4.ensures.shape c.option-3.ensures.local
      ∙ ap₂ with_rule (c.in_ok-arg-3.ensures.shape c.option-2.ensures.local
      ∙ ap₂ with_rule (c.in_ok-arg-2.ensures.shape c.option.ensures.local
      ∙ ap₂ with_rule (c.in_ok-arg.ensures.shape c.positional.ensures.local
      ∙ ap₂ with_rule c.bare.ensures.app c.positional.ensures.rule) c.option.ensures.rule) c.option-2.ensures.rule) c.option-3.ensures.rule) c.flag.ensures.rule;
}
