use Rattle.std.proofs.Common.{sym, ◌∙◌}
use Rattle.run_words.proofs.Seeds.{no_seed}
use Rattle.run_words.proofs.checks.seed_number.Goals as goal

pub returns-in-Err : goal.returns-in-Err
returns-in-Err c = no_seed c.args.text.now c.in-Err.field-0 c.in-Err.ensures.value.0 (sym c.all_digits.ensures ∙ c.if-not-all_digits.false)
