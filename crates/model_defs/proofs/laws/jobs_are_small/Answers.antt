use Rattle.model_defs.proofs.Bounds.{maps-are-layouts, entries-are-small, widths-are-small, values-are-few}
use Rattle.model_defs.proofs.laws.jobs_are_small.Goals as goal

pub returns : goal.returns
returns c = record { maps = maps-are-layouts; entries = entries-are-small; widths = widths-are-small; values = values-are-few }
