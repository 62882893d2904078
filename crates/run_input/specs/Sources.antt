-- What holds in some source of texts.
use Rattle.std.specs.Prelude.{Option}
use Rattle.outside.specs.Reads.{AgreesWith, Source}

-- Some source that agrees with what the files tell passes. Where they tell what they hold, it is that source.
pub record SomeSource (told : Option Source) (P : Source → Type 0) : Type 0 where
  pub source : Source
  pub agrees : AgreesWith told source
  pub passes : P source
