-- The order of deliveries that a run is given.
use Rattle.std.specs.Prelude.{List}
use Rattle.schedule.specs.declared.chooser.Chooser.{Chooser}
use Rattle.schedule.specs.declared.chooser.Chooser.TheVariants as chooser
use Rattle.schedule.specs.declared.order.Entry.{Entry}
use Rattle.schedule.specs.declared.order.Order.{Order}
use Rattle.schedule.specs.declared.order.Order.TheVariants as order

pub data GivenOrder : Type 0 where
  -- the letter in flight that this rule chooses is delivered next
  by_rule : Chooser → GivenOrder
  -- the letters of these lines are delivered, in turn
  in_turn : List Entry → GivenOrder

-- the order that the code has
abbrev pub order_given : Order → GivenOrder
order_given order.Fifo = by_rule chooser.Fifo
order_given order.Lifo = by_rule chooser.Lifo
order_given (order.Seed seed) = by_rule (chooser.Seed seed)
order_given (order.Listed entries) = in_turn entries.items
