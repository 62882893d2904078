-- Where a protocol has no letter, none is given, and each order ends at once.
use Rattle.std.proofs.Common.{◌≡◌, true, false, cond, ◌&&◌, List, [], ◌∷◌, refl, sym, ap, ◌∙◌}
use Rattle.std.specs.Prelude.{not}
use Rattle.std.specs.List.{filter}
use Rattle.outside.specs.declared.name.Name.{Name}
use Rattle.outside.specs.MailRoom.{names_of}
use Rattle.peers.specs.Protocols.{Letter, Protocol, flies, is_ready, stands_in}
use Rattle.peers.specs.Runs.{EachComes}
use Rattle.schedule.specs.declared.order.Entry.{Entry}
use Rattle.schedule.specs.declared.order.Order.{Order}
use Rattle.schedule.specs.declared.order.Order.TheVariants as order
use Rattle.schedule.specs.Orders.{Complete, Wrong, deliveries, ending, ending_after, ending_of, listed_ending}
use Rattle.rank_sim.specs.Laws.{ending_without_letters, local_ending}

module _ (P : Protocol) (none : P.names ≡ []) where
  none-flies : (delivered : List Name) (n : Name) → flies P delivered n ≡ false
  none-flies delivered n = ap (λ ns. stands_in ns n && (not (stands_in delivered n) && is_ready P delivered n)) none

  pub none-given : (letters : List Letter) → EachComes P [] (names_of letters) → letters ≡ []
  none-given [] comes = refl
  none-given (l ∷ ls) comes = let bad : false ≡ true = sym (none-flies [] l.0) ∙ comes.0 in absurd (cc)

  at-once : (delivered : List Name) → ending_after P delivered ≡ Complete
  at-once delivered = ap (λ ns. ending_of (filter (flies P delivered) ns)) none

  listed : (entries : List Entry) → listed_ending P [] entries ≡ ending_without_letters entries
  listed [] = at-once []
  listed (e ∷ es) = ap (λ b. cond b (listed_ending P (e.name ∷ []) es) (Wrong e.line e.name)) (none-flies [] e.name)

  pub ends-at-once : (by : Order) → ending P by ≡ local_ending by
  ends-at-once order.Fifo = at-once (deliveries P order.Fifo)
  ends-at-once order.Lifo = at-once (deliveries P order.Lifo)
  ends-at-once (order.Seed seed) = at-once (deliveries P (order.Seed seed))
  ends-at-once (order.Listed entries) = listed entries.items
