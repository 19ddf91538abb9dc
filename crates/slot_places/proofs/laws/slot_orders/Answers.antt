use Rattle.slot_places.proofs.OrderLaws.{order-of_allowed, allowed-by_order}
use Rattle.slot_places.proofs.laws.slot_orders.Goals as goal

pub returns-clause-some : goal.returns-clause-some
returns-clause-some c = order-of_allowed

pub returns-clause-allowed : goal.returns-clause-allowed
returns-clause-allowed c = allowed-by_order
