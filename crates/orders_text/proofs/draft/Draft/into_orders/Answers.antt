use Rattle.std.proofs.Common.{subst, sym}
use Rattle.reply_data.specs.Starts.{LaunchesInOrder}
use Rattle.orders_text.specs.Orders.{Listed}
use Rattle.orders_text.proofs.draft.Draft.into_orders.Goals as goal

pub from_vec-requires-3 : goal.from_vec-requires-3
from_vec-requires-3 c = subst (λ (d : Listed). LaunchesInOrder d.launches) (sym c.self.view_is) c.requires.launches_order
