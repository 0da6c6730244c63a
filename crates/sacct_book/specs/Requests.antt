-- Which requests may change what runs.
use Rattle.std.specs.Prelude.{Bool, true, false, ◌&&◌, nat_eq}
use Rattle.reply_data.specs.declared.reply.Reply.{Reply}
use Rattle.reply_data.specs.declared.reply.Reply.TheVariants.{Passed}
use Rattle.request_data.specs.declared.request.NodeOrder.TheVariants.{Down}
use Rattle.request_data.specs.declared.request.Request.{Request}
use Rattle.request_data.specs.declared.request.Request.TheVariants.{Cancel, Report, Requeue, Pass, UpdateNode}

-- passes, reports, cancels, requeues, and nodes that are set down
abbrev pub may_change_running : Request → Bool
may_change_running Pass = true
may_change_running (Report report) = true
may_change_running (Cancel targets) = true
may_change_running (Requeue target) = true
may_change_running (UpdateNode nodes Down) = true
may_change_running request = false

-- a pass that took no job out of Running and started none
abbrev pub is_still : Request → Reply → Bool
is_still Pass (Passed ended started planned) = nat_eq ended 0 && nat_eq started 0
is_still request reply = false
