-- A daemon's turn at the controller: it reports, and does what it is ordered.
use Rattle.std.specs.Prelude.{◌≡◌, ◌⊎◌, ℕ, List, codes}
use Rattle.reply_data.specs.declared.reply.Reply.{Reply}
use Rattle.reply_data.specs.declared.reply.Reply.TheVariants.{Orders as Ordered}
use Rattle.request_data.specs.declared.request.Request.{Request}
use Rattle.request_data.specs.declared.request.Request.TheVariants.{Report}
use Rattle.ctl_desk.specs.declared.entry.Answer.{Answer}
use Rattle.ctl_desk.specs.Desk.{Sight, IsAnswered}
use Rattle.node_daemon.specs.Daemon.{Daemon, accepted, given, polled, reported}

-- the user as whom daemons report
abbrev pub root : List ℕ
root = codes "root"

-- what a daemon asks when it polls
abbrev pub report_at : ℕ → Daemon → Request
report_at now daemon = Report (reported (polled now daemon))

-- the controller answers the report that the daemon makes when it polls
abbrev pub AnswersReport : ℕ → Daemon → Sight → Sight → Answer → Type 0
AnswersReport now daemon desk desk' answer = IsAnswered desk desk' now root (report_at now daemon) answer

-- the reply is orders
abbrev pub IsOrders : Reply → Type 0
IsOrders (Ordered orders) = Unit {0}
IsOrders reply = ⊥

-- the daemon once it has its reply: orders are done
abbrev pub after_reply : ℕ → Reply → Daemon → Daemon
after_reply now (Ordered orders) daemon = accepted now orders daemon
after_reply now reply daemon = daemon

-- the same, where only orders that are due are done
abbrev pub given_reply : ℕ → Reply → Daemon → Daemon
given_reply now (Ordered orders) daemon = given now orders daemon
given_reply now reply daemon = daemon

-- nothing happened
abbrev pub IsUntouched : Daemon → Daemon → Sight → Sight → Type 0
IsUntouched daemon daemon' desk desk' = (daemon' ≡ daemon) × (desk' ≡ desk)

-- the daemon polled, and nothing of its report was entered
abbrev pub IsUnheard : ℕ → Daemon → Daemon → Sight → Sight → Type 0
IsUnheard now daemon daemon' desk desk' = (daemon' ≡ polled now daemon) × (desk'.mine ≡ desk.mine)

-- the daemon polled, and its report was answered by orders, which are lost
pub record LosesOrders (now : ℕ) (daemon daemon' : Daemon) (desk desk' : Sight) : Type 0 where
  pub answer : Answer
  pub answers : AnswersReport now daemon desk desk' answer
  pub orders : IsOrders answer.reply
  pub after : daemon' ≡ polled now daemon

-- what a turn leaves for which memory was wanting
abbrev pub IsCutTurn : ℕ → Daemon → Daemon → Sight → Sight → Type 0
IsCutTurn now daemon daemon' desk desk' =
    IsUntouched daemon daemon' desk desk'
    ⊎ (IsUnheard now daemon daemon' desk desk' ⊎ LosesOrders now daemon daemon' desk desk')
