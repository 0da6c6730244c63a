-- Whether jobs may be requeued for others, and which.
use Rattle.std.specs.Prelude.{Bool, bytes_eq}
use Rattle.std.specs.List.{list_any}
use Rattle.plain_data.specs.declared.conf.Settings.{Settings}
use Rattle.run_limits.specs.declared.record.QosRecord.{QosRecord}

-- preemption is on
abbrev pub preempts_at_all : Settings → Bool
preempts_at_all settings = settings.preempt

-- the quality of service names this one
abbrev pub names : QosRecord → QosRecord → Bool
names one other = list_any (bytes_eq other.conf.name) one.conf.preempt
