use Rattle.std.proofs.Common.{◌≡◌, ◌+◌, length, map}
use Rattle.std.specs.Option.{option_copied, option_map_or}
use Rattle.small_texts.specs.Fields.{fields, fields_of_rest}
use Rattle.host_lists.specs.Hosts.{all_some}
use Rattle.text_values.specs.Scheduler.{scheduler_item, no_items}
use Rattle.text_values.proofs.SchedulerLemmas.{on_top}
use Rattle.text_values.proofs.scheduler.read_scheduler.Given as goal

abbrev pub decreases-loop-rest : goal.decreases-loop-rest
decreases-loop-rest l = option_map_or (λ r. length r.now + 1) l.rest 0

abbrev pub invariant-loop-rest : goal.invariant-loop-rest
invariant-loop-rest l =
    on_top l.plans (all_some (map scheduler_item (fields_of_rest 44 (option_copied l.rest)))) ≡ on_top no_items (all_some (map scheduler_item (fields 44 l.text)))
