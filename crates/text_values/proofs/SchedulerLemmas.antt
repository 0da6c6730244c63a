-- The parameters of the scheduler, read from the left.
use Rattle.std.proofs.Common.{ℕ, ◌≡◌, List, ◌∷◌, map, fold, Option, Some, None, option_map, refl}
use Rattle.host_lists.specs.Hosts.{all_some}
use Rattle.text_values.specs.Scheduler.{scheduler_item, with_item}
use Rattle.text_values.specs.declared.scheduler.Scheduler.{Scheduler}
use Rattle.text_values.specs.declared.scheduler.SchedulerItem.{SchedulerItem}

abbrev pub on_top : Scheduler → Option (List SchedulerItem) → Option Scheduler
on_top plans items = option_map (fold with_item plans) items

pub item-more : (plans : Scheduler) (item : SchedulerItem) (text : List ℕ) (texts : List (List ℕ)) → scheduler_item text ≡ Some item → on_top plans (all_some (map scheduler_item (text ∷ texts))) ≡ on_top (with_item plans item) (all_some (map scheduler_item texts))
item-more plans item text texts e = rw e (by_others (all_some (map scheduler_item texts))) where
  by_others : (others : Option (List SchedulerItem)) → on_top plans (option_map (λ xs. item ∷ xs) others) ≡ on_top (with_item plans item) others
  by_others None = refl
  by_others (Some others) = refl

pub item-bad : (plans : Scheduler) (text : List ℕ) (texts : List (List ℕ)) → scheduler_item text ≡ None → on_top plans (all_some (map scheduler_item (text ∷ texts))) ≡ None
item-bad plans text texts e = rw e refl

pub ruleset item_steps = (item-more, item-bad)
