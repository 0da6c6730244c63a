-- The parameters of the scheduler.
use Rattle.std.specs.Prelude.{ℕ, if◌then◌else◌, List, [], ◌∷◌, fold, bytes_eq, codes, Option, Some, None, option_map}
use Rattle.std.specs.Str.{byte}
use Rattle.small_texts.specs.Fields.{fields}
use Rattle.text_values.specs.Lists.{parts_in}
use Rattle.text_values.specs.Numbers.{number_in}
use Rattle.text_values.specs.declared.scheduler.Scheduler.{Scheduler}
use Rattle.text_values.specs.declared.scheduler.SchedulerItem.{SchedulerItem}
use Rattle.text_values.specs.declared.scheduler.SchedulerItem.TheVariants.{Window, Interval}

-- one of the parameters of the scheduler, by its fields at an equals sign
unfoldable pub scheduler_item_of : List (List ℕ) → Option SchedulerItem
scheduler_item_of (name ∷ value ∷ []) =
    if bytes_eq name (codes "bf_window") then option_map Window (number_in 1 43_200 value)
    else (if bytes_eq name (codes "bf_interval") then option_map Interval (number_in 1 10_800 value)
    else None)
scheduler_item_of parts = None

-- 61 is an equals sign
abbrev pub scheduler_item : List ℕ → Option SchedulerItem
scheduler_item text = scheduler_item_of (fields (byte "=") text)

-- a parameter takes the place of an earlier one
unfoldable pub with_item : Scheduler → SchedulerItem → Scheduler
with_item plans (Window minutes) = record plans { window = Some minutes }
with_item plans (Interval seconds) = record plans { interval = Some seconds }

unfoldable pub no_items : Scheduler
no_items = record { window = None; interval = None }

-- the parameters of the scheduler, between commas
unfoldable pub scheduler_in : List ℕ → Option Scheduler
scheduler_in text = option_map (fold with_item no_items) (parts_in scheduler_item (byte ",") text)
