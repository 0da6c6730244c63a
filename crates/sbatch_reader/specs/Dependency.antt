-- What a text says that a job waits for.
use Rattle.std.specs.Prelude.{ℕ, ◌==◌, nat_le, Bool, if◌then◌else◌, Option, Some, None, option_map, List, [], ◌∷◌, length, map, sum_by, bytes_eq, codes}
use Rattle.std.specs.List.{list_any}
use Rattle.std.specs.Str.{byte}
use Rattle.small_texts.specs.Fields.{fields}
use Rattle.host_lists.specs.Hosts.{all_some}
use Rattle.small_texts.specs.Options.{◌>>=◌}
use Rattle.plain_data.specs.declared.dependency.DepKind.{DepKind}
use Rattle.plain_data.specs.declared.dependency.DepKind.TheVariants.{After, AfterAny, AfterOk, AfterNotOk, AfterCorr, Singleton}
use Rattle.plain_data.specs.declared.dependency.DepId.{DepId}
use Rattle.plain_data.specs.declared.dependency.DepItem.{DepItem}
use Rattle.plain_data.specs.declared.dependency.DepSpec.{DepSpec}
use Rattle.text_values.specs.Jobs.{job_in}
use Rattle.text_values.specs.Lists.{parts_in}

-- a job, or a task of an array by its index
abbrev pub id_in : List ℕ → Option DepId
id_in text = option_map (λ job. record { id = job.0; index = job.1 }) (job_in text)

-- what must have become of jobs that are named
unfoldable pub kind_in : List ℕ → Option DepKind
kind_in word =
    if bytes_eq word (codes "after") then Some After
    else (if bytes_eq word (codes "afterany") then Some AfterAny
    else (if bytes_eq word (codes "afterok") then Some AfterOk
    else (if bytes_eq word (codes "afternotok") then Some AfterNotOk
    else (if bytes_eq word (codes "aftercorr") then Some AfterCorr
    else None))))

-- the jobs of an item's kind
unfoldable pub item_naming : List ℕ → List (List ℕ) → Option DepItem
item_naming word ids = do
  kind ← kind_in word
  jobs ← all_some (map id_in ids)
  Some (record { kind = kind; ids = jobs })

-- an item by its fields at a colon: the word that names no jobs, or another with one job or more
unfoldable pub item_of : List (List ℕ) → Option DepItem
item_of [] = None
item_of (word ∷ []) =
    if bytes_eq word (codes "singleton") then Some (record { kind = Singleton; ids = [] }) else None
item_of (word ∷ id ∷ ids) = item_naming word (id ∷ ids)

abbrev pub item_in : List ℕ → Option DepItem
item_in text = item_of (fields (byte ":") text)

-- Items are joined by question marks or by commas. No item has either, so a text with both is off the grammar.
abbrev pub is_any : List ℕ → Bool
is_any text = list_any (λ b. b == byte "?") text

abbrev pub items_in : List ℕ → Option (List DepItem)
items_in text = parts_in item_in (if is_any text then byte "?" else byte ",") text

-- how many jobs the items name
abbrev pub count_ids : List DepItem → ℕ
count_ids items = sum_by (λ item. length item.ids) items

-- all items together name 64 jobs at most
unfoldable pub dependency_in : List ℕ → Option DepSpec
dependency_in text = do
  items ← items_in text
  if nat_le (count_ids items) 64 then Some (record { any = is_any text; items = items }) else None
