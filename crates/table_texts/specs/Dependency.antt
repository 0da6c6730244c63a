-- The text of what a job waits for: `--dependency` in sbatch(1).
use Rattle.std.specs.Prelude.{ℕ, Bool, if◌then◌else◌, List, [], ◌∷◌, ◌++◌, flat_map, Option, Some, None, codes, decimal}
use Rattle.plain_data.specs.declared.dependency.DepId.{DepId}
use Rattle.plain_data.specs.declared.dependency.DepItem.{DepItem}
use Rattle.plain_data.specs.declared.dependency.DepKind.{DepKind}
use Rattle.plain_data.specs.declared.dependency.DepKind.TheVariants.{After, AfterAny, AfterOk, AfterNotOk, AfterCorr, Singleton}
use Rattle.plain_data.specs.declared.dependency.DepSpec.{DepSpec}
use Rattle.table_texts.specs.Values.{null}

abbrev pub kind_word : DepKind → List ℕ
kind_word After = codes "after"
kind_word AfterAny = codes "afterany"
kind_word AfterOk = codes "afterok"
kind_word AfterNotOk = codes "afternotok"
kind_word AfterCorr = codes "aftercorr"
kind_word Singleton = codes "singleton"

-- `_INDEX` of a task
abbrev pub index_text : Option ℕ → List ℕ
index_text None = []
index_text (Some index) = codes "_" ++ decimal index

-- `:ID`, or `:ID_INDEX` of a task
abbrev pub id_text : DepId → List ℕ
id_text id = codes ":" ++ decimal id.id ++ index_text id.index

-- a kind, with the jobs that it names
abbrev pub item_text : DepItem → List ℕ
item_text item = kind_word item.kind ++ flat_map id_text item.ids

-- what stands between two items: one of them is enough, or all are needed
abbrev pub mark : Bool → List ℕ
mark any = if any then codes "?" else codes ","

abbrev pub later_item : Bool → DepItem → List ℕ
later_item any item = mark any ++ item_text item

abbrev pub items_text : Bool → List DepItem → List ℕ
items_text any [] = []
items_text any (item ∷ items) = item_text item ++ flat_map (later_item any) items

unfoldable pub dependency_text : Option DepSpec → List ℕ
dependency_text None = null
dependency_text (Some spec) = items_text spec.any spec.items
