-- The line of a node: "show node" in scontrol(1).
use Rattle.std.specs.Prelude.{ℕ, List, ◌++◌, Option, Some, None, codes, decimal}
use Rattle.request_data.specs.declared.report.Heard.{Heard}
use Rattle.reply_data.specs.declared.view.NodeGroup.{NodeGroup}
use Rattle.reply_data.specs.declared.view.NodeGroup.TheVariants.{Down, Draining, Drained, Allocated, Mixed, Idle}
use Rattle.reply_data.specs.declared.view.NodeRow.{NodeRow}
use Rattle.table_texts.specs.Values.{null, names_or_null}

-- "NODE STATE CODES" in sinfo(1)
abbrev pub group_word : NodeGroup → List ℕ
group_word Down = codes "DOWN"
group_word Draining = codes "DRAINING"
group_word Drained = codes "DRAINED"
group_word Allocated = codes "ALLOCATED"
group_word Mixed = codes "MIXED"
group_word Idle = codes "IDLE"

-- the last report that was accepted, `BOOT.NUMBER`
abbrev pub report_text : Option Heard → List ℕ
report_text None = null
report_text (Some heard) = decimal heard.boot ++ codes "." ++ decimal heard.number

-- which node it is, and what it has
unfoldable pub node_pairs : NodeRow → List ℕ
node_pairs row =
    codes "NodeName=" ++ row.name ++ codes " CPUAlloc=" ++ decimal row.held ++ codes " CPUTot=" ++ decimal row.cpus
    ++ codes " RealMemory=" ++ decimal row.mem ++ codes " AllocMem=" ++ decimal row.held_mem

-- how it stands, and what else is known of it
unfoldable pub standing_pairs : NodeRow → List ℕ
standing_pairs row =
    codes " State=" ++ group_word row.group ++ codes " Weight=" ++ decimal row.weight
    ++ codes " Features=" ++ names_or_null row.features ++ codes " LastReport=" ++ report_text row.heard

unfoldable pub node_line : NodeRow → List ℕ
node_line row = node_pairs row ++ standing_pairs row ++ codes "\n"
