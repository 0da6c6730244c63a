use Rattle.std.proofs.Common.{◌++◌, List, take}
use Rattle.job_table.specs.declared.record.Part.{Part}
use Rattle.ctl_state.specs.Holding.{mem_in}
use Rattle.ctl_show.specs.Found.{CountsParts}
use Rattle.ctl_show.proofs.held.count_mem.Given as goal

abbrev pub invariant-loop-part : goal.invariant-loop-part
invariant-loop-part l = (before : List Part) → CountsParts mem_in before l.initial.counts
    → CountsParts mem_in (before ++ take l.part-index l.parts) l.counts
