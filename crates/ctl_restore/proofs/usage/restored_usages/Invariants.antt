-- What the lines so far tell.
use Rattle.std.proofs.Common.{◌≡◌, ◌≤◌, take, true, All, AllPairs}
use Rattle.saved_data.specs.declared.parts.SavedUsage.{SavedUsage}
use Rattle.ctl_restore.specs.Fits.{AreOfOthers, is_user_of}
use Rattle.ctl_restore.specs.Restored.{restored_usages}
use Rattle.ctl_restore.proofs.usage.restored_usages.Given as goal

abbrev pub invariant-loop-line : goal.invariant-loop-line
invariant-loop-line l = record {
  usage : l.usage.items ≡ restored_usages (take l.line-index l.lines) l.assocs.records;
  known : All (λ (line : SavedUsage). is_user_of l.assocs.records line.user line.account ≡ true) (take l.line-index l.lines);
  apart : AllPairs AreOfOthers (take l.line-index l.lines);
  some : All (λ (line : SavedUsage). 1 ≤ line.total) (take l.line-index l.lines);
}
