use Rattle.std.proofs.Common.{◌≡◌, ◌-◌, List, ℕ, [], ◌++◌, vec_len}
use Rattle.std.specs.Io.KnownBytes.{Consumes}
use Rattle.session_talk.specs.Lines.{HasOneLine}
use Rattle.session_talk.proofs.lines.next_line.Given as goal

-- what was pending and what was read is the line so far
abbrev pub invariant-loop-source : goal.invariant-loop-source
invariant-loop-source g l = record {
  read : (read : List ℕ) × Consumes (g.S.Source.left l.fn.source) (g.S.Source.left l.source) read
      × (l.fn.pending.items ++ read ≡ l.line.items);
  one_line : HasOneLine l.line.items;
  pending : l.pending.items ≡ [];
  faults : g.S.Source.read_faults l.source ≡ g.S.Source.read_faults l.fn.source;
}

abbrev pub decreases-loop-source : goal.decreases-loop-source
decreases-loop-source g l = 65537 - vec_len l.line
