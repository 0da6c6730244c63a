use Rattle.std.proofs.Common.{◌≡◌, ◌++◌, drop, true}
use Rattle.block_frame.specs.Looking.{undotted}
use Rattle.block_frame.proofs.parts.undotted.Given as goal

-- what was taken, and the rest without its dots, make all of it
abbrev pub invariant-loop-byte : goal.invariant-loop-byte
invariant-loop-byte l = l.bytes.items ++ undotted l.begins (drop l.byte-index l.lines) ≡ undotted true l.lines
