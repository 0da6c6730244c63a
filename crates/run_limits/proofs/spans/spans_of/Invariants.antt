-- The spans of the names so far.
use Rattle.std.proofs.Common.{ℕ, List, take, bytes_eq}
use Rattle.std.specs.HashMap.{get}
use Rattle.run_limits.specs.Spans.{IsSpanIfAny}
use Rattle.run_limits.proofs.spans.spans_of.Given as goal

abbrev pub invariant-loop-place : goal.invariant-loop-place
invariant-loop-place l = (name : List ℕ) → IsSpanIfAny (take l.place l.records) name (get bytes_eq l.spans name)
