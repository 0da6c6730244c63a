-- The places of the lines so far, of which no two have one name.
use Rattle.std.proofs.Common.{take, AllPairs}
use Rattle.std.specs.Prelude.{◌≢◌}
use Rattle.saved_data.specs.declared.parts.SavedNode.{SavedNode}
use Rattle.ctl_restore.specs.Steps.{LeadsToLines}
use Rattle.ctl_restore.proofs.standings.places_by_name.Given as goal

abbrev pub invariant-loop-place : goal.invariant-loop-place
invariant-loop-place l = record {
  places : LeadsToLines (take l.place l.lines) l.places;
  once : AllPairs (λ (one other : SavedNode). one.name ≢ other.name) (take l.place l.lines);
}
