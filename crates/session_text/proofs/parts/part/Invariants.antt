use Rattle.std.proofs.Common.{◌≡◌, ◌-◌, take, drop}
use Rattle.session_text.proofs.parts.part.Given as goal

abbrev pub invariant-loop-place : goal.invariant-loop-place
invariant-loop-place l = l.part ≡ take (l.place - l.skipped) (drop l.skipped l.words)
