use Rattle.slurmd_link.specs.Turns.{scene}
use Rattle.slurmd_link.proofs.Turning.{Going}
use Rattle.slurmd_link.proofs.link.link_run.Given as goal

-- so many turns were made, and their replies have so many bytes
abbrev pub invariant-loop-made : goal.invariant-loop-made
invariant-loop-made g l =
    Going l.user (scene (g.L.Link.wire l.initial.link) (g.C.Clock.moments l.initial.clock) l.initial.daemon)
    (scene (g.L.Link.wire l.link) (g.C.Clock.moments l.clock) l.daemon) l.made l.place
