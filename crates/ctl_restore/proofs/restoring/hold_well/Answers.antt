use Rattle.std.proofs.Common.{◌∙◌, [], map, refl, sym}
use Rattle.std.proofs.lemmas.Bool.{both_ways}
use Rattle.ctl_state.specs.Planning.{room_of}
use Rattle.ctl_restore.proofs.Fitting.{parts-up, up-parts}
use Rattle.ctl_core.proofs.Openings.{shows-none}
use Rattle.ctl_restore.proofs.Openings.{none-held}
use Rattle.ctl_restore.proofs.restoring.hold_well.Goals.{else-hold_jobs, then-hold_jobs}
use Rattle.ctl_restore.proofs.restoring.hold_well.Goals as goal

pub returns-then-are_up-clause-shown : goal.returns-then-are_up-clause-shown
returns-then-are_up-clause-shown c = λ yes.
    elim c.if-hold_jobs.branch [
      | then-hold_jobs w ↦
          (c.hold_jobs.ensures.holds.taken w.if-hold_jobs.true [] (shows-none c.args.nodes.now.held [] c.requires.nothing refl)
          (none-held (map room_of c.args.nodes.now.records))).0
      | else-hold_jobs w ↦
          absurd (both_ways c.hold_jobs.result w.if-hold_jobs.false (sym w.value-is ∙ c.if-are_up.true))
    ]

pub returns-then-are_up-clause-well : goal.returns-then-are_up-clause-well
returns-then-are_up-clause-well c = (
  λ yes. elim c.if-hold_jobs.branch [
    | then-hold_jobs w ↦ record {
      held = (c.hold_jobs.ensures.holds.taken w.if-hold_jobs.true []
          (shows-none c.args.nodes.now.held [] c.requires.nothing refl) (none-held (map room_of c.args.nodes.now.records))).1;
      up = up-parts c.args.nodes.now.records c.args.jobs.now
          (rw c.hold_jobs.ensures.records at (w.are_up.ensures.0 (sym w.value-is ∙ c.if-are_up.true)));
      kept = c.are_kept.ensures.0 yes;
    }
    | else-hold_jobs w ↦
        absurd (both_ways c.hold_jobs.result w.if-hold_jobs.false (sym w.value-is ∙ c.if-are_up.true))
  ],
  λ has. c.are_kept.ensures.1 has.kept,
)

pub returns-else-are_up-clause-well : goal.returns-else-are_up-clause-well
returns-else-are_up-clause-well c = (
  λ yes. absurd (both_ways c.if-hold_jobs.value c.if-are_up.false yes),
  λ has. elim c.if-hold_jobs.branch [
    | then-hold_jobs w ↦
        absurd (both_ways w.are_up.result (sym w.value-is ∙ c.if-are_up.false)
        (w.are_up.ensures.1 (rw c.hold_jobs.ensures.records (parts-up c.args.nodes.now.records c.args.jobs.now has.up))))
    | else-hold_jobs w ↦
        absurd (c.hold_jobs.ensures.holds.refused w.if-hold_jobs.false []
        (shows-none c.args.nodes.now.held [] c.requires.nothing refl) has.held)
  ],
)
