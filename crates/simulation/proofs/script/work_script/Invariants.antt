use Rattle.std.proofs.Common.{◌≡◌, length, map}
use Rattle.block_frame.specs.declared.form.Form.TheVariants.{Plain}
use Rattle.simulation.specs.Run.{AllGoOn, IfOneAlone, last_moment}
use Rattle.simulation.proofs.Working.{LeadsOn}
use Rattle.simulation.proofs.script.work_script.Given as goal

-- what is pending leads to where the whole script does
abbrev pub invariant-loop-block : goal.invariant-loop-block
invariant-loop-block g l = record {
  form : l.blocks.form ≡ Plain;
  go_on : AllGoOn (map g.D.Desk.sight l.fn.desks) (map g.D.Desk.sight l.desks);
  moment : last_moment l.tally.moment l.blocks.pending ≡ last_moment l.fn.tally.moment l.script;
  alone : IfOneAlone (map g.D.Desk.sight l.fn.desks) (map g.D.Desk.sight l.desks)
      (LeadsOn l.fn.tally l.script l.tally l.blocks.pending);
}

abbrev pub decreases-loop-block : goal.decreases-loop-block
decreases-loop-block g l = length l.blocks.pending
