use Rattle.std.proofs.Common.{◌∙◌, sym}
use Rattle.script_run.proofs.Adding.{begun}
use Rattle.script_run.proofs.sums.begin.Goals as goal

pub new-requires : goal.new-requires
new-requires c = record {
  same = c.in-Ok.ensures c.requires.good.0 c.requires.good.1
      ∙ sym (c.in_ok-opening.ensures c.requires.good.0 c.requires.good.1);
}

pub returns-in-Ok : goal.returns-in-Ok
returns-in-Ok c = λ s opens.
    begun c.new.result s c.in_ok-opening.opening.state (c.in_ok-opening.ensures s opens) c.new.ensures.opening
    c.new.ensures.entries
