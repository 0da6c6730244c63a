use Rattle.std.proofs.Common.{◌∙◌, sym}
use Rattle.cluster_opening.proofs.Judgements.{fresh_desk}
use Rattle.cluster_opening.proofs.cluster_files.desk.Goals as goal

pub new-requires : goal.new-requires
new-requires c = record {
  same = c.in_ok-ctl.ensures c.requires.good.0 c.requires.good.1
      ∙ sym (c.in-Ok.ensures c.requires.good.0 c.requires.good.1);
}

pub returns-in-Ok : goal.returns-in-Ok
returns-in-Ok c = λ s opens.
    fresh_desk c.own_desk.result s c.in-Ok.opening.state (c.in-Ok.ensures s opens)
    (rw (c.new.ensures.opening, c.new.ensures.entries) at c.own_desk.ensures)
