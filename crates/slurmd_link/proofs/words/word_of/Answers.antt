use Rattle.std.proofs.Common.{sym, ◌∙◌}
use Rattle.slurmd_link.proofs.Labels.{word_found}
use Rattle.slurmd_link.proofs.words.word_of.Goals as goal

pub returns-in-Some : goal.returns-in-Some
returns-in-Some c =
    let found = word_found c.args.words.now c.args.label.now _ c.labelled.ensures in
    let named = rw c.in-Some.is at found in
    sym (named ∙ cc)

pub returns-in-None : goal.returns-in-None
returns-in-None c =
    let found = word_found c.args.words.now c.args.label.now _ c.labelled.ensures in
    sym (rw c.in-None.is at found)
