use Rattle.std.proofs.Common.{ap, arith, map, ◌∙◌}
use Rattle.std.proofs.lemmas.List.{take_all}
use Rattle.ctl_waiting.specs.FairShare.{node_of}
use Rattle.ctl_waiting.proofs.Trees.{IsTree-is}
use Rattle.ctl_waiting.proofs.tree.tree_of.Goals as goal

pub returns-clause-tree : goal.returns-clause-tree
returns-clause-tree c =
    let assocs = c.args.assocs.now in
    let all = take_all c.loop-assoc.assoc-index assocs (omega (arith, c.loop-assoc-test.false)) in
    IsTree-is c.loop-assoc.nodes.items assocs (c.loop-assoc.invariant.value ∙ ap (map node_of) all)
    c.requires.rooted c.requires.few c.requires.small c.loop-assoc.invariant.shares
