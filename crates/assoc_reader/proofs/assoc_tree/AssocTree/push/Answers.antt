use Rattle.std.proofs.Common.{◌≡◌, ◌++◌, ◌∷◌, [], None, length, rules, arith}
use Rattle.assoc_reader.specs.Tree.{TreeView, assoc_conf, with_assoc, name_fault}
use Rattle.assoc_reader.specs.Index.{IsCount}
use Rattle.assoc_reader.proofs.IndexLemmas.{count-more}
use Rattle.assoc_reader.proofs.TreeLemmas.{tree-push, account-place-none}
use Rattle.assoc_reader.proofs.assoc_tree.AssocTree.push.Goals as goal

pub add-requires-2-clause-children : goal.add-requires-2-clause-children
add-requires-2-clause-children c =
    let is : IsCount c.grow.new.self c.self.inside.assocs.items = c.grow.ensures.still c.self.inside.assocs.items c.self.invariant.2 in
    omega (arith, is.children c.self.inside.parent, c.self.invariant.0.few_children c.self.inside.parent)

pub invariant_of-self-2 : goal.invariant_of-self-2
unfolding assoc_conf with_assoc
invariant_of-self-2 c =
    let more : c.push.new.self.items ≡ c.self.inside.assocs.items ++ assoc_conf c.self.inside.parent c.args.user c.args.name c.args.words ∷ [] = search rules in
    let tree : TreeView = record { assocs = c.self.inside.assocs.items; parent = c.self.inside.parent } in
    let fine : name_fault tree c.args.user c.args.name ≡ None = rw c.self.view_is c.requires in
    let is : IsCount c.grow.new.self c.self.inside.assocs.items = c.grow.ensures.still c.self.inside.assocs.items c.self.invariant.2 in
    let size : length c.self.inside.assocs.items ≡ c.in_ok-place.place = search rules in
    rw more (
      tree-push tree c.args.user c.args.name c.args.words c.self.invariant.0 fine,
      c.in_ok-add.ensures.more c.self.inside.assocs.items c.self.invariant.1 size (λ account. account-place-none tree c.args.name (rw account at fine)),
      count-more c.grow.new.self c.add-2.new.self c.self.inside.assocs.items _ is c.add-2.ensures.users c.add-2.ensures.children (omega (arith, is.room, c.add-2.ensures.size, c.in_ok-grow.ensures.more)),
    )
