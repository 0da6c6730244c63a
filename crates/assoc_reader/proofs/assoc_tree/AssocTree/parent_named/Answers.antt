use Rattle.std.proofs.Common.{◌≡◌, Some, sym, ◌∙◌}
use Rattle.assoc_reader.specs.Tree.{account_place}
use Rattle.assoc_reader.proofs.TreeLemmas.{account-at}
use Rattle.assoc_reader.proofs.assoc_tree.AssocTree.parent_named.Goals as goal

pub returns-in-Some-clause-there : goal.returns-in-Some-clause-there
returns-in-Some-clause-there c =
    let inside : account_place c.args.name.now c.self.inside.assocs.items ≡ Some c.in-Some.place = sym (c.self.invariant.1.accounts c.args.name.now) ∙ (sym c.account.ensures ∙ c.in-Some.is) in
    let leads : account_place c.args.name.now c.args.self.now.assocs ≡ Some c.in-Some.place = rw (← c.self.view_is) inside in
    account-at c.args.self.now c.args.name.now c.in-Some.place leads
