use Rattle.std.proofs.Common.{rules, ℕ, ◌≡◌, [], ◌∷◌, ◌++◌, List, ap, sym, ◌∙◌}
use Rattle.std.proofs.lemmas.List.{map-append}
use Rattle.plain_data.specs.Confs.{node_names}
use Rattle.plain_data.specs.declared.conf.NodeConf.{NodeConf}
use Rattle.text_values.proofs.NameLemmas.{has-insert}
use Rattle.text_values.proofs.node_table.NodeTable.push.Goals as goal

pub invariant_of-self-2 : goal.invariant_of-self-2
invariant_of-self-2 c =
    λ q. let items : c.push.new.self.items ≡ c.self.inside.nodes.items ++ c.args.node ∷ [] = search rules in
    let name : c.in_ok-name.name ≡ c.args.node.name = search rules in
    let names : node_names (c.self.inside.nodes.items ++ c.args.node ∷ []) ≡ node_names c.self.inside.nodes.items ++ c.in_ok-name.name ∷ [] =
    map-append (λ (node : NodeConf). node.name) c.self.inside.nodes.items (c.args.node ∷ []) ∙ ap (λ (n : List ℕ). node_names c.self.inside.nodes.items ++ n ∷ []) (sym name) in
    rw (items, names) (has-insert q c.in_ok-name.name (node_names c.self.inside.nodes.items) _ _ (c.self.invariant q) (c.in_ok-insert.ensures.updates.0 q))
