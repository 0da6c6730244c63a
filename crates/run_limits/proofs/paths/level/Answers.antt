use Rattle.std.proofs.Common.{◌≡◌, ◌<◌, ◌≤◌, ◌^◌, Some, refl, sym, ap, ◌∙◌, arith, get_or}
use Rattle.run_limits.specs.Tree.{parent_at}
use Rattle.run_limits.specs.Paths.{sum_at}
use Rattle.run_limits.proofs.Nodes.{void, parent_at-node, shares_at-node, shares-within, shares_at-small, children-small, level_of-least, level_of-top, level_of-fraction}
use Rattle.run_limits.proofs.Bounds.{num-small, den-small, den-positive}
use Rattle.run_limits.proofs.paths.level.Goals as goal

pub invariant_of-result : goal.invariant_of-result
invariant_of-result c =
    let parent = parent_at-node c.args.nodes.now c.args.place c.requires.place in
    let own = shares_at-node c.args.nodes.now c.args.place c.requires.place in
    let few = shares_at-small c.args.nodes.now c.args.place c.requires.place c.requires.sums.tree in
    let within = shares-within c.args.nodes.now c.args.place c.requires.place in
    let small = children-small c.args.nodes.now (parent_at c.args.nodes.now c.args.place) c.requires.sums.tree in
    let children = c.requires.sums.children (parent_at c.args.nodes.now c.args.place) in
    let shares : c.from-else-usage-eq0-2.result ≡ sum_at c.args.shares.now (parent_at c.args.nodes.now c.args.place) =
    c.from-else-usage-eq0-2.ensures ∙ c.at-else-usage-eq0.ensures ∙ ap (sum_at c.args.shares.now) (sym parent) in
    let used : c.from-else-usage-eq0.result ≡ sum_at c.args.used.now (get_or c.args.nodes.now c.args.place void).parent =
    c.from-else-usage-eq0.ensures ∙ c.at.ensures in
    let usage_low = c.requires.sums.small (Some c.args.place) in
    let used_low = c.requires.sums.small (get_or c.args.nodes.now c.args.place void).parent in
    let low : c.from.result ≤ 65535 = omega (arith, own, few, c.from.ensures) in
    let shares_low : c.from-else-usage-eq0-2.result < 2 ^ 24 = omega (arith, shares, children, small) in
    let some : 0 < c.from-else-usage-eq0-2.result = omega (arith, shares, children, within, own, c.if-node-eq0.false) in
    let usage : c.from-else-usage-eq0-3.result < 2 ^ 44 = omega (arith, c.from-else-usage-eq0-3.ensures, c.at-usage.ensures, usage_low) in
    let any : 0 < c.from-else-usage-eq0-3.result = omega (arith, c.from-else-usage-eq0-3.ensures, c.if-usage-eq0.false) in
    record {
      num = num-small c.from.result c.from-else-usage-eq0.result low (omega (arith, used, used_low));
      den = den-small c.from-else-usage-eq0-2.result c.from-else-usage-eq0-3.result shares_low usage;
      positive = den-positive c.from-else-usage-eq0-2.result c.from-else-usage-eq0-3.result some any;
    }

pub returns-then-node-eq0 : goal.returns-then-node-eq0
returns-then-node-eq0 c =
    sym (level_of-least (sum_at c.args.used.now) (sum_at c.args.shares.now) c.args.nodes.now c.args.place
    (shares_at-node c.args.nodes.now c.args.place c.requires.place ∙ c.if-node-eq0.true))

pub returns-then-usage-eq0 : goal.returns-then-usage-eq0
returns-then-usage-eq0 c =
    sym (level_of-top (sum_at c.args.used.now) (sum_at c.args.shares.now) c.args.nodes.now c.args.place
    (λ none. c.if-node-eq0.false (sym (shares_at-node c.args.nodes.now c.args.place c.requires.place) ∙ none))
    (sym c.at-usage.ensures ∙ c.if-usage-eq0.true))

pub returns-else-usage-eq0 : goal.returns-else-usage-eq0
returns-else-usage-eq0 c =
    let parent = parent_at-node c.args.nodes.now c.args.place c.requires.place in
    let own = shares_at-node c.args.nodes.now c.args.place c.requires.place in
    let is = level_of-fraction (sum_at c.args.used.now) (sum_at c.args.shares.now) c.args.nodes.now c.args.place
    (λ none. c.if-node-eq0.false (sym own ∙ none)) (λ none. c.if-usage-eq0.false (c.at-usage.ensures ∙ none)) in
    sym (is ∙ rw (own, parent, sym c.at.ensures, sym c.at-else-usage-eq0.ensures, sym c.at-usage.ensures, sym c.from.ensures, sym c.from-else-usage-eq0.ensures, sym c.from-else-usage-eq0-2.ensures, sym c.from-else-usage-eq0-3.ensures) refl)
