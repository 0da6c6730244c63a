use Rattle.std.proofs.Common.{◌∙◌, filter, sym, ap}
use Rattle.std.specs.Prelude.{option_copied}
use Rattle.std.proofs.lemmas.Result.{IfOk-weaker}
use Rattle.ctl_state.specs.Planning.{is_kept_by, node_order, places_for}
use Rattle.ctl_jobs.proofs.placeable.places_for.Goals as goal
use Rattle.list_lemmas.proofs.Filters.{filter-all as filter_all, filter-nothing as filter_none}

pub returns-in_default : goal.returns-in_default
unfolding places_for
returns-in_default c =
    let order = node_order c.args.cluster.now.nodes.records c.args.partition.now in
    rw c.in_default.is (rw c.records.ensures.value at c.in_ok-order.ensures ∙ sym (filter_all order))

pub returns : goal.returns
unfolding places_for
returns c =
    let order = node_order c.args.cluster.now.nodes.records c.args.partition.now in
    let nobody = sym c.find.ensures ∙ ap option_copied c.in-None.is in
    IfOk-weaker c.from_vec.result _ _
    (λ places same. rw c.in-Some.is
    (same ∙ c.new.ensures.items ∙ sym (ap (λ some. filter (is_kept_by some) order) nobody ∙ filter_none order)))
    c.from_vec.ensures
