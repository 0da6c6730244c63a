use Rattle.std.proofs.Common.{◌∙◌, filter, sym, ap}
use Rattle.std.specs.Prelude.{option_copied}
use Rattle.std.proofs.lemmas.Result.{IfOk-weaker}
use Rattle.ctl_state.specs.Planning.{is_kept_by, node_order, places_for}
use Rattle.ctl_waiting.proofs.ranking.places_for.Goals as goal
use Rattle.list_lemmas.proofs.Filters.{filter-all, filter-nothing as filter-none}

pub returns-in_default : goal.returns-in_default
unfolding places_for
returns-in_default c =
    let order = node_order c.args.cluster.now.nodes.records c.args.partition.now in
    IfOk-weaker c.share.result _ _ (λ places same. rw c.in_default.is (same ∙ c.requires ∙ sym (filter-all order)))
    c.share.ensures

pub returns-in-None : goal.returns-in-None
unfolding places_for
returns-in-None c =
    let order = node_order c.args.cluster.now.nodes.records c.args.partition.now in
    let nobody = sym c.lasting_named.ensures ∙ ap option_copied c.in-None.is in
    IfOk-weaker c.from_vec.result _ _
    (λ places same. rw c.in-Some.is
    (same ∙ c.new.ensures.items ∙ sym (ap (λ some. filter (is_kept_by some) order) nobody ∙ filter-none order)))
    c.from_vec.ensures
