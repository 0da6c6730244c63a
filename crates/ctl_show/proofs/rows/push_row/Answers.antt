use Rattle.std.proofs.Common.{ap, refl, ◌∙◌, ◌++◌, ◌∷◌, []}
use Rattle.reply_data.specs.declared.view.Row.TheVariants.{Job}
use Rattle.reply_data.specs.declared.priority.PriorityParts.{PriorityParts}
use Rattle.ctl_state.specs.State.{state_of}
use Rattle.ctl_waiting.specs.Rank.{priority_of}
use Rattle.ctl_show.proofs.RowOf.{row-found}
use Rattle.ctl_show.proofs.rows.push_row.Goals as goal

pub returns : goal.returns
returns c =
    let s = state_of c.args.cluster.now in
    let job = c.args.job.now in
    let moment = c.requires.outlook.moment in
    c.in_ok-push.ensures.items ∙ ap (λ row. c.args.rows.now.items ++ Job row ∷ [])
    (row-found s c.args.moment job _ _ _ _ _ _ _ _ _ _ _ _ _ _ _ _ _ _ _ _
    c.terms-terms.ensures c.in_ok-copy.ensures c.in_ok-copy-2.ensures c.in_ok-copy-3.ensures
    c.in_ok-partition_name.ensures c.in_ok-copy-4.ensures
    c.elapsed_of.ensures c.nodes_of.ensures c.in_ok-node_names.ensures
    c.reason_shown.ensures
    (c.start_shown.ensures c.args.moment c.requires.outlook)
    (ap (λ (parts : PriorityParts). parts.sum) c.priority_of.ensures ∙ ap (λ now. priority_of s now job) moment)
    c.cpus_of.ensures c.get.ensures.value c.in_ok-copy-5.ensures c.saturating_sub.ensures
    c.new.ensures c.new-2.ensures c.end_shown.ensures
    (c.in_ok-named_parts.ensures ∙ rw (c.records.ensures.value, c.as_slice.ensures) refl))
