use Rattle.std.proofs.Common.{◌≡◌, ◌∙◌, length, ap, sym, arith}
use Rattle.std.proofs.lemmas.List.{length-map}
use Rattle.plain_data.specs.Confs.{ConfView}
use Rattle.plain_data.specs.declared.conf.NodeConf.{NodeConf}
use Rattle.ctl_reconfigure.specs.Names.{conf_names, node_names, same_names}
use Rattle.ctl_reconfigure.proofs.moves.moves_of.Goals as goal

pub made-requires : goal.made-requires
made-requires c =
    let names : c.as_slice-5.result.now ≡ conf_names c.conf.inside.nodes =
    c.as_slice-5.ensures.value ∙ c.in_ok-now.ensures ∙ ap conf_names c.as_slice.ensures in
    omega (
      arith,
      ap length names,
      length-map c.conf.inside.nodes (λ (line : NodeConf). line.name),
      c.conf.invariant.few_nodes,
    )

pub returns-clause-made : goal.returns-clause-made
returns-clause-made c =
    let before : c.as_slice-4.result.now ≡ c.as_slice-2.result.now =
    c.as_slice-4.ensures.value ∙ sym c.as_slice-2.ensures.value in
    let now : c.as_slice-5.result.now ≡ c.as_slice-3.result.now =
    c.as_slice-5.ensures.value ∙ sym c.as_slice-3.ensures.value in
    c.in_ok-moves.ensures c.args.conf.now
    (c.as_slice-4.ensures.value ∙ c.in_ok-before.ensures ∙ ap node_names c.records.ensures.value)
    (c.as_slice-5.ensures.value ∙ c.in_ok-now.ensures
    ∙ ap conf_names (c.as_slice.ensures ∙ ap (λ (conf : ConfView). conf.nodes) c.conf.view_is))
    (ap (λ before. same_names before c.as_slice-5.result.now) before
    ∙ ap (same_names c.as_slice-2.result.now) now
    ∙ sym c.same_names.ensures ∙ c.if-same_names.false)
