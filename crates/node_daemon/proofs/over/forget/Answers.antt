-- What is retained is what isn't to be forgotten.
use Rattle.std.proofs.Common.{Bool, not, rules, tests}
use Rattle.std.proofs.lemmas.Fn.{filter_same}
use Rattle.request_data.specs.declared.report.Done.{Done}
use Rattle.node_daemon.specs.Daemon.{is_among}
use Rattle.node_daemon.proofs.over.forget.Goals as goal

pub returns : goal.returns
returns c =
    let stays : Done → Bool = λ done. not (is_among c.args.forgets.now done.start) in
    filter_same _ stays _ (λ x b f' k. search (rules, tests)) _ _ c.retain.ensures.filtered
