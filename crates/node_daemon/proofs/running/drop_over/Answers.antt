-- What is retained is what isn't over.
use Rattle.std.proofs.Common.{Bool, not, rules, tests}
use Rattle.std.proofs.lemmas.Fn.{filter_same}
use Rattle.node_daemon.specs.declared.running.Running.{Running}
use Rattle.node_daemon.specs.Daemon.{is_over}
use Rattle.node_daemon.proofs.running.drop_over.Goals as goal

pub returns : goal.returns
returns c =
    let stays : Running → Bool = λ one. not (is_over c.args.now one) in
    filter_same _ stays _ (λ x b f' k. search (rules, tests)) _ _ c.retain.ensures.filtered
