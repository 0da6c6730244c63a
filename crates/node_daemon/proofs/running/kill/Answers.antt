-- What is retained is what isn't to be killed.
use Rattle.std.proofs.Common.{Bool, not, rules, tests}
use Rattle.std.proofs.lemmas.Fn.{filter_same}
use Rattle.node_daemon.specs.declared.running.Running.{Running}
use Rattle.node_daemon.specs.Daemon.{is_among}
use Rattle.node_daemon.proofs.running.kill.Goals as goal

pub returns-clause-left : goal.returns-clause-left
returns-clause-left c =
    let stays : Running → Bool = λ one. not (is_among c.args.kills.now one.start) in
    filter_same _ stays _ (λ x b f' k. search (rules, tests)) _ _ c.retain.ensures.filtered
