use Rattle.std.proofs.Common.{option_copied, ◌∙◌}
use Rattle.slurm_client.specs.Requests.{request}
use Rattle.slurm_client.proofs.Calls.{completes}
use Rattle.slurm_client.proofs.client.client_run.Goals as goal

pub returns-clause-complete : goal.returns-clause-complete
returns-clause-complete g c =
    let block = request c.args.user.now c.args.words.now (option_copied c.args.script) in
    let made = c.in-Ok.ensures in
    let call = c.exchange.ensures.called block made.block (c.as_slice.ensures.value ∙ made.frame) in
    completes block (g.L.Link.wire c.args.link.now) (g.L.Link.wire c.exchange.new.link) _ _ c.exchange.result
    c.replies_say_their_end.ensures.end c.replies_are_one.ensures call
