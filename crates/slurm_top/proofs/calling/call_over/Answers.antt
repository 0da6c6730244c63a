use Rattle.std.proofs.Common.{◌∙◌}
use Rattle.slurm_top.specs.Outside.{Beside, beside}
use Rattle.slurm_top.proofs.Carrying.{told_eq, side_eq, input_kept, is_over}
use Rattle.slurm_top.proofs.calling.call_over.Goals as goal

pub returns : goal.returns
returns g c =
    let own = c.args.own.now in
    let own' = c.client_run-called.new.output in
    let host = c.args.host.now in
    let host' = c.hang_up.new.self in
    let tells = g.met.L.Link.wire_tells own in
    let tells' = g.met.L.Link.wire_tells own' in
    let before : Beside = beside (g.E.Sink.taken c.args.errors.now) (g.E.Sink.write_faults c.args.errors.now)
    (g.H.Host.hosting host) in
    let after : Beside = beside (g.E.Sink.taken c.client_run-called.new.errors) (g.E.Sink.write_faults c.client_run-called.new.errors)
    (g.H.Host.hosting host') in
    is_over _ (g.L.Link.wire own) (g.L.Link.wire own') before after c.client_run-called.result _ _ _ _ _ _
    c.in-Ok.ensures.new c.in-Ok.ensures.left
    (told_eq (g.L.Link.wire own) before _ _ _ _ tells) (told_eq (g.L.Link.wire own') after _ _ _ _ tells')
    c.client_run-called.ensures.called c.client_run-called.ensures.complete
    c.hang_up.ensures.taken c.in-Ok.ensures.counts.0 c.in-Ok.ensures.counts.1 c.hang_up.ensures.reads c.hang_up.ensures.writes
    (c.hang_up.ensures.faults ∙ c.in-Ok.ensures.faults)
    (input_kept (g.L.Link.wire own) (g.L.Link.wire own') _ _
    (side_eq (g.L.Link.wire own) _ (g.L.Source.left own) (g.L.Sink.taken own) (g.L.Source.read_faults own) (g.L.Sink.write_faults own) tells (g.met.L.Link.writes_keep own))
    (side_eq (g.L.Link.wire own') _ (g.L.Source.left own') (g.L.Sink.taken own') (g.L.Source.read_faults own') (g.L.Sink.write_faults own') tells' (g.met.L.Link.writes_keep own'))
    c.client_run-called.ensures.kept)
