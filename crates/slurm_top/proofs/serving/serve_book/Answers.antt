use Rattle.std.proofs.Common.{refl}
use Rattle.ctl_server.specs.Line.{serving_line}
use Rattle.slurm_top.proofs.Sides.{Side, at_most, began, wrote}
use Rattle.slurm_top.proofs.serving.serve_book.Goals as goal

pub returns-in-Shut-clause-served : goal.returns-in-Shut-clause-served
returns-in-Shut-clause-served g c =
    let side : Side (g.L.Link.wire c.args.link.now) (g.L.Source.left c.args.link.now) (g.L.Sink.taken c.args.link.now)
    (g.L.Source.read_faults c.args.link.now) (g.L.Sink.write_faults c.args.link.now)
    (g.L.Sink.kept_by_writes c.args.link.now) =
    record { tells = g.met.L.Link.wire_tells c.args.link.now; keeps = g.met.L.Link.writes_keep c.args.link.now } in
    let side' : Side (g.L.Link.wire c.serve.new.output) (g.L.Source.left c.serve.new.output)
    (g.L.Sink.taken c.serve.new.output) (g.L.Source.read_faults c.serve.new.output)
    (g.L.Sink.write_faults c.serve.new.output) (g.L.Sink.kept_by_writes c.serve.new.output) =
    record { tells = g.met.L.Link.wire_tells c.serve.new.output; keeps = g.met.L.Link.writes_keep c.serve.new.output } in
    let shut = c.in-Shut.ensures in (
      record {
        opens = shut.opening;
        history = c.len.ensures.history;
        shut = shut.shut;
        lists = shut.doors;
        served = shut.served;
      },
      wrote (g.L.Link.wire c.args.link.now) (g.L.Link.wire c.serve.new.output) _ _ _ _ _ _ _ _ _ _ side side' shut.beside (serving_line c.args.words.now.port) shut.written,
      shut.unfailed,
    )

pub returns-in-DoorFault-clause-served : goal.returns-in-DoorFault-clause-served
returns-in-DoorFault-clause-served g c =
    let side : Side (g.L.Link.wire c.args.link.now) (g.L.Source.left c.args.link.now) (g.L.Sink.taken c.args.link.now)
    (g.L.Source.read_faults c.args.link.now) (g.L.Sink.write_faults c.args.link.now)
    (g.L.Sink.kept_by_writes c.args.link.now) =
    record { tells = g.met.L.Link.wire_tells c.args.link.now; keeps = g.met.L.Link.writes_keep c.args.link.now } in
    let side' : Side (g.L.Link.wire c.serve.new.output) (g.L.Source.left c.serve.new.output)
    (g.L.Sink.taken c.serve.new.output) (g.L.Source.read_faults c.serve.new.output)
    (g.L.Sink.write_faults c.serve.new.output) (g.L.Sink.kept_by_writes c.serve.new.output) =
    record { tells = g.met.L.Link.wire_tells c.serve.new.output; keeps = g.met.L.Link.writes_keep c.serve.new.output } in
    let ended = c.in-DoorFault.ensures in
    (ended.door_fault refl, at_most (g.L.Link.wire c.args.link.now) (g.L.Link.wire c.serve.new.output) _ _ _ _ _ _ _ _ _ _ side side' ended.beside c.args.words.now.port ended.written)

pub returns-in-WriteFault-clause-served : goal.returns-in-WriteFault-clause-served
returns-in-WriteFault-clause-served g c =
    let side : Side (g.L.Link.wire c.args.link.now) (g.L.Source.left c.args.link.now) (g.L.Sink.taken c.args.link.now)
    (g.L.Source.read_faults c.args.link.now) (g.L.Sink.write_faults c.args.link.now)
    (g.L.Sink.kept_by_writes c.args.link.now) =
    record { tells = g.met.L.Link.wire_tells c.args.link.now; keeps = g.met.L.Link.writes_keep c.args.link.now } in
    let side' : Side (g.L.Link.wire c.serve.new.output) (g.L.Source.left c.serve.new.output)
    (g.L.Sink.taken c.serve.new.output) (g.L.Source.read_faults c.serve.new.output)
    (g.L.Sink.write_faults c.serve.new.output) (g.L.Sink.kept_by_writes c.serve.new.output) =
    record { tells = g.met.L.Link.wire_tells c.serve.new.output; keeps = g.met.L.Link.writes_keep c.serve.new.output } in
    let ended = c.in-WriteFault.ensures in
    began (g.L.Link.wire c.args.link.now) (g.L.Link.wire c.serve.new.output) _ _ _ _ _ _ _ _ _ _ side side' ended.beside (serving_line c.args.words.now.port) ended.written

pub returns-in-Memory-clause-served : goal.returns-in-Memory-clause-served
returns-in-Memory-clause-served g c =
    let side : Side (g.L.Link.wire c.args.link.now) (g.L.Source.left c.args.link.now) (g.L.Sink.taken c.args.link.now)
    (g.L.Source.read_faults c.args.link.now) (g.L.Sink.write_faults c.args.link.now)
    (g.L.Sink.kept_by_writes c.args.link.now) =
    record { tells = g.met.L.Link.wire_tells c.args.link.now; keeps = g.met.L.Link.writes_keep c.args.link.now } in
    let side' : Side (g.L.Link.wire c.serve.new.output) (g.L.Source.left c.serve.new.output)
    (g.L.Sink.taken c.serve.new.output) (g.L.Source.read_faults c.serve.new.output)
    (g.L.Sink.write_faults c.serve.new.output) (g.L.Sink.kept_by_writes c.serve.new.output) =
    record { tells = g.met.L.Link.wire_tells c.serve.new.output; keeps = g.met.L.Link.writes_keep c.serve.new.output } in
    let ended = c.in-Memory.ensures in
    at_most (g.L.Link.wire c.args.link.now) (g.L.Link.wire c.serve.new.output) _ _ _ _ _ _ _ _ _ _ side side' ended.beside c.args.words.now.port ended.written
