use Rattle.std.proofs.Common.{◌∙◌, arith}
use Rattle.std.proofs.lemmas.List.{length-take}
use Rattle.slurm_io.proofs.Reading.{IsFrontIn-more}
use Rattle.slurm_io.proofs.shelf.read_file.Goals as goal

pub loop-piece-preserved : goal.loop-piece-preserved
loop-piece-preserved g c =
    let told = g.Q.Shelf.files c.args.shelf.now in
    let more = c.in_ok-count.ensures in
    let held = c.loop-piece.invariant in
    record {
      small = omega (arith, length-take c.room_for-room.result c.loop-piece.piece);
      front = rw more.added (IsFrontIn-more told c.args.name.now c.loop-piece.bytes.items c.read_more.new.piece c.in_ok-count.count more.bound held.front (rw held.kept at more.read));
      uncounted = more.faults ∙ held.uncounted;
      kept = more.kept ∙ held.kept;
    }
