use Rattle.slurm_io.proofs.Telling.{tells_text}
use Rattle.slurm_io.proofs.sink.tell.Goals as goal

pub returns : goal.returns
returns g c =
    let written = c.write_all.ensures in
    tells_text c.write_all.result _ _ _ _ _ written.written written.cut written.faults
