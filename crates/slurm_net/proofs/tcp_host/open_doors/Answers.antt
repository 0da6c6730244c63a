use Rattle.std.proofs.Common.{◌≡◌, ◌∷◌, [], ◌++◌, ◌+◌, ◌∙◌, None, ap, arith}
use Rattle.std.proofs.lemmas.List.Elements.{All-push}
use Rattle.slurm_net.specs.Host.{IsNewDoor}
use Rattle.slurm_net.specs.Untold.{untold_out}
use Rattle.slurm_net.proofs.tcp_host.open_doors.Goals as goal

pub loop-preserved : goal.loop-preserved
loop-preserved g c =
    let so_far = c.loop.invariant in
    let items_are : c.push.new.self.items ≡ c.loop.doors.items ++ c.in_ok-door.door ∷ [] = rw c.unwrap.ensures at c.push.ensures.items in
    record {
      len = (rw c.unwrap.ensures at c.push.ensures.len) ∙ ap (λ count. count + 1) so_far.len;
      room = omega (arith, so_far.room, c.push.ensures.capacity);
      new = rw items_are (All-push (λ door. IsNewDoor door.faults (untold_out door.is_out) None) c.loop.doors.items c.in_ok-door.door so_far.new c.in_ok-door.ensures.new);
    }
