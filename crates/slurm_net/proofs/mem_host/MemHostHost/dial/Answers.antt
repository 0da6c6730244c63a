use Rattle.std.proofs.lemmas.List.Elements.{All-drop}
use Rattle.slurm_net.specs.Unused.{IsUnused}
use Rattle.slurm_net.proofs.mem_host.MemHostHost.dial.Goals as goal

pub invariant_of-self : goal.invariant_of-self
invariant_of-self c =
    let (doors, links) = c.self.invariant in
    (doors, rw c.pop_front.ensures.rest (All-drop IsUnused 1 c.self.inside.links.items links))
