use Rattle.std.proofs.Common.{◌≡◌, ◌++◌, ◌∷◌, [], map, refl, All, length, arith, length-append}
use Rattle.std.proofs.lemmas.List.{map-append}
use Rattle.std.proofs.lemmas.List.Elements.{All-drop}
use Rattle.std.specs.Vec.Iter.{into_iter_items}
use Rattle.std.specs.VecDeque.{deque_len}
use Rattle.slurm_net.specs.MemDoor.{told_coming, ComesUnused}
use Rattle.slurm_net.proofs.mem_door.with_bytes.Goals as goal

pub loop-link-preserved : goal.loop-link-preserved
loop-link-preserved c =
    let (_, _, told, len, unused) = c.loop-link.invariant in
    let first = c.in-Some.ensures.steps.0 in
    let kept : map told_coming c.push_back.new.self.items ≡ c.loop-link.yielded ++ c.in-Some.link ∷ [] =
    rw (c.in_ok-push_back.ensures.items, map-append, told, c.in_ok-with_its_bytes.ensures) refl in
    let longer : deque_len c.push_back.new.self ≡ length (c.loop-link.yielded ++ c.in-Some.link ∷ []) =
    omega (arith, c.in_ok-push_back.ensures.len, len, length-append c.loop-link.yielded (c.in-Some.link ∷ [])) in
    let rest : All ComesUnused (into_iter_items c.next.new.self) = All-drop ComesUnused 1 (c.in-Some.link ∷ into_iter_items c.next.new.self) (rw first at unused) in
    (tt, tt, kept, longer, rest)
