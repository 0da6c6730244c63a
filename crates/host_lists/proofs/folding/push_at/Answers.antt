use Rattle.std.proofs.Common.{arith, map}
use Rattle.std.proofs.lemmas.List.{map-append}
use Rattle.host_lists.proofs.FoldingLemmas.{map-set-push}
use Rattle.host_lists.proofs.folding.push_at.Goals as goal

pub returns : goal.returns
returns c =
    map-set-push (λ group. map (λ n. n.now) group.items) c.args.groups.now.items c.args.place c.index_mut.result.now c.push.new.self c.args.name.now (omega arith) (rw (c.in_ok-push.ensures.items, ← c.index_mut.ensures.value) (map-append (λ n. n.now) _ _))
