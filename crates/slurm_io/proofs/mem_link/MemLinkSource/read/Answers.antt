use Rattle.std.proofs.Common.{◌≡◌, ◌+◌, ◌≤◌, ◌∙◌, take, drop, ap, sym, arith}
use Rattle.std.proofs.lemmas.List.{take-take, drop-drop, drop_all}
use Rattle.slurm_io.proofs.Fronts.{front_and_rest}
use Rattle.slurm_io.proofs.mem_link.MemLinkSource.read.Goals as goal

pub returns-clause-bytes : goal.returns-clause-bytes
returns-clause-bytes c =
    let link = c.self.inside in
    let left = drop link.place link.bytes.items in
    let n = c.copy_front-count.result in
    let same : c.args.self.now.left ≡ left = ap (λ s. s.left) (sym c.self.view_is) in
    let moved : drop n left ≡ drop (link.place + n) link.bytes.items = drop-drop n link.place link.bytes.items in
    let within : n ≤ c.min.result = omega arith in
    let offered : c.split_at-2.result.0.now ≡ take c.min.result left = cc in
    let read : take n c.copy_front-count.new.into ≡ take n left =
    c.copy_front-count.ensures.front ∙ ap (take n) offered ∙ take-take n c.min.result left within in (
      rw (same, ← moved) (front_and_rest left c.copy_front-count.new.into n read),
      λ zero room. drop_all _ link.bytes.items (omega arith),
    )
