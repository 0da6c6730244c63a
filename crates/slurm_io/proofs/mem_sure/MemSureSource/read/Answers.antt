use Rattle.std.proofs.Common.{◌≡◌, ◌+◌, take, drop, sym, ap, ◌∙◌, arith}
use Rattle.std.proofs.lemmas.List.{drop-drop, drop_all}
use Rattle.slurm_io.proofs.Fronts.{front_and_rest}
use Rattle.slurm_io.proofs.mem_sure.MemSureSource.read.Goals as goal

pub returns-clause-bytes : goal.returns-clause-bytes
returns-clause-bytes c =
    let link = c.self.inside in
    let n = c.copy_front-count.result in
    let moved : drop n (drop link.place link.bytes.items) ≡ drop (link.place + n) link.bytes.items = drop-drop n link.place link.bytes.items in
    let left : c.split_at.result.1.now ≡ c.args.self.now = cc in
    let read : take n c.copy_front-count.new.into ≡ take n c.args.self.now = c.copy_front-count.ensures.front ∙ ap (take n) left in
    let rest : drop n c.args.self.now ≡ drop (link.place + n) link.bytes.items = ap (drop n) (sym c.self.view_is) ∙ moved in (
      rw (← rest) (front_and_rest c.args.self.now c.copy_front-count.new.into n read),
      λ zero room. drop_all _ link.bytes.items (omega arith),
    )
