use Rattle.std.proofs.Common.{◌<◌, length, map, refl, sym, ap, ◌∙◌, append_assoc}
use Rattle.std.proofs.lemmas.List.{map_push, append-nil}
use Rattle.run_limits.specs.Paths.{seen, sum_at}
use Rattle.run_limits.proofs.Nodes.{parent_at-node}
use Rattle.run_limits.proofs.PathLemmas.{path_of-none, path_of-step}
use Rattle.run_limits.proofs.paths.+push_path.Goals as goal

pub returns-in_ok-push : goal.returns-in_ok-push
returns-in_ok-push t c =
    let low : c.in-Some.place < length c.args.nodes.now = rw c.in-Some.is at c.requires.place in
    let step = rw (parent_at-node c.args.nodes.now c.in-Some.place low) at (path_of-step (sum_at c.args.used.now) (sum_at c.args.shares.now) c.args.nodes.now c.requires.sums.tree c.in-Some.place low) in
    let pushed = ap (map seen) c.in_ok-push.ensures.items ∙ map_push seen _ c.level.result in
    rw (c.in-Some.is, step) (pushed ∙ rw (c.in_ok-push_path.ensures, c.level.ensures, append_assoc) refl)

pub returns-in_default : goal.returns-in_default
returns-in_default t c =
    let none = path_of-none (sum_at c.args.used.now) (sum_at c.args.shares.now) c.args.nodes.now in
    rw (c.in_default.is, none) (sym (append-nil _))
