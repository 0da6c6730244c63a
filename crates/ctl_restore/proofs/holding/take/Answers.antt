use Rattle.std.proofs.Common.{◌≡◌, ℕ, true, not, ◌&&◌, length, refl, ap, ◌∙◌}
use Rattle.plain_data.specs.Rows.{has_id}
use Rattle.ctl_restore.proofs.Held.{among, free-unheld, taken-all, takes-just}
use Rattle.ctl_restore.proofs.holding.take.Goals as goal

pub returns-clause-held : goal.returns-clause-held
returns-clause-held c =
    let nodes = c.args.nodes.now in
    let part = c.args.part.now in
    let free = c.args.free.now in
    let taken = c.take_cpus-taken.result in
    let all : taken ≡ free =
    taken-all nodes.records nodes.held part.node (length free) taken free c.requires.there
    (λ d. rw c.len.ensures.value at (c.take_cpus-taken.ensures.lowest d)) c.requires.free refl in
    let rest = c.remove_all.new.self in
    let left : (cpu : ℕ) → has_id rest cpu ≡ (has_id free cpu && not (has_id part.cpus cpu)) =
    λ cpu. c.remove_all.ensures cpu
    ∙ ap (λ row. has_id row cpu && not (has_id part.cpus cpu)) (c.copy-rest.ensures ∙ all) in
    takes-just nodes.held c.take_cpus-taken.new.self.held c.give_back.new.self.held part.node part.mem free rest part.cpus
    (rw all at c.take_cpus-taken.ensures.held) c.give_back.ensures.held left
    (λ cpu has. among (λ id. has_id free id ≡ true) part.cpus cpu c.requires.cpus has)
    (λ cpu has. free-unheld nodes.records nodes.held part.node free c.requires.there c.requires.free cpu has)
