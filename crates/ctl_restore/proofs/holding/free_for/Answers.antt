use Rattle.std.proofs.Common.{◌≡◌, ◌+◌, ◌≤◌, take, refl, sym, ap, arith}
use Rattle.std.specs.Prelude.{Some, slice_get}
use Rattle.std.proofs.lemmas.Bool.{both_ways}
use Rattle.std.proofs.lemmas.Option.{get_or_from_slice_get}
use Rattle.node_state.specs.declared.record.Held.{Held}
use Rattle.node_state.specs.Held.{IsWithin, free_cpus, held_at, held_mem}
use Rattle.ctl_restore.proofs.Held.{fits-free, free-fits, free-here}
use Rattle.ctl_restore.proofs.holding.free_for.Goals.{else-are_among-via-else-are_among, else-are_among-via-then-are_among+else-part-get}
use Rattle.ctl_restore.proofs.holding.free_for.Goals as goal

pub returns-then-part-get-clause-some : goal.returns-then-part-get-clause-some
returns-then-part-get-clause-some c =
    let records = c.args.nodes.now.records in
    let held = c.args.nodes.now.held in
    let part = c.args.part.now in
    let node = c.in_ok-node.node.now in
    let there : slice_get records part.node ≡ Some node = sym c.in_ok-node.ensures in
    let lowest : c.lowest_others-free.result ≡ take node.conf.cpus (free_cpus node (held_at held part.node)) =
    rw (c.get-most.ensures.value, c.held-held.ensures.value) at c.lowest_others-free.ensures.lowest in
    let within : IsWithin node c.held-held.result.now =
    rw (get_or_from_slice_get records part.node node node there) at (c.held-held.ensures.within node) in
    let room : held_mem held part.node + part.mem ≤ node.conf.mem =
    omega (
      arith,
      c.if-part-get.true,
      c.get.ensures.value,
      within.mem,
      ap (λ (held : Held). held.mem) c.held-held.ensures.value,
    ) in (
      λ yes. fits-free records held part node c.lowest_others-free.result there lowest c.tell_rising.ensures.rising
          (c.are_among.ensures.0 c.if-are_among.true) room,
      λ free. refl,
    )

pub returns-then-part-get-clause-free : goal.returns-then-part-get-clause-free
returns-then-part-get-clause-free c =
    let records = c.args.nodes.now.records in
    let held = c.args.nodes.now.held in
    let part = c.args.part.now in
    let node = c.in_ok-node.node.now in
    let there : slice_get records part.node ≡ Some node = sym c.in_ok-node.ensures in
    let lowest : c.lowest_others-free.result ≡ take node.conf.cpus (free_cpus node (held_at held part.node)) =
    rw (c.get-most.ensures.value, c.held-held.ensures.value) at c.lowest_others-free.ensures.lowest in
    free-here records held part.node node c.lowest_others-free.result there lowest

pub returns-else-are_among-clause-some : goal.returns-else-are_among-clause-some
returns-else-are_among-clause-some c =
    let records = c.args.nodes.now.records in
    let held = c.args.nodes.now.held in
    let part = c.args.part.now in
    let node = c.in_ok-node.node.now in
    let there : slice_get records part.node ≡ Some node = sym c.in_ok-node.ensures in
    let lowest : c.lowest_others-free.result ≡ take node.conf.cpus (free_cpus node (held_at held part.node)) =
    rw (c.get-most.ensures.value, c.held-held.ensures.value) at c.lowest_others-free.ensures.lowest in
    let fits = free-fits records held part node c.lowest_others-free.result there lowest in (
      λ yes. absurd (let never = yes in cc),
      λ free. elim c.else-are_among.branch [
        | else-are_among-via-then-are_among+else-part-get w ↦
            absurd (omega (
              arith,
              (fits free).1,
              w.if-part-get.false,
              w.get.ensures.value,
              ap (λ (held : Held). held.mem) c.held-held.ensures.value,
            ))
        | else-are_among-via-else-are_among w ↦
            absurd (both_ways c.are_among.result w.if-are_among.false (c.are_among.ensures.1 (fits free).0))
      ],
    )
