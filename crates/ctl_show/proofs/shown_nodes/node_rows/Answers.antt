use Rattle.std.proofs.Common.{◌≡◌, ℕ, take, sym, refl, arith, append-nil}
use Rattle.std.specs.List.{enumerate_from}
use Rattle.std.proofs.lemmas.List.{take_all}
use Rattle.std.proofs.lemmas.List.FromFn.{length-enumerate_from}
use Rattle.reply_data.specs.declared.view.Row.TheVariants as shown
use Rattle.node_state.specs.declared.record.NodeRecord.{NodeRecord}
use Rattle.ctl_state.specs.Holding.{parts_of, mem_in, mem_held}
use Rattle.ctl_state.specs.State.{state_of}
use Rattle.ctl_show.specs.Records.{node_row, node_rows, is_asked_for}
use Rattle.ctl_show.specs.Standing.{cpus_in, cpus_held}
use Rattle.ctl_show.proofs.Bounded.{node-within}
use Rattle.ctl_show.proofs.Gathered.{map-filter-more}
use Rattle.ctl_show.proofs.Stands.{count-here, enumerated-here}
use Rattle.ctl_show.proofs.shown_nodes.node_rows.Goals as goal
use Rattle.ctl_show.proofs.shown_nodes.node_rows.Goals.{then-is_asked_for+in_ok-row+in_ok-push, else-is_asked_for}

pub loop-place-preserved : goal.loop-place-preserved
unfolding cpus_held mem_held
loop-place-preserved c =
    let s = state_of c.args.cluster.now in
    let parts = parts_of s.jobs in
    let place = c.loop-place.place in
    let node = c.index-nodes-place.result in
    let row = λ (one : ℕ × NodeRecord). shown.Node (node_row s one.0 one.1) in
    let asked = λ (one : ℕ × NodeRecord). is_asked_for c.args.asked.now one.1 in
    let same = c.records-nodes.ensures.value in
    let inside = rw same at c.loop-place-test.true in
    let more = rw (← c.is_asked_for.ensures) at
    (map-filter-more row asked (enumerate_from 0 s.nodes) place (place, node)
    (omega (arith, inside, length-enumerate_from 0 s.nodes))
    (enumerated-here s.nodes place node inside (rw same at c.index-nodes-place.is))) in
    elim c.if-is_asked_for.branch [
      | then-is_asked_for+in_ok-row+in_ok-push w ↦
          let few = node-within s place node c.requires inside in
          let cpus = count-here cpus_in parts c.in_ok-cpus.cpus.items place w.index.result.now
          c.in_ok-cpus.ensures.counts (omega (arith, c.in_ok-cpus.ensures.len, inside)) w.index.ensures in
          let mem = count-here mem_in parts c.in_ok-mem.mem.items place w.index-then-is_asked_for.result.now
          c.in_ok-mem.ensures.counts (omega (arith, c.in_ok-mem.ensures.len, inside)) w.index-then-is_asked_for.ensures in
          rw (
            w.rows-is,
            w.in_ok-push.ensures.items,
            c.loop-place.invariant,
            w.in_ok-row.ensures s place (omega (arith, cpus, few.0)) (omega (arith, mem, few.1)),
            more,
            w.if-is_asked_for.true,
          ) refl
      | else-is_asked_for w ↦
          rw (w.rows-is, c.loop-place.invariant, more, w.if-is_asked_for.false) (sym (append-nil _))
    ]

pub returns : goal.returns
unfolding node_rows
returns c =
    let nodes = c.args.cluster.now.nodes.records in
    let done = rw c.records-nodes.ensures.value at c.loop-place-test.false in
    let whole : take c.loop-place.place (enumerate_from 0 nodes) ≡ enumerate_from 0 nodes =
    take_all c.loop-place.place (enumerate_from 0 nodes) (omega (arith, done, length-enumerate_from 0 nodes)) in
    rw whole at c.loop-place.invariant
