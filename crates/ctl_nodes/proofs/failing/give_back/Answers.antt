use Rattle.std.proofs.Common.{◌≡◌, ◌≤◌, ◌∙◌, true, All, refl, subst, sym}
use Rattle.plain_data.specs.Rows.{has_id}
use Rattle.node_state.specs.Held.{held_mem, holds_cpu}
use Rattle.job_table.specs.declared.record.Part.{Part}
use Rattle.ctl_nodes.proofs.GivenBack.{gives_lost, gives_others, none_given, still_cpus, still_mem}
use Rattle.ctl_nodes.proofs.failing.give_back.Goals as goal
use Rattle.ctl_nodes.proofs.failing.give_back.Goals.{then-contains, else-contains}

pub loop-part-init : goal.loop-part-init
loop-part-init c = record { records = refl; given = none_given c.args.nodes.now.held }

pub give_back-requires-clause-cpus : goal.give_back-requires-clause-cpus
give_back-requires-clause-cpus c =
    let part = c.part-item.result in
    let Holds : Part → Type 0 = λ part. All (λ cpu. holds_cpu c.args.nodes.now.held part.node cpu ≡ true) part.cpus
    × part.mem ≤ held_mem c.args.nodes.now.held part.node in
    still_cpus c.args.nodes.now.held c.loop-part.nodes.held (has_id c.args.lost.now) c.args.parts.now
    c.loop-part.part-index part c.requires.apart c.loop-part-test.true c.part-item.is c.loop-part.invariant.given
    (subst Holds (sym c.part-item.is) (c.requires.held c.loop-part.part-index part c.loop-part-test.true)).0

pub give_back-requires-clause-mem : goal.give_back-requires-clause-mem
give_back-requires-clause-mem c =
    let part = c.part-item.result in
    let Holds : Part → Type 0 = λ part. All (λ cpu. holds_cpu c.args.nodes.now.held part.node cpu ≡ true) part.cpus
    × part.mem ≤ held_mem c.args.nodes.now.held part.node in
    still_mem c.args.nodes.now.held c.loop-part.nodes.held (has_id c.args.lost.now) c.args.parts.now
    c.loop-part.part-index part c.requires.apart c.loop-part-test.true c.part-item.is c.loop-part.invariant.given
    (subst Holds (sym c.part-item.is) (c.requires.held c.loop-part.part-index part c.loop-part-test.true)).1

pub loop-part-preserved : goal.loop-part-preserved
loop-part-preserved c =
    let held = c.loop-part.invariant in
    let lost = has_id c.args.lost.now in
    let before = c.args.nodes.now.held in
    elim c.if-contains.branch [
      | then-contains w ↦ record {
        records = rw w.nodes-is (w.give_back.ensures.records ∙ held.records);
        given = rw w.nodes-is
            (gives_lost before c.loop-part.nodes.held w.give_back.new.self.held lost c.args.parts.now
            c.loop-part.part-index c.part-item.result c.loop-part-test.true c.part-item.is
            (sym c.contains.ensures ∙ w.if-contains.true) held.given w.give_back.ensures.held);
      }
      | else-contains w ↦ record {
        records = rw w.nodes-is held.records;
        given = rw w.nodes-is
            (gives_others before c.loop-part.nodes.held lost c.args.parts.now c.loop-part.part-index
            c.part-item.result c.loop-part-test.true c.part-item.is
            (sym c.contains.ensures ∙ w.if-contains.false) held.given);
      }
    ]
