-- Between two marked blocks no job holds something of the node.
use Rattle.std.proofs.Common.{◌≡◌, ◌<◌, arith, inl, inr}
use Rattle.std.proofs.lemmas.Bool.{cases_lt}
use Rattle.job_table.proofs.Marks.{none-on}
use Rattle.job_table.proofs.on_node.next_on.Goals as goal

pub loop-marked-smaller : goal.loop-marked-smaller
loop-marked-smaller c =
    let there = rw c.in-Some.is at c.next_marked.ensures.there in
    omega (arith, there.0, there.1, c.min-end.ensures)

pub loop-marked-preserved : goal.loop-marked-preserved
loop-marked-preserved c =
    let held = c.loop-marked.invariant in
    let there = rw c.in-Some.is at c.next_marked.ensures.there in
    let gap = rw c.in-Some.is at (none-on c.args.blocks.now c.args.jobs.now c.args.node c.loop-marked.place c.next_marked.result c.requires.marked c.next_marked.ensures.there c.next_marked.ensures.before) in
    let rest = rw c.in_default-first_on.is at c.first_on.ensures.before in
    record {
      from = omega (arith, held.from, there.0, c.min-end.ensures);
      none = λ k d low below. elim (cases_lt k c.loop-marked.place) [
        | inl passed ↦ held.none k d low passed
        | inr left ↦ elim (cases_lt k c.in-Some.marked) [
          | inl unmarked ↦ gap k d (omega (arith, left)) unmarked
          | inr marked ↦ rest k d (omega (arith, marked)) below
        ]
      ];
    }

pub returns-in-Some-first_on-clause-there : goal.returns-in-Some-first_on-clause-there
returns-in-Some-first_on-clause-there c =
    let held = c.loop-marked.invariant in
    let there = rw c.in-Some.is at c.next_marked.ensures.there in
    let found = rw c.in-Some-first_on.is at c.first_on.ensures.there in
    (omega (arith, held.from, there.0, found.0), omega (arith, found.1, c.min-end.ensures))

pub returns-in-Some-first_on-clause-before : goal.returns-in-Some-first_on-clause-before
returns-in-Some-first_on-clause-before c =
    let held = c.loop-marked.invariant in
    let gap = rw c.in-Some.is at (none-on c.args.blocks.now c.args.jobs.now c.args.node c.loop-marked.place c.next_marked.result c.requires.marked c.next_marked.ensures.there c.next_marked.ensures.before) in
    let rest = rw c.in-Some-first_on.is at c.first_on.ensures.before in
    λ k d low below. elim (cases_lt k c.loop-marked.place) [
      | inl passed ↦ held.none k d low passed
      | inr left ↦ elim (cases_lt k c.in-Some.marked) [
        | inl unmarked ↦ gap k d (omega (arith, left)) unmarked
        | inr marked ↦ rest k d (omega (arith, marked)) below
      ]
    ]

pub returns-clause-before : goal.returns-clause-before
returns-clause-before c =
    let held = c.loop-marked.invariant in
    let gap = rw c.in_default.is at (none-on c.args.blocks.now c.args.jobs.now c.args.node c.loop-marked.place c.next_marked.result c.requires.marked c.next_marked.ensures.there c.next_marked.ensures.before) in
    λ k d low below. elim (cases_lt k c.loop-marked.place) [
      | inl passed ↦ held.none k d low passed
      | inr left ↦ gap k d (omega (arith, left)) below
    ]
