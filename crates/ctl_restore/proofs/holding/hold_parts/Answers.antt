use Rattle.std.proofs.Common.{◌∙◌, ◌+◌, ◌++◌, [], ◌∷◌, map, take, drop, true, false}
use Rattle.ctl_state.specs.Planning.{room_of}
use Rattle.ctl_restore.specs.Steps.{Holds}
use Rattle.ctl_restore.proofs.Held.{holds-more, holds-not, holds-same, one-on, split-at}
use Rattle.ctl_restore.proofs.holding.hold_parts.Goals as goal

pub loop-part-preserved : goal.loop-part-preserved
loop-part-preserved c =
    let rooms = map room_of c.args.nodes.now.records in
    let before = c.args.nodes.now.held in
    let parts = c.args.parts.now in
    let i = c.loop-part.part-index in
    let part = c.part-item.result in
    let one : Holds rooms c.loop-part.nodes.held c.hold.new.nodes.held (part ∷ []) true =
    rw c.loop-part.invariant.records at c.if-not-hold.ensures.holds in
    record {
      holds = holds-same rooms before c.hold.new.nodes.held (take i parts ++ part ∷ []) (take (i + 1) parts) true
          (one-on parts i part c.loop-part-test.true c.part-item.is)
          (holds-more rooms before c.loop-part.nodes.held c.hold.new.nodes.held (take i parts) (part ∷ []) true
          c.loop-part.invariant.holds one);
      records = c.hold.ensures.records ∙ c.loop-part.invariant.records;
    }

pub returns-then-not-hold-clause-holds : goal.returns-then-not-hold-clause-holds
returns-then-not-hold-clause-holds c =
    let rooms = map room_of c.args.nodes.now.records in
    let before = c.args.nodes.now.held in
    let after = c.hold.new.nodes.held in
    let parts = c.args.parts.now in
    let i = c.loop-part.part-index in
    let part = c.part-item.result in
    let one : Holds rooms c.loop-part.nodes.held after (part ∷ []) false =
    rw c.loop-part.invariant.records at c.if-not-hold.ensures.holds in
    holds-same rooms before after ((take i parts ++ part ∷ []) ++ drop (i + 1) parts) parts false
    (split-at parts i part c.loop-part-test.true c.part-item.is)
    (holds-not rooms before after (take i parts ++ part ∷ []) (drop (i + 1) parts)
    (holds-more rooms before c.loop-part.nodes.held after (take i parts) (part ∷ []) false c.loop-part.invariant.holds one))
