use Rattle.std.proofs.Common.{◌≡◌, ◌+◌, [], ◌++◌, take, sym, refl, arith, append-nil}
use Rattle.std.specs.List.{filter_map, cons_option}
use Rattle.std.proofs.lemmas.List.{take_more}
use Rattle.std.proofs.lemmas.List.Elements.{filter_map-append}
use Rattle.replay.specs.Replay.{played_of}
use Rattle.replay.proofs.nodes.started.Goals as goal
use Rattle.replay.proofs.nodes.started.Goals.{in-Some+in_ok-push, in_default}

pub loop-row-preserved : goal.loop-row-preserved
loop-row-preserved c =
    let rows = c.args.rows.now in
    let i = c.loop-row.row-index in
    let more : filter_map played_of (take (i + 1) rows) ≡ filter_map played_of (take i rows) ++ cons_option
    (played_of c.row-item.result) [] =
    rw (take_more rows i c.row-item.result (omega arith), ← c.row-item.is, filter_map-append) in
    elim c.match-branch-3.branch [
      | in-Some+in_ok-push w ↦ rw (
        w.played-is,
        w.in_ok-push.ensures.items,
        c.loop-row.invariant,
        more,
        ← c.in_ok-one.ensures,
        w.in-Some.is,
      ) refl
      | in_default w ↦ rw (w.played-is, c.loop-row.invariant, more, ← c.in_ok-one.ensures, w.in_default.is)
          (sym (append-nil _))
    ]
