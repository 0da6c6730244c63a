use Rattle.std.proofs.Common.{◌≡◌, ◌<◌, length, map, get_or, ap, sym, ◌∙◌, arith}
use Rattle.std.proofs.lemmas.List.{get_or-map, length-map}
use Rattle.backfill_planner.specs.declared.Placed.{Placed}
use Rattle.ctl_pass.specs.declared.starts.DueStart.{DueStart}
use Rattle.ctl_pass.proofs.victims.push_starts.Goals as goal

pub push_placed-requires : goal.push_placed-requires
push_placed-requires c =
    let starts = c.args.starts.now in
    let i = c.loop-start.start-index in
    let start = c.start-item.result in
    let placed : DueStart → Placed = λ one. one.placed in
    let below : i < length (map placed starts) = omega (arith, c.loop-start-test.true, length-map starts placed) in
    let here : get_or (map placed starts) i start.placed ≡ start.placed =
    get_or-map placed starts i start start.placed c.loop-start-test.true ∙ ap placed (sym c.start-item.is) in
    rw here at (c.requires i start.placed below)
