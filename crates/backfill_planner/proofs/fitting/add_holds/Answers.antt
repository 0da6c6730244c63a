use Rattle.std.proofs.Common.{◌≡◌, ◌++◌, ◌∷◌, ◌+◌, ◌<◌, length, get_or, take, drop, List, ap, sym, ◌∙◌, append_assoc}
use Rattle.std.proofs.lemmas.List.{take-append-drop, drop_more}
use Rattle.resource_profile.specs.declared.Hold.{Hold}
use Rattle.resource_profile.specs.Profiles.{AreWithin}
use Rattle.backfill_planner.proofs.Rooms.{free-next}
use Rattle.backfill_planner.proofs.fitting.add_holds.Goals as goal

pub hold-requires : goal.hold-requires
hold-requires c =
    let none : Hold = record { node = 0; from = 0; until = 0; cpus = 0; mem = 0 } in
    let holds = c.args.holds.now in
    let old = c.args.profile.now.holds in
    let i = c.loop-hold.hold-index in
    let inside : i < length holds = c.loop-hold-test.true in
    let hold = get_or holds i none in
    let parts : holds ≡ take i holds ++ hold ∷ drop (i + 1) holds =
    sym (take-append-drop i holds) ∙ ap (λ (rest : List Hold). take i holds ++ rest) (drop_more holds i none inside) in
    let split : old ++ holds ≡ (old ++ take i holds) ++ hold ∷ drop (i + 1) holds =
    ap (λ (rest : List Hold). old ++ rest) parts ∙ sym (append_assoc old (take i holds) (hold ∷ drop (i + 1) holds)) in
    let within : AreWithin c.args.profile.now.rooms ((old ++ take i holds) ++ hold ∷ drop (i + 1) holds) = rw split at c.requires in
    rw (c.loop-hold.invariant.rooms, c.loop-hold.invariant.holds) (free-next c.args.profile.now.rooms (old ++ take i holds) hold (drop (i + 1) holds) within)
