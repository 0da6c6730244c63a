use Rattle.std.proofs.Common.{◌∙◌, ◌||◌, Bool, Some, ap, sym, take}
use Rattle.ctl_state.specs.Planning.{is_at}
use Rattle.ctl_nodes.specs.Updating.{is_among}
use Rattle.ctl_nodes.proofs.Named.{leads_to, one_more_name, or_false}
use Rattle.ctl_nodes.proofs.names.places_of.Goals as goal
use Rattle.ctl_nodes.proofs.names.places_of.Goals.{in-Some, in_default}

pub loop-name-preserved : goal.loop-name-preserved
loop-name-preserved c = λ place.
    let names = c.args.names.now in
    let nodes = c.args.nodes.now.records in
    let before : Bool = is_at (is_among (take c.loop-name.name-index names)) nodes place in
    let more = one_more_name c.names_lead_to_places.ensures.there c.names_lead_to_places.ensures.named names
    c.loop-name.name-index c.name-item.result nodes place c.find.result c.requires c.loop-name-test.true c.name-item.is
    (sym c.find.ensures.value) in
    elim c.match-find.branch [
      | in-Some w ↦
          rw w.places-is
          (w.insert.ensures.added place
          ∙ ap (λ has. has || leads_to (Some w.in-Some.place) place) (c.loop-name.invariant place)
          ∙ ap (λ found. before || leads_to found place) (sym w.in-Some.is) ∙ sym more)
      | in_default w ↦
          rw w.places-is
          (c.loop-name.invariant place ∙ or_false before
          ∙ ap (λ found. before || leads_to found place) (sym w.in_default.is) ∙ sym more)
    ]
