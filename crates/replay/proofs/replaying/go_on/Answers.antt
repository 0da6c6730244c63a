use Rattle.std.proofs.Common.{◌≡◌, ◌∙◌, Option, List, length, ap}
use Rattle.std.proofs.lemmas.List.{with_items_is}
use Rattle.ctl_desk.specs.Desk.{state_of}
use Rattle.replay.specs.Replay.{Progress, Standing, leads_to}
use Rattle.replay.specs.declared.played.Played.{Played}
use Rattle.replay.proofs.Rests.{from_stop}
use Rattle.replay.proofs.replaying.go_on.Goals as goal

pub returns-in-Some-clause-leads : goal.returns-in-Some-clause-leads
returns-in-Some-clause-leads c =
    let here = c.replaying.inside in
    let before : Progress = record { played = here.played.items; course = here.course; left = here.left; over = here.over } in
    let stop = c.in-Some.stop in
    let played = c.make_events.new.played in
    let course = c.make_events.new.course in
    let after = state_of c.make_events.new.desk in
    let long : length played ≡ here.played.len = c.make_events.auto.played ∙ c.as_mut_slice.ensures.len in
    let Leads : List Played → Option Standing = λ ps. leads_to c.args.pace c.args.submissions.now after
    (record { played = ps; course = course; left = stop.left; over = stop.over }) in
    ap Leads (with_items_is here.played played long)
    ∙ from_stop c.args.pace c.args.submissions.now c.args.rest (state_of c.args.desk.now) after _ before _ played course _ stop
    c.if-replaying.false c.as_mut_slice.ensures.value c.in-Some.is c.in_ok-stop.ensures
    ∙ ap (leads_to c.args.pace c.args.submissions.now (state_of c.args.desk.now)) c.replaying.view_is
