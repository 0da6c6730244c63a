use Rattle.std.proofs.Common.{◌≡◌, ◌<◌, ◌∙◌, ap, append-nil, arith, get_or, length, map, refl, sym}
use Rattle.reply_data.specs.declared.view.Row.TheVariants.{Job}
use Rattle.job_table.specs.declared.record.JobRecord.{JobRecord}
use Rattle.ctl_state.specs.State.{state_of}
use Rattle.ctl_show.specs.Showing.{row_of, is_meant}
use Rattle.ctl_show.proofs.Gathered.{map-filter-more}
use Rattle.ctl_show.proofs.Walked.{filter-before, filter-past}
use Rattle.ctl_show.proofs.kept.kept_rows.Goals as goal
use Rattle.ctl_show.proofs.kept.kept_rows.Goals.{then-is_meant+in_ok-push_row_at, else-is_meant}

pub loop-place-init : goal.loop-place-init
loop-place-init c =
    let s = state_of c.args.cluster.now in
    let places = c.places_meant-places in
    let lie = places.ensures in
    let row = λ (job : JobRecord). Job (row_of s c.args.moment job) in
    record {
      rows = c.new-rows.ensures.items ∙ ap (map row) (sym (filter-before (is_meant c.args.target.now) s.jobs places.result lie));
      outlook = tt;
      within = lie.within.0;
      end = lie.within.1;
    }

pub loop-place-preserved : goal.loop-place-preserved
loop-place-preserved c =
    let s = state_of c.args.cluster.now in
    let row = λ (job : JobRecord). Job (row_of s c.args.moment job) in
    let held = c.loop-place.invariant in
    let place = c.loop-place.place in
    let job = c.index-records-place.result in
    let inside : place < length s.jobs = omega (arith, c.loop-place-test.true, held.end) in
    let is : job ≡ get_or s.jobs place job = rw c.records.ensures.value at c.index-records-place.is in
    let more = rw (← c.is_meant.ensures) at (map-filter-more row (is_meant c.args.target.now) s.jobs place job inside is) in
    elim c.if-is_meant.branch [
      | then-is_meant+in_ok-push_row_at w ↦ record {
        rows = rw (w.rows-is, rw (← is) at (w.in_ok-push_row_at.ensures.rows job), held.rows, more, w.if-is_meant.true) refl;
        outlook = rw w.outlook-is w.in_ok-push_row_at.ensures.outlook;
        within = omega (arith, inside);
        end = held.end;
      }
      | else-is_meant w ↦ record {
        rows = rw (w.rows-is, held.rows, more, w.if-is_meant.false) (sym (append-nil _));
        outlook = rw w.outlook-is held.outlook;
        within = omega (arith, inside);
        end = held.end;
      }
    ]

pub returns : goal.returns
returns c =
    let s = state_of c.args.cluster.now in
    let places = c.places_meant-places in
    let lie = places.ensures in
    let row = λ (job : JobRecord). Job (row_of s c.args.moment job) in
    let held = c.loop-place.invariant in
    held.rows ∙ ap (map row) (filter-past (is_meant c.args.target.now) s.jobs places.result c.loop-place.place lie
    c.loop-place-test.false held.within)
