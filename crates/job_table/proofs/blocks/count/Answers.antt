use Rattle.std.proofs.Common.{◌<◌, ◌*◌, length, arith}
use Rattle.std.proofs.lemmas.Option.{slice_get_within}
use Rattle.job_table.proofs.Marks.{shows-next}
use Rattle.job_table.proofs.blocks.count.Goals as goal

pub loop-place-preserved : goal.loop-place-preserved
loop-place-preserved c =
    let held = c.loop-place.invariant in
    record {
      shown = shows-next c.loop-place.block c.mark.new.block c.args.jobs.now (c.args.number * 64) c.loop-place.place
          c.index-jobs-place.result (omega (arith, c.loop-place-test.true, held.end)) c.index-jobs-place.is
          c.mark.ensures.shown c.mark.ensures.stays held.shown;
      end = held.end;
    }

pub returns : goal.returns
returns c = λ place job at there.
    let held = c.loop-place.invariant in
    let inside : place < length c.args.jobs.now = slice_get_within c.args.jobs.now place job there in
    held.shown place job (omega (arith, at)) (omega (arith, at, inside, held.end, c.loop-place-test.false)) there
