use Rattle.std.proofs.Common.{bytes_eq, get_or}
use Rattle.std.specs.HashSet.{contains}
use Rattle.std.specs.Prelude.{slice_get}
use Rattle.std.proofs.lemmas.List.{get_or_default}
use Rattle.backfill_planner.specs.declared.Share.{Share}
use Rattle.ctl_reconfigure.proofs.Growing.{among-more}
use Rattle.ctl_reconfigure.proofs.leaving.add_shares.Goals as goal

abbrev nothing : Share
nothing = record { node = 0; tasks = 0; cpus = 0; mem = 0 }

pub loop-share-preserved : goal.loop-share-preserved
loop-share-preserved c = λ name.
    let shares = c.args.shares.now in
    let k = c.loop-share.share-index in
    let share = get_or shares k nothing in
    among-more (λ (share : Share). slice_get c.args.names.now share.node) shares k share name
    (contains bytes_eq c.args.planned.now name) (contains bytes_eq c.loop-share.planned name) _ c.loop-share-test.true
    (get_or_default shares k nothing share c.loop-share-test.true) (c.loop-share.invariant name)
    (c.in_ok-add_share.ensures name)
