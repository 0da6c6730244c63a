use Rattle.std.proofs.Common.{Ok, Err, refl}
use Rattle.plain_data.specs.Files.{named_by}
use Rattle.cluster_opening.proofs.FileTexts.{opens_as_read}
use Rattle.cluster_opening.proofs.Judgements.{same_files, unopened}
use Rattle.cluster_opening.proofs.opening.open_files.Goals as goal

pub returns-in-Ok-judge-clause-opening : goal.returns-in-Ok-judge-clause-opening
returns-in-Ok-judge-clause-opening g c =
    let judged = c.in-Ok-judge.ensures in
    let read = c.in-Ok.ensures in (
      (
        judged.0,
        opens_as_read (g.Q.Shelf.files c.args.shelf.now) (named_by c.args.names.now) _ _ _ _ _ _ (Ok judged.0) refl
            refl refl read.conf read.assocs read.state judged.1,
        same_files c.with_state.result _ judged.0 c.with_state.ensures
            judged.2,
      ),
      read.faults,
    )

pub returns-in-Err-clause-opening : goal.returns-in-Err-clause-opening
returns-in-Err-clause-opening g c =
    let refused = c.in-Err in
    let read = c.in-Ok.ensures in
    let files = g.Q.Shelf.files c.args.shelf.now in
    unopened files (named_by c.args.names.now) _ _ c.in-Ok.files refused.refusal _ c.from.ensures refused.ensures
    (opens_as_read files (named_by c.args.names.now) _ _ _ _ _ _ (Err refused.refusal) refl refl refl read.conf
    read.assocs read.state) read.faults
