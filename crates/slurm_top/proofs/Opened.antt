-- A run on files that were opened.
use Rattle.std.proofs.Common.{◌≡◌, ℕ, Bool, List, Option, Ok, refl, sym, ap, ◌∙◌, subst}
use Rattle.slurm_io.specs.Shelf.{ShelfFile}
use Rattle.slurm_io.specs.Wire.{Wire}
use Rattle.ctl_state.specs.State.{State}
use Rattle.ctl_desk.specs.Desk.{Seat}
use Rattle.ctl_session.specs.declared.session.How.{How}
use Rattle.plain_data.specs.declared.period.Period.{Period}
use Rattle.plain_data.specs.Files.{Named}
use Rattle.slurm_net.specs.Host.{Hosting}
use Rattle.slurm_top.specs.Outside.{Beside, Outside, beside, outside}
use Rattle.cluster_opening.specs.Files.{Opens, fresh}
use Rattle.script_run.specs.Behind.{IsScriptRun}
use Rattle.slurm_top.specs.Opened.{IsRunThere}
use Rattle.slurm_top.specs.Run.{Hosted, IsEndOn, IsEndServing, StaysBeside}
use Rattle.slurm_top.specs.Serving.{IsServing}
use Rattle.slurm_top.specs.declared.end.End.{End}
use Rattle.slurm_top.specs.declared.end.End.TheVariants.{Usage, NoFile, BadFile, Memory, Script, Generated, WriteFault, Spent, Served, DoorFault, Called}

pub fresh_at : (seat : Seat) (s : State) → seat ≡ fresh s → seat ≡ fresh seat.opening
fresh_at seat s is = is ∙ ap fresh (sym (ap (λ (d : Seat). d.opening) is))

pub script_at : (seat : Seat) (s : State) (sacct : Option Period) (save : Bool) (old new : Wire) (last : How)
    → seat ≡ fresh s → IsScriptRun seat.opening sacct save old new last → IsScriptRun s sacct save old new last
script_at seat s sacct save old new last is run =
    subst (λ (t : State). IsScriptRun t sacct save old new last) (ap (λ (d : Seat). d.opening) is) run

pub alone_so : (files files' : Option (List ShelfFile)) (faults faults' : ℕ) (wire wire' : Wire) → files' ≡ files
    → faults' ≡ faults → outside files' faults' wire' ≡ record (outside files faults wire) { wire = wire' }
alone_so files files' faults faults' wire wire' same same' = rw (same, same') refl

-- nothing was written either
untouched : (old new : Outside) → new ≡ record old { wire = new.wire } → new.wire ≡ old.wire → new ≡ old
untouched old new alone same = alone ∙ ap (λ (w : Wire). record old { wire = w }) same

pub ran_on : (named : Named) (sacct : Option Period) (save : Bool) (old new : Outside) (end : End) (s : State)
    → Opens old.files named (Ok s) → new ≡ record old { wire = new.wire }
    → IsRunThere s sacct save old.wire new.wire end → IsEndOn named sacct save old new end
ran_on named sacct save old new Usage s opens alone ran = absurd ran
ran_on named sacct save old new NoFile s opens alone ran = absurd ran
ran_on named sacct save old new (BadFile bad) s opens alone ran = absurd ran
ran_on named sacct save old new Memory s opens alone ran = untouched old new alone ran
ran_on named sacct save old new (Script how) s opens alone ran =
    record { opening = s; opens = opens; script = ran; alone = alone }
ran_on named sacct save old new Generated s opens alone ran = absurd ran
ran_on named sacct save old new WriteFault s opens alone ran = absurd ran
ran_on named sacct save old new Spent s opens alone ran = absurd ran
ran_on named sacct save old new Served s opens alone ran = absurd ran
ran_on named sacct save old new DoorFault s opens alone ran = absurd ran
ran_on named sacct save old new (Called call) s opens alone ran = absurd ran

pub stays_beside : (errors : Option (List ℕ)) (faults : ℕ) (host host' : Hosting) → host'.link_reads ≡ host.link_reads
    → host'.link_writes ≡ host.link_writes → host'.next_left ≡ host.next_left → host'.last_taken ≡ host.last_taken
    → StaysBeside (beside errors faults host) (beside errors faults host')
stays_beside errors faults host host' reads writes next last = rw (← reads, ← writes, ← next, ← last) refl

pub served_end : (named : Named) (port workers : ℕ) (save : Bool) (host : Hosted) (old new : Outside)
    (beside beside' : Beside) (end : End) (s : State) → Opens old.files named (Ok s)
    → IsServing s port workers save host.course host.closed old.wire new.wire beside.host.faults beside'.host.faults end
    → new ≡ record old { wire = new.wire } → StaysBeside beside beside'
    → IsEndServing named port workers save host old new beside beside' end
served_end named port workers save host old new beside beside' Usage s opens served alone stays =
    (s, opens, served, alone, stays)
served_end named port workers save host old new beside beside' NoFile s opens served alone stays = absurd served
served_end named port workers save host old new beside beside' (BadFile bad) s opens served alone stays = absurd served
served_end named port workers save host old new beside beside' Memory s opens served alone stays =
    (served, alone, stays)
served_end named port workers save host old new beside beside' (Script how) s opens served alone stays =
    (s, opens, served, alone, stays)
served_end named port workers save host old new beside beside' Generated s opens served alone stays =
    (s, opens, served, alone, stays)
served_end named port workers save host old new beside beside' WriteFault s opens served alone stays =
    (s, opens, served, alone, stays)
served_end named port workers save host old new beside beside' Spent s opens served alone stays =
    (s, opens, served, alone, stays)
served_end named port workers save host old new beside beside' Served s opens served alone stays =
    (s, opens, served, alone, stays)
served_end named port workers save host old new beside beside' DoorFault s opens served alone stays =
    (s, opens, served, alone, stays)
served_end named port workers save host old new beside beside' (Called call) s opens served alone stays =
    (s, opens, served, alone, stays)
