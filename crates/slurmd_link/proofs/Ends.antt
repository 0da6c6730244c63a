-- How slurmd ends, and why.
use Rattle.std.proofs.Common.{◌≡◌, ◌⊎◌, inl, inr, ℕ, true, List, Some, refl, sym, ◌∙◌, subst, arith, nat_lt}
use Rattle.std.specs.Prelude.{IfSome, MatchBool}
use Rattle.std.specs.Io.KnownBytes.{Appends}
use Rattle.std.proofs.lemmas.Bool.Decides.{nat_tests}
use Rattle.slurm_io.specs.Faults.{CountsOne}
use Rattle.slurm_io.specs.Wire.{Wire}
use Rattle.slurm_net.specs.Accepted.{IsNewLink}
use Rattle.slurm_net.specs.Host.{CountsIf}
use Rattle.slurm_client.specs.Calling.{Sinks}
use Rattle.node_daemon.specs.Daemon.{Daemon, started}
use Rattle.slurmd_link.specs.Asked.{IsAsked}
use Rattle.slurmd_link.specs.Lines.{IsLinkTold, IsTold, turns_line}
use Rattle.slurmd_link.specs.Links.{IsEndedBy, IsLinked}
use Rattle.slurmd_link.specs.Runs.{HasEnded, HasRun, IsOver, Outside}
use Rattle.slurmd_link.specs.Turns.{scene}
use Rattle.slurmd_link.specs.declared.ending.SlurmdEnd.{SlurmdEnd}
use Rattle.slurmd_link.specs.declared.ending.SlurmdEnd.TheVariants as end
use Rattle.slurmd_link.specs.declared.link.LinkEnd.{LinkEnd}
use Rattle.slurmd_link.specs.declared.link.LinkHow.{LinkHow}
use Rattle.slurmd_link.specs.declared.link.LinkHow.TheVariants as how
use Rattle.slurmd_link.specs.declared.words.SlurmdWords.{SlurmdWords}

-- a link was dialled, turns were made over it, and it was hung up
pub is_over : (asked : SlurmdWords) (old new : Outside) (linked : LinkEnd) (came went : Wire) (before after : Daemon) (reads writes : ℕ)
    → IsNewLink came → IfSome old.host.next_left (λ bytes. came.left ≡ Some bytes) → before ≡ started asked.node asked.boot
    → IsLinked asked.user (scene came old.moments before) (scene went new.moments after) asked.turns linked
    → IfSome new.host.last_taken (λ bytes. went.taken ≡ Some bytes)
    → reads ≡ old.host.link_reads → writes ≡ old.host.link_writes
    → CountsIf (nat_lt 0 went.reads) reads new.host.link_reads → CountsIf (nat_lt 0 went.writes) writes new.host.link_writes
    → new.host.faults ≡ old.host.faults → HasRun asked old new (end.Linked linked)
is_over asked old new linked came went before after reads writes fresh left begun turned taken same same' counted counted' faults = record {
  came = came;
  went = went;
  after = after;
  is_new = fresh;
  left = left;
  turned = subst (λ d. IsLinked asked.user (scene came old.moments d) (scene went new.moments after) asked.turns linked) begun turned;
  taken = taken;
  reads = subst (λ n. CountsIf (nat_lt 0 went.reads) n new.host.link_reads) same counted;
  writes = subst (λ n. CountsIf (nat_lt 0 went.writes) n new.host.link_writes) same' counted';
  faults = faults;
}

-- what was asked has run
pub asked_ended : (words : List (List ℕ)) (asked : SlurmdWords) (old new : Outside) (why : SlurmdEnd) → IsAsked words asked
    → HasRun asked old new why → HasEnded words old new why
asked_ended words asked old new end.Usage is run = absurd run
asked_ended words asked old new end.DoorFault is run = ((asked, is), run)
asked_ended words asked old new end.Memory is run = run
asked_ended words asked old new (end.Linked linked) is run = (asked, is, run)

-- ---- which status comes of which end

other_how : (why : LinkHow) (made : ℕ) (at at' : Sinks) (status : ℕ) → IsLinkTold why made at at' status
    → (status ≡ 2) ⊎ (status ≡ 10) → ⊥
other_how how.Done made at at' status (inl told) is = let s = told.status_is in omega arith
other_how how.Done made at at' status (inr told) is = let s = told.status_is in omega arith
other_how (how.Refused text) made at at' status told is = let s = told.status_is in omega arith
other_how (how.BadReply place) made at at' status told is = let s = told.status_is in omega arith
other_how how.ReadFault made at at' status told is = let s = told.status_is in omega arith
other_how how.WriteFault made at at' status told is = let s = told.status_is in omega arith
other_how how.Memory made at at' status told is = let s = told.status_is in omega arith

pub off_words : (words : List (List ℕ)) (old new : Outside) (why : SlurmdEnd) (at at' : Sinks) (status : ℕ)
    → HasEnded words old new why → IsTold why at at' status → status ≡ 2 → (asked : SlurmdWords) → ¬ IsAsked words asked
off_words words old new end.Usage at at' status ended told is = ended.0
off_words words old new end.DoorFault at at' status ended told is = let s = told.status_is in absurd (omega arith)
off_words words old new end.Memory at at' status ended told is = let s = told.status_is in absurd (omega arith)
off_words words old new (end.Linked linked) at at' status ended told is =
    absurd (other_how linked.how linked.made at at' status told (inl is))

pub told_off : (words : List (List ℕ)) (old new : Outside) (why : SlurmdEnd) (at at' : Sinks) (status : ℕ)
    → HasEnded words old new why → IsTold why at at' status → ((asked : SlurmdWords) → ¬ IsAsked words asked)
    → (status ≡ 2) ⊎ (status ≡ 8)
told_off words old new end.Usage at at' status ended told off = inl told.status_is
told_off words old new end.DoorFault at at' status ((asked, is), run) told off = absurd (off asked is)
told_off words old new end.Memory at at' status ended told off = inr told.status_is
told_off words old new (end.Linked linked) at at' status (asked, is, over) told off = absurd (off asked is)

pub dial_failed : (words : List (List ℕ)) (old new : Outside) (why : SlurmdEnd) (at at' : Sinks) (status : ℕ)
    → HasEnded words old new why → IsTold why at at' status → status ≡ 10 → CountsOne old.host.faults new.host.faults
dial_failed words old new end.Usage at at' status ended told is = let s = told.status_is in absurd (omega arith)
dial_failed words old new end.DoorFault at at' status (asked, (counted, same)) told is = counted
dial_failed words old new end.Memory at at' status ended told is = let s = told.status_is in absurd (omega arith)
dial_failed words old new (end.Linked linked) at at' status ended told is =
    absurd (other_how linked.how linked.made at at' status told (inr is))

-- ---- what a run over a link says of its end

-- a count that rose from 0, and what a host makes of it
risen : (count before after : ℕ) → CountsOne 0 count → CountsIf (nat_lt 0 count) before after → CountsOne before after
risen count before after one counted =
    let some : nat_lt 0 count ≡ true = grind (arith, nat_tests) in
    subst (λ b. MatchBool b (CountsOne before after) (after ≡ before)) some counted

all_made : (why : LinkHow) (made : ℕ) (at at' : Sinks) (status : ℕ) → IsLinkTold why made at at' status → status ≡ 0
    → (why ≡ how.Done) × Appends at.output at'.output (turns_line made)
all_made how.Done made at at' status (inl told) is = (refl, told.output)
all_made how.Done made at at' status (inr told) is = let s = told.status_is in absurd (omega arith)
all_made (how.Refused text) made at at' status told is = let s = told.status_is in absurd (omega arith)
all_made (how.BadReply place) made at at' status told is = let s = told.status_is in absurd (omega arith)
all_made how.ReadFault made at at' status told is = let s = told.status_is in absurd (omega arith)
all_made how.WriteFault made at at' status told is = let s = told.status_is in absurd (omega arith)
all_made how.Memory made at at' status told is = let s = told.status_is in absurd (omega arith)

over_whole : (asked : SlurmdWords) (old new : Outside) (linked : LinkEnd) (at at' : Sinks) (status : ℕ)
    → IsOver asked old new linked → IsLinkTold linked.how linked.made at at' status → status ≡ 0
    → Appends at.output at'.output (turns_line asked.turns)
over_whole asked old new linked at at' status over told is =
    let all = all_made linked.how linked.made at at' status told is in
    let t = over.turned in
    let ended = subst (IsEndedBy asked.user t.mid (scene over.went new.moments over.after) t.turns asked.turns) all.0 t.ended in
    subst (λ n. Appends at.output at'.output (turns_line n)) (sym t.counted ∙ ended.1) all.1

pub done : (words : List (List ℕ)) (old new : Outside) (why : SlurmdEnd) (at at' : Sinks) (status : ℕ)
    → HasEnded words old new why → IsTold why at at' status → status ≡ 0
    → (asked : SlurmdWords) × IsAsked words asked × Appends at.output at'.output (turns_line asked.turns)
done words old new end.Usage at at' status ended told is = let s = told.status_is in absurd (omega arith)
done words old new end.DoorFault at at' status ended told is = let s = told.status_is in absurd (omega arith)
done words old new end.Memory at at' status ended told is = let s = told.status_is in absurd (omega arith)
done words old new (end.Linked linked) at at' status (asked, is_asked, over) told is =
    (asked, is_asked, over_whole asked old new linked at at' status over told is)

read_how : (why : LinkHow) (made : ℕ) (at at' : Sinks) (status : ℕ) → IsLinkTold why made at at' status → status ≡ 5
    → why ≡ how.ReadFault
read_how how.Done made at at' status (inl told) is = let s = told.status_is in absurd (omega arith)
read_how how.Done made at at' status (inr told) is = let s = told.status_is in absurd (omega arith)
read_how (how.Refused text) made at at' status told is = let s = told.status_is in absurd (omega arith)
read_how (how.BadReply place) made at at' status told is = let s = told.status_is in absurd (omega arith)
read_how how.ReadFault made at at' status told is = refl
read_how how.WriteFault made at at' status told is = let s = told.status_is in absurd (omega arith)
read_how how.Memory made at at' status told is = let s = told.status_is in absurd (omega arith)

over_read : (asked : SlurmdWords) (old new : Outside) (linked : LinkEnd) → IsOver asked old new linked → linked.how ≡ how.ReadFault
    → CountsOne old.host.link_reads new.host.link_reads
over_read asked old new linked over is =
    let t = over.turned in
    let ended = subst (IsEndedBy asked.user t.mid (scene over.went new.moments over.after) t.turns asked.turns) is t.ended in
    let (was_asked, (read, consumed, less, counted)) = ended.0 in
    risen over.went.reads old.host.link_reads new.host.link_reads
    (subst (λ n. CountsOne n over.went.reads) (t.made.faultless.0 ∙ over.is_new.reads) counted) over.reads

pub read_failed : (words : List (List ℕ)) (old new : Outside) (why : SlurmdEnd) (at at' : Sinks) (status : ℕ)
    → HasEnded words old new why → IsTold why at at' status → status ≡ 5 → CountsOne old.host.link_reads new.host.link_reads
read_failed words old new end.Usage at at' status ended told is = let s = told.status_is in absurd (omega arith)
read_failed words old new end.DoorFault at at' status ended told is = let s = told.status_is in absurd (omega arith)
read_failed words old new end.Memory at at' status ended told is = let s = told.status_is in absurd (omega arith)
read_failed words old new (end.Linked linked) at at' status (asked, is_asked, over) told is =
    over_read asked old new linked over (read_how linked.how linked.made at at' status told is)

write_how : (why : LinkHow) (made : ℕ) (at at' : Sinks) (status : ℕ) → IsLinkTold why made at at' status → status ≡ 6
    → (why ≡ how.WriteFault) ⊎ CountsOne at.output_faults at'.output_faults
write_how how.Done made at at' status (inl told) is = let s = told.status_is in absurd (omega arith)
write_how how.Done made at at' status (inr told) is = inr told.faults
write_how (how.Refused text) made at at' status told is = let s = told.status_is in absurd (omega arith)
write_how (how.BadReply place) made at at' status told is = let s = told.status_is in absurd (omega arith)
write_how how.ReadFault made at at' status told is = let s = told.status_is in absurd (omega arith)
write_how how.WriteFault made at at' status told is = inl refl
write_how how.Memory made at at' status told is = let s = told.status_is in absurd (omega arith)

over_write : (asked : SlurmdWords) (old new : Outside) (linked : LinkEnd) → IsOver asked old new linked → linked.how ≡ how.WriteFault
    → CountsOne old.host.link_writes new.host.link_writes
over_write asked old new linked over is =
    let t = over.turned in
    let ended = subst (IsEndedBy asked.user t.mid (scene over.went new.moments over.after) t.turns asked.turns) is t.ended in
    let (moment, clock, after, sent, left, reads, counted) = ended.0 in
    risen over.went.writes old.host.link_writes new.host.link_writes
    (subst (λ n. CountsOne n over.went.writes) (t.made.faultless.1 ∙ over.is_new.writes) counted) over.writes

pub write_failed : (words : List (List ℕ)) (old new : Outside) (why : SlurmdEnd) (at at' : Sinks) (status : ℕ)
    → HasEnded words old new why → IsTold why at at' status → status ≡ 6
    → CountsOne old.host.link_writes new.host.link_writes ⊎ CountsOne at.output_faults at'.output_faults
write_failed words old new end.Usage at at' status ended told is = let s = told.status_is in absurd (omega arith)
write_failed words old new end.DoorFault at at' status ended told is = let s = told.status_is in absurd (omega arith)
write_failed words old new end.Memory at at' status ended told is = let s = told.status_is in absurd (omega arith)
write_failed words old new (end.Linked linked) at at' status (asked, is_asked, over) told is =
    by (write_how linked.how linked.made at at' status told is)
  where
    by : (linked.how ≡ how.WriteFault) ⊎ CountsOne at.output_faults at'.output_faults
        → CountsOne old.host.link_writes new.host.link_writes ⊎ CountsOne at.output_faults at'.output_faults
    by (inl same) = inl (over_write asked old new linked over same)
    by (inr counted) = inr counted
