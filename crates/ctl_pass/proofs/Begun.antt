-- Due placements that start one after another, on what the index of the nodes shows as free.
use Rattle.std.proofs.lemmas.Bool.Decides.{nat_tests}
use Rattle.std.proofs.Common.{◌≡◌, ◌≢◌, ℕ, ◌<◌, not, eqb, ltb, List, [], ◌∷◌, ◌++◌, length, map, take, get_or, All, AllPairs, refl, ap, ◌∙◌, arith}
use Rattle.std.specs.List.{HoldsAt, range_with_len}
use Rattle.std.proofs.lemmas.Bool.{eq-eqb, ne_eqb}
use Rattle.std.proofs.lemmas.List.{get_or-map, get_or-take, get_or_default, length-map, length-take}
use Rattle.std.proofs.lemmas.List.Elements.{All-head, All-map, All-tail, filter_agree}
use Rattle.std.proofs.lemmas.List.Folds.{list_any-append, list_any_none}
use Rattle.std.proofs.lemmas.List.Sums.{sum_by_push}
use Rattle.plain_data.specs.Rows.{has_id, others_below}
use Rattle.resource_profile.specs.declared.NodeRoom.{NodeRoom}
use Rattle.resource_profile.specs.Free.{room_at}
use Rattle.backfill_planner.specs.declared.Placed.{Placed}
use Rattle.backfill_planner.specs.declared.Share.{Share}
use Rattle.job_table.specs.declared.record.JobRecord.{JobRecord}
use Rattle.job_table.specs.declared.record.Part.{Part}
use Rattle.node_state.specs.declared.record.Held.{Held}
use Rattle.node_state.specs.declared.record.NodeRecord.{NodeRecord}
use Rattle.node_state.specs.Held.{Takes, free_cpus, held_at, holds_cpu}
use Rattle.ctl_state.specs.Holding.{cpus_of, free_ids, has_cpu, mem_held, mem_in, parts_of, times_held}
use Rattle.ctl_state.specs.Index.{ShowsParts, TakesParts}
use Rattle.ctl_state.specs.Laws.{TakingShows}
use Rattle.ctl_state.specs.Planning.{names_of, room_of}
use Rattle.ctl_state.specs.State.{State}
use Rattle.ctl_pass.specs.declared.starts.DueStart.{DueStart}
use Rattle.ctl_pass.specs.Awaiting.{IsPrepared, names_at, placements_of}
use Rattle.ctl_pass.specs.Starting.{JobStart, part_of, start_of}
use Rattle.ctl_pass.specs.Taking.{AreDue, FitsShare, IsReady, free_by, part_by, start_by}
use Rattle.ctl_pass.proofs.Starting.{StartLaws, after_start, can-begun, fits-first}
use Rattle.list_lemmas.proofs.Maps.{map-same}
use Rattle.list_lemmas.proofs.Sums.{sum_by-none}

-- the room of a node that is there
room-is : (nodes : List NodeRecord) (place : ℕ) (d : NodeRecord) → place < length nodes
    → room_at (map room_of nodes) place ≡ room_of (get_or nodes place d)
room-is nodes place d within = get_or-map room_of nodes place d _ within

-- so what is free of it, by its record
free-at : (nodes : List NodeRecord) (held : List Held) (place : ℕ) (d : NodeRecord) → place < length nodes
    → free_by nodes held place ≡ free_cpus (get_or nodes place d) (held_at held place)
free-at nodes held place d within =
    ap (λ (room : NodeRoom). others_below room.cpus (held_at held place).cpus) (room-is nodes place d within)

-- the lowest of them
pub lowest-at : (nodes : List NodeRecord) (held : List Held) (place count : ℕ) (cpus : List ℕ) → place < length nodes
    → HoldsAt (λ node. cpus ≡ take count (free_cpus node (held_at held place))) nodes place
    → cpus ≡ take count (free_by nodes held place)
lowest-at [] held place count cpus within are = absurd (omega (arith, within))
lowest-at (first ∷ later) held place count cpus within are =
    rw (free-at (first ∷ later) held place first within) (are first)

-- what is free where what is held doesn't differ
free-same : (nodes : List NodeRecord) (before after : List Held) (node : ℕ)
    → ((cpu : ℕ) → holds_cpu after node cpu ≡ holds_cpu before node cpu)
    → free_by nodes after node ≡ free_by nodes before node
unfolding others_below
free-same nodes before after node same =
    filter_agree (λ cpu. not (has_id (held_at after node).cpus cpu)) (λ cpu. not (has_id (held_at before node).cpus cpu))
    (λ cpu. ap not (same cpu)) (range_with_len 0 (cpus_of (map room_of nodes) node))

-- parts on other nodes leave what is free of this one
fits-on : (nodes : List NodeRecord) (before after : List Held) (parts : List Part) (share : Share)
    → TakesParts before parts after → All (λ (part : Part). part.node ≢ share.node) parts
    → FitsShare nodes before share
    → FitsShare nodes after share × (part_by nodes after share ≡ part_by nodes before share)
unfolding mem_held
fits-on nodes before after parts share takes off fits =
    let node = share.node in
    let none = λ (cpu : ℕ). list_any_none (has_cpu node cpu) parts (λ k d below.
    rw (ne_eqb (get_or parts k d).node node (off k d below)) refl) in
    let free = free-same nodes before after node (λ cpu. grind (arith, takes.cpus node cpu, none cpu)) in
    let mem = sum_by-none (mem_in node) parts (λ k d below.
    rw (ne_eqb (get_or parts k d).node node (off k d below)) refl) in (
      record {
        there = fits.there;
        cpus = rw free fits.cpus;
        mem = omega (arith, fits.mem, takes.mem node, mem);
      },
      rw free refl,
    )

-- so the share at a place fits once those before it have become parts, and becomes the same part as before that
pub fits-next : (nodes : List NodeRecord) (before after : List Held) (shares : List Share) (i : ℕ) (share : Share)
    → i < length shares → share ≡ get_or shares i share → All (FitsShare nodes before) shares
    → AllPairs (λ (one other : Share). one.node ≢ other.node) shares
    → TakesParts before (map (part_by nodes before) (take i shares)) after
    → FitsShare nodes after share × (part_by nodes after share ≡ part_by nodes before share)
fits-next nodes before after shares i share within is fit apart takes =
    let part = part_by nodes before in
    let off : All (λ (one : Share). one.node ≢ share.node) (take i shares) = λ k d below.
    let low : k < i = omega (arith, below, length-take i shares) in
    rw (get_or-take i shares k d low) (rw (get_or_default shares i d share within, ← is) at (apart k i d low within)) in
    fits-on nodes before after (map part (take i shares)) share takes
    (All-map (λ (one : Part). one.node ≢ share.node) part (take i shares) off)
    (rw (← is) at (fit i share within))

-- parts that are taken one after another
pub takes-none : (held : List Held) → TakesParts held [] held
unfolding mem_held
takes-none held = record {
  cpus = λ node cpu. grind (arith);
  mem = λ node. omega arith;
}

pub takes-more : (before middle after : List Held) (parts : List Part) (part : Part) → TakesParts before parts middle
    → Takes middle part.node part.cpus part.mem after → TakesParts before (parts ++ part ∷ []) after
unfolding mem_held
takes-more before middle after parts part one two = record {
  cpus = λ node cpu. grind (
    arith,
    nat_tests,
    one.cpus node cpu,
    two.cpus node cpu,
    list_any-append (has_cpu node cpu) parts (part ∷ []),
  );
  mem = λ node. grind (arith, nat_tests, one.mem node, two.mem node, sum_by_push (mem_in node) parts part);
}

-- what is free by an index that shows the parts is what is free beside them
free-shown : (nodes : List NodeRecord) (held : List Held) (parts : List Part) (node : ℕ) → ShowsParts held parts
    → free_by nodes held node ≡ free_ids (map room_of nodes) parts node
unfolding others_below free_ids
free-shown nodes held parts node shows =
    filter_agree (λ cpu. not (has_id (held_at held node).cpus cpu)) (λ cpu. eqb (times_held parts node cpu) 0)
    (λ cpu. ap not (shows.cpus node cpu) ∙ not_one (times_held parts node cpu))
    (range_with_len 0 (cpus_of (map room_of nodes) node))
  where
    not_one : (n : ℕ) → not (ltb 0 n) ≡ eqb n 0
    not_one n = grind (arith, nat_tests)

-- the names are those of the parts that the shares become
names-planned : (nodes : List NodeRecord) (rooms : List NodeRoom) (jobs : List JobRecord) (shares : List Share)
    → names_at nodes shares ≡ names_of nodes (map (part_of rooms jobs) shares)
unfolding names_of
names-planned nodes rooms jobs [] = refl
names-planned nodes rooms jobs (share ∷ shares) = rw (names-planned nodes rooms jobs shares) refl

-- so a prepared start is that of the definition
start-shown : (s : State) (held : List Held) (start : DueStart) → IsPrepared s.nodes start
    → ShowsParts held (parts_of s.jobs) → start_by s.nodes held start ≡ start_of s.nodes s.jobs start.placed
start-shown s held start prepared shows =
    let shares = start.placed.parts in
    let parts = map-same (part_by s.nodes held) (part_of (map room_of s.nodes) s.jobs) shares
    (λ k d below. rw (free-shown s.nodes held (parts_of s.jobs) (get_or shares k d).node shows) refl) in
    rw (parts, prepared.names, names-planned s.nodes (map room_of s.nodes) s.jobs shares) refl

-- the first one fits what the index shows as free
pub fits-shown : (s : State) (held : List Held) (start : DueStart) (later : List DueStart) → AreDue s (start ∷ later)
    → ShowsParts held (parts_of s.jobs) → All (FitsShare s.nodes held) start.placed.parts
fits-shown s held start later all shows = λ k d below.
    let placed = start.placed in
    let share = get_or placed.parts k d in
    let due = All-head (λ (one : Placed). one.start ≡ s.moment) placed (placements_of later) all.due in
    let parts = (All-head (IsReady s) placed (placements_of later) all.can.each).parts in
    let fits = fits-first s placed (placements_of later) all.can (eq-eqb placed.start s.moment due) k d below in
    record {
      there = omega (arith, (parts.each k d below).node, length-map s.nodes room_of);
      cpus = rw (free-shown s.nodes held (parts_of s.jobs) share.node shows) fits.0;
      mem = omega (arith, fits.1, shows.mem share.node);
    }

-- and once it has started the others can start after it, and the index shows what is held then
pub begun-shown : StartLaws → TakingShows → (s : State) (held after : List Held) (start : DueStart)
    (later : List DueStart) → AreDue s (start ∷ later)
    → ShowsParts held (parts_of s.jobs) → TakesParts held (map (part_by s.nodes held) start.placed.parts) after
    → (start_by s.nodes held start ≡ start_of s.nodes s.jobs start.placed)
    × AreDue (after_start s start.placed) later × ShowsParts after (parts_of (after_start s start.placed).jobs)
begun-shown laws taking s held after start later all shows takes =
    let placed = start.placed in
    let others = placements_of later in
    let is = start-shown s held start (All-head (IsPrepared s.nodes) start later all.prepared) shows in
    let parts = (start_of s.nodes s.jobs placed).parts in
    let taken : TakesParts held parts after = rw (← ap (λ (one : JobStart). one.parts) is) takes in
    let due = All-head (λ (one : Placed). one.start ≡ s.moment) placed others all.due in (
      is,
      record {
        prepared = All-tail (IsPrepared s.nodes) start later all.prepared;
        due = All-tail (λ (one : Placed). one.start ≡ s.moment) placed others all.due;
        can = can-begun laws s placed others all.can (eq-eqb placed.start s.moment due);
      },
      taking s s.moment placed.id parts (names_of s.nodes parts) held after all.can.sound
          (All-head (IsReady s) placed others all.can.each).waits shows taken,
    )
