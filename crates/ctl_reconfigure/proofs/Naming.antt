-- Jobs, reservations and the plan name the same nodes after a new file as before it.
use Rattle.std.proofs.Common.{◌≡◌, ℕ, zero, suc, ◌+◌, ◌<◌, ◌≤◌, Bool, true, false, cond, eqb, not, ◌&&◌, ◌||◌, List, [], ◌∷◌, ◌++◌, length, map, filter, flat_map, get_or, All, Option, None, Some, bytes_eq, refl, sym, ap, ◌∙◌, arith, inl, inr}
use Rattle.std.specs.Prelude.{filter_map, position, slice_get, slice_index_or}
use Rattle.std.specs.List.{AllZip, cons_option, list_any, range_with_len}
use Rattle.std.proofs.lemmas.Bool.{and_from, cases_Bool, cond_both, eq-eqb, eqb-true, or_cases, or_left, or_right}
use Rattle.std.proofs.lemmas.List.{get_or-map, get_or_default, length-map}
use Rattle.std.proofs.lemmas.List.Elements.{All-head, All-tail}
use Rattle.std.proofs.lemmas.List.Folds.{list_any_at}
use Rattle.std.proofs.lemmas.List.Quantifiers.{position-Some}
use Rattle.std.proofs.lemmas.Option.{get_or_from_slice_get, slice_get-get_or, slice_get_within}
use Rattle.plain_data.specs.Rows.{has_id}
use Rattle.plain_data.specs.Confs.{ConfView}
use Rattle.plain_data.specs.declared.conf.NodeConf.{NodeConf}
use Rattle.plain_data.specs.declared.conf.PartConf.{PartConf}
use Rattle.backfill_planner.specs.declared.Placed.{Placed}
use Rattle.backfill_planner.specs.declared.Share.{Share}
use Rattle.node_state.specs.declared.record.NodeRecord.{NodeRecord}
use Rattle.node_state.specs.declared.partition_record.PartRecord.{PartRecord}
use Rattle.node_state.specs.declared.reservation_record.Reservation.{Reservation}
use Rattle.node_state.specs.Moving.{reservation_moved, row_moved, was_in}
use Rattle.node_state.specs.Partitions.{opened}
use Rattle.node_state.specs.Reservations.{has}
use Rattle.job_table.specs.declared.record.JobRecord.{JobRecord}
use Rattle.job_table.specs.declared.record.Part.{Part}
use Rattle.job_table.specs.Changes.{is_on}
use Rattle.ctl_state.specs.Holding.{parts_of}
use Rattle.ctl_state.specs.Soundness.{IsSound}
use Rattle.ctl_state.specs.State.{State}
use Rattle.ctl_reconfigure.specs.Blocking.{blocked, blocking_node, blocking_partition, is_needed}
use Rattle.ctl_reconfigure.specs.Names.{conf_names, line_names, new_place, node_names, partition_names}
use Rattle.ctl_reconfigure.specs.Naming.{NamesSame, node_at, node_planned, nodes_held, partition_meant}
use Rattle.ctl_reconfigure.specs.Reconfiguring.{gone_after, job_after, keeps_places, nodes_after, origins, part_after, partitions_after, planned_names, reconfigured, reservations_after, share_after, share_names}
use Rattle.ctl_reconfigure.proofs.Lists.{all-from_joined}
use Rattle.ctl_reconfigure.proofs.NameLists.{bytes-same, has-at, leads-to, names-same, same-bytes, stands-now}
use Rattle.ctl_reconfigure.proofs.Places.{apart-names, names-after}
use Rattle.ctl_reconfigure.proofs.Rows.{in-range, left-in, passes-in}
use Rattle.ctl_reconfigure.proofs.Sound.{line-of_part}
use Rattle.ctl_reconfigure.proofs.Unblocked.{HasLine, has-line, mapped-at, no-blocks, partition-stands}

-- ---- lists of names

slice-at : (names : List (List ℕ)) (place : ℕ) → place < length names → slice_get names place ≡ Some (get_or names place [])
slice-at names place inside = slice_get-get_or names place [] inside

has-left : (one other : List (List ℕ)) (name : List ℕ) → has one name ≡ true → has (one ++ other) name ≡ true
has-left [] other name has-it = absurd (let never = has-it in cc)
has-left (first ∷ rest) other name has-it = elim (or_cases (bytes_eq name first) (has rest name) has-it) [
  | inl here ↦ or_left (bytes_eq name first) (has (rest ++ other) name) here
  | inr later ↦ or_right (bytes_eq name first) (has (rest ++ other) name) (has-left rest other name later)
]

has-right : (one other : List (List ℕ)) (name : List ℕ) → has other name ≡ true → has (one ++ other) name ≡ true
has-right [] other name has-it = has-it
has-right (first ∷ rest) other name has-it =
    or_right (bytes_eq name first) (has (rest ++ other) name) (has-right rest other name has-it)

has-passing : (test : List ℕ → Bool) (names : List (List ℕ)) (name : List ℕ) → has names name ≡ true
    → test name ≡ true → has (filter test names) name ≡ true
has-passing test [] name has-it passes = absurd (let never = has-it in cc)
has-passing test (first ∷ rest) name has-it passes = elim (or_cases (bytes_eq name first) (has rest name) has-it) [
  | inl here ↦
      let stays : test first ≡ true = rw (← bytes-same name first here) passes in
      rw stays (or_left (bytes_eq name first) (has (filter test rest) name) here)
  | inr later ↦ elim (cases_Bool (test first)) [
    | inl stays ↦ rw stays (or_right (bytes_eq name first) (has (filter test rest) name) (has-passing test rest name later passes))
    | inr goes ↦ rw goes (has-passing test rest name later passes)
  ]
]

has-first : (found : Option (List ℕ)) (rest : List (List ℕ)) (name : List ℕ) → found ≡ Some name
    → has (cons_option found rest) name ≡ true
has-first None rest name is = absurd (let never = is in cc)
has-first (Some first) rest name is =
    let same : first ≡ name = cc in
    or_left (bytes_eq name first) (has rest name) (same-bytes name first (sym same))

has-later : (found : Option (List ℕ)) (rest : List (List ℕ)) (name : List ℕ) → has rest name ≡ true
    → has (cons_option found rest) name ≡ true
has-later None rest name has-it = has-it
has-later (Some first) rest name has-it = or_right (bytes_eq name first) (has rest name) has-it

-- a name that a member gives is among those that members give
has-given : {X : Type 0} (give : X → Option (List ℕ)) (xs : List X) (k : ℕ) (d : X) (name : List ℕ) → k < length xs
    → give (get_or xs k d) ≡ Some name → has (filter_map give xs) name ≡ true
has-given give [] k d name inside gives = absurd (omega (arith, inside))
has-given give (x ∷ xs) zero d name inside gives = has-first (give x) (filter_map give xs) name gives
has-given give (x ∷ xs) (suc k) d name inside gives =
    has-later (give x) (filter_map give xs) name (has-given give xs k d name (omega (arith, inside)) gives)

has-joined : {X : Type 0} (give : X → List (List ℕ)) (xs : List X) (k : ℕ) (d : X) (name : List ℕ) → k < length xs
    → has (give (get_or xs k d)) name ≡ true → has (flat_map give xs) name ≡ true
has-joined give [] k d name inside has-it = absurd (omega (arith, inside))
has-joined give (x ∷ xs) zero d name inside has-it = has-left (give x) (flat_map give xs) name has-it
has-joined give (x ∷ xs) (suc k) d name inside has-it =
    has-right (give x) (flat_map give xs) name (has-joined give xs k d name (omega (arith, inside)) has-it)

-- a row's names, and the places that give them
row-has : (give : ℕ → Option (List ℕ)) (row : List ℕ) (place : ℕ) (name : List ℕ) → has_id row place ≡ true
    → give place ≡ Some name → has (filter_map give row) name ≡ true
row-has give [] place name is gives = absurd (let never = is in cc)
row-has give (first ∷ rest) place name is gives = elim (or_cases (eqb first place) (has_id rest place) is) [
  | inl here ↦
      let same : give first ≡ Some name = rw (eqb-true first place here) gives in
      has-first (give first) (filter_map give rest) name same
  | inr later ↦ has-later (give first) (filter_map give rest) name (row-has give rest place name later gives)
]

row-gives : (give : ℕ → Option (List ℕ)) (row : List ℕ) (name : List ℕ) → has (filter_map give row) name ≡ true
    → (place : ℕ) × (has_id row place ≡ true) × (give place ≡ Some name)
row-gives give [] name has-it = absurd (let never = has-it in cc)
row-gives give (first ∷ rest) name has-it =
    by (give first) refl has-it (λ later. row-gives give rest name later)
  where
    by : (found : Option (List ℕ)) → give first ≡ found → has (cons_option found (filter_map give rest)) name ≡ true
        → (has (filter_map give rest) name ≡ true → (place : ℕ) × (has_id rest place ≡ true) × (give place ≡ Some name))
        → (place : ℕ) × (has_id (first ∷ rest) place ≡ true) × (give place ≡ Some name)
    by None is has-it behind =
        let (place, in-rest, gives) = behind has-it in
        (place, or_right (eqb first place) (has_id rest place) in-rest, gives)
    by (Some one) is has-it behind = elim (or_cases (bytes_eq name one) (has (filter_map give rest) name) has-it) [
      | inl here ↦ (
        first,
        or_left (eqb first first) (has_id rest first) (eq-eqb first first refl),
        is ∙ ap Some (sym (bytes-same name one here)),
      )
      | inr later ↦
          let (place, in-rest, gives) = behind later in
          (place, or_right (eqb first place) (has_id rest place) in-rest, gives)
    ]

-- ---- jobs

part-name : (s : State) (moment : ℕ) (conf : ConfView) (part : Part) → part.node < length s.nodes
    → HasLine s conf part.node
    → node_at (reconfigured s moment conf) (part_after s conf part).node ≡ node_at s part.node
part-name s moment conf part inside line =
    let now = new_place (node_names s.nodes) (conf_names conf.nodes) part.node in
    let before : node_at s part.node ≡ Some line.node.conf.name =
    mapped-at (λ (node : NodeRecord). node.conf.name) s.nodes part.node line.node line.was in
    let after : slice_get (conf_names conf.nodes) now ≡ Some line.line.name =
    mapped-at (λ (conf : NodeConf). conf.name) conf.nodes now line.line line.is in
    rw (names-after s moment conf, after, before) (ap Some line.name)

pub jobs-names : (s : State) (moment : ℕ) (conf : ConfView) → IsSound s → blocked s conf ≡ None
    → map (nodes_held (reconfigured s moment conf)) (map (job_after s conf) s.jobs) ≡ map (nodes_held s) s.jobs
jobs-names s moment conf sound none =
    let lines = all-from_joined (λ (part : Part). (part.node < length s.nodes) × HasLine s conf part.node)
    (λ (job : JobRecord). job.parts) s.jobs (line-of_part s conf sound (no-blocks s conf none).0) in
    jobs s.jobs lines
  where
    parts : (some : List Part) → All (λ (part : Part). (part.node < length s.nodes) × HasLine s conf part.node) some
        → map (λ (part : Part). node_at (reconfigured s moment conf) part.node) (map (part_after s conf) some)
        ≡ map (λ (part : Part). node_at s part.node) some
    parts [] lines = refl
    parts (part ∷ later) lines =
        let line = All-head (λ (part : Part). (part.node < length s.nodes) × HasLine s conf part.node) part later lines in
        let here = part-name s moment conf part line.0 line.1 in
        let rest = parts later
        (All-tail (λ (part : Part). (part.node < length s.nodes) × HasLine s conf part.node) part later lines) in
        λ i. here i ∷ rest i

    jobs : (some : List JobRecord)
        → All (λ (job : JobRecord). All (λ (part : Part). (part.node < length s.nodes) × HasLine s conf part.node) job.parts) some
        → map (nodes_held (reconfigured s moment conf)) (map (job_after s conf) some) ≡ map (nodes_held s) some
    jobs [] lines = refl
    jobs (job ∷ later) lines =
        let has : JobRecord → Type 0 =
        λ job. All (λ (part : Part). (part.node < length s.nodes) × HasLine s conf part.node) job.parts in
        let here = parts job.parts (All-head has job later lines) in
        let rest = jobs later (All-tail has job later lines) in
        λ i. here i ∷ rest i

names-of_partitions : (nodes : List NodeRecord) (lines : List PartConf)
    → partition_names (map (opened nodes) lines) ≡ line_names lines
names-of_partitions nodes [] = refl
names-of_partitions nodes (line ∷ lines) = ap (λ names. line.name ∷ names) (names-of_partitions nodes lines)

pub partitions-names : (s : State) (moment : ℕ) (conf : ConfView) → IsSound s → blocked s conf ≡ None
    → map (partition_meant (reconfigured s moment conf)) (map (job_after s conf) s.jobs) ≡ map (partition_meant s) s.jobs
partitions-names s moment conf sound none = all s.jobs each
  where
    each : All (λ (job : JobRecord). partition_meant (reconfigured s moment conf) (job_after s conf job) ≡ partition_meant s job) s.jobs
    each k d below =
        let place = (get_or s.jobs k d).partition in
        let names = partition_names s.partitions in
        let lines = line_names conf.partitions in
        let now = new_place names lines place in
        let used = list_any_at (λ (job : JobRecord). eqb job.partition place) s.jobs k d below (eq-eqb place place refl) in
        let inside = sound.of_partitions k d below in
        let stands = partition-stands s conf place (no-blocks s conf none).1 inside used in
        let before : slice_get names place ≡ Some (get_or names place []) =
        slice-at names place (rw (length-map s.partitions (λ (partition : PartRecord). partition.conf.name)) inside) in
        let after : slice_get lines now ≡ Some (get_or lines now []) =
        slice-at lines now (rw (length-map conf.partitions (λ (line : PartConf). line.name)) stands.0) in
        rw (names-of_partitions (nodes_after s moment conf) conf.partitions, after, before) (ap Some stands.1)

    all : (some : List JobRecord)
        → All (λ (job : JobRecord). partition_meant (reconfigured s moment conf) (job_after s conf job) ≡ partition_meant s job) some
        → map (partition_meant (reconfigured s moment conf)) (map (job_after s conf) some) ≡ map (partition_meant s) some
    all [] same = refl
    all (job ∷ later) same =
        let P : JobRecord → Type 0 =
        λ job. partition_meant (reconfigured s moment conf) (job_after s conf job) ≡ partition_meant s job in
        let here = All-head P job later same in
        let rest = all later (All-tail P job later same) in
        λ i. here i ∷ rest i

-- ---- reservations

both-true : (one other : Bool) → (one ≡ true → other ≡ true) → (other ≡ true → one ≡ true) → one ≡ other
both-true true true to from = refl
both-true false false to from = refl
both-true true false to from = sym (to refl)
both-true false true to from = from refl

-- a node's name before a new file, where a reservation's row has it after
row-before : (s : State) (conf : ConfView) (row : List ℕ) (name : List ℕ)
    → has (filter_map (slice_get (conf_names conf.nodes)) (row_moved (origins s conf) row)) name ≡ true
    → has (filter_map (node_at s) row) name ≡ true
row-before s conf row name after =
    let names = node_names s.nodes in
    let lines = conf_names conf.nodes in
    let find : List ℕ → Option ℕ = λ name. position (bytes_eq name) names in
    let (place, is, gives) = row-gives (slice_get lines) (row_moved (origins s conf) row) name after in
    let inside : place < length lines = slice_get_within lines place name gives in
    let from : get_or (origins s conf) place None ≡ find name =
    get_or-map find lines place [] None inside ∙ ap find (get_or_from_slice_get lines place name [] gives) in
    let was : was_in row (find name) ≡ true =
    rw from at (passes-in (λ place. was_in row (slice_index_or (origins s conf) place None))
    (range_with_len 0 (length (origins s conf))) place is) in
    by (find name) refl was
  where
    by : (found : Option ℕ) → position (bytes_eq name) (node_names s.nodes) ≡ found → was_in row found ≡ true
        → has (filter_map (node_at s) row) name ≡ true
    by None is was = absurd (let never = was in cc)
    by (Some place) is was =
        let found = position-Some (bytes_eq name) (node_names s.nodes) place [] is in
        row-has (node_at s) row place name was
        (slice-at (node_names s.nodes) place found.0
        ∙ ap Some (sym (bytes-same name (get_or (node_names s.nodes) place []) found.1)))

-- and its name after, where the row had it before
row-after : (s : State) (conf : ConfView) (row : List ℕ) (name : List ℕ) → IsSound s
    → ((place : ℕ) → place < length s.nodes → has_id row place ≡ true → HasLine s conf place)
    → has (filter_map (node_at s) row) name ≡ true
    → has (filter_map (slice_get (conf_names conf.nodes)) (row_moved (origins s conf) row)) name ≡ true
row-after s conf row name sound line before =
    let names = node_names s.nodes in
    let lines = conf_names conf.nodes in
    let find : List ℕ → Option ℕ = λ name. position (bytes_eq name) names in
    let (place, is, gives) = row-gives (node_at s) row name before in
    let within : place < length names = slice_get_within names place name gives in
    let inside : place < length s.nodes = rw (length-map s.nodes (λ (node : NodeRecord). node.conf.name)) at within in
    let stays = line place inside is in
    let now = new_place names lines place in
    let here : slice_get names place ≡ Some stays.node.conf.name =
    mapped-at (λ (node : NodeRecord). node.conf.name) s.nodes place stays.node stays.was in
    let there : slice_get lines now ≡ Some stays.line.name =
    mapped-at (λ (conf : NodeConf). conf.name) conf.nodes now stays.line stays.is in
    let same : stays.line.name ≡ name = stays.name ∙ cc in
    let below : now < length lines = slice_get_within lines now stays.line.name there in
    let first : get_or names place [] ≡ name = get_or_from_slice_get names place name [] gives in
    let from : get_or (origins s conf) now None ≡ Some place =
    get_or-map find lines now [] None below
    ∙ ap find (get_or_from_slice_get lines now stays.line.name [] there ∙ same ∙ sym first)
    ∙ leads-to names place (apart-names s.nodes sound.nodes.named) within in
    let was : was_in row (get_or (origins s conf) now None) ≡ true = rw from is in
    row-has (slice_get lines) (row_moved (origins s conf) row) now name
    (left-in (λ place. was_in row (slice_index_or (origins s conf) place None))
    (range_with_len 0 (length (origins s conf))) now
    (in-range 0 (length (origins s conf)) now (omega arith)
    (rw (length-map lines find) (omega (arith, below)))) was)
    (there ∙ ap Some same)

pub reservations-names : (s : State) (moment : ℕ) (conf : ConfView) → IsSound s → blocked s conf ≡ None
    → AllZip (NamesSame s (reconfigured s moment conf)) s.reservations (reservations_after s conf)
reservations-names s moment conf sound none =
    elim (cases_Bool (keeps_places s conf)) [
      | inl kept ↦
          let same : node_names (nodes_after s moment conf) ≡ node_names s.nodes =
          names-after s moment conf ∙ sym (names-same (node_names s.nodes) (conf_names conf.nodes) kept) in
          rw kept (each-same same s.reservations)
      | inr other ↦ rw other (each-moved s.reservations (λ k d below place inside has.
          has-line s conf place (no-blocks s conf none).0 inside (needed place k d below has)))
    ]
  where
    needed : (place k : ℕ) (d : Reservation) → k < length s.reservations
        → has_id (get_or s.reservations k d).nodes place ≡ true → is_needed s place ≡ true
    needed place k d below has =
        or_right (list_any (is_on place) (parts_of s.jobs))
        (list_any (λ (reservation : Reservation). has_id reservation.nodes place) s.reservations)
        (list_any_at (λ (reservation : Reservation). has_id reservation.nodes place) s.reservations k d below has)

    each-same : node_names (nodes_after s moment conf) ≡ node_names s.nodes → (some : List Reservation)
        → AllZip (NamesSame s (reconfigured s moment conf)) some some
    each-same same [] = tt
    each-same same (first ∷ later) =
        (λ name. ap (λ names. has (filter_map (slice_get names) first.nodes) name) same, each-same same later)

    each-moved : (some : List Reservation)
        → All (λ (one : Reservation). (place : ℕ) → place < length s.nodes → has_id one.nodes place ≡ true → HasLine s conf place) some
        → AllZip (NamesSame s (reconfigured s moment conf)) some (map (reservation_moved (origins s conf)) some)
    each-moved [] lines = tt
    each-moved (first ∷ later) lines =
        let P : Reservation → Type 0 =
        λ one. (place : ℕ) → place < length s.nodes → has_id one.nodes place ≡ true → HasLine s conf place in (
          λ name. ap (λ names. has (filter_map (slice_get names) (row_moved (origins s conf) first.nodes)) name)
              (names-after s moment conf)
              ∙ both-true (has (filter_map (slice_get (conf_names conf.nodes)) (row_moved (origins s conf) first.nodes)) name)
              (has (filter_map (node_at s) first.nodes) name)
              (row-before s conf first.nodes name)
              (row-after s conf first.nodes name sound (All-head P first later lines)),
          each-moved later (All-tail P first later lines),
        )

-- ---- the plan

-- the name of a share stands among those of the new file or of those that are gone
still-named : (s : State) (conf : ConfView) (k j : ℕ) (d : Placed) (e : Share) → k < length s.plan
    → j < length (get_or s.plan k d).parts → (get_or (get_or s.plan k d).parts j e).node < length (share_names s)
    → has (conf_names conf.nodes ++ gone_after s conf)
    (get_or (share_names s) (get_or (get_or s.plan k d).parts j e).node []) ≡ true
still-named s conf k j d e below within inside =
    let place = (get_or (get_or s.plan k d).parts j e).node in
    let name = get_or (share_names s) place [] in
    let among : has (share_names s) name ≡ true = has-at (share_names s) name place inside refl in
    elim (cases_Bool (keeps_places s conf)) [
      | inl kept ↦
          let same = names-same (node_names s.nodes) (conf_names conf.nodes) kept in
          rw (kept, ← same) among
      | inr other ↦ elim (cases_Bool (has (conf_names conf.nodes) name)) [
        | inl stays ↦ has-left (conf_names conf.nodes) (gone_after s conf) name stays
        | inr goes ↦
            let planned : has (planned_names (share_names s) s.plan) name ≡ true =
            has-joined (λ (placed : Placed). filter_map (λ (share : Share). slice_get (share_names s) share.node) placed.parts)
            s.plan k d name below
            (has-given (λ (share : Share). slice_get (share_names s) share.node) (get_or s.plan k d).parts j e name within
            (slice-at (share_names s) place inside)) in
            has-right (conf_names conf.nodes) (gone_after s conf) name
            (rw other (has-passing (λ name. has (planned_names (share_names s) s.plan) name
            && not (has (conf_names conf.nodes) name)) (share_names s) name among
            (rw (planned, goes) refl)))
      ]
    ]

pub plan-names : (s : State) (moment : ℕ) (conf : ConfView)
    → All (λ (placed : Placed). All (λ (share : Share). share.node < length (share_names s)
    → node_planned (reconfigured s moment conf) (share_after s conf share) ≡ node_planned s share) placed.parts) s.plan
plan-names s moment conf k d below j e within inside =
    let place = (get_or (get_or s.plan k d).parts j e).node in
    let before = share_names s in
    let now = conf_names conf.nodes ++ gone_after s conf in
    let stands = stands-now before now place inside (still-named s conf k j d e below within inside) in
    let after : slice_get now (new_place before now place) ≡ Some (get_or now (new_place before now place) []) =
    slice-at now (new_place before now place) stands.0 in
    ap (λ names. slice_get (names ++ gone_after s conf) (new_place before now place)) (names-after s moment conf)
    ∙ after ∙ ap Some stands.1 ∙ sym (slice-at before place inside)

-- ---- what is needed

pub needed-stays : (s : State) (conf : ConfView) (place : ℕ) (node : NodeRecord) → blocked s conf ≡ None
    → slice_get s.nodes place ≡ Some node → is_needed s place ≡ true → has (conf_names conf.nodes) node.conf.name ≡ true
needed-stays s conf place node none at needed =
    let line = has-line s conf place (no-blocks s conf none).0 (slice_get_within s.nodes place node at) needed in
    let now = new_place (node_names s.nodes) (conf_names conf.nodes) place in
    let same : line.node ≡ node = let was = line.was in cc in
    let there = mapped-at (λ (conf : NodeConf). conf.name) conf.nodes now line.line line.is in
    has-at (conf_names conf.nodes) node.conf.name now
    (slice_get_within (conf_names conf.nodes) now line.line.name there)
    (get_or_from_slice_get (conf_names conf.nodes) now line.line.name [] there ∙ line.name
    ∙ ap (λ (node : NodeRecord). node.conf.name) same)
