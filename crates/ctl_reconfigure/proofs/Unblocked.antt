-- What follows where nothing stands against a new file: each node that is needed has a line, which is large enough.
use Rattle.std.proofs.Common.{◌≡◌, ℕ, zero, suc, ◌+◌, ◌<◌, ◌≤◌, Bool, true, false, cond, eqb, leb, ltb, not, ◌&&◌, ◌||◌, List, [], ◌∷◌, length, map, get_or, All, Contains, Option, Some, None, refl, sym, ap, ◌∙◌, arith, inl, inr}
use Rattle.std.specs.Prelude.{find, option_map, slice_get, unwrap_or, bytes_eq}
use Rattle.std.specs.Option.{option_and_then, option_or}
use Rattle.std.specs.List.{list_any, range_with_len}
use Rattle.std.proofs.lemmas.Bool.{cases_Bool, and_cases, and_from, both_ways, eq-eqb, eqb-true, or_cases, or_left, or_parts, or_right}
use Rattle.std.proofs.lemmas.List.{length-map, get_or-map}
use Rattle.std.proofs.lemmas.List.Folds.{list_any_at}
use Rattle.std.proofs.lemmas.Option.{slice_get-get_or, get_or_from_slice_get}
use Rattle.list_lemmas.proofs.Elements.{any-map, any-none}
use Rattle.plain_data.specs.Rows.{has_id}
use Rattle.plain_data.specs.Confs.{ConfView}
use Rattle.plain_data.specs.declared.conf.NodeConf.{NodeConf}
use Rattle.plain_data.specs.declared.conf.PartConf.{PartConf}
use Rattle.node_state.specs.declared.record.NodeRecord.{NodeRecord}
use Rattle.node_state.specs.declared.partition_record.PartRecord.{PartRecord}
use Rattle.node_state.specs.declared.reservation_record.Reservation.{Reservation}
use Rattle.node_state.specs.Reservations.{has}
use Rattle.job_table.specs.declared.record.JobRecord.{JobRecord}
use Rattle.job_table.specs.declared.record.Part.{Part}
use Rattle.job_table.specs.Changes.{is_on}
use Rattle.ctl_state.specs.Holding.{parts_of}
use Rattle.ctl_state.specs.Planning.{is_at}
use Rattle.ctl_state.specs.State.{State}
use Rattle.ctl_reconfigure.specs.Blocking.{blocked, blocking_node, blocking_partition, blocks, is_left_out, is_left_out_at, is_needed, is_of, is_too_small}
use Rattle.ctl_reconfigure.specs.Names.{conf_names, line_names, new_place, node_names, partition_names}
use Rattle.ctl_reconfigure.proofs.NameLists.{bytes-same, same-bytes, stands-now}
use Rattle.ctl_reconfigure.proofs.Rows.{in-range}

-- ---- searches

found-passes : {X : Type 0} (test : X → Bool) (xs : List X) (x : X) → find test xs ≡ Some x → test x ≡ true
found-passes test [] x found = absurd (let never = found in cc)
found-passes test (first ∷ rest) x found = elim (cases_Bool (test first)) [
  | inl passes ↦ let is : first ≡ x = cc (rw passes at found) in rw (← is) passes
  | inr fails ↦ found-passes test rest x (rw fails at found)
]

none-passes : (test : ℕ → Bool) (row : List ℕ) (place : ℕ) → find test row ≡ None → has_id row place ≡ true
    → test place ≡ false
none-passes test [] place none has = absurd (let never = has in cc)
none-passes test (first ∷ rest) place none has = elim (cases_Bool (test first)) [
  | inl passes ↦ absurd (let never = rw passes at none in cc)
  | inr fails ↦ elim (or_cases (eqb first place) (has_id rest place) has) [
    | inl here ↦ rw (← eqb-true first place here) fails
    | inr later ↦ none-passes test rest place (rw fails at none) later
  ]
]

-- where what a search finds would be told, and nothing is told, nothing passes
untold : {X : Type 0} (test : ℕ → Bool) (tell : ℕ → Option X) (count place : ℕ)
    → ((found : ℕ) → test found ≡ true → tell found ≡ None → ⊥)
    → option_and_then tell (find test (range_with_len 0 count)) ≡ None → place < count → test place ≡ false
untold {X} test tell count place tells none inside =
    by (find test (range_with_len 0 count)) refl none
  where
    by : (found : Option ℕ) → find test (range_with_len 0 count) ≡ found → option_and_then tell found ≡ None
        → test place ≡ false
    by None is nothing = none-passes test (range_with_len 0 count) place is (in-range 0 count place (omega arith) (omega (arith, inside)))
    by (Some found) is nothing = absurd (tells found (found-passes test (range_with_len 0 count) found is) nothing)

neither : {X : Type 0} (one other : Option X) → option_or one other ≡ None → (one ≡ None) × (other ≡ None)
neither None other none = (refl, none)
neither (Some x) other none = absurd (let never = none in cc)

-- ---- members of lists, and names of members

pub member-at : {X : Type 0} (xs : List X) (place : ℕ) → place < length xs → (x : X) × (slice_get xs place ≡ Some x)
member-at [] place inside = absurd (omega (arith, inside))
member-at (x ∷ xs) zero inside = (x, refl)
member-at (x ∷ xs) (suc place) inside = member-at xs place (omega (arith, inside))

pub mapped-at : {X Y : Type 0} (f : X → Y) (xs : List X) (place : ℕ) (x : X) → slice_get xs place ≡ Some x
    → slice_get (map f xs) place ≡ Some (f x)
mapped-at f [] place x at = absurd (let never = at in cc)
mapped-at f (first ∷ rest) zero x at = let is : first ≡ x = cc at in ap (λ y. Some (f y)) is
mapped-at f (first ∷ rest) (suc place) x at = mapped-at f rest place x at

pub name-at : {X : Type 0} (f : X → List ℕ) (xs : List X) (place : ℕ) (x : X) → slice_get xs place ≡ Some x
    → get_or (map f xs) place [] ≡ f x
name-at f xs place x at = get_or_from_slice_get (map f xs) place (f x) [] (mapped-at f xs place x at)

-- ---- nodes

no-node : (s : State) (conf : ConfView) (place : ℕ) (node : NodeRecord) → blocking_node s conf ≡ None
    → place < length s.nodes → slice_get s.nodes place ≡ Some node → blocks s conf.nodes place node ≡ false
unfolding blocking_node
no-node s conf place node none inside at =
    let fails = untold (λ place. is_at (blocks s conf.nodes place) s.nodes place)
    (λ place. option_map (λ (node : NodeRecord). node.conf.name) (slice_get s.nodes place))
    (length s.nodes) place tells none inside in
    rw at at fails
  where
    tells : (found : ℕ) → is_at (blocks s conf.nodes found) s.nodes found ≡ true
        → option_map (λ (node : NodeRecord). node.conf.name) (slice_get s.nodes found) ≡ None → ⊥
    tells found passes untold = by (slice_get s.nodes found) passes untold
      where
        by : (got : Option NodeRecord) → unwrap_or (option_map (blocks s conf.nodes found) got) false ≡ true
            → option_map (λ (node : NodeRecord). node.conf.name) got ≡ None → ⊥
        by None passes untold = let never = passes in cc
        by (Some node) passes untold = let never = untold in cc

-- a line has the name that it is of
of-name : (node : NodeRecord) (confs : List NodeConf) → list_any (is_of node) confs ≡ true
    → has (conf_names confs) node.conf.name ≡ true
of-name node [] some = absurd (let never = some in cc)
of-name node (first ∷ rest) some = elim (or_cases (is_of node first) (list_any (is_of node) rest) some) [
  | inl here ↦ or_left (bytes_eq node.conf.name first.name) (has (conf_names rest) node.conf.name)
      (same-bytes node.conf.name first.name (sym (bytes-same first.name node.conf.name here)))
  | inr later ↦ or_right (bytes_eq node.conf.name first.name) (has (conf_names rest) node.conf.name)
      (of-name node rest later)
]

-- A node that is needed has a line, at the new place of its node, which is large enough.
pub record HasLine (s : State) (conf : ConfView) (place : ℕ) : Type 0 where
  pub node : NodeRecord
  pub line : NodeConf
  pub was : slice_get s.nodes place ≡ Some node
  pub inside : new_place (node_names s.nodes) (conf_names conf.nodes) place < length conf.nodes
  pub is : slice_get conf.nodes (new_place (node_names s.nodes) (conf_names conf.nodes) place) ≡ Some line
  pub name : line.name ≡ node.conf.name
  pub fits : is_too_small (parts_of s.jobs) place line ≡ false

-- what is held of a node fits a line of its name
pub large-enough : (s : State) (conf : ConfView) (place k : ℕ) (node : NodeRecord) (line : NodeConf)
    → blocking_node s conf ≡ None → place < length s.nodes → slice_get s.nodes place ≡ Some node
    → k < length conf.nodes → slice_get conf.nodes k ≡ Some line → line.name ≡ node.conf.name
    → is_too_small (parts_of s.jobs) place line ≡ false
large-enough s conf place k node line none inside at within is named =
    let test : NodeConf → Bool = λ line. is_of node line && is_too_small (parts_of s.jobs) place line in
    let parts = or_parts (is_needed s place && not (list_any (is_of node) conf.nodes)) (list_any test conf.nodes)
    (no-node s conf place node none inside at) in
    let fails : test line ≡ false =
    rw (get_or_from_slice_get conf.nodes k line line is) at (any-none test conf.nodes parts.1 k line within) in
    second (is_of node line) (is_too_small (parts_of s.jobs) place line) (same-bytes line.name node.conf.name named) fails
  where
    second : (b c : Bool) → b ≡ true → (b && c) ≡ false → c ≡ false
    second true c is fails = fails
    second false c is fails = absurd (let never = is in cc)

pub has-line : (s : State) (conf : ConfView) (place : ℕ) → blocking_node s conf ≡ None → place < length s.nodes
    → is_needed s place ≡ true → HasLine s conf place
has-line s conf place none inside needed =
    let (node, at) = member-at s.nodes place inside in
    let names = node_names s.nodes in
    let lines = conf_names conf.nodes in
    let parts = or_parts (is_needed s place && not (list_any (is_of node) conf.nodes))
    (list_any (λ (line : NodeConf). is_of node line && is_too_small (parts_of s.jobs) place line) conf.nodes)
    (no-node s conf place node none inside at) in
    let named : has lines node.conf.name ≡ true =
    of-name node conf.nodes (has-one (is_needed s place) (list_any (is_of node) conf.nodes) needed parts.0) in
    let name : get_or names place [] ≡ node.conf.name =
    name-at (λ (node : NodeRecord). node.conf.name) s.nodes place node at in
    let now = stands-now names lines place (rw (length-map s.nodes (λ (node : NodeRecord). node.conf.name)) inside)
    (rw name named) in
    let within : new_place names lines place < length conf.nodes =
    rw (length-map conf.nodes (λ (line : NodeConf). line.name)) at now.0 in
    let (line, is) = member-at conf.nodes (new_place names lines place) within in
    let same : line.name ≡ node.conf.name =
    sym (name-at (λ (line : NodeConf). line.name) conf.nodes (new_place names lines place) line is) ∙ now.1 ∙ name in
    record {
      node = node;
      line = line;
      was = at;
      inside = within;
      is = is;
      name = same;
      fits = large-enough s conf place (new_place names lines place) node line none inside at within is same;
    }
  where
    has-one : (b c : Bool) → b ≡ true → (b && not c) ≡ false → c ≡ true
    has-one true true is fails = refl
    has-one true false is fails = absurd (let never = fails in cc)
    has-one false c is fails = absurd (let never = is in cc)

-- ---- partitions

no-partition : (s : State) (conf : ConfView) (place : ℕ) (partition : PartRecord) → blocking_partition s conf ≡ None
    → place < length s.partitions → slice_get s.partitions place ≡ Some partition
    → is_left_out s conf.partitions place partition ≡ false
unfolding blocking_partition
no-partition s conf place partition none inside at =
    let fails = untold (is_left_out_at s conf.partitions)
    (λ place. option_map (λ (partition : PartRecord). partition.conf.name) (slice_get s.partitions place))
    (length s.partitions) place tells none inside in
    rw at at fails
  where
    tells : (found : ℕ) → is_left_out_at s conf.partitions found ≡ true
        → option_map (λ (partition : PartRecord). partition.conf.name) (slice_get s.partitions found) ≡ None → ⊥
    tells found passes untold = by (slice_get s.partitions found) passes untold
      where
        by : (got : Option PartRecord)
            → unwrap_or (option_map (is_left_out s conf.partitions found) got) false ≡ true
            → option_map (λ (partition : PartRecord). partition.conf.name) got ≡ None → ⊥
        by None passes untold = let never = passes in cc
        by (Some partition) passes untold = let never = untold in cc

line-name : (name : List ℕ) (confs : List PartConf)
    → list_any (λ (conf : PartConf). bytes_eq conf.name name) confs ≡ true → has (line_names confs) name ≡ true
line-name name [] some = absurd (let never = some in cc)
line-name name (first ∷ rest) some =
    let others : Bool = list_any (λ (conf : PartConf). bytes_eq conf.name name) rest in
    elim (or_cases (bytes_eq first.name name) others some) [
      | inl here ↦ or_left (bytes_eq name first.name) (has (line_names rest) name)
          (same-bytes name first.name (sym (bytes-same first.name name here)))
      | inr later ↦ or_right (bytes_eq name first.name) (has (line_names rest) name) (line-name name rest later)
    ]

-- the partition of a job has a line
pub partition-stands : (s : State) (conf : ConfView) (place : ℕ) → blocking_partition s conf ≡ None
    → place < length s.partitions → list_any (λ (job : JobRecord). eqb job.partition place) s.jobs ≡ true
    → (new_place (partition_names s.partitions) (line_names conf.partitions) place < length conf.partitions)
    × (get_or (line_names conf.partitions) (new_place (partition_names s.partitions) (line_names conf.partitions) place) []
    ≡ get_or (partition_names s.partitions) place [])
partition-stands s conf place none inside used =
    let (partition, at) = member-at s.partitions place inside in
    let names = partition_names s.partitions in
    let lines = line_names conf.partitions in
    let named : has lines partition.conf.name ≡ true =
    line-name partition.conf.name conf.partitions
    (has-one (list_any (λ (job : JobRecord). eqb job.partition place) s.jobs)
    (list_any (λ (line : PartConf). bytes_eq line.name partition.conf.name) conf.partitions) used
    (no-partition s conf place partition none inside at)) in
    let name : get_or names place [] ≡ partition.conf.name =
    name-at (λ (partition : PartRecord). partition.conf.name) s.partitions place partition at in
    let now = stands-now names lines place
    (rw (length-map s.partitions (λ (partition : PartRecord). partition.conf.name)) inside) (rw name named) in
    (rw (length-map conf.partitions (λ (line : PartConf). line.name)) at now.0, now.1)
  where
    has-one : (b c : Bool) → b ≡ true → (b && not c) ≡ false → c ≡ true
    has-one true true is fails = refl
    has-one true false is fails = absurd (let never = fails in cc)
    has-one false c is fails = absurd (let never = is in cc)

-- ---- both

pub no-blocks : (s : State) (conf : ConfView) → blocked s conf ≡ None
    → (blocking_node s conf ≡ None) × (blocking_partition s conf ≡ None)
no-blocks s conf none = neither (blocking_node s conf) (blocking_partition s conf) none

-- a node that a part is on is needed
pub part-needs : (s : State) (k : ℕ) (d : Part) → k < length (parts_of s.jobs)
    → is_needed s (get_or (parts_of s.jobs) k d).node ≡ true
part-needs s k d below =
    let place = (get_or (parts_of s.jobs) k d).node in
    or_left (list_any (is_on place) (parts_of s.jobs))
    (list_any (λ (reservation : Reservation). has_id reservation.nodes place) s.reservations)
    (list_any_at (is_on place) (parts_of s.jobs) k d below (eq-eqb place place refl))
