-- The index of what is held follows the nodes of a new file by their names.
use Rattle.std.proofs.Common.{◌≡◌, ℕ, zero, suc, ◌+◌, ◌<◌, ◌≤◌, ◌≢◌, ◌⊎◌, Bool, true, false, cond, eqb, leb, ltb, ◌&&◌, ◌||◌, List, [], ◌∷◌, length, map, get_or, sum_by, All, AllPairs, Option, Some, None, subst, bytes_eq, refl, sym, ap, ◌∙◌, arith, inl, inr}
use Rattle.std.specs.Prelude.{count_by, position, slice_get, slice_index_or}
use Rattle.std.specs.List.{list_any}
use Rattle.std.proofs.lemmas.Bool.{and_parts, cases_Bool, eq-eqb, eqb-true, leb-false, ltb-false, ltb-true, or_cases, or_left, or_parts, or_right}
use Rattle.std.proofs.lemmas.Bool.Decides.{nat_tests}
use Rattle.std.proofs.lemmas.List.{get_or-map, length-map}
use Rattle.std.proofs.lemmas.List.Elements.{All-cons, All-head, All-nil, All-tail}
use Rattle.std.proofs.lemmas.List.Sums.{sum_by-cons}
use Rattle.std.proofs.lemmas.List.Quantifiers.{position-Some}
use Rattle.std.proofs.lemmas.Option.{get_or_from_slice_get, slice_get-get_or, slice_get_within}
use Rattle.list_lemmas.proofs.Elements.{any-none}
use Rattle.list_lemmas.proofs.Sums.{count-cons}
use Rattle.plain_data.specs.Rows.{has_id}
use Rattle.plain_data.specs.Confs.{ConfView, IsConf}
use Rattle.plain_data.specs.declared.conf.NodeConf.{NodeConf}
use Rattle.node_state.specs.declared.record.Held.{Held}
use Rattle.node_state.specs.declared.record.NodeRecord.{NodeRecord}
use Rattle.node_state.specs.Held.{IsWithin, held_at, held_mem, holds_cpu}
use Rattle.node_state.specs.Nodes.{AreNamedOnce, NodesView, is_named, opened, place_named}
use Rattle.node_state.specs.Renewing.{FitsHeld, held_by_name, held_of}
use Rattle.job_table.specs.declared.record.JobRecord.{JobRecord}
use Rattle.job_table.specs.declared.record.Part.{Part}
use Rattle.job_table.specs.Changes.{is_on}
use Rattle.ctl_state.specs.Holding.{has_cpu, mem_held, mem_in, parts_of, times_held}
use Rattle.ctl_state.specs.Index.{ShowsParts}
use Rattle.ctl_state.specs.Soundness.{IsSound}
use Rattle.ctl_state.specs.State.{State}
use Rattle.ctl_reconfigure.specs.Blocking.{blocked, blocking_node, is_of, is_too_small}
use Rattle.ctl_reconfigure.specs.Names.{conf_names, new_place, node_names}
use Rattle.ctl_reconfigure.specs.Reconfiguring.{job_after, part_after}
use Rattle.ctl_reconfigure.proofs.NameLists.{bytes-same}
use Rattle.ctl_reconfigure.proofs.Places.{leads-itself}
use Rattle.ctl_reconfigure.proofs.Sound.{line-of_part, parts-after}
use Rattle.ctl_reconfigure.proofs.Unblocked.{HasLine, large-enough, mapped-at, member-at, no-blocks}

-- ---- sums of members that moved

sum-equal : {X Y : Type 0} (f : X → Y) (g : Y → ℕ) (h : X → ℕ) (xs : List X) → All (λ x. g (f x) ≡ h x) xs
    → sum_by g (map f xs) ≡ sum_by h xs
sum-equal f g h [] same = refl
sum-equal f g h (x ∷ xs) same = omega (
  arith,
  sum_by-cons g (f x) (map f xs),
  sum_by-cons h x xs,
  All-head (λ y. g (f y) ≡ h y) x xs same,
  sum-equal f g h xs (All-tail (λ y. g (f y) ≡ h y) x xs same),
)

sum-nothing : {X Y : Type 0} (f : X → Y) (g : Y → ℕ) (xs : List X) → All (λ x. g (f x) ≡ 0) xs
    → sum_by g (map f xs) ≡ 0
sum-nothing f g [] none = refl
sum-nothing f g (x ∷ xs) none = omega (
  arith,
  sum_by-cons g (f x) (map f xs),
  All-head (λ y. g (f y) ≡ 0) x xs none,
  sum-nothing f g xs (All-tail (λ y. g (f y) ≡ 0) x xs none),
)

both-true : (one other : Bool) → (one ≡ true → other ≡ true) → (other ≡ true → one ≡ true) → one ≡ other
both-true true true to from = refl
both-true false false to from = refl
both-true true false to from = sym (to refl)
both-true false true to from = from refl

not-true : (one : Bool) → (one ≡ true → ⊥) → one ≡ false
not-true true never = absurd (never refl)
not-true false never = refl

-- ---- where the node of a line was

-- the node of a name, where one has it
leads-from : (nodes : List NodeRecord) (name : List ℕ) (place : ℕ) (node : NodeRecord) → AreNamedOnce nodes
    → place < length nodes → slice_get nodes place ≡ Some node → node.conf.name ≡ name
    → place_named name nodes ≡ Some place
leads-from nodes name place node once inside at named = rw (← named) (leads-itself nodes place node once inside at)

-- the name at a place is that to which it leads
named-there : (nodes : List NodeRecord) (name : List ℕ) (place : ℕ) (node : NodeRecord)
    → place_named name nodes ≡ Some place → slice_get nodes place ≡ Some node → node.conf.name ≡ name
named-there nodes name place node leads at =
    let found = position-Some (is_named name) nodes place node leads in
    bytes-same node.conf.name name (rw (get_or_from_slice_get nodes place node node at) at found.1)

-- and it is there
leads-within : (nodes : List NodeRecord) (name : List ℕ) (place : ℕ) → place_named name nodes ≡ Some place
    → place < length nodes
leads-within [] name place leads = absurd (let never = leads in cc)
leads-within (first ∷ rest) name place leads = (position-Some (is_named name) (first ∷ rest) place first leads).0

lines-apart : (lines : List NodeConf) → AllPairs (λ (one other : NodeConf). one.name ≢ other.name) lines
    → (i j : ℕ) (one other : NodeConf) → slice_get lines i ≡ Some one → slice_get lines j ≡ Some other
    → one.name ≡ other.name → i ≡ j
lines-apart lines apart i j one other at there same = elim (order-of i j) [
  | inl before ↦ absurd (apart i j one before (slice_get_within lines j other there)
      (ap (λ (line : NodeConf). line.name) (get_or_from_slice_get lines i one one at)
      ∙ same ∙ sym (ap (λ (line : NodeConf). line.name) (get_or_from_slice_get lines j other one there))))
  | inr other_way ↦ elim other_way [
    | inl is ↦ is
    | inr behind ↦ absurd (apart j i one behind (slice_get_within lines i one at)
        (ap (λ (line : NodeConf). line.name) (get_or_from_slice_get lines j other one there)
        ∙ sym same ∙ sym (ap (λ (line : NodeConf). line.name) (get_or_from_slice_get lines i one one at))))
  ]
]
  where
    order-of : (i j : ℕ) → (i < j) ⊎ ((i ≡ j) ⊎ (j < i))
    order-of i j = elim (cases_Bool (ltb i j)) [
      | inl before ↦ inl (ltb-true i j before)
      | inr not_before ↦ elim (cases_Bool (ltb j i)) [
        | inl behind ↦ inr (inr (ltb-true j i behind))
        | inr neither ↦ inr (inl (omega (arith, ltb-false i j not_before, ltb-false j i neither)))
      ]
    ]

-- A part is on the node of a line after a new file where it was on the node of its name before.
part-on : (s : State) (conf : ConfView) (place from : ℕ) (line : NodeConf) (part : Part) → IsSound s
    → IsConf conf.nodes conf.partitions → slice_get conf.nodes place ≡ Some line
    → place_named line.name s.nodes ≡ Some from → part.node < length s.nodes → HasLine s conf part.node
    → is_on place (part_after s conf part) ≡ is_on from part
part-on s conf place from line part sound whole at leads inside has =
    let now = new_place (node_names s.nodes) (conf_names conf.nodes) part.node in
    both-true (is_on place (part_after s conf part)) (is_on from part)
    (λ on.
    let is : now ≡ place = eqb-true now place on in
    let same : has.line ≡ line = let mine = rw is at has.is in cc in
    let named : has.node.conf.name ≡ line.name = sym has.name ∙ ap (λ (line : NodeConf). line.name) same in
    let mine : place_named line.name s.nodes ≡ Some part.node =
    leads-from s.nodes line.name part.node has.node sound.nodes.named inside has.was named in
    let equal : part.node ≡ from = cc in
    eq-eqb part.node from equal)
    (λ on.
    let is : part.node ≡ from = eqb-true part.node from on in
    let was : slice_get s.nodes from ≡ Some has.node = rw (← is) has.was in
    let named : has.node.conf.name ≡ line.name = named-there s.nodes line.name from has.node leads was in
    eq-eqb now place
    (lines-apart conf.nodes whole.nodes_once now place has.line line has.is at (has.name ∙ named)))

part-off : (s : State) (conf : ConfView) (place : ℕ) (line : NodeConf) (part : Part) → IsSound s
    → slice_get conf.nodes place ≡ Some line → place_named line.name s.nodes ≡ None
    → part.node < length s.nodes → HasLine s conf part.node
    → is_on place (part_after s conf part) ≡ false
part-off s conf place line part sound at none inside has =
    let now = new_place (node_names s.nodes) (conf_names conf.nodes) part.node in
    not-true (is_on place (part_after s conf part))
    (λ on.
    let is : now ≡ place = eqb-true now place on in
    let same : has.line ≡ line = let mine = rw is at has.is in cc in
    let named : has.node.conf.name ≡ line.name = sym has.name ∙ ap (λ (line : NodeConf). line.name) same in
    let mine : place_named line.name s.nodes ≡ Some part.node =
    leads-from s.nodes line.name part.node has.node sound.nodes.named inside has.was named in
    let never : None ≡ Some part.node = sym none ∙ mine in cc)

-- no part is past the last line
part-past : (s : State) (conf : ConfView) (place : ℕ) (part : Part) → length conf.nodes ≤ place
    → HasLine s conf part.node → is_on place (part_after s conf part) ≡ false
part-past s conf place part past has =
    not-true (is_on place (part_after s conf part))
    (λ on. omega (
      arith,
      past,
      has.inside,
      eqb-true (new_place (node_names s.nodes) (conf_names conf.nodes) part.node) place on,
    ))

-- ---- what is held, by how parts stand

-- the row of a place where no part is
abbrev nothing : Held
nothing = record { cpus = []; mem = 0 }

-- what a row shows of the parts at a place
record ShowsAt (row : Held) (parts : List Part) (place : ℕ) : Type 0 where
  cpus : (cpu : ℕ) → has_id row.cpus cpu ≡ ltb 0 (times_held parts place cpu)
  mem : row.mem ≡ mem_held parts place

shows-nothing : (s : State) (conf : ConfView) (place : ℕ) (parts : List Part)
    → All (λ (part : Part). is_on place (part_after s conf part) ≡ false) parts
    → ShowsAt nothing (map (part_after s conf) parts) place
unfolding times_held mem_held
shows-nothing s conf place parts off = record {
  cpus = λ cpu.
      let none : sum_by (λ (part : Part). cond (has_cpu place cpu part) 1 0) (map (part_after s conf) parts) ≡ 0 =
      sum-nothing (part_after s conf) (λ (part : Part). cond (has_cpu place cpu part) 1 0) parts
      (λ k d below. rw (off k d below) refl) in
      rw none refl;
  mem = sym (sum-nothing (part_after s conf) (mem_in place) parts (λ k d below. rw (off k d below) refl));
}

shows-same : (s : State) (conf : ConfView) (place from : ℕ) (row : Held) (parts : List Part)
    → All (λ (part : Part). is_on place (part_after s conf part) ≡ is_on from part) parts
    → ShowsAt row parts from → ShowsAt row (map (part_after s conf) parts) place
unfolding times_held mem_held
shows-same s conf place from row parts on shows = record {
  cpus = λ cpu.
      let same : sum_by (λ (part : Part). cond (has_cpu place cpu part) 1 0) (map (part_after s conf) parts)
      ≡ sum_by (λ (part : Part). cond (has_cpu from cpu part) 1 0) parts =
      sum-equal (part_after s conf) (λ (part : Part). cond (has_cpu place cpu part) 1 0)
      (λ (part : Part). cond (has_cpu from cpu part) 1 0) parts (λ k d below. rw (on k d below) refl) in
      rw same (shows.cpus cpu);
  mem = shows.mem ∙ sym (sum-equal (part_after s conf) (mem_in place) (mem_in from) parts (λ k d below. rw (on k d below) refl));
}

past-end : (rows : List Held) (place : ℕ) → length rows ≤ place → held_at rows place ≡ nothing
past-end [] place past = refl
past-end (row ∷ rows) zero past = absurd (omega (arith, past))
past-end (row ∷ rows) (suc place) past = past-end rows place (omega (arith, past))

-- ---- the index

row-after : (s : State) (conf : ConfView) (nodes : NodesView) (place : ℕ) (line : NodeConf) → IsSound s
    → blocked s conf ≡ None → IsConf conf.nodes conf.partitions → nodes.records ≡ s.nodes
    → ShowsParts nodes.held (parts_of s.jobs) → slice_get conf.nodes place ≡ Some line
    → ShowsAt (held_by_name nodes line.name) (map (part_after s conf) (parts_of s.jobs)) place
row-after s conf nodes place line sound none whole records shows at =
    subst (λ records. ShowsAt (held_of nodes.held (place_named line.name records))
    (map (part_after s conf) (parts_of s.jobs)) place) (sym records)
    (by (place_named line.name s.nodes) refl)
  where
    by : (found : Option ℕ) → place_named line.name s.nodes ≡ found
        → ShowsAt (held_of nodes.held found) (map (part_after s conf) (parts_of s.jobs)) place
    by None is = shows-nothing s conf place (parts_of s.jobs)
        (λ k d below.
        let has = line-of_part s conf sound (no-blocks s conf none).0 k d below in
        part-off s conf place line (get_or (parts_of s.jobs) k d) sound at is has.0 has.1)
    by (Some from) is = shows-same s conf place from (held_at nodes.held from) (parts_of s.jobs)
        (λ k d below.
        let has = line-of_part s conf sound (no-blocks s conf none).0 k d below in
        part-on s conf place from line (get_or (parts_of s.jobs) k d) sound whole at is has.0 has.1)
        (record { cpus = λ cpu. shows.cpus from cpu; mem = shows.mem from })

pub index-after : (s : State) (conf : ConfView) (nodes : NodesView) → IsSound s → blocked s conf ≡ None
    → IsConf conf.nodes conf.partitions → nodes.records ≡ s.nodes → ShowsParts nodes.held (parts_of s.jobs)
    → ShowsParts (map (λ (line : NodeConf). held_by_name nodes line.name) conf.nodes)
    (parts_of (map (job_after s conf) s.jobs))
index-after s conf nodes sound none whole records shows =
    rw (parts-after s conf s.jobs) (record { cpus = λ place cpu. (at place).cpus cpu; mem = λ place. (at place).mem })
  where
    at : (place : ℕ) → ShowsAt (held_at (map (λ (line : NodeConf). held_by_name nodes line.name) conf.nodes) place)
        (map (part_after s conf) (parts_of s.jobs)) place
    at place = elim (cases_Bool (ltb place (length conf.nodes))) [
      | inl there ↦
          let (line, is) = member-at conf.nodes place (ltb-true place (length conf.nodes) there) in
          let row : held_at (map (λ (line : NodeConf). held_by_name nodes line.name) conf.nodes) place
          ≡ held_by_name nodes line.name =
          get_or_from_slice_get (map (λ (line : NodeConf). held_by_name nodes line.name) conf.nodes) place
          (held_by_name nodes line.name) nothing
          (mapped-at (λ (line : NodeConf). held_by_name nodes line.name) conf.nodes place line is) in
          subst (λ (row : Held). ShowsAt row (map (part_after s conf) (parts_of s.jobs)) place) (sym row)
          (row-after s conf nodes place line sound none whole records shows is)
      | inr past ↦
          let behind : length conf.nodes ≤ place = ltb-false place (length conf.nodes) past in
          let row : held_at (map (λ (line : NodeConf). held_by_name nodes line.name) conf.nodes) place ≡ nothing =
          past-end (map (λ (line : NodeConf). held_by_name nodes line.name) conf.nodes) place
          (omega (arith, behind, length-map conf.nodes (λ (line : NodeConf). held_by_name nodes line.name))) in
          subst (λ (row : Held). ShowsAt row (map (part_after s conf) (parts_of s.jobs)) place) (sym row)
          (shows-nothing s conf place (parts_of s.jobs)
          (λ k d below. part-past s conf place (get_or (parts_of s.jobs) k d) behind
          (line-of_part s conf sound (no-blocks s conf none).0 k d below).1))
    ]

-- ---- what is held fits the new lines

each-below : (ids : List ℕ) (bound : ℕ) → ((cpu : ℕ) → has_id ids cpu ≡ true → cpu < bound) → All (λ cpu. cpu < bound) ids
each-below [] bound each = All-nil (λ cpu. cpu < bound)
each-below (id ∷ ids) bound each = All-cons (λ cpu. cpu < bound) id ids
    (each id (or_left (eqb id id) (has_id ids id) (eq-eqb id id refl)))
    (each-below ids bound (λ cpu has. each cpu (or_right (eqb id cpu) (has_id ids cpu) has)))

id-below : (ids : List ℕ) (cpu bound : ℕ) → list_any (λ cpu. leb bound cpu) ids ≡ false → has_id ids cpu ≡ true
    → cpu < bound
id-below [] cpu bound none has = absurd (let never = has in cc)
id-below (id ∷ ids) cpu bound none has =
    let parts = or_parts (leb bound id) (list_any (λ cpu. leb bound cpu) ids) none in
    elim (or_cases (eqb id cpu) (has_id ids cpu) has) [
      | inl here ↦ omega (arith, eqb-true id cpu here, leb-false bound id parts.0)
      | inr later ↦ id-below ids cpu bound parts.1 later
    ]

-- a processor that is held stands below the processors of a line for which nothing is too much
abbrev too_many : ℕ → ℕ → Part → Bool
too_many from bound part = is_on from part && list_any (λ cpu. leb bound cpu) part.cpus

held-below : (parts : List Part) (from cpu bound : ℕ) → list_any (too_many from bound) parts ≡ false
    → 1 ≤ count_by (has_cpu from cpu) parts → cpu < bound
held-below [] from cpu bound none some = absurd (omega (arith, some))
held-below (part ∷ parts) from cpu bound none some =
    let fails = or_parts (too_many from bound part) (list_any (too_many from bound) parts) none in
    elim (cases_Bool (has_cpu from cpu part)) [
      | inl has ↦
          let both = and_parts (is_on from part) (list_any (λ id. eqb id cpu) part.cpus) has in
          id-below part.cpus cpu bound
          (second (is_on from part) (list_any (λ cpu. leb bound cpu) part.cpus) both.0 fails.0) both.1
      | inr other ↦
          let grown = count-cons (has_cpu from cpu) part parts in
          let none_here : ◌≡◌ {A = ℕ} (cond (has_cpu from cpu part) 1 0) 0 = rw other refl in
          held-below parts from cpu bound fails.1 (omega (arith, some, grown, none_here))
    ]
  where
    second : (b c : Bool) → b ≡ true → (b && c) ≡ false → c ≡ false
    second true c is fails = fails
    second false c is fails = absurd (let never = is in cc)

below-line : (parts : List Part) (from cpu bound : ℕ) → list_any (too_many from bound) parts ≡ false
    → 1 ≤ times_held parts from cpu → cpu < bound
unfolding times_held
below-line parts from cpu bound none some = held-below parts from cpu bound none some

row-within : (held : List Held) (parts : List Part) (from : ℕ) (line : NodeConf) → ShowsParts held parts
    → is_too_small parts from line ≡ false → IsWithin (opened line) (held_at held from)
row-within held parts from line shows large =
    let small = or_parts (list_any (too_many from line.cpus) parts) (ltb line.mem (mem_held parts from)) large in
    record {
      cpus = each-below (held_at held from).cpus line.cpus
          (λ cpu has. below-line parts from cpu line.cpus small.0
          (ltb-true 0 (times_held parts from cpu) (sym (shows.cpus from cpu) ∙ has)));
      mem = omega (arith, shows.mem from, ltb-false line.mem (mem_held parts from) small.1);
    }

line-within : (s : State) (conf : ConfView) (held : List Held) (k : ℕ) (line : NodeConf) (found : Option ℕ)
    → blocked s conf ≡ None → ShowsParts held (parts_of s.jobs) → k < length conf.nodes
    → slice_get conf.nodes k ≡ Some line → place_named line.name s.nodes ≡ found
    → IsWithin (opened line) (held_of held found)
line-within s conf held k line None none shows below at leads =
    record { cpus = All-nil (λ cpu. cpu < line.cpus); mem = omega arith }
line-within s conf held k line (Some from) none shows below at leads =
    let inside = leads-within s.nodes line.name from leads in
    let (node, is) = member-at s.nodes from inside in
    row-within held (parts_of s.jobs) from line shows
    (large-enough s conf from k node line (no-blocks s conf none).0 inside is below at
    (sym (named-there s.nodes line.name from node leads is)))

pub fits-held : (s : State) (conf : ConfView) (nodes : NodesView) → IsSound s → blocked s conf ≡ None
    → nodes.records ≡ s.nodes → ShowsParts nodes.held (parts_of s.jobs)
    → All (FitsHeld nodes) conf.nodes
fits-held s conf nodes sound none records shows k d below =
    let line = get_or conf.nodes k d in
    subst (λ records. IsWithin (opened line) (held_of nodes.held (place_named line.name records))) (sym records)
    (line-within s conf nodes.held k line (place_named line.name s.nodes) none shows below
    (slice_get-get_or conf.nodes k d below) refl)
