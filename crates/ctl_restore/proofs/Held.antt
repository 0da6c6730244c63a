-- What is held, part by part.
use Rattle.std.proofs.Common.{◌≡◌, ℕ, suc, ◌+◌, ◌-◌, ◌<◌, ◌≤◌, Bool, true, false, cond, if◌then◌else◌, not, ◌&&◌, ◌||◌, eqb, List, [], ◌∷◌, ◌++◌, length, map, take, drop, All, AllPairs, get_or, HoldsAt, refl, sym, ap, ◌∙◌, arith, inl, inr}
use Rattle.std.specs.Prelude.{Some, filter, nat_eq, nat_lt, nat_le, slice_get}
use Rattle.std.specs.List.{range_with_len}
use Rattle.std.proofs.lemmas.Bool.{and_parts, cases_Bool, eq-eqb, eqb-true}
use Rattle.std.proofs.lemmas.Bool.Decides.{nat_tests}
use Rattle.std.proofs.lemmas.List.{append_assoc, append-nil, get_or-map, length-map, take-append-drop, take_all, take_more}
use Rattle.std.proofs.lemmas.List.Concat.{flat_map-append}
use Rattle.std.proofs.lemmas.List.Elements.{All-append, All-cons, All-head, All-nil}
use Rattle.std.proofs.lemmas.List.FromFn.{length-range_with_len}
use Rattle.std.proofs.lemmas.Option.{get_or_from_slice_get, slice_get_within}
use Rattle.std.proofs.lemmas.List.Folds.{list_any_at}
use Rattle.std.proofs.lemmas.List.Sums.{sum_by-append}
use Rattle.plain_data.specs.Rows.{has_id, others_below}
use Rattle.resource_profile.specs.declared.NodeRoom.{NodeRoom}
use Rattle.node_state.specs.declared.record.Held.{Held}
use Rattle.node_state.specs.declared.record.NodeRecord.{NodeRecord}
use Rattle.node_state.specs.Held.{GivesBack, Takes, free_cpus, held_at, held_mem, holds_cpu}
use Rattle.job_table.specs.declared.record.JobRecord.{JobRecord}
use Rattle.job_table.specs.declared.record.Part.{Part}
use Rattle.ctl_state.specs.Holding.{IsHeldOnce, IsPartOf, cpus_of, has_cpu, mem_held, mem_in, mem_of, parts_of, times_held}
use Rattle.ctl_state.specs.Index.{ShowsParts}
use Rattle.ctl_state.specs.Planning.{room_of}
use Rattle.ctl_restore.specs.Steps.{Holds, IsFree}
use Rattle.ctl_restore.proofs.Rising.{has_id-filter, has_id-range}
use Rattle.list_lemmas.proofs.Filters.{filter-less}
use Rattle.list_lemmas.proofs.Elements.{all-left, all-right}
use Rattle.list_lemmas.proofs.Numbers.{same-test}

-- the numbers below a bound that aren't among some
range-below : (n k : ℕ) → (nat_le 0 k && nat_lt k (0 + n)) ≡ nat_lt k n
range-below n k = grind (arith, nat_tests)

pub has-others : (bound : ℕ) (ids : List ℕ) (cpu : ℕ)
    → has_id (others_below bound ids) cpu ≡ (nat_lt cpu bound && not (has_id ids cpu))
unfolding others_below
has-others bound ids cpu =
    has_id-filter (λ n. not (has_id ids n)) (range_with_len 0 bound) cpu
    ∙ ap (λ b. b && not (has_id ids cpu)) (has_id-range 0 bound cpu ∙ range-below bound cpu)

-- what is taken of all that is free is held besides, once the rest is given back
just-these : (held free these : Bool) → (these ≡ true → free ≡ true) → (free ≡ true → held ≡ false)
    → ((held || free) && not (free && not these)) ≡ (held || these)
just-these true true these sub free = absurd (let no = free refl in cc)
just-these true false true sub free = absurd (let no = sub refl in cc)
just-these true false false sub free = refl
just-these false true true sub free = refl
just-these false true false sub free = refl
just-these false false true sub free = absurd (let no = sub refl in cc)
just-these false false false sub free = refl

elsewhere : (held : Bool) → ((held || false) && not false) ≡ (held || false)
elsewhere true = refl
elsewhere false = refl

nothing-less : (here : Bool) (n : ℕ) → n - (if here then 0 else 0) ≡ n
nothing-less true n = omega arith
nothing-less false n = omega arith

pub takes-just : (before middle after : List Held) (place mem : ℕ) (free rest ids : List ℕ)
    → Takes before place free mem middle → GivesBack middle place rest 0 after
    → ((cpu : ℕ) → has_id rest cpu ≡ (has_id free cpu && not (has_id ids cpu)))
    → ((cpu : ℕ) → has_id ids cpu ≡ true → has_id free cpu ≡ true)
    → ((cpu : ℕ) → has_id free cpu ≡ true → holds_cpu before place cpu ≡ false)
    → Takes before place ids mem after
takes-just before middle after place mem free rest ids takes gives left sub unheld = record {
  cpus = λ node cpu.
      gives.cpus node cpu
      ∙ ap (λ held. held && not (nat_eq node place && has_id rest cpu)) (takes.cpus node cpu)
      ∙ at node cpu (nat_eq node place) refl;
  mem = λ node. gives.mem node ∙ nothing-less (nat_eq node place) (held_mem middle node) ∙ takes.mem node;
}
  where
    at : (node cpu : ℕ) (here : Bool) → nat_eq node place ≡ here
        → ((holds_cpu before node cpu || (here && has_id free cpu)) && not (here && has_id rest cpu))
        ≡ (holds_cpu before node cpu || (here && has_id ids cpu))
    at node cpu true is =
        let same : node ≡ place = eqb-true node place is in
        ap (λ rest. (holds_cpu before node cpu || has_id free cpu) && not rest) (left cpu)
        ∙ just-these (holds_cpu before node cpu) (has_id free cpu) (has_id ids cpu) (sub cpu)
        (λ has. ap (λ at. holds_cpu before at cpu) same ∙ unheld cpu has)
    at node cpu false is = elsewhere (holds_cpu before node cpu)

-- ---- parts

times-append : (parts more : List Part) (node cpu : ℕ)
    → times_held (parts ++ more) node cpu ≡ times_held parts node cpu + times_held more node cpu
unfolding times_held
times-append parts more node cpu = sum_by-append (λ part. cond (has_cpu node cpu part) 1 0) parts more

mem-append : (parts more : List Part) (node : ℕ) → mem_held (parts ++ more) node ≡ mem_held parts node + mem_held more node
unfolding mem_held
mem-append parts more node = sum_by-append (mem_in node) parts more

times-one : (part : Part) (node cpu : ℕ) → times_held (part ∷ []) node cpu ≡ cond (has_cpu node cpu part) 1 0
unfolding times_held
times-one part node cpu = at (has_cpu node cpu part) where
  at : (has : Bool) → 0 + cond has 1 0 ≡ cond has 1 0
  at true = refl
  at false = refl

mem-one : (part : Part) (node : ℕ) → mem_held (part ∷ []) node ≡ mem_in node part
unfolding mem_held
mem-one part node = at (mem_in node part) where
  at : (n : ℕ) → 0 + n ≡ n
  at n = omega arith

-- some of what is held once is
pub held-left : (rooms : List NodeRoom) (parts more : List Part) → IsHeldOnce rooms (parts ++ more) → IsHeldOnce rooms parts
held-left rooms parts more held = record {
  each = all-left (IsPartOf rooms) parts more held.each;
  once = λ node cpu. omega (arith, held.once node cpu, times-append parts more node cpu);
  mem = λ node. omega (arith, held.mem node, mem-append parts more node);
}

one-more : (times : ℕ) (has : Bool) → (nat_lt 0 times || has) ≡ nat_lt 0 (times + cond has 1 0)
one-more times true = grind (arith, nat_tests)
one-more times false = grind (arith, nat_tests)

not-held : (times : ℕ) → nat_lt 0 times ≡ false → times ≡ 0
not-held times none = grind (arith, nat_tests)

pub among : (P : ℕ → Type 0) (ids : List ℕ) (cpu : ℕ) → All P ids → has_id ids cpu ≡ true → P cpu
among P [] cpu all has = absurd cc
among P (id ∷ ids) cpu all has = elim (cases_Bool (eqb id cpu)) as (λ _. P cpu) [
  | inl here ↦ rw (eqb-true id cpu here) at (All-head P id ids all)
  | inr other ↦ among P ids cpu (λ k d inside. all (suc k) d (omega (arith, inside))) (rw other at has)
]

-- a part that asks for what is free is held once beside the others
pub takes-one : (rooms : List NodeRoom) (before after : List Held) (part : Part)
    → Takes before part.node part.cpus part.mem after → IsFree rooms before part
    → Holds rooms before after (part ∷ []) true
takes-one rooms before after part takes free = record {
  taken = λ yes parts shows held. (shown parts shows, once parts shows held);
  refused = λ no parts shows held. absurd (let never = no in cc);
}
  where
    shown : (parts : List Part) → ShowsParts before parts → ShowsParts after (parts ++ part ∷ [])
    shown parts shows = record {
      cpus = λ node cpu.
          takes.cpus node cpu
          ∙ ap (λ held. held || (nat_eq node part.node && has_id part.cpus cpu)) (shows.cpus node cpu)
          ∙ ap (λ here. nat_lt 0 (times_held parts node cpu) || (here && has_id part.cpus cpu))
          (same-test node part.node)
          ∙ one-more (times_held parts node cpu) (has_cpu node cpu part)
          ∙ ap (nat_lt 0)
          (ap (λ more. times_held parts node cpu + more) (sym (times-one part node cpu))
          ∙ sym (times-append parts (part ∷ []) node cpu));
      mem = λ node.
          takes.mem node
          ∙ ap (λ here. held_mem before node + cond here part.mem 0) (same-test node part.node)
          ∙ ap (λ held. held + mem_in node part) (shows.mem node)
          ∙ ap (λ more. mem_held parts node + more) (sym (mem-one part node))
          ∙ sym (mem-append parts (part ∷ []) node);
    }

    none : (parts : List Part) → ShowsParts before parts → (node cpu : ℕ) → has_cpu node cpu part ≡ true
        → times_held parts node cpu ≡ 0
    none parts shows node cpu has =
        let both = and_parts (eqb part.node node) (has_id part.cpus cpu) has in
        let unheld : holds_cpu before part.node cpu ≡ false =
        among (λ cpu. holds_cpu before part.node cpu ≡ false) part.cpus cpu free.cpus both.1 in
        let here : holds_cpu before node cpu ≡ false =
        ap (λ at. holds_cpu before at cpu) (sym (eqb-true part.node node both.0)) ∙ unheld in
        not-held (times_held parts node cpu) (sym (shows.cpus node cpu) ∙ here)

    once : (parts : List Part) → ShowsParts before parts → IsHeldOnce rooms parts
        → IsHeldOnce rooms (parts ++ part ∷ [])
    once parts shows held = record {
      each = All-append (IsPartOf rooms) parts (part ∷ []) held.each
          (All-cons (IsPartOf rooms) part [] free.of (All-nil (IsPartOf rooms)));
      once = λ node cpu. times-most node cpu (has_cpu node cpu part) refl;
      mem = λ node. mem-most node (eqb part.node node) refl;
    }
      where
        times-most : (node cpu : ℕ) (has : Bool) → has_cpu node cpu part ≡ has
            → times_held (parts ++ part ∷ []) node cpu ≤ 1
        times-most node cpu true is = omega (
          arith,
          times-append parts (part ∷ []) node cpu,
          times-one part node cpu,
          ap {B = ℕ} (λ has. cond has 1 0) is,
          none parts shows node cpu is,
        )
        times-most node cpu false is = omega (
          arith,
          times-append parts (part ∷ []) node cpu,
          times-one part node cpu,
          ap {B = ℕ} (λ has. cond has 1 0) is,
          held.once node cpu,
        )

        mem-most : (node : ℕ) (here : Bool) → eqb part.node node ≡ here
            → mem_held (parts ++ part ∷ []) node ≤ mem_of rooms node
        mem-most node true is =
            let same : part.node ≡ node = eqb-true part.node node is in
            let room : held_mem before node + part.mem ≤ mem_of rooms node = rw same at free.mem in
            omega (
              arith,
              mem-append parts (part ∷ []) node,
              mem-one part node,
              ap {B = ℕ} (λ here. cond here part.mem 0) is,
              shows.mem node,
              room,
            )
        mem-most node false is = omega (
          arith,
          mem-append parts (part ∷ []) node,
          mem-one part node,
          ap {B = ℕ} (λ here. cond here part.mem 0) is,
          held.mem node,
        )

-- a part that is held once beside the others asks for what is free
pub is-free : (rooms : List NodeRoom) (held : List Held) (parts : List Part) (part : Part) → ShowsParts held parts
    → IsHeldOnce rooms (parts ++ part ∷ []) → IsFree rooms held part
is-free rooms held parts part shows once = record {
  of = All-head (IsPartOf rooms) part [] (all-right (IsPartOf rooms) parts (part ∷ []) once.each);
  cpus = λ k d inside.
      let cpu = get_or part.cpus k d in
      let has : has_cpu part.node cpu part ≡ true =
      rw (eq-eqb part.node part.node refl) (list_any_at (λ id. eqb id cpu) part.cpus k d inside (eq-eqb cpu cpu refl)) in
      let most = once.once part.node cpu in
      shows.cpus part.node cpu
      ∙ unheld (times_held parts part.node cpu)
      (omega (
        arith,
        most,
        times-append parts (part ∷ []) part.node cpu,
        times-one part part.node cpu,
        ap {B = ℕ} (λ has. cond has 1 0) has,
      ));
  mem =
      let here : mem_in part.node part ≡ part.mem = rw (eq-eqb part.node part.node refl) refl in
      omega (
        arith,
        once.mem part.node,
        mem-append parts (part ∷ []) part.node,
        mem-one part part.node,
        here,
        shows.mem part.node,
      );
}
  where
    unheld : (times : ℕ) → times ≡ 0 → nat_lt 0 times ≡ false
    unheld times none = grind (arith, nat_tests)

pub refuses-one : (rooms : List NodeRoom) (before after : List Held) (part : Part) → (IsFree rooms before part → ⊥)
    → Holds rooms before after (part ∷ []) false
refuses-one rooms before after part never = record {
  taken = λ yes parts shows held. absurd (let no = yes in cc);
  refused = λ no parts shows held. never (is-free rooms before parts part shows held);
}

-- nothing more is held where there are no more parts
pub holds-nothing : (rooms : List NodeRoom) (held : List Held) → Holds rooms held held [] true
holds-nothing rooms held = record {
  taken = λ yes parts shows once. (rw (append-nil parts) shows, rw (append-nil parts) once);
  refused = λ no parts shows once. absurd (let never = no in cc);
}

-- some parts, and then more
pub holds-more : (rooms : List NodeRoom) (before middle after : List Held) (some more : List Part) (r : Bool)
    → Holds rooms before middle some true → Holds rooms middle after more r
    → Holds rooms before after (some ++ more) r
holds-more rooms before middle after some more r one next = record {
  taken = λ yes parts shows held.
      let first = one.taken refl parts shows held in
      let second = next.taken yes (parts ++ some) first.0 first.1 in
      (rw (append_assoc parts some more) at second.0, rw (append_assoc parts some more) at second.1);
  refused = λ no parts shows held.
      let all : IsHeldOnce rooms ((parts ++ some) ++ more) = rw (append_assoc parts some more) held in
      let before-it : IsHeldOnce rooms parts = held-left rooms parts (some ++ more) held in
      next.refused no (parts ++ some) (one.taken refl parts shows before-it).0 all;
}

-- where some are refused, all are
pub holds-not : (rooms : List NodeRoom) (before after : List Held) (some more : List Part)
    → Holds rooms before after some false → Holds rooms before after (some ++ more) false
holds-not rooms before after some more one = record {
  taken = λ yes parts shows held. absurd (let no = yes in cc);
  refused = λ no parts shows held.
      let all : IsHeldOnce rooms ((parts ++ some) ++ more) = rw (append_assoc parts some more) held in
      one.refused refl parts shows (held-left rooms (parts ++ some) more all);
}

-- ---- rooms of nodes

pub room-cpus : (nodes : List NodeRecord) (place : ℕ) (d : NodeRecord) → place < length nodes
    → cpus_of (map room_of nodes) place ≡ (get_or nodes place d).conf.cpus
room-cpus nodes place d within = ap (λ (room : NodeRoom). room.cpus) (get_or-map room_of nodes place d _ within)

pub room-mem : (nodes : List NodeRecord) (place : ℕ) (d : NodeRecord) → place < length nodes
    → mem_of (map room_of nodes) place ≡ (get_or nodes place d).conf.mem
room-mem nodes place d within = ap (λ (room : NodeRoom). room.mem) (get_or-map room_of nodes place d _ within)

-- ---- rows of numbers

pub has-member : (ids : List ℕ) (k : ℕ) (d : ℕ) → k < length ids → has_id ids (get_or ids k d) ≡ true
has-member ids k d inside = list_any_at (λ id. eqb id (get_or ids k d)) ids k d inside (eq-eqb (get_or ids k d) (get_or ids k d) refl)

-- all are among others exactly where nothing is left of them without these
pub none-left : (ids others rest : List ℕ) → ((n : ℕ) → has_id rest n ≡ (has_id ids n && not (has_id others n)))
    → rest ≡ [] → All (λ id. has_id others id ≡ true) ids
none-left ids others rest left none k d inside = at (has_id others (get_or ids k d)) refl where
  at : (b : Bool) → has_id others (get_or ids k d) ≡ b → has_id others (get_or ids k d) ≡ true
  at true is = is
  at false is =
      let gone : has_id [] (get_or ids k d) ≡ true =
      ap (λ rest. has_id rest (get_or ids k d)) (sym none) ∙ left (get_or ids k d)
      ∙ ap (λ has. has && not (has_id others (get_or ids k d))) (has-member ids k d inside)
      ∙ ap not is in
      absurd (let never = gone in cc)

pub left-none : (ids others rest : List ℕ) → ((n : ℕ) → has_id rest n ≡ (has_id ids n && not (has_id others n)))
    → All (λ id. has_id others id ≡ true) ids → rest ≡ []
left-none ids others [] left all = refl
left-none ids others (n ∷ rest) left all =
    let here : has_id (n ∷ rest) n ≡ true = has-member (n ∷ rest) 0 n (omega arith) in
    let both = and_parts (has_id ids n) (not (has_id others n)) (sym (left n) ∙ here) in
    let among-these : has_id others n ≡ true = among (λ id. has_id others id ≡ true) ids n all both.0 in
    absurd (let never : not true ≡ true = ap not (sym among-these) ∙ both.1 in cc)

-- what is free of a node isn't held, and all of it is taken by its number
pub free-unheld : (nodes : List NodeRecord) (held : List Held) (place : ℕ) (free : List ℕ) → place < length nodes
    → HoldsAt (λ (node : NodeRecord). free ≡ free_cpus node (held_at held place)) nodes place
    → (cpu : ℕ) → has_id free cpu ≡ true → holds_cpu held place cpu ≡ false
free-unheld [] held place free inside is cpu has = absurd (omega (arith, inside))
free-unheld (node ∷ nodes) held place free inside is cpu has =
    let one = get_or (node ∷ nodes) place node in
    let both = and_parts (nat_lt cpu one.conf.cpus) (not (holds_cpu held place cpu))
    (sym (has-others one.conf.cpus (held_at held place).cpus cpu) ∙ ap (λ free. has_id free cpu) (sym (is node)) ∙ has) in
    unless (holds_cpu held place cpu) both.1
  where
    unless : (b : Bool) → not b ≡ true → b ≡ false
    unless true is = absurd (let never = is in cc)
    unless false is = refl

pub taken-all : (nodes : List NodeRecord) (held : List Held) (place count : ℕ) (taken free : List ℕ)
    → place < length nodes
    → HoldsAt (λ (node : NodeRecord). taken ≡ take count (free_cpus node (held_at held place))) nodes place
    → HoldsAt (λ (node : NodeRecord). free ≡ free_cpus node (held_at held place)) nodes place
    → count ≡ length free → taken ≡ free
taken-all [] held place count taken free inside lowest is long = absurd (omega (arith, inside))
taken-all (node ∷ nodes) held place count taken free inside lowest is long =
    lowest node ∙ ap (take count) (sym (is node)) ∙ take_all count free (omega (arith, long))

-- what is free of the node at a place, and whether a part asks for that alone
pub all-free : (bound : ℕ) (ids : List ℕ) → take bound (others_below bound ids) ≡ others_below bound ids
unfolding others_below
all-free bound ids =
    take_all bound (filter (λ n. not (has_id ids n)) (range_with_len 0 bound))
    (omega (
      arith,
      filter-less (λ n. not (has_id ids n)) (range_with_len 0 bound),
      length-range_with_len 0 bound,
    ))

pub free-here : (nodes : List NodeRecord) (held : List Held) (place : ℕ) (node : NodeRecord) (free : List ℕ)
    → slice_get nodes place ≡ Some node → free ≡ take node.conf.cpus (free_cpus node (held_at held place))
    → HoldsAt (λ (node : NodeRecord). free ≡ free_cpus node (held_at held place)) nodes place
free-here nodes held place node free there lowest d =
    rw (get_or_from_slice_get nodes place node d there)
    (lowest ∙ all-free node.conf.cpus (held_at held place).cpus)

pub fits-free : (nodes : List NodeRecord) (held : List Held) (part : Part) (node : NodeRecord) (free : List ℕ)
    → slice_get nodes part.node ≡ Some node → free ≡ take node.conf.cpus (free_cpus node (held_at held part.node))
    → AllPairs (λ one other. one < other) part.cpus → All (λ id. has_id free id ≡ true) part.cpus
    → held_mem held part.node + part.mem ≤ node.conf.mem → IsFree (map room_of nodes) held part
fits-free nodes held part node free there lowest rising all room =
    record {
      of = record {
        node = omega (arith, inside, length-map nodes room_of);
        rising = rising;
        cpus = λ k d below. (one k d below).0;
      };
      cpus = λ k d below. (one k d below).1;
      mem = rw (room-mem nodes part.node node inside, here) room;
    }
  where
    inside : part.node < length nodes
    inside = slice_get_within nodes part.node node there

    here : get_or nodes part.node node ≡ node
    here = get_or_from_slice_get nodes part.node node node there

    is : free ≡ others_below node.conf.cpus (held_at held part.node).cpus
    is = lowest ∙ all-free node.conf.cpus (held_at held part.node).cpus

    one : (k d : ℕ) → k < length part.cpus
        → (get_or part.cpus k d < cpus_of (map room_of nodes) part.node)
        × (holds_cpu held part.node (get_or part.cpus k d) ≡ false)
    one k d below =
        let cpu = get_or part.cpus k d in
        let both = and_parts (nat_lt cpu node.conf.cpus) (not (holds_cpu held part.node cpu))
        (sym (has-others node.conf.cpus (held_at held part.node).cpus cpu)
        ∙ ap (λ free. has_id free cpu) (sym is) ∙ all k d below) in
        let low : cpu < node.conf.cpus = less cpu node.conf.cpus both.0 in
        (rw (room-cpus nodes part.node node inside, here) low, unless (holds_cpu held part.node cpu) both.1)
      where
        less : (a b : ℕ) → nat_lt a b ≡ true → a < b
        less a b below = grind (arith, nat_tests)

        unless : (b : Bool) → not b ≡ true → b ≡ false
        unless true kept = absurd (let never = kept in cc)
        unless false kept = refl

pub free-fits : (nodes : List NodeRecord) (held : List Held) (part : Part) (node : NodeRecord) (free : List ℕ)
    → slice_get nodes part.node ≡ Some node → free ≡ take node.conf.cpus (free_cpus node (held_at held part.node))
    → IsFree (map room_of nodes) held part
    → All (λ id. has_id free id ≡ true) part.cpus × held_mem held part.node + part.mem ≤ node.conf.mem
free-fits nodes held part node free there lowest fits = (
  λ k d below.
      let cpu = get_or part.cpus k d in
      let low : cpu < node.conf.cpus = rw (room-cpus nodes part.node node inside, here) at (fits.of.cpus k d below) in
      ap (λ free. has_id free cpu) is ∙ has-others node.conf.cpus (held_at held part.node).cpus cpu
      ∙ both cpu node.conf.cpus (holds_cpu held part.node cpu) low (fits.cpus k d below),
  rw (room-mem nodes part.node node inside, here) at fits.mem,
)
  where
    inside : part.node < length nodes
    inside = slice_get_within nodes part.node node there

    here : get_or nodes part.node node ≡ node
    here = get_or_from_slice_get nodes part.node node node there

    is : free ≡ others_below node.conf.cpus (held_at held part.node).cpus
    is = lowest ∙ all-free node.conf.cpus (held_at held part.node).cpus

    both : (a b : ℕ) (held : Bool) → a < b → held ≡ false → (nat_lt a b && not held) ≡ true
    both a b held below unheld = rw unheld (grind (arith, nat_tests))

-- ---- parts one after the other

pub holds-same : (rooms : List NodeRoom) (before after : List Held) (some all : List Part) (r : Bool) → some ≡ all
    → Holds rooms before after some r → Holds rooms before after all r
holds-same rooms before after some all r is holds = rw is at holds

pub one-on : {X : Type 0} (xs : List X) (i : ℕ) (x : X) → i < length xs → x ≡ get_or xs i x
    → take i xs ++ x ∷ [] ≡ take (i + 1) xs
one-on xs i x inside is = ap (λ last. take i xs ++ last ∷ []) is ∙ sym (take_more xs i x inside)

pub split-at : {X : Type 0} (xs : List X) (i : ℕ) (x : X) → i < length xs → x ≡ get_or xs i x
    → (take i xs ++ x ∷ []) ++ drop (i + 1) xs ≡ xs
split-at xs i x inside is =
    ap (λ front. front ++ drop (i + 1) xs) (one-on xs i x inside is) ∙ take-append-drop (i + 1) xs

pub parts-on : (jobs : List JobRecord) (i : ℕ) (job : JobRecord) → i < length jobs → job ≡ get_or jobs i job
    → parts_of (take i jobs) ++ job.parts ≡ parts_of (take (i + 1) jobs)
parts-on jobs i job inside is =
    ap (λ last. parts_of (take i jobs) ++ last) (sym (append-nil job.parts))
    ∙ sym (flat_map-append (λ (job : JobRecord). job.parts) (take i jobs) (job ∷ []))
    ∙ ap parts_of (one-on jobs i job inside is)

pub parts-split : (jobs : List JobRecord) (i : ℕ) (job : JobRecord) → i < length jobs → job ≡ get_or jobs i job
    → (parts_of (take i jobs) ++ job.parts) ++ parts_of (drop (i + 1) jobs) ≡ parts_of jobs
parts-split jobs i job inside is =
    ap (λ front. front ++ parts_of (drop (i + 1) jobs)) (parts-on jobs i job inside is)
    ∙ sym (flat_map-append (λ (job : JobRecord). job.parts) (take (i + 1) jobs) (drop (i + 1) jobs))
    ∙ ap parts_of (take-append-drop (i + 1) jobs)
