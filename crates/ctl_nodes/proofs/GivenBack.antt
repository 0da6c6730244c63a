-- What is given back of the parts on lost nodes, part by part.
use Rattle.std.proofs.Common.{ℕ, ◌≡◌, ◌+◌, ◌<◌, ◌≤◌, Bool, true, false, ◌&&◌, ◌||◌, not, cond, List, [], ◌∷◌, ◌++◌, length, sum_by, take, map, get_or, All, refl, sym, ap, ◌∙◌, arith}
use Rattle.std.specs.Prelude.{nat_eq}
use Rattle.std.specs.List.{list_any}
use Rattle.std.proofs.lemmas.Bool.{and_left, ne_eqb}
use Rattle.std.proofs.lemmas.Bool.Decides.{nat_tests}
use Rattle.std.proofs.lemmas.List.{append-nil, get_or-take, get_or_default, length-map, length-take-le}
use Rattle.std.proofs.lemmas.List.Concat.{get_or-flat_map}
use Rattle.std.proofs.lemmas.List.Elements.{All-filter, All-head, All-tail, All-weaker, filter_more}
use Rattle.std.proofs.lemmas.List.Folds.{length-flat_map-take, list_any-append, list_any_none}
use Rattle.std.proofs.lemmas.List.Sums.{sum_by-cons, sum_by_push}
use Rattle.plain_data.specs.Rows.{has_id}
use Rattle.node_state.specs.declared.record.Held.{Held}
use Rattle.node_state.specs.Held.{GivesBack, held_mem, holds_cpu}
use Rattle.job_table.specs.declared.record.Part.{Part}
use Rattle.job_table.specs.declared.record.JobRecord.{JobRecord}
use Rattle.job_table.specs.Changes.{is_on}
use Rattle.ctl_state.specs.Holding.{IsPartOf, OnNodesApart, has_cpu, mem_held, mem_in, parts_of}
use Rattle.ctl_state.specs.Index.{GivesParts}
use Rattle.ctl_state.specs.Laws.{PartsAreShown}
use Rattle.ctl_state.specs.Planning.{room_of}
use Rattle.ctl_state.specs.Soundness.{IsSound}
use Rattle.ctl_state.specs.State.{State}
use Rattle.ctl_nodes.specs.Failing.{HoldsParts, ShowsJobs, parts_lost}
use Rattle.list_lemmas.proofs.Numbers.{same-test}

pub none_given : (held : List Held) → GivesParts held [] held
unfolding mem_held
none_given held = record { cpus = λ node cpu. grind (arith, nat_tests); mem = λ node. omega arith }

-- one part more
both-gone : (held any on : Bool) → ((held && not any) && not on) ≡ (held && not (any || (on || false)))
both-gone true true on = refl
both-gone true false true = refl
both-gone true false false = refl
both-gone false any on = refl

pub gives_more : (before middle after : List Held) (gone : List Part) (part : Part) → GivesParts before gone middle
    → GivesBack middle part.node part.cpus part.mem after → GivesParts before (gone ++ part ∷ []) after
unfolding mem_held
gives_more before middle after gone part gives back = record {
  cpus = λ node cpu.
      back.cpus node cpu
      ∙ ap (λ held. held && not (nat_eq node part.node && has_id part.cpus cpu)) (gives.cpus node cpu)
      ∙ ap (λ on. (holds_cpu before node cpu && not (list_any (has_cpu node cpu) gone))
      && not (on && has_id part.cpus cpu)) (same-test node part.node)
      ∙ both-gone (holds_cpu before node cpu) (list_any (has_cpu node cpu) gone) (has_cpu node cpu part)
      ∙ ap (λ any. holds_cpu before node cpu && not any) (sym (list_any-append (has_cpu node cpu) gone (part ∷ [])));
  mem = λ node.
      let test : cond (nat_eq node part.node) part.mem 0 ≡ mem_in node part =
      ap (λ on. cond on part.mem 0) (same-test node part.node) in
      omega (arith, back.mem node, gives.mem node, sum_by_push (mem_in node) gone part, test);
}

-- one part more of the list, which is lost, or isn't
more-lost : (lost : ℕ → Bool) (parts : List Part) (k : ℕ) (part : Part) (b : Bool) → k < length parts
    → part ≡ get_or parts k part → lost part.node ≡ b
    → parts_lost lost (take (k + 1) parts) ≡ parts_lost lost (take k parts) ++ cond b (part ∷ []) []
more-lost lost parts k part b below is test =
    filter_more (λ (part : Part). lost part.node) parts k part below
    ∙ ap (λ (one : Part). parts_lost lost (take k parts) ++ cond (lost one.node) (one ∷ []) []) (sym is)
    ∙ ap (λ b. parts_lost lost (take k parts) ++ cond b (part ∷ []) []) test

pub gives_lost : (before middle after : List Held) (lost : ℕ → Bool) (parts : List Part) (k : ℕ) (part : Part)
    → k < length parts → part ≡ get_or parts k part → lost part.node ≡ true
    → GivesParts before (parts_lost lost (take k parts)) middle
    → GivesBack middle part.node part.cpus part.mem after
    → GivesParts before (parts_lost lost (take (k + 1) parts)) after
gives_lost before middle after lost parts k part below is test gives back =
    rw (more-lost lost parts k part true below is test)
    (gives_more before middle after (parts_lost lost (take k parts)) part gives back)

pub gives_others : (before middle : List Held) (lost : ℕ → Bool) (parts : List Part) (k : ℕ) (part : Part)
    → k < length parts → part ≡ get_or parts k part → lost part.node ≡ false
    → GivesParts before (parts_lost lost (take k parts)) middle
    → GivesParts before (parts_lost lost (take (k + 1) parts)) middle
gives_others before middle lost parts k part below is test gives =
    rw (more-lost lost parts k part false below is test, append-nil (parts_lost lost (take k parts))) gives

-- earlier parts are on other nodes, so what is held of this one is held still
abbrev Off : ℕ → Part → Type 0
Off node part = is_on node part ≡ false

earlier-off : (parts : List Part) (k : ℕ) (d : Part) → OnNodesApart parts → k < length parts
    → All (Off (get_or parts k d).node) (take k parts)
earlier-off parts k d apart below j e inside =
    let less : j < k = omega (arith, inside, length-take-le k parts (omega (arith, below))) in
    rw (get_or-take k parts j e less, get_or_default parts k d e below) (ne_eqb _ _ (apart j k e less below))

none-cpu : (node cpu : ℕ) (parts : List Part) → All (Off node) parts → list_any (has_cpu node cpu) parts ≡ false
none-cpu node cpu parts off =
    list_any_none (has_cpu node cpu) parts
    (All-weaker (Off node) (λ part. has_cpu node cpu part ≡ false)
    (λ part is. and_left (is_on node part) (list_any (λ id. nat_eq id cpu) part.cpus) is) parts off)

none-mem : (node : ℕ) (parts : List Part) → All (Off node) parts → mem_held parts node ≡ 0
unfolding mem_held
none-mem node [] off = refl
none-mem node (part ∷ parts) off =
    let here : mem_in node part ≡ 0 = rw (All-head (Off node) part parts off) refl in
    let rest : sum_by (mem_in node) parts ≡ 0 = none-mem node parts (All-tail (Off node) part parts off) in
    omega (arith, sum_by-cons (mem_in node) part parts, here, rest)

pub still_cpus : (before middle : List Held) (lost : ℕ → Bool) (parts : List Part) (k : ℕ) (part : Part)
    → OnNodesApart parts
    → k < length parts → part ≡ get_or parts k part → GivesParts before (parts_lost lost (take k parts)) middle
    → All (λ cpu. holds_cpu before part.node cpu ≡ true) part.cpus
    → All (λ cpu. holds_cpu middle part.node cpu ≡ true) part.cpus
still_cpus before middle lost parts k part apart below is gives held =
    let off : All (Off part.node) (take k parts) =
    rw (← is) at (earlier-off parts k part apart below) in
    let gone : All (Off part.node) (parts_lost lost (take k parts)) =
    All-filter (λ (part : Part). lost part.node) (Off part.node) (take k parts) off in
    All-weaker (λ cpu. holds_cpu before part.node cpu ≡ true) (λ cpu. holds_cpu middle part.node cpu ≡ true)
    (λ cpu has. gives.cpus part.node cpu
    ∙ rw (has, none-cpu part.node cpu (parts_lost lost (take k parts)) gone) refl) part.cpus held

pub still_mem : (before middle : List Held) (lost : ℕ → Bool) (parts : List Part) (k : ℕ) (part : Part)
    → OnNodesApart parts
    → k < length parts → part ≡ get_or parts k part → GivesParts before (parts_lost lost (take k parts)) middle
    → part.mem ≤ held_mem before part.node → part.mem ≤ held_mem middle part.node
still_mem before middle lost parts k part apart below is gives held =
    let off : All (Off part.node) (take k parts) =
    rw (← is) at (earlier-off parts k part apart below) in
    let gone : All (Off part.node) (parts_lost lost (take k parts)) =
    All-filter (λ (part : Part). lost part.node) (Off part.node) (take k parts) off in
    omega (arith, gives.mem part.node, none-mem part.node (parts_lost lost (take k parts)) gone)

-- what holds of all parts holds of those of each job
parts-at : (P : Part → Type 0) (jobs : List JobRecord) → All P (parts_of jobs)
    → All (λ (job : JobRecord). All P job.parts) jobs
parts-at P jobs all k d below j e inside =
    let held : JobRecord → List Part = λ job. job.parts in
    rw (get_or-flat_map held jobs k j d e below inside) at (all (length (parts_of (take k jobs)) + j) e
    (omega (arith, inside, length-flat_map-take held jobs k d below)))

pub parts_held : PartsAreShown → (held : List Held) (jobs : List JobRecord) (place : ℕ) (job : JobRecord)
    → place < length jobs → job ≡ get_or jobs place job → ShowsJobs held jobs
    → All (λ (part : Part). All (λ cpu. holds_cpu held part.node cpu ≡ true) part.cpus
    × part.mem ≤ held_mem held part.node) job.parts
parts_held shown held jobs place job below is shows =
    let Holds : Part → Type 0 = λ part. All (λ cpu. holds_cpu held part.node cpu ≡ true) part.cpus
    × part.mem ≤ held_mem held part.node in
    rw (← is) at (parts-at Holds jobs (shown (parts_of jobs) held shows.shown) place job below)

-- the parts of sound jobs are on nodes that differ and that there are
pub sound_holds : (s : State) → IsSound s → All (HoldsParts (length s.nodes)) s.jobs
sound_holds s sound k d below = record {
  there = λ j e inside. omega (
    arith,
    (parts-at (IsPartOf (map room_of s.nodes)) s.jobs sound.held.each k d below j e inside).node,
    length-map s.nodes room_of,
  );
  apart = (sound.jobs k d below).parts.apart;
  some = (sound.jobs k d below).parts.some;
}
