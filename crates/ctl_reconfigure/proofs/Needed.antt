-- What parts need of nodes, as the index shows it and as rows of places have it.
use Rattle.std.proofs.Common.{◌≡◌, ℕ, ◌+◌, ◌<◌, ◌≤◌, Bool, true, false, eqb, ltb, leb, ◌&&◌, ◌||◌, List, [], ◌∷◌, ◌++◌, length, map, take, get_or, All, subst, refl, sym, ap, ◌∙◌, arith}
use Rattle.std.specs.List.{list_any}
use Rattle.std.proofs.lemmas.Bool.{and_from, and_parts}
use Rattle.std.proofs.lemmas.List.{append-nil, length-map, take_more}
use Rattle.std.proofs.lemmas.List.Concat.{flat_map-append}
use Rattle.std.proofs.lemmas.List.Folds.{list_any-append}
use Rattle.plain_data.specs.Rows.{has_id}
use Rattle.node_state.specs.declared.record.Held.{Held}
use Rattle.node_state.specs.Held.{held_at}
use Rattle.job_table.specs.declared.record.JobRecord.{JobRecord}
use Rattle.job_table.specs.declared.record.Part.{Part}
use Rattle.job_table.specs.Changes.{is_on}
use Rattle.plain_data.specs.declared.conf.NodeConf.{NodeConf}
use Rattle.ctl_state.specs.Holding.{has_cpu, mem_held, parts_of, times_held}
use Rattle.ctl_state.specs.Index.{ShowsParts}
use Rattle.ctl_state.specs.Planning.{room_of}
use Rattle.ctl_state.specs.Soundness.{IsSound}
use Rattle.ctl_state.specs.State.{State}
use Rattle.ctl_reconfigure.specs.Blocking.{is_too_small}
use Rattle.ctl_reconfigure.proofs.Anys.{any-from, both-ways, counted, member, passing}

-- the parts of one more job
pub parts-more : (p : Part → Bool) (jobs : List JobRecord) (k : ℕ) (job : JobRecord) → k < length jobs
    → job ≡ get_or jobs k job
    → list_any p (parts_of (take (k + 1) jobs)) ≡ (list_any p (parts_of (take k jobs)) || list_any p job.parts)
parts-more p jobs k job inside is =
    let parts : JobRecord → List Part = λ (job : JobRecord). job.parts in
    let more : parts_of (take (k + 1) jobs) ≡ parts_of (take k jobs) ++ job.parts =
    ap parts_of (take_more jobs k job inside ∙ ap (λ one. take k jobs ++ one ∷ []) (sym is))
    ∙ flat_map-append parts (take k jobs) (job ∷ [])
    ∙ ap (λ last. parts_of (take k jobs) ++ last) (append-nil job.parts) in
    ap (list_any p) more ∙ list_any-append p (parts_of (take k jobs)) job.parts

pub parts-grown : (p : Part → Bool) (jobs : List JobRecord) (k : ℕ) (job : JobRecord) (was now : Bool) → k < length jobs
    → job ≡ get_or jobs k job → was ≡ list_any p (parts_of (take k jobs)) → now ≡ (was || list_any p job.parts)
    → now ≡ list_any p (parts_of (take (k + 1) jobs))
parts-grown p jobs k job was now inside is before after =
    after ∙ ap (λ b. b || list_any p job.parts) before ∙ sym (parts-more p jobs k job inside is)

-- parts are on nodes that have a bit in a row
pub parts-below : (s : State) → IsSound s → All (λ (part : Part). part.node < 1024) (parts_of s.jobs)
parts-below s sound k d below =
    omega (arith, (sound.held.each k d below).node, length-map s.nodes room_of, sound.nodes.named.few)

pub parts-small : (s : State) (jobs : List JobRecord) → jobs ≡ s.jobs → IsSound s
    → All (λ (part : Part). part.node < 1024) (parts_of jobs)
parts-small s jobs same sound =
    subst (λ (jobs : List JobRecord). All (λ (part : Part). part.node < 1024) (parts_of jobs)) (sym same)
    (parts-below s sound)

-- the processor of a node stands in a part
times : (parts : List Part) (place cpu : ℕ) → ltb 0 (times_held parts place cpu) ≡ list_any (has_cpu place cpu) parts
unfolding times_held
times parts place cpu = counted (has_cpu place cpu) parts

-- the index shows whether a processor that is the bound or above it is held
reaching : (held : List Held) (parts : List Part) (place bound : ℕ) → ShowsParts held parts
    → list_any (λ cpu. leb bound cpu) (held_at held place).cpus
    ≡ list_any (λ (part : Part). is_on place part && list_any (λ cpu. leb bound cpu) part.cpus) parts
reaching held parts place bound shows = both-ways _ _
    (λ some.
    let (cpu, has, above) = passing (λ cpu. leb bound cpu) (held_at held place).cpus some in
    let stands : list_any (has_cpu place cpu) parts ≡ true =
    sym (times parts place cpu) ∙ sym (shows.cpus place cpu) ∙ has in
    let (part, its, others) = member (has_cpu place cpu) parts stands in
    let both = and_parts (is_on place part) (has_id part.cpus cpu) its in
    others (λ (part : Part). is_on place part && list_any (λ cpu. leb bound cpu) part.cpus)
    (and_from (is_on place part) (list_any (λ cpu. leb bound cpu) part.cpus) both.0
    (any-from (λ cpu. leb bound cpu) part.cpus cpu both.1 above)))
    (λ some.
    let (part, its, others) =
    member (λ (part : Part). is_on place part && list_any (λ cpu. leb bound cpu) part.cpus) parts some in
    let both = and_parts (is_on place part) (list_any (λ cpu. leb bound cpu) part.cpus) its in
    let (cpu, has, above) = passing (λ cpu. leb bound cpu) part.cpus both.1 in
    let stands : list_any (has_cpu place cpu) parts ≡ true =
    others (has_cpu place cpu) (and_from (is_on place part) (has_id part.cpus cpu) both.0 has) in
    any-from (λ cpu. leb bound cpu) (held_at held place).cpus cpu
    (shows.cpus place cpu ∙ times parts place cpu ∙ stands) above)

pub too_small-shown : (held : List Held) (parts : List Part) (place : ℕ) (line : NodeConf) → ShowsParts held parts
    → (list_any (λ cpu. leb line.cpus cpu) (held_at held place).cpus || ltb line.mem (held_at held place).mem)
    ≡ is_too_small parts place line
too_small-shown held parts place line shows =
    ap (λ some. some || ltb line.mem (held_at held place).mem) (reaching held parts place line.cpus shows)
    ∙ ap (λ mem. list_any (λ (part : Part). is_on place part && list_any (λ cpu. leb line.cpus cpu) part.cpus) parts
    || ltb line.mem mem) (shows.mem place)
