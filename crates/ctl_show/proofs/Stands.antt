-- How the nodes stand: counts of what is held, and the rows of partitions, with one more of each.
use Rattle.std.proofs.Common.{◌≡◌, ◌≢◌, ℕ, zero, suc, ◌+◌, ◌<◌, ◌∙◌, List, [], ◌∷◌, ◌++◌, length, replicate, set, get_or, take, All, Some, refl, sym, ap, arith, append_assoc, zero-add, ⊎_elim, eq-eqb}
use Rattle.std.specs.Prelude.{min, if◌then◌else◌, slice_get, flat_map, sum_by}
use Rattle.std.specs.List.{enumerate_from}
use Rattle.std.proofs.lemmas.Bool.{cases_eq, cases_lt}
use Rattle.std.proofs.lemmas.Bool.Decides.{nat_tests}
use Rattle.std.proofs.lemmas.List.{take_more, length-set, get_or-set_same, get_or-set_other, append-nil}
use Rattle.std.proofs.lemmas.List.Concat.{flat_map-append, get_or-flat_map}
use Rattle.std.proofs.lemmas.List.Elements.{filter-append, filter_map-append}
use Rattle.std.proofs.lemmas.List.Folds.{length-flat_map-take}
use Rattle.std.proofs.lemmas.List.FromFn.{get_or-enumerate_from}
use Rattle.std.proofs.lemmas.List.Sums.{sum_by_push}
use Rattle.std.proofs.lemmas.Option.{slice_get_past, slice_get_read, get_or_from_slice_get}
use Rattle.node_state.specs.declared.record.NodeRecord.{NodeRecord}
use Rattle.job_table.specs.declared.record.Part.{Part}
use Rattle.job_table.specs.declared.record.JobRecord.{JobRecord}
use Rattle.job_table.specs.Changes.{is_on}
use Rattle.ctl_state.specs.Holding.{parts_of}
use Rattle.ctl_state.specs.State.{State}
use Rattle.reply_data.specs.declared.view.NodeGroup.{NodeGroup}
use Rattle.ctl_show.proofs.Gathered.{capped}
use Rattle.ctl_show.specs.Found.{CountsParts, GroupsNodes, last_count}
use Rattle.ctl_show.specs.Standing.{cpus_in, cpus_held, names_standing, group_by, group_at}

zero-at : (n node : ℕ) → ◌≡◌ {A = ℕ} (get_or (replicate n 0) node 0) 0
zero-at zero node = refl
zero-at (suc n) zero = refl
zero-at (suc n) (suc node) = zero-at n node

-- what a part has on a node, by this measure
abbrev pub have_on : (Part → ℕ) → ℕ → Part → ℕ
have_on has node part = if is_on node part then has part else 0

pub counts-none : (has : Part → ℕ) (counts : List ℕ) (n : ℕ) → counts ≡ replicate n 0
    → CountsParts (have_on has) [] counts
counts-none has counts n are = record { each = λ node within. rw are (zero-at n node) }

-- a count of what is held of a node, with one more part: it grows where the part is on the node, and else it stays
count-grown : (has : Part → ℕ) (node got had held : ℕ) (part : Part) (count : ℕ) → part.node ≡ node → got ≡ count
    → had ≡ min held last_count → count ≡ min (had + has part) last_count
    → got ≡ min (held + have_on has node part) last_count
count-grown has node got had held part count here gets before is =
    rw (eq-eqb part.node node here)
    (gets ∙ is ∙ ap (λ n. min (n + has part) last_count) before ∙ capped held (has part) last_count)

count-same : (has : Part → ℕ) (node got held : ℕ) (part : Part) → part.node ≢ node → got ≡ min held last_count
    → got ≡ min (held + have_on has node part) last_count
count-same has node got held part other before = grind (arith, nat_tests)

counts-push : (has : Part → ℕ) (before : List Part) (counts : List ℕ) (part : Part) (count : ℕ)
    → part.node < length counts → count ≡ min (get_or counts part.node 0 + has part) last_count
    → CountsParts (have_on has) before counts
    → CountsParts (have_on has) (before ++ part ∷ []) (set counts part.node count)
counts-push has before counts part count inside is counted = record {
  each = λ node within.
      let below : node < length counts = omega (arith, within, length-set counts part.node count) in
      let held = sum_by (have_on has node) before in
      rw (sum_by_push (have_on has node) before part) (⊎_elim
      (λ here. count-grown has node _ (get_or counts part.node 0) held part count here
      (rw (← here) (get_or-set_same counts part.node count 0 inside)) (rw (← here) (counted.each part.node inside)) is)
      (λ other. let elsewhere : node ≢ part.node = λ same. other (sym same) in
      count-same has node _ held part other
      (get_or-set_other counts part.node node count 0 elsewhere ∙ counted.each node below))
      (cases_eq part.node node));
}

-- the counts of one more part
pub counts-more : (has : Part → ℕ) (before parts : List Part) (i : ℕ) (part : Part) (counts : List ℕ) (count : ℕ)
    → i < length parts → part ≡ get_or parts i part → part.node < length counts
    → count ≡ min (get_or counts part.node 0 + has part) last_count
    → CountsParts (have_on has) (before ++ take i parts) counts
    → CountsParts (have_on has) (before ++ take (i + 1) parts) (set counts part.node count)
counts-more has before parts i part counts count below is inside counts_on counted =
    rw (take_more parts i part below, ← is, ← append_assoc)
    (counts-push has (before ++ take i parts) counts part count inside counts_on counted)

-- the parts of one more job
pub parts-more : (jobs : List JobRecord) (i : ℕ) (job : JobRecord) → i < length jobs → job ≡ get_or jobs i job
    → parts_of (take (i + 1) jobs) ≡ parts_of (take i jobs) ++ job.parts
parts-more jobs i job below is =
    let parts = λ (job : JobRecord). job.parts in
    rw (take_more jobs i job below, ← is, flat_map-append parts (take i jobs) (job ∷ []), append-nil) refl

-- what holds of all parts holds of a job's
pub parts-there : (P : Part → Type 0) (jobs : List JobRecord) (i : ℕ) (job : JobRecord) → All P (parts_of jobs)
    → i < length jobs → job ≡ get_or jobs i job → All P job.parts
parts-there P jobs i job each below is k d inside =
    let parts = λ (job : JobRecord). job.parts in
    let there : k < length (parts (get_or jobs i job)) = rw (← is) inside in
    let place = length (flat_map parts (take i jobs)) + k in
    let at : P (get_or (flat_map parts jobs) place d) =
    each place d (omega (arith, length-flat_map-take parts jobs i job below, there)) in
    rw (get_or-flat_map parts jobs i k job d below there, ← is) at at

-- one more element at a list's end
pub slice_get-front : {X : Type 0} (xs ys : List X) (k : ℕ) → k < length xs → slice_get (xs ++ ys) k ≡ slice_get xs k
slice_get-front [] ys k below = absurd (omega (arith, below))
slice_get-front (x ∷ xs) ys zero below = refl
slice_get-front (x ∷ xs) ys (suc k) below = slice_get-front xs ys k (omega (arith, below))

pub slice_get-seam : {X : Type 0} (xs : List X) (x : X) (k : ℕ) → length xs ≡ k → slice_get (xs ++ x ∷ []) k ≡ Some x
slice_get-seam [] x zero long = refl
slice_get-seam [] x (suc k) long = absurd (omega (arith, long))
slice_get-seam (y ∷ ys) x zero long = absurd (omega (arith, long))
slice_get-seam (y ∷ ys) x (suc k) long = slice_get-seam ys x k (omega (arith, long))

-- what the counts tell of a node that is there
pub count-here : (held : ℕ → Part → ℕ) (parts : List Part) (counts : List ℕ) (place count : ℕ)
    → CountsParts held parts counts → place < length counts → count ≡ get_or counts place count
    → count ≡ min (sum_by (held place) parts) last_count
count-here held parts counts place count counted inside is =
    let read : get_or counts place 0 ≡ count =
    get_or_from_slice_get counts place count 0 (slice_get_read counts (length counts) place count refl inside is) in
    sym read ∙ counted.each place inside

-- a node with its place
pub enumerated-here : (nodes : List NodeRecord) (place : ℕ) (node : NodeRecord) → place < length nodes
    → node ≡ get_or nodes place node
    → ◌≡◌ {A = ℕ × NodeRecord} (place, node) (get_or (enumerate_from 0 nodes) place (place, node))
enumerated-here nodes place node below is =
    rw (get_or-enumerate_from 0 nodes place (place, node) below, zero-add place, ← is) refl

-- how a node stands, of which the counts tell what is held
pub group-here : (s : State) (counts : List ℕ) (place held : ℕ) (node : NodeRecord) (group : NodeGroup)
    → CountsParts cpus_in (parts_of s.jobs) counts → place < length counts
    → slice_get s.nodes place ≡ Some node → held ≡ get_or counts place held
    → ((count : ℕ) → held ≡ min count last_count → group ≡ group_by count node) → Some group ≡ group_at s place
unfolding cpus_held
group-here s counts place held node group counted inside there is stands =
    rw there (ap Some (stands (cpus_held (parts_of s.jobs) place)
    (count-here cpus_in (parts_of s.jobs) counts place held counted inside is)))

pub groups-all : (s : State) (groups : List NodeGroup) → length groups ≡ length s.nodes
    → ((k : ℕ) → k < length s.nodes → slice_get groups k ≡ group_at s k) → GroupsNodes s groups
groups-all s groups long each = record {
  each = λ place.
      ⊎_elim (λ inside. each place inside)
      (λ past. rw (slice_get_past groups place (omega (arith, long, past)), slice_get_past s.nodes place past) refl)
      (cases_lt place (length s.nodes));
}

-- the groups of one more node
pub groups-more : (s : State) (groups : List NodeGroup) (group : NodeGroup) (place : ℕ) → length groups ≡ place
    → ((k : ℕ) → k < place → slice_get groups k ≡ group_at s k)
    → Some group ≡ group_at s place → (k : ℕ) → k < place + 1 → slice_get (groups ++ group ∷ []) k ≡ group_at s k
groups-more s groups group place long before here k below =
    ⊎_elim
    (λ last. rw (slice_get-seam groups group k (long ∙ sym last), last) here)
    (λ other. let front : k < place = omega (arith, below, other) in
    let inside : k < length groups = omega (arith, long, front) in
    rw (slice_get-front groups (group ∷ []) k inside) (before k front))
    (cases_eq k place)

-- the names of one more node
pub names-more : (s : State) (group : NodeGroup) (places : List ℕ) (i : ℕ) → i < length places
    → names_standing s group (take (i + 1) places) ≡ names_standing s group (take i places)
    ++ names_standing s group (get_or places i 0 ∷ [])
unfolding names_standing
names-more s group places i below = rw (take_more places i 0 below, filter-append, filter_map-append)
