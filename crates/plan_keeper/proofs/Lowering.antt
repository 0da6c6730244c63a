-- What stays free of a node up to a second, while jobs are planned.
use Rattle.std.proofs.Common.{◌≡◌, ◌≢◌, ℕ, ◌-◌, ◌≤◌, ◌<◌, min, false, cond, eqb, leb, List, [], ◌∷◌, ◌++◌, All, Contains, arith, refl, ap, sym, ◌∙◌, inl, inr, sum_by, Option, Some, None}
use Rattle.std.proofs.lemmas.Bool.{cases_Bool, cases_eq, leb-true, eq-eqb, ne_eqb}
use Rattle.std.specs.List.Sorted.{IsPermutation}
use Rattle.std.proofs.lemmas.List.Sums.{sum_by-cons}
use Rattle.std.proofs.lemmas.List.Sorted.{sum_by-IsPermutation}
use Rattle.std.proofs.lemmas.List.Elements.{All-head, All-tail, All-weaker, All-map, All-nil, All-cons, All-contains}
use Rattle.resource_profile.specs.declared.NodeRoom.{NodeRoom}
use Rattle.resource_profile.specs.declared.Hold.{Hold}
use Rattle.resource_profile.specs.Free.{room_at, covers}
use Rattle.backfill_planner.specs.declared.Share.{Share}
use Rattle.backfill_planner.specs.declared.Placed.{Placed}
use Rattle.backfill_planner.specs.declared.job.PlanJob.{PlanJob}
use Rattle.backfill_planner.specs.Giving.{window_end}
use Rattle.backfill_planner.specs.Plans.{holds_of, placed_of}
use Rattle.backfill_planner.specs.Staying.{IsNoFreer, StaysBefore}
use Rattle.plan_keeper.specs.Steady.{may_have_node}
use Rattle.plan_keeper.specs.Kept.{has_part, lowered, AreOnNodes}
use Rattle.plan_keeper.specs.Planner.{PlannerLaws}
use Rattle.plan_keeper.proofs.Frees.{own-not, free-cpus-beside, free-mem-beside}

-- the hold is on another node, or begins at the second or later
abbrev pub IsLate : ℕ → ℕ → Hold → Type 0
IsLate node until hold = hold.node ≡ node → until ≤ hold.from

late-one : (amount : Hold → ℕ) (node second until : ℕ) (hold : Hold) → IsLate node until hold → second < until → cond (covers node second hold) (amount hold) 0 ≡ 0
late-one amount node second until hold late below = elim (cases_eq hold.node node) [
  | inr differs ↦ rw (ne_eqb hold.node node differs) refl
  | inl is ↦ elim (cases_Bool (leb hold.from second)) [
    | inl begun ↦ absurd (omega (arith, late is, leb-true hold.from second begun, below))
    | inr later ↦ rw (eq-eqb hold.node node is, later) refl
  ]
]

-- such holds hold nothing of the node before
held-late : (amount : Hold → ℕ) (node second until : ℕ) (holds : List Hold) → All (IsLate node until) holds → second < until → sum_by (λ (hold : Hold). cond (covers node second hold) (amount hold) 0) holds ≡ 0
held-late amount node second until [] late below = refl
held-late amount node second until (hold ∷ holds) late below =
    omega (
      arith,
      sum_by-cons (λ (hold : Hold). cond (covers node second hold) (amount hold) 0) hold holds,
      held-late amount node second until holds (All-tail (IsLate node until) hold holds late) below,
      late-one amount node second until hold (All-head (IsLate node until) hold holds late) below,
    )

-- both sides hold more that begins later
pub stays-late : (rooms : List NodeRoom) (holds more : List Hold) (new_rooms : List NodeRoom) (new_holds new_more : List Hold) (now until node : ℕ) → StaysBefore rooms holds new_rooms new_holds now until node → All (IsLate node until) more → All (IsLate node until) new_more → StaysBefore rooms (holds ++ more) new_rooms (new_holds ++ new_more) now until node
stays-late rooms holds more new_rooms new_holds new_more now until node stays late new_late = record {
  room = stays.room;
  cpus = λ second from below. omega (arith, stays.cpus second from below, free-cpus-beside rooms holds more node second, free-cpus-beside new_rooms new_holds new_more node second, held-late (λ hold. hold.cpus) node second until more late below, held-late (λ hold. hold.cpus) node second until new_more new_late below);
  mem = λ second from below. omega (arith, stays.mem second from below, free-mem-beside rooms holds more node second, free-mem-beside new_rooms new_holds new_more node second, held-late (λ hold. hold.mem) node second until more late below, held-late (λ hold. hold.mem) node second until new_more new_late below);
}

-- the new side holds more at any time, and the old one more that begins later
pub keeps-late : (rooms : List NodeRoom) (holds more : List Hold) (new_rooms : List NodeRoom) (new_holds new_more : List Hold) (now until node : ℕ) → IsNoFreer rooms holds new_rooms new_holds now until node → All (IsLate node until) more → IsNoFreer rooms (holds ++ more) new_rooms (new_holds ++ new_more) now until node
keeps-late rooms holds more new_rooms new_holds new_more now until node keeps late = record {
  room = keeps.room;
  cpus = λ second from below. omega (arith, keeps.cpus second from below, free-cpus-beside rooms holds more node second, free-cpus-beside new_rooms new_holds new_more node second, held-late (λ hold. hold.cpus) node second until more late below);
  mem = λ second from below. omega (arith, keeps.mem second from below, free-mem-beside rooms holds more node second, free-mem-beside new_rooms new_holds new_more node second, held-late (λ hold. hold.mem) node second until more late below);
}

-- both sides hold the same besides
pub stays-with : (rooms : List NodeRoom) (holds : List Hold) (new_rooms : List NodeRoom) (new_holds more : List Hold) (now until node : ℕ) → StaysBefore rooms holds new_rooms new_holds now until node → StaysBefore rooms (holds ++ more) new_rooms (new_holds ++ more) now until node
stays-with rooms holds new_rooms new_holds more now until node stays = record {
  room = stays.room;
  cpus = λ second from below. omega (arith, stays.cpus second from below, free-cpus-beside rooms holds more node second, free-cpus-beside new_rooms new_holds more node second);
  mem = λ second from below. omega (arith, stays.mem second from below, free-mem-beside rooms holds more node second, free-mem-beside new_rooms new_holds more node second);
}

pub keeps-with : (rooms : List NodeRoom) (holds : List Hold) (new_rooms : List NodeRoom) (new_holds more : List Hold) (now until node : ℕ) → IsNoFreer rooms holds new_rooms new_holds now until node → IsNoFreer rooms (holds ++ more) new_rooms (new_holds ++ more) now until node
keeps-with rooms holds new_rooms new_holds more now until node keeps = record {
  room = keeps.room;
  cpus = λ second from below. omega (arith, keeps.cpus second from below, free-cpus-beside rooms holds more node second, free-cpus-beside new_rooms new_holds more node second);
  mem = λ second from below. omega (arith, keeps.mem second from below, free-mem-beside rooms holds more node second, free-mem-beside new_rooms new_holds more node second);
}

-- and all the more up to an earlier second
pub stays-earlier : (rooms : List NodeRoom) (holds : List Hold) (new_rooms : List NodeRoom) (new_holds : List Hold) (now until less node : ℕ) → less ≤ until → StaysBefore rooms holds new_rooms new_holds now until node → StaysBefore rooms holds new_rooms new_holds now less node
stays-earlier rooms holds new_rooms new_holds now until less node order stays = record {
  room = stays.room;
  cpus = λ second from below. stays.cpus second from (omega (arith, below, order));
  mem = λ second from below. stays.mem second from (omega (arith, below, order));
}

pub keeps-earlier : (rooms : List NodeRoom) (holds : List Hold) (new_rooms : List NodeRoom) (new_holds : List Hold) (now until less node : ℕ) → less ≤ until → IsNoFreer rooms holds new_rooms new_holds now until node → IsNoFreer rooms holds new_rooms new_holds now less node
keeps-earlier rooms holds new_rooms new_holds now until less node order keeps = record {
  room = keeps.room;
  cpus = λ second from below. keeps.cpus second from (omega (arith, below, order));
  mem = λ second from below. keeps.mem second from (omega (arith, below, order));
}

-- the order of the holds matters to nothing that is free
pub before-permuted : (rooms : List NodeRoom) (holds : List Hold) (new_rooms : List NodeRoom) (new_holds moved : List Hold) (now until node : ℕ) → IsPermutation new_holds moved → StaysBefore rooms holds new_rooms moved now until node → StaysBefore rooms holds new_rooms new_holds now until node
before-permuted rooms holds new_rooms new_holds moved now until node is stays = record {
  room = stays.room;
  cpus = λ second from below. ap (λ held. (room_at new_rooms node).cpus - held) (sym (sum_by-IsPermutation (λ (hold : Hold). cond (covers node second hold) hold.cpus 0) new_holds moved is)) ∙ stays.cpus second from below;
  mem = λ second from below. ap (λ held. (room_at new_rooms node).mem - held) (sym (sum_by-IsPermutation (λ (hold : Hold). cond (covers node second hold) hold.mem 0) new_holds moved is)) ∙ stays.mem second from below;
}

pub keeps-permuted : (rooms : List NodeRoom) (holds : List Hold) (new_rooms : List NodeRoom) (new_holds moved : List Hold) (now until node : ℕ) → IsPermutation new_holds moved → IsNoFreer rooms holds new_rooms moved now until node → IsNoFreer rooms holds new_rooms new_holds now until node
keeps-permuted rooms holds new_rooms new_holds moved now until node is keeps = record {
  room = keeps.room;
  cpus = λ second from below. omega (arith, keeps.cpus second from below, sum_by-IsPermutation (λ (hold : Hold). cond (covers node second hold) hold.cpus 0) new_holds moved is);
  mem = λ second from below. omega (arith, keeps.mem second from below, sum_by-IsPermutation (λ (hold : Hold). cond (covers node second hold) hold.mem 0) new_holds moved is);
}

-- how a second is lowered
pub lowered-less : (placed : Option Placed) (node second : ℕ) → lowered placed node second ≤ second
lowered-less None node second = omega arith
lowered-less (Some placed) node second = elim (cases_Bool (has_part node placed.parts)) [
  | inl has ↦ rw has (omega arith)
  | inr without ↦ rw without (omega arith)
]

pub lowered-order : (placed : Option Placed) (node less more : ℕ) → less ≤ more → lowered placed node less ≤ lowered placed node more
lowered-order None node less more order = order
lowered-order (Some placed) node less more order = elim (cases_Bool (has_part node placed.parts)) [
  | inl has ↦ rw has (omega (arith, order))
  | inr without ↦ rw without order
]

-- a job's holds begin no earlier than a second that is lowered by its placement
no-part : (node : ℕ) (parts : List Share) → has_part node parts ≡ false → All (λ (share : Share). share.node ≢ node) parts
no-part node [] without = All-nil (λ (share : Share). share.node ≢ node)
no-part node (share ∷ parts) without = elim (cases_Bool (eqb node share.node)) [
  | inl is ↦ absurd (let wrong = rw is at without in cc)
  | inr differs ↦ All-cons (λ (share : Share). share.node ≢ node) share parts (λ same. let clash = sym differs ∙ eq-eqb node share.node (sym same) in absurd cc) (no-part node parts (rw differs at without))
]

pub parts-late : (job : PlanJob) (placed : Option Placed) (node second until : ℕ) → until ≤ lowered placed node second → All (IsLate node until) (holds_of job placed)
parts-late job None node second until order = All-nil (IsLate node until)
parts-late job (Some placed) node second until order =
    All-map (IsLate node until) (λ (share : Share). record { node = share.node; from = placed.start; until = window_end job placed.start; cpus = share.cpus; mem = share.mem }) placed.parts
    (elim (cases_Bool (has_part node placed.parts)) [
      | inl has ↦ let early : until ≤ min placed.start second = rw has at order in λ k d below is. omega (arith, early)
      | inr without ↦ All-weaker (λ (share : Share). share.node ≢ node) (λ (share : Share). share.node ≡ node → until ≤ placed.start) (λ share differs is. absurd (differs is)) placed.parts (no-part node placed.parts without)
    ])

-- a node that the job may not have isn't touched
pub none-on : (job : PlanJob) (node : ℕ) (parts : List Share) → may_have_node node job ≡ false → All (λ (share : Share). Contains job.nodes share.node) parts → has_part node parts ≡ false
none-on job node [] without own = refl
none-on job node (share ∷ parts) without own =
    let differs : eqb node share.node ≡ false = ne_eqb node share.node (λ same. own-not job node share.node (All-head (λ (share : Share). Contains job.nodes share.node) share parts own) (sym same) without) in
    rw differs (none-on job node parts without (All-tail (λ (share : Share). Contains job.nodes share.node) share parts own))

pub lowered-off : PlannerLaws → (rooms : List NodeRoom) (holds : List Hold) (job : PlanJob) (lo hi node second : ℕ) (placed : Option Placed) → placed_of rooms holds job lo hi ≡ placed → may_have_node node job ≡ false → lowered placed node second ≡ second
lowered-off laws rooms holds job lo hi node second None is without = refl
lowered-off laws rooms holds job lo hi node second (Some placed) is without =
    rw (none-on job node placed.parts without (laws.own rooms holds job lo hi placed is)) refl

-- its parts are on nodes that there are
pub parts-there : PlannerLaws → (rooms : List NodeRoom) (holds : List Hold) (job : PlanJob) (lo hi count : ℕ) (placed : Option Placed) → placed_of rooms holds job lo hi ≡ placed → All (λ node. node < count) job.nodes → AreOnNodes count placed
parts-there laws rooms holds job lo hi count None is nodes = tt
parts-there laws rooms holds job lo hi count (Some placed) is nodes =
    All-weaker (λ (share : Share). Contains job.nodes share.node) (λ (share : Share). share.node < count)
    (λ share own. All-contains (λ node. node < count) job.nodes share.node nodes own) placed.parts (laws.own rooms holds job lo hi placed is)
