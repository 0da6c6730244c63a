-- What is kept of nodes that went, once another file is in force.
use Rattle.std.proofs.Common.{ℕ, ◌≡◌, ◌≢◌, ◌∙◌, Bool, true, false, not, cond, List, [], ◌∷◌, ◌++◌, find, filter, filter_map, All, AllPairs, Option, Some, None, if◌then◌else◌, option_and_then, slice_get, bytes_eq, refl, sym, ap, ap₂, arith, inl, inr, Less, Equal, Greater}
use Rattle.std.specs.Option.{option_or}
use Rattle.std.specs.List.{cons_option}
use Rattle.std.specs.Cmp.Lexicographic.{slice_cmp}
use Rattle.std.specs.Ordering.{is_lt, nat_cmp, ordering_then}
use Rattle.std.proofs.lemmas.Bool.{both_ways, cases_Bool, cond_both, eq-eqb, false_from_ne_true, le-ltb}
use Rattle.std.proofs.lemmas.List.Elements.{All-head, All-tail, All-weaker}
use Rattle.std.proofs.lemmas.List.Folds.{find-append}
use Rattle.plain_data.specs.Confs.{ConfView}
use Rattle.request_data.specs.declared.report.Heard.{Heard}
use Rattle.node_state.specs.declared.record.DroppedNode.{DroppedNode}
use Rattle.node_state.specs.declared.record.NodeRecord.{NodeRecord}
use Rattle.node_state.specs.Nodes.{AreNamedOnce, is_named}
use Rattle.node_state.specs.Renewing.{dropped_named, node_named}
use Rattle.node_state.specs.Reservations.{has}
use Rattle.ctl_state.specs.Ordered.{ordered_by, put}
use Rattle.ctl_state.specs.State.{State}
use Rattle.ctl_reconfigure.specs.Names.{conf_names}
use Rattle.ctl_reconfigure.specs.Reconfiguring.{dropped_after, dropped_as, dropped_by, is_before, keeps_places, leaves}
use Rattle.daemon_world.proofs.Lists.{find_kept, find_none, find_place}
use Rattle.daemon_world.proofs.Naming.{first_named}
use Rattle.list_lemmas.proofs.Pairs.{pairs-head, pairs-tail}
use Rattle.ctl_reconfigure.proofs.NameLists.{bytes-same as same_name}

-- one that went had this name
abbrev was_named : List ℕ → DroppedNode → Bool
was_named name dropped = bytes_eq dropped.name name

dropped-is : (name : List ℕ) (dropped : List DroppedNode) → dropped_named name dropped ≡ find (was_named name) dropped
dropped-is name dropped =
    sym (find_place (was_named name) dropped
    ∙ ap (option_and_then (slice_get dropped)) (first_named (λ (one : DroppedNode). one.name) name dropped))

-- ---- the order keeps the first of each name

nat-itself : (x : ℕ) → nat_cmp x x ≡ Equal
nat-itself x =
    ap₂ (λ less same. cond less Less (cond same Equal Greater)) (le-ltb x x (omega arith)) (eq-eqb x x refl)

name-itself : (name : List ℕ) → is_lt (slice_cmp nat_cmp name name) ≡ false
name-itself [] = refl
name-itself (x ∷ later) =
    ap (λ order. is_lt (ordering_then order (slice_cmp nat_cmp later later))) (nat-itself x) ∙ name-itself later

never-before : (name : List ℕ) (one other : DroppedNode) → was_named name one ≡ true → was_named name other ≡ true
    → is_before one other ≡ false
never-before name one other first second =
    let same : one.name ≡ other.name = same_name one.name name first ∙ sym (same_name other.name name second) in
    ap (λ (text : List ℕ). is_lt (slice_cmp nat_cmp text other.name)) same ∙ name-itself other.name

find-put : (name : List ℕ) (one : DroppedNode) (others : List DroppedNode)
    → find (was_named name) (put is_before one others) ≡ find (was_named name) (one ∷ others)
find-put name one [] = refl
find-put name one (other ∷ later) =
    let p = was_named name in
    cond_both (is_before other one) (other ∷ put is_before one later) (one ∷ other ∷ later)
    (λ (list : List DroppedNode). find p list ≡ find p (one ∷ other ∷ later))
    (λ first. ap (λ rest. cond (p other) (Some other) rest) (find-put name one later)
    ∙ swap (p one) (p other) (find p later) (λ is too. both_ways (is_before other one)
    (never-before name other one too is) first))
    (λ behind. refl)
  where
    swap : (b c : Bool) (rest : Option DroppedNode) → (b ≡ true → c ≡ true → ⊥)
        → cond c (Some other) (cond b (Some one) rest) ≡ cond b (Some one) (cond c (Some other) rest)
    swap true true rest never = absurd (never refl refl)
    swap true false rest never = refl
    swap false true rest never = refl
    swap false false rest never = refl

find-ordered : (name : List ℕ) (list : List DroppedNode)
    → find (was_named name) (ordered_by is_before list) ≡ find (was_named name) list
unfolding ordered_by
find-ordered name [] = refl
find-ordered name (one ∷ later) =
    find-put name one (ordered_by is_before later)
    ∙ ap (λ rest. cond (was_named name one) (Some one) rest) (find-ordered name later)

-- ---- those that go

-- what a node leaves, by its own name
left-named : (name : List ℕ) (node : NodeRecord) (heard : Option Heard) (rest : List DroppedNode)
    → bytes_eq node.conf.name name ≡ false
    → find (was_named name) (cons_option (dropped_as node.conf.name heard) rest) ≡ find (was_named name) rest
left-named name node None rest differ = refl
left-named name node (Some heard) rest differ =
    ap (λ b. cond b (Some (record {
      name = node.conf.name;
      boot = heard.boot;
      number = heard.number;
    })) (find (was_named name) rest)) differ

left-own : (name : List ℕ) (node : NodeRecord) (heard : Option Heard) (rest : List DroppedNode)
    → bytes_eq node.conf.name name ≡ true → find (was_named name) rest ≡ None
    → find (was_named name) (cons_option (dropped_as node.conf.name heard) rest) ≡ dropped_as node.conf.name heard
left-own name node None rest is none = none
left-own name node (Some heard) rest is none =
    ap (λ b. cond b (Some (record {
      name = node.conf.name;
      boot = heard.boot;
      number = heard.number;
    })) (find (was_named name) rest)) is

-- another node leaves nothing of the name
other-left : (listed : List ℕ → Bool) (name : List ℕ) (node : NodeRecord) (rest : List DroppedNode)
    → bytes_eq node.conf.name name ≡ false
    → find (was_named name) (cons_option (leaves listed node) rest) ≡ find (was_named name) rest
other-left listed name node rest differ =
    cond_both (listed node.conf.name) None (dropped_as node.conf.name node.heard)
    (λ (left : Option DroppedNode). find (was_named name) (cons_option left rest) ≡ find (was_named name) rest)
    (λ stays. refl) (λ goes. left-named name node node.heard rest differ)

none-left : (listed : List ℕ → Bool) (name : List ℕ) (nodes : List NodeRecord)
    → All (λ (node : NodeRecord). bytes_eq node.conf.name name ≡ false) nodes
    → find (was_named name) (filter_map (leaves listed) nodes) ≡ None
none-left listed name [] others = refl
none-left listed name (node ∷ later) others =
    let Other = λ (node : NodeRecord). bytes_eq node.conf.name name ≡ false in
    other-left listed name node (filter_map (leaves listed) later) (All-head Other node later others)
    ∙ none-left listed name later (All-tail Other node later others)

-- a node that stays leaves nothing
stays-left : (listed : List ℕ → Bool) (name : List ℕ) (nodes : List NodeRecord) → listed name ≡ true
    → find (was_named name) (filter_map (leaves listed) nodes) ≡ None
stays-left listed name [] stays = refl
stays-left listed name (node ∷ later) stays =
    let rest = filter_map (leaves listed) later in
    cond_both (listed node.conf.name) None (dropped_as node.conf.name node.heard)
    (λ (left : Option DroppedNode). find (was_named name) (cons_option left rest) ≡ None)
    (λ one_stays. stays-left listed name later stays)
    (λ goes. left-named name node node.heard rest (differ goes) ∙ stays-left listed name later stays)
  where
    differ : listed node.conf.name ≡ false → bytes_eq node.conf.name name ≡ false
    differ goes = elim (cases_Bool (bytes_eq node.conf.name name)) [
      | inl same ↦
          absurd (both_ways (listed name)
          (ap listed (sym (same_name node.conf.name name same)) ∙ goes) stays)
      | inr other ↦ other
    ]

-- one that goes leaves its pair, where it was heard
abbrev pub left_of : Option NodeRecord → Option DroppedNode
left_of None = None
left_of (Some node) = dropped_as node.conf.name node.heard

goes-left : (listed : List ℕ → Bool) (name : List ℕ) (nodes : List NodeRecord)
    → AllPairs (λ (one other : NodeRecord). one.conf.name ≢ other.conf.name) nodes
    → listed name ≡ false
    → find (was_named name) (filter_map (leaves listed) nodes) ≡ left_of (find (is_named name) nodes)
goes-left listed name [] once goes = refl
goes-left listed name (node ∷ later) once goes =
    let Differ = λ (one other : NodeRecord). one.conf.name ≢ other.conf.name in
    let rest = filter_map (leaves listed) later in
    elim (cases_Bool (bytes_eq node.conf.name name)) [
      | inl same ↦
          let is = same_name node.conf.name name same in
          let others = All-weaker (Differ node) (λ (other : NodeRecord). bytes_eq other.conf.name name ≡ false)
          (λ other differ. false_from_ne_true (bytes_eq other.conf.name name)
          (λ too. differ (is ∙ sym (same_name other.conf.name name too)))) later (pairs-head Differ node later once) in
          ap (λ b. find (was_named name) (cons_option (if b then None else dropped_as node.conf.name node.heard) rest))
          (ap listed is ∙ goes)
          ∙ left-own name node node.heard rest same (none-left listed name later others)
          ∙ ap (λ b. left_of (cond b (Some node) (find (is_named name) later))) (sym same)
      | inr differ ↦
          other-left listed name node rest differ
          ∙ goes-left listed name later (pairs-tail Differ node later once) goes
          ∙ ap (λ b. left_of (cond b (Some node) (find (is_named name) later))) (sym differ)
    ]

-- ---- all that are kept

by-parts : (listed : List ℕ → Bool) (name : List ℕ) (dropped : List DroppedNode) (nodes : List NodeRecord)
    → find (was_named name) (dropped_by listed dropped nodes)
    ≡ option_or (find (was_named name) (filter (λ (one : DroppedNode). not (listed one.name)) dropped))
    (find (was_named name) (filter_map (leaves listed) nodes))
by-parts listed name dropped nodes =
    let stay : DroppedNode → Bool = λ one. not (listed one.name) in
    find-ordered name (filter stay dropped ++ filter_map (leaves listed) nodes)
    ∙ find-append (was_named name) (filter stay dropped) (filter_map (leaves listed) nodes)

-- nothing is kept beside a node that is listed
none-kept : (listed : List ℕ → Bool) (name : List ℕ) (dropped : List DroppedNode) (nodes : List NodeRecord)
    → listed name ≡ true → find (was_named name) (dropped_by listed dropped nodes) ≡ None
none-kept listed name dropped nodes there =
    by-parts listed name dropped nodes
    ∙ ap₂ option_or
    (find_none (was_named name) (λ (one : DroppedNode). not (listed one.name)) dropped
    (λ one is. ap (λ (text : List ℕ). not (listed text)) (same_name one.name name is) ∙ ap not there))
    (stays-left listed name nodes there)

-- of one that isn't, what was kept, or what it leaves
lacking-kept : (listed : List ℕ → Bool) (name : List ℕ) (dropped : List DroppedNode) (nodes : List NodeRecord)
    → AreNamedOnce nodes → listed name ≡ false
    → find (was_named name) (dropped_by listed dropped nodes)
    ≡ option_or (dropped_named name dropped) (left_of (node_named name nodes))
lacking-kept listed name dropped nodes once lacks =
    by-parts listed name dropped nodes
    ∙ ap₂ option_or
    (find_kept (was_named name) (λ (one : DroppedNode). not (listed one.name)) dropped
    (λ one is. ap (λ (text : List ℕ). not (listed text)) (same_name one.name name is) ∙ ap not lacks)
    ∙ sym (dropped-is name dropped))
    (goes-left listed name nodes once.once lacks ∙ ap left_of (find_place (is_named name) nodes))

-- so it is with another file
after-is : (s : State) (file : ConfView) → keeps_places s file ≡ false
    → dropped_after s file ≡ dropped_by (has (conf_names file.nodes)) s.dropped s.nodes
after-is s file moves =
    ap (λ b. if b then s.dropped else dropped_by (has (conf_names file.nodes)) s.dropped s.nodes) moves

pub none_kept : (s : State) (file : ConfView) (name : List ℕ) → keeps_places s file ≡ false
    → has (conf_names file.nodes) name ≡ true → dropped_named name (dropped_after s file) ≡ None
none_kept s file name moves there =
    dropped-is name (dropped_after s file)
    ∙ ap (find (was_named name)) (after-is s file moves)
    ∙ none-kept (has (conf_names file.nodes)) name s.dropped s.nodes there

pub lacking_kept : (s : State) (file : ConfView) (name : List ℕ) → keeps_places s file ≡ false
    → AreNamedOnce s.nodes → has (conf_names file.nodes) name ≡ false
    → dropped_named name (dropped_after s file)
    ≡ option_or (dropped_named name s.dropped) (left_of (node_named name s.nodes))
lacking_kept s file name moves once lacks =
    dropped-is name (dropped_after s file)
    ∙ ap (find (was_named name)) (after-is s file moves)
    ∙ lacking-kept (has (conf_names file.nodes)) name s.dropped s.nodes once lacks
