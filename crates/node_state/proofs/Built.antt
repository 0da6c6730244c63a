-- The partitions of slurm.conf, with the places of their nodes.
use Rattle.std.proofs.Common.{◌≡◌, ◌≢◌, ℕ, suc, ◌+◌, ◌<◌, ◌≤◌, true, false, List, [], ◌∷◌, ◌++◌, length, map, take, get_or, filter_map, All, AllPairs, Option, Some, None, refl, sym, ap, ◌∙◌, arith}
use Rattle.std.specs.List.{cons_option}
use Rattle.std.specs.Option.{option_to_list}
use Rattle.std.proofs.lemmas.List.{length-map, get_or-map, take_more}
use Rattle.std.proofs.lemmas.List.Elements.{All-nil, All-cons, All-head, All-tail, All-map, filter_map-append}
use Rattle.std.proofs.lemmas.List.Kept.{AllPairs-cons}
use Rattle.std.proofs.lemmas.List.Quantifiers.{position-Some}
use Rattle.std.proofs.lemmas.Slice.Eq.{bytes_eq-Decides}
use Rattle.plain_data.specs.declared.conf.PartConf.{PartConf}
use Rattle.plain_data.specs.Confs.{IsOfNodes}
use Rattle.node_state.specs.declared.record.NodeRecord.{NodeRecord}
use Rattle.node_state.specs.Nodes.{is_named, place_named}
use Rattle.node_state.specs.declared.partition_record.PartRecord.{PartRecord}
use Rattle.node_state.specs.Partitions.{places_of, opened, ArePartitions, IsOnNodes}

-- the places of one more name
pub places-more : (nodes : List NodeRecord) (names : List (List ℕ)) (k : ℕ) (name : List ℕ) (found : Option ℕ) (places : List ℕ) → k < length names → name ≡ get_or names k name → found ≡ place_named name nodes
    → places ≡ places_of nodes (take k names) → places ++ option_to_list found ≡ places_of nodes (take (k + 1) names)
places-more nodes names k name found places inside is finds before =
    rw (take_more names k name inside, ← is, filter_map-append (λ name. place_named name nodes) (take k names) (name ∷ []), before, finds) (ap (λ last. places_of nodes (take k names) ++ last) (one (place_named name nodes))) where
      one : (found : Option ℕ) → option_to_list found ≡ cons_option found []
      one None = refl
      one (Some place) = refl

-- what holds of each value that the elements of a list have, and of each two
all-cons_option : {Y : Type 0} (P : Y → Type 0) (found : Option Y) (ys : List Y) → ((y : Y) → found ≡ Some y → P y) → All P ys → All P (cons_option found ys)
all-cons_option P None ys here later = later
all-cons_option P (Some y) ys here later = All-cons P y ys (here y refl) later

all-found : {X Y : Type 0} (P : Y → Type 0) (Q : X → Type 0) (h : X → Option Y) → ((x : X) (y : Y) → Q x → h x ≡ Some y → P y) → (xs : List X) → All Q xs → All P (filter_map h xs)
all-found P Q h each [] all = All-nil P
all-found P Q h each (x ∷ xs) all =
    all-cons_option P (h x) (filter_map h xs) (λ y is. each x y (All-head Q x xs all) is) (all-found P Q h each xs (All-tail Q x xs all))

pairs-cons_option : {Y : Type 0} (S : Y → Y → Type 0) (found : Option Y) (ys : List Y) → ((y : Y) → found ≡ Some y → All (S y) ys) → AllPairs S ys → AllPairs S (cons_option found ys)
pairs-cons_option S None ys here later = later
pairs-cons_option S (Some y) ys here later = AllPairs-cons S y ys (here y refl) later

pairs-found : {X Y : Type 0} (R : X → X → Type 0) (S : Y → Y → Type 0) (h : X → Option Y) → ((x x' : X) (y y' : Y) → R x x' → h x ≡ Some y → h x' ≡ Some y' → S y y') → (xs : List X) → AllPairs R xs → AllPairs S (filter_map h xs)
pairs-found R S h apart [] pairs = λ i j d before inside. absurd (omega (arith, inside))
pairs-found R S h apart (x ∷ xs) pairs =
    let first : All (R x) xs = λ k d inside. pairs 0 (suc k) d (omega arith) (omega (arith, inside)) in
    let rest : AllPairs R xs = λ i j d before inside. pairs (suc i) (suc j) d (omega (arith, before)) (omega (arith, inside)) in
    pairs-cons_option S (h x) (filter_map h xs) (λ y is. all-found (S y) (R x) h (λ x' y' differ is'. apart x x' y y' differ is is') xs first) (pairs-found R S h apart xs rest)

-- where a name leads, a node is that has it
named-at : (nodes : List NodeRecord) (name : List ℕ) (place : ℕ) (d : NodeRecord) → place_named name nodes ≡ Some place → (get_or nodes place d).conf.name ≡ name
named-at nodes name place d leads = (bytes_eq-Decides _ _).0 (position-Some (is_named name) nodes place d leads).1

there : (nodes : List NodeRecord) (name : List ℕ) (place : ℕ) → place_named name nodes ≡ Some place → place < length nodes
there [] name place leads = absurd cc
there (first ∷ later) name place leads = (position-Some (is_named name) (first ∷ later) place first leads).0

apart : (nodes : List NodeRecord) (one other : List ℕ) (place next : ℕ) → one ≢ other → place_named one nodes ≡ Some place → place_named other nodes ≡ Some next → place ≢ next
apart [] one other place next differ leads leads' same = cc
apart (first ∷ later) one other place next differ leads leads' same =
    differ (sym (named-at (first ∷ later) one place first leads) ∙ (ap (λ k. (get_or (first ∷ later) k first).conf.name) same ∙ named-at (first ∷ later) other next first leads'))

on_nodes-opened : (nodes : List NodeRecord) (conf : PartConf) → AllPairs (λ one other. one ≢ other) conf.nodes → IsOnNodes (length nodes) (opened nodes conf)
on_nodes-opened nodes conf once = record {
  there = all-found (λ place. place < length nodes) (λ name. Unit {0}) (λ name. place_named name nodes) (λ name place any leads. there nodes name place leads) conf.nodes (λ k d inside. tt);
  once = pairs-found (λ one other. one ≢ other) (λ one other. one ≢ other) (λ name. place_named name nodes) (apart nodes) conf.nodes once;
}

pub all_on_nodes : (nodes : List NodeRecord) (names : List (List ℕ)) (confs : List PartConf) → All (IsOfNodes names) confs → All (IsOnNodes (length nodes)) (map (opened nodes) confs)
all_on_nodes nodes names confs all = All-map (IsOnNodes (length nodes)) (opened nodes) confs (λ k d inside. on_nodes-opened nodes (get_or confs k d) (all k d inside).once)

pairs-opened : (R : PartConf → PartConf → Type 0) (nodes : List NodeRecord) (confs : List PartConf) → AllPairs R confs → AllPairs (λ (one other : PartRecord). R one.conf other.conf) (map (opened nodes) confs)
pairs-opened R nodes confs pairs i j d before inside =
    let within : j < length confs = rw (length-map confs (opened nodes)) at inside in
    rw (get_or-map (opened nodes) confs i d.conf d (omega (arith, before, within)), get_or-map (opened nodes) confs j d.conf d within) (pairs i j d.conf before within)

pub partitions-opened : (nodes : List NodeRecord) (confs : List PartConf) → 1 ≤ length confs → length confs ≤ 64 → AllPairs (λ (one other : PartConf). one.name ≢ other.name) confs
    → AllPairs (λ (one other : PartConf). one.is_default ≡ true → other.is_default ≡ false) confs → ArePartitions (map (opened nodes) confs)
partitions-opened nodes confs some few once one_default = record {
  some = rw (length-map confs (opened nodes)) some;
  few = rw (length-map confs (opened nodes)) few;
  once = pairs-opened (λ one other. one.name ≢ other.name) nodes confs once;
  one_default = pairs-opened (λ one other. one.is_default ≡ true → other.is_default ≡ false) nodes confs one_default;
}
