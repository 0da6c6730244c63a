-- The nodes after a change of one.
use Rattle.std.proofs.Common.{◌≡◌, ◌≢◌, ℕ, zero, suc, ◌+◌, ◌<◌, ◌≤◌, Bool, true, cond, not, List, [], ◌∷◌, length, map, get_or, set, AllPairs, bytes_eq, refl, ap, arith}
use Rattle.std.specs.List.{AllZip, position_or_len}
use Rattle.std.proofs.lemmas.List.{length-map, get_or-map}
use Rattle.plain_data.specs.declared.conf.NodeConf.{NodeConf}
use Rattle.request_data.specs.declared.report.Heard.{Heard}
use Rattle.node_state.specs.declared.record.DownBy.{DownBy}
use Rattle.node_state.specs.declared.record.DownBy.TheVariants as down
use Rattle.node_state.specs.declared.record.NodeRecord.{NodeRecord}
use Rattle.node_state.specs.declared.record.NodeChange.{NodeChange}
use Rattle.node_state.specs.declared.record.NodeChange.TheVariants.{Silent, Down, Drain, Resume, Heard as Report}
use Rattle.node_state.specs.Nodes.{opened, is_up, silent, set_down, resumed, noted, changed, change_at, is_named, AreNamedOnce}
use Rattle.node_state.specs.Laws.{ConfsStay, PlacesStay, NamesStay, ReportsSetNoneDown}

-- nodes that are named once in slurm.conf
pub named_once-opened : (confs : List NodeConf) → length confs ≤ 1024 → AllPairs (λ (one other : NodeConf). one.name ≢ other.name) confs → AreNamedOnce (map opened confs)
named_once-opened confs few once = record {
  few = rw (length-map confs opened) few;
  once = λ i j d before inside.
      let within : j < length confs = rw (length-map confs opened) at inside in
      rw (get_or-map opened confs i d.conf d (omega (arith, before, within)), get_or-map opened confs j d.conf d within) (once i j d.conf before within);
}

-- the list with the changed node set in its place
pub set-changed : (place : ℕ) (change : NodeChange) (nodes : List NodeRecord) (node d : NodeRecord) → place < length nodes → node ≡ changed change (get_or nodes place d) → set nodes place node ≡ change_at place change nodes
set-changed place change [] node d inside is = refl
set-changed zero change (first ∷ later) node d inside is = ap (λ head. head ∷ later) is
set-changed (suc place) change (first ∷ later) node d inside is = ap (λ rest. first ∷ rest) (set-changed place change later node d (omega (arith, inside)) is)

conf-silent : (node : NodeRecord) (by : DownBy) → (silent node by).conf ≡ node.conf
conf-silent node down.No = refl
conf-silent node down.Silent = refl
conf-silent node down.Set = refl

conf-set_down : (node : NodeRecord) (by : DownBy) → (set_down node by).conf ≡ node.conf
conf-set_down node down.No = refl
conf-set_down node down.Silent = refl
conf-set_down node down.Set = refl

conf-resumed : (node : NodeRecord) (by : DownBy) → (resumed node by).conf ≡ node.conf
conf-resumed node down.No = refl
conf-resumed node down.Silent = refl
conf-resumed node down.Set = refl

conf-noted : (node : NodeRecord) (empty : Bool) (by : DownBy) → (noted node empty by).conf ≡ node.conf
conf-noted node empty down.No = refl
conf-noted node empty down.Silent = refl
conf-noted node empty down.Set = refl

pub conf-changed : (change : NodeChange) (node : NodeRecord) → (changed change node).conf ≡ node.conf
conf-changed Silent node = conf-silent node node.down
conf-changed Down node = conf-set_down node node.down
conf-changed Drain node = refl
conf-changed Resume node = conf-resumed node node.down
conf-changed (Report heard empty) node = conf-noted node empty node.down

pub confs-stay : ConfsStay
confs-stay place change [] = refl
confs-stay zero change (node ∷ later) = ap (λ conf. conf ∷ map (λ (node : NodeRecord). node.conf) later) (conf-changed change node)
confs-stay (suc place) change (node ∷ later) = ap (λ confs. node.conf ∷ confs) (confs-stay place change later)

conf-at : (place : ℕ) (change : NodeChange) (nodes : List NodeRecord) (k : ℕ) (d : NodeRecord) → (get_or (change_at place change nodes) k d).conf ≡ (get_or nodes k d).conf
conf-at place change [] k d = refl
conf-at zero change (node ∷ later) zero d = conf-changed change node
conf-at zero change (node ∷ later) (suc k) d = refl
conf-at (suc place) change (node ∷ later) zero d = refl
conf-at (suc place) change (node ∷ later) (suc k) d = conf-at place change later k d

length-stays : (place : ℕ) (change : NodeChange) (nodes : List NodeRecord) → length (change_at place change nodes) ≡ length nodes
length-stays place change nodes = simp length-map at (ap length (confs-stay place change nodes))

first-stays : (name : List ℕ) (place : ℕ) (change : NodeChange) (nodes : List NodeRecord) → position_or_len (is_named name) (change_at place change nodes) ≡ position_or_len (is_named name) nodes
first-stays name place change [] = refl
first-stays name zero change (node ∷ later) = ap (λ (conf : NodeConf). cond (not (bytes_eq conf.name name)) (1 + position_or_len (is_named name) later) 0) (conf-changed change node)
first-stays name (suc place) change (node ∷ later) = ap (λ (n : ℕ). cond (not (is_named name node)) (1 + n) 0) (first-stays name place change later)

pub places-stay : PlacesStay
places-stay name place change nodes = rw (first-stays name place change nodes, length-stays place change nodes) refl

pub names-stay : NamesStay
names-stay place change nodes once = record {
  few = rw (length-stays place change nodes) once.few;
  once = λ i j d before inside. rw (conf-at place change nodes i d, conf-at place change nodes j d) (once.once i j d before (rw (length-stays place change nodes) at inside));
}

up-noted : (node : NodeRecord) (heard : Heard) (empty : Bool) (by : DownBy) → node.down ≡ by → is_up by ≡ true → is_up (noted node empty by).down ≡ true
up-noted node heard empty down.No is up = rw is refl
up-noted node heard empty down.Silent is up = absurd cc
up-noted node heard empty down.Set is up = absurd cc

same-up : (nodes : List NodeRecord) → AllZip (λ (before after : NodeRecord). is_up before.down ≡ true → is_up after.down ≡ true) nodes nodes
same-up [] = tt
same-up (node ∷ later) = (λ up. up, same-up later)

pub reports-set_none_down : ReportsSetNoneDown
reports-set_none_down place heard empty [] = tt
reports-set_none_down zero heard empty (node ∷ later) = (λ up. up-noted node heard empty node.down refl up, same-up later)
reports-set_none_down (suc place) heard empty (node ∷ later) = (λ up. up, reports-set_none_down place heard empty later)
