-- What a sound draft makes is a configuration.
use Rattle.std.proofs.Common.{ℕ, zero, suc, ◌≡◌, ◌≢◌, ◌≤◌, ◌==◌, Bool, true, false, not, ◌&&◌, ◌||◌, cond, List, []}
use Rattle.std.proofs.Common.{◌∷◌, length, map, find, All, AllPairs, Contains, get_or, Option, Some, None, option_map}
use Rattle.std.proofs.Common.{Ok, Err, if◌then◌else◌, refl, ap, sym, subst, arith}
use Rattle.std.proofs.lemmas.Bool.Decides.{nat_tests}
use Rattle.std.proofs.lemmas.List.Elements.{All-nil, All-cons, All-head, All-tail, All-weaker, All-contains_itself}
use Rattle.std.proofs.lemmas.List.Folds.{Any-from_list_any}
use Rattle.std.proofs.lemmas.Slice.Eq.{bytes_eq-Decides}
use Rattle.std.specs.List.{list_any}
use Rattle.std.specs.Str.{bytes_eq}
use Rattle.plain_data.specs.Confs.{ConfView, node_names, IsOfNodes, IsConf}
use Rattle.host_lists.specs.Hosts.{has}
use Rattle.plain_data.specs.declared.conf.NodeConf.{NodeConf}
use Rattle.plain_data.specs.declared.conf.PartConf.{PartConf}
use Rattle.conf_reader.specs.PartitionLines.{partition_names}
use Rattle.conf_reader.specs.Reader.{has_unknown, first_unknown, nodes_by, partitions_by, conf_of_lines, known_all}
use Rattle.conf_reader.specs.Reader.{whole_file}
use Rattle.conf_reader.specs.Sound.{AreOnce, ListsOnce, IsSound}
use Rattle.conf_reader.specs.declared.draft.Draft.{Draft}
use Rattle.conf_reader.specs.declared.partition_lines.PartLine.{PartLine}
use Rattle.conf_reader.specs.declared.partition_lines.PartNodes.{PartNodes}
use Rattle.conf_reader.specs.declared.partition_lines.PartNodes.TheVariants.{All as EachNode, Listed}
use Rattle.text_values.specs.declared.conf_refusal.ConfKind.TheVariants.{NoPartition}
use Rattle.text_values.specs.declared.conf_refusal.ConfRefusal.TheVariants.{At}
use Rattle.conf_reader.proofs.OnceLemmas.{fails_at, pairs-unmapped}

-- a name that is among names
contains-from-has : (names : List (List ℕ)) (name : List ℕ) → has name names ≡ true → Contains names name
contains-from-has names name found =
    let any = Any-from_list_any (bytes_eq name) names found in
    let same : name ≡ any.1 = (bytes_eq-Decides name any.1).0 any.4 in
    (any.0, any.2, subst (λ (n : List ℕ). get_or names any.0 n ≡ n) (sym same) any.3)

-- the nodes of a partition
known-nodes : (known names : List (List ℕ)) → list_any (λ name. not (has name known)) names ≡ false → All (λ name. Contains known name) names
known-nodes known names none =
    λ k d within. contains-from-has known (get_or names k d) (there (has (get_or names k d) known) (fails_at (λ name. not (has name known)) names k d none within)) where
      there : (t : Bool) → not t ≡ false → t ≡ true
      there true e = refl
      there false e = cc

nodes_by-known : (known : List (List ℕ)) (nodes : PartNodes) → has_unknown known nodes ≡ false → All (λ name. Contains known name) (nodes_by known nodes)
unfolding has_unknown nodes_by
nodes_by-known known EachNode none = All-contains_itself known
nodes_by-known known (Listed names) none = known-nodes known names none

nodes_by-once : (known : List (List ℕ)) (nodes : PartNodes) → AreOnce known → ListsOnce nodes → AreOnce (nodes_by known nodes)
unfolding nodes_by
nodes_by-once known EachNode once lists = once
nodes_by-once known (Listed names) once lists = lists

-- the first of the lines that pass a test, of which there are none
not-found : {X : Type 0} (test : X → Bool) (x : X) (xs : List X) → find test (x ∷ xs) ≡ None → (test x ≡ false) × (find test xs ≡ None)
not-found test x xs = by_test (test x) refl where
  by_test : (t : Bool) → test x ≡ t → cond t (Some x) (find test xs) ≡ None → (test x ≡ false) × (find test xs ≡ None)
  by_test true e h = cc
  by_test false e h = (e, h)

of-nodes : (known : List (List ℕ)) → AreOnce known → (lines : List PartLine) → All (λ line. ListsOnce line.nodes) lines → find (λ line. has_unknown known line.nodes) lines ≡ None → All (IsOfNodes known) (partitions_by known lines)
of-nodes known once [] lists none = All-nil (IsOfNodes known)
of-nodes known once (line ∷ lines) lists none =
    let rest = not-found (λ (l : PartLine). has_unknown known l.nodes) line lines none in
    All-cons (IsOfNodes known) _ (partitions_by known lines) (record {
      known = nodes_by-known known line.nodes rest.0;
      once = nodes_by-once known line.nodes once (All-head (λ (l : PartLine). ListsOnce l.nodes) line lines lists);
    }) (of-nodes known once lines (All-tail (λ (l : PartLine). ListsOnce l.nodes) line lines lists) rest.1)

-- one default at most
none-default : (known : List (List ℕ)) (lines : List PartLine) → list_any (λ later. later.conf.is_default) lines ≡ false → All (λ (p : PartConf). p.is_default ≡ false) (partitions_by known lines)
none-default known [] none = All-nil (λ (p : PartConf). p.is_default ≡ false)
none-default known (line ∷ lines) none =
    let both = neither line.conf.is_default (list_any (λ (later : PartLine). later.conf.is_default) lines) none in
    All-cons (λ (p : PartConf). p.is_default ≡ false) _ (partitions_by known lines) (rw (both.0) refl) (none-default known lines both.1) where
      neither : (a b : Bool) → (a || b) ≡ false → (a ≡ false) × (b ≡ false)
      neither true b e = cc
      neither false b e = (refl, e)

pairs-cons : {X : Type 0} (R : X → X → Type 0) (x : X) (xs : List X) → All (R x) xs → AllPairs R xs → AllPairs R (x ∷ xs)
pairs-cons R x xs head tail zero zero d before within = absurd (omega arith)
pairs-cons R x xs head tail zero (suc j) d before within = head j d (omega arith)
pairs-cons R x xs head tail (suc i) zero d before within = absurd (omega arith)
pairs-cons R x xs head tail (suc i) (suc j) d before within = tail i j d (omega arith) (omega arith)

abbrev OneDefault : PartConf → PartConf → Type 0
OneDefault one other = one.is_default ≡ true → other.is_default ≡ false

one-default : (known : List (List ℕ)) (lines : List PartLine) → AllPairs OneDefault (partitions_by known lines)
one-default known [] = λ i j d before within. absurd (omega arith)
one-default known (line ∷ lines) = pairs-cons OneDefault _ (partitions_by known lines) (by_later (list_any (λ later. later.conf.is_default) lines) refl) (one-default known lines) where
  never : (a : Bool) → (a && false) ≡ true → ⊥
  never true e = cc
  never false e = cc

  by_later : (t : Bool) → list_any (λ later. later.conf.is_default) lines ≡ t → All (λ (other : PartConf). (line.conf.is_default && not t) ≡ true → other.is_default ≡ false) (partitions_by known lines)
  by_later true e = λ k d within. λ h. absurd (never line.conf.is_default h)
  by_later false e = All-weaker (λ (p : PartConf). p.is_default ≡ false) (λ (p : PartConf). (line.conf.is_default && not false) ≡ true → p.is_default ≡ false) (λ p none _. none) (partitions_by known lines) (none-default known lines e)

-- names and numbers of partitions
length-partitions_by : (known : List (List ℕ)) (lines : List PartLine) → length (partitions_by known lines) ≡ length lines
length-partitions_by known [] = refl
length-partitions_by known (line ∷ lines) = ap (λ (n : ℕ). suc n) (length-partitions_by known lines)

names-partitions_by : (known : List (List ℕ)) (lines : List PartLine) → map (λ (p : PartConf). p.name) (partitions_by known lines) ≡ partition_names lines
names-partitions_by known [] = refl
names-partitions_by known (line ∷ lines) = ap (λ (names : List (List ℕ)). line.conf.name ∷ names) (names-partitions_by known lines)

draft-is-conf : (draft : Draft) → IsSound draft → first_unknown (node_names draft.nodes) draft.partitions ≡ None → (length draft.partitions == 0) ≡ false → IsConf draft.nodes (partitions_by (node_names draft.nodes) draft.partitions)
unfolding first_unknown
draft-is-conf draft sound none some =
    let size = length-partitions_by (node_names draft.nodes) draft.partitions in
    record {
      few_nodes = sound.few_nodes;
      nodes_once = pairs-unmapped (λ (one other : List ℕ). one ≢ other) (λ (node : NodeConf). node.name) draft.nodes sound.nodes_once;
      some_partition = rw size (at-least-one (length draft.partitions) some);
      few_partitions = rw size sound.few_partitions;
      partitions_once = pairs-unmapped (λ (one other : List ℕ). one ≢ other) (λ (p : PartConf). p.name) (partitions_by (node_names draft.nodes) draft.partitions) (rw (names-partitions_by (node_names draft.nodes) draft.partitions) sound.partitions_once);
      of_nodes = of-nodes (node_names draft.nodes) sound.nodes_once draft.partitions sound.lists_once (unmapped (find (λ (line : PartLine). has_unknown (node_names draft.nodes) line.nodes) draft.partitions) none);
      one_default = one-default (node_names draft.nodes) draft.partitions;
    } where
      at-least-one : (n : ℕ) → (n == 0) ≡ false → 1 ≤ n
      at-least-one n e = grind (arith, nat_tests)

      unmapped : (o : Option PartLine) → option_map (λ (line : PartLine). line.number) o ≡ None → o ≡ None
      unmapped (Some line) e = cc
      unmapped None e = refl

-- a file of which nothing is bad as a whole
pub whole-is-conf : (draft : Draft) (conf : ConfView) → IsSound draft → whole_file draft ≡ Ok conf → IsConf draft.nodes (partitions_by (node_names draft.nodes) draft.partitions)
unfolding whole_file
whole-is-conf draft conf sound good = by_line (first_unknown (node_names draft.nodes) draft.partitions) refl good where
  by_size : first_unknown (node_names draft.nodes) draft.partitions ≡ None → (t : Bool) → (length draft.partitions == 0) ≡ t → (if t then Err (At 0 NoPartition) else Ok (conf_of_lines draft)) ≡ Ok conf → IsConf draft.nodes (partitions_by (node_names draft.nodes) draft.partitions)
  by_size none true e h = cc
  by_size none false e h = draft-is-conf draft sound none e

  by_line : (o : Option ℕ) → first_unknown (node_names draft.nodes) draft.partitions ≡ o → known_all draft o ≡ Ok conf → IsConf draft.nodes (partitions_by (node_names draft.nodes) draft.partitions)
  by_line (Some line) e h = cc
  by_line None e h = by_size e (length draft.partitions == 0) refl h
