-- Every draft is sound.
use Rattle.std.proofs.Common.{ℕ, ◌≡◌, Bool, true, false, if◌then◌else◌, List, [], ◌∷◌, Result, Ok, Err, IfOk, arith}
use Rattle.std.proofs.lemmas.List.Elements.{All-nil}
use Rattle.std.specs.Str.{is_utf8}
use Rattle.conf_reader.specs.Lines.{NumberedLine}
use Rattle.plain_data.specs.Confs.{node_names}
use Rattle.text_values.specs.declared.conf_refusal.ConfKind.{ConfKind}
use Rattle.text_values.specs.declared.conf_refusal.ConfKind.TheVariants.{NotUtf8}
use Rattle.conf_reader.specs.NodeLines.{node_line}
use Rattle.conf_reader.specs.PartitionLines.{no_part_words, partition_names, part_line}
use Rattle.conf_reader.specs.SettingLines.{setting_line}
use Rattle.conf_reader.specs.Reader.{kind_of, after_kind, after_node_line, after_part_line, after_line, at_line}
use Rattle.conf_reader.specs.Reader.{after_lines, nothing_said}
use Rattle.conf_reader.specs.Sound.{ListsOnce, IsSound}
use Rattle.conf_reader.specs.declared.draft.Draft.{Draft}
use Rattle.conf_reader.specs.declared.draft.LineKind.{LineKind}
use Rattle.conf_reader.specs.declared.draft.LineKind.TheVariants.{Settings, Node, Partition}
use Rattle.conf_reader.specs.declared.partition_lines.PartLine.{PartLine}
use Rattle.conf_reader.proofs.NodeSteps.{after_node_line-sound}
use Rattle.conf_reader.proofs.NodeSteps.{line-comes as node_line-comes}
use Rattle.conf_reader.proofs.OnceLemmas.{once-nil}
use Rattle.conf_reader.proofs.PartSteps.{after_part_line-sound}
use Rattle.conf_reader.proofs.PartSteps.{line-comes as part_line-comes}
use Rattle.conf_reader.proofs.StepLemmas.{ok-then, ok-any}

kind-sound : (kind : LineKind) (draft : Draft) (number : ℕ) (line : List ℕ) → IsSound draft → IfOk (after_kind kind draft number line) IsSound
kind-sound Settings draft number line sound =
    ok-then (setting_line draft.settings line) _ (λ _. Unit {0}) IsSound (ok-any (setting_line draft.settings line)) (λ settings _. record {
      few_nodes = sound.few_nodes;
      nodes_once = sound.nodes_once;
      few_partitions = sound.few_partitions;
      partitions_once = sound.partitions_once;
      lists_once = sound.lists_once;
      default_once = sound.default_once;
    })
kind-sound Node draft number line sound =
    ok-then (node_line (node_names draft.nodes) line) (after_node_line draft) _ IsSound (node_line-comes (node_names draft.nodes) line) (λ own come. after_node_line-sound draft own sound come)
kind-sound Partition draft number line sound =
    ok-then (part_line (partition_names draft.partitions) line) (after_part_line draft number) _ IsSound (part_line-comes (partition_names draft.partitions) line) (λ own come. after_part_line-sound draft number own sound come)

line-sound : (draft : Draft) (number : ℕ) (line : List ℕ) → IsSound draft → IfOk (after_line draft number line) IsSound
unfolding after_line
line-sound draft number line sound = by_test (is_utf8 line) where
  by_test : (t : Bool) → IfOk (if t then after_kind (kind_of line) draft number line else Err NotUtf8) IsSound
  by_test true = kind-sound (kind_of line) draft number line sound
  by_test false = tt

at_line-is : {X : Type 0} (number : ℕ) (r : Result X ConfKind) (P : X → Type 0) → IfOk r P → IfOk (at_line number r) P
at_line-is number (Ok x) P h = h
at_line-is number (Err kind) P h = tt

lines-sound : (lines : List NumberedLine) (draft : Draft) → IsSound draft → IfOk (after_lines draft lines) IsSound
lines-sound [] draft sound = sound
lines-sound (line ∷ lines) draft sound =
    ok-then (at_line line.number (after_line draft line.number line.text)) _ IsSound IsSound (at_line-is line.number (after_line draft line.number line.text) IsSound (line-sound draft line.number line.text sound)) (λ next h. lines-sound lines next h)

nothing-sound : IsSound nothing_said
unfolding nothing_said no_part_words
nothing-sound = record {
  few_nodes = omega arith;
  nodes_once = once-nil;
  few_partitions = omega arith;
  partitions_once = once-nil;
  lists_once = All-nil (λ (line : PartLine). ListsOnce line.nodes);
  default_once = tt;
}

pub draft-sound : (lines : List NumberedLine) (draft : Draft) → after_lines nothing_said lines ≡ Ok draft → IsSound draft
draft-sound lines draft e = rw e at (lines-sound lines nothing_said nothing-sound)
