-- The keys of slurm.conf, by the kind of line that they stand on.
use Rattle.std.specs.Prelude.{ℕ, List, Option, map}
use Rattle.text_values.specs.Tables.{key_named}
use Rattle.text_values.specs.declared.keys.TheConstants.{SETTING_KEYS, NODE_KEYS, PARTITION_KEYS}
use Rattle.text_values.specs.declared.keys.SettingKey.{SettingKey}
use Rattle.text_values.specs.declared.keys.NodeKey.{NodeKey}
use Rattle.text_values.specs.declared.keys.PartitionKey.{PartitionKey}

unfoldable pub setting_key : List ℕ → Option SettingKey
setting_key text = key_named (map (λ row. (row.0.now, row.1)) SETTING_KEYS) text

unfoldable pub node_key : List ℕ → Option NodeKey
node_key text = key_named (map (λ row. (row.0.now, row.1)) NODE_KEYS) text

unfoldable pub partition_key : List ℕ → Option PartitionKey
partition_key text = key_named (map (λ row. (row.0.now, row.1)) PARTITION_KEYS) text
