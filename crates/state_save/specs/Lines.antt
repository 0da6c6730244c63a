-- How the words of a line are read, and the first line of a text.
use Rattle.std.specs.Prelude.{◌≡◌, ◌++◌, ℕ, ◌<◌, ◌≤◌, if◌then◌else◌, Option, Some, None, Result, Ok, Err, List, [], ◌∷◌, ◌-◌, All, AllPairs, IfSome, bytes_eq, drop, length, map, slice_get, take}
use Rattle.small_texts.specs.Options.{◌>>=◌}
use Rattle.text_values.specs.Names.{name_in}
use Rattle.text_values.specs.declared.refusal.ValueRefusal.{ValueRefusal}
use Rattle.text_values.specs.declared.refusal.ValueRefusal.TheVariants.{BadValue, Memory}
use Rattle.node_state.specs.declared.record.DroppedNode.{DroppedNode}
use Rattle.saved_data.specs.declared.parts.SavedArray.{SavedArray}
use Rattle.saved_data.specs.declared.parts.SavedNode.{SavedNode}
use Rattle.saved_data.specs.declared.parts.SavedPartition.{SavedPartition}
use Rattle.saved_data.specs.declared.parts.SavedPlaced.{SavedPlaced}
use Rattle.saved_data.specs.declared.parts.SavedReservation.{SavedReservation}
use Rattle.saved_data.specs.declared.parts.SavedUsage.{SavedUsage}
use Rattle.state_save.specs.Meanings.{optional_in, list_in, u32_in, u64_in, ranged_in, truth_in, part_state_in, down_in, pair_in, heard_in, share_in}
use Rattle.state_save.specs.Reading.{lines_of}
use Rattle.state_save.specs.declared.cluster_lines.Head.{Head}

-- the value was read, unless memory was wanting
abbrev pub Reads : {X : Type 0} → X → Result X ValueRefusal → Type 0
Reads x (Ok read) = read ≡ x
Reads x (Err BadValue) = ⊥
Reads x (Err Memory) = Unit {0}

-- what stands behind a key
abbrev pub behind_key : List ℕ → List ℕ → Option (List ℕ)
behind_key key word = if bytes_eq (take (length key) word) key then Some (drop (length key) word) else None

-- what stands behind a key in the word at a place
unfoldable pub field_at : List (List ℕ) → ℕ → List ℕ → Option (List ℕ)
field_at line place key = slice_get line place >>= behind_key key

unfoldable pub field_in : {X : Type 0} → (List ℕ → Option X) → List (List ℕ) → ℕ → List ℕ → Option X
field_in meaning line place key = field_at line place key >>= meaning

-- what the words of each kind of line are read as
unfoldable pub head_in : List (List ℕ) → Option Head
head_in line = do
  moment ← field_in u64_in line 1 []
  next ← field_in u32_in line 3 []
  Some (record { moment = moment; next_id = next })

unfoldable pub partition_in : List (List ℕ) → Option SavedPartition
partition_in line = do
  name ← field_in name_in line 1 []
  state ← field_in part_state_in line 2 []
  Some (record { name = name; state = state })

unfoldable pub node_in : List (List ℕ) → Option SavedNode
node_in line = do
  down ← field_in down_in line 2 []
  drain ← field_in truth_in line 3 []
  empty ← field_in truth_in line 4 []
  heard ← field_in (optional_in heard_in) line 5 []
  name ← field_in name_in line 1 []
  Some (record { name = name; down = down; drain = drain; empty = empty; heard = heard })

unfoldable pub dropped_in : List (List ℕ) → Option DroppedNode
dropped_in line = do
  pair ← field_in pair_in line 2 []
  name ← field_in name_in line 1 []
  Some (record { name = name; boot = pair.boot; number = pair.number })

unfoldable pub usage_in : List (List ℕ) → Option SavedUsage
usage_in line = do
  total ← field_in (ranged_in 1 18_446_744_073_709_551_615) line 3 []
  account ← field_in name_in line 1 []
  user ← field_in name_in line 2 []
  Some (record { account = account; user = user; total = total })

unfoldable pub reservation_in : List (List ℕ) → Option SavedReservation
reservation_in line = do
  start ← field_in u64_in line 2 []
  end ← field_in u64_in line 3 []
  name ← field_in name_in line 1 []
  nodes ← field_in (list_in name_in 44) line 4 []
  users ← field_in (list_in name_in 44) line 5 []
  accounts ← field_in (list_in name_in 44) line 6 []
  Some (record { name = name; start = start; end = end; nodes = nodes; users = users; accounts = accounts })

unfoldable pub array_in : List (List ℕ) → Option SavedArray
array_in line = do
  id ← field_in u32_in line 1 []
  indices ← field_in (list_in u32_in 44) line 2 []
  Some (record { id = id; indices = indices })

unfoldable pub placed_in : List (List ℕ) → Option SavedPlaced
placed_in line = do
  id ← field_in u32_in line 1 []
  start ← field_in u64_in line 2 []
  shares ← field_in (list_in share_in 59) line 3 []
  Some (record { id = id; start = start; shares = shares })

-- The lines with which a text begins are those of some members so far.
pub record AreBegun {X : Type 0} (line : X → List ℕ) (fits : X → Type 0) (follows : X → X → Type 0) (text : List ℕ) (xs : List X) (rest : List ℕ) : Type 0 where
  pub lines : lines_of text ≡ map line xs ++ lines_of rest
  pub fit : All fits xs
  pub only : All (λ x. (y : X) → fits y → line y ≡ line x → y ≡ x) xs
  pub order : AllPairs follows xs
  pub shorter : length rest ≤ length text

-- The lines with which a text begins are those of some members, each of which only it has. They stand in order, and no
-- member that might follow them has the next line.
pub record AreLinesRead {X : Type 0} (line : X → List ℕ) (fits : X → Type 0) (follows : X → X → Type 0) (text : List ℕ) (xs : List X) (rest : List ℕ) : Type 0 where
  pub lines : lines_of text ≡ map line xs ++ lines_of rest
  pub fit : All fits xs
  pub only : All (λ x. (y : X) → fits y → line y ≡ line x → y ≡ x) xs
  pub order : AllPairs follows xs
  pub ended : (y : X) (more : List (List ℕ)) → fits y → All (λ x. follows x y) xs → ¬ (lines_of rest ≡ line y ∷ more)
  pub shorter : length rest ≤ length text

-- The next line of a text is that of a member which may follow those before it, and only of this one.
pub record IsNextLine {X : Type 0} (line : X → List ℕ) (fits : X → Type 0) (follows : X → X → Type 0) (before : List X) (text : List ℕ) (x : X) (rest : List ℕ) : Type 0 where
  pub lines : lines_of text ≡ line x ∷ lines_of rest
  pub fit : fits x
  pub only : (y : X) → fits y → line y ≡ line x → y ≡ x
  pub behind : All (λ b. follows b x) before
  pub shorter : length rest < length text

-- a member may stand behind the last one, where there is one
abbrev pub FollowsLast : {X : Type 0} → (X → X → Type 0) → List X → X → Type 0
FollowsLast follows before x = IfSome (slice_get before (length before - 1)) (λ last. follows last x)

-- no member that may follow those before it has the next line of a text
abbrev pub AreEnded : {X : Type 0} → (X → List ℕ) → (X → Type 0) → (X → X → Type 0) → List X → List ℕ → Type 0
AreEnded {X = X} line fits follows before text =
    (y : X) (more : List (List ℕ)) → fits y → All (λ b. follows b y) before → ¬ (lines_of text ≡ line y ∷ more)
