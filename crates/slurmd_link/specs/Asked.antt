-- What the words of slurmd ask.
use Rattle.std.specs.Prelude.{◌≡◌, ℕ, ◌-◌, ◌^◌, ◌==◌, List, length, drop, find, codes, nat_eq, if◌then◌else◌, Option, Some, None, option_map, option_and_then, IsSomeAnd}
use Rattle.std.specs.List.{starts_with}
use Rattle.small_texts.specs.Digits.{number_within}
use Rattle.small_texts.specs.Name.{is_name}
use Rattle.slurm_client.specs.Address.{IsAddress}
use Rattle.slurmd_link.specs.declared.words.SlurmdWords.{SlurmdWords}
use Rattle.slurmd_link.specs.declared.words.TheConstants.{MOST_TURNS}

-- the first word that begins with a label, and what stands behind the label there
abbrev pub word_of : List ℕ → List (List ℕ) → Option (List ℕ)
word_of label words = find (λ word. starts_with nat_eq word label) words

abbrev pub value_of : List ℕ → List (List ℕ) → Option (List ℕ)
value_of label words = option_map (drop (length label)) (word_of label words)

-- a name
abbrev pub named : List ℕ → Option (List ℕ)
named text = if is_name text then Some text else None

-- a number from 1 on
abbrev pub positive : Option ℕ → Option ℕ
positive None = None
positive (Some number) = if number == 0 then None else Some number

-- the node's name
abbrev pub node_in : List (List ℕ) → Option (List ℕ)
node_in words = option_and_then named (value_of (codes "--node=") words)

-- the number above 0 behind a label: so many decimal digits at the most, leading zeros among them
abbrev pub number_in : List ℕ → ℕ → ℕ → List (List ℕ) → Option ℕ
number_in label most greatest words = option_and_then (λ digits. positive (number_within most greatest digits)) (value_of label words)

-- the word that names the server names this user and port
abbrev pub IsServer : List (List ℕ) → List ℕ → ℕ → Type 0
IsServer words user port = IsSomeAnd (word_of (codes "--ctld=") words) (λ word. IsAddress word user port)

-- There are four words, and each of the four labels begins one: so each is there once, in any order.
pub record IsAsked (words : List (List ℕ)) (asked : SlurmdWords) : Type 0 where
  pub four : length words ≡ 4
  pub node : node_in words ≡ Some asked.node
  pub boot : number_in (codes "--boot=") 20 (2 ^ 64 - 1) words ≡ Some asked.boot
  pub server : IsServer words asked.user asked.port
  pub turns : number_in (codes "--turns=") 10 MOST_TURNS words ≡ Some asked.turns
