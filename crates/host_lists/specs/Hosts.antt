-- Which names a host expression stands for.
use Rattle.std.specs.Prelude.{ℕ, ◌+◌, ◌-◌, Bool, true, false, not, ◌&&◌, ◌==◌, nat_le, if◌then◌else◌, Option, Some, None, is_some, option_map, unwrap_or, List, [], ◌∷◌, ◌++◌, length, replicate, map, fold, flat_map, decimal, bytes_eq}
use Rattle.std.specs.Str.{byte}
use Rattle.std.specs.List.{list_all, list_any, range_with_len}
use Rattle.small_texts.specs.Name.{is_name}
use Rattle.small_texts.specs.Digits.{number_within}
use Rattle.small_texts.specs.Fields.{fields}
use Rattle.small_texts.specs.Options.{◌>>=◌}

-- numbers of a bracket: from a first to a last, each in at least so many digits
pub record Numbers : Type 0 where
  pub first : ℕ
  pub last : ℕ
  pub width : ℕ

-- a number has 1 to 9 digits
abbrev pub number_in : List ℕ → Option ℕ
number_in text = number_within 9 999_999_999 text

-- a number, or two that don't fall; all are written in as many digits as the first, or more where they need more
unfoldable pub numbers_of : List (List ℕ) → Option Numbers
numbers_of (number ∷ []) = do
  n ← number_in number
  Some (record { first = n; last = n; width = length number })
numbers_of (from ∷ to ∷ []) = do
  first ← number_in from
  last ← number_in to
  if nat_le first last then Some (record { first = first; last = last; width = length from }) else None
numbers_of _ = None

-- the numbers of a part of a bracket, which a dash may cut
abbrev pub numbers_in : List ℕ → Option Numbers
numbers_in part = numbers_of (fields (byte "-") part)

-- a number in at least so many digits
abbrev pub padded : ℕ → ℕ → List ℕ
padded width n = replicate (width - length (decimal n)) (byte "0") ++ decimal n

-- the names of numbers behind a prefix
unfoldable pub range_names : List ℕ → Numbers → List (List ℕ)
range_names prefix numbers =
    map (λ n. prefix ++ padded numbers.width n) (range_with_len numbers.first (numbers.last + 1 - numbers.first))

-- whether a name is among names
abbrev pub has : List ℕ → List (List ℕ) → Bool
has name names = list_any (bytes_eq name) names

-- a name behind the others, unless it is among them
abbrev pub with_name : List (List ℕ) → List ℕ → List (List ℕ)
with_name names name = if has name names then names else names ++ name ∷ []

-- each name once, at its first place
abbrev pub distinct : List (List ℕ) → List (List ℕ)
distinct names = fold with_name [] names

-- the values, where each has one
abbrev pub all_some : {X : Type 0} → List (Option X) → Option (List X)
all_some [] = Some []
all_some (None ∷ options) = None
all_some (Some x ∷ options) = option_map (λ xs. x ∷ xs) (all_some options)

-- what the parts of a bracket make behind a prefix
abbrev pub made_by_parts : List ℕ → List (List ℕ) → Option (List (List ℕ))
made_by_parts prefix [] = Some []
made_by_parts prefix (part ∷ parts) = do
  numbers ← numbers_in part
  more ← made_by_parts prefix parts
  Some (range_names prefix numbers ++ more)

-- what follows the bracket that opens, by its fields at brackets that close, of which there is one, at the end
unfoldable pub made_behind : List ℕ → List (List ℕ) → Option (List (List ℕ))
made_behind prefix (inside ∷ [] ∷ []) = made_by_parts prefix (fields (byte ",") inside)
made_behind prefix _ = None

-- a name, or a prefix and a bracket, by the fields at brackets that open
unfoldable pub made_by : List (List ℕ) → Option (List (List ℕ))
made_by (name ∷ []) = Some (name ∷ [])
made_by (prefix ∷ rest ∷ []) = made_behind prefix (fields (byte "]") rest)
made_by _ = None

-- texts that are names and of which at most 1,024 differ
unfoldable pub few : List (List ℕ) → Option (List (List ℕ))
few names = if list_all is_name names && nat_le (length (distinct names)) 1024 then Some names else None

-- the names of an item
abbrev pub item_names : List ℕ → Option (List (List ℕ))
item_names item = made_by (fields (byte "[") item) >>= few

-- whether a bracket is open behind a byte
abbrev pub open_behind : Bool → ℕ → Bool
open_behind inside b = if b == byte "[" then true else (if b == byte "]" then false else inside)

-- whether an item ends before a byte
abbrev pub ends_item : Bool → ℕ → Bool
ends_item inside b = b == byte "," && not inside

-- the bytes in front of the first item
abbrev pub prepend : List ℕ → List (List ℕ) → List (List ℕ)
prepend bytes [] = []
prepend bytes (item ∷ items) = (bytes ++ item) ∷ items

-- the items of a text, which commas outside brackets separate
abbrev pub items_from : Bool → List ℕ → List (List ℕ)
items_from inside [] = [] ∷ []
items_from inside (b ∷ text) =
    if ends_item inside b then [] ∷ items_from false text else prepend (b ∷ []) (items_from (open_behind inside b) text)

unfoldable pub host_items : List ℕ → List (List ℕ)
host_items text = items_from false text

-- the items of what follows a comma, and none where nothing does
abbrev pub items_of_rest : Option (List ℕ) → List (List ℕ)
items_of_rest None = []
items_of_rest (Some rest) = host_items rest

-- the place of the first item that has no names, where the first item stands at a place
abbrev pub bad_from : ℕ → List (List ℕ) → Option ℕ
bad_from place [] = None
bad_from place (item ∷ items) =
    if is_some (item_names item) then bad_from (place + (length item + 1)) items else Some place

-- the first byte of the first bad item
unfoldable pub first_bad_item : List ℕ → Option ℕ
first_bad_item text = bad_from 0 (host_items text)

-- the names of items
abbrev pub all_names : List (List ℕ) → List (List ℕ)
all_names items = flat_map (λ item. unwrap_or (item_names item) []) items

-- the names of a host expression, each once
unfoldable pub hosts_in : List ℕ → List (List ℕ)
hosts_in text = distinct (all_names (host_items text))
