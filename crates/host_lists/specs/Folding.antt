-- How names of hosts are folded into one text.
use Rattle.std.specs.Prelude.{ℕ, ◌+◌, ◌-◌, min, Bool, false, not, ◌&&◌, ◌==◌, if◌then◌else◌, List, [], ◌∷◌, ◌++◌, length, take, drop, map, fold, flat_map, bytes_eq}
use Rattle.std.specs.Ordering.{nat_cmp}
use Rattle.std.specs.Cmp.Lexicographic.{slice_cmp}
use Rattle.std.specs.Char.{is_ascii_digit}
use Rattle.std.specs.List.{suffix_len}
use Rattle.std.specs.BTreeSet.{insert_key}
use Rattle.std.specs.Str.{byte}
use Rattle.std.specs.Str.Parse.{digits_value}

-- each name once, in byte order
unfoldable pub in_byte_order : List (List ℕ) → List (List ℕ)
in_byte_order names = fold (insert_key (slice_cmp nat_cmp)) [] names

-- how many digits at the end of a name are its number's: at most nine
unfoldable pub digits_len : List ℕ → ℕ
digits_len name = min 9 (suffix_len is_ascii_digit name)

abbrev pub prefix_of : List ℕ → List ℕ
prefix_of name = take (length name - digits_len name) name

abbrev pub digits_of : List ℕ → List ℕ
digits_of name = drop (length name - digits_len name) name

abbrev pub number_of : List ℕ → ℕ
number_of name = digits_value 10 (digits_of name)

-- names of equal prefix and equal number of digits are of one group, and a name without digits stands alone
abbrev pub same_group : List ℕ → List ℕ → Bool
same_group a b = not (digits_len b == 0) && (bytes_eq (prefix_of a) (prefix_of b) && digits_len a == digits_len b)

abbrev pub is_of_group : List (List ℕ) → List ℕ → Bool
is_of_group [] name = false
is_of_group (first ∷ names) name = same_group first name

-- a name behind the names of its group, or as a group behind the others
abbrev pub with_grouped : List (List (List ℕ)) → List ℕ → List (List (List ℕ))
with_grouped [] name = (name ∷ []) ∷ []
with_grouped (group ∷ groups) name =
    if is_of_group group name then (group ++ name ∷ []) ∷ groups else group ∷ with_grouped groups name

-- the groups, in the order of their first names
unfoldable pub grouped : List (List ℕ) → List (List (List ℕ))
grouped names = fold with_grouped [] names

-- a first and a last name, with the runs behind them: one run where the next name is the neighbour
abbrev pub continued : List ℕ → List ℕ → List (List ℕ × List ℕ) → List (List ℕ × List ℕ)
continued first last [] = (first, last) ∷ []
continued first last (next ∷ runs) =
    if number_of next.0 == number_of last + 1 then (first, next.1) ∷ runs else (first, last) ∷ next ∷ runs

-- the longest runs of neighbours
abbrev pub runs : List (List ℕ) → List (List ℕ × List ℕ)
runs [] = []
runs (name ∷ names) = continued name name (runs names)

unfoldable pub run_text : List ℕ → List ℕ → List ℕ
run_text first last = if bytes_eq first last then digits_of first else digits_of first ++ byte "-" ∷ digits_of last

-- texts with commas between them
abbrev pub with_commas : List (List ℕ) → List ℕ
with_commas [] = []
with_commas (text ∷ texts) = text ++ flat_map (λ t. byte "," ∷ t) texts

abbrev pub runs_text : List (List ℕ × List ℕ) → List ℕ
runs_text runs = with_commas (map (λ run. run_text run.0 run.1) runs)

-- a name alone, or the prefix and the runs in a bracket
unfoldable pub group_text : List (List ℕ) → List ℕ
group_text [] = []
group_text (name ∷ []) = name
group_text (name ∷ next ∷ names) = prefix_of name ++ byte "[" ∷ runs_text (runs (name ∷ next ∷ names)) ++ byte "]" ∷ []

-- the text of a set of names
unfoldable pub folded : List (List ℕ) → List ℕ
folded names = with_commas (map group_text (grouped (in_byte_order names)))
