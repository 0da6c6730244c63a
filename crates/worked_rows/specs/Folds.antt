-- What holds of the groups and runs into which names of hosts are folded. How they are written is "hostlist" in
-- scontrol(1); which names make a group and a run is own.
use Rattle.std.specs.Prelude.{ℕ, ◌≡◌, ◌≢◌, ◌+◌, ◌-◌, ◌<◌, ◌≤◌, Bool, List, [], ◌∷◌, length, map, flat_map, true, All, AllPairs, Contains, IsPermutation}
use Rattle.std.specs.List.{range_with_len, AllAdjacentBelow}
use Rattle.std.specs.Ordering.{nat_cmp}
use Rattle.std.specs.Cmp.Lexicographic.{slice_cmp}
use Rattle.std.specs.declared.cmp.Ordering.TheVariants.{Less}
use Rattle.host_lists.specs.Hosts.{has}
use Rattle.host_lists.specs.Folding.{in_byte_order, digits_len, prefix_of, number_of, grouped, runs}

-- the first name of a group
abbrev pub first_of : List (List ℕ) → List ℕ
first_of [] = []
first_of (name ∷ names) = name

-- names that differ in their numbers alone: they have one prefix, and as many digits
abbrev pub AreAlike : List ℕ → List ℕ → Type 0
AreAlike one other = (prefix_of one ≡ prefix_of other) × (digits_len one ≡ digits_len other)

-- each name is before all that follow it
abbrev pub AreInOrder : (List ℕ → List ℕ → Bool) → List (List ℕ) → Type 0
AreInOrder is_before names = AllPairs (λ one other. is_before one other ≡ true) names

-- a name is below another in byte order
abbrev pub IsBelow : List ℕ → List ℕ → Type 0
IsBelow one other = slice_cmp nat_cmp one other ≡ Less

-- What is folded are the names, each once, in byte order.
abbrev pub NamesAreKept : Type 0
NamesAreKept = (names : List (List ℕ)) (name : List ℕ) → has name (in_byte_order names) ≡ has name names

abbrev pub NamesAreInOrder : Type 0
NamesAreInOrder = (names : List (List ℕ)) → AllPairs IsBelow (in_byte_order names)

-- The groups hold the names, each as often as the list did;
abbrev pub GroupsHoldTheNames : Type 0
GroupsHoldTheNames = (names : List (List ℕ)) → IsPermutation names (flat_map (λ group. group) (grouped names))

-- each has a name at least, and its names are alike;
abbrev pub GroupsAreAlike : Type 0
GroupsAreAlike = (names : List (List ℕ))
    → All (λ group. (group ≢ []) × All (AreAlike (first_of group)) group) (grouped names)

-- a name without digits stands alone;
abbrev pub NamesWithoutDigits : Type 0
NamesWithoutDigits = (names : List (List ℕ))
    → All (λ group. digits_len (first_of group) ≡ 0 → length group ≡ 1) (grouped names)

-- no two groups with digits are alike;
abbrev pub GroupsAreApart : Type 0
GroupsAreApart = (names : List (List ℕ))
    → AllPairs (λ one other. AreAlike one other → digits_len one ≡ 0) (map first_of (grouped names))

-- and whichever order the names had, the first names of the groups have it, and so have the names of each group.
abbrev pub GroupsKeepOrder : Type 0
GroupsKeepOrder = (is_before : List ℕ → List ℕ → Bool) (names : List (List ℕ)) → AreInOrder is_before names
    → AreInOrder is_before (map first_of (grouped names)) × All (AreInOrder is_before) (grouped names)

-- So the numbers of a group rise.
abbrev pub NumbersRise : Type 0
NumbersRise = (names : List (List ℕ))
    → All (AllPairs (λ one other. number_of one < number_of other)) (grouped (in_byte_order names))

-- the numbers of a run, from its first name's to its last name's: each is the one before it plus one
abbrev pub run_numbers : List ℕ × List ℕ → List ℕ
run_numbers run = range_with_len (number_of run.0) (number_of run.1 + 1 - number_of run.0)

-- The runs of names hold their numbers, in their order;
abbrev pub RunsHoldTheNumbers : Type 0
RunsHoldTheNumbers = (names : List (List ℕ)) → flat_map run_numbers (runs names) ≡ map number_of names

-- each goes from a number of these names to one that isn't below it;
abbrev pub RunsGoUp : Type 0
RunsGoUp = (names : List (List ℕ)) → All (λ run. number_of run.0 ≤ number_of run.1) (runs names)

abbrev pub RunsAreOfNames : Type 0
RunsAreOfNames = (names : List (List ℕ)) → All (λ run. Contains names run.0 × Contains names run.1) (runs names)

-- and each is as long as it can be: the next never begins at the number behind its last.
abbrev pub RunsAreLongest : Type 0
RunsAreLongest = (names : List (List ℕ))
    → AllAdjacentBelow (λ run next. number_of next.0 ≢ number_of run.1 + 1) (runs names) (length (runs names))
