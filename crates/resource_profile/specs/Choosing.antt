-- The choice as a function: of all sets of places, in dictionary order, the first that fits.
use Rattle.std.specs.Prelude.{ℕ, ◌+◌, zero, suc, Bool, ◌&&◌, nat_eq, nat_le, List, [], ◌∷◌, ◌++◌, length, map, find, Option}
use Rattle.std.specs.List.{list_all, list_any}
use Rattle.resource_profile.specs.declared.picking.Need.{Need}
use Rattle.resource_profile.specs.Sets.{capacity, tasks_given}

-- so many numbers in order, from the least on
unfoldable pub numbers_from : ℕ → ℕ → List ℕ
numbers_from least zero = []
numbers_from least (suc more) = least ∷ numbers_from (least + 1) more

-- the sets of these places that aren't empty, in dictionary order: those with the first place come before those without
unfoldable pub filled_sets : List ℕ → List (List ℕ)
filled_sets [] = []
filled_sets (place ∷ later) = map (λ set. place ∷ set) ([] ∷ filled_sets later) ++ filled_sets later

-- all sets of these places in dictionary order
unfoldable pub sets : List ℕ → List (List ℕ)
sets places = [] ∷ filled_sets places

-- whether the set has the place
abbrev pub has : List ℕ → ℕ → Bool
has set place = list_any (λ other. nat_eq other place) set

-- whether the set fits the need
unfoldable pub fits : List ℕ → Need → List ℕ → Bool
fits caps need set =
    list_all (λ place. has set place) (numbers_from 0 need.required)
    && (list_all (λ place. nat_le 1 (capacity caps place)) set
    && (nat_le need.tasks (tasks_given caps set)
    && (nat_le (length set) need.tasks
    && (nat_le need.least (length set) && nat_le (length set) need.most))))

-- the first of all sets that fits, or none
unfoldable pub chosen : List ℕ → Need → Option (List ℕ)
chosen caps need = find (λ set. fits caps need set) (sets (numbers_from 0 (length caps)))
