-- Which places are found: one node more, and whether there is any.
use Rattle.std.proofs.Common.{ℕ, zero, suc, ◌≡◌, ◌+◌, ◌<◌, ◌∙◌, Bool, true, false, ◌||◌, List, [], ◌∷◌, length, take, get_or, refl, sym, ap, arith, nat_eq, add-one}
use Rattle.std.specs.List.{list_any}
use Rattle.std.proofs.lemmas.Bool.{both_ways, eq-eqb, ne_eqb, or_left, or_from, or_right}
use Rattle.std.proofs.lemmas.Bool.Decides.{nat_tests}
use Rattle.node_state.specs.declared.record.NodeRecord.{NodeRecord}
use Rattle.plain_data.specs.Rows.{has_id}
use Rattle.ctl_state.specs.Planning.{is_at}

-- before the first node nothing is found
pub at_none : (test : NodeRecord → Bool) (nodes : List NodeRecord) (place : ℕ)
    → is_at test (take 0 nodes) place ≡ false
at_none test nodes place = refl

or-false : (b : Bool) → b ≡ (b || false)
or-false true = refl
or-false false = refl

both-suc : (k place : ℕ) → nat_eq k place ≡ nat_eq (suc k) (suc place)
both-suc k place = grind (arith, nat_tests)

-- one node more, of which it holds or doesn't
more : (test : NodeRecord → Bool) (nodes : List NodeRecord) (k place : ℕ) (node : NodeRecord)
    → k < length nodes → node ≡ get_or nodes k node → test node ≡ true
    → is_at test (take (suc k) nodes) place ≡ (is_at test (take k nodes) place || nat_eq k place)
more test [] k place node below read holds = absurd (omega (arith, below))
more test (first ∷ nodes) zero zero node below read holds = ap test (sym read) ∙ holds
more test (first ∷ nodes) zero (suc place) node below read holds =
    sym (ne_eqb 0 (suc place) (λ same. omega (arith, same)))
more test (first ∷ nodes) (suc k) zero node below read holds =
    or-false (test first) ∙ ap (λ b. test first || b) (sym (ne_eqb (suc k) 0 (λ same. omega (arith, same))))
more test (first ∷ nodes) (suc k) (suc place) node below read holds =
    more test nodes k place node (omega (arith, below)) read holds
    ∙ ap (λ b. is_at test (take k nodes) place || b) (both-suc k place)

other : (test : NodeRecord → Bool) (nodes : List NodeRecord) (k place : ℕ) (node : NodeRecord)
    → k < length nodes → node ≡ get_or nodes k node → test node ≡ false
    → is_at test (take (suc k) nodes) place ≡ is_at test (take k nodes) place
other test [] k place node below read fails = absurd (omega (arith, below))
other test (first ∷ nodes) zero zero node below read fails = ap test (sym read) ∙ fails
other test (first ∷ nodes) zero (suc place) node below read fails = refl
other test (first ∷ nodes) (suc k) zero node below read fails = refl
other test (first ∷ nodes) (suc k) (suc place) node below read fails =
    other test nodes k place node (omega (arith, below)) read fails

pub at_more : (test : NodeRecord → Bool) (nodes : List NodeRecord) (k place : ℕ) (node : NodeRecord)
    → k < length nodes → node ≡ get_or nodes k node → test node ≡ true
    → is_at test (take (k + 1) nodes) place ≡ (is_at test (take k nodes) place || nat_eq k place)
at_more test nodes k place node below read holds = rw add-one (more test nodes k place node below read holds)

pub at_other : (test : NodeRecord → Bool) (nodes : List NodeRecord) (k place : ℕ) (node : NodeRecord)
    → k < length nodes → node ≡ get_or nodes k node → test node ≡ false
    → is_at test (take (k + 1) nodes) place ≡ is_at test (take k nodes) place
at_other test nodes k place node below read fails = rw add-one (other test nodes k place node below read fails)

-- where no place is found, it holds of none of the nodes
pub none_at : (test : NodeRecord → Bool) (nodes : List NodeRecord)
    → ((place : ℕ) → is_at test nodes place ≡ false) → list_any test nodes ≡ false
none_at test [] none = refl
none_at test (node ∷ nodes) none =
    or_from (test node) (list_any test nodes) (none 0) (none_at test nodes (λ place. none (suc place)))

-- and where one is found, of one
pub some_at : (test : NodeRecord → Bool) (nodes : List NodeRecord) (place : ℕ)
    → is_at test nodes place ≡ true → list_any test nodes ≡ true
some_at test [] place some = absurd (both_ways false refl some)
some_at test (node ∷ nodes) zero some = or_left (test node) (list_any test nodes) some
some_at test (node ∷ nodes) (suc place) some =
    or_right (test node) (list_any test nodes) (some_at test nodes place some)

-- the places that are found are none exactly where it holds of none
pub none_found : (ids : List ℕ) (test : NodeRecord → Bool) (nodes : List NodeRecord)
    → ((place : ℕ) → has_id ids place ≡ is_at test nodes place) → ids ≡ [] → list_any test nodes ≡ false
none_found ids test nodes are none = none_at test nodes (λ place. sym (are place) ∙ ap (λ ids. has_id ids place) none)

pub some_found : (ids : List ℕ) (test : NodeRecord → Bool) (nodes : List NodeRecord)
    → ((place : ℕ) → has_id ids place ≡ is_at test nodes place) → (ids ≡ [] → ⊥) → list_any test nodes ≡ true
some_found [] test nodes are some = absurd (some refl)
some_found (id ∷ ids) test nodes are some =
    some_at test nodes id
    (sym (are id) ∙ or_left (nat_eq id id) (list_any (λ one. nat_eq one id) ids) (eq-eqb id id refl))
