-- What is held once is held once where nodes move, no two of those that are held to one place.
use Rattle.std.proofs.Common.{◌≡◌, ℕ, ◌<◌, ◌≤◌, Bool, true, false, cond, eqb, ltb, List, length, map, sum_by, get_or, All, Any, refl, sym, ap, ◌∙◌, ◌&&◌, arith, inl, inr}
use Rattle.std.specs.List.{list_any}
use Rattle.std.proofs.lemmas.Bool.{cases_Bool, cond_both, and_parts, and_from, eqb-true, eq-eqb, ltb-true, ltb-false}
use Rattle.std.proofs.lemmas.List.Elements.{All-map}
use Rattle.resource_profile.specs.declared.NodeRoom.{NodeRoom}
use Rattle.job_table.specs.declared.record.Part.{Part}
use Rattle.job_table.specs.Changes.{is_on}
use Rattle.ctl_state.specs.Holding.{IsHeldOnce, IsPartOf, has_cpu, mem_held, mem_in, mem_of, times_held}
use Rattle.ctl_reconfigure.proofs.Lists.{any-moved, count-moved, sum-moved}

abbrev pub part_moved : (ℕ → ℕ) → Part → Part
part_moved move part = record part { node = move part.node }

-- a part on a node, once it moved, was on the one from which it came
came-from : (move back : ℕ → ℕ) (node : ℕ) (part : Part) → back (move part.node) ≡ part.node
    → is_on node (part_moved move part) ≡ true → is_on (back node) part ≡ true
came-from move back node part returns on =
    eq-eqb part.node (back node) (sym returns ∙ ap back (eqb-true (move part.node) node on))

has-moved : (move back : ℕ → ℕ) (node cpu : ℕ) (part : Part) → back (move part.node) ≡ part.node
    → has_cpu node cpu (part_moved move part) ≡ true → has_cpu (back node) cpu part ≡ true
has-moved move back node cpu part returns has =
    let both = and_parts (is_on node (part_moved move part)) (list_any (λ id. eqb id cpu) part.cpus) has in
    and_from (is_on (back node) part) (list_any (λ id. eqb id cpu) part.cpus)
    (came-from move back node part returns both.0) both.1

mem-moved : (move back : ℕ → ℕ) (node : ℕ) (part : Part) → back (move part.node) ≡ part.node
    → mem_in node (part_moved move part) ≤ mem_in (back node) part
mem-moved move back node part returns =
    cond_both (is_on node (part_moved move part)) part.mem 0 (λ mem. mem ≤ mem_in (back node) part)
    (λ on. rw (came-from move back node part returns on) (omega arith)) (λ off. omega arith)

pub held-moved : (rooms after : List NodeRoom) (move back : ℕ → ℕ) (parts : List Part) → IsHeldOnce rooms parts
    → All (λ (part : Part). back (move part.node) ≡ part.node) parts
    → All (λ (part : Part). IsPartOf after (part_moved move part)) parts
    → All (λ (part : Part). mem_held parts part.node ≤ mem_of after (move part.node)) parts
    → IsHeldOnce after (map (part_moved move) parts)
unfolding times_held mem_held
held-moved rooms after move back parts held returns fits room = record {
  each = All-map (IsPartOf after) (part_moved move) parts fits;
  once = λ node cpu. omega (
    arith,
    held.once (back node) cpu,
    count-moved (part_moved move) (has_cpu node cpu) (has_cpu (back node) cpu) parts
        (λ k d below. has-moved move back node cpu (get_or parts k d) (returns k d below)),
  );
  mem = λ node.
      let grown = sum-moved (part_moved move) (mem_in node) (mem_in (back node)) parts
      (λ k d below. mem-moved move back node (get_or parts k d) (returns k d below)) in
      elim (cases_Bool (ltb 0 (sum_by (mem_in node) (map (part_moved move) parts)))) [
        | inl some ↦
            let (k, part, below, is, counts) = any-moved (part_moved move) (mem_in node) parts
            (ltb-true 0 (sum_by (mem_in node) (map (part_moved move) parts)) some) in
            within node k part below is counts grown
        | inr none ↦ omega (arith, ltb-false 0 (sum_by (mem_in node) (map (part_moved move) parts)) none)
      ];
}
  where
    on-node : (node : ℕ) (part : Part) → 1 ≤ mem_in node (part_moved move part) → is_on node (part_moved move part) ≡ true
    on-node node part counts = elim (cases_Bool (is_on node (part_moved move part))) [
      | inl on ↦ on
      | inr off ↦ absurd (omega (arith, rw off at counts))
    ]

    within : (node k : ℕ) (part : Part) → k < length parts → get_or parts k part ≡ part
        → 1 ≤ mem_in node (part_moved move part)
        → sum_by (mem_in node) (map (part_moved move) parts) ≤ sum_by (mem_in (back node)) parts
        → sum_by (mem_in node) (map (part_moved move) parts) ≤ mem_of after node
    within node k part below is counts grown =
        let to : move part.node ≡ node = eqb-true (move part.node) node (on-node node part counts) in
        let from : part.node ≡ back node = sym (rw is at (returns k part below)) ∙ ap back to in
        let fits : sum_by (mem_in part.node) parts ≤ mem_of after (move part.node) = rw is at (room k part below) in
        let there : sum_by (mem_in (back node)) parts ≤ mem_of after node = rw (← from, ← to) fits in
        omega (arith, grown, there)
