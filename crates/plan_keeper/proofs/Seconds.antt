-- Seconds of nodes.
use Rattle.std.proofs.Common.{◌≡◌, ◌↔◌, ℕ, ◌≤◌, Bool, true, leb, List, All, arith, ap, sym, ◌∙◌, get_or, Option}
use Rattle.std.specs.List.{list_all}
use Rattle.std.proofs.lemmas.Bool.{leb-true, le-leb}
use Rattle.std.proofs.lemmas.List.Sums.{AllPass-from_list_all, list_all-from_AllPass}
use Rattle.backfill_planner.specs.declared.Placed.{Placed}
use Rattle.plan_keeper.specs.Kept.{lowered, Lowers, Moves}

-- whether all these nodes reach a second
pub reach-told : (seconds nodes : List ℕ) (second : ℕ) (told : Bool) → told ≡ list_all (λ node. leb second (get_or seconds node 0)) nodes → (told ≡ true) ↔ All (λ node. second ≤ get_or seconds node 0) nodes
reach-told seconds nodes second told is = (
  λ yes k d below. leb-true second (get_or seconds (get_or nodes k d) 0) (AllPass-from_list_all (λ node. leb second (get_or seconds node 0)) nodes (sym is ∙ yes) k d below),
  λ all. is ∙ list_all-from_AllPass (λ node. leb second (get_or seconds node 0)) nodes (λ k d below. le-leb second (get_or seconds (get_or nodes k d) 0) (all k d below)),
)

-- both placements lower the seconds up to which as much is free, and the old one those up to which no more is
pub moved : (same middle new_same no_freer new_no_freer : List ℕ) (before after : Option Placed) → Lowers same before middle → Lowers middle after new_same → Lowers no_freer before new_no_freer → Moves same no_freer before after new_same new_no_freer
moved same middle new_same no_freer new_no_freer before after first second third = record {
  long = second.long ∙ first.long;
  long_no_freer = third.long;
  same_each = λ node inside. second.each node (omega (arith, inside, first.long)) ∙ ap (λ one. lowered after node one) (first.each node inside);
  no_freer_each = third.each;
}
