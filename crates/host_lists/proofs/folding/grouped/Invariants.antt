use Rattle.std.proofs.Common.{ℕ, ◌≡◌, ◌==◌, ◌&&◌, [], List, take, map, fold, Bor}
use Rattle.std.specs.Str.{bytes_eq}
use Rattle.std.specs.HashMap.{get}
use Rattle.host_lists.specs.Folding.{with_grouped}
use Rattle.host_lists.proofs.FoldingLemmas.{place_in}
use Rattle.host_lists.proofs.folding.grouped.Given as goal

abbrev pub invariant-loop-name : goal.invariant-loop-name
invariant-loop-name l =
    let groups = map (λ group. map (λ name. name.now) group.items) l.groups.items in
    (groups ≡ fold with_grouped [] (take l.name-index (map (λ name. name.now) l.names)))
    × ((q : Bor (List ℕ) × ℕ) → get (λ a b. bytes_eq a.0.now b.0.now && a.1 == b.1) l.places q ≡ place_in q.0.now q.1 groups)
