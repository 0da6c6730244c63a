use Rattle.std.proofs.Common.{refl, eqb-true, false, ◌==◌, arith, ℕ, ◌≡◌, [], Some, None, List, get_or, length, sym, ap, ◌∙◌, map}
use Rattle.std.proofs.lemmas.List.{length-map}
use Rattle.host_lists.specs.Folding.{prefix_of, digits_len, with_grouped}
use Rattle.host_lists.proofs.FoldingLemmas.{place_in, put_at, put_behind, put_alone, grouped-more}
use Rattle.host_lists.proofs.folding.grouped.Goals as goal
use Rattle.host_lists.proofs.folding.grouped.Goals.{in-Some+in_ok-push_at-in-Some, in-None+in_ok-insert-in-None+in_ok-push_group_of-in-None}

pub push_at-requires : goal.push_at-requires
push_at-requires c =
    let name = (get_or c.args.names.now c.loop-name.name-index (record { ref_ptr = (0, 0); now = [] })).now in
    let groups = map (λ group. map (λ n. n.now) group.items) c.loop-name.groups.items in
    let found : place_in (prefix_of name) (digits_len name) groups ≡ Some c.in-Some.place = rw (← c.prefix_and_digits.ensures.prefix, ← c.prefix_and_digits.ensures.len) (sym (c.loop-name.invariant.1 (c.prefix_and_digits.result.0, length c.prefix_and_digits.result.1.now)) ∙ (sym c.get.ensures.value ∙ sym c.in-Some.ensures)) in
    let within = rw length-map at (put_at groups name c.in-Some.place found).within in
    omega (arith, within, c.loop-name.groups.ok.0)

pub loop-name-preserved : goal.loop-name-preserved
loop-name-preserved c =
    let name = (get_or c.args.names.now c.loop-name.name-index (record { ref_ptr = (0, 0); now = [] })).now in
    let groups = map (λ group. map (λ n. n.now) group.items) c.loop-name.groups.items in
    elim c.match-copied.branch [
      | in-Some+in_ok-push_at-in-Some w ↦
          let found : place_in (prefix_of name) (digits_len name) groups ≡ Some w.in-Some.place = rw (← c.prefix_and_digits.ensures.prefix, ← c.prefix_and_digits.ensures.len) (sym (c.loop-name.invariant.1 (c.prefix_and_digits.result.0, length c.prefix_and_digits.result.1.now)) ∙ (sym c.get.ensures.value ∙ sym w.in-Some.ensures)) in
          let put = put_at groups name w.in-Some.place found in
          let now_is : map (λ group. map (λ n. n.now) group.items) c.match-copied.groups.items ≡ with_grouped groups name = rw w.groups-is (w.in_ok-push_at-in-Some.ensures ∙ sym put.puts) in (
            now_is ∙ (ap (λ (u : List (List (List ℕ))). with_grouped u name) c.loop-name.invariant.0 ∙ sym (grouped-more (λ n. n.now) c.args.names.now c.loop-name.name-index _ (omega arith))),
            λ q. rw (w.places-is, now_is) (c.loop-name.invariant.1 q ∙ sym (put.places q.0.now q.1)),
          )
      | in-None+in_ok-insert-in-None+in_ok-push_group_of-in-None w ↦
          let found : place_in (prefix_of name) (digits_len name) groups ≡ None = rw (← c.prefix_and_digits.ensures.prefix, ← c.prefix_and_digits.ensures.len) (sym (c.loop-name.invariant.1 (c.prefix_and_digits.result.0, length c.prefix_and_digits.result.1.now)) ∙ (sym c.get.ensures.value ∙ sym w.in-None.ensures)) in
          let digits : (digits_len name == 0) ≡ false = rw (← c.prefix_and_digits.ensures.len) (sym c.is_empty.ensures ∙ c.if-is_empty.false) in
          let put = put_behind groups name digits found in
          let now_is : map (λ group. map (λ n. n.now) group.items) c.match-copied.groups.items ≡ with_grouped groups name = rw w.groups-is (w.in_ok-push_group_of-in-None.ensures ∙ sym put.puts) in
          let size : w.len.result ≡ length groups = rw length-map (omega (arith, w.len.ensures, c.loop-name.groups.ok.0)) in (
            now_is ∙ (ap (λ (u : List (List (List ℕ))). with_grouped u name) c.loop-name.invariant.0 ∙ sym (grouped-more (λ n. n.now) c.args.names.now c.loop-name.name-index _ (omega arith))),
            λ q. rw (w.places-is, now_is, put.puts, put.places q.0.now q.1) (w.in_ok-insert-in-None.ensures.updates.0 q ∙ rw (c.prefix_and_digits.ensures.prefix, c.prefix_and_digits.ensures.len, size, c.loop-name.invariant.1 q) refl),
          )
    ]

pub loop-name-preserved-then-is_empty : goal.loop-name-preserved-then-is_empty
loop-name-preserved-then-is_empty c =
    let name = (get_or c.args.names.now c.loop-name.name-index (record { ref_ptr = (0, 0); now = [] })).now in
    let groups = map (λ group. map (λ n. n.now) group.items) c.loop-name.groups.items in
    let digits : digits_len name ≡ 0 = eqb-true (digits_len name) 0 (rw (← c.prefix_and_digits.ensures.len) (sym c.is_empty.ensures ∙ c.if-is_empty.true)) in
    let put = put_alone groups name digits in
    let now_is : map (λ group. map (λ n. n.now) group.items) c.push_group_of.new.groups.items ≡ with_grouped groups name = c.in_ok-push_group_of.ensures ∙ sym put.puts in (
      now_is ∙ (ap (λ (u : List (List (List ℕ))). with_grouped u name) c.loop-name.invariant.0 ∙ sym (grouped-more (λ n. n.now) c.args.names.now c.loop-name.name-index _ (omega arith))),
      λ q. rw (now_is, put.puts, put.places q.0.now q.1) (c.loop-name.invariant.1 q),
    )
