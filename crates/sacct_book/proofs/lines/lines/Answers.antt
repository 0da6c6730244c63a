use Rattle.std.proofs.Common.{◌≡◌, ◌++◌, ◌∙◌, ℕ, List, length, sym, ap, arith, zero-add, add-one}
use Rattle.std.specs.List.{flat_map, range_with_len}
use Rattle.sacct_book.specs.Lines.{line_at, lines}
use Rattle.sacct_book.proofs.Ranges.{flat_map-more}
use Rattle.sacct_book.proofs.lines.lines.Goals as goal

pub loop-place-preserved : goal.loop-place-preserved
loop-place-preserved c =
    let at = c.loop-place.place in
    let line : ℕ → List ℕ = line_at c.args.sums.now (record { from = c.args.from; until = c.args.until }) c.args.now in
    c.in_ok-push_used.ensures
    ∙ ap (λ text. text ++ line at) c.loop-place.invariant
    ∙ ap (λ place. flat_map line (range_with_len 0 at) ++ line place) (sym (zero-add at))
    ∙ sym (flat_map-more line 0 at)
    ∙ ap (λ count. flat_map line (range_with_len 0 count)) (sym (add-one at))

pub returns : goal.returns
unfolding lines
returns c =
    let line : ℕ → List ℕ = line_at c.args.sums.now (record { from = c.args.from; until = c.args.until }) c.args.now in
    let all : c.loop-place.place ≡ length c.args.sums.now.opening.assocs =
    omega (
      arith,
      c.loop-place-test.false,
      c.loop-place.auto.place-end,
      ap length (c.records.ensures.value ∙ c.assocs.ensures),
    ) in
    c.loop-place.invariant ∙ ap (λ count. flat_map line (range_with_len 0 count)) all
