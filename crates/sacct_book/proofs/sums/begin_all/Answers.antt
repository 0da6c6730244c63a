use Rattle.std.proofs.Common.{◌≡◌, ◌∙◌, ℕ, List, [], length, map, ap, arith}
use Rattle.std.proofs.lemmas.List.{length-map}
use Rattle.ctl_state.specs.State.{State}
use Rattle.sacct_book.specs.Keeping.{KeepsUse}
use Rattle.sacct_book.specs.Running.{AreCounted}
use Rattle.sacct_book.specs.Times.{begun, times_of}
use Rattle.sacct_book.proofs.Keeps.{counted-all, keeps-none}
use Rattle.sacct_book.proofs.sums.begin_all.Goals as goal

pub returns : goal.returns
returns c =
    let opening = c.args.ctl.now.state in
    let held = c.count_running.new.held in
    let timelines = c.in_ok-timelines.timelines in
    let cluster = c.cluster-cluster.result.now in
    let same = c.cluster-cluster.ensures.value in
    let jobs : c.records-2.result.now ≡ opening.jobs =
    c.records-2.ensures.value ∙ ap (λ (s : State). s.jobs) same in
    let long : length held.items ≡ length opening.assocs =
    omega (
      arith,
      c.count_running.ensures.len,
      c.in_ok-held.ensures.len,
      held.ok.0,
      ap length c.records.ensures.value,
      ap (λ (s : State). length s.assocs) same,
    ) in
    let are : map times_of timelines.items ≡ map (begun opening.moment) held.items =
    c.in_ok-timelines.ensures
    ∙ ap (λ (counts : List ℕ). map (begun cluster.moment) counts) c.as_slice.ensures.value
    ∙ ap (λ moment. map (begun moment) held.items) (ap (λ (s : State). s.moment) same) in
    let counts : AreCounted opening.jobs held.items =
    counted-all opening c.records-2.result.now held.items c.cluster-cluster.ensures.sound jobs
    (λ at inside.
    c.count_running.ensures.each at (omega (arith, inside, c.count_running.ensures.len, held.ok.0))) in
    record {
      counts = counts;
      keeps = keeps-none opening held.items (map times_of timelines.items) c.cluster-cluster.ensures.sound long counts are;
      len = omega (
        arith,
        ap length are,
        held.ok.0,
        timelines.ok.0,
        length-map timelines.items times_of,
        length-map held.items (begun opening.moment),
      );
    }
