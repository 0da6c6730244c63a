use Rattle.std.proofs.Common.{◌≡◌, ◌<◌, ◌+◌, ◌++◌, ◌∷◌, [], ℕ, length, take, get_or, All, ap, ◌∙◌}
use Rattle.std.proofs.lemmas.List.{length-append}
use Rattle.plan_keeper.specs.Marks.{on, times}
use Rattle.plan_keeper.proofs.Listing.{counted-on, deep-more}
use Rattle.plan_keeper.proofs.old_list.depths_of.Goals as goal

pub loop-job-preserved : goal.loop-job-preserved
loop-job-preserved c =
    let ranked = c.args.ranked.now in
    let index = c.loop-job.job-index in
    let job = c.job-item.result in
    let was = c.loop-job.invariant in
    let inside : index < length ranked = c.loop-job-test.true in
    let job_is : job ≡ get_or ranked index job = c.job-item.is in
    let nodes : All (λ node. node < length c.loop-job.counts.items) job.nodes = rw (was.counts_long, job_is) (c.requires index job inside) in
    let counted : (node d : ℕ) → node < length c.loop-job.counts.items → get_or c.loop-job.counts.items node d ≡ times node (take index ranked) = λ node d low. was.counted node d (rw was.counts_long at low) in
    let more : (node d : ℕ) → node < length c.loop-job.counts.items → get_or c.add_nodes.new.counts.items node d ≡ get_or c.loop-job.counts.items node d + on node job = rw c.as_slice-nodes.ensures.nodes at c.in_ok-add_nodes.ensures.each in
    let pushed : c.push.new.self.items ≡ c.loop-job.depths.items ++ c.in_ok-sum_of.field-0 ∷ [] = c.in_ok-push.ensures.items in
    record {
      counts_long = c.in_ok-add_nodes.ensures.long ∙ was.counts_long;
      counted = λ node d low.
          let below : node < length c.loop-job.counts.items = rw was.counts_long low in
          counted-on ranked index job node (get_or c.loop-job.counts.items node d) (get_or c.add_nodes.new.counts.items node d) inside job_is (counted node d below) (more node d below);
      long = ap (λ some. length some) pushed ∙ length-append c.loop-job.depths.items (c.in_ok-sum_of.field-0 ∷ []) ∙ ap (λ n. n + 1) was.long;
      deep = λ place d one low is. rw pushed (deep-more ranked index job c.loop-job.counts.items c.loop-job.depths.items c.in_ok-sum_of.field-0 inside job_is nodes counted was.long was.deep (rw (c.as_slice.ensures.value, c.as_slice-nodes.ensures.nodes) at c.in_ok-sum_of.ensures) place d one low is);
    }
