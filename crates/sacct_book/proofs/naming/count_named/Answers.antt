use Rattle.std.proofs.Common.{◌∙◌, None, arith, ap, filter, get_or, refl, sym, take}
use Rattle.request_data.specs.declared.target.Target.{Target}
use Rattle.sacct_book.specs.Naming.{is_named_first, run_by_named}
use Rattle.sacct_book.specs.Running.{counted, cpus_run_by}
use Rattle.sacct_book.proofs.Named.{counted-none, counted-on, named-more, named-none}
use Rattle.sacct_book.proofs.naming.count_named.Goals as goal

pub loop-place-init : goal.loop-place-init
loop-place-init c = record {
  len = refl;
  small = λ at inside. omega (arith, c.type_inv.held at 0 (omega (arith, inside, c.args.held.now.ok.0)));
  each = λ at inside.
      counted-none c.args.way (get_or c.args.held.now.items at 0)
      (omega (arith, c.type_inv.held at 0 (omega (arith, inside, c.args.held.now.ok.0))))
      ∙ ap (counted c.args.way (get_or c.args.held.now.items at 0)) (sym (named-none c.args.jobs.now.records at));
}

pub loop-place-preserved : goal.loop-place-preserved
loop-place-preserved c = record {
  len = omega (arith, c.count_target.ensures.len, c.loop-place.invariant.len);
  small = c.loop-place.invariant.small;
  each = λ at inside.
      let d : Target = record { id = 0; index = None } in
      let place = c.loop-place.place in
      let targets = c.args.targets.now in
      let jobs = c.args.jobs.now.records in
      let was = get_or c.args.held.now.items at 0 in
      let next = cpus_run_by (filter (is_named_first (take place targets) (get_or targets place d)) jobs) at in
      c.count_target.ensures.each at (omega (arith, inside, c.loop-place.invariant.len))
      ∙ ap (λ n. counted c.args.way n next) (c.loop-place.invariant.each at inside)
      ∙ counted-on c.args.way was (run_by_named (take place targets) jobs at) next
      ∙ ap (counted c.args.way was) (sym (named-more targets d place jobs at c.loop-place-test.true));
}
