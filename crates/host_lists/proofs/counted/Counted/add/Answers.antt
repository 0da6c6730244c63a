use Rattle.std.proofs.Common.{◌≡◌, ◌||◌, ◌++◌, ◌∷◌, [], List, length, sym, ap, ◌∙◌, arith}
use Rattle.host_lists.specs.Runs.{in_run, in_runs, new_in}
use Rattle.host_lists.specs.declared.runs.Run.{Run}
use Rattle.host_lists.proofs.RunLemmas.{some_new, written, in_runs-push}
use Rattle.host_lists.proofs.CountLemmas.{length-counted, members-counted}
use Rattle.host_lists.proofs.counted.Counted.add.Goals as goal

pub returns-then-count-self-clause-full : goal.returns-then-count-self-clause-full
returns-then-count-self-clause-full c = λ prefix names counts.
    let new : c.count_new-count.result ≡ new_in c.args.self.now.runs.items c.args.keys = c.count_new-count.ensures.value ∙ ap (λ (runs : List Run). new_in runs c.args.keys) c.as_slice.ensures.value in
    omega (arith, new, c.if-count-self.true, length-counted prefix c.args.self.now names c.args.keys c.requires.keys c.requires.some counts)

pub push-requires : goal.push-requires
push-requires c =
    let slice : c.as_mut_slice.result.now ≡ c.args.self.now.runs.items = c.as_mut_slice.ensures.value in
    let long : length c.widen.new.runs ≡ length c.args.self.now.runs.items = ap length (c.if-not-widen.ensures.kept ∙ slice) in
    let new : c.count_new-count.result ≡ new_in c.args.self.now.runs.items c.args.keys = c.count_new-count.ensures.value ∙ ap (λ (runs : List Run). new_in runs c.args.keys) c.as_slice.ensures.value in
    let some = some_new c.args.self.now.runs.items c.args.keys c.requires.some (ap (λ (runs : List Run). in_runs runs c.args.keys.first) (sym slice) ∙ c.if-not-widen.ensures.apart) in
    let same = ap length (written c.args.self.now.runs.items c.widen.new.runs long) in
    (omega arith, omega (arith, same, long, new, some, c.args.self.now.few, c.args.self.now.fewer_runs, c.if-count-self.false))

pub invariant_of-self : goal.invariant_of-self
invariant_of-self c =
    let slice : c.as_mut_slice.result.now ≡ c.args.self.now.runs.items = c.as_mut_slice.ensures.value in
    let long : length c.widen.new.runs ≡ length c.args.self.now.runs.items = ap length (c.if-not-widen.ensures.kept ∙ slice) in
    let new : c.count_new-count.result ≡ new_in c.args.self.now.runs.items c.args.keys = c.count_new-count.ensures.value ∙ ap (λ (runs : List Run). new_in runs c.args.keys) c.as_slice.ensures.value in
    let some = some_new c.args.self.now.runs.items c.args.keys c.requires.some (ap (λ (runs : List Run). in_runs runs c.args.keys.first) (sym slice) ∙ c.if-not-widen.ensures.apart) in
    let same = ap length (written c.args.self.now.runs.items c.widen.new.runs long) in
    record {
      few = omega (arith, c.args.self.now.few, c.if-count-self.false);
      fewer_runs = omega (arith, same, long, new, some, c.push.ensures.len, c.args.self.now.fewer_runs);
    }

pub returns-then-not-widen-clause-added : goal.returns-then-not-widen-clause-added
returns-then-not-widen-clause-added c = λ prefix names counts.
    let new : c.count_new-count.result ≡ new_in c.args.self.now.runs.items c.args.keys = c.count_new-count.ensures.value ∙ ap (λ (runs : List Run). new_in runs c.args.keys) c.as_slice.ensures.value in
    let same : c.widen.new.runs ≡ c.args.self.now.runs.items = c.if-not-widen.ensures.kept ∙ c.as_mut_slice.ensures.value in
    let items : c.push.new.self.items ≡ c.args.self.now.runs.items ++ c.args.keys ∷ [] = c.push.ensures.items ∙ ap (λ (runs : List Run). runs ++ c.args.keys ∷ []) (written c.args.self.now.runs.items c.widen.new.runs (ap length same) ∙ same) in
    record {
      count = omega (arith, new, counts.count, length-counted prefix c.args.self.now names c.args.keys c.requires.keys c.requires.some counts);
      members = λ key k. ap (λ (runs : List Run). in_runs runs key) items ∙ (in_runs-push c.args.self.now.runs.items c.args.keys key ∙ members-counted prefix c.args.self.now.runs.items names c.args.keys c.requires.keys c.requires.some key k (counts.members key k));
    }

pub returns-else-not-widen-clause-added : goal.returns-else-not-widen-clause-added
returns-else-not-widen-clause-added c = λ prefix names counts.
    let new : c.count_new-count.result ≡ new_in c.args.self.now.runs.items c.args.keys = c.count_new-count.ensures.value ∙ ap (λ (runs : List Run). new_in runs c.args.keys) c.as_slice.ensures.value in
    let slice : c.as_mut_slice.result.now ≡ c.args.self.now.runs.items = c.as_mut_slice.ensures.value in
    let same = written c.args.self.now.runs.items c.widen.new.runs (c.widen.auto.runs ∙ ap length slice) in
    record {
      count = omega (arith, new, counts.count, length-counted prefix c.args.self.now names c.args.keys c.requires.keys c.requires.some counts);
      members = λ key k. ap (λ (runs : List Run). in_runs runs key) same ∙ (c.if-not-widen.ensures.widened key ∙ (ap (λ (runs : List Run). in_runs runs key || in_run c.args.keys key) slice ∙ members-counted prefix c.args.self.now.runs.items names c.args.keys c.requires.keys c.requires.some key k (counts.members key k)));
    }
