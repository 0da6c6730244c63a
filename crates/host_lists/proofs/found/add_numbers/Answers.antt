use Rattle.std.proofs.Common.{rules, ℕ, ◌≡◌, ◌-◌, ◌≤◌, ◌++◌, ◌∙◌, length, take, map, fold, sym, ap, arith}
use Rattle.std.specs.List.{range_with_len}
use Rattle.host_lists.specs.Hosts.{padded, with_name}
use Rattle.host_lists.specs.Found.{name_in}
use Rattle.host_lists.proofs.FoundLemmas.{put-behind, prefix-put, range-known, range-more}
use Rattle.host_lists.proofs.found.add_numbers.Goals as goal
use Rattle.host_lists.proofs.found.add_numbers.Goals.{then-not-has+in_ok-put_number+in_ok-add_name, else-not-has}

pub loop-number-preserved : goal.loop-number-preserved
loop-number-preserved c =
    let row = c.args.row.now in
    let number = c.loop-number.number in
    let least : c.args.run.first ≤ number = c.loop-number.invariant.least in
    elim c.if-not-has.branch [
      | then-not-has+in_ok-put_number+in_ok-add_name w ↦
          let text : c.if-not-has.text.items ≡ take (length row.prefix.now) c.loop-number.text.items ++ padded row.width number = search rules in
          let name = put-behind row.prefix.now c.loop-number.text.items c.if-not-has.text.items (padded row.width number) c.loop-number.invariant.prefix text in
          let names : c.if-not-has.names.keys ≡ with_name c.loop-number.names.keys c.if-not-has.text.items = search rules in
          record {
            least = omega arith;
            most = omega (arith, c.loop-number-test.true);
            prefix = prefix-put row.prefix.now c.if-not-has.text.items (padded row.width number) name;
            names = range-more (name_in row) c.args.names.now.keys c.loop-number.names.keys c.if-not-has.names.keys c.args.run.first number least c.loop-number.invariant.names (names ∙ ap (with_name c.loop-number.names.keys) name);
          }
      | else-not-has w ↦
          let there = c.requires.known.among number (sym w.if-not-has.ensures) in
          let same : c.if-not-has.names.keys ≡ c.loop-number.names.keys = ap (λ (names : _). names.keys) w.names-is in
          record {
            least = omega arith;
            most = omega (arith, c.loop-number-test.true);
            prefix = ap (λ (text : _). take (length row.prefix.now) text.items) w.text-is ∙ c.loop-number.invariant.prefix;
            names = same ∙ range-known (name_in row) c.args.names.now.keys c.loop-number.names.keys c.args.run.first number least c.loop-number.invariant.names there;
          }
    ]

pub returns : goal.returns
returns c =
    let len : c.loop-number.number - c.args.run.first ≡ c.args.run.end - c.args.run.first = omega (arith, c.loop-number.invariant.least, c.loop-number.invariant.most, c.loop-number-test.false) in
    c.loop-number.invariant.names ∙ ap (λ (n : ℕ). fold with_name c.args.names.now.keys (map (name_in c.args.row.now) (range_with_len c.args.run.first n))) len
