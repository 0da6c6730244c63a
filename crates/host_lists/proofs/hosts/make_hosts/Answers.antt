use Rattle.std.proofs.Common.{arith, List, ℕ, Option, Bor, ◌≡◌, ◌∙◌, sym, ap, subst, length, fold}
use Rattle.std.specs.Option.{option_copied}
use Rattle.host_lists.specs.Hosts.{items_of_rest, all_names, with_name, hosts_in}
use Rattle.host_lists.proofs.ItemLemmas.{items-good, hosts-items, found-le}
use Rattle.host_lists.proofs.hosts.make_hosts.Goals as goal

pub loop-rest-init : goal.loop-rest-init
loop-rest-init c =
    (c.new-found.ensures.found, items-good c.args.text.now c.requires, rw c.new-found.ensures.none (hosts-items c.args.text.now), omega (arith, ap length c.new-found.ensures.none))

pub returns-then-len-most-clause-many : goal.returns-then-len-most-clause-many
returns-then-len-most-clause-many c = λ _.
    let whole = subst (λ (o : Option (Bor (List ℕ))). fold with_name c.loop-rest.found.names.keys (all_names (items_of_rest (option_copied o))) ≡ hosts_in c.args.text.now) c.in-Some.is c.loop-rest.invariant.2 in
    let cut = sym (ap (λ (x : List (List ℕ)). fold with_name c.loop-rest.found.names.keys (all_names x)) c.first_item.ensures.cut) in
    let le = found-le c.loop-rest.found.names.keys c.make_item.new.found.names.keys (hosts_in c.args.text.now) c.first_item.result.0.now (items_of_rest (option_copied c.first_item.result.1)) c.in_ok-make_item.ensures.names (cut ∙ whole) in
    omega (arith, c.if-len-most.true, c.len.ensures.len, le)
