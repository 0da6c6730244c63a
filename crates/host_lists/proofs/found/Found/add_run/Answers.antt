use Rattle.std.proofs.Common.{rules, ◌≡◌, sym, subst, ℕ, unwrap_or, List, fold}
use Rattle.std.specs.HashMap.{get}
use Rattle.host_lists.specs.Hosts.{with_name}
use Rattle.host_lists.specs.Found.{IsFound, is_same_row, names_of}
use Rattle.host_lists.proofs.FoundLemmas.{found-known, found-inserted, found-joined, found-more, found-new, names-known}
use Rattle.host_lists.proofs.found.Found.add_run.Goals as goal

pub returns-then-covers-clause-names : goal.returns-then-covers-clause-names
returns-then-covers-clause-names c =
    let value : c.unwrap_or-known.result ≡ unwrap_or (get is_same_row c.args.self.now.known c.args.row.now) (record { first = 0; end = 0 }) = search rules in
    sym (names-known c.args.row.now c.unwrap_or-known.result c.args.run c.args.self.now.names.keys (found-known c.args.self.now c.args.row.now c.unwrap_or-known.result c.requires.found value) c.if-covers.ensures)

pub add_numbers-requires-clause-known : goal.add_numbers-requires-clause-known
add_numbers-requires-clause-known c =
    let value : c.unwrap_or-known.result ≡ unwrap_or (get is_same_row c.args.self.now.known c.args.row.now) (record { first = 0; end = 0 }) = search rules in
    found-known c.args.self.now c.args.row.now c.unwrap_or-known.result c.requires.found value

pub returns-clause-found : goal.returns-clause-found
returns-clause-found c =
    let row = c.args.row.now in
    let old = c.args.self.now.names.keys in
    let new = c.add_numbers.new.names.keys in
    let more : List (List ℕ) = names_of row c.args.run in
    let value : c.unwrap_or-known.result ≡ unwrap_or (get is_same_row c.args.self.now.known row) (record { first = 0; end = 0 }) = search rules in
    let before = found-known c.args.self.now row c.unwrap_or-known.result c.requires.found value in
    let names : new ≡ fold with_name old more = c.in_ok-add_numbers.ensures in
    let known : IsFound row c.unwrap_or-known.result new = subst (IsFound row c.unwrap_or-known.result) (sym names) (found-more row c.unwrap_or-known.result old more before) in
    let fresh : IsFound row c.args.run new = subst (IsFound row c.args.run) (sym names) (found-new row c.args.run old) in
    found-inserted c.args.self.now (record { names = c.add_numbers.new.names; known = c.insert.new.self }) row c.joined.result more c.requires.found names c.in_ok-insert.ensures.updates.0 (found-joined row c.unwrap_or-known.result c.args.run c.joined.result new known fresh c.joined.ensures)
