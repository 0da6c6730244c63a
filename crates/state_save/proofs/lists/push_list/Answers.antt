use Rattle.std.proofs.Common.{◌≡◌, ◌∷◌, ◌++◌, rules}
use Rattle.state_save.proofs.ListWords.{joined_ok}
use Rattle.state_save.proofs.lists.push_list.Goals as goal

pub returns : goal.returns
returns g c =
    let whole : c.args.items.now ≡ c.in-Some.first.now ∷ c.in-Some.others.now = search rules in
    let one : c.push_word.new.out.items ≡ c.args.out.now.items ++ g.T.Word.text c.in-Some.first.now = search rules in
    joined_ok g.T.Word.text c.args.mark c.args.out.now.items c.push_word.new.out.items c.push_others.new.out.items c.args.items.now
    c.in-Some.first.now c.in-Some.others.now c.push_others.result whole one c.push_others.ensures
