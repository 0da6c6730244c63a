use Rattle.std.proofs.Common.{◌≡◌, ◌∷◌, ◌++◌, rules}
use Rattle.state_save.specs.Texts.{together_text}
use Rattle.state_save.proofs.ListWords.{joined_ok}
use Rattle.state_save.proofs.features.FeatureExprWord.push_word.Goals as goal

pub returns : goal.returns
returns c =
    let whole : c.args.self.now.alternatives ≡ c.in-Some.first.now ∷ c.in-Some.others.now = search rules in
    let one : c.push_list.new.out.items ≡ c.args.out.now.items ++ together_text c.in-Some.first.now = search rules in
    joined_ok together_text 124 c.args.out.now.items c.push_list.new.out.items c.push_others.new.out.items c.args.self.now.alternatives
    c.in-Some.first.now c.in-Some.others.now c.push_others.result whole one c.push_others.ensures
