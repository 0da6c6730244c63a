use Rattle.std.proofs.Common.{◌≡◌, ◌∷◌, ◌++◌, rules, subst}
use Rattle.std.specs.Prelude.{ℕ, flat_map, OnOk}
use Rattle.table_texts.specs.Dependency.{item_text}
use Rattle.state_save.specs.Texts.{mark_of}
use Rattle.state_save.proofs.ListWords.{joined_ok}
use Rattle.state_save.proofs.dependency.DepSpecWord.push_word.Goals as goal

pub returns : goal.returns
returns c =
    let whole : c.args.self.now.items ≡ c.in-Some.first.now ∷ c.in-Some.others.now = search rules in
    let one : c.push_item.new.out.items ≡ c.args.out.now.items ++ item_text c.in-Some.first.now = search rules in
    let P : ℕ → Type 0 = λ m. OnOk c.push_others.result (c.push_others.new.out.items ≡ c.push_item.new.out.items ++ flat_map (λ item. m ∷ item_text item) c.in-Some.others.now) in
    joined_ok item_text (mark_of c.args.self.now.any) c.args.out.now.items c.push_item.new.out.items c.push_others.new.out.items c.args.self.now.items
    c.in-Some.first.now c.in-Some.others.now c.push_others.result whole one (subst P c.mark_of.ensures c.push_others.ensures)
