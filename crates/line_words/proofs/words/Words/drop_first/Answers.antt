use Rattle.std.proofs.Common.{◌∙◌, sym}
use Rattle.std.proofs.lemmas.List.{drop-map}
use Rattle.line_words.proofs.Dropping.{dropped}
use Rattle.line_words.proofs.WordLemmas.{are_words-drop}
use Rattle.line_words.proofs.words.Words.drop_first.Goals as goal

pub invariant_of-self : goal.invariant_of-self
invariant_of-self c =
    let words = c.self.inside.words in
    rw (c.reverse-2.ensures.items, c.truncate.ensures.items, c.reverse.ensures.items, c.len.ensures ∙ words.ok.0, dropped words.items c.args.count)
    (are_words-drop _ c.args.count words.items c.self.invariant)

pub returns : goal.returns
returns c =
    let words = c.self.inside.words in
    rw (c.reverse-2.ensures.items, c.truncate.ensures.items, c.reverse.ensures.items, c.len.ensures ∙ words.ok.0, dropped words.items c.args.count, ← c.self.view_is)
    (sym (drop-map _ c.args.count words.items))
