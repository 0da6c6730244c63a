use Rattle.std.proofs.Common.{◌≡◌, ◌++◌, take, drop}
use Rattle.line_words.specs.Words.{before_comment_from}
use Rattle.line_words.specs.declared.words.Mode.TheVariants.{Between}
use Rattle.line_words.proofs.words.before_comment.Given as goal

abbrev pub invariant-loop-place : goal.invariant-loop-place
invariant-loop-place l =
    take l.place l.line ++ before_comment_from l.mode (drop l.place l.line) ≡ before_comment_from Between l.line
