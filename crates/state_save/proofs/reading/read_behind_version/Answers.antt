use Rattle.std.proofs.Common.{◌≡◌, ◌∷◌, [], List, ℕ, arith, rules}
use Rattle.std.specs.Prelude.{All}
use Rattle.state_save.specs.declared.cluster_lines.Head.{Head}
use Rattle.state_save.specs.Reading.{lines_of}
use Rattle.state_save.specs.Savable.{HeadFits}
use Rattle.state_save.specs.Saved.{line_text, moment_words}
use Rattle.state_save.proofs.FirstBad.{bad_head, told}
use Rattle.state_save.proofs.reading.read_behind_version.Goals as goal

pub returns-in-None-clause-refused : goal.returns-in-None-clause-refused
returns-in-None-clause-refused c = λ line is.
    let ended : (head : Head) (more : List (List ℕ)) → HeadFits head → All (λ (b : Head). Unit {0}) []
    → ¬ (lines_of c.args.rest.now ≡ line_text (moment_words head.moment head.next_id) ∷ more) = search rules in
    told c.args.text.now 2 line
    (bad_head c.args.text.now c.args.rest.now c.requires.cut (λ head more fits. ended head more fits (λ k d within. absurd (omega arith)))) is
