-- A script's run, from how its script ended.
use Rattle.std.proofs.Common.{◌≡◌, ℕ, Bool, List, ◌++◌, Option, Result, IfOk, Vec, refl, sym, ap, ◌∙◌, subst}
use Rattle.ctl_state.specs.State.{State}
use Rattle.ctl_desk.specs.Desk.{Seat, history_of, sight_of}
use Rattle.ctl_desk.specs.History.{BookState, History, history_in, present}
use Rattle.ctl_session.specs.declared.session.How.{How}
use Rattle.ctl_session.specs.declared.session.How.TheVariants as how
use Rattle.plain_data.specs.declared.period.Period.{Period}
use Rattle.sacct_book.specs.Lines.{lines}
use Rattle.sacct_book.specs.declared.window.Window.{Window}
use Rattle.slurm_io.specs.Wire.{Wire}
use Rattle.cluster_opening.specs.Restoring.{OpensIn}
use Rattle.cluster_opening.specs.declared.cluster_files.ClusterFiles.{ClusterFiles}
use Rattle.script_run.specs.Behind.{IsEndBehind, IsScriptRun, saved_if, text_behind}
use Rattle.script_run.specs.Script.{IsScript, script_history}
use Rattle.script_run.proofs.Adding.{history_is}

-- lines of one history are those of the same one
pub lines_alike : {E Z : Type 0} (made : Result (Vec ℕ Z) E) (h other : History) (window : Window) → h ≡ other
    → IfOk made (λ text. text.items ≡ lines h window (present h).moment)
    → IfOk made (λ text. text.items ≡ lines other window (present other).moment)
lines_alike made h other window same is =
    subst (λ (one : History). IfOk made (λ text. text.items ≡ lines one window (present one).moment)) same is

-- the history of the book of a desk
pub book_of : (book : BookState) (seat : Seat) (h : History) → book.opening ≡ seat.opening
    → book.entries ≡ seat.before ++ seat.since → history_of (sight_of seat) ≡ h → history_in book ≡ h
book_of book seat h opens holds is =
    history_is (history_in book) seat.opening (seat.before ++ seat.since) opens holds ∙ is

opens_script : (s : State) (bytes : List ℕ) → (script_history s bytes).opening ≡ s
unfolding script_history
opens_script s bytes = refl

pub good_book : (files : ClusterFiles) (s : State) (bytes : List ℕ) (book : BookState)
    → history_in book ≡ script_history s bytes → OpensIn files s → OpensIn files book.opening
good_book files s bytes book is good =
    subst (OpensIn files) (sym (ap (λ (h : History). h.opening) is ∙ opens_script s bytes)) good

-- a script that was answered to its end, and what came behind it
pub run_closed : (s : State) (sacct : Option Period) (save : Bool) (old answered new : Wire) (ended last : How)
    (book : BookState) → ended ≡ how.Closed → (script : IsScript s old answered ended)
    → history_in book ≡ script_history s script.read
    → IsEndBehind (text_behind sacct save (history_in book)) (saved_if save (present (history_in book))) answered new last
    → IsScriptRun s sacct save old new last
run_closed s sacct save old answered new how.Closed last book is script same behind = record {
  answered = answered;
  ended = how.Closed;
  script = script;
  behind = subst
      (λ (h : History). IsEndBehind (text_behind sacct save h) (saved_if save (present h)) answered new last) same behind;
}
run_closed s sacct save old answered new (how.Truncated place) last book is script same behind = absurd cc
run_closed s sacct save old answered new (how.Bad place) last book is script same behind = absurd cc
run_closed s sacct save old answered new how.Spent last book is script same behind = absurd cc
run_closed s sacct save old answered new how.Shut last book is script same behind = absurd cc
run_closed s sacct save old answered new how.ReadFault last book is script same behind = absurd cc
run_closed s sacct save old answered new how.WriteFault last book is script same behind = absurd cc
run_closed s sacct save old answered new how.Memory last book is script same behind = absurd cc

-- another one
pub run_other : (s : State) (sacct : Option Period) (save : Bool) (old new : Wire) (ended : How)
    → (ended ≡ how.Closed → ⊥) → IsScript s old new ended → IsScriptRun s sacct save old new ended
run_other s sacct save old new how.Closed other script = absurd (other refl)
run_other s sacct save old new (how.Truncated place) other script =
    record { answered = new; ended = (how.Truncated place); script = script; behind = (refl, refl) }
run_other s sacct save old new (how.Bad place) other script =
    record { answered = new; ended = (how.Bad place); script = script; behind = (refl, refl) }
run_other s sacct save old new how.Spent other script =
    record { answered = new; ended = how.Spent; script = script; behind = (refl, refl) }
run_other s sacct save old new how.Shut other script =
    record { answered = new; ended = how.Shut; script = script; behind = (refl, refl) }
run_other s sacct save old new how.ReadFault other script =
    record { answered = new; ended = how.ReadFault; script = script; behind = (refl, refl) }
run_other s sacct save old new how.WriteFault other script =
    record { answered = new; ended = how.WriteFault; script = script; behind = (refl, refl) }
run_other s sacct save old new how.Memory other script =
    record { answered = new; ended = how.Memory; script = script; behind = (refl, refl) }
