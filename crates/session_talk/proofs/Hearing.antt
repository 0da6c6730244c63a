-- What is heard in a line, worked.
use Rattle.std.proofs.Common.{◌≡◌, ℕ, Bool, false, List, [], ◌∷◌, Option, Some, None, Result, Ok, Err, refl, sym, subst}
use Rattle.slurm_io.specs.Shelf.{ShelfFile}
use Rattle.ctl_state.specs.State.{State}
use Rattle.session_text.specs.Heard.{heard_in, reader_after}
use Rattle.session_text.specs.declared.call.Call.{Call}
use Rattle.session_text.specs.declared.reader.Heard.{Heard}
use Rattle.session_text.specs.declared.reader.Heard.TheVariants as heard
use Rattle.session_text.specs.declared.reader.Reader.{Reader}
use Rattle.session_text.specs.Actions.{Action, Tells, actions_heard, calling, is_quit, script_read}
use Rattle.session_text.specs.Scripts.{IsFileOf, IsRead, file_named, script_name}
use Rattle.session_text.specs.CallTexts.{behind}
use Rattle.session_text.specs.declared.input.Input.{Input}
use Rattle.session_talk.specs.Telling.{told_by}
use Rattle.session_talk.specs.Working.{IsStopped, IsTold, IsWorked, Out, Works, WorksHeard, WorksLine, WorksTurned}
use Rattle.session_talk.specs.declared.fault.Fault.{Fault}
use Rattle.session_talk.specs.declared.fault.Fault.TheVariants as fault
use Rattle.session_talk.specs.declared.line.Turned.{Turned}
use Rattle.session_talk.proofs.Joining.{stopped_at_once, stopped_more, told_then, told_then_stopped, worked_none}

-- ---- what was read of a file

pub no_file : (told : Option (List ShelfFile)) (named : Option (List ℕ)) → IsFileOf told named None
no_file told None = tt
no_file told (Some name) = tt

pub file_of_read : (told : Option (List ShelfFile)) (before after : ℕ) (named file : Option (List ℕ))
    → IsRead told before after named file → IsFileOf told named file
file_of_read told before after (Some name) (Some text) is_read = is_read.0
file_of_read told before after (Some name) None is_read = tt
file_of_read told before after None (Some text) is_read = absurd (cc (is_read.0))
file_of_read told before after None None is_read = tt

-- ---- what is heard

-- a call whose file was read
pub call_works : (told : Option (List ShelfFile)) (before after : ℕ) (name : List ℕ) (number : ℕ) (call : Call)
    (file : Option (List ℕ)) (s t : State) (a b : Out) (r : Result Bool Fault)
    → IsRead told before after (script_name call) file
    → Works name (calling number call (script_read call.script file)) s t a b r
    → WorksHeard told before after name number (heard.Asks call) s t a b r
call_works told before after name number call file s t a b (Ok wrong) is_read worked = (file, is_read, worked)
call_works told before after name number call file s t a b (Err kind) is_read stopped =
    (file, file_of_read told before after (script_name call) file is_read, stopped)

-- memory was wanting before anything of a line was told
pub nothing_works : (told : Option (List ShelfFile)) (before after : ℕ) (name : List ℕ) (number : ℕ) (h : Heard)
    (s t : State) (a : Out) → WorksHeard told before after name number h s t a a (Err fault.Memory)
nothing_works told before after name number h s t a =
    (None, no_file told (file_named h), stopped_at_once a (told_by name s (actions_heard number None h)))

-- what names no file
pub plain_works : (told : Option (List ShelfFile)) (before : ℕ) (name : List ℕ) (number : ℕ) (h : Heard) (s t : State)
    (a b : Out) (r : Result Bool Fault) → file_named h ≡ None → Works name (actions_heard number None h) s t a b r
    → WorksHeard told before before name number h s t a b r
plain_works told before name number h s t a b (Ok wrong) none worked =
    (None, subst (λ (n : Option (List ℕ)). IsRead told before before n None) (sym none) (refl, refl), worked)
plain_works told before name number h s t a b (Err kind) none stopped =
    (None, no_file told (file_named h), stopped)

pub heard_works : (told : Option (List ShelfFile)) (before after : ℕ) (name : List ℕ) (number : ℕ) (h h' : Heard)
    (s t : State) (a b : Out) (r : Result Bool Fault) → h' ≡ h
    → WorksHeard told before after name number h s t a b r → WorksHeard told before after name number h' s t a b r
heard_works told before after name number h h' s t a b r same works =
    subst (λ (one : Heard). WorksHeard told before after name number one s t a b r) (sym same) works

-- nothing is to be done
pub none_works : (told : Option (List ShelfFile)) (before : ℕ) (name : List ℕ) (number : ℕ) (h : Heard) (s : State)
    (a : Out) → file_named h ≡ None → actions_heard number None h ≡ []
    → WorksHeard told before before name number h s s a a (Ok false)
none_works told before name number h s a no_name no_action =
    plain_works told before name number h s s a a (Ok false) no_name
    (subst (λ (l : List Action). IsWorked name l s s a a false) (sym no_action) (worked_none name s a))

-- ---- a whole line

pub turned_ok : (told : Option (List ShelfFile)) (before after : ℕ) (name : List ℕ) (number : ℕ) (reader : Reader)
    (h : Heard) (s t : State) (a b : Out) (wrong quits : Bool) → quits ≡ is_quit h
    → WorksHeard told before after name number h s t a b (Ok wrong)
    → WorksTurned told before after name number reader h s t a b
    (Ok (record { reader = reader; wrong = wrong; quits = quits }))
turned_ok told before after name number reader h s t a b wrong quits quits_is (file, is_read, worked) =
    (file, is_read, worked, refl, quits_is)

-- memory was wanting before it was heard
pub unheard : (told : Option (List ShelfFile)) (before after : ℕ) (name : List ℕ) (number : ℕ) (reader : Reader)
    (h : Heard) (s t : State) (a : Out) → WorksTurned told before after name number reader h s t a a (Err fault.Memory)
unheard told before after name number reader h s t a =
    (None, no_file told (file_named h), stopped_at_once a (told_by name s (actions_heard number None h)))

pub turned_as : (told : Option (List ShelfFile)) (before after : ℕ) (name : List ℕ) (number : ℕ)
    (reader reader' : Reader) (h h' : Heard) (s t : State) (a b : Out) (r : Result Turned Fault) → reader ≡ reader'
    → h ≡ h' → WorksTurned told before after name number reader h s t a b r
    → WorksTurned told before after name number reader' h' s t a b r
turned_as told before after name number reader reader' h h' s t a b r same same' works =
    subst (λ (one : Heard). WorksTurned told before after name number reader' one s t a b r) same'
    (subst (λ (one : Reader). WorksTurned told before after name number one h s t a b r) same works)

-- the line was shown first
pub shown_line : (told : Option (List ShelfFile)) (before after : ℕ) (name : List ℕ) (input : Input) (number : ℕ)
    (reader : Reader) (text : List ℕ) (s t : State) (a b c : Out) (r : Result Turned Fault)
    → IsTold (behind input text) a b
    → WorksTurned told before after name number (reader_after reader text) (heard_in reader text) s t b c r
    → WorksLine told before after name input number reader text s t a c r
shown_line told before after name input number reader text s t a b c (Ok turned) first
    (file, is_read, worked, reader_is, quits_is) =
    let actions = actions_heard number file (heard_in reader text) in (
      file,
      is_read,
      record {
        told = told_then a b c (behind input text) (told_by name s actions) first worked.told;
        state = worked.state;
        wrong_is = worked.wrong_is;
      },
      reader_is,
      quits_is,
    )
shown_line told before after name input number reader text s t a b c (Err kind) first (file, is_file, stopped) =
    let actions = actions_heard number file (heard_in reader text) in
    (file, is_file, told_then_stopped a b c (behind input text) (told_by name s actions) kind first stopped)

-- or a fault came as it was shown
pub unshown_line : (told : Option (List ShelfFile)) (before after : ℕ) (name : List ℕ) (input : Input) (number : ℕ)
    (reader : Reader) (text : List ℕ) (s t : State) (a b : Out) (kind : Fault)
    → IsStopped (behind input text) a b kind
    → WorksLine told before after name input number reader text s t a b (Err kind)
unshown_line told before after name input number reader text s t a b kind stopped =
    let actions = actions_heard number None (heard_in reader text) in (
      None,
      no_file told (file_named (heard_in reader text)),
      stopped_more a b (behind input text) (told_by name s actions) kind stopped,
    )

-- a text, and other work behind it
pub text_then : (name text : List ℕ) (actions : List Action) (s t : State) (a b c : Out) (r : Result Bool Fault)
    → IsTold text a b → Works name actions s t b c r → Works name (Tells text ∷ actions) s t a c r
text_then name text actions s t a b c (Ok wrong) first worked = record {
  told = told_then a b c text (told_by name s actions) first worked.told;
  state = worked.state;
  wrong_is = worked.wrong_is;
}
text_then name text actions s t a b c (Err kind) first stopped =
    told_then_stopped a b c text (told_by name s actions) kind first stopped
