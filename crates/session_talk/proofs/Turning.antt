-- A session's turns: what each leaves, and a line in front of the others.
use Rattle.std.proofs.Common.{◌≡◌, ◌⊎◌, inl, inr, ℕ, ◌+◌, ◌<◌, Bool, true, false, ◌||◌, List, [], ◌∷◌, ◌++◌, length, append_assoc, add-zero, Option, None, Result, Ok, Err, refl, sym, ap, subst, ◌∙◌, arith}
use Rattle.std.specs.Io.KnownBytes.{Consumes, IsAtEnd}
use Rattle.std.proofs.KnownBytes.{Consumes-nil, Consumes-trans}
use Rattle.std.proofs.lemmas.List.{append-nil}
use Rattle.slurm_io.specs.Faults.{CountsOne}
use Rattle.session_talk.specs.Lines.{BeginsWithLine, HasOneLine, lines_of}
use Rattle.session_talk.specs.declared.lines.TheConstants.{LONGEST_LINE}
use Rattle.ctl_state.specs.State.{State}
use Rattle.session_text.specs.Heard.{heard_in, reader_after}
use Rattle.session_text.specs.declared.fault.LineFault.TheVariants as line_fault
use Rattle.session_text.specs.declared.reader.Heard.{Heard}
use Rattle.session_text.specs.declared.reader.Heard.TheVariants as heard
use Rattle.session_text.specs.declared.reader.Reader.{Reader}
use Rattle.session_text.specs.Actions.{Action, Tells, Faults, Line, actions_at_end, actions_heard, actions_in, is_quit, open_at_end}
use Rattle.session_text.specs.Scripts.{IsFileOf, IsRead, file_named}
use Rattle.session_text.specs.CallTexts.{before, behind, end_shown, shown}
use Rattle.session_talk.specs.Talk.{GoOn, IsCut, IsEnd, IsTalk, IsWhole, Post, Scene, Setting, StartsWithLines, Talked, actions_at, closing_at, reader_past, too_long_at}
use Rattle.session_talk.specs.Telling.{told_by}
use Rattle.session_talk.specs.Turns.{EndsInput, IsTurn, TakesLine, behind_line, ended_by, post, post_behind, turn_of}
use Rattle.session_talk.specs.Working.{IsStopped, IsTold, IsWorked, Out, Works, WorksLine, actions_behind}
use Rattle.session_talk.specs.declared.fault.Fault.{Fault}
use Rattle.session_talk.specs.declared.fault.Fault.TheVariants as fault
use Rattle.session_talk.specs.declared.line.Turned.{Turned}
use Rattle.session_talk.specs.declared.session.Ended.{Ended}
use Rattle.session_talk.specs.declared.session.How.{How}
use Rattle.session_talk.specs.declared.session.How.TheVariants as end
use Rattle.session_talk.specs.declared.session.TheConstants.{MOST_LINES}
use Rattle.session_talk.specs.declared.session.Turn.{Turn}
use Rattle.session_talk.proofs.Askings.{text_worked}
use Rattle.session_talk.proofs.Joining.{or_assoc, or_false, stopped_as, stopped_at_once, stopped_front, stopped_more, told_as, told_then, told_then_stopped, worked_none, worked_then, worked_then_stopped}

-- ---- what was shown before a line was read, and what comes behind it

shown_first : (x y z : List ℕ) → x ++ (y ++ z) ≡ (x ++ y) ++ z
shown_first x y z = sym (append_assoc x y z)

told_before : (name x y : List ℕ) (actions : List Action) (s t : State) (a b c : Out) (own : Bool) → IsTold x a b
    → IsWorked name (Tells y ∷ actions) s t b c own → IsWorked name (Tells (x ++ y) ∷ actions) s t a c own
told_before name x y actions s t a b c own first next = record {
  told = told_as a c (x ++ (y ++ told_by name s actions)) ((x ++ y) ++ told_by name s actions)
      (shown_first x y (told_by name s actions))
      (told_then a b c x (y ++ told_by name s actions) first next.told);
  state = next.state;
  wrong_is = next.wrong_is;
}

told_before_stopped : (name x y : List ℕ) (actions : List Action) (s : State) (a b c : Out) (kind : Fault) → IsTold x a b
    → IsStopped (told_by name s (Tells y ∷ actions)) b c kind
    → IsStopped (told_by name s (Tells (x ++ y) ∷ actions)) a c kind
told_before_stopped name x y actions s a b c kind first next =
    stopped_as a c (x ++ (y ++ told_by name s actions)) ((x ++ y) ++ told_by name s actions) kind
    (shown_first x y (told_by name s actions))
    (told_then_stopped a b c x (y ++ told_by name s actions) kind first next)

-- ---- a fault ends a session

cut_talk : (how : Setting) (at : Post) (s : State) (old new : Scene) (talked : Talked) (kind : Fault) (last : How)
    (wrong : Bool) → Consumes old.left new.left talked.read
    → StartsWithLines (at.pending ++ talked.read) (talked.lines ++ talked.begun) talked.rest
    → GoOn at.reader talked.lines → IsCut how at s old new talked kind
    → IsTalk how at s old new (ended_by (Err kind) last wrong)
cut_talk how at s old new talked fault.Write last wrong consumed first goes_on cut =
    record { talked = talked; consumed = consumed; first = first; goes_on = goes_on; end = cut }
cut_talk how at s old new talked fault.Memory last wrong consumed first goes_on cut =
    record { talked = talked; consumed = consumed; first = first; goes_on = goes_on; end = cut }

abbrev no_lines : List Line
no_lines = []

-- no line yet
abbrev nothing_yet : List ℕ → List ℕ → Talked
nothing_yet read rest = record { lines = []; begun = []; read = read; rest = rest }

-- the front of what is told at the end of the input
stopped_closing : (how : Setting) (at : Post) (s : State) (a b : Out) (kind : Fault)
    → IsStopped (before how.input) a b kind → IsStopped (told_by how.name s (closing_at how at [])) a b kind
stopped_closing how at s a b kind stopped =
    stopped_more a b (before how.input ++ end_shown how.input)
    (told_by how.name s (open_at_end (at.before + length no_lines) at.reader.begun)) kind
    (stopped_more a b (before how.input) (end_shown how.input) kind stopped)

cut_at_once : (how : Setting) (at : Post) (s : State) (old new : Scene) (read rest : List ℕ) (kind : Fault)
    → new.reads ≡ old.reads → IsStopped (told_by how.name s (closing_at how at [])) old.output new.output kind
    → IsCut how at s old new (nothing_yet read rest) kind
cut_at_once how at s old new read rest kind reads stopped = record {
  short = omega arith;
  count = old.files;
  files = refl;
  file = tt;
  reads = reads;
  next = closing_at how at [];
  follows = inl refl;
  stopped = stopped;
}

-- a fault came before a line was read
pub unread : (how : Setting) (at : Post) (s : State) (old new : Scene) (kind : Fault) (last : How)
    → IsStopped (before how.input) old.output new.output kind → new.left ≡ old.left → new.reads ≡ old.reads
    → IsTalk how at s old new (ended_by (Err kind) last at.wrong)
unread how at s old new kind last stopped left reads =
    cut_talk how at s old new (nothing_yet [] at.pending) kind last at.wrong
    (subst (λ (l : Option (List ℕ)). Consumes old.left l []) (sym left) (Consumes-nil old.left))
    (ap lines_of (append-nil at.pending)) tt
    (cut_at_once how at s old new [] at.pending kind reads
    (stopped_closing how at s old.output new.output kind stopped))

-- memory was wanting as one was read
pub read_in_part : (how : Setting) (at : Post) (s : State) (old new : Scene)
    → IsTold (before how.input) old.output new.output → ((read : List ℕ) × Consumes old.left new.left read)
    → new.reads ≡ old.reads → IsTalk how at s old new (record { how = end.Memory; wrong = at.wrong })
read_in_part how at s old new told (read, consumed) reads =
    let rest : List ℕ = told_by how.name s (open_at_end (at.before + length no_lines) at.reader.begun) in
    cut_talk how at s old new (nothing_yet read (at.pending ++ read)) fault.Memory end.Memory at.wrong consumed refl tt
    (cut_at_once how at s old new read (at.pending ++ read) fault.Memory reads
    (stopped_as old.output new.output (before how.input ++ (end_shown how.input ++ rest))
    ((before how.input ++ end_shown how.input) ++ rest) fault.Memory
    (shown_first (before how.input) (end_shown how.input) rest)
    (told_then_stopped old.output new.output new.output (before how.input) (end_shown how.input ++ rest) fault.Memory told
    (stopped_at_once new.output (end_shown how.input ++ rest)))))

-- a read failed
pub read_failed : (how : Setting) (at : Post) (s : State) (old new : Scene)
    → IsTold (before how.input) old.output new.output → ((read : List ℕ) × Consumes old.left new.left read)
    → CountsOne old.reads new.reads → new.files ≡ old.files
    → IsTalk how at s old new (record { how = end.ReadFault; wrong = at.wrong })
read_failed how at s old new told (read, consumed) counted files = record {
  talked = nothing_yet read (at.pending ++ read);
  consumed = consumed;
  first = refl;
  goes_on = tt;
  end = (
    refl,
    counted,
    record {
      files = files;
      state = s;
      own = false;
      worked = text_worked how.name (before how.input) old.output new.output told s;
      wrong_is = sym (or_false at.wrong);
    },
  );
}

-- ---- the end of the input

at_zero : (how : Setting) (at : Post) → Tells (before how.input ++ end_shown how.input) ∷ open_at_end at.before at.reader.begun
    ≡ closing_at how at []
at_zero how at = ap (λ (n : ℕ). Tells (before how.input ++ end_shown how.input) ∷ open_at_end n at.reader.begun)
    (sym (add-zero at.before))

-- the input ended, and nothing more of it was read
ends_here : (how : Setting) (at : Post) (s : State) (old new : Scene) (last : Result Bool Fault)
    → Works how.name (closing_at how at []) s s old.output new.output last
    → Consumes old.left new.left [] → IsAtEnd new.left → at.pending ≡ [] → new.reads ≡ old.reads → new.files ≡ old.files
    → (talk : IsTalk how at s old new (ended_by last end.Closed at.wrong)) × (talk.talked.read ≡ [])
ends_here how at s old new (Ok own) worked consumed at_end none reads files = (
  record {
    talked = nothing_yet [] [];
    consumed = consumed;
    first = ap (λ (l : List ℕ). lines_of (l ++ [])) none;
    goes_on = tt;
    end = (
      refl,
      refl,
      at_end,
      reads,
      record {
        files = files;
        state = s;
        own = own;
        worked = worked;
        wrong_is = refl;
      },
    );
  },
  refl,
)
ends_here how at s old new (Err fault.Write) stopped consumed at_end none reads files = (
  record {
    talked = nothing_yet [] [];
    consumed = consumed;
    first = ap (λ (l : List ℕ). lines_of (l ++ [])) none;
    goes_on = tt;
    end = cut_at_once how at s old new [] [] fault.Write reads stopped;
  },
  refl,
)
ends_here how at s old new (Err fault.Memory) stopped consumed at_end none reads files = (
  record {
    talked = nothing_yet [] [];
    consumed = consumed;
    first = ap (λ (l : List ℕ). lines_of (l ++ [])) none;
    goes_on = tt;
    end = cut_at_once how at s old new [] [] fault.Memory reads stopped;
  },
  refl,
)

pub works_before : (name x y : List ℕ) (actions : List Action) (s : State) (a b c : Out) (last : Result Bool Fault) → IsTold x a b
    → Works name (Tells y ∷ actions) s s b c last → Works name (Tells (x ++ y) ∷ actions) s s a c last
works_before name x y actions s a b c (Ok own) told worked = told_before name x y actions s s a b c own told worked
works_before name x y actions s a b c (Err kind) told stopped =
    told_before_stopped name x y actions s a b c kind told stopped

-- the input ended where a line was awaited
pub closed : (how : Setting) (at : Post) (s : State) (old new : Scene) (mid : Out) (last : Result Bool Fault)
    → IsTold (before how.input) old.output mid
    → Works how.name (Tells (end_shown how.input) ∷ open_at_end at.before at.reader.begun) s s mid new.output last
    → Consumes old.left new.left [] → IsAtEnd new.left → at.pending ≡ [] → new.reads ≡ old.reads → new.files ≡ old.files
    → IsTalk how at s old new (ended_by last end.Closed at.wrong)
closed how at s old new mid last told worked consumed at_end none reads files =
    (ends_here how at s old new last
    (subst (λ (l : List Action). Works how.name l s s old.output new.output last) (at_zero how at)
    (works_before how.name (before how.input) (end_shown how.input) (open_at_end at.before at.reader.begun) s old.output mid
    new.output last told worked))
    consumed at_end none reads files).0

-- ---- a line that is too long

long_at_zero : (how : Setting) (at : Post)
    → Tells (before how.input) ∷ Faults (at.before + 1) line_fault.TooLong ∷ [] ≡ too_long_at how at []
long_at_zero how at =
    ap (λ (n : ℕ). Tells (before how.input) ∷ Faults (n + 1) line_fault.TooLong ∷ []) (sym (add-zero at.before))

pub too_long : (how : Setting) (at : Post) (s : State) (old new : Scene) (mid : Out) (last : Result Bool Fault)
    → IsTold (before how.input) old.output mid
    → Works how.name (Faults (at.before + 1) line_fault.TooLong ∷ []) s s mid new.output last
    → ((read : List ℕ) × Consumes old.left new.left read × HasOneLine (at.pending ++ read)
    × (LONGEST_LINE < length (at.pending ++ read)))
    → new.reads ≡ old.reads → new.files ≡ old.files
    → IsTalk how at s old new (ended_by last end.TooLong at.wrong)
too_long how at s old new mid (Ok own) told worked (read, consumed, one_line, long) reads files =
    let shown_before = text_worked how.name (before how.input) old.output mid told s in
    record {
      talked = nothing_yet read (at.pending ++ read);
      consumed = consumed;
      first = refl;
      goes_on = tt;
      end = (
        refl,
        one_line,
        long,
        reads,
        record {
          files = files;
          state = s;
          own = own;
          worked = subst (λ (l : List Action). IsWorked how.name l s s old.output new.output own) (long_at_zero how at)
              (worked_then how.name (Tells (before how.input) ∷ []) (Faults (at.before + 1) line_fault.TooLong ∷ []) s s s
              old.output mid new.output false own shown_before worked);
          wrong_is = refl;
        },
      );
    }
too_long how at s old new mid (Err kind) told stopped (read, consumed, one_line, long) reads files =
    let shown_before = text_worked how.name (before how.input) old.output mid told s in
    cut_talk how at s old new (nothing_yet read (at.pending ++ read)) kind end.TooLong at.wrong consumed refl tt
    (record {
      short = omega arith;
      count = old.files;
      files = refl;
      file = tt;
      reads = reads;
      next = too_long_at how at [];
      follows = inr refl;
      stopped = subst (λ (l : List Action). IsStopped (told_by how.name s l) old.output new.output kind) (long_at_zero how at)
          (worked_then_stopped how.name (Tells (before how.input) ∷ []) (Faults (at.before + 1) line_fault.TooLong ∷ []) s s
          old.output mid new.output false kind shown_before stopped);
    })

-- ---- a line that was read

-- a line with what was read of its file
abbrev line_of : List ℕ → Option (List ℕ) → Line
line_of text file = record { text = text; file = file }

-- the work on it was cut off
pub line_cut : (how : Setting) (at : Post) (s : State) (old new : Scene) (mid : Out) (text read rest : List ℕ)
    (file : Option (List ℕ)) (kind : Fault) (last : How)
    → IsTold (before how.input) old.output mid → Consumes old.left new.left read
    → lines_of (at.pending ++ read) ≡ text ∷ lines_of rest → new.reads ≡ old.reads
    → IsFileOf how.files (file_named (heard_in at.reader text)) file
    → IsStopped (told_by how.name s (actions_behind how.input at.reader (at.before + 1) (line_of text file))) mid new.output
    kind
    → IsTalk how at s old new (ended_by (Err kind) last at.wrong)
line_cut how at s old new mid text read rest file kind last told consumed first reads is_file stopped =
    let line = line_of text file in
    let talked : Talked = record { lines = []; begun = line ∷ []; read = read; rest = rest } in
    let next = closing_at how at (line ∷ []) in
    let own = actions_in how.input at.reader (at.before + 1) line in
    cut_talk how at s old new talked kind last at.wrong consumed first tt (record {
      short = omega arith;
      count = old.files;
      files = refl;
      file = is_file;
      reads = reads;
      next = next;
      follows = inl refl;
      stopped = stopped_front how.name (own ++ []) next s old.output new.output kind
          (stopped_front how.name own [] s old.output new.output kind
          (told_before_stopped how.name (before how.input) (behind how.input text)
          (actions_heard (at.before + 1) file (heard_in at.reader text)) s old.output mid new.output kind told stopped));
    })

quit_is : (h : Heard) → is_quit h ≡ true → h ≡ heard.Quit
quit_is heard.Nothing is = absurd (cc)
quit_is (heard.Asks call) is = absurd (cc)
quit_is heard.Help is = absurd (cc)
quit_is heard.Quit is = refl
quit_is (heard.Wrong kind) is = absurd (cc)

-- it ends the session
pub line_quits : (how : Setting) (at : Post) (s t : State) (old new : Scene) (mid : Out) (text read rest : List ℕ)
    (file : Option (List ℕ)) (own : Bool)
    → IsTold (before how.input) old.output mid → Consumes old.left new.left read
    → lines_of (at.pending ++ read) ≡ text ∷ lines_of rest → new.reads ≡ old.reads
    → IsRead how.files old.files new.files (file_named (heard_in at.reader text)) file
    → IsWorked how.name (actions_behind how.input at.reader (at.before + 1) (line_of text file)) s t mid new.output own
    → is_quit (heard_in at.reader text) ≡ true
    → IsTalk how at s old new (record { how = end.Quit; wrong = at.wrong || own })
line_quits how at s t old new mid text read rest file own told consumed first reads is_read worked quits =
    let is : heard_in at.reader text ≡ heard.Quit = quit_is (heard_in at.reader text) quits in
    let none = subst (λ (h : Heard). IsRead how.files old.files new.files (file_named h) file) is is_read in
    let alone = subst (λ (h : Heard). IsWorked how.name (Tells (behind how.input text) ∷ actions_heard (at.before + 1) file h) s t mid new.output own) is worked in
    record {
      talked = record { lines = []; begun = line_of text None ∷ []; read = read; rest = rest };
      consumed = consumed;
      first = first;
      goes_on = tt;
      end = (
        (
          text,
          refl,
          is,
          record {
            files = none.1;
            state = t;
            own = own;
            worked = told_before how.name (before how.input) (behind how.input text) [] s t old.output mid new.output own
                told alone;
            wrong_is = refl;
          },
        ),
        reads,
      );
    }

-- ---- a line in front of others

-- the lines of a session with one in front
abbrev with_line : Line → List ℕ → Talked → Talked
with_line line read talked =
    record { lines = line ∷ talked.lines; begun = talked.begun; read = read ++ talked.read; rest = talked.rest }

-- a line was worked from where a session stood
pub record Worked (how : Setting) (at : Post) (line : Line) (s t : State) (old mid : Scene) (own : Bool) : Type 0 where
  pub reads : mid.reads ≡ old.reads
  pub file : IsRead how.files old.files mid.files (file_named (heard_in at.reader line.text)) line.file
  pub worked : IsWorked how.name (actions_in how.input at.reader (at.before + 1) line) s t old.output mid.output own
  pub goes_on : is_quit (heard_in at.reader line.text) ≡ false

-- the actions of a line and of those behind it
line_first : (how : Setting) (at : Post) (line : Line) (lines : List Line) (own : Bool) (pending : List ℕ)
    (next : List Action)
    → actions_in how.input at.reader (at.before + 1) line
    ++ (actions_at how (post_behind at line.text own pending) lines ++ next)
    ≡ actions_at how at (line ∷ lines) ++ next
line_first how at line lines own pending next =
    sym (append_assoc (actions_in how.input at.reader (at.before + 1) line)
    (actions_at how (post_behind at line.text own pending) lines) next)

whole_first : (how : Setting) (at : Post) (line : Line) (s t : State) (old mid new : Scene) (talked : Talked)
    (read pending : List ℕ) (own wrong : Bool) (next : List Action) → Worked how at line s t old mid own
    → IsWhole how (post_behind at line.text own pending) t mid new talked next wrong
    → IsWhole how at s old new (with_line line read talked) next wrong
whole_first how at line s t old mid new talked read pending own wrong next first whole = record {
  files = (mid.files, first.file, whole.files);
  state = whole.state;
  own = own || whole.own;
  worked = subst (λ (l : List Action). IsWorked how.name l s whole.state old.output new.output (own || whole.own))
      (line_first how at line talked.lines own pending next)
      (worked_then how.name (actions_in how.input at.reader (at.before + 1) line)
      (actions_at how (post_behind at line.text own pending) talked.lines ++ next) s t whole.state old.output mid.output
      new.output own whole.own first.worked whole.worked);
  wrong_is = whole.wrong_is ∙ or_assoc at.wrong own whole.own;
}

one_later : (n : ℕ) (lines : List Line) (line : Line) → (n + 1) + length lines ≡ n + length (line ∷ lines)
one_later n lines line = omega arith

closing_first : (how : Setting) (at : Post) (line : Line) (lines : List Line) (own : Bool) (pending : List ℕ)
    → closing_at how (post_behind at line.text own pending) lines ≡ closing_at how at (line ∷ lines)
closing_first how at line lines own pending =
    ap (λ (n : ℕ). actions_at_end how.input (reader_past at.reader (line ∷ lines)) n) (one_later at.before lines line)

long_first : (how : Setting) (at : Post) (line : Line) (lines : List Line) (own : Bool) (pending : List ℕ)
    → too_long_at how (post_behind at line.text own pending) lines ≡ too_long_at how at (line ∷ lines)
long_first how at line lines own pending =
    ap (λ (n : ℕ). Tells (before how.input) ∷ Faults (n + 1) line_fault.TooLong ∷ []) (one_later at.before lines line)

follows_first : (how : Setting) (at : Post) (line : Line) (lines : List Line) (own : Bool) (pending : List ℕ)
    (next : List Action)
    → (next ≡ closing_at how (post_behind at line.text own pending) lines)
    ⊎ (next ≡ too_long_at how (post_behind at line.text own pending) lines)
    → (next ≡ closing_at how at (line ∷ lines)) ⊎ (next ≡ too_long_at how at (line ∷ lines))
follows_first how at line lines own pending next (inl is) = inl (is ∙ closing_first how at line lines own pending)
follows_first how at line lines own pending next (inr is) = inr (is ∙ long_first how at line lines own pending)

cut_first : (how : Setting) (at : Post) (line : Line) (s t : State) (old mid new : Scene) (talked : Talked)
    (read pending : List ℕ) (own : Bool) (kind : Fault) → Worked how at line s t old mid own
    → IsCut how (post_behind at line.text own pending) t mid new talked kind
    → IsCut how at s old new (with_line line read talked) kind
cut_first how at line s t old mid new talked read pending own kind first cut = record {
  short = cut.short;
  count = cut.count;
  files = (mid.files, first.file, cut.files);
  file = cut.file;
  reads = cut.reads ∙ first.reads;
  next = cut.next;
  follows = follows_first how at line (talked.lines ++ talked.begun) own pending cut.next cut.follows;
  stopped = subst (λ (l : List Action). IsStopped (told_by how.name s l) old.output new.output kind)
      (line_first how at line (talked.lines ++ talked.begun) own pending cut.next)
      (worked_then_stopped how.name (actions_in how.input at.reader (at.before + 1) line)
      (actions_at how (post_behind at line.text own pending) (talked.lines ++ talked.begun) ++ cut.next) s t old.output
      mid.output new.output own kind first.worked cut.stopped);
}

end_first : (how : Setting) (at : Post) (line : Line) (s t : State) (old mid new : Scene) (talked : Talked)
    (read pending : List ℕ) (own wrong : Bool) (last : How) → Worked how at line s t old mid own
    → IsEnd how (post_behind at line.text own pending) t mid new talked wrong last
    → IsEnd how at s old new (with_line line read talked) wrong last
end_first how at line s t old mid new talked read pending own wrong end.Closed first (begun, rest, at_end, reads, whole) = (
  begun,
  rest,
  at_end,
  reads ∙ first.reads,
  subst (λ (l : List Action). IsWhole how at s old new (with_line line read talked) l wrong)
      (closing_first how at line talked.lines own pending)
      (whole_first how at line s t old mid new talked read pending own wrong
      (closing_at how (post_behind at line.text own pending) talked.lines) first whole),
)
end_first how at line s t old mid new talked read pending own wrong end.Quit first ((text, begun, quits, whole), reads) = (
  (
    text,
    begun,
    quits,
    whole_first how at line s t old mid new talked read pending own wrong (Tells (shown how.input text) ∷ []) first whole,
  ),
  reads ∙ first.reads,
)
end_first how at line s t old mid new talked read pending own wrong end.TooLong first
    (begun, one_line, long, reads, whole) = (
      begun,
      one_line,
      long,
      reads ∙ first.reads,
      subst (λ (l : List Action). IsWhole how at s old new (with_line line read talked) l wrong)
          (long_first how at line talked.lines own pending)
          (whole_first how at line s t old mid new talked read pending own wrong
          (too_long_at how (post_behind at line.text own pending) talked.lines) first whole),
    )
end_first how at line s t old mid new talked read pending own wrong end.Spent first (begun, many, reads, whole) = (
  begun,
  sym (one_later at.before talked.lines line) ∙ many,
  reads ∙ first.reads,
  whole_first how at line s t old mid new talked read pending own wrong [] first whole,
)
end_first how at line s t old mid new talked read pending own wrong end.ReadFault first (begun, counted, whole) = (
  begun,
  subst (λ (n : ℕ). CountsOne n new.reads) first.reads counted,
  whole_first how at line s t old mid new talked read pending own wrong (Tells (before how.input) ∷ []) first whole,
)
end_first how at line s t old mid new talked read pending own wrong end.WriteFault first cut =
    cut_first how at line s t old mid new talked read pending own fault.Write first cut
end_first how at line s t old mid new talked read pending own wrong end.Memory first cut =
    cut_first how at line s t old mid new talked read pending own fault.Memory first cut

-- a session behind a line is one from that line on, where the line is the first of what was read
talk_first : (how : Setting) (at : Post) (line : Line) (s t : State) (old mid new : Scene) (read pending : List ℕ)
    (own : Bool) (ended : Ended) → Worked how at line s t old mid own → Consumes old.left mid.left read
    → (talk : IsTalk how (post_behind at line.text own pending) t mid new ended)
    → lines_of (at.pending ++ (read ++ talk.talked.read)) ≡ line.text ∷ lines_of (pending ++ talk.talked.read)
    → IsTalk how at s old new ended
talk_first how at line s t old mid new read pending own ended first consumed talk starts = record {
  talked = with_line line read talk.talked;
  consumed = Consumes-trans old.left mid.left new.left read talk.talked.read consumed talk.consumed;
  first = starts ∙ ap (λ (l : List (List ℕ)). line.text ∷ l) talk.first;
  goes_on = (first.goes_on, talk.goes_on);
  end = end_first how at line s t old mid new talk.talked read pending own ended.wrong ended.how first talk.end;
}

-- the law that a line is the first of a text's
abbrev pub LineIsFirst : Type 0
LineIsFirst = (text line rest : List ℕ) → BeginsWithLine text line rest → lines_of text ≡ line ∷ lines_of rest

abbrev pub LastIsAlone : Type 0
LastIsAlone = (text line : List ℕ) → (text ≡ [] → ⊥) → BeginsWithLine (text ++ 10 ∷ []) line []
    → lines_of text ≡ line ∷ []

begins_longer : (pending read more line rest : List ℕ) → BeginsWithLine (pending ++ read) line rest
    → BeginsWithLine (pending ++ (read ++ more)) line (rest ++ more)
begins_longer pending read more line rest begins = record {
  raw = begins.raw;
  one_line = begins.one_line;
  cut = sym (append_assoc pending read more) ∙ ap (λ (l : List ℕ). l ++ more) begins.cut
      ∙ append_assoc begins.raw (10 ∷ rest) more;
  line_is = begins.line_is;
}

-- A turn that took a line, in front of the session behind it.
pub goes_on : (how : Setting) (at at' : Post) (s t : State) (old mid new : Scene) (ended : Ended) → LineIsFirst
    → TakesLine how at at' s t old mid → IsTalk how at' t mid new ended → IsTalk how at s old new ended
goes_on how at at' s t old mid new ended law takes talk =
    let behind_it = subst (λ (p : Post). IsTalk how p t mid new ended) takes.stands talk in
    talk_first how at takes.line s t old mid new takes.read at'.pending takes.own ended
    (record { reads = takes.reads; file = takes.file; worked = takes.worked; goes_on = takes.goes_on }) takes.consumed
    behind_it
    (law (at.pending ++ (takes.read ++ behind_it.talked.read)) takes.line.text (at'.pending ++ behind_it.talked.read)
    (begins_longer at.pending takes.read behind_it.talked.read takes.line.text at'.pending takes.begins))

-- the input ended behind its last line
ends_behind_last : (how : Setting) (at : Post) (line : Line) (s t : State) (old mid new : Scene) (read : List ℕ)
    (own : Bool) (last : Result Bool Fault) → Worked how at line s t old mid own → Consumes old.left mid.left read
    → IsAtEnd mid.left → lines_of (at.pending ++ read) ≡ line.text ∷ []
    → Works how.name (actions_at_end how.input (reader_after at.reader line.text) (at.before + 1)) t t mid.output new.output
    last
    → new.left ≡ mid.left → new.reads ≡ mid.reads → new.files ≡ mid.files
    → IsTalk how at s old new (ended_by last end.Closed (at.wrong || own))
ends_behind_last how at line s t old mid new read own last first consumed at_end alone worked left reads files =
    let at' = post_behind at line.text own [] in
    let closing : actions_at_end how.input (reader_after at.reader line.text) (at.before + 1) ≡ closing_at how at' [] =
    ap (λ (n : ℕ). actions_at_end how.input (reader_after at.reader line.text) n) (sym (add-zero (at.before + 1))) in
    let kept : Consumes mid.left new.left [] =
    subst (λ (l : Option (List ℕ)). Consumes mid.left l []) (sym left) (Consumes-nil mid.left) in
    let ends = ends_here how at' t mid new last
    (subst (λ (l : List Action). Works how.name l t t mid.output new.output last) closing worked) kept
    (subst IsAtEnd (sym left) at_end) refl reads files in
    talk_first how at line s t old mid new read [] own (ended_by last end.Closed (at.wrong || own)) first consumed ends.0
    (subst (λ (r : List ℕ). lines_of (at.pending ++ (read ++ r)) ≡ line.text ∷ lines_of ([] ++ r)) (sym ends.1)
    (ap (λ (l : List ℕ). lines_of (at.pending ++ l)) (append-nil read) ∙ alone))

-- ---- what a turn makes of the work on a line

-- the work was done
turned : (how : Setting) (at : Post) (s t : State) (old new : Scene) (mid : Out) (text read pending : List ℕ)
    (file : Option (List ℕ)) (done : Turned) (quits : Bool) → LineIsFirst → IsTold (before how.input) old.output mid
    → Consumes old.left new.left read → BeginsWithLine (at.pending ++ read) text pending → new.reads ≡ old.reads
    → IsRead how.files old.files new.files (file_named (heard_in at.reader text)) file
    → IsWorked how.name (actions_behind how.input at.reader (at.before + 1) (line_of text file)) s t mid new.output
    done.wrong
    → done.reader ≡ reader_after at.reader text → quits ≡ is_quit (heard_in at.reader text)
    → IsTurn how at pending s t old new (behind_line quits done at.wrong)
turned how at s t old new mid text read pending file done true law told consumed begins reads is_read worked reader_is
    quits_is =
    line_quits how at s t old new mid text read pending file done.wrong told consumed
    (law (at.pending ++ read) text pending begins) reads is_read worked (sym quits_is)
turned how at s t old new mid text read pending file done false law told consumed begins reads is_read worked reader_is
    quits_is = record {
      line = line_of text file;
      read = read;
      consumed = consumed;
      begins = begins;
      reads = reads;
      file = is_read;
      own = done.wrong;
      worked = told_before how.name (before how.input) (behind how.input text)
          (actions_heard (at.before + 1) file (heard_in at.reader text)) s t old.output mid new.output done.wrong told
          worked;
      goes_on = sym quits_is;
      stands = ap (λ (r : Reader). post r (at.before + 1) pending (at.wrong || done.wrong)) reader_is;
    }

-- a line that an LF ends
pub line_turns : (how : Setting) (at : Post) (s t : State) (old new : Scene) (mid : Out) (text read pending : List ℕ)
    (worked : Result Turned Fault) → LineIsFirst → IsTold (before how.input) old.output mid
    → Consumes old.left new.left read → BeginsWithLine (at.pending ++ read) text pending → new.reads ≡ old.reads
    → WorksLine how.files old.files new.files how.name how.input (at.before + 1) at.reader text s t mid new.output worked
    → IsTurn how at pending s t old new (turn_of worked at.wrong)
line_turns how at s t old new mid text read pending (Ok done) law told consumed begins reads
    (file, is_read, worked, reader_is, quits_is) =
    turned how at s t old new mid text read pending file done done.quits law told consumed begins reads is_read worked
    reader_is quits_is
line_turns how at s t old new mid text read pending (Err kind) law told consumed begins reads (file, is_file, stopped) =
    line_cut how at s old new mid text read pending file kind end.Quit told consumed
    (law (at.pending ++ read) text pending begins) reads is_file stopped

-- a scene whose output has gone on
abbrev going_on : Scene → Out → Scene
going_on at output = record at { output = output }

last_turned : (how : Setting) (at : Post) (s t : State) (old new : Scene) (mid mid' : Out) (text read : List ℕ)
    (file : Option (List ℕ)) (done : Turned) (quits : Bool) (ended : Ended) → lines_of (at.pending ++ read) ≡ text ∷ []
    → IsTold (before how.input) old.output mid
    → Consumes old.left new.left read → IsAtEnd new.left → new.reads ≡ old.reads
    → IsRead how.files old.files new.files (file_named (heard_in at.reader text)) file
    → IsWorked how.name (actions_behind how.input at.reader (at.before + 1) (line_of text file)) s t mid mid' done.wrong
    → done.reader ≡ reader_after at.reader text → quits ≡ is_quit (heard_in at.reader text)
    → EndsInput how.name how.input (at.before + 1) (behind_line quits done at.wrong) mid' new.output ended
    → IsTalk how at s old new ended
last_turned how at s t old new mid mid' text read file done true ended alone told consumed at_end reads is_read worked
    reader_is quits_is (ended_is, same) =
    subst (IsTalk how at s old new) (sym ended_is)
    (line_quits how at s t old new mid text read [] file done.wrong told consumed alone reads is_read
    (subst (λ (o : Out). IsWorked how.name (actions_behind how.input at.reader (at.before + 1) (line_of text file)) s t mid o
    done.wrong) (sym same) worked) (sym quits_is))
last_turned how at s t old new mid mid' text read file done false ended alone told consumed at_end reads is_read worked
    reader_is quits_is (last, ended_is, closes) =
    subst (IsTalk how at s old new) (sym ended_is)
    (ends_behind_last how at (line_of text file) s t old (going_on new mid') new read done.wrong last
    (record {
      reads = reads;
      file = is_read;
      worked = told_before how.name (before how.input) (behind how.input text)
          (actions_heard (at.before + 1) file (heard_in at.reader text)) s t old.output mid mid' done.wrong told worked;
      goes_on = sym quits_is;
    }) consumed at_end alone
    (subst (λ (r : Reader). Works how.name (actions_at_end how.input r (at.before + 1)) t t mid' new.output last) reader_is
    (closes t)) refl refl refl)

-- the last line, which no LF ends
pub last_turns : (how : Setting) (at : Post) (s t : State) (old new : Scene) (mid mid' : Out) (text read : List ℕ)
    (worked : Result Turned Fault) (ended : Ended) → LastIsAlone → IsTold (before how.input) old.output mid
    → Consumes old.left new.left read → (at.pending ++ read ≡ [] → ⊥)
    → BeginsWithLine ((at.pending ++ read) ++ 10 ∷ []) text [] → IsAtEnd new.left → new.reads ≡ old.reads
    → WorksLine how.files old.files new.files how.name how.input (at.before + 1) at.reader text s t mid mid' worked
    → EndsInput how.name how.input (at.before + 1) (turn_of worked at.wrong) mid' new.output ended
    → IsTalk how at s old new ended
last_turns how at s t old new mid mid' text read (Ok done) ended law told consumed some begins at_end reads
    (file, is_read, worked, reader_is, quits_is) ends =
    last_turned how at s t old new mid mid' text read file done done.quits ended (law (at.pending ++ read) text some begins)
    told consumed at_end reads is_read worked reader_is quits_is ends
last_turns how at s t old new mid mid' text read (Err kind) ended law told consumed some begins at_end reads
    (file, is_file, stopped) (ended_is, same) =
    subst (IsTalk how at s old new) (sym ended_is)
    (line_cut how at s old new mid text read [] file kind end.Quit told consumed (law (at.pending ++ read) text some begins)
    reads is_file
    (subst (λ (o : Out). IsStopped (told_by how.name s (actions_behind how.input at.reader (at.before + 1) (line_of text file)))
    mid o kind) (sym same) stopped))

-- as many lines were worked as a session may have
pub spent : (how : Setting) (at : Post) (s : State) (old : Scene) → at.before ≡ MOST_LINES
    → IsTalk how at s old old (record { how = end.Spent; wrong = at.wrong })
spent how at s old many = record {
  talked = nothing_yet [] at.pending;
  consumed = Consumes-nil old.left;
  first = ap lines_of (append-nil at.pending);
  goes_on = tt;
  end = (
    refl,
    add-zero at.before ∙ many,
    refl,
    record {
      files = refl;
      state = s;
      own = false;
      worked = worked_none how.name s old.output;
      wrong_is = sym (or_false at.wrong);
    },
  );
}

-- memory was wanting before the first line
pub unbegun : (how : Setting) (at : Post) (s : State) (old : Scene)
    → IsTalk how at s old old (record { how = end.Memory; wrong = at.wrong })
unbegun how at s old =
    cut_talk how at s old old (nothing_yet [] at.pending) fault.Memory end.Memory at.wrong (Consumes-nil old.left)
    (ap lines_of (append-nil at.pending)) tt
    (cut_at_once how at s old old [] at.pending fault.Memory refl
    (stopped_at_once old.output (told_by how.name s (closing_at how at []))))

-- ---- what a turn makes of what was found

-- a line that an LF ends, and the work on it
pub by_line : (how : Setting) (at : Post) (s t : State) (old new : Scene) (mid : Out) (text shown pending : List ℕ)
    (worked : Result Turned Fault) (result : Turn) → LineIsFirst → IsTold (before how.input) old.output mid
    → ((read : List ℕ) × Consumes old.left new.left read × BeginsWithLine (at.pending ++ read) text pending)
    × (new.reads ≡ old.reads)
    → shown ≡ text → result ≡ turn_of worked at.wrong
    → WorksLine how.files old.files new.files how.name how.input (at.before + 1) at.reader shown s t mid new.output worked
    → IsTurn how at pending s t old new result
by_line how at s t old new mid text shown pending worked result law told ((read, consumed, begins), reads) same result_is
    works =
    subst (λ (r : Turn). IsTurn how at pending s t old new r) (sym result_is)
    (line_turns how at s t old new mid shown read pending worked law told consumed
    (subst (λ (l : List ℕ). BeginsWithLine (at.pending ++ read) l pending) (sym same) begins) reads works)

-- the last line, and the work on it
pub by_last : (how : Setting) (at : Post) (s t : State) (old new : Scene) (mid mid' : Out) (text shown pending : List ℕ)
    (worked : Result Turned Fault) (result : Turn) (ended : Ended) → LastIsAlone → IsTold (before how.input) old.output mid
    → ((read : List ℕ) × Consumes old.left new.left read × (at.pending ++ read ≡ [] → ⊥)
    × BeginsWithLine ((at.pending ++ read) ++ 10 ∷ []) text []) × IsAtEnd new.left × (pending ≡ [])
    × (new.reads ≡ old.reads)
    → shown ≡ text → result ≡ turn_of worked at.wrong
    → WorksLine how.files old.files new.files how.name how.input (at.before + 1) at.reader shown s t mid mid' worked
    → EndsInput how.name how.input (at.before + 1) result mid' new.output ended
    → IsTalk how at s old new ended
by_last how at s t old new mid mid' text shown pending worked result ended law told
    ((read, consumed, some, begins), at_end, none, reads) same result_is works ends =
    last_turns how at s t old new mid mid' shown read worked ended law told consumed some
    (subst (λ (l : List ℕ). BeginsWithLine ((at.pending ++ read) ++ 10 ∷ []) l []) (sym same) begins) at_end reads works
    (subst (λ (r : Turn). EndsInput how.name how.input (at.before + 1) r mid' new.output ended) result_is ends)

-- a session's end as it was made
pub ended_as : (how : Setting) (at : Post) (s : State) (old new : Scene) (made is : Ended) → is ≡ made
    → IsTalk how at s old new made → IsTalk how at s old new is
ended_as how at s old new made is same talk = subst (IsTalk how at s old new) (sym same) talk
