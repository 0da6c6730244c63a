-- Texts that are told and actions that are worked, one after the other.
use Rattle.std.proofs.Common.{◌≡◌, ℕ, Bool, true, false, ◌||◌, List, [], ◌∷◌, ◌++◌, take, drop, append_assoc, take-append-drop, Result, Ok, Err, refl, sym, ap, subst, ◌∙◌}
use Rattle.std.proofs.KnownBytes.{Appends-nil, Appends-trans}
use Rattle.slurm_io.specs.Bytes.{AppendsFront}
use Rattle.slurm_io.specs.Faults.{CountsOne}
use Rattle.ctl_state.specs.State.{State}
use Rattle.session_text.specs.Actions.{Action}
use Rattle.session_talk.specs.Telling.{told_of, state_after, is_wrong, told_by, state_by, wrong_by}
use Rattle.session_talk.specs.Working.{IsCounted, IsStopped, IsTold, IsWorked, Out, Works, Writes}
use Rattle.session_talk.specs.declared.fault.Fault.{Fault}
use Rattle.session_talk.specs.declared.fault.Fault.TheVariants as fault

pub or_false : (a : Bool) → (a || false) ≡ a
or_false true = refl
or_false false = refl

pub or_assoc : (a b c : Bool) → ((a || b) || c) ≡ (a || (b || c))
or_assoc true b c = refl
or_assoc false b c = refl

-- ---- texts

pub nothing_told : (at : Out) → IsTold [] at at
nothing_told at = record { written = Appends-nil at.taken; faults = refl }

pub told_then : (a b c : Out) (x y : List ℕ) → IsTold x a b → IsTold y b c → IsTold (x ++ y) a c
told_then a b c x y first next = record {
  written = Appends-trans a.taken b.taken c.taken x y first.written next.written;
  faults = next.faults ∙ first.faults;
}

counted_then : (a b c : Out) (kind : Fault) → b.faults ≡ a.faults → IsCounted kind b c → IsCounted kind a c
counted_then a b c fault.Write same counted = subst (λ (n : ℕ). CountsOne n c.faults) same counted
counted_then a b c fault.Memory same counted = counted ∙ same

pub told_then_stopped : (a b c : Out) (x y : List ℕ) (kind : Fault) → IsTold x a b → IsStopped y b c kind
    → IsStopped (x ++ y) a c kind
told_then_stopped a b c x y kind first next = record {
  begins = record {
    front = x ++ next.begins.front;
    rest = next.begins.rest;
    cut = ap (λ l. x ++ l) next.begins.cut ∙ sym (append_assoc x next.begins.front next.begins.rest);
    written = Appends-trans a.taken b.taken c.taken x next.begins.front first.written next.begins.written;
  };
  counted = counted_then a b c kind first.faults next.counted;
}

pub stopped_more : (a b : Out) (x y : List ℕ) (kind : Fault) → IsStopped x a b kind → IsStopped (x ++ y) a b kind
stopped_more a b x y kind stopped = record {
  begins = record {
    front = stopped.begins.front;
    rest = stopped.begins.rest ++ y;
    cut = ap (λ l. l ++ y) stopped.begins.cut ∙ append_assoc stopped.begins.front stopped.begins.rest y;
    written = stopped.begins.written;
  };
  counted = stopped.counted;
}

-- memory was wanting before anything was told
pub stopped_at_once : (at : Out) (x : List ℕ) → IsStopped x at at fault.Memory
stopped_at_once at x = record {
  begins = record { front = []; rest = x; cut = refl; written = Appends-nil at.taken };
  counted = refl;
}

pub told_as : (a b : Out) (x y : List ℕ) → x ≡ y → IsTold x a b → IsTold y a b
told_as a b x y same told = subst (λ (l : List ℕ). IsTold l a b) same told

pub stopped_as : (a b : Out) (x y : List ℕ) (kind : Fault) → x ≡ y → IsStopped x a b kind → IsStopped y a b kind
stopped_as a b x y kind same stopped = subst (λ (l : List ℕ). IsStopped l a b kind) same stopped

-- a write that failed took a front of the text
pub cut_write : (a b : Out) (x : List ℕ) → AppendsFront a.taken b.taken x → CountsOne a.faults b.faults
    → IsStopped x a b fault.Write
cut_write a b x (n, short, written) counted = record {
  begins = record { front = take n x; rest = drop n x; cut = sym (take-append-drop n x); written = written };
  counted = counted;
}

-- the same of another text that equals it
pub writes_as : {T : Type 0} (a b : Out) (x y : List ℕ) (r : Result T Fault) → x ≡ y → Writes x a b r → Writes y a b r
writes_as a b x y (Ok done) same told = told_as a b x y same told
writes_as a b x y (Err kind) same stopped = stopped_as a b x y kind same stopped

-- ---- actions

pub told_by-append : (name : List ℕ) (s : State) (xs ys : List Action)
    → told_by name s (xs ++ ys) ≡ told_by name s xs ++ told_by name (state_by s xs) ys
told_by-append name s [] ys = refl
told_by-append name s (x ∷ xs) ys =
    ap (λ l. told_of name s x ++ l) (told_by-append name (state_after s x) xs ys)
    ∙ sym (append_assoc (told_of name s x) (told_by name (state_after s x) xs)
    (told_by name (state_by (state_after s x) xs) ys))

pub state_by-append : (s : State) (xs ys : List Action) → state_by s (xs ++ ys) ≡ state_by (state_by s xs) ys
state_by-append s [] ys = refl
state_by-append s (x ∷ xs) ys = state_by-append (state_after s x) xs ys

pub wrong_by-append : (s : State) (xs ys : List Action)
    → wrong_by s (xs ++ ys) ≡ (wrong_by s xs || wrong_by (state_by s xs) ys)
wrong_by-append s [] ys = refl
wrong_by-append s (x ∷ xs) ys =
    ap (λ w. is_wrong s x || w) (wrong_by-append (state_after s x) xs ys)
    ∙ sym (or_assoc (is_wrong s x) (wrong_by (state_after s x) xs) (wrong_by (state_by (state_after s x) xs) ys))

pub worked_none : (name : List ℕ) (s : State) (at : Out) → IsWorked name [] s s at at false
worked_none name s at = record { told = nothing_told at; state = refl; wrong_is = refl }

-- what the others are told behind the first ones
told_behind : (name : List ℕ) (s m : State) (xs ys : List Action) → m ≡ state_by s xs
    → told_by name s xs ++ told_by name m ys ≡ told_by name s (xs ++ ys)
told_behind name s m xs ys is =
    ap (λ (at : State). told_by name s xs ++ told_by name at ys) is ∙ sym (told_by-append name s xs ys)

pub worked_then : (name : List ℕ) (xs ys : List Action) (s m t : State) (a b c : Out) (u v : Bool)
    → IsWorked name xs s m a b u → IsWorked name ys m t b c v → IsWorked name (xs ++ ys) s t a c (u || v)
worked_then name xs ys s m t a b c u v first next = record {
  told = told_as a c (told_by name s xs ++ told_by name m ys) (told_by name s (xs ++ ys))
      (told_behind name s m xs ys first.state)
      (told_then a b c (told_by name s xs) (told_by name m ys) first.told next.told);
  state = next.state ∙ ap (λ (at : State). state_by at ys) first.state ∙ sym (state_by-append s xs ys);
  wrong_is =
      ap (λ (w : Bool). w || v) first.wrong_is
      ∙ ap (λ (w : Bool). wrong_by s xs || w) (next.wrong_is ∙ ap (λ (at : State). wrong_by at ys) first.state)
      ∙ sym (wrong_by-append s xs ys);
}

pub worked_then_stopped : (name : List ℕ) (xs ys : List Action) (s m : State) (a b c : Out) (u : Bool) (kind : Fault)
    → IsWorked name xs s m a b u → IsStopped (told_by name m ys) b c kind
    → IsStopped (told_by name s (xs ++ ys)) a c kind
worked_then_stopped name xs ys s m a b c u kind first next =
    stopped_as a c (told_by name s xs ++ told_by name m ys) (told_by name s (xs ++ ys)) kind
    (told_behind name s m xs ys first.state)
    (told_then_stopped a b c (told_by name s xs) (told_by name m ys) kind first.told next)

pub stopped_front : (name : List ℕ) (xs ys : List Action) (s : State) (a b : Out) (kind : Fault)
    → IsStopped (told_by name s xs) a b kind → IsStopped (told_by name s (xs ++ ys)) a b kind
stopped_front name xs ys s a b kind stopped =
    stopped_as a b (told_by name s xs ++ told_by name (state_by s xs) ys) (told_by name s (xs ++ ys)) kind
    (sym (told_by-append name s xs ys))
    (stopped_more a b (told_by name s xs) (told_by name (state_by s xs) ys) kind stopped)

pub works_as : (name : List ℕ) (xs ys : List Action) (s t : State) (a b : Out) (r : Result Bool Fault) → xs ≡ ys
    → Works name xs s t a b r → Works name ys s t a b r
works_as name xs ys s t a b r same works = subst (λ (l : List Action). Works name l s t a b r) same works
