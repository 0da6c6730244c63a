-- A session ends as its input says.
use Rattle.std.proofs.Common.{◌≡◌, ◌≢◌, ℕ, ◌<◌, ◌≤◌, List, [], ◌∷◌, ◌++◌, Option, None, Some, length, take, inl, inr, refl, sym, ap, ◌∙◌, subst, arith, length-append, append_assoc, All}
use Rattle.std.proofs.lemmas.List.{append-nil, take_all, take_at}
use Rattle.std.specs.Io.KnownBytes.{Consumes, IsAtEnd}
use Rattle.block_frame.specs.declared.block.Block.{Block}
use Rattle.block_frame.specs.declared.form.Form.{Form}
use Rattle.block_frame.specs.declared.form.Form.TheVariants as forms
use Rattle.block_frame.specs.Grammar.{IsBlock, IsPartial, IsBad, spelled_all, blocks_of}
use Rattle.ctl_desk.specs.Desk.{Sight}
use Rattle.ctl_session.specs.declared.session.Ended.{Ended}
use Rattle.ctl_session.specs.declared.session.How.{How}
use Rattle.ctl_session.specs.declared.session.How.TheVariants as how
use Rattle.ctl_session.specs.Clock.{Timing}
use Rattle.ctl_session.specs.Session.{Ending, IsCause, IsServed, MindsShut, most_blocks}
use Rattle.slurm_io.specs.Faults.{CountsNone}
use Rattle.slurm_io.specs.Wire.{Wire}
use Rattle.script_run.proofs.Completeness.{read_at_end, whole_input}
use Rattle.session_laws.specs.Inputs.{EndsSo, IsOfInput, Says, rest_begins}
use Rattle.session_laws.proofs.Inputs.{Laws, cut_so, one}

-- What a session's end says of its input, whose first blocks it answered.
record Tells (form : Form) (bytes : List ℕ) (blocks : List Block) (ended : How) : Type 0 where
  says : Says form bytes ended
  all : blocks ≡ take most_blocks (blocks_of form bytes)

-- all of the input is blocks that were answered, and a rest
all_blocks : (form : Form) (bytes : List ℕ) (blocks : List Block) → length blocks ≤ most_blocks
    → blocks_of form bytes ≡ blocks → blocks ≡ take most_blocks (blocks_of form bytes)
all_blocks form bytes blocks few is =
    sym (ap (take most_blocks) is ∙ take_all most_blocks blocks few)

begins_so : (form : Form) (bytes : List ℕ) (blocks : List Block) (place : ℕ) → blocks_of form bytes ≡ blocks
    → place ≡ length (spelled_all form blocks) → place ≡ rest_begins form bytes
begins_so form bytes blocks place is at = at ∙ ap (λ bs. length (spelled_all form bs)) (sym is)

closed : (form : Form) → Laws form → (bytes : List ℕ) (blocks : List Block) → All (IsBlock form) blocks
    → length blocks ≤ most_blocks → bytes ≡ spelled_all form blocks ++ [] → Tells form bytes blocks how.Closed
closed form laws bytes blocks each few is =
    let cut = cut_so form laws blocks [] bytes each (inl laws.empty) is in record {
      says = (cut.1, subst (λ (bs : List Block). length bs ≤ most_blocks) (sym cut.0) few);
      all = all_blocks form bytes blocks few cut.0;
    }

truncated : (form : Form) → Laws form → (bytes : List ℕ) (blocks : List Block) (rest : List ℕ) (place : ℕ)
    → All (IsBlock form) blocks → length blocks < most_blocks → bytes ≡ spelled_all form blocks ++ rest
    → IsPartial form rest → rest ≢ [] → place ≡ length (spelled_all form blocks)
    → Tells form bytes blocks (how.Truncated place)
truncated form laws bytes blocks rest place each few is partial some at =
    let cut = cut_so form laws blocks rest bytes each (inl partial) is in record {
      says = (
        subst (IsPartial form) (sym cut.1) partial,
        λ none. some (sym cut.1 ∙ none),
        subst (λ (bs : List Block). length bs < most_blocks) (sym cut.0) few,
        begins_so form bytes blocks place cut.0 at,
      );
      all = all_blocks form bytes blocks (omega (arith, few)) cut.0;
    }

bad : (form : Form) → Laws form → (bytes : List ℕ) (blocks : List Block) (rest more : List ℕ) (place : ℕ)
    → All (IsBlock form) blocks → length blocks < most_blocks → bytes ≡ (spelled_all form blocks ++ rest) ++ more
    → IsBad form rest → place ≡ length (spelled_all form blocks) → Tells form bytes blocks (how.Bad place)
bad form laws bytes blocks rest more place each few is off at =
    let later : IsBad form (rest ++ more) = laws.stays rest more off in
    let cut = cut_so form laws blocks (rest ++ more) bytes each (inr later)
    (is ∙ append_assoc (spelled_all form blocks) rest more) in record {
      says = (
        subst (IsBad form) (sym cut.1) later,
        subst (λ (bs : List Block). length bs < most_blocks) (sym cut.0) few,
        begins_so form bytes blocks place cut.0 at,
      );
      all = all_blocks form bytes blocks (omega (arith, few)) cut.0;
    }

empty_front : (xs ys : List ℕ) → length (xs ++ ys) ≤ 0 → xs ≡ []
empty_front [] ys none = refl
empty_front (x ∷ xs) ys none = absurd (omega (arith, none))

-- bytes behind others aren't nothing
more_bytes : (first rest more bytes : List ℕ) → bytes ≡ (first ++ rest) ++ more → rest ≢ [] → first ≢ bytes
more_bytes first rest more bytes is some same =
    let long : length bytes ≡ length ((first ++ rest) ++ more) = ap length is in
    let short : length first ≡ length bytes = ap length same in
    some (empty_front rest more (omega (
      arith,
      long,
      short,
      length-append (first ++ rest) more,
      length-append first rest,
      length-append rest more,
    )))

spent : (form : Form) → Laws form → (bytes : List ℕ) (blocks : List Block) (rest more : List ℕ)
    → All (IsBlock form) blocks → length blocks ≡ most_blocks → bytes ≡ (spelled_all form blocks ++ rest) ++ more
    → rest ≢ [] → Tells form bytes blocks how.Spent
spent form laws bytes blocks rest more each count is some =
    let joined : bytes ≡ spelled_all form blocks ++ (rest ++ more) =
    is ∙ append_assoc (spelled_all form blocks) rest more in
    let cut : blocks_of form bytes ≡ blocks ++ blocks_of form (rest ++ more) =
    ap (blocks_of form) joined ∙ (laws.first blocks (rest ++ more) each).0 in
    let firsts : take most_blocks (blocks_of form bytes) ≡ blocks =
    ap (take most_blocks) cut ∙ take_at blocks (blocks_of form (rest ++ more)) most_blocks count in record {
      says = (
        omega (arith, count, ap length cut, length-append blocks (blocks_of form (rest ++ more))),
        λ e. more_bytes (spelled_all form blocks) rest more bytes is some (sym (ap (spelled_all form) firsts) ∙ e),
      );
      all = sym firsts;
    }

-- each end that an input may say
told : (form : Form) → Laws form → (old new : Wire) (e : Ending) (ended : How) (bytes : List ℕ)
    → Consumes (Some bytes) new.left (spelled_all form e.blocks ++ e.rest) → All (IsBlock form) e.blocks
    → length e.blocks ≤ most_blocks → IsCause form old new e ended → IsOfInput ended
    → Tells form bytes e.blocks ended
told form laws old new e how.Closed bytes consumed each few cause is =
    closed form laws bytes e.blocks each few
    (read_at_end bytes new.left (spelled_all form e.blocks ++ e.rest) consumed cause.2
    ∙ ap (λ rest. spelled_all form e.blocks ++ rest) cause.3)
told form laws old new e (how.Truncated place) bytes consumed each few cause is =
    truncated form laws bytes e.blocks e.rest place each cause.6
    (read_at_end bytes new.left (spelled_all form e.blocks ++ e.rest) consumed cause.2) cause.3 cause.4 cause.5
told form laws old new e (how.Bad place) bytes consumed each few cause is =
    let whole = whole_input bytes new.left (spelled_all form e.blocks ++ e.rest) consumed in
    bad form laws bytes e.blocks e.rest whole.0 place each cause.4 whole.1 cause.2 cause.3
told form laws old new e how.Spent bytes consumed each few cause is =
    let whole = whole_input bytes new.left (spelled_all form e.blocks ++ e.rest) consumed in
    spent form laws bytes e.blocks e.rest whole.0 each cause.2 whole.1 cause.3
told form laws old new e how.ReadFault bytes consumed each few cause is = absurd is
told form laws old new e how.WriteFault bytes consumed each few cause is = absurd is
told form laws old new e how.Shut bytes consumed each few cause is = absurd is
told form laws old new e how.Memory bytes consumed each few cause is = absurd is

served : (form : Form) → Laws form → (old new : Wire) (desk desk' : Sight) (clock clock' : Timing) (ended : Ended)
    (e : Ending) (bytes : List ℕ) → old.left ≡ Some bytes → IsServed form old new desk desk' clock clock' ended e
    → IsOfInput ended.how → Tells form bytes e.blocks ended.how
served form laws old new desk desk' clock clock' ended e bytes known serves is =
    told form laws old new e ended.how bytes (rw known at serves.consumed) serves.blocks
    (omega (arith, serves.bounded, length-append e.blocks e.worked)) serves.cause is

pub only : (form : Form) → Laws form → (old new : Wire) (desk desk' : Sight) (clock clock' : Timing) (ended : Ended)
    (e : Ending) (bytes : List ℕ) → old.left ≡ Some bytes → IsServed form old new desk desk' clock clock' ended e
    → IsOfInput ended.how → Says form bytes ended.how
only form laws old new desk desk' clock clock' ended e bytes known serves is =
    (served form laws old new desk desk' clock clock' ended e bytes known serves is).says

pub all : (form : Form) → Laws form → (old new : Wire) (desk desk' : Sight) (clock clock' : Timing) (ended : Ended)
    (e : Ending) (bytes : List ℕ) → old.left ≡ Some bytes → IsServed form old new desk desk' clock clock' ended e
    → IsOfInput ended.how → e.blocks ≡ take most_blocks (blocks_of form bytes)
all form laws old new desk desk' clock clock' ended e bytes known serves is =
    (served form laws old new desk desk' clock clock' ended e bytes known serves is).all

-- it ended as was said
as_said : (form : Form) (said ended : How) → ended ≡ said → EndsSo form said ended
as_said forms.Plain said ended is = inl is
as_said forms.Framed said ended is = inl is

by_memory : (form : Form) (said : How) → EndsSo form said how.Memory
by_memory forms.Plain said = inr refl
by_memory forms.Framed said = inr (inl refl)

by_shutdown : (form : Form) (desk : Sight) (e : Ending) (said : How) → MindsShut form desk e how.Shut
    → EndsSo form said how.Shut
by_shutdown forms.Plain desk e said shut = absurd shut
by_shutdown forms.Framed desk e said shut = inr (inr refl)

-- each end where no fault was counted
ends_so : (form : Form) → Laws form → (old new : Wire) (desk : Sight) (e : Ending) (ended said : How) (bytes : List ℕ)
    → CountsNone old.reads new.reads → CountsNone old.writes new.writes → IsCause form old new e ended
    → MindsShut form desk e ended → (IsOfInput ended → Says form bytes ended) → Says form bytes said
    → EndsSo form said ended
ends_so form laws old new desk e how.Closed said bytes reads writes cause shut tells says =
    as_said form said how.Closed (one form laws bytes how.Closed said (tells tt) says)
ends_so form laws old new desk e (how.Truncated place) said bytes reads writes cause shut tells says =
    as_said form said (how.Truncated place) (one form laws bytes (how.Truncated place) said (tells tt) says)
ends_so form laws old new desk e (how.Bad place) said bytes reads writes cause shut tells says =
    as_said form said (how.Bad place) (one form laws bytes (how.Bad place) said (tells tt) says)
ends_so form laws old new desk e how.Spent said bytes reads writes cause shut tells says =
    as_said form said how.Spent (one form laws bytes how.Spent said (tells tt) says)
ends_so form laws old new desk e how.ReadFault said bytes reads writes cause shut tells says =
    absurd (omega (arith, cause.1.0, reads.0, reads.1))
ends_so form laws old new desk e how.WriteFault said bytes reads writes cause shut tells says =
    absurd (omega (arith, cause.1.0, writes.0, writes.1))
ends_so form laws old new desk e how.Shut said bytes reads writes cause shut tells says =
    by_shutdown form desk e said shut
ends_so form laws old new desk e how.Memory said bytes reads writes cause shut tells says = by_memory form said

pub there : (form : Form) → Laws form → (old new : Wire) (desk desk' : Sight) (clock clock' : Timing) (ended : Ended)
    (e : Ending) (bytes : List ℕ) (said : How)
    → old.left ≡ Some bytes → CountsNone old.reads new.reads → CountsNone old.writes new.writes
    → IsServed form old new desk desk' clock clock' ended e → Says form bytes said → EndsSo form said ended.how
there form laws old new desk desk' clock clock' ended e bytes said known reads writes serves says =
    ends_so form laws old new desk' e ended.how said bytes reads writes serves.cause serves.shut
    (only form laws old new desk desk' clock clock' ended e bytes known serves) says
