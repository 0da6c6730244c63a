-- A session under way, and what its last turn makes of it.
use Rattle.std.proofs.Common.{◌≡◌, ℕ, ◌+◌, ◌-◌, ◌*◌, ◌<◌, ◌≤◌, Bool, true, false, List, [], ◌∷◌, ◌++◌, Option, None, Some, IfSome, length, take, inl, inr, refl, sym, ap, ◌∙◌, subst, arith, length-append, append_assoc, All}
use Rattle.std.proofs.KnownBytes.{Consumes-trans, Consumes-kept, Appends-trans, Consumes-nil, Appends-nil}
use Rattle.std.proofs.lemmas.List.{append-nil, take-append-le, take_all}
use Rattle.std.proofs.lemmas.List.Concat.{flat_map-append}
use Rattle.std.proofs.lemmas.List.Elements.{All-push, All-nil}
use Rattle.std.specs.Io.KnownBytes.{Consumes, Appends}
use Rattle.std.specs.Option.{option_to_list}
use Rattle.slurm_io.specs.Faults.{CountsOne}
use Rattle.slurm_io.specs.Wire.{Wire}
use Rattle.block_frame.specs.declared.block.Block.{Block}
use Rattle.block_frame.specs.declared.form.Form.{Form}
use Rattle.block_frame.specs.declared.form.Form.TheVariants.{Plain, Framed}
use Rattle.block_frame.specs.Grammar.{IsBlock, IsPartial, spelled, spelled_all, longest_block}
use Rattle.block_frame.specs.State.{BlocksState}
use Rattle.ctl_desk.specs.Desk.{Sight, history_of, seen}
use Rattle.ctl_desk.specs.History.{IsHistory}
use Rattle.ctl_session.specs.declared.session.How.{How}
use Rattle.ctl_session.specs.declared.session.How.TheVariants as how
use Rattle.ctl_session.specs.Answers.{Answered, Answers, AreAsked, IsOpenBehind, moments, replies}
use Rattle.ctl_session.specs.Meaning.{Means}
use Rattle.ctl_session.specs.Reading.{TakesBlock, TakesNone, WritesStay}
use Rattle.ctl_session.specs.Session.{Ending, IsCause, IsServed, IsUnused, IsWhole, MindsShut, StaysOpen, is_shut, most_blocks}
use Rattle.ctl_session.specs.Turn.{DropsBlock, IsLastLook, IsQuiet, IsTurn, NeedsClock, Post, PostReads, Reads, WorksBlock}
use Rattle.ctl_session.proofs.Clocks.{reads_none, reads_twice}
use Rattle.ctl_session.proofs.Joining.{joined, none_asked, open_last, open_later}
use Rattle.ctl_session.proofs.Working.{nothing_made}

pub most_blocks_is : most_blocks ≡ 1048576
unfolding most_blocks
most_blocks_is = refl

-- the laws of blocks that a session rests on
pub record Laws : Type 0 where
  pub short : (form : Form) (block : Block) → IsBlock form block → length (spelled form block) ≤ longest_block
  pub empty : (form : Form) → IsPartial form []
  pub joins : (form : Form) (blocks others : List Block) → spelled_all form (blocks ++ others)
      ≡ spelled_all form blocks ++ spelled_all form others

spelled_one_more : Laws → (form : Form) (blocks : List Block) (block : Block)
    → spelled_all form (blocks ++ block ∷ []) ≡ spelled_all form blocks ++ spelled form block
spelled_one_more laws form blocks block = laws.joins form blocks (block ∷ [])
    ∙ ap (λ l. spelled_all form blocks ++ l) (append-nil (spelled form block))

-- what a session served from a post on
abbrev pub Serves : (form : Form) (old new : Wire) (at at' : Post) (how : How) (count : ℕ) → Ending → Type 0
Serves form old new at at' how count e =
    IsServed form old new at.desk at'.desk at.clock at'.clock
    (record { how = how; answered = count; readings = at'.count }) e

-- The session so far: the blocks that were answered, their answers, and what was written and is pending.
pub record IsSoFar (form : Form) (old now : Wire) (at at' : Post) (blocks : BlocksState) (count : ℕ) : Type 0 where
  pub served : List Block
  pub answers : List Answered
  pub consumed : Consumes old.left now.left (spelled_all form served ++ blocks.pending)
  pub each : All (IsBlock form) served
  pub count_is : length served ≡ count
  pub form_is : blocks.form ≡ form
  pub place : blocks.place ≡ length (spelled_all form served)
  pub short : length (spelled_all form served) ≤ longest_block * count
  pub asked : AreAsked form served answers
  pub answered : Answers form at.desk at'.desk answers
  pub start : at.count ≡ 0
  pub clock : Reads at.clock at'.clock at.count at'.count (moments answers)
  pub few : at'.count ≤ count
  pub sent : Appends old.taken now.taken (replies answers)
  pub reads : now.reads ≡ old.reads
  pub writes : now.writes ≡ old.writes

-- A framed session goes on only while no shutdown was seen behind an answer.
abbrev pub GoesOnOpen : Form → Sight → ℕ → List Answered → Type 0
GoesOnOpen form desk count answers =
    form ≡ Framed → (0 < count → is_shut desk ≡ false) × StaysOpen desk answers

pub record IsUnderWay (form : Form) (old now : Wire) (at at' : Post) (blocks : BlocksState) (count : ℕ)
    : Type 0 where
  pub so_far : IsSoFar form old now at at' blocks count
  pub unshut : GoesOnOpen form at'.desk count so_far.answers

abbrev so_far_at_start : (form : Form) (wire : Wire) (at : Post) → at.count ≡ 0
    → IsSoFar form wire wire at at (record { form = form; place = 0; pending = [] }) 0
so_far_at_start form wire at start = record {
  served = [];
  answers = [];
  consumed = Consumes-nil wire.left;
  each = All-nil (IsBlock form);
  count_is = refl;
  form_is = refl;
  place = refl;
  short = omega arith;
  asked = tt;
  answered = none_asked form at.desk;
  start = start;
  clock = reads_none at.clock at.count;
  few = omega (arith, start);
  sent = Appends-nil wire.taken;
  reads = refl;
  writes = refl;
}

pub under_way_at_start : (form : Form) (wire : Wire) (at : Post) → at.count ≡ 0
    → IsUnderWay form wire wire at at (record { form = form; place = 0; pending = [] }) 0
under_way_at_start form wire at start = record {
  so_far = so_far_at_start form wire at start;
  unshut = λ framed. (λ some. absurd (omega (arith, some)), All-nil (IsOpenBehind at.desk.opening (seen at.desk)));
}

-- a block that was taken in a form is one in that form
record IsTaken (form : Form) (old new : Wire) (pending pending' : List ℕ) (block : Block) : Type 0 where
  read : List ℕ
  consumed : Consumes old.left new.left read
  is_block : IsBlock form block
  cut : pending ++ read ≡ spelled form block ++ pending'

taken_in : (form : Form) (old new : Wire) (blocks blocks' : BlocksState) (block : Block) → blocks.form ≡ form
    → TakesBlock old new blocks blocks' block
    → IsTaken form old new blocks.pending blocks'.pending block
taken_in form old new blocks blocks' block is takes =
    subst (λ f. IsTaken f old new blocks.pending blocks'.pending block) is
    (record { read = takes.read; consumed = takes.consumed; is_block = takes.is_block; cut = takes.cut })

-- what was read up to a block and behind it
consumed_with : Laws → (form : Form) (old mid new : Wire) (served : List Block) (pending pending' : List ℕ)
    (block : Block)
    → Consumes old.left mid.left (spelled_all form served ++ pending) → IsTaken form mid new pending pending' block
    → Consumes old.left new.left (spelled_all form (served ++ block ∷ []) ++ pending')
consumed_with laws form old mid new served pending pending' block before takes =
    let read : Consumes old.left new.left ((spelled_all form served ++ pending) ++ takes.read) =
    Consumes-trans old.left mid.left new.left _ takes.read before takes.consumed in
    let cut : (spelled_all form served ++ pending) ++ takes.read ≡ spelled_all form (served ++ block ∷ []) ++ pending' =
    append_assoc (spelled_all form served) pending takes.read
    ∙ ap (λ l. spelled_all form served ++ l) takes.cut
    ∙ sym (append_assoc (spelled_all form served) (spelled form block) pending')
    ∙ ap (λ l. l ++ pending') (sym (spelled_one_more laws form served block)) in
    subst (Consumes old.left new.left) cut read

-- one answer more
asked_with : (form : Form) (served : List Block) (answers : List Answered) (block : Block) (answer : Answered)
    → AreAsked form served answers → Means form block answer.meaning answer.moment
    → AreAsked form (served ++ block ∷ []) (answers ++ answer ∷ [])
asked_with form [] [] block answer all one = (one, tt)
asked_with form [] (a ∷ answers) block answer all one = absurd all
asked_with form (b ∷ served) [] block answer all one = absurd all
asked_with form (b ∷ served) (a ∷ answers) block answer all one =
    (all.0, asked_with form served answers block answer all.1 one)

replies_with : (answers : List Answered) (answer : Answered) → replies (answers ++ answer ∷ [])
    ≡ replies answers ++ answer.reply
replies_with answers answer =
    flat_map-append (λ (a : Answered). a.reply) answers (answer ∷ [])
    ∙ ap (λ l. replies answers ++ l) (append-nil answer.reply)

moments_with : (answers : List Answered) (answer : Answered) → moments (answers ++ answer ∷ [])
    ≡ moments answers ++ option_to_list answer.moment
moments_with answers answer =
    flat_map-append (λ (a : Answered). option_to_list a.moment) answers (answer ∷ [])
    ∙ ap (λ l. moments answers ++ l) (append-nil (option_to_list answer.moment))

at_most_one : (moment : Option ℕ) → length (option_to_list moment) ≤ 1
at_most_one None = omega arith
at_most_one (Some m) = omega arith

-- a turn that answers a block
so_far_after : Laws → (form : Form) (old mid new : Wire) (at between after : Post) (blocks blocks' : BlocksState)
    (count : ℕ) → count < most_blocks → (way : IsSoFar form old mid at between blocks count)
    → (turn : IsTurn form mid new between after blocks blocks' None)
    → (next : IsSoFar form old new at after blocks' (count + 1)) × (next.answers ≡ way.answers ++ turn.0.one.answer ∷ [])
so_far_after laws form old mid new at between after blocks blocks' count few way (works, sent, reads, writes) =
    let block = works.block in
    let answer = works.one.answer in
    let takes = taken_in form mid new blocks blocks' block way.form_is works.takes in
    let long : length (spelled_all form (way.served ++ block ∷ [])) ≡ length (spelled_all form way.served)
    + length (spelled form block) =
    ap length (spelled_one_more laws form way.served block) ∙ length-append (spelled_all form way.served)
    (spelled form block) in
    let fits = laws.short form block takes.is_block in
    let short = way.short in
    let put = rw way.form_is at works.takes.place in
    let place = way.place in (
      record {
        served = way.served ++ block ∷ [];
        answers = way.answers ++ answer ∷ [];
        consumed = consumed_with laws form old mid new way.served blocks.pending blocks'.pending block way.consumed
            takes;
        each = All-push (IsBlock form) way.served block way.each takes.is_block;
        count_is = length-append way.served (block ∷ []) ∙ ap (λ n. n + 1) way.count_is;
        form_is = works.takes.form ∙ way.form_is;
        place = omega (arith, most_blocks_is);
        short = omega arith;
        asked = asked_with form way.served way.answers block answer way.asked works.one.means;
        answered = joined form at.desk between.desk after.desk way.answers (answer ∷ []) way.answered works.one.answers;
        start = way.start;
        clock = rw moments_with (reads_twice at.clock between.clock after.clock at.count between.count after.count
            (moments way.answers) (option_to_list answer.moment) way.clock works.reads);
        few = omega (arith, way.few, works.reads.1, at_most_one answer.moment);
        sent = rw replies_with (Appends-trans old.taken mid.taken new.taken
            (replies way.answers) answer.reply way.sent sent);
        reads = reads ∙ way.reads;
        writes = writes ∙ way.writes;
      },
      refl,
    )

not_true : (b : Bool) → ¬ (b ≡ true) → b ≡ false
not_true true other = absurd (other refl)
not_true false other = refl

pub not_so : (b : Bool) → b ≡ false → b ≡ true → ⊥
not_so b is other = cc

-- and behind which no shutdown is seen
pub under_way_after : Laws → (form : Form) (old mid new : Wire) (at between after : Post) (blocks blocks' : BlocksState)
    (count : ℕ) → count < most_blocks → IsUnderWay form old mid at between blocks count
    → IsTurn form mid new between after blocks blocks' None
    → ¬ ((form ≡ Framed) × (is_shut after.desk ≡ true))
    → IsUnderWay form old new at after blocks' (count + 1)
under_way_after laws form old mid new at between after blocks blocks' count few way turn unshut =
    let next = so_far_after laws form old mid new at between after blocks blocks' count few way.so_far turn in
    let answers = way.so_far.answers in
    let one = turn.0.one in
    record {
      so_far = next.0;
      unshut = λ framed.
          let none : is_shut after.desk ≡ false = not_true (is_shut after.desk) (λ is. unshut (framed, is)) in (
            λ some. none,
            rw next.1 (open_last after.desk answers one.answer one.behind none
                (open_later form at.desk between.desk after.desk answers (one.answer ∷ []) way.so_far.answered one.answers
                (way.unshut framed).1)),
          );
    }

-- ---- how a session ends

-- what a session leaves that worked no block behind those that it answered
abbrev quietly : List Block → List ℕ → List Answered → Option ℕ → Ending
quietly served rest answers unused =
    record { blocks = served; rest = rest; worked = []; answers = answers; last = []; unused = unused }

-- and one that worked one more
abbrev working : Form → List Block → Block → List ℕ → List Answered → Answered → Ending
working form served block more answers answer = record {
  blocks = served;
  rest = spelled form block ++ more;
  worked = block ∷ [];
  answers = answers;
  last = answer ∷ [];
  unused = None;
}

-- the clock's moments with those of a last block
given_then : (form : Form) (old mid : Wire) (at between after : Post) (blocks : BlocksState) (count : ℕ)
    (way : IsSoFar form old mid at between blocks count) (moment : Option ℕ) → PostReads between after moment
    → Reads at.clock after.clock at.count after.count (moments way.answers ++ option_to_list moment)
given_then form old mid at between after blocks count way moment reads =
    reads_twice at.clock between.clock after.clock at.count between.count after.count (moments way.answers)
    (option_to_list moment) way.clock reads

counted : (form : Form) (old mid : Wire) (at between after : Post) (blocks : BlocksState) (count : ℕ)
    (way : IsSoFar form old mid at between blocks count) (moment : Option ℕ) → PostReads between after moment
    → after.count ≡ length (moments way.answers ++ option_to_list moment)
counted form old mid at between after blocks count way moment reads =
    let all = (given_then form old mid at between after blocks count way moment reads).1 in
    omega (arith, all, way.start)

-- what was read up to a block that was taken last
rest_with : Laws → (form : Form) (old mid new : Wire) (at between : Post) (blocks blocks' : BlocksState) (count : ℕ)
    (way : IsSoFar form old mid at between blocks count) (block : Block)
    → IsTaken form mid new blocks.pending blocks'.pending block
    → Consumes old.left new.left (spelled_all form way.served ++ (spelled form block ++ blocks'.pending))
rest_with laws form old mid new at between blocks blocks' count way block takes =
    let cut : spelled_all form (way.served ++ block ∷ []) ++ blocks'.pending
    ≡ spelled_all form way.served ++ (spelled form block ++ blocks'.pending) =
    ap (λ l. l ++ blocks'.pending) (spelled_one_more laws form way.served block)
    ∙ append_assoc (spelled_all form way.served) (spelled form block) blocks'.pending in
    subst (Consumes old.left new.left) cut
    (consumed_with laws form old mid new way.served blocks.pending blocks'.pending block way.consumed takes)

-- the moment of a block that wasn't worked
unused_for : (form : Form) (e : Ending) (block : Block) (more : List ℕ) (moment : Option ℕ)
    → length e.blocks < most_blocks → IsBlock form block → e.worked ≡ [] → e.rest ≡ spelled form block ++ more
    → IfSome moment (λ _. NeedsClock form block) → IfSome moment (λ _. IsUnused form e how.Memory)
unused_for form e block more None few is_block none begins needs = tt
unused_for Plain e block more (Some m) few is_block none begins needs = absurd needs
unused_for Framed e block more (Some m) few is_block none begins needs = record {
  framed = refl;
  memory = refl;
  none_worked = none;
  bounded = few;
  block = block;
  more = more;
  is_block = is_block;
  begins = begins;
  caller = needs.0;
  calls = needs.1;
}

-- all but the last of some answers
but_last : (answers : List Answered) (answer : Answered)
    → take (length (answers ++ answer ∷ []) - 1) (answers ++ answer ∷ []) ≡ answers
but_last answers answer =
    let less : length (answers ++ answer ∷ []) - 1 ≡ length answers =
    omega (arith, length-append answers (answer ∷ [])) in
    rw less (take-append-le (length answers) answers (answer ∷ []) (omega arith)
    ∙ take_all (length answers) answers (omega arith))

plain_framed : Plain ≡ Framed → ⊥
plain_framed e = cc

minds_shut : (form : Form) (desk : Sight) (e : Ending) → (form ≡ Framed) × (is_shut desk ≡ true)
    → StaysOpen desk (take (length e.answers - 1) e.answers) → MindsShut form desk e how.Shut
minds_shut Framed desk e shut open_before = (shut.1, open_before)
minds_shut Plain desk e shut open_before = absurd (plain_framed shut.0)

-- no other end than that by a shutdown follows an answer where one was seen
minds_end : (form : Form) (desk : Sight) (e : Ending) (end : How) → ¬ (end ≡ how.Shut)
    → GoesOnOpen form desk (length e.blocks) e.answers → MindsShut form desk e end
minds_end Plain desk e how.Shut other unshut = absurd (other refl)
minds_end Plain desk e how.Closed other unshut = tt
minds_end Plain desk e (how.Truncated place) other unshut = tt
minds_end Plain desk e (how.Bad place) other unshut = tt
minds_end Plain desk e how.Spent other unshut = tt
minds_end Plain desk e how.ReadFault other unshut = tt
minds_end Plain desk e how.WriteFault other unshut = tt
minds_end Plain desk e how.Memory other unshut = tt
minds_end Framed desk e how.Shut other unshut = absurd (other refl)
minds_end Framed desk e how.Closed other unshut = unshut refl
minds_end Framed desk e (how.Truncated place) other unshut = unshut refl
minds_end Framed desk e (how.Bad place) other unshut = unshut refl
minds_end Framed desk e how.Spent other unshut = unshut refl
minds_end Framed desk e how.ReadFault other unshut = unshut refl
minds_end Framed desk e how.WriteFault other unshut = (unshut refl).1
minds_end Framed desk e how.Memory other unshut = (unshut refl).1

minds_memory : (form : Form) (desk : Sight) (e : Ending) → (form ≡ Framed → StaysOpen desk e.answers)
    → MindsShut form desk e how.Memory
minds_memory Plain desk e unshut = tt
minds_memory Framed desk e unshut = unshut refl

minds_write : (form : Form) (desk : Sight) (e : Ending) → (form ≡ Framed → StaysOpen desk e.answers)
    → MindsShut form desk e how.WriteFault
minds_write Plain desk e unshut = tt
minds_write Framed desk e unshut = unshut refl

-- The end of a session that answered no block after these: what was read behind them is the rest.
quiet_end : (form : Form) (old mid new : Wire) (at between after : Post) (blocks : BlocksState) (rest : List ℕ)
    (count : ℕ) (how : How) (unused : Option ℕ)
    (way : IsSoFar form old mid at between blocks count)
    → count ≤ most_blocks
    → IsHistory (history_of after.desk)
    → Answers form between.desk after.desk []
    → PostReads between after unused
    → Consumes old.left new.left (spelled_all form way.served ++ rest)
    → let e = quietly way.served rest way.answers unused in
    IsCause form old new e how → MindsShut form after.desk e how → IfSome unused (λ _. IsUnused form e how)
    → (e : Ending) × Serves form old new at after how count e
quiet_end form old mid new at between after blocks rest count how unused way few history none reads consumed cause minds
    left = (
      (quietly way.served rest way.answers unused),
      record {
        consumed = consumed;
        blocks = way.each;
        one_more = inl refl;
        bounded = rw (append-nil way.served) (omega (arith, way.count_is));
        answered = sym way.count_is;
        asked = way.asked;
        asked_last = tt;
        answers = joined form at.desk between.desk after.desk way.answers [] way.answered none;
        history = history;
        cause = cause;
        shut = minds;
        gives = rw (append-nil way.answers) (given_then form old mid at between after blocks count way unused reads).0;
        readings = rw (append-nil way.answers)
            (counted form old mid at between after blocks count way unused reads);
        unused = left;
      },
    )

-- all that was answered was written
whole : (form : Form) (old mid new : Wire) (at between : Post) (blocks : BlocksState) (rest : List ℕ) (count : ℕ)
    (way : IsSoFar form old mid at between blocks count) → WritesStay mid new
    → IsWhole old new (quietly way.served rest way.answers None)
whole form old mid new at between blocks rest count way stays = record {
  none_worked = refl;
  none_last = refl;
  sent = rw stays.0 way.sent;
  writes = stays.1 ∙ way.writes;
}

-- what a turn read that took no block
rest_consumed : (form : Form) (old mid new : Wire) (at between : Post) (blocks blocks' : BlocksState) (count : ℕ)
    (way : IsSoFar form old mid at between blocks count) → TakesNone mid new blocks blocks'
    → Consumes old.left new.left (spelled_all form way.served ++ blocks'.pending)
rest_consumed form old mid new at between blocks blocks' count way takes =
    rw (takes.pending, ← append_assoc)
    (Consumes-trans old.left mid.left new.left _ takes.read way.consumed takes.consumed)

-- a turn that read no clock
not_read : (at : Post) → PostReads at at None
not_read at = reads_none at.clock at.count

-- The end of a session behind these answers, of which no shutdown was seen.
calm_end : (form : Form) (old mid new : Wire) (at between : Post) (blocks : BlocksState) (rest : List ℕ) (count : ℕ)
    (end : How) (way : IsUnderWay form old mid at between blocks count) → ¬ (end ≡ how.Shut)
    → count ≤ most_blocks
    → IsHistory (history_of between.desk)
    → Consumes old.left new.left (spelled_all form way.so_far.served ++ rest)
    → IsCause form old new (quietly way.so_far.served rest way.so_far.answers None) end
    → (e : Ending) × Serves form old new at between end count e
calm_end form old mid new at between blocks rest count end way other few history consumed cause =
    let so_far = way.so_far in
    quiet_end form old mid new at between between blocks rest count end None so_far few history
    (none_asked form between.desk) (not_read between) consumed cause
    (minds_end form between.desk (quietly so_far.served rest so_far.answers None) end other
    (rw so_far.count_is way.unshut)) tt

-- The end of a session whose last turn answered nothing: what is pending is the rest.
ends_quietly : (form : Form) (old mid new : Wire) (at between after : Post) (blocks blocks' : BlocksState)
    (count : ℕ) (end : How)
    (way : IsUnderWay form old mid at between blocks count) → ¬ (end ≡ how.Shut)
    → count ≤ most_blocks
    → IsHistory (history_of after.desk)
    → IsQuiet mid new between after blocks blocks'
    → let e = quietly way.so_far.served blocks'.pending way.so_far.answers None in
    (IsWhole old new e → IsCause form old new e end)
    → (e : Ending) × Serves form old new at after end count e
ends_quietly form old mid new at between after blocks blocks' count end way other few history quiet cause =
    subst (λ (p : Post). (e : Ending) × Serves form old new at p end count e) (sym quiet.stays)
    (calm_end form old mid new at between blocks blocks'.pending count end way other few
    (subst (λ (p : Post). IsHistory (history_of p.desk)) quiet.stays history)
    (rest_consumed form old mid new at between blocks blocks' count way.so_far quiet.takes)
    (cause (whole form old mid new at between blocks blocks'.pending count way.so_far quiet.writes)))

-- a block that was worked, and not answered whole
worked_end : Laws → (form : Form) (old mid new : Wire) (at between after : Post) (blocks blocks' : BlocksState)
    (count : ℕ) (how : How)
    (way : IsSoFar form old mid at between blocks count) (works : WorksBlock form mid new between after blocks blocks')
    → count < most_blocks
    → IsHistory (history_of after.desk)
    → let e = working form way.served works.block blocks'.pending way.answers works.one.answer in
    IsCause form old new e how → MindsShut form after.desk e how
    → (e : Ending) × Serves form old new at after how count e
worked_end laws form old mid new at between after blocks blocks' count how way works few history cause minds =
    let block = works.block in
    let answer = works.one.answer in
    let takes = taken_in form mid new blocks blocks' block way.form_is works.takes in (
      (working form way.served block blocks'.pending way.answers answer),
      record {
        consumed = rest_with laws form old mid new at between blocks blocks' count way block takes;
        blocks = way.each;
        one_more = inr (block, blocks'.pending, refl, takes.is_block, refl);
        bounded = omega (arith, way.count_is, length-append way.served (block ∷ []));
        answered = sym way.count_is;
        asked = way.asked;
        asked_last = (works.one.means, tt);
        answers = joined form at.desk between.desk after.desk way.answers (answer ∷ []) way.answered works.one.answers;
        history = history;
        cause = cause;
        shut = minds;
        gives = rw (append-nil (moments (way.answers ++ answer ∷ [])), moments_with way.answers answer)
            (given_then form old mid at between after blocks count way answer.moment works.reads).0;
        readings = rw (append-nil (moments (way.answers ++ answer ∷ [])), moments_with way.answers answer)
            (counted form old mid at between after blocks count way answer.moment works.reads);
        unused = tt;
      },
    )

-- what stood open behind answers does so in the end
still_open : (form : Form) (old mid : Wire) (at between : Post) (after : Sight) (blocks : BlocksState) (count : ℕ)
    (way : IsUnderWay form old mid at between blocks count) (others : List Answered)
    → Answers form between.desk after others
    → form ≡ Framed → StaysOpen after way.so_far.answers
still_open form old mid at between after blocks count way others answers framed =
    open_later form at.desk between.desk after way.so_far.answers others way.so_far.answered answers
    (way.unshut framed).1

-- a block for which the clock may have been read, and that wasn't worked
dropped_end : Laws → (form : Form) (old mid new : Wire) (at between after : Post) (blocks blocks' : BlocksState)
    (count : ℕ)
    (way : IsUnderWay form old mid at between blocks count) → DropsBlock form mid new between after blocks blocks'
    → count < most_blocks
    → IsHistory (history_of after.desk)
    → WritesStay mid new → new.reads ≡ mid.reads
    → (e : Ending) × Serves form old new at after how.Memory count e
dropped_end laws form old mid new at between after blocks blocks' count way drops few history stays reads =
    let so_far = way.so_far in
    let block = drops.block in
    let takes = taken_in form mid new blocks blocks' block so_far.form_is drops.takes in
    let rest = spelled form block ++ blocks'.pending in
    let e = quietly so_far.served rest so_far.answers drops.moment in
    let none = nothing_made form between.desk after.desk drops.none in
    quiet_end form old mid new at between after blocks rest count how.Memory drops.moment so_far (omega arith) history
    none drops.reads (rest_with laws form old mid new at between blocks blocks' count so_far block takes)
    (reads ∙ so_far.reads, stays.1 ∙ so_far.writes, rw stays.0 so_far.sent)
    (minds_memory form after.desk e (still_open form old mid at between after.desk blocks count way [] none))
    (unused_for form e block blocks'.pending drops.moment (omega (arith, so_far.count_is)) takes.is_block refl refl
    drops.needs)

-- a session that ends by a shutdown behind an answer
pub served_shut : Laws → (form : Form) (old mid new : Wire) (at between after : Post) (blocks blocks' : BlocksState)
    (count : ℕ) → count < most_blocks → IsUnderWay form old mid at between blocks count
    → IsTurn form mid new between after blocks blocks' None
    → (form ≡ Framed) × (is_shut after.desk ≡ true)
    → IsHistory (history_of after.desk)
    → (e : Ending) × Serves form old new at after how.Shut (count + 1) e
served_shut laws form old mid new at between after blocks blocks' count few way turn shut history =
    let next = so_far_after laws form old mid new at between after blocks blocks' count few way.so_far turn in
    let so_far = next.0 in
    let answers = way.so_far.answers in
    let one = turn.0.one in
    let e = quietly so_far.served blocks'.pending so_far.answers None in
    quiet_end form old new new at after after blocks' blocks'.pending (count + 1) how.Shut None so_far (omega arith)
    history (none_asked form after.desk) (not_read after) so_far.consumed (
      record { none_worked = refl; none_last = refl; sent = so_far.sent; writes = so_far.writes },
      so_far.reads,
      omega (arith, so_far.count_is),
    )
    (minds_shut form after.desk e shut
    (rw (next.1, but_last answers one.answer)
    (still_open form old mid at between after.desk blocks count way (one.answer ∷ []) one.answers shut.0)))
    tt

-- a turn that is the last one
pub served_after_turn : Laws → (form : Form) (old mid new : Wire) (at between after : Post)
    (blocks blocks' : BlocksState) (count : ℕ) (how : How)
    → count < most_blocks
    → IsUnderWay form old mid at between blocks count
    → IsHistory (history_of after.desk)
    → IsTurn form mid new between after blocks blocks' (Some how)
    → (e : Ending) × Serves form old new at after how count e
served_after_turn laws form old mid new at between after blocks blocks' count how.Closed few way history
    (quiet, reads, at_end, none) =
    ends_quietly form old mid new at between after blocks blocks' count how.Closed way (λ e. cc) (omega arith) history
    quiet
    (λ all. (all, reads ∙ way.so_far.reads, at_end, none))
served_after_turn laws form old mid new at between after blocks blocks' count (how.Truncated place) few way history
    (quiet, reads, at_end, partial, some, here) =
    ends_quietly form old mid new at between after blocks blocks' count (how.Truncated place) way (λ e. cc)
    (omega arith) history quiet
    (λ all. (
      all,
      reads ∙ way.so_far.reads,
      at_end,
      rw (quiet.takes.form ∙ way.so_far.form_is) at partial,
      some,
      here ∙ quiet.takes.place ∙ way.so_far.place,
      omega (arith, way.so_far.count_is),
    ))
served_after_turn laws form old mid new at between after blocks blocks' count (how.Bad place) few way history
    (quiet, reads, bad, here) =
    ends_quietly form old mid new at between after blocks blocks' count (how.Bad place) way (λ e. cc)
    (omega arith) history quiet
    (λ all. (
      all,
      reads ∙ way.so_far.reads,
      rw (quiet.takes.form ∙ way.so_far.form_is) at bad,
      here ∙ quiet.takes.place ∙ way.so_far.place,
      omega (arith, way.so_far.count_is),
    ))
served_after_turn laws form old mid new at between after blocks blocks' count how.Spent few way history turn =
    absurd turn
served_after_turn laws form old mid new at between after blocks blocks' count how.Shut few way history turn =
    absurd turn
served_after_turn laws form old mid new at between after blocks blocks' count how.ReadFault few way history
    (quiet, counted, partial) =
    ends_quietly form old mid new at between after blocks blocks' count how.ReadFault way (λ e. cc) (omega arith) history
    quiet
    (λ all. (
      all,
      subst (λ n. CountsOne n new.reads) way.so_far.reads counted,
      rw (quiet.takes.form ∙ way.so_far.form_is) at partial,
    ))
served_after_turn laws form old mid new at between after blocks blocks' count how.WriteFault few way history
    (works, front, reads, counted) =
    let so_far = way.so_far in
    let reply = works.one.answer.reply in
    let whole_reply : replies (works.one.answer ∷ []) ≡ reply = append-nil reply in
    worked_end laws form old mid new at between after blocks blocks' count how.WriteFault so_far works few history (
      reads ∙ so_far.reads,
      subst (λ n. CountsOne n new.writes) so_far.writes counted,
      (
        front.0,
        rw whole_reply front.1,
        rw whole_reply (Appends-trans old.taken mid.taken new.taken
            (replies so_far.answers) (take front.0 reply) so_far.sent front.2),
      ),
    )
    (minds_write form after.desk (working form so_far.served works.block blocks'.pending so_far.answers works.one.answer)
    (still_open form old mid at between after.desk blocks count way (works.one.answer ∷ []) works.one.answers))
served_after_turn laws form old mid new at between after blocks blocks' count how.Memory few way history
    (stays, reads, made) =
    let so_far = way.so_far in
    elim made [
      | inl none ↦
          subst (λ (p : Post). (e : Ending) × Serves form old new at p how.Memory count e) (sym none.2)
          (calm_end form old mid new at between blocks (blocks.pending ++ none.0) count how.Memory way (λ e. cc)
          (omega arith) (subst (λ (p : Post). IsHistory (history_of p.desk)) none.2 history)
          (rw (← append_assoc) (Consumes-trans old.left mid.left new.left _ none.0 so_far.consumed none.1))
          (reads ∙ so_far.reads, stays.1 ∙ so_far.writes, rw stays.0 so_far.sent))
      | inr some ↦
          elim some [
            | inl drops ↦
                dropped_end laws form old mid new at between after blocks blocks' count way drops few history stays reads
            | inr works ↦
                worked_end laws form old mid new at between after blocks blocks' count how.Memory so_far works few history
                (reads ∙ so_far.reads, stays.1 ∙ so_far.writes, rw stays.0 so_far.sent)
                (minds_memory form after.desk (working form so_far.served works.block blocks'.pending so_far.answers
                works.one.answer)
                (still_open form old mid at between after.desk blocks count way (works.one.answer ∷ [])
                works.one.answers))
          ]
    ]

-- the look behind the last block that a session may answer
served_after_most : Laws → (form : Form) (old mid new : Wire) (at between : Post) (blocks : BlocksState) (how : How)
    → IsUnderWay form old mid at between blocks most_blocks
    → IsHistory (history_of between.desk)
    → IsLastLook mid new blocks.pending how
    → (e : Ending) × Serves form old new at between how most_blocks e
served_after_most laws form old mid new at between blocks how.Spent way history (read, consumed, more, stays, reads) =
    calm_end form old mid new at between blocks (blocks.pending ++ read) most_blocks how.Spent way (λ e. cc)
    (omega arith) history
    (rw (← append_assoc) (Consumes-trans old.left mid.left new.left _ read way.so_far.consumed consumed)) (
      whole form old mid new at between blocks (blocks.pending ++ read) most_blocks way.so_far stays,
      reads ∙ way.so_far.reads,
      way.so_far.count_is,
      more,
    )
served_after_most laws form old mid new at between blocks how.Closed way history (kept, at_end, none, stays, reads) =
    calm_end form old mid new at between blocks [] most_blocks how.Closed way (λ e. cc) (omega arith) history
    (Consumes-kept old.left mid.left new.left _ (rw none at way.so_far.consumed) kept)
    (whole form old mid new at between blocks [] most_blocks way.so_far stays, reads ∙ way.so_far.reads, at_end, refl)
served_after_most laws form old mid new at between blocks how.ReadFault way history (kept, none, stays, counted) =
    calm_end form old mid new at between blocks [] most_blocks how.ReadFault way (λ e. cc) (omega arith) history
    (Consumes-kept old.left mid.left new.left _ (rw none at way.so_far.consumed) kept) (
      whole form old mid new at between blocks [] most_blocks way.so_far stays,
      subst (λ n. CountsOne n new.reads) way.so_far.reads counted,
      laws.empty form,
    )
served_after_most laws form old mid new at between blocks (how.Truncated place) way history look = absurd look
served_after_most laws form old mid new at between blocks (how.Bad place) way history look = absurd look
served_after_most laws form old mid new at between blocks how.WriteFault way history look = absurd look
served_after_most laws form old mid new at between blocks how.Shut way history look = absurd look
served_after_most laws form old mid new at between blocks how.Memory way history look = absurd look

pub served_after_look : Laws → (form : Form) (old mid new : Wire) (at between : Post) (blocks : BlocksState)
    (count : ℕ) (how : How)
    → count ≡ most_blocks
    → IsUnderWay form old mid at between blocks count
    → IsHistory (history_of between.desk)
    → IsLastLook mid new blocks.pending how
    → (e : Ending) × Serves form old new at between how 1048576 e
served_after_look laws form old mid new at between blocks count how all way history look =
    subst (λ n. (e : Ending) × Serves form old new at between how n e) most_blocks_is
    (served_after_most laws form old mid new at between blocks how
    (subst (IsUnderWay form old mid at between blocks) all way) history look)

-- a session that had no memory to begin with
pub served_nothing : (form : Form) (wire : Wire) (at : Post) → at.count ≡ 0 → IsHistory (history_of at.desk)
    → (e : Ending) × Serves form wire wire at at how.Memory 0 e
served_nothing form wire at start history =
    let way = under_way_at_start form wire at start in
    calm_end form wire wire wire at at (record {
      form = form;
      place = 0;
      pending = [];
    }) [] 0 how.Memory way (λ e. cc) (omega arith) history way.so_far.consumed
    (refl, refl, way.so_far.sent)
