-- A session at a desk of its own is the run of a script.
use Rattle.std.proofs.Common.{◌≡◌, ◌⊎◌, ℕ, zero, suc, ◌+◌, ◌≤◌, List, [], ◌∷◌, ◌++◌, length, take, map, inl, inr, refl, sym, ap, ◌∙◌, subst, arith, length-append, append_assoc, add-zero, All}
use Rattle.std.proofs.lemmas.List.{append-nil, take_all, take-append-le, map-append}
use Rattle.std.proofs.lemmas.List.Concat.{flat_map-append}
use Rattle.std.specs.Io.KnownBytes.{Appends}
use Rattle.slurm_io.specs.Wire.{Wire}
use Rattle.block_frame.specs.declared.block.Block.{Block}
use Rattle.block_frame.specs.declared.form.Form.TheVariants.{Plain}
use Rattle.block_frame.specs.Grammar.{IsBlock, IsPartial, IsBad, blocks_of, rest_of}
use Rattle.ctl_state.specs.State.{State}
use Rattle.ctl_state.specs.Soundness.{IsSound}
use Rattle.ctl_desk.specs.Desk.{Seat, Sight, history_of, sight_of}
use Rattle.ctl_desk.specs.History.{StaysSound, of_session}
use Rattle.command_words.specs.declared.header.Meaning.{Meaning}
use Rattle.ctl_session.specs.declared.session.How.{How}
use Rattle.ctl_session.specs.declared.session.How.TheVariants as how
use Rattle.ctl_session.specs.declared.session.Ended.{Ended}
use Rattle.ctl_session.specs.Answers.{Answered, Answers, AreAsked, entries, meanings, replies}
use Rattle.ctl_session.specs.Clock.{Timing}
use Rattle.ctl_session.specs.Meaning.{meaning_of, told, state_behind}
use Rattle.ctl_session.specs.Session.{Ending, IsServed, IsWhole, IsCause, MindsShut, most_blocks}
use Rattle.ctl_node_side.specs.Passes.{PassIsFree}
use Rattle.cluster_opening.specs.Files.{fresh}
use Rattle.script_run.specs.Leaving.{IsAnsweredAt}
use Rattle.script_run.specs.Script.{asked_first, told_all, state_behind_all, script_of, script_history, IsWritten, IsEndOf, IsScript}
use Rattle.script_run.proofs.Blocks.{Laws, read_by, OneMore, worked_first, asked_up_to, asked_all}
use Rattle.script_run.proofs.Telling.{RaisedAlike, Alone, told_first, leads_soundly}

-- What a session's answers were, as those of a script: what each block was told, and the states that they led to.
record IsTold (opening : State) (e : Ending) : Type 0 where
  whole : replies e.answers ≡ told_all opening (map meaning_of e.blocks)
  all : replies e.answers ++ replies e.last ≡ told_all opening (map meaning_of (e.blocks ++ e.worked))
  sound : (n : ℕ) → IsSound (state_behind_all opening (take n (map meaning_of (e.blocks ++ e.worked))))

-- the answers at a desk that nobody else asks
pub alone_at : (opening : State) (seat : Seat) (answers : List Answered)
    → Answers Plain (sight_of (fresh opening)) (sight_of seat) answers
    → seat.before ≡ [] → Alone opening 0 seat.since 0 answers
alone_at opening seat answers made none =
    let since : seat.since ≡ made.since = ap (λ (d : Sight). d.since) made.goes_on in
    let mine : seat.since ≡ of_session 0 made.since = ap (λ (d : Sight). d.mine) made.goes_on in
    let seen : seat.before ++ seat.since ≡ seat.since = ap (λ l. l ++ seat.since) none in
    record {
      each = rw seen at made.each;
      rise = rw seen at made.rise;
      all = add-zero (length (entries answers)) ∙ ap length (made.own ∙ sym mine);
    }

-- the answers in the plain form go with what the blocks ask
pub plain_asked : (blocks : List Block) (answers : List Answered) → AreAsked Plain blocks answers
    → meanings answers ≡ map meaning_of blocks
plain_asked [] [] asked = refl
plain_asked [] (a ∷ answers) asked = absurd asked
plain_asked (b ∷ blocks) [] asked = absurd asked
plain_asked (b ∷ blocks) (a ∷ answers) asked =
    ap (λ m. m ∷ meanings answers) asked.0.1 ∙ ap (λ l. meaning_of b ∷ l) (plain_asked blocks answers asked.1)

told_of : (old new : Wire) (opening : State) (seat : Seat) (clock clock' : Timing) (ended : Ended) (e : Ending)
    → RaisedAlike
    → IsServed Plain old new (sight_of (fresh opening)) (sight_of seat) clock clock' ended e → IsTold opening e
told_of old new opening seat clock clock' ended e alike served =
    let made = served.answers in
    let none : seat.before ≡ [] = ap (λ (d : Sight). d.before) made.goes_on in
    let same : seat.opening ≡ opening = ap (λ (d : Sight). d.opening) made.goes_on in
    let seen : seat.before ++ seat.since ≡ seat.since = ap (λ l. l ++ seat.since) none in
    let sound : StaysSound opening seat.since = rw (seen, same) at served.history.sound in
    let alone = alone_at opening seat (e.answers ++ e.last) made none in
    let alone_all : Alone opening 0 seat.since 0 ((e.answers ++ e.last) ++ []) = rw append-nil alone in
    let whole_asked = plain_asked e.blocks e.answers served.asked in
    let asked : meanings (e.answers ++ e.last) ≡ map meaning_of (e.blocks ++ e.worked) =
    map-append (λ (a : Answered). a.meaning) e.answers e.last
    ∙ ap (λ l. l ++ meanings e.last) whole_asked
    ∙ ap (λ l. map meaning_of e.blocks ++ l) (plain_asked e.worked e.last served.asked_last)
    ∙ sym (map-append meaning_of e.blocks e.worked) in
    record {
      whole = told_first opening 0 seat.since 0 e.answers e.last alike sound alone ∙ ap (told_all opening) whole_asked;
      all = sym (flat_map-append (λ (a : Answered). a.reply) e.answers e.last)
          ∙ told_first opening 0 seat.since 0 (e.answers ++ e.last) [] alike sound alone_all
          ∙ ap (told_all opening) asked;
      sound = λ n. subst (λ ms. IsSound (state_behind_all opening (take n ms))) asked
          (leads_soundly opening 0 seat.since 0 (e.answers ++ e.last) n alike sound alone);
    }

map_take : {X Y : Type 0} (f : X → Y) (n : ℕ) (xs : List X) → take n (map f xs) ≡ map f (take n xs)
map_take f zero [] = refl
map_take f zero (x ∷ xs) = refl
map_take f (suc n) [] = refl
map_take f (suc n) (x ∷ xs) = ap (λ l. f x ∷ l) (map_take f n xs)

-- ---- from a session's end to a script's

-- the answers to the first blocks come first
told_begins : (s : State) (xs ys : List Meaning) → (tail : List ℕ) × (told_all s (xs ++ ys) ≡ told_all s xs ++ tail)
told_begins s [] ys = (told_all s ys, refl)
told_begins s (x ∷ xs) ys =
    let more = told_begins (state_behind s x) xs ys in
    (more.0, ap (λ l. told s x ++ l) more.1 ∙ sym (append_assoc (told s x) (told_all (state_behind s x) xs) more.0))

-- the front of a list with what follows it, up to a length that the front keeps
take_with_front : {X : Type 0} (n : ℕ) (xs ys : List X) → length xs ≤ n → (zs : List X) × (take n (xs ++ ys) ≡ xs ++ zs)
take_with_front n [] ys fits = (take n ys, refl)
take_with_front zero (x ∷ xs) ys fits = absurd (omega arith)
take_with_front (suc n) (x ∷ xs) ys fits =
    let more = take_with_front n xs ys (omega arith) in
    (more.0, ap (λ l. x ∷ l) more.1)

-- of two texts, the first of them and a front of the second
take_past : {X : Type 0} (xs ys zs : List X) (n : ℕ) → n ≤ length ys
    → take (length xs + n) ((xs ++ ys) ++ zs) ≡ xs ++ take n ys
take_past [] ys zs n fits = let e : 0 + n ≡ n = omega arith in rw e (take-append-le n ys zs fits)
take_past (x ∷ xs) ys zs n fits = let e : suc (length xs) + n
    ≡ suc (length xs + n) = omega arith in rw e (ap (λ l. x ∷ l) (take_past xs ys zs n fits))

-- what the blocks that were worked are told is the beginning of what the script is answered
script_begins : (opening : State) (e : Ending) (others : List Block)
    → blocks_of Plain (read_by e) ≡ (e.blocks ++ e.worked) ++ others
    → length (e.blocks ++ e.worked) ≤ most_blocks → IsTold opening e
    → (tail : List ℕ) × (script_of opening (read_by e) ≡ (replies e.answers ++ replies e.last) ++ tail)
unfolding script_of
script_begins opening e others cut few told =
    let kept = take_with_front most_blocks (e.blocks ++ e.worked) others few in
    let begun = told_begins opening (map meaning_of (e.blocks ++ e.worked)) (map meaning_of kept.0) in (
      begun.0,
      ap (λ bs. told_all opening (map meaning_of (take most_blocks bs))) cut
          ∙ ap (λ bs. told_all opening (map meaning_of bs)) kept.1
          ∙ ap (told_all opening) (map-append meaning_of (e.blocks ++ e.worked) kept.0)
          ∙ begun.1
          ∙ ap (λ l. l ++ begun.0) (sym told.all),
    )

-- a rest that no block begins is all that follows the blocks of what was read
record IsAllRead (opening : State) (e : Ending) : Type 0 where
  blocks_are : blocks_of Plain (read_by e) ≡ e.blocks
  rest_is : rest_of Plain (read_by e) ≡ e.rest
  script_is : script_of opening (read_by e) ≡ replies e.answers

all_read : (opening : State) (e : Ending) → Laws → All (IsBlock Plain) e.blocks
    → IsPartial Plain e.rest ⊎ IsBad Plain e.rest → length (e.blocks ++ e.worked) ≤ most_blocks
    → IsTold opening e → IsAllRead opening e
unfolding script_of
all_read opening e laws each kind few told =
    let cut = laws.once e.blocks e.rest each kind in
    let short : length e.blocks ≤ most_blocks = omega (arith, few, length-append e.blocks e.worked) in
    record {
      blocks_are = cut.0;
      rest_is = cut.1;
      script_is =
          ap (λ bs. told_all opening (map meaning_of (take most_blocks bs))) cut.0
          ∙ ap (λ bs. told_all opening (map meaning_of bs)) (take_all most_blocks e.blocks short)
          ∙ sym told.whole;
    }

written : (opening : State) (old new : Wire) (e : Ending) → IsWhole old new e
    → script_of opening (read_by e) ≡ replies e.answers → IsWritten opening old new (read_by e)
written opening old new e whole script_is = record { written = rw script_is whole.sent; writes = whole.writes }

-- as many blocks as one session answers are the first of the blocks of what was read
spent : (opening : State) (e : Ending) → Laws → All (IsBlock Plain) e.blocks → length e.blocks ≡ most_blocks
    → IsTold opening e
    → (take most_blocks (blocks_of Plain (read_by e)) ≡ e.blocks) × (script_of opening (read_by e) ≡ replies e.answers)
    × (length e.blocks ≤ length (blocks_of Plain (read_by e)))
unfolding script_of
spent opening e laws each many told =
    let cut = (laws.first e.blocks e.rest each).0 in
    let kept : take most_blocks (blocks_of Plain (read_by e)) ≡ e.blocks =
    ap (take most_blocks) cut ∙ take-append-le most_blocks e.blocks (blocks_of Plain e.rest) (omega (arith, many))
    ∙ take_all most_blocks e.blocks (omega (arith, many)) in (
      kept,
      ap (λ bs. told_all opening (map meaning_of bs)) kept ∙ sym told.whole,
      omega (arith, ap length cut, length-append e.blocks (blocks_of Plain e.rest)),
    )

-- How a session that no other one interrupts ended, as the end of a script.
script_end : (opening : State) (old new : Wire) (desk : Sight) (e : Ending) (how : How) → Laws
    → All (IsBlock Plain) e.blocks → OneMore e → length (e.blocks ++ e.worked) ≤ most_blocks
    → IsTold opening e → MindsShut Plain desk e how → IsCause Plain old new e how → IsEndOf opening old new (read_by e) how
script_end opening old new desk e how.Closed laws each more few told minds (whole, reads, at_end, none) =
    let read = all_read opening e laws each (inl (rw none laws.empty)) few told in (
      written opening old new e whole read.script_is,
      reads,
      at_end,
      read.rest_is
          ∙ none,
      rw read.blocks_are (omega (arith, few, length-append e.blocks e.worked)),
    )
script_end opening old new desk e (how.Truncated place) laws each more few told minds
    (whole, reads, at_end, partial, some, at, fewer) =
    let read = all_read opening e laws each (inl partial) few told in (
      written opening old new e whole read.script_is,
      reads,
      at_end,
      rw read.rest_is partial,
      rw read.rest_is some,
      rw read.blocks_are at,
      rw read.blocks_are fewer,
    )
script_end opening old new desk e (how.Bad place) laws each more few told minds (whole, reads, bad, at, fewer) =
    let read = all_read opening e laws each (inr bad) few told in (
      written opening old new e whole read.script_is,
      reads,
      rw read.rest_is bad,
      rw read.blocks_are at,
      rw read.blocks_are fewer,
    )
script_end opening old new desk e how.Shut laws each more few told minds cause = absurd minds
script_end opening old new desk e how.ReadFault laws each more few told minds (whole, counted, partial) =
    let read = all_read opening e laws each (inl partial) few told in
    (written opening old new e whole read.script_is, counted)
script_end opening old new desk e how.Spent laws each more few told minds (whole, reads, many, some) =
    let start = spent opening e laws each many told in (
      written opening old new e whole start.1,
      reads,
      (e.rest, some, rw start.0 refl),
      omega (arith, many, start.2),
    )
script_end opening old new desk e how.WriteFault laws each more few told minds (reads, counted, (sent, short, sent_is)) =
    let begun = worked_first laws e each more in
    let start = script_begins opening e begun.0 begun.1 few told in (
      reads,
      counted,
      (
        length (replies e.answers) + sent,
        omega (
          arith,
          ap length start.1,
          length-append (replies e.answers ++ replies e.last) start.0,
          length-append (replies e.answers) (replies e.last),
        ),
        rw (start.1, take_past (replies e.answers) (replies e.last) start.0 sent (omega arith)) sent_is,
      ),
    )
script_end opening old new desk e how.Memory laws each more few told minds (reads, writes, sent) =
    let begun = worked_first laws e each more in
    let cut : blocks_of Plain (read_by e) ≡ e.blocks ++ (e.worked ++ begun.0) = begun.1
    ∙ append_assoc e.blocks e.worked begun.0 in
    let first = asked_all (read_by e) e.blocks (e.worked ++ begun.0) cut in (
      reads,
      writes,
      (length e.blocks, omega (arith, few, length-append e.blocks e.worked), rw (first, ← told.whole) sent),
    )

-- what was written, as a beginning of the answers to the blocks that were worked
sent_of : (old new : Wire) (e : Ending) (how : How) → IsCause Plain old new e how
    → (n : ℕ) × (n ≤ length (replies e.last)) × Appends old.taken new.taken
    (replies e.answers ++ take n (replies e.last))
sent_of old new e how.Closed cause = (0, omega arith, rw append-nil cause.0.sent)
sent_of old new e how.Shut cause = (0, omega arith, rw append-nil cause.0.sent)
sent_of old new e (how.Truncated place) cause = (0, omega arith, rw append-nil cause.0.sent)
sent_of old new e (how.Bad place) cause = (0, omega arith, rw append-nil cause.0.sent)
sent_of old new e how.Spent cause = (0, omega arith, rw append-nil cause.0.sent)
sent_of old new e how.ReadFault cause = (0, omega arith, rw append-nil cause.0.sent)
sent_of old new e how.WriteFault cause = (cause.2.0, omega (arith, cause.2.1), cause.2.2)
sent_of old new e how.Memory cause = (0, omega arith, rw append-nil cause.2)

-- the law that every pass starts jobs alone that nothing hinders
abbrev pub AllFree : Type 0
AllFree = (s : State) (now : ℕ) → PassIsFree s now

pub script_of_session : (opening : State) (old new : Wire) (seat : Seat) (clock clock' : Timing) (ended : Ended)
    (e : Ending) → RaisedAlike → AllFree → Laws
    → IsServed Plain old new (sight_of (fresh opening)) (sight_of seat) clock clock' ended e
    → IsScript opening old new ended.how
script_of_session opening old new seat clock clock' ended e alike free laws served =
    let told = told_of old new opening seat clock clock' ended e alike served in
    let begun = worked_first laws e served.blocks served.one_more in
    let worked = e.blocks ++ e.worked in
    let asked = asked_all (read_by e) worked begun.0 begun.1 in
    let sent = sent_of old new e ended.how served.cause in
    record {
      read = read_by e;
      worked = length worked;
      consumed = served.consumed;
      end = script_end opening old new (sight_of seat) e ended.how laws served.blocks served.one_more served.bounded told
          served.shut served.cause;
      written = (
        length (replies e.answers) + sent.0,
        let front : take (length (replies e.answers) + sent.0) (replies e.answers ++ replies e.last)
            ≡ replies e.answers ++ take sent.0 (replies e.last) =
            ap (take (length (replies e.answers) + sent.0)) (sym (append-nil (replies e.answers ++ replies e.last)))
            ∙ take_past (replies e.answers) (replies e.last) [] sent.0 sent.1 in
            rw (asked, ← told.all, front) sent.2,
      );
      sound = λ n below. rw (
        asked_up_to (n + 1) (read_by e) worked begun.0 begun.1 (omega (arith, below)),
        ← map_take meaning_of (n + 1) worked,
      ) (told.sound (n + 1));
      starts = λ n now. free (state_behind_all opening (asked_first n (read_by e))) now;
    }

-- and leaves its history, where the session does
pub answered_of : (opening : State) (old new : Wire) (seat : Seat) (clock clock' : Timing) (ended : Ended) (e : Ending)
    → RaisedAlike → AllFree → Laws
    → IsServed Plain old new (sight_of (fresh opening)) (sight_of seat) clock clock' ended e
    → (ended.how ≡ how.Closed → history_of (sight_of seat) ≡ script_history opening (read_by e))
    → IsAnsweredAt opening old new seat ended.how
unfolding script_of_session
answered_of opening old new seat clock clock' ended e alike free laws served leaves = record {
  script = script_of_session opening old new seat clock clock' ended e alike free laws served;
  leaves = leaves;
}
