-- The history that a script leads to.
use Rattle.std.proofs.Common.{◌≡◌, ℕ, ◌≤◌, List, [], ◌∷◌, ◌++◌, length, map, take, inl, refl, sym, ap, ◌∙◌, subst, Option}
use Rattle.std.proofs.lemmas.List.{append-nil, take_all}
use Rattle.std.proofs.lemmas.List.Elements.{All-head}
use Rattle.std.specs.Option.{option_to_list}
use Rattle.slurm_io.specs.Wire.{Wire}
use Rattle.block_frame.specs.declared.form.Form.TheVariants.{Plain}
use Rattle.block_frame.specs.Grammar.{blocks_of}
use Rattle.ctl_state.specs.State.{State}
use Rattle.ctl_desk.specs.declared.entry.Entry.{Entry}
use Rattle.ctl_desk.specs.Desk.{Seat, Sight, history_of, sight_of, state_at}
use Rattle.ctl_desk.specs.History.{History, StaysSound, of_session}
use Rattle.ctl_session.specs.declared.session.How.TheVariants as how
use Rattle.ctl_session.specs.declared.session.Ended.{Ended}
use Rattle.ctl_session.specs.Answers.{Answered, IsAnswerIn, behind, entries, meanings}
use Rattle.ctl_session.specs.Clock.{Timing}
use Rattle.ctl_session.specs.Meaning.{entry_made, meaning_of}
use Rattle.ctl_session.specs.Session.{Ending, IsCause, IsServed, most_blocks}
use Rattle.cluster_opening.specs.Files.{fresh}
use Rattle.script_run.specs.Leaving.{IsAnsweredAt}
use Rattle.script_run.specs.Script.{asked_first, entered_all, script_history}
use Rattle.script_run.proofs.Blocks.{Laws, read_by}
use Rattle.script_run.proofs.Scripts.{AllFree, alone_at, answered_of, plain_asked}
use Rattle.script_run.proofs.Telling.{Alone, RaisedAlike, at_place, goes_alone, next_state}

-- the first answers made a script's entries
entered_first : (opening : State) (history : List Entry) (low : ℕ) (first others : List Answered) → RaisedAlike
    → StaysSound opening history
    → Alone opening 0 history low (first ++ others)
    → entries first ≡ entered_all (state_at opening history low) (meanings first)
entered_first opening history low [] others alike sound alone = refl
entered_first opening history low (a ∷ first) others alike sound alone =
    let s = state_at opening history low in
    let own = All-head (IsAnswerIn Plain opening 0 history) a (first ++ others) alone.each in
    let entry : a.entry ≡ entry_made s 0 a.meaning =
    own.entry ∙ ap (λ p. entry_made (state_at opening history p) 0 a.meaning)
    (at_place opening 0 history low a (first ++ others) alone) in
    let later = entered_first opening history (behind a) first others alike sound
    (goes_alone opening 0 history low a (first ++ others) alone) in
    let next = next_state opening 0 history low a (first ++ others) alike sound alone in
    ap (λ (o : Option Entry). option_to_list o ++ entries first) entry
    ∙ ap (λ l. option_to_list (entry_made s 0 a.meaning) ++ l)
    (later ∙ ap (λ t. entered_all t (meanings first)) next)

abbrev of_both : State → List Entry → History
of_both opening es = record { opening = opening; entries = es }

same_history : (opening opening' : State) (es es' : List Entry) → opening ≡ opening' → es ≡ es'
    → of_both opening es ≡ of_both opening' es'
same_history opening opening' es es' same same' = rw (same, same') refl

-- what the blocks of a whole input ask
asked_whole : (e : Ending) → Laws → blocks_of Plain (read_by e) ≡ e.blocks → length e.blocks ≤ most_blocks
    → asked_first most_blocks (read_by e) ≡ map meaning_of e.blocks
asked_whole e laws cut short =
    ap (λ bs. map meaning_of (take most_blocks bs)) cut ∙ ap (map meaning_of) (take_all most_blocks e.blocks short)

leaves_history : (old new : Wire) (opening : State) (seat : Seat) (clock clock' : Timing) (ended : Ended) (e : Ending)
    → RaisedAlike → Laws
    → IsServed Plain old new (sight_of (fresh opening)) (sight_of seat) clock clock' ended e → ended.how ≡ how.Closed
    → history_of (sight_of seat) ≡ script_history opening (read_by e)
unfolding script_history
leaves_history old new opening seat clock clock' ended e alike laws served is =
    let closed : IsCause Plain old new e how.Closed = subst (IsCause Plain old new e) is served.cause in
    let made = served.answers in
    let none : seat.before ≡ [] = ap (λ (d : Sight). d.before) made.goes_on in
    let same : seat.opening ≡ opening = ap (λ (d : Sight). d.opening) made.goes_on in
    let seen : seat.before ++ seat.since ≡ seat.since = ap (λ l. l ++ seat.since) none in
    let mine : seat.since ≡ of_session 0 made.since = ap (λ (d : Sight). d.mine) made.goes_on in
    let sound : StaysSound opening seat.since = rw (seen, same) at served.history.sound in
    let alone = alone_at opening seat (e.answers ++ e.last) made none in
    let entered = entered_first opening seat.since 0 e.answers e.last alike sound alone in
    let all : entries (e.answers ++ e.last) ≡ entries e.answers =
    ap (λ l. entries (e.answers ++ l)) closed.0.none_last ∙ ap entries (append-nil e.answers) in
    let cut = (laws.once e.blocks e.rest served.blocks (inl (rw closed.3 laws.empty))).0 in
    let short : length e.blocks ≤ most_blocks =
    subst (λ n. n ≤ most_blocks) (ap (λ l. length (e.blocks ++ l)) closed.0.none_worked ∙ ap length (append-nil e.blocks))
    served.bounded in
    let asked = asked_whole e laws cut short in
    same_history seat.opening opening (seat.before ++ seat.since)
    (entered_all opening (asked_first most_blocks (read_by e))) same
    (seen ∙ mine ∙ sym made.own ∙ all ∙ entered
    ∙ ap (entered_all opening) (plain_asked e.blocks e.answers served.asked ∙ sym asked))

fresh_served : (opening : State) (old new : Wire) (seat seat' : Seat) (clock clock' : Timing) (ended : Ended) (e : Ending)
    → seat ≡ fresh opening → IsServed Plain old new (sight_of seat) (sight_of seat') clock clock' ended e
    → IsServed Plain old new (sight_of (fresh opening)) (sight_of seat') clock clock' ended e
fresh_served opening old new seat seat' clock clock' ended e is_fresh served =
    subst (λ (s : Seat). IsServed Plain old new (sight_of s) (sight_of seat') clock clock' ended e) is_fresh served

-- A session at a desk of its own, which no one asked before, is a script.
pub answered_at_seat : (opening : State) (old new : Wire) (seat seat' : Seat) (clock clock' : Timing) (ended : Ended)
    → RaisedAlike → AllFree → Laws
    → seat ≡ fresh opening
    → ((e : Ending) × IsServed Plain old new (sight_of seat) (sight_of seat') clock clock' ended e)
    → IsAnsweredAt opening old new seat' ended.how
answered_at_seat opening old new seat seat' clock clock' ended alike free laws is_fresh (e, served) =
    answered_of opening old new seat' clock clock' ended e alike free laws
    (fresh_served opening old new seat seat' clock clock' ended e is_fresh served)
    (leaves_history old new opening seat' clock clock' ended e alike laws
    (fresh_served opening old new seat seat' clock clock' ended e is_fresh served))
