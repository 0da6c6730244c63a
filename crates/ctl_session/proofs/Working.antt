-- What a desk's answer is to a session.
use Rattle.std.proofs.Common.{◌≡◌, ℕ, ◌+◌, true, false, List, [], ◌∷◌, ◌++◌, length, take, slice_get, Option, Some, None, refl, sym, ap, ◌∙◌, arith, length-append, append_assoc, add-zero, inl, inr, All, Result, Ok, Err, IfOk, OnErr, subst}
use Rattle.std.proofs.lemmas.Bool.{cases_Bool}
use Rattle.std.proofs.lemmas.List.{append_cancel_left, append-nil, length-take-le}
use Rattle.std.proofs.lemmas.List.Elements.{All-cons, All-nil}
use Rattle.std.specs.Option.{option_to_list}
use Rattle.std.specs.declared.alloc.Global.{Global}
use Rattle.std.specs.Prelude.{Vec}
use Rattle.block_frame.specs.declared.block.Block.{Block}
use Rattle.block_frame.specs.declared.form.Form.{Form}
use Rattle.block_frame.specs.declared.form.Form.TheVariants.{Plain, Framed}
use Rattle.command_words.specs.declared.header.Asked.{Asked}
use Rattle.command_words.specs.declared.header.Meaning.{Meaning}
use Rattle.command_words.specs.declared.header.Meaning.TheVariants.{Asks}
use Rattle.ctl_state.specs.State.{State}
use Rattle.ctl_core.specs.Step.{reply_of, is_entered}
use Rattle.ctl_desk.specs.declared.entry.Answer.{Answer}
use Rattle.ctl_desk.specs.Desk.{Sight, GoesOn, IsAnswered, seen, state_at}
use Rattle.ctl_desk.specs.History.{entry_of, of_session}
use Rattle.slurm_print.specs.Text.{text_of}
use Rattle.ctl_session.specs.declared.answer.Told.{Told}
use Rattle.ctl_session.specs.Answers.{Answered, IsAnswerIn, Answers}
use Rattle.ctl_session.specs.Meaning.{Means, answer_in, entry_made, place_told, status_by, status_told, told}
use Rattle.ctl_session.specs.Turn.{AnswersOne, MakesNone, Tells, Works, bytes_in}

slice_get_seam : {X : Type 0} (xs : List X) (x : X) → slice_get (xs ++ x ∷ []) (length xs) ≡ Some x
slice_get_seam [] x = refl
slice_get_seam (y ∷ xs) x = slice_get_seam xs x

-- the last member, by its place
slice_get_last : {X : Type 0} (xs front : List X) (x : X) (n : ℕ) → xs ≡ front ++ x ∷ [] → length front ≡ n
    → slice_get xs n ≡ Some x
slice_get_last xs front x n whole long = rw (whole, ← long) (slice_get_seam front x)

-- what grew by two lists at once grew by one list
same_growth : {X : Type 0} (old new xs ys : List X) → new ≡ old ++ xs → new ≡ old ++ ys → xs ≡ ys
same_growth old new xs ys p q = append_cancel_left old xs ys (sym p ∙ q)

some_is : {X : Type 0} (x y : X) → Some x ≡ Some y → x ≡ y
some_is x y e = cc

none_is_some : {X : Type 0} (x : X) → None ≡ Some x → ⊥
none_is_some x e = cc

entered_made : (s : State) (number : ℕ) (asked : Asked) → is_entered
    (reply_of s asked.moment asked.user asked.request) ≡ true
    → entry_made s number (Asks asked) ≡ Some (entry_of s number asked.moment asked.user asked.request)
entered_made s number asked accepts = rw accepts refl

none_made : (s : State) (number : ℕ) (asked : Asked) → is_entered (reply_of s asked.moment asked.user asked.request)
    ≡ false
    → entry_made s number (Asks asked) ≡ None
none_made s number asked refuses = rw refuses refl

-- a fact that needs no error
pub on_err : {T E : Type 0} (result : Result T E) (P : Type 0) → P → OnErr result P
on_err (Ok x) P p = tt
on_err (Err e) P p = p

-- what a desk's answer is to a session that told its text
tells_of : (desk desk' : Sight) (asked : Asked) (answer : Answer) (answer_told : Told)
    (works : Works (Asks asked) desk desk') → works.place ≡ answer.place
    → IsAnswered desk desk' asked.moment asked.user asked.request answer
    → answer_told.text.items ≡ text_of asked.request answer.reply → answer_told.status ≡ status_by answer.reply
    → answer_told.place ≡ answer.place → Tells (Asks asked) desk desk' answer_told
tells_of desk desk' asked answer answer_told works at answered text status place =
    let reply : answer.reply ≡ reply_of (state_at desk.opening (seen desk') works.place) asked.moment asked.user
    asked.request = rw at answered.reply in
    record {
      works = works;
      text = text ∙ ap (text_of asked.request) reply;
      status = status ∙ ap status_by reply;
      place = place ∙ sym at;
    }

-- the answer to a request that was accepted
entered_works : (desk desk' : Sight) (asked : Asked) (answer : Answer) → GoesOn desk desk'
    → IsAnswered desk desk' asked.moment asked.user asked.request answer
    → is_entered answer.reply ≡ true
    → (works : Works (Asks asked) desk desk') × (works.place ≡ answer.place)
entered_works desk desk' asked answer goes answered accepts =
    let s = state_at desk.opening (seen desk') answer.place in
    let entry = entry_of s desk.number asked.moment asked.user asked.request in
    let both = answered.accepted accepts in
    let front : length (take answer.place (seen desk')) ≡ answer.place =
    length-take-le answer.place (seen desk') answered.within in
    let long : length (seen desk') ≡ answer.place + 1 = ap length both.0
    ∙ length-append (take answer.place (seen desk')) (entry ∷ []) ∙ ap (λ n. n + 1) front in
    let mine : desk'.mine ≡ desk.mine ++ of_session desk.number goes.0 = ap (λ (d : Sight). d.mine) goes.1 in (
      record {
        place = answer.place;
        entry = Some entry;
        since = goes.0;
        goes_on = goes.1;
        own = same_growth desk.mine desk'.mine (entry ∷ []) (of_session desk.number goes.0) both.1 mine;
        from = answered.from;
        behind = sym long;
        made = sym (entered_made s desk.number asked (sym (ap is_entered answered.reply) ∙ accepts));
        stands = λ e is. slice_get_last (seen desk') (take answer.place
            (seen desk')) entry answer.place both.0 front ∙ is;
      },
      refl,
    )

-- and to any other
idle_works : (desk desk' : Sight) (asked : Asked) (answer : Answer) → GoesOn desk desk'
    → IsAnswered desk desk' asked.moment asked.user asked.request answer
    → is_entered answer.reply ≡ false
    → (works : Works (Asks asked) desk desk') × (works.place ≡ answer.place)
idle_works desk desk' asked answer goes answered refuses =
    let s = state_at desk.opening (seen desk') answer.place in
    let both = answered.other refuses in
    let mine : desk'.mine ≡ desk.mine ++ of_session desk.number goes.0 = ap (λ (d : Sight). d.mine) goes.1 in (
      record {
        place = answer.place;
        entry = None;
        since = goes.0;
        goes_on = goes.1;
        own = same_growth desk.mine desk'.mine [] (of_session desk.number goes.0)
            (both.1 ∙ sym (append-nil desk.mine)) mine;
        from = answered.from;
        behind = add-zero answer.place ∙ both.0;
        made = sym (none_made s desk.number asked (sym (ap is_entered answered.reply) ∙ refuses));
        stands = λ e is. absurd (none_is_some e is);
      },
      refl,
    )

-- what a desk answered what was asked
pub asked_works : (desk desk' : Sight) (asked : Asked) (answer : Answer) → GoesOn desk desk'
    → IsAnswered desk desk' asked.moment asked.user asked.request answer
    → (works : Works (Asks asked) desk desk') × (works.place ≡ answer.place)
asked_works desk desk' asked answer goes answered =
    elim (cases_Bool (is_entered answer.reply)) [
      | inl accepts ↦ entered_works desk desk' asked answer goes answered accepts
      | inr refuses ↦ idle_works desk desk' asked answer goes answered refuses
    ]

pub asked_tells : (desk desk' : Sight) (asked : Asked) (answer : Answer) (answer_told : Told) → GoesOn desk desk'
    → IsAnswered desk desk' asked.moment asked.user asked.request answer
    → answer_told.text.items ≡ text_of asked.request answer.reply → answer_told.status ≡ status_by answer.reply
    → answer_told.place ≡ answer.place → Tells (Asks asked) desk desk' answer_told
asked_tells desk desk' asked answer answer_told goes answered text status place =
    let works = asked_works desk desk' asked answer goes answered in
    tells_of desk desk' asked answer answer_told works.0 works.1 answered text status place

-- what asks nothing of a desk makes no entry, and is told the same in every state
pub record AsksNone (meaning : Meaning) (text : List ℕ) : Type 0 where
  pub tells : (s : State) → text ≡ told s meaning
  pub status : (s : State) → 1 ≡ status_told s meaning
  pub place : (n : ℕ) → 0 ≡ place_told n meaning
  pub makes : (s : State) (number : ℕ) → entry_made s number meaning ≡ None

abbrev unasked_works : (desk : Sight) (meaning : Meaning)
    → ((s : State) (number : ℕ) → entry_made s number meaning ≡ None) → Works meaning desk desk
unasked_works desk meaning makes = record {
  place = length (seen desk);
  entry = None;
  since = [];
  goes_on = rw (append-nil desk.since, append-nil desk.mine) refl;
  own = refl;
  from = omega arith;
  behind = add-zero (length (seen desk));
  made = sym (makes (state_at desk.opening (seen desk) (length (seen desk))) desk.number);
  stands = λ e is. absurd (none_is_some e is);
}

-- what a call tells of it
pub unasked : {E : Type 0} (result : Result Told E) (written : Result (Vec ℕ Global) E) (desk : Sight)
    (meaning : Meaning) (text : List ℕ) → AsksNone meaning text
    → IfOk written (λ bytes. bytes.items ≡ text)
    → IfOk result (λ answer. (written ≡ Ok answer.text) × (answer.status ≡ 1) × (answer.place ≡ 0))
    → IfOk result (λ answer. Tells meaning desk desk answer)
unasked (Ok answer) written desk meaning text none is (written_is, status, place) =
    let s = state_at desk.opening (seen desk) (length (seen desk)) in
    let items : answer.text.items ≡ text = subst (λ (w : Result (Vec ℕ Global) _). IfOk w (λ bytes. bytes.items ≡ text)) written_is is in
    record {
      works = unasked_works desk meaning none.makes;
      text = items ∙ none.tells s;
      status = status ∙ none.status s;
      place = place ∙ none.place (length (seen desk));
    }
unasked (Err e) written desk meaning text none is so = tt

-- ---- an answer in a form

pub all_one : (P : Answered → Type 0) (a : Answered) → P a → All P (a ∷ [])
all_one P a p = All-cons P a [] p (All-nil P)

-- the answer of a desk, as a form spells it
abbrev pub answer_of : (form : Form) (block : Block) (meaning : Meaning) (moment : Option ℕ) (desk desk' : Sight)
    → Works meaning desk desk' → Answered
answer_of form block meaning moment desk desk' works = record {
  moment = moment;
  meaning = meaning;
  place = works.place;
  reply = answer_in form (state_at desk.opening (seen desk') works.place) works.place meaning;
  entry = works.entry;
}

-- a desk that worked what a block asks answered the block
abbrev pub one_of : (form : Form) (block : Block) (meaning : Meaning) (moment : Option ℕ) (desk desk' : Sight)
    → Works meaning desk desk' → Means form block meaning moment → AnswersOne form block desk desk'
one_of form block meaning moment desk desk' works means =
    let a = answer_of form block meaning moment desk desk' works in
    record {
      answer = a;
      means = means;
      answers = record {
        since = works.since;
        goes_on = works.goes_on;
        own = append-nil (option_to_list works.entry) ∙ works.own;
        each = all_one (IsAnswerIn form desk.opening desk.number (seen desk')) a (record {
          within = omega (arith, works.behind);
          reply = refl;
          entry = works.made;
          stands = works.stands;
        });
        rise = (works.from, omega (arith, works.behind));
      };
      behind = works.behind;
    }

-- the bytes of what was told are those of the answer
bytes_told : (form : Form) (block : Block) (meaning : Meaning) (moment : Option ℕ) (desk desk' : Sight)
    (answer : Told) (tells : Tells meaning desk desk' answer)
    → bytes_in form answer ≡ (answer_of form block meaning moment desk desk' tells.works).reply
bytes_told Plain block meaning moment desk desk' answer tells = tells.text
bytes_told Framed block meaning moment desk desk' answer tells = rw (tells.text, tells.status, tells.place) refl

-- a block whose answer was told, and is written
pub told_one : (form : Form) (block : Block) (meaning : Meaning) (moment : Option ℕ) (desk desk' : Sight)
    (answer : Told) → Means form block meaning moment → Tells meaning desk desk' answer
    → (one : AnswersOne form block desk desk') × (bytes_in form answer ≡ one.answer.reply)
    × (one.answer.moment ≡ moment)
told_one form block meaning moment desk desk' answer means tells = (
  one_of form block meaning moment desk desk' tells.works means,
  bytes_told form block meaning moment desk desk' answer tells,
  refl,
)

-- a desk that went on and made nothing answered nothing
pub nothing_made : (form : Form) (desk desk' : Sight) → MakesNone desk desk' → Answers form desk desk' []
nothing_made form desk desk' (goes, mine) =
    let same : desk'.mine ≡ desk.mine ++ of_session desk.number goes.0 = ap (λ (d : Sight). d.mine) goes.1 in
    let long : seen desk' ≡ seen desk ++ goes.0 = ap seen goes.1 ∙ sym (append_assoc desk.before desk.since goes.0) in
    record {
      since = goes.0;
      goes_on = goes.1;
      own = same_growth desk.mine desk'.mine [] (of_session desk.number goes.0)
          (mine ∙ sym (append-nil desk.mine)) same;
      each = All-nil (IsAnswerIn form desk.opening desk.number (seen desk'));
      rise = omega (arith, ap length long ∙ length-append (seen desk) goes.0);
    }
