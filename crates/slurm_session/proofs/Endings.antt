-- How a run ends, by what became of its parts.
use Rattle.std.proofs.Common.{◌≡◌, inl, ℕ, ◌+◌, ◌<◌, Bool, true, false, List, length, take, Option, Some, None, IfSome, IsSomeAnd, Ok, refl, sym, ap, subst, arith}
use Rattle.std.proofs.lemmas.List.{length-take}
use Rattle.slurm_io.specs.Shelf.{ShelfFile, bytes_named}
use Rattle.cluster_opening.specs.Files as cluster
use Rattle.cluster_opening.specs.declared.opening.OpenRefusal.{OpenRefusal}
use Rattle.cluster_opening.specs.declared.opening.OpenRefusal.TheVariants as refusal
use Rattle.cluster_opening.specs.declared.refusal.BadFile.TheVariants as bad_file
use Rattle.ctl_state.specs.State.{State}
use Rattle.ctl_desk.specs.Desk.{Seat, state_of}
use Rattle.plain_data.specs.Files.{Named}
use Rattle.session_text.specs.declared.input.Input.{Input}
use Rattle.session_text.specs.declared.input.Input.TheVariants.{Text}
use Rattle.session_talk.specs.Talk.{IsTalk, Scene, first_post, scene, setting}
use Rattle.session_talk.specs.declared.session.Ended.{Ended}
use Rattle.session_talk.specs.declared.session.How.{How}
use Rattle.session_talk.specs.declared.session.How.TheVariants as how
use Rattle.slurm_session.specs.Command.{Asked, asked_in}
use Rattle.slurm_session.specs.Lines.{status_of, talk_status}
use Rattle.slurm_session.specs.Runs.{HasEnded, HasRun, HasTalked, IsLong, IsOpened, IsOpenedRun, IsTalkOn, IsTextOf, IsUnopened, IsUnread, unopened}
use Rattle.slurm_session.specs.declared.ending.RunEnd.{RunEnd}
use Rattle.slurm_session.specs.declared.ending.RunEnd.TheVariants.{Usage, NoFile, BadFile, LongText, Memory, Talked}
use Rattle.slurm_session.specs.declared.running.TheConstants.{LONGEST_TEXT}

pub unopened_is : (told : Option (List ShelfFile)) (named : Named) (before after : ℕ) (why : OpenRefusal)
    → cluster.IsUnopened told named before after why → IsUnopened told named before after (unopened why)
unopened_is told named before after refusal.NoFile is = is
unopened_is told named before after (refusal.Bad bad) is = is
unopened_is told named before after refusal.Memory is = is

pub opened_is : (told : Option (List ShelfFile)) (named : Named) (before after : ℕ) (seat : Seat)
    → cluster.IsSeating told named before after (Ok seat) → IsOpened told named before after (Ok seat)
opened_is told named before after seat (opens, is_fresh, same) =
    (subst (λ (s : State). cluster.Opens told named (Ok s)) (sym (ap state_of is_fresh)) opens, same)

-- ---- words that are off end no other run

pub talked_isnt_off : (told : Option (List ShelfFile)) (input : Input) (file : Option (List ℕ)) (s : State)
    (old new : Scene) (end : RunEnd) → HasTalked told input file s old new end → end ≡ Usage → ⊥
talked_isnt_off told input file s old new end talked is =
    subst (λ (e : RunEnd). HasTalked told input file s old new e) is talked

pub unopened_isnt_off : (told : Option (List ShelfFile)) (named : Named) (before after : ℕ) (end : RunEnd)
    → IsUnopened told named before after end → end ≡ Usage → ⊥
unopened_isnt_off told named before after end refused is =
    subst (λ (e : RunEnd). IsUnopened told named before after e) is refused

-- a run at a cluster that was opened
pub opened_run : (told told' : Option (List ShelfFile)) (input : Input) (asked : Asked) (s : State)
    (left : Option (List ℕ)) (reads : ℕ) (taken : Option (List ℕ)) (writes files files' : ℕ) (new : Scene) (end : RunEnd)
    → cluster.Opens told asked.named (Ok s) → files' ≡ files → told' ≡ told
    → HasTalked told' input asked.file s (scene left reads taken writes files') new end
    → IsOpenedRun told input asked (scene left reads taken writes files) new end
opened_run told told' input asked s left reads taken writes files files' new end opens same kept talked = record {
  opening = s;
  opens = opens;
  talked = subst (λ (t : Option (List ShelfFile)). HasTalked t input asked.file s (scene left reads taken writes files) new end)
      kept
      (subst (λ (n : ℕ). HasTalked told' input asked.file s (scene left reads taken writes n) new end) same talked);
}

-- a run of words that ask this
pub asked_run : (told : Option (List ShelfFile)) (input : Input) (words : List (List ℕ)) (asked : Asked)
    (old new : Scene) (end : RunEnd) → asked_in words ≡ Some asked → (end ≡ Usage → ⊥)
    → HasRun told input asked old new end → HasEnded told input words old new end
asked_run told input words asked old new Usage is isnt ran = absurd (isnt refl)
asked_run told input words asked old new NoFile is isnt ran = inl (asked, is, ran)
asked_run told input words asked old new (BadFile bad) is isnt ran = inl (asked, is, ran)
asked_run told input words asked old new LongText is isnt ran = inl (asked, is, ran)
asked_run told input words asked old new Memory is isnt ran = inl (asked, is, ran)
asked_run told input words asked old new (Talked ended) is isnt ran = inl (asked, is, ran)

-- no session has their status
talk_isnt_two : (h : How) (wrong : Bool) → talk_status h wrong ≡ 2 → ⊥
talk_isnt_two how.Closed true e = omega arith
talk_isnt_two how.Closed false e = omega arith
talk_isnt_two how.Quit true e = omega arith
talk_isnt_two how.Quit false e = omega arith
talk_isnt_two how.TooLong true e = omega arith
talk_isnt_two how.TooLong false e = omega arith
talk_isnt_two how.ReadFault wrong e = omega arith
talk_isnt_two how.WriteFault wrong e = omega arith
talk_isnt_two how.Memory wrong e = omega arith
talk_isnt_two how.Spent wrong e = omega arith

off_alone : (end : RunEnd) → status_of end ≡ 2 → end ≡ Usage
off_alone Usage e = refl
off_alone NoFile e = absurd (omega arith)
off_alone (BadFile (bad_file.Conf line kind)) e = absurd (omega arith)
off_alone (BadFile (bad_file.Assocs line kind)) e = absurd (omega arith)
off_alone (BadFile (bad_file.State line)) e = absurd (omega arith)
off_alone LongText e = absurd (omega arith)
off_alone Memory e = absurd (omega arith)
off_alone (Talked ended) e = absurd (talk_isnt_two ended.how ended.wrong e)

pub only_off : (told : Option (List ShelfFile)) (input : Input) (words : List (List ℕ)) (old new : Scene) (end : RunEnd)
    → HasEnded told input words old new end → status_of end ≡ 2 → asked_in words ≡ None
only_off told input words old new end ended e =
    (subst (λ (one : RunEnd). HasEnded told input words old new one) (off_alone end e) ended).0

-- ---- the file of a session

-- the text of one that isn't too long is the file's
pub text_is : (told : Option (List ShelfFile)) (name text : List ℕ) (short : Type 0)
    → IfSome told (λ files. short → bytes_named files name ≡ Some text) → short → IsTextOf told name text
text_is None name text short whole is = tt
text_is (Some files) name text short whole is = whole is

long_file : (file : Option (List ℕ)) (text : List ℕ) (n : ℕ) → n ≡ 67108865
    → IsSomeAnd file (λ (f : List ℕ). text ≡ take n f) → LONGEST_TEXT < length text
    → IsSomeAnd file (λ (f : List ℕ). LONGEST_TEXT < length f)
long_file None text n is read long = read
long_file (Some file) text n is read long =
    let same : length text ≡ length (take n file) = ap length read in
    omega (arith, is, long, same, length-take n file)

-- one of which more was read than it may have is too long
pub long_is : (told : Option (List ShelfFile)) (name text : List ℕ)
    → IfSome told (λ files. IsSomeAnd (bytes_named files name) (λ (f : List ℕ). text ≡ take (LONGEST_TEXT + 1) f))
    → LONGEST_TEXT < length text → IsLong told (Some name)
long_is None name text read long = tt
long_is (Some files) name text read long =
    long_file (bytes_named files name) text (LONGEST_TEXT + 1) refl read long

-- ---- sessions

-- a session over the bytes of a text leaves the input as it was
pub on_text : (told : Option (List ShelfFile)) (name name' text text' : List ℕ) (s : State) (left : Option (List ℕ))
    (reads : ℕ) (taken : Option (List ℕ)) (writes files : ℕ) (last taken' : Option (List ℕ)) (writes' files' : ℕ)
    (ended : Ended) → name' ≡ name → text' ≡ text
    → IsTalk (setting name' Text told) first_post s (scene (Some text') 0 taken writes files)
    (scene last 0 taken' writes' files') ended
    → IsTalkOn told name text s (scene left reads taken writes files) (scene left reads taken' writes' files') ended
on_text told name name' text text' s left reads taken writes files last taken' writes' files' ended named same talk =
    record {
      left = last;
      talk = subst (λ (n : List ℕ). IsTalk (setting n Text told) first_post s (scene (Some text) 0 taken writes files)
          (scene last 0 taken' writes' files') ended) named
          (subst (λ (t : List ℕ). IsTalk (setting name' Text told) first_post s (scene (Some t) 0 taken writes files)
          (scene last 0 taken' writes' files') ended) same talk);
      stays = (refl, refl);
    }

-- what a run at a cluster left, by another name of the file that equals it
pub talked_as : (told : Option (List ShelfFile)) (input : Input) (file file' : Option (List ℕ)) (s : State)
    (old new : Scene) (end : RunEnd) → file ≡ file' → HasTalked told input file' s old new end
    → HasTalked told input file s old new end
talked_as told input file file' s old new end same talked =
    subst (λ (f : Option (List ℕ)). HasTalked told input f s old new end) (sym same) talked

-- a run without the text of its file
pub unread_run : (told : Option (List ShelfFile)) (input : Input) (name : List ℕ) (s : State) (left : Option (List ℕ))
    (reads : ℕ) (taken : Option (List ℕ)) (writes before after : ℕ) (end : RunEnd) → IsUnread told name before after end
    → HasTalked told input (Some name) s (scene left reads taken writes before) (scene left reads taken writes after) end
unread_run told input name s left reads taken writes before after Usage is = absurd is
unread_run told input name s left reads taken writes before after NoFile is = (is, refl)
unread_run told input name s left reads taken writes before after (BadFile bad) is = absurd is
unread_run told input name s left reads taken writes before after LongText (long, same) =
    (long, ap (λ (n : ℕ). scene left reads taken writes n) same)
unread_run told input name s left reads taken writes before after Memory same =
    ap (λ (n : ℕ). scene left reads taken writes n) same
unread_run told input name s left reads taken writes before after (Talked ended) is = absurd is

-- a run on the text of its file, which was read behind a count that stayed
pub read_run : (told told' : Option (List ShelfFile)) (input : Input) (name text : List ℕ) (s : State)
    (left : Option (List ℕ)) (reads : ℕ) (taken : Option (List ℕ)) (writes before after : ℕ) (new : Scene) (ended : Ended)
    → IsTextOf told name text → after ≡ before → told' ≡ told
    → IsTalkOn told' name text s (scene left reads taken writes after) new ended
    → HasTalked told input (Some name) s (scene left reads taken writes before) new (Talked ended)
read_run told told' input name text s left reads taken writes before after new ended is same kept talked = (
  text,
  is,
  subst (λ (t : Option (List ShelfFile)). IsTalkOn t name text s (scene left reads taken writes before) new ended) kept
      (subst (λ (n : ℕ). IsTalkOn told' name text s (scene left reads taken writes n) new ended) same talked),
)
