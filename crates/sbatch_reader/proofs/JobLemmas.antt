-- What the reader keeps of what is said, and what the whole of it says.
use Rattle.std.proofs.Common.{ℕ, ◌≡◌, Bool, true, false, not, ◌&&◌, if◌then◌else◌, List, [], ◌∷◌, fold, Option, Some, None, Result, Ok, Err, refl, ap, ◌∙◌}
use Rattle.std.specs.Option.{option_or, option_map, is_none}
use Rattle.std.proofs.lemmas.List.Sums.{fold-append}
use Rattle.text_values.specs.declared.word_refusal.WordKind.{WordKind}
use Rattle.text_values.specs.declared.word_refusal.WordKind.TheVariants.{BadValue}
use Rattle.sbatch_reader.specs.Entries.{with_entry, no_words}
use Rattle.sbatch_reader.specs.declared.entries.Entry.{Entry}
use Rattle.sbatch_reader.specs.declared.entries.JobWords.{JobWords}
use Rattle.sbatch_reader.specs.Description.{are_crossed, job_name, named}
use Rattle.sbatch_reader.specs.Drafts.{nothing_said, after, nodes_after, verdict, draft_job}
use Rattle.sbatch_reader.specs.Job.{words_of, is_nodes, says_nodes, first_fault, unless_refused, job_by}
use Rattle.sbatch_reader.specs.Refusal.{refusal_at}
use Rattle.sbatch_reader.specs.declared.draft.Draft.{Draft}
use Rattle.sbatch_reader.specs.declared.refusal.JobRefusal.{JobRefusal}
use Rattle.sbatch_reader.specs.declared.refusal.Place.{Place}
use Rattle.sbatch_reader.specs.declared.said.Said.{Said}

-- what is said behind something else
pub ruleset said_behind = (fold-append)

after-good : (draft : Draft) (said : Said) (entry : Entry) → said.what ≡ Ok entry → after draft said ≡ record { words = with_entry draft.words entry; fault = draft.fault; nodes_at = nodes_after draft said }
unfolding after
after-good draft said entry e = rw e refl

after-bad : (draft : Draft) (said : Said) (kind : WordKind) → said.what ≡ Err kind → after draft said ≡ record draft { fault = option_or draft.fault (Some (refusal_at said.place kind)) }
unfolding after
after-bad draft said kind e = rw e refl

-- the good part of what is said is kept
words-after : (draft : Draft) (said : List Said) → (fold after draft said).words ≡ words_of draft.words said
words-after draft [] = refl
words-after draft (first ∷ later) = words-after (after draft first) later ∙ by_what first.what refl where
  by_what : (what : Result Entry WordKind) → first.what ≡ what → words_of (after draft first).words later ≡ words_of draft.words (first ∷ later)
  by_what (Ok entry) e = rw (after-good draft first entry e, e) refl
  by_what (Err kind) e = rw (after-bad draft first kind e, e) refl

-- the fault of the last number of nodes, where no fault stands before it and none is given later
abbrev early : Bool → Option Place → Bool → Option JobRefusal
early crossed place again = if crossed && not again then option_map (λ p. refusal_at p BadValue) place else None

-- the first fault, by what is kept and what comes
abbrev merged : Bool → Draft → List Said → Option JobRefusal
merged crossed draft said =
    option_or (early crossed draft.nodes_at (says_nodes said)) (option_or draft.fault (first_fault crossed said))

or-assoc : (a b c : Option JobRefusal) → option_or (option_or a b) c ≡ option_or a (option_or b c)
or-assoc None b c = refl
or-assoc (Some x) b c = refl

-- a fault more
merged-bad : (crossed : Bool) (draft : Draft) (first : Said) (later : List Said) (kind : WordKind) → first.what ≡ Err kind → merged crossed (after draft first) later ≡ merged crossed draft (first ∷ later)
merged-bad crossed draft first later kind e =
    rw (after-bad draft first kind e, e) (ap (λ (r : Option JobRefusal). option_or (early crossed draft.nodes_at (says_nodes later)) r) (or-assoc draft.fault (Some (refusal_at first.place kind)) (first_fault crossed later)))

-- a number of nodes
merged-nodes : (crossed again : Bool) (fault old : Option JobRefusal) (nodes : Option Place) (place : Place) → option_or (early crossed (if is_none fault then Some place else None) again) (option_or fault old) ≡ option_or (early crossed nodes true) (option_or fault (option_or (if crossed && true && not again then Some (refusal_at place BadValue) else None) old))
merged-nodes true true None old nodes place = refl
merged-nodes true false None old nodes place = refl
merged-nodes false true None old nodes place = refl
merged-nodes false false None old nodes place = refl
merged-nodes true true (Some f) old nodes place = refl
merged-nodes true false (Some f) old nodes place = refl
merged-nodes false true (Some f) old nodes place = refl
merged-nodes false false (Some f) old nodes place = refl

-- something else that is good
merged-other : (crossed again : Bool) (fault old : Option JobRefusal) (nodes : Option Place) (place : Place) → option_or (early crossed nodes again) (option_or fault old) ≡ option_or (early crossed nodes again) (option_or fault (option_or (if crossed && false && not again then Some (refusal_at place BadValue) else None) old))
merged-other true again fault old nodes place = refl
merged-other false again fault old nodes place = refl

merged-good : (crossed : Bool) (draft : Draft) (first : Said) (later : List Said) (entry : Entry) (t : Bool) → first.what ≡ Ok entry → is_nodes (Ok entry) ≡ t → merged crossed (after draft first) later ≡ merged crossed draft (first ∷ later)
merged-good crossed draft first later entry true e k =
    rw (after-good draft first entry e, e, k) (merged-nodes crossed (says_nodes later) draft.fault (first_fault crossed later) draft.nodes_at first.place)
merged-good crossed draft first later entry false e k =
    rw (after-good draft first entry e, e, k) (merged-other crossed (says_nodes later) draft.fault (first_fault crossed later) draft.nodes_at first.place)

merged-step : (crossed : Bool) (draft : Draft) (first : Said) (later : List Said) → merged crossed (after draft first) later ≡ merged crossed draft (first ∷ later)
merged-step crossed draft first later = by_what first.what refl where
  by_what : (what : Result Entry WordKind) → first.what ≡ what → merged crossed (after draft first) later ≡ merged crossed draft (first ∷ later)
  by_what (Ok entry) e = merged-good crossed draft first later entry (is_nodes (Ok entry)) e refl
  by_what (Err kind) e = merged-bad crossed draft first later kind e

or-none : (a : Option JobRefusal) → a ≡ option_or a None
or-none None = refl
or-none (Some x) = refl

verdict-merged : (crossed : Bool) (draft : Draft) → verdict crossed draft ≡ merged crossed draft []
verdict-merged true draft =
    ap (λ (r : Option JobRefusal). option_or (option_map (λ (p : Place). refusal_at p BadValue) draft.nodes_at) r) (or-none draft.fault)
verdict-merged false draft = or-none draft.fault

verdict-after : (crossed : Bool) (draft : Draft) (said : List Said) → verdict crossed (fold after draft said) ≡ merged crossed draft said
verdict-after crossed draft [] = verdict-merged crossed draft
verdict-after crossed draft (first ∷ later) =
    verdict-after crossed (after draft first) later ∙ merged-step crossed draft first later

-- before anything is said
merged-nothing : (crossed : Bool) (said : List Said) → merged crossed nothing_said said ≡ first_fault crossed said
unfolding nothing_said
merged-nothing crossed said = by_test (crossed && not (says_nodes said)) where
  by_test : (t : Bool) → option_or (if t then None else None) (first_fault crossed said) ≡ first_fault crossed said
  by_test true = refl
  by_test false = refl

words-nothing : (said : List Said) → (fold after nothing_said said).words ≡ words_of no_words said
unfolding nothing_said
words-nothing said = words-after nothing_said said

same_job : (script : Option (ℕ × List ℕ)) (words other : JobWords) (fault again : Option JobRefusal) → words ≡ other → fault ≡ again → unless_refused fault (named words (job_name words script)) ≡ unless_refused again (named other (job_name other script))
same_job script words other fault again e f = rw (e, f) refl

-- what is kept of all that is said makes the job of it
pub judged : (said : List Said) (script : Option (ℕ × List ℕ)) → draft_job (fold after nothing_said said) script ≡ job_by said script
unfolding draft_job
judged said script =
    let draft : Draft = fold after nothing_said said in
    let words : JobWords = words_of no_words said in
    let kept : draft.words ≡ words = words-nothing said in
    same_job script draft.words words (verdict (are_crossed draft.words) draft) (first_fault (are_crossed words) said) kept (ap (λ (w : JobWords). verdict (are_crossed w) draft) kept ∙ (verdict-after (are_crossed words) nothing_said said ∙ merged-nothing (are_crossed words) said))
