-- Which qualities of service a list may name, and that a file which is read gives them.
use Rattle.std.proofs.Common.{ℕ, ◌≡◌, ◌+◌, Bool, true, false, cond, ◌||◌, if◌then◌else◌, List, [], ◌∷◌, ◌++◌, codes, bytes_eq, All, Contains, Result, Ok, Err, IfOk, ok_or, Option, Some, None, true≢false, refl, ap, sym, subst, ◌∙◌}
use Rattle.std.specs.List.{list_all, list_any}
use Rattle.std.proofs.lemmas.List.Elements.{All-nil, All-push, All-weaker}
use Rattle.std.proofs.lemmas.List.Folds.{Any-from_list_any}
use Rattle.std.proofs.lemmas.List.Sums.{AllPass-from_list_all}
use Rattle.std.proofs.lemmas.Slice.Eq.{bytes_eq-Decides}
use Rattle.host_lists.specs.Hosts.{has}
use Rattle.text_values.specs.Steps.{◌>>=◌}
use Rattle.plain_data.specs.Assocs.{qos_names, PreemptAmong}
use Rattle.plain_data.specs.declared.assoc.QosConf.{QosConf}
use Rattle.assoc_reader.specs.Lines.{Form, is_skipped, is_ascii, form_in}
use Rattle.assoc_reader.specs.Qos.{qos_fault, qos_conf, with_normal, is_qos_named, names_qos, may_name}
use Rattle.assoc_reader.specs.Reader.{unless, alone, after_cluster, after_qos, after_parent, after_assoc, before_cluster, behind_cluster, after_form, after_line, at_line, after_lines, nothing_said, lines_say}
use Rattle.assoc_reader.specs.Tree.{parent_named, name_fault}
use Rattle.assoc_reader.specs.Words.{no_qos_words, assoc_said, qos_said}
use Rattle.assoc_reader.specs.declared.draft.Draft.{Draft}
use Rattle.assoc_reader.specs.declared.keys.LineKind.{LineKind}
use Rattle.assoc_reader.specs.declared.keys.LineKind.TheVariants.{Cluster, Qos, Parent, Account, User}
use Rattle.assoc_reader.specs.declared.qos_words.QosWords.{QosWords}
use Rattle.assoc_reader.specs.declared.refusal.AssocKind.{AssocKind}
use Rattle.assoc_reader.specs.declared.refusal.AssocKind.TheVariants.{NotAscii, BadLine, UnknownParent}
use Rattle.assoc_reader.proofs.ListLemmas.{list_any-push}
use Rattle.assoc_reader.proofs.QosLemmas.{names-push}
use Rattle.assoc_reader.proofs.SaidLemmas.{said-known}
use Rattle.assoc_reader.proofs.StepLemmas.{ok-then, ok-any, ok-weaker}

-- `normal` is known beside the names that the lines give
pub all-known : (known next : List ℕ → Bool) (lines : List (List ℕ))
    → ((name : List ℕ) → next name ≡ cond (bytes_eq (codes "normal") name) true (known name))
    → ((name : List ℕ) → (known name || false) ≡ list_any (names_qos name) lines)
    → (name : List ℕ) → next name ≡ may_name lines name
unfolding may_name
all-known known next lines step all name = step name ∙ by_tests (bytes_eq (codes "normal") name) (known name) (list_any (names_qos name) lines) (all name) where
  by_tests : (normal there given : Bool) → (there || false) ≡ given → cond normal true there ≡ (normal || given)
  by_tests true there given e = refl
  by_tests false true given e = e
  by_tests false false given e = e

pub same_said : (known : List ℕ → Bool) (lines : List (List ℕ)) → ((name : List ℕ) → known name ≡ may_name lines name) → after_lines known nothing_said 1 lines ≡ lines_say lines
unfolding lines_say
same_said known lines same = ap (λ (is_known : List ℕ → Bool). after_lines is_known nothing_said 1 lines) (λ i name. same name i)

-- each list has known names alone
abbrev AreKnown : (List ℕ → Bool) → List QosConf → Type 0
AreKnown is_known qos = All (λ (one : QosConf). list_all is_known one.preempt ≡ true) qos

-- What lines do to the qualities of service that are read: those that there are stay, those of the lines come, and the
-- lists have known names alone.
record Grows (is_known : List ℕ → Bool) (named : List ℕ → Bool) (before after : List QosConf) : Type 0 where
  known : AreKnown is_known before → AreKnown is_known after
  kept : (name : List ℕ) → has name (qos_names before) ≡ true → has name (qos_names after) ≡ true
  given : (name : List ℕ) → named name ≡ true → has name (qos_names after) ≡ true

same : (is_known named : List ℕ → Bool) (qos : List QosConf) → ((name : List ℕ) → named name ≡ false) → Grows is_known named qos qos
same is_known named qos none = record {
  known = λ h. h;
  kept = λ name h. h;
  given = λ name h. absurd (true≢false (sym h ∙ none name));
}

has-push : (wanted : List ℕ) (qos : List QosConf) (more : QosConf) → has wanted (qos_names (qos ++ more ∷ [])) ≡ (has wanted (qos_names qos) || bytes_eq wanted more.name)
has-push wanted qos more = ap (has wanted) (names-push qos more) ∙ list_any-push (bytes_eq wanted) (qos_names qos) more.name

either : (one other : Bool) → other ≡ true → (one || other) ≡ true
either true other e = refl
either false other e = e

swap-eq : (one other : List ℕ) → bytes_eq one other ≡ true → bytes_eq other one ≡ true
swap-eq one other e = (bytes_eq-Decides other one).1 (sym ((bytes_eq-Decides one other).0 e))

pushed : (is_known named : List ℕ → Bool) (qos : List QosConf) (name : List ℕ) (words : QosWords) → ((wanted : List ℕ) → named wanted ≡ bytes_eq name wanted) → list_all is_known words.preempt ≡ true
    → Grows is_known named qos (qos ++ qos_conf name words ∷ [])
unfolding qos_conf
pushed is_known named qos name words is all = record {
  known = λ h. All-push (λ (one : QosConf). list_all is_known one.preempt ≡ true) qos (qos_conf name words) h all;
  kept = λ wanted h. has-push wanted qos (qos_conf name words) ∙ ap (λ (b : Bool). b || bytes_eq wanted name) h;
  given = λ wanted h. has-push wanted qos (qos_conf name words) ∙ either (has wanted (qos_names qos)) (bytes_eq wanted name) (swap-eq name wanted (sym (is wanted) ∙ h));
}

-- after a line of one of the forms
abbrev Grown : (List ℕ → Bool) → (List ℕ → Bool) → Draft → Draft → Type 0
Grown is_known named draft next = Grows is_known named draft.qos next.qos

cluster-grows : (is_known named : List ℕ → Bool) (draft : Draft) (form : Form) → ((name : List ℕ) → named name ≡ false) → IfOk (after_cluster draft form) (Grown is_known named draft)
unfolding after_cluster
cluster-grows is_known named draft form none =
    ok-then (assoc_said false form.rest) _ (λ _. Unit {0}) (Grown is_known named draft) (ok-any (assoc_said false form.rest)) (λ _ _. same is_known named draft.qos none)

unless-is : {X : Type 0} (fault : Option AssocKind) (r : Result X AssocKind) (P : X → Type 0) → IfOk r P → IfOk (unless fault r) P
unless-is None r P h = h
unless-is (Some kind) r P h = tt

qos-grows : (is_known named : List ℕ → Bool) (draft : Draft) (form : Form) → ((wanted : List ℕ) → named wanted ≡ bytes_eq form.name wanted) → IfOk (after_qos is_known draft form) (Grown is_known named draft)
unfolding after_qos
qos-grows is_known named draft form is =
    ok-then (unless (qos_fault (qos_names draft.qos) form.name) (qos_said is_known form.rest)) _ (λ (words : QosWords). list_all is_known words.preempt ≡ true) (Grown is_known named draft)
    (unless-is (qos_fault (qos_names draft.qos) form.name) (qos_said is_known form.rest) (λ (words : QosWords). list_all is_known words.preempt ≡ true) (said-known is_known form.rest))
    (λ words all. pushed is_known named draft.qos form.name words is all)

alone-is : {X : Type 0} (rest : List ℕ) (x : X) (P : X → Type 0) → P x → IfOk (alone rest x) P
alone-is [] x P h = h
alone-is (b ∷ rest) x P h = tt

parent-grows : (is_known named : List ℕ → Bool) (draft : Draft) (form : Form) → ((name : List ℕ) → named name ≡ false) → IfOk (after_parent draft form) (Grown is_known named draft)
unfolding after_parent
parent-grows is_known named draft form none =
    ok-then (ok_or (parent_named form.name draft.tree.assocs) UnknownParent) _ (λ _. Unit {0}) (Grown is_known named draft) (ok-any (ok_or (parent_named form.name draft.tree.assocs) UnknownParent))
    (λ _ _. alone-is form.rest _ (Grown is_known named draft) (same is_known named draft.qos none))

assoc-grows : (is_known named : List ℕ → Bool) (user : Bool) (draft : Draft) (form : Form) → ((name : List ℕ) → named name ≡ false) → IfOk (after_assoc user draft form) (Grown is_known named draft)
unfolding after_assoc
assoc-grows is_known named user draft form none =
    ok-then (unless (name_fault draft.tree user form.name) (assoc_said user form.rest)) _ (λ _. Unit {0}) (Grown is_known named draft) (ok-any (unless (name_fault draft.tree user form.name) (assoc_said user form.rest)))
    (λ _ _. same is_known named draft.qos none)

kind-grows : (is_known named : List ℕ → Bool) (draft : Draft) (form : Form) (cluster : Bool) (kind : LineKind) → ((wanted : List ℕ) → named wanted ≡ is_qos_named wanted form.name kind)
    → IfOk (if cluster then behind_cluster is_known kind draft form else before_cluster kind draft form) (Grown is_known named draft)
kind-grows is_known named draft form true Cluster is = tt
kind-grows is_known named draft form true Qos is = qos-grows is_known named draft form is
kind-grows is_known named draft form true Parent is = parent-grows is_known named draft form is
kind-grows is_known named draft form true Account is = assoc-grows is_known named false draft form is
kind-grows is_known named draft form true User is = assoc-grows is_known named true draft form is
kind-grows is_known named draft form false Cluster is = cluster-grows is_known named draft form is
kind-grows is_known named draft form false Qos is = tt
kind-grows is_known named draft form false Parent is = tt
kind-grows is_known named draft form false Account is = tt
kind-grows is_known named draft form false User is = tt

form-grows : (is_known named : List ℕ → Bool) (draft : Draft) (form : Form) → ((wanted : List ℕ) → named wanted ≡ is_qos_named wanted form.name form.kind) → IfOk (after_form is_known draft form) (Grown is_known named draft)
unfolding after_form
form-grows is_known named draft form is = kind-grows is_known named draft form draft.has_cluster form.kind is

line-grows : (is_known : List ℕ → Bool) (draft : Draft) (line : List ℕ) → IfOk (after_line is_known draft line) (Grown is_known (λ name. names_qos name line) draft)
unfolding after_line names_qos
line-grows is_known draft line = by_skip (is_skipped line) refl where
  by_form : (o : Option Form) → is_skipped line ≡ false → form_in line ≡ o → IfOk (ok_or o BadLine >>= after_form is_known draft) (Grown is_known (λ name. names_qos name line) draft)
  by_form None read e = tt
  by_form (Some form) read e = form-grows is_known (λ name. names_qos name line) draft form (λ wanted. rw (read, e) refl)

  by_ascii : (t : Bool) → is_skipped line ≡ false → IfOk (if t then (ok_or (form_in line) BadLine >>= after_form is_known draft) else Err NotAscii) (Grown is_known (λ name. names_qos name line) draft)
  by_ascii true read = by_form (form_in line) read refl
  by_ascii false read = tt

  by_skip : (t : Bool) → is_skipped line ≡ t → IfOk (if t then Ok draft else (if is_ascii line then (ok_or (form_in line) BadLine >>= after_form is_known draft) else Err NotAscii)) (Grown is_known (λ name. names_qos name line) draft)
  by_skip true e = same is_known (λ name. names_qos name line) draft.qos (λ name. rw e refl)
  by_skip false e = by_ascii (is_ascii line) e

at-line-is : {X : Type 0} (number : ℕ) (r : Result X AssocKind) (P : X → Type 0) → IfOk r P → IfOk (at_line number r) P
at-line-is number (Ok x) P h = h
at-line-is number (Err kind) P h = tt

one-more : (is_known : List ℕ → Bool) (line : List ℕ) (lines : List (List ℕ)) (before middle after : List QosConf) → Grows is_known (λ name. names_qos name line) before middle
    → Grows is_known (λ name. list_any (names_qos name) lines) middle after → Grows is_known (λ name. list_any (names_qos name) (line ∷ lines)) before after
one-more is_known line lines before middle after here more = record {
  known = λ h. more.known (here.known h);
  kept = λ name h. more.kept name (here.kept name h);
  given = λ name h. by_line name (names_qos name line) refl h;
} where
  by_line : (name : List ℕ) (t : Bool) → names_qos name line ≡ t → (t || list_any (names_qos name) lines) ≡ true → has name (qos_names after) ≡ true
  by_line name true e h = more.kept name (here.given name e)
  by_line name false e h = more.given name h

lines-grow : (is_known : List ℕ → Bool) (lines : List (List ℕ)) (number : ℕ) (draft : Draft) → IfOk (after_lines is_known draft number lines) (Grown is_known (λ name. list_any (names_qos name) lines) draft)
lines-grow is_known [] number draft = same is_known (λ name. false) draft.qos (λ name. refl)
lines-grow is_known (line ∷ lines) number draft =
    ok-then (at_line number (after_line is_known draft line)) _ (Grown is_known (λ name. names_qos name line) draft) (Grown is_known (λ name. list_any (names_qos name) (line ∷ lines)) draft)
    (at-line-is number (after_line is_known draft line) (Grown is_known (λ name. names_qos name line) draft) (line-grows is_known draft line))
    (λ next here. ok-weaker (after_lines is_known next (number + 1) lines) (Grown is_known (λ name. list_any (names_qos name) lines) next) (Grown is_known (λ name. list_any (names_qos name) (line ∷ lines)) draft)
    (λ last more. one-more is_known line lines draft.qos next.qos last.qos here more) (lines-grow is_known lines (number + 1) next))

-- with `normal` among them
normal-has : (qos : List QosConf) (name : List ℕ) → (bytes_eq (codes "normal") name || has name (qos_names qos)) ≡ true → has name (qos_names (with_normal qos)) ≡ true
unfolding with_normal qos_conf
normal-has qos name h = by_normal (has (codes "normal") (qos_names qos)) refl where
  given : (t : Bool) → bytes_eq (codes "normal") name ≡ t → has (codes "normal") (qos_names qos) ≡ true → (t || has name (qos_names qos)) ≡ true → has name (qos_names qos) ≡ true
  given true e is h = subst (λ one. has one (qos_names qos) ≡ true) ((bytes_eq-Decides (codes "normal") name).0 e) is
  given false e is h = h

  added : (t : Bool) → bytes_eq (codes "normal") name ≡ t → (t || has name (qos_names qos)) ≡ true → (has name (qos_names qos) || bytes_eq name (codes "normal")) ≡ true
  added true e h = either (has name (qos_names qos)) (bytes_eq name (codes "normal")) (swap-eq (codes "normal") name e)
  added false e h = ap (λ (b : Bool). b || bytes_eq name (codes "normal")) h

  by_normal : (t : Bool) → has (codes "normal") (qos_names qos) ≡ t → has name (qos_names (if t then qos else qos ++ qos_conf (codes "normal") no_qos_words ∷ [])) ≡ true
  by_normal true e = given (bytes_eq (codes "normal") name) refl e h
  by_normal false e = has-push name qos (qos_conf (codes "normal") no_qos_words) ∙ added (bytes_eq (codes "normal") name) refl h

has-contains : (names : List (List ℕ)) (name : List ℕ) → has name names ≡ true → Contains names name
has-contains names name h =
    let any = Any-from_list_any (bytes_eq name) names h in
    subst (Contains names) (sym ((bytes_eq-Decides name any.1).0 any.4)) (any.0, any.2, any.3)

normal-among : (names : List (List ℕ)) (qos : List QosConf) → PreemptAmong names qos → PreemptAmong names (with_normal qos)
unfolding with_normal qos_conf no_qos_words
normal-among names qos among = by_normal (has (codes "normal") (qos_names qos)) where
  by_normal : (t : Bool) → PreemptAmong names (if t then qos else qos ++ qos_conf (codes "normal") no_qos_words ∷ [])
  by_normal true = among
  by_normal false = All-push (λ (one : QosConf). All (Contains names) one.preempt) qos (qos_conf (codes "normal") no_qos_words) among (All-nil (Contains names))

pub said_among : (lines : List (List ℕ)) (draft : Draft) → lines_say lines ≡ Ok draft → PreemptAmong (qos_names (with_normal draft.qos)) (with_normal draft.qos)
unfolding lines_say nothing_said may_name
said_among lines draft e = normal-among (qos_names (with_normal draft.qos)) draft.qos (All-weaker (λ (one : QosConf). list_all (may_name lines) one.preempt ≡ true) (λ (one : QosConf). All (Contains (qos_names (with_normal draft.qos))) one.preempt) among draft.qos known) where
  grown : Grown (may_name lines) (λ name. list_any (names_qos name) lines) nothing_said draft
  grown = rw e at (lines-grow (may_name lines) lines 1 nothing_said)

  known : AreKnown (may_name lines) draft.qos
  known = grown.known (All-nil (λ (one : QosConf). list_all (may_name lines) one.preempt ≡ true))

  there : (name : List ℕ) (t : Bool) → (t || list_any (names_qos name) lines) ≡ true → (t || has name (qos_names draft.qos)) ≡ true
  there name true h = refl
  there name false h = grown.given name h

  among : (one : QosConf) → list_all (may_name lines) one.preempt ≡ true → All (Contains (qos_names (with_normal draft.qos))) one.preempt
  among one all =
      All-weaker (λ name. may_name lines name ≡ true) (Contains (qos_names (with_normal draft.qos)))
      (λ name h. has-contains (qos_names (with_normal draft.qos)) name (normal-has draft.qos name (there name (bytes_eq (codes "normal") name) h)))
      one.preempt (AllPass-from_list_all (may_name lines) one.preempt all)
