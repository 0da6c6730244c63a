-- What a file says: its lines one after the other.
use Rattle.std.specs.Prelude.{ℕ, ◌+◌, nat_lt, Bool, true, false, if◌then◌else◌, List, [], ◌∷◌, ◌++◌, length, Option, Some, None, Result, Ok, Err, ok_or}
use Rattle.std.specs.Str.{byte}
use Rattle.plain_data.specs.Assocs.{AssocView, qos_names}
use Rattle.small_texts.specs.Fields.{fields}
use Rattle.text_values.specs.Steps.{◌>>=◌}
use Rattle.assoc_reader.specs.Words.{assoc_said, qos_said}
use Rattle.assoc_reader.specs.declared.keys.LineKind.{LineKind}
use Rattle.assoc_reader.specs.declared.keys.LineKind.TheVariants.{Cluster, Qos, Parent, Account, User}
use Rattle.assoc_reader.specs.declared.refusal.AssocKind.{AssocKind}
use Rattle.assoc_reader.specs.declared.refusal.AssocKind.TheVariants.{NotAscii, BadLine, UnknownParent, OverLimit, NoCluster}
use Rattle.assoc_reader.specs.declared.refusal.AssocRefusal.{AssocRefusal}
use Rattle.assoc_reader.specs.declared.refusal.AssocRefusal.TheVariants.{At}
use Rattle.assoc_reader.specs.Lines.{Form, is_skipped, is_ascii, form_in}
use Rattle.assoc_reader.specs.Qos.{qos_fault, qos_conf, with_normal, may_name}
use Rattle.assoc_reader.specs.Tree.{parent_named, name_fault, with_assoc, no_assocs}
use Rattle.assoc_reader.specs.declared.draft.Draft.{Draft}

-- a fault of the name comes before what follows the name
abbrev pub unless : {X : Type 0} → Option AssocKind → Result X AssocKind → Result X AssocKind
unless None rest = rest
unless (Some kind) rest = Err kind

-- nothing may follow the name
abbrev pub alone : {X : Type 0} → List ℕ → X → Result X AssocKind
alone [] x = Ok x
alone (b ∷ rest) x = Err BadLine

-- the options of the cluster are those of an account, and have no effect
unfoldable pub after_cluster : Draft → Form → Result Draft AssocKind
after_cluster draft form = assoc_said false form.rest >>= λ words. Ok (record draft { has_cluster = true })

-- a quality of service, behind the others, where it is told which of them its list may name
unfoldable pub after_qos : (List ℕ → Bool) → Draft → Form → Result Draft AssocKind
after_qos is_known draft form =
    unless (qos_fault (qos_names draft.qos) form.name) (qos_said is_known form.rest)
    >>= λ words. Ok (record draft { qos = draft.qos ++ qos_conf form.name words ∷ [] })

-- the account of the lines that follow
unfoldable pub after_parent : Draft → Form → Result Draft AssocKind
after_parent draft form =
    ok_or (parent_named form.name draft.tree.assocs) UnknownParent
    >>= λ parent. alone form.rest (record draft { tree = record draft.tree { parent = parent } })

-- a user or an account, under the account at hand
unfoldable pub after_assoc : Bool → Draft → Form → Result Draft AssocKind
after_assoc user draft form =
    unless (name_fault draft.tree user form.name) (assoc_said user form.rest)
    >>= λ words. Ok (record draft { tree = with_assoc draft.tree user form.name words })

-- the line of the cluster is the first one
abbrev pub before_cluster : LineKind → Draft → Form → Result Draft AssocKind
before_cluster Cluster draft form = after_cluster draft form
before_cluster Qos draft form = Err NoCluster
before_cluster Parent draft form = Err NoCluster
before_cluster Account draft form = Err NoCluster
before_cluster User draft form = Err NoCluster

-- and there is only one of it
abbrev pub behind_cluster : (List ℕ → Bool) → LineKind → Draft → Form → Result Draft AssocKind
behind_cluster is_known Cluster draft form = Err BadLine
behind_cluster is_known Qos draft form = after_qos is_known draft form
behind_cluster is_known Parent draft form = after_parent draft form
behind_cluster is_known Account draft form = after_assoc false draft form
behind_cluster is_known User draft form = after_assoc true draft form

-- a line of one of the forms, by what it speaks of
unfoldable pub after_form : (List ℕ → Bool) → Draft → Form → Result Draft AssocKind
after_form is_known draft form =
    if draft.has_cluster then behind_cluster is_known form.kind draft form
    else before_cluster form.kind draft form

-- what the lines up to this one say; one that isn't ASCII is refused before its form is looked at
unfoldable pub after_line : (List ℕ → Bool) → Draft → List ℕ → Result Draft AssocKind
after_line is_known draft line =
    if is_skipped line then Ok draft
    else (if is_ascii line then (ok_or (form_in line) BadLine >>= after_form is_known draft) else Err NotAscii)

-- a refusal with the number of its line
abbrev pub at_line : {X : Type 0} → ℕ → Result X AssocKind → Result X AssocRefusal
at_line number (Ok x) = Ok x
at_line number (Err kind) = Err (At number kind)

-- what lines from a number on say, up to the first bad one
abbrev pub after_lines : (List ℕ → Bool) → Draft → ℕ → List (List ℕ) → Result Draft AssocRefusal
after_lines is_known draft number [] = Ok draft
after_lines is_known draft number (line ∷ lines) =
    at_line number (after_line is_known draft line) >>= λ next. after_lines is_known next (number + 1) lines

-- before the first line
unfoldable pub nothing_said : Draft
nothing_said = record { has_cluster = false; tree = no_assocs; qos = [] }

-- a file without the line of the cluster is none
unfoldable pub whole_file : Draft → Result AssocView AssocRefusal
whole_file draft =
    if draft.has_cluster then Ok (record { assocs = draft.tree.assocs; qos = with_normal draft.qos })
    else Err (At 0 NoCluster)

-- what all lines of a file say, of which a list may also name one that comes later
unfoldable pub lines_say : List (List ℕ) → Result Draft AssocRefusal
lines_say lines = after_lines (may_name lines) nothing_said 1 lines

-- what the bytes of a file say, or its first fault
unfoldable pub assocs_in : List ℕ → Result AssocView AssocRefusal
assocs_in file =
    if nat_lt 4_194_304 (length file) then Err (At 0 OverLimit)
    else (lines_say (fields (byte "\n") file) >>= whole_file)
