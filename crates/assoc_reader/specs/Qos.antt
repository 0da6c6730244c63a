-- The qualities of service that the lines of a file give.
use Rattle.std.specs.Prelude.{◌≢◌, ℕ, ◌+◌, ◌≤◌, Bool, false, nat_lt, ◌||◌, if◌then◌else◌, List, [], ◌∷◌, ◌++◌, length, codes, bytes_eq, AllPairs, Option, Some, None}
use Rattle.std.specs.List.{list_any}
use Rattle.host_lists.specs.Hosts.{has}
use Rattle.plain_data.specs.Assocs.{qos_names}
use Rattle.plain_data.specs.declared.assoc.QosConf.{QosConf}
use Rattle.assoc_reader.specs.Lines.{Form, is_skipped, form_in}
use Rattle.assoc_reader.specs.Words.{no_qos_words}
use Rattle.assoc_reader.specs.declared.keys.LineKind.{LineKind}
use Rattle.assoc_reader.specs.declared.keys.LineKind.TheVariants.{Cluster, Qos, Parent, Account, User}
use Rattle.assoc_reader.specs.declared.qos_words.QosWords.{QosWords}
use Rattle.assoc_reader.specs.declared.refusal.AssocKind.{AssocKind}
use Rattle.assoc_reader.specs.declared.refusal.AssocKind.TheVariants.{TwiceNamed, OverLimit}

-- how many there are; `normal` counts whether or not a line gives it
unfoldable pub counted : List (List ℕ) → ℕ
counted names = if has (codes "normal") names then length names else length names + 1

-- what is wrong with the name of one more
unfoldable pub qos_fault : List (List ℕ) → List ℕ → Option AssocKind
qos_fault names name =
    if has name names then Some TwiceNamed
    else (if nat_lt 64 (counted (names ++ name ∷ [])) then Some OverLimit else None)

-- a quality of service by what its line says
unfoldable pub qos_conf : List ℕ → QosWords → QosConf
qos_conf name words =
    record { name = name; priority = words.priority; limits = words.limits; preempt = words.preempt }

-- where no line gives `normal`, it stands last
unfoldable pub with_normal : List QosConf → List QosConf
with_normal qos =
    if has (codes "normal") (qos_names qos) then qos
    else qos ++ qos_conf (codes "normal") no_qos_words ∷ []

-- a line of this kind gives a quality of service of the first name, where its own is the second
abbrev pub is_qos_named : List ℕ → List ℕ → LineKind → Bool
is_qos_named wanted name Cluster = false
is_qos_named wanted name Qos = bytes_eq name wanted
is_qos_named wanted name Parent = false
is_qos_named wanted name Account = false
is_qos_named wanted name User = false

abbrev pub is_form_of_qos : List ℕ → Option Form → Bool
is_form_of_qos wanted None = false
is_form_of_qos wanted (Some form) = is_qos_named wanted form.name form.kind

-- a line has the form of one that gives a quality of service of this name, whatever else is wrong with it
unfoldable pub names_qos : List ℕ → List ℕ → Bool
names_qos wanted line = if is_skipped line then false else is_form_of_qos wanted (form_in line)

-- the qualities of service that a list may name: `normal`, and those that the lines of the file give
unfoldable pub may_name : List (List ℕ) → List ℕ → Bool
may_name lines wanted = bytes_eq (codes "normal") wanted || list_any (names_qos wanted) lines

-- What is true of them as far as a file is read.
pub record IsQosList (qos : List QosConf) : Type 0 where
  pub few : counted (qos_names qos) ≤ 64
  pub once : AllPairs (λ (one other : QosConf). one.name ≢ other.name) qos
