-- One more quality of service behind the others, whose name has no fault.
use Rattle.std.proofs.Common.{ℕ, ◌≡◌, ◌≢◌, ◌+◌, ◌<◌, ◌≤◌, Bool, true, false, nat_lt, if◌then◌else◌, List, [], ◌∷◌, ◌++◌, length, get_or, codes, bytes_eq, Any, AllPairs, Some, None, refl, sym, ◌∙◌, arith}
use Rattle.std.specs.List.{list_any}
use Rattle.std.proofs.lemmas.Bool.Decides.{nat_tests}
use Rattle.std.proofs.lemmas.List.{length_push, length-map, map-append, get_or_push}
use Rattle.std.proofs.lemmas.List.Folds.{Any-from_list_any}
use Rattle.std.proofs.lemmas.List.Quantifiers.{all_pairs_push}
use Rattle.std.proofs.lemmas.Slice.Eq.{bytes_eq-Decides}
use Rattle.host_lists.specs.Hosts.{has}
use Rattle.plain_data.specs.Assocs.{qos_names}
use Rattle.plain_data.specs.declared.assoc.QosConf.{QosConf}
use Rattle.assoc_reader.specs.Words.{no_qos_words}
use Rattle.assoc_reader.specs.declared.qos_words.QosWords.{QosWords}
use Rattle.assoc_reader.specs.declared.refusal.AssocKind.TheVariants.{TwiceNamed, OverLimit}
use Rattle.assoc_reader.specs.Qos.{counted, qos_fault, qos_conf, with_normal, IsQosList}
use Rattle.assoc_reader.proofs.ListLemmas.{fails-at, list_any-of}

-- whether one of the names is this one, told by the qualities of service
pub has-qos : (name : List ℕ) (qos : List QosConf) → has name (qos_names qos) ≡ list_any (λ (one : QosConf). bytes_eq name one.name) qos
has-qos name qos = list_any-of (bytes_eq name) (λ (one : QosConf). one.name) qos

no-fault : (named over : Bool) → (if named then Some TwiceNamed else (if over then Some OverLimit else None)) ≡ None → (named ≡ false) × (over ≡ false)
no-fault true over e = cc
no-fault false true e = cc
no-fault false false e = (refl, refl)

-- a name that isn't there differs from all that are
differs : (name : List ℕ) (qos : List QosConf) (k : ℕ) (d : QosConf) → has name (qos_names qos) ≡ false → k < length qos → (get_or qos k d).name ≢ name
differs name qos k d none within same =
    let fails : bytes_eq name (get_or qos k d).name ≡ false = fails-at (λ (one : QosConf). bytes_eq name one.name) qos k d (sym (has-qos name qos) ∙ none) within in
    let is : bytes_eq name (get_or qos k d).name ≡ true = (bytes_eq-Decides name (get_or qos k d).name).1 (sym same) in
    cc

once-push : (qos : List QosConf) (more : QosConf) → has more.name (qos_names qos) ≡ false → AllPairs (λ (one other : QosConf). one.name ≢ other.name) qos → AllPairs (λ (one other : QosConf). one.name ≢ other.name) (qos ++ more ∷ [])
once-push qos more none once =
    all_pairs_push (λ (one other : QosConf). one.name ≢ other.name) qos more once (λ k d within. differs more.name qos k d none within)

pub names-push : (qos : List QosConf) (more : QosConf) → qos_names (qos ++ more ∷ []) ≡ qos_names qos ++ more.name ∷ []
names-push qos more = map-append (λ (one : QosConf). one.name) qos (more ∷ [])

pub none-yet : IsQosList []
unfolding counted
none-yet = record {
  few = omega arith;
  once = λ i j d before within. absurd (omega arith);
}

pub list-push : (qos : List QosConf) (name : List ℕ) (words : QosWords) → IsQosList qos → qos_fault (qos_names qos) name ≡ None → IsQosList (qos ++ qos_conf name words ∷ [])
unfolding qos_fault qos_conf
list-push qos name words is e =
    let new = no-fault (has name (qos_names qos)) (nat_lt 64 (counted (qos_names qos ++ name ∷ []))) e in
    record {
      few = rw (names-push qos (qos_conf name words)) (fits (counted (qos_names qos ++ name ∷ [])) new.1);
      once = once-push qos (qos_conf name words) new.0 is.once;
    } where
      fits : (n : ℕ) → nat_lt 64 n ≡ false → n ≤ 64
      fits n e = grind (arith, nat_tests)

-- with `normal` among them, they are as a file's are
pub whole : (qos : List QosConf) → IsQosList qos → (length (with_normal qos) ≤ 64) × (AllPairs (λ (one other : QosConf). one.name ≢ other.name) (with_normal qos)) × (Any (λ (one : QosConf). one.name ≡ codes "normal") (with_normal qos))
unfolding with_normal counted qos_conf
whole qos is = by_normal (has (codes "normal") (qos_names qos)) refl is.few where
  size : length (qos_names qos) ≡ length qos
  size = length-map qos (λ (one : QosConf). one.name)

  normal : QosConf
  normal = qos_conf (codes "normal") no_qos_words

  by_normal : (t : Bool) → has (codes "normal") (qos_names qos) ≡ t → (if t then length (qos_names qos) else length (qos_names qos) + 1) ≤ 64
      → (length (if t then qos else qos ++ qos_conf (codes "normal") no_qos_words ∷ []) ≤ 64) × (AllPairs (λ (one other : QosConf). one.name ≢ other.name) (if t then qos else qos ++ qos_conf (codes "normal") no_qos_words ∷ [])) × (Any (λ (one : QosConf). one.name ≡ codes "normal") (if t then qos else qos ++ qos_conf (codes "normal") no_qos_words ∷ []))
  by_normal true e few =
      let any = Any-from_list_any (λ (one : QosConf). bytes_eq (codes "normal") one.name) qos (sym (has-qos (codes "normal") qos) ∙ e) in
      (omega (arith, size, few), is.once, (any.0, any.1, any.2, any.3, sym ((bytes_eq-Decides (codes "normal") any.1.name).0 any.4)))
  by_normal false e few = (
    rw (length_push qos (qos_conf (codes "normal") no_qos_words)) (omega (arith, size, few)),
    once-push qos (qos_conf (codes "normal") no_qos_words) e is.once,
    (length qos, qos_conf (codes "normal") no_qos_words, rw (length_push qos (qos_conf (codes "normal") no_qos_words)) (omega arith), get_or_push qos (qos_conf (codes "normal") no_qos_words) _ (length qos) refl, refl),
  )
