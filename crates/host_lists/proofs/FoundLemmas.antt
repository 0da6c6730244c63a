-- Names that were found, and runs of numbers whose names are among them.
use Rattle.std.proofs.Common.{ℕ, zero, suc, ◌≡◌, ◌+◌, ◌-◌, ◌<◌, ◌≤◌, ◌||◌, ◌&&◌, ◌==◌, Bool, true, false, cond, Option, Some, None, unwrap_or, List, [], ◌∷◌, ◌++◌, map, fold, length, take, sym, refl, ap, ◌∙◌, subst, arith, eqb-true}
use Rattle.std.specs.Str.{bytes_eq}
use Rattle.std.specs.HashMap.{get}
use Rattle.std.specs.List.{range_with_len}
use Rattle.std.proofs.Math.Seq.{take-append_seam}
use Rattle.std.proofs.lemmas.List.Sums.{fold-append}
use Rattle.std.proofs.lemmas.Bool.Decides.{nat_tests}
use Rattle.host_lists.specs.Hosts.{padded, has, with_name}
use Rattle.host_lists.specs.Runs.{in_run}
use Rattle.host_lists.specs.Found.{name_in, names_of, IsFound, AreFound, is_same_row}
use Rattle.host_lists.specs.declared.runs.Run.{Run}
use Rattle.host_lists.specs.declared.found.Row.{Row}
use Rattle.host_lists.specs.declared.found.Found.{Found}
use Rattle.host_lists.proofs.NameSets.{has-fold-with_name}
use Rattle.host_lists.proofs.Both.{both-left, both-right}
use Rattle.host_lists.proofs.HostLemmas.{numbers_more, numbers_up_to, bytes_eq-refl, bytes_eq-same}

or-left : (a b : Bool) → a ≡ true → (a || b) ≡ true
or-left a b h = rw h refl

or-right : (a b : Bool) → b ≡ true → (a || b) ≡ true
or-right true b h = refl
or-right false b h = h

-- what is among names stays there
pub has-more : (q : List ℕ) (names more : List (List ℕ)) → has q names ≡ true → has q (fold with_name names more) ≡ true
has-more q names more h = has-fold-with_name q more names ∙ or-left (has q names) (has q more) h

pub found-more : (row : Row) (run : Run) (names more : List (List ℕ)) → IsFound row run names → IsFound row run (fold with_name names more)
found-more row run names more h =
    record { among = λ number k. has-more (name_in row number) names more (h.among number k) }

-- names that are all there
with_known : (names : List (List ℕ)) (name : List ℕ) → has name names ≡ true → with_name names name ≡ names
with_known names name h = rw h refl

fold-known : (f : ℕ → List ℕ) (names : List (List ℕ)) (len first : ℕ) → ((n : ℕ) → first ≤ n → n < first + len → has (f n) names ≡ true) → fold with_name names (map f (range_with_len first len)) ≡ names
fold-known f names zero first h = refl
fold-known f names (suc len) first h =
    ap (λ (now : List (List ℕ)). fold with_name now (map f (range_with_len (first + 1) len))) (with_known names (f first) (h first (omega arith) (omega arith)))
    ∙ fold-known f names len (first + 1) (λ n a b. h n (omega arith) (omega arith))

is_in : (run : Run) (number : ℕ) → run.first ≤ number → number < run.end → in_run run number ≡ true
is_in run number h k = grind (arith, nat_tests)

pub names-known : (row : Row) (known run : Run) (names : List (List ℕ)) → IsFound row known names → ((number : ℕ) → in_run run number ≡ true → in_run known number ≡ true) → fold with_name names (names_of row run) ≡ names
names-known row known run names h covers =
    fold-known (name_in row) names (run.end - run.first) run.first (λ n a b. h.among n (covers n (is_in run n a (omega arith))))

-- names that are there now
has-range : (f : ℕ → List ℕ) (len first n : ℕ) → first ≤ n → n < first + len → has (f n) (map f (range_with_len first len)) ≡ true
has-range f zero first n h k = absurd (omega arith)
has-range f (suc len) first n h k =
    by_first (first == n) refl (λ more. has-range f len (first + 1) n more (omega arith))
  where
    apart : (a b : ℕ) → a ≤ b → (a == b) ≡ false → a + 1 ≤ b
    apart a b h e = grind (arith, nat_tests)

    by_first : (t : Bool) → (first == n) ≡ t → (first + 1 ≤ n → has (f n) (map f (range_with_len (first + 1) len)) ≡ true) → (bytes_eq (f n) (f first) || has (f n) (map f (range_with_len (first + 1) len))) ≡ true
    by_first true e more =
        or-left (bytes_eq (f n) (f first)) (has (f n) (map f (range_with_len (first + 1) len))) (ap (λ (m : ℕ). bytes_eq (f n) (f m)) (eqb-true first n e) ∙ bytes_eq-refl (f n))
    by_first false e more =
        or-right (bytes_eq (f n) (f first)) (has (f n) (map f (range_with_len (first + 1) len))) (more (apart first n h e))

in_first : (run : Run) (number : ℕ) → in_run run number ≡ true → run.first ≤ number
in_first run number h = grind (arith, nat_tests)

in_end : (run : Run) (number : ℕ) → in_run run number ≡ true → number < run.end
in_end run number h = grind (arith, nat_tests)

pub found-new : (row : Row) (run : Run) (names : List (List ℕ)) → IsFound row run (fold with_name names (names_of row run))
found-new row run names = record {
  among = λ number k.
      has-fold-with_name (name_in row number) (names_of row run) names
      ∙ or-right (has (name_in row number) names) (has (name_in row number) (names_of row run)) (has-range (name_in row) (run.end - run.first) run.first number (in_first run number k) (omega (arith, in_first run number k, in_end run number k)));
}

-- both, as one run
pub found-joined : (row : Row) (known run joined : Run) (names : List (List ℕ)) → IsFound row known names → IsFound row run names → ((number : ℕ) → in_run joined number ≡ true → (in_run known number || in_run run number) ≡ true) → IsFound row joined names
found-joined row known run joined names h k both = record {
  among = λ number i. by_known (in_run known number) number refl (both number i);
} where
  by_known : (t : Bool) (number : ℕ) → in_run known number ≡ t → (in_run known number || in_run run number) ≡ true → has (name_in row number) names ≡ true
  by_known true number e g = h.among number e
  by_known false number e g = k.among number (sym (ap (λ (t : Bool). t || in_run run number) e) ∙ g)

-- a row that is named by the same prefix and width
pub found-same : (row other : Row) (run : Run) (names : List (List ℕ)) → row.prefix.now ≡ other.prefix.now → row.width ≡ other.width → IsFound row run names → IsFound other run names
found-same row other run names e g h = record {
  among = λ number k.
      ap (λ (prefix : List ℕ). has (prefix ++ padded other.width number) names) (sym e)
      ∙ (ap (λ (width : ℕ). has (row.prefix.now ++ padded width number) names) (sym g) ∙ h.among number k);
}

-- a number more of a range
pub range-known : (f : ℕ → List ℕ) (names now : List (List ℕ)) (first number : ℕ) → first ≤ number → now ≡ fold with_name names (map f (range_with_len first (number - first))) → has (f number) names ≡ true → now ≡ fold with_name names (map f (range_with_len first (number + 1 - first)))
range-known f names now first number h e k =
    let before : List (List ℕ) = map f (range_with_len first (number - first)) in
    let known : has (f number) (fold with_name names before) ≡ true = has-more (f number) names before k in
    e ∙ (sym (with_known (fold with_name names before) (f number) known) ∙ (sym (fold-append with_name names before (f number ∷ [])) ∙ ap (fold with_name names) (sym (numbers_more f first number h))))

pub range-more : (f : ℕ → List ℕ) (names now new : List (List ℕ)) (first number : ℕ) → first ≤ number → now ≡ fold with_name names (map f (range_with_len first (number - first))) → new ≡ with_name now (f number) → new ≡ fold with_name names (map f (range_with_len first (number + 1 - first)))
range-more f names now new first number h e k =
    let before : List (List ℕ) = map f (range_with_len first (number - first)) in
    k ∙ (ap (λ (x : List (List ℕ)). with_name x (f number)) e ∙ (sym (fold-append with_name names before (f number ∷ [])) ∙ ap (fold with_name names) (sym (numbers_more f first number h))))

pub found-none : (row : Row) (names : List (List ℕ)) → IsFound row (record { first = 0; end = 0 }) names
found-none row names = record { among = λ number k. absurd (omega (arith, in_end (record { first = 0; end = 0 }) number k)) }

-- what a row is known to have
pub found-known : (found : Found) (row : Row) (known : Run) → AreFound found → known ≡ unwrap_or (get is_same_row found.known row) (record { first = 0; end = 0 }) → IsFound row known found.names.keys
found-known found row known h e =
    subst (λ (run : Run). IsFound row run found.names.keys) (sym e) (by_known (get is_same_row found.known row) refl)
  where
    by_known : (o : Option Run) → get is_same_row found.known row ≡ o → IsFound row (unwrap_or o (record { first = 0; end = 0 })) found.names.keys
    by_known None e = found-none row found.names.keys
    by_known (Some run) e = h.rows row run e

-- a row of which more is known, and names behind the others
pub found-inserted : (old new : Found) (row : Row) (run : Run) (more : List (List ℕ)) → AreFound old → new.names.keys ≡ fold with_name old.names.keys more → ((other : Row) → get is_same_row new.known other ≡ cond (is_same_row row other) (Some run) (get is_same_row old.known other)) → IsFound row run new.names.keys → AreFound new
found-inserted old new row run more h e updates now = record {
  rows = λ other kept is. by_row other kept (is_same_row row other) refl (sym (updates other) ∙ is);
} where
  by_row : (other : Row) (kept : Run) (t : Bool) → is_same_row row other ≡ t → cond t (Some run) (get is_same_row old.known other) ≡ Some kept → IsFound other kept new.names.keys
  by_row other kept true s is =
      let run_is : run ≡ kept = cc in
      let prefix : row.prefix.now ≡ other.prefix.now = bytes_eq-same row.prefix.now other.prefix.now (both-left (bytes_eq row.prefix.now other.prefix.now) (row.width == other.width && row.place == other.place) s) in
      let width : row.width ≡ other.width = eqb-true row.width other.width (both-left (row.width == other.width) (row.place == other.place) (both-right (bytes_eq row.prefix.now other.prefix.now) (row.width == other.width && row.place == other.place) s)) in
      subst (λ (r : Run). IsFound other r new.names.keys) run_is (found-same row other run new.names.keys prefix width now)
  by_row other kept false s is =
      subst (λ (names : List (List ℕ)). IsFound other kept names) (sym e) (found-more other kept old.names.keys more (h.rows other kept is))

-- a name behind the others
pub found-added : (old new : Found) (name : List ℕ) → AreFound old → new.known ≡ old.known → new.names.keys ≡ with_name old.names.keys name → AreFound new
found-added old new name h k e = record {
  rows = λ row run is. subst (IsFound row run) (sym e) (found-more row run old.names.keys (name ∷ []) (h.rows row run (ap (λ (known : _). get is_same_row known row) (sym k) ∙ is)));
}

-- a text that went on with a number
pub put-behind : (prefix old new more : List ℕ) → take (length prefix) old ≡ prefix → new ≡ take (length prefix) old ++ more → new ≡ prefix ++ more
put-behind prefix old new more h e = e ∙ ap (λ (x : List ℕ). x ++ more) h

pub prefix-put : (prefix new more : List ℕ) → new ≡ prefix ++ more → take (length prefix) new ≡ prefix
prefix-put prefix new more e = ap (take (length prefix)) e ∙ take-append_seam prefix more

-- a piece more of a range
pub range-piece : (f : ℕ → List ℕ) (names now new : List (List ℕ)) (first number end : ℕ) → first ≤ number → number ≤ end → now ≡ fold with_name names (map f (range_with_len first (number - first))) → new ≡ fold with_name now (map f (range_with_len number (end - number))) → new ≡ fold with_name names (map f (range_with_len first (end - first)))
range-piece f names now new first number end h k e g =
    let before : List (List ℕ) = map f (range_with_len first (number - first)) in
    let piece : List (List ℕ) = map f (range_with_len number (end - number)) in
    g ∙ (ap (λ (x : List (List ℕ)). fold with_name x piece) e ∙ (sym (fold-append with_name names before piece) ∙ ap (fold with_name names) (sym (numbers_up_to f first number end h k))))
