-- What a step tells of a seat's view, as its pass.
use Rattle.std.proofs.Common.{◌≡◌, ℕ, ◌^◌, ◌<◌, Bool, true, false, List, [], ◌∷◌, ◌++◌, length, Option, IfSome, sym, refl, ap, ◌∙◌, subst, arith, append-nil, append_assoc, le-ltb}
use Rattle.std.specs.Prelude.{All}
use Rattle.std.proofs.lemmas.List.Elements.{All-cons, All-head, All-tail}
use Rattle.atomic_table.specs.Seated.{TableId}
use Rattle.turn_lock.specs.declared.view.View.{View}
use Rattle.turn_lock.specs.declared.view.Claim.{Claim}
use Rattle.turn_lock.specs.declared.view.Found.{Found}
use Rattle.turn_lock.specs.declared.view.Kind.TheVariants.{Look, TakeWon}
use Rattle.turn_lock.specs.Views.{StartsWith, Differ, IsSettled, bearing, found_word}
use Rattle.turn_lock.specs.Steps.{Seated, Looked, TookTurn, joined, unnumbered, longer}
use Rattle.turn_lock.specs.Passes.{PassView, SeesMore, HasTurn, Meets, IsKnown, IsSeated, pass_of, own_entries, other_claims, finds}
use Rattle.turn_lock.proofs.Histories.{starts_self, starts_further}

own_first : {E : Type 0} (claim : Claim E) (claims xs ys : List (Claim E)) → xs ≡ claim ∷ claims → own_entries (xs ++ ys) ≡ own_entries xs
own_first {E = E} claim claims xs ys is = subst (λ (zs : List (Claim E)). own_entries (zs ++ ys) ≡ own_entries zs) (sym is) refl

others_first : {E : Type 0} (claim : Claim E) (claims xs ys : List (Claim E)) → xs ≡ claim ∷ claims → other_claims (xs ++ ys) ≡ other_claims xs ++ ys
others_first {E = E} claim claims xs ys is = subst (λ (zs : List (Claim E)). other_claims (zs ++ ys) ≡ other_claims zs ++ ys) (sym is) refl

claims_apart : {E : Type 0} (number : ℕ) (entries : List E) (claims xs : List (Claim E)) → xs ≡ record { number = number; entries = entries } ∷ claims
    → xs ≡ record { number = number; entries = own_entries xs } ∷ other_claims xs
claims_apart {E = E} number entries claims xs is =
    subst (λ (zs : List (Claim E)). zs ≡ record { number = number; entries = own_entries zs } ∷ other_claims zs) (sym is) refl

not_longer : {E : Type 0} (xs : List E) → longer xs xs ≡ xs
not_longer xs = rw (le-ltb (length xs) (length xs) (omega arith)) refl

module _ {B E : Type 0} where
  -- the pass of a view that is another one but for what it has seen and found
  sees : (lock lock' : TableId) (number : ℕ) (before after : View B E) → lock' ≡ lock → StartsWith after.seen before.seen → StartsWith after.found before.found
      → after.first ≡ before.first → after.claims ≡ before.claims → SeesMore (pass_of lock number before) (pass_of lock' number after)
  sees lock lock' number before after at more found first claims = record {
    seen = more;
    found = found;
    same = λ i. record {
      lock = at i;
      first = first i;
      number = number;
      seen = after.seen;
      mine = own_entries (claims i);
      taken = other_claims (claims i);
      found = after.found;
    };
  }

  pub sees_looked : (bearer : E → ℕ) (lock lock' : TableId) (number word : ℕ) (before after : Seated B E) → lock' ≡ lock → Looked bearer before word after
      → SeesMore (pass_of lock number before.0) (pass_of lock' number after.0)
  sees_looked bearer lock lock' number word before after at told =
      sees lock lock' number before.0 after.0 at told.more (found_word Look word, ap (λ v. v.found) told.view) (ap (λ v. v.first) told.view) (ap (λ v. v.claims) told.view)

  pub sees_again : (a b c : PassView B E) → SeesMore a b → SeesMore b c → SeesMore a c
  sees_again a b c p q = record {
    seen = starts_further a.seen b.seen c.seen p.seen q.seen;
    found = starts_further a.found b.found c.found p.found q.found;
    same = q.same ∙ ap (λ (z : PassView B E). record z { seen = c.seen; found = c.found }) p.same;
  }

  pub sees_none : (a : PassView B E) → SeesMore a a
  sees_none a = record { seen = starts_self a.seen; found = starts_self a.found; same = refl }

  -- what was lost changes nothing but the words found
  pub sees_found : (lock lock' : TableId) (number : ℕ) (before after : Seated B E) (words : List Found) → lock' ≡ lock
      → after ≡ (record before.0 { found = before.0.found ++ words }, before.1) → SeesMore (pass_of lock number before.0) (pass_of lock' number after.0)
  sees_found lock lock' number before after words at is =
      sees lock lock' number before.0 after.0 at ([], ap (λ m. m.0.seen) is ∙ sym (append-nil before.0.seen)) (words, ap (λ m. m.0.found) is) (ap (λ m. m.0.first) is) (ap (λ m. m.0.claims) is)

  -- a view of which only the words found change is as settled
  pub settled_found : (bearer : E → ℕ) (before after : Seated B E) (words : List Found)
      → after ≡ (record before.0 { found = before.0.found ++ words }, before.1) → IsSettled bearer before.0 → IsSettled bearer after.0
  settled_found bearer before after words is settled =
      subst (λ (m : Seated B E). IsSettled bearer m.0) (sym is) record { told = settled.told; claims = settled.claims; differ = settled.differ }

  pub seated_found : (bearer : E → ℕ) (number : ℕ) (has_turn : Bool) (out : List (ℕ × Option B)) (before after : Seated B E) (words : List Found)
      → after ≡ (record before.0 { found = before.0.found ++ words }, before.1) → IsSeated bearer number has_turn out before → IsSeated bearer number has_turn out after
  seated_found bearer number has_turn out before after words is seated = record {
    slots = ap (λ m. m.1) is ∙ seated.slots;
    first = (seated.first.0, ap (λ m. m.0.first) is ∙ seated.first.1);
    turn = ap (λ m. m.0.turn) is ∙ seated.turn;
    claims = (seated.claims.0, seated.claims.1, ap (λ m. m.0.claims) is ∙ seated.claims.2);
    settled = settled_found bearer before after words is seated.settled;
  }

  pub seated_looked : (bearer : E → ℕ) (number word : ℕ) (has_turn : Bool) (out : List (ℕ × Option B)) (before after : Seated B E)
      → Looked bearer before word after → IsSeated bearer number has_turn out before → IsSeated bearer number has_turn out after
  seated_looked bearer number word has_turn out before after told seated = record {
    slots = told.slots ∙ seated.slots;
    first = (seated.first.0, ap (λ v. v.first) told.view ∙ seated.first.1);
    turn = ap (λ v. v.turn) told.view ∙ seated.turn;
    claims = (seated.claims.0, seated.claims.1, ap (λ v. v.claims) told.view ∙ seated.claims.2);
    settled = told.settled;
  }

  pub meets : (bearer : E → ℕ) (lock lock' other_lock : TableId) (number other_number word : ℕ) (before other middle after : Seated B E) (out out' : List (ℕ × Option B)) → lock' ≡ lock
      → middle ≡ (joined before.0 other.0, before.1) → Looked bearer middle word after → IsSeated bearer number false out before → IsSeated bearer other_number false out' other
      → Meets (pass_of lock number before.0) (pass_of other_lock other_number other.0) (pass_of lock' number after.0)
  meets bearer lock lock' other_lock number other_number word before other middle after out out' at is told seated seated' =
      let view : View B E = joined before.0 other.0 in
      let told_is : after.0.told ≡ before.0.seen ∷ other.0.seen ∷ (before.0.told ++ other.0.told) = ap (λ v. v.told) told.view ∙ ap (λ m. m.0.told) is in
      let all : All (λ told. StartsWith after.0.seen told) (before.0.seen ∷ other.0.seen ∷ (before.0.told ++ other.0.told)) =
      subst (All (λ told. StartsWith after.0.seen told)) told_is told.settled.told in
      let claims_are : after.0.claims ≡ before.0.claims ++ other.0.claims = ap (λ v. v.claims) told.view ∙ ap (λ m. m.0.claims) is in
      let first_is : after.0.first ≡ before.0.first = ap (λ v. v.first) told.view ∙ ap (λ m. m.0.first) is in
      let mine : own_entries after.0.claims ≡ own_entries before.0.claims =
      ap own_entries claims_are ∙ own_first record { number = number; entries = seated.claims.0 } seated.claims.1 before.0.claims other.0.claims seated.claims.2 in
      let taken : other_claims after.0.claims ≡ other_claims before.0.claims ++ record { number = other_number; entries = own_entries other.0.claims } ∷ other_claims other.0.claims =
      ap other_claims claims_are ∙ (others_first record { number = number; entries = seated.claims.0 } seated.claims.1 before.0.claims other.0.claims seated.claims.2
      ∙ ap (λ cs. other_claims before.0.claims ++ cs) (claims_apart other_number seated'.claims.0 seated'.claims.1 other.0.claims seated'.claims.2)) in record {
        seen = All-head (λ told. StartsWith after.0.seen told) before.0.seen (other.0.seen ∷ (before.0.told ++ other.0.told)) all;
        seen_too = All-head (λ told. StartsWith after.0.seen told) other.0.seen (before.0.told ++ other.0.told) (All-tail (λ told. StartsWith after.0.seen told) before.0.seen (other.0.seen ∷ (before.0.told ++ other.0.told)) all);
        same = λ i. record { lock = at i; first = first_is i; number = number; seen = after.0.seen; mine = mine i; taken = taken i; found = after.0.found };
      }

  -- a pass whose claims go on with those of another is seated still
  pub seated_met : (bearer : E → ℕ) (number word : ℕ) (before other middle after : Seated B E) (out : List (ℕ × Option B))
      → middle ≡ (joined before.0 other.0, before.1) → Looked bearer middle word after → IsSeated bearer number false out before → IsSeated bearer number false out after
  seated_met bearer number word before other middle after out is told seated = record {
    slots = told.slots ∙ (ap (λ m. m.1) is ∙ seated.slots);
    first = (seated.first.0, ap (λ v. v.first) told.view ∙ (ap (λ m. m.0.first) is ∙ seated.first.1));
    turn = ap (λ v. v.turn) told.view ∙ (ap (λ m. m.0.turn) is ∙ seated.turn);
    claims = (seated.claims.0, seated.claims.1 ++ other.0.claims, ap (λ v. v.claims) told.view ∙ (ap (λ m. m.0.claims) is ∙ ap (λ cs. cs ++ other.0.claims) seated.claims.2));
    settled = told.settled;
  }

  -- a pass that takes back one that it had made and that got no number
  pub rejoined : (before other after : Seated B E) (words : List Found) → other.0 ≡ record (unnumbered before.0) { found = words }
      → after ≡ (joined before.0 other.0, before.1) → after ≡ (
        record (before.0) {
          told = before.0.seen ∷ before.0.seen ∷ before.0.told;
          found = before.0.found ++ words;
        },
        before.1,
      )
  rejoined before other after words bare is =
      is ∙ (ap (λ (v : View B E). (joined before.0 v, before.1)) bare
      ∙ (λ i. (
        record {
          first = before.0.first;
          seen = not_longer before.0.seen i;
          told = before.0.seen ∷ before.0.seen ∷ append-nil before.0.told i;
          claims = append-nil before.0.claims i;
          turn = before.0.turn;
          found = before.0.found ++ words;
        },
        before.1,
      )))

  pub seated_rejoined : (bearer : E → ℕ) (number : ℕ) (before after : Seated B E) (words : List Found) (out : List (ℕ × Option B))
      → after ≡ (record (before.0) { told = before.0.seen ∷ before.0.seen ∷ before.0.told; found = before.0.found ++ words }, before.1)
      → IsSeated bearer number false out before → IsSeated bearer number false out after
  seated_rejoined bearer number before after words out is seated = record {
    slots = ap (λ m. m.1) is ∙ seated.slots;
    first = (seated.first.0, ap (λ m. m.0.first) is ∙ seated.first.1);
    turn = ap (λ m. m.0.turn) is ∙ seated.turn;
    claims = (seated.claims.0, seated.claims.1, ap (λ m. m.0.claims) is ∙ seated.claims.2);
    settled = subst (λ (m : Seated B E). IsSettled bearer m.0) (sym is) record {
      told = let P : List E → Type 0 = λ told. StartsWith before.0.seen told in
          All-cons P before.0.seen (before.0.seen ∷ before.0.told) (starts_self before.0.seen) (All-cons P before.0.seen before.0.told (starts_self before.0.seen) seated.settled.told);
      claims = seated.settled.claims;
      differ = seated.settled.differ;
    };
  }

  pub found_rejoined : (lock lock' : TableId) (number : ℕ) (before after : Seated B E) (words : List Found) → lock' ≡ lock
      → after ≡ (record (before.0) { told = before.0.seen ∷ before.0.seen ∷ before.0.told; found = before.0.found ++ words }, before.1)
      → pass_of lock' number after.0 ≡ finds (pass_of lock number before.0) words
  found_rejoined lock lock' number before after words at is = λ i. pass_of (at i) number (is i).0

  -- the turn was taken, and the value moved out of its slot
  pub has_turn : (entries_of : B → List E) (bearer : E → ℕ) (begins_as : B → B → Type 0) (lock lock₂ : TableId) (number looked word : ℕ) (value : B) (before middle after turned : Seated B E)
      → lock₂ ≡ lock → Looked bearer before looked middle → (took : TookTurn entries_of bearer begins_as middle word after) → took.value ≡ value
      → turned.0 ≡ after.0 → HasTurn entries_of begins_as (pass_of lock number before.0) (pass_of lock₂ number turned.0) value
  has_turn entries_of bearer begins_as lock lock₂ number looked word value before middle after turned at told took is same =
      let first_is : turned.0.first ≡ middle.0.first = ap (λ v. v.first) same ∙ ap (λ v. v.first) took.view in record {
        sees = sees lock lock₂ number before.0 turned.0 at
            (subst (λ (v : View B E). StartsWith v.seen before.0.seen) (sym same) (starts_further before.0.seen middle.0.seen after.0.seen told.more took.more))
            (found_word Look looked ++ found_word TakeWon word, ap (λ v. v.found) same ∙ (ap (λ v. v.found) took.view ∙ (ap (λ v. v.found ++ found_word TakeWon word) told.view ∙ append_assoc before.0.found (found_word Look looked) (found_word TakeWon word))))
            (first_is ∙ ap (λ v. v.first) told.view)
            (ap (λ v. v.claims) same ∙ (ap (λ v. v.claims) took.view ∙ ap (λ v. v.claims) told.view));
        entries = ap entries_of (sym is) ∙ (took.entries ∙ ap (λ v. v.seen) (sym same));
        short = subst (λ (v : View B E). length v.seen < 2 ^ 62) (sym same) took.short;
        begins = subst (λ (o : Option B × B). IfSome o.0 (λ first. begins_as first o.1)) (λ i. (sym first_is i, is i)) took.begins;
      }

  pub seated_took : (entries_of : B → List E) (bearer : E → ℕ) (begins_as : B → B → Type 0) (number word : ℕ) (middle after turned : Seated B E) (out : List (ℕ × Option B))
      → TookTurn entries_of bearer begins_as middle word after → turned.0 ≡ after.0 → turned.1 ≡ out → IsSeated bearer number false [] middle → IsSeated bearer number true out turned
  seated_took entries_of bearer begins_as number word middle after turned out took same slots seated = record {
    slots = slots;
    first = (seated.first.0, ap (λ v. v.first) same ∙ (ap (λ v. v.first) took.view ∙ seated.first.1));
    turn = ap (λ v. v.turn) same ∙ ap (λ v. v.turn) took.view;
    claims = (seated.claims.0, seated.claims.1, ap (λ v. v.claims) same ∙ (ap (λ v. v.claims) took.view ∙ seated.claims.2));
    settled = subst (IsSettled bearer) (sym same) took.settled;
  }

  pub known : (bearer : E → ℕ) (lock : TableId) (number : ℕ) (has_turn : Bool) (out : List (ℕ × Option B)) (seated : Seated B E) → IsSeated bearer number has_turn out seated
      → IsKnown bearer (pass_of lock number seated.0)
  known bearer lock number has_turn out seated is =
      let own : Claim E = record { number = number; entries = own_entries seated.0.claims } in
      let others : List (Claim E) = other_claims seated.0.claims in
      let apart : seated.0.claims ≡ own ∷ others = claims_apart number is.claims.0 is.claims.1 seated.0.claims is.claims.2 in
      let P : Claim E → Type 0 = λ claim. claim.entries ≡ bearing bearer claim.number seated.0.seen in
      let all : All P (own ∷ others) = subst (All P) apart is.settled.claims in record {
        first = is.first;
        mine = All-head P own others all;
        taken = All-tail P own others all;
        differ = subst Differ apart is.settled.differ;
      }
