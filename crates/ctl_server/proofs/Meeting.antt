-- Passes that were taken in one after the other, and what they made of the history.
use Rattle.std.proofs.Common.{◌≡◌, ◌≢◌, ◌∙◌, ℕ, List, [], ◌∷◌, ◌++◌, map, All, Option, IfSome, refl, sym, ap, subst, arith, append_assoc, append-nil}
use Rattle.std.specs.Prelude.{AllPairs}
use Rattle.std.proofs.lemmas.List.Elements.{All-nil, All-cons, All-head, All-tail, All-append}
use Rattle.std.proofs.lemmas.List.Kept.{AllPairs-cons}
use Rattle.turn_lock.specs.declared.view.Claim.{Claim}
use Rattle.turn_lock.specs.Views.{Differ, StartsWith}
use Rattle.turn_lock.specs.Passes.{HasTurn, Meets, IsKnown}
use Rattle.ctl_desk.specs.declared.entry.Entry.{Entry}
use Rattle.ctl_desk.specs.History.{BookState, of_session}
use Rattle.ctl_server.specs.Locked.{BookView}
use Rattle.ctl_server.specs.Parts.{HasMet, IsBookOf, claim_of, claims_of}

pub starts_trans : (whole middle front : List Entry) → StartsWith whole middle → StartsWith middle front → StartsWith whole front
starts_trans whole middle front a b =
    (b.0 ++ a.0, a.1 ∙ (ap (λ (es : List Entry). es ++ a.0) b.1 ∙ append_assoc front b.0 a.0))

starts_same : (xs : List Entry) → StartsWith xs xs
starts_same xs = ([], sym (append-nil xs))

pub met_none : (pass : BookView) → HasMet pass [] pass
met_none pass = record {
  seen = starts_same pass.seen;
  seen_too = All-nil (λ (other : BookView). StartsWith pass.seen other.seen);
  taken = sym (append-nil pass.taken);
  same = (refl, refl, refl);
}

claims_push : (others : List BookView) (one : BookView)
    → claims_of (others ++ one ∷ []) ≡ claims_of others ++ (claim_of one ∷ one.taken)
claims_push [] one = append-nil (claim_of one ∷ one.taken)
claims_push (other ∷ others) one =
    ap (λ (cs : List (Claim Entry)). (claim_of other ∷ other.taken) ++ cs) (claims_push others one)
    ∙ sym (append_assoc (claim_of other ∷ other.taken) (claims_of others) (claim_of one ∷ one.taken))

pub met_one : (old middle new : BookView) (others : List BookView) (one : BookView) → HasMet old others middle
    → Meets middle one new → HasMet old (others ++ one ∷ []) new
met_one old middle new others one met meets =
    let P : BookView → Type 0 = λ (other : BookView). StartsWith new.seen other.seen in record {
      seen = starts_trans new.seen middle.seen old.seen meets.seen met.seen;
      seen_too = All-append P others (one ∷ [])
          (λ k d inside. starts_trans new.seen middle.seen _ meets.seen (met.seen_too k d inside))
          (All-cons P one [] meets.seen_too (All-nil P));
      taken = ap (λ (p : BookView). p.taken) meets.same
          ∙ (ap (λ (cs : List (Claim Entry)). cs ++ (claim_of one ∷ one.taken)) met.taken
          ∙ (append_assoc old.taken (claims_of others) (claim_of one ∷ one.taken)
          ∙ ap (λ (cs : List (Claim Entry)). old.taken ++ cs) (sym (claims_push others one))));
      same = (
        ap (λ (p : BookView). p.lock) meets.same ∙ met.same.0,
        ap (λ (p : BookView). p.first) meets.same ∙ met.same.1,
        ap (λ (p : BookView). p.number) meets.same ∙ met.same.2,
      );
    }

-- of two lists of claims
all_behind : (P : Claim Entry → Type 0) (xs ys : List (Claim Entry)) → All P (xs ++ ys) → All P ys
all_behind P [] ys all = all
all_behind P (x ∷ xs) ys all = all_behind P xs ys (All-tail P x (xs ++ ys) all)

all_before : (P : Claim Entry → Type 0) (xs ys : List (Claim Entry)) → All P (xs ++ ys) → All P xs
all_before P [] ys all = All-nil P
all_before P (x ∷ xs) ys all =
    All-cons P x xs (All-head P x (xs ++ ys) all) (all_before P xs ys (All-tail P x (xs ++ ys) all))

differ_behind : (xs ys : List (Claim Entry)) → Differ (xs ++ ys) → Differ ys
differ_behind [] ys differ = differ
differ_behind (x ∷ xs) ys differ = differ_behind xs ys differ.1

differ_before : (xs ys : List (Claim Entry)) → Differ (xs ++ ys) → Differ xs
differ_before [] ys differ = tt
differ_before (x ∷ xs) ys differ =
    (all_before (λ (d : Claim Entry). x.number ≡ d.number → ⊥) xs ys differ.0, differ_before xs ys differ.1)

claims_split : (front back : List BookView) → claims_of (front ++ back) ≡ claims_of front ++ claims_of back
claims_split [] back = refl
claims_split (pass ∷ front) back =
    ap (λ (cs : List (Claim Entry)). (claim_of pass ∷ pass.taken) ++ cs) (claims_split front back)
    ∙ sym (append_assoc (claim_of pass ∷ pass.taken) (claims_of front) (claims_of back))

-- what holds of all claims holds of each pass's own
of_passes : (P : Claim Entry → Type 0) (passes : List BookView) → All P (claims_of passes)
    → All (λ (pass : BookView). P (claim_of pass)) passes
of_passes P [] all = All-nil (λ (pass : BookView). P (claim_of pass))
of_passes P (pass ∷ passes) all =
    All-cons (λ (pass : BookView). P (claim_of pass)) pass passes
    (All-head P (claim_of pass) (pass.taken ++ claims_of passes) all)
    (of_passes P passes (all_behind P (claim_of pass ∷ pass.taken) (claims_of passes) all))

abbrev numbers_of : List BookView → List ℕ
numbers_of passes = map (λ (pass : BookView). pass.number) passes

all_numbers : (P : ℕ → Type 0) (passes : List BookView) → All (λ (pass : BookView). P pass.number) passes
    → All P (numbers_of passes)
all_numbers P [] all = All-nil P
all_numbers P (pass ∷ passes) all =
    All-cons P pass.number (numbers_of passes)
    (All-head (λ (pass : BookView). P pass.number) pass passes all)
    (all_numbers P passes (All-tail (λ (pass : BookView). P pass.number) pass passes all))

pub numbers_differ : (passes : List BookView) → Differ (claims_of passes)
    → AllPairs (λ (one other : ℕ). one ≢ other) (map (λ (pass : BookView). pass.number) passes)
numbers_differ [] differ = λ i j d below inside. absurd (omega arith)
numbers_differ (pass ∷ passes) differ =
    let later = all_behind (λ (d : Claim Entry). pass.number ≡ d.number → ⊥) pass.taken (claims_of passes) differ.0 in
    let apart = of_passes (λ (d : Claim Entry). pass.number ≡ d.number → ⊥) passes later in
    AllPairs-cons (λ (one other : ℕ). one ≢ other) pass.number (numbers_of passes)
    (all_numbers (λ (n : ℕ). pass.number ≢ n) passes apart)
    (numbers_differ passes (differ_behind pass.taken (claims_of passes) differ.1))

-- the claims of the first ones of some passes that were met
pub front_claims : (P : Claim Entry → Type 0) (front back : List BookView) → All P (claims_of (front ++ back))
    → All (λ (pass : BookView). P (claim_of pass)) front
front_claims P front back all =
    of_passes P front (all_before P (claims_of front) (claims_of back)
    (subst (All P) (claims_split front back) all))

pub front_differ : (front back : List BookView) → Differ (claims_of (front ++ back)) → Differ (claims_of front)
front_differ front back differ =
    differ_before (claims_of front) (claims_of back) (subst Differ (claims_split front back) differ)

pub met_two : (old middle later new : BookView) (others : List BookView) (one two : BookView) → HasMet old others middle
    → Meets middle one later → Meets later two new → HasMet old (others ++ one ∷ two ∷ []) new
met_two old middle later new others one two met first second =
    subst (λ (all : List BookView). HasMet old all new) (append_assoc others (one ∷ []) (two ∷ []))
    (met_one old later new (others ++ one ∷ []) two (met_one old middle later others one met first) second)

-- the book that is taken from a lock
pub book_of : (pass turn : BookView) (value book : BookState)
    → HasTurn (λ (book : BookState). book.entries) (λ (first book : BookState). book.opening ≡ first.opening) pass turn value
    → IsKnown (λ (entry : Entry). entry.session) turn → book ≡ value → IsBookOf pass book
book_of pass turn value book took known is =
    let whole : turn.seen ≡ book.entries = sym (ap (λ (h : BookState). h.entries) is ∙ took.entries) in
    let taken : turn.taken ≡ pass.taken = ap (λ (p : BookView). p.taken) took.sees.same in
    let first : turn.first ≡ pass.first = ap (λ (p : BookView). p.first) took.sees.same in record {
      seen = subst (λ (es : List Entry). StartsWith es pass.seen) whole took.sees.seen;
      claims = subst (λ (cs : List (Claim Entry)). All (λ (claim : Claim Entry). claim.entries ≡ of_session claim.number book.entries) cs)
          taken (subst (λ (es : List Entry). All (λ (claim : Claim Entry). claim.entries ≡ of_session claim.number es) turn.taken) whole known.taken);
      differ = subst Differ taken known.differ.1;
      begins = subst (λ (h : BookState). IfSome pass.first (λ first. h.opening ≡ first.opening)) (sym is)
          (subst (λ (o : Option BookState). IfSome o (λ first. value.opening ≡ first.opening)) first took.begins);
    }
