-- Each step keeps the rule of the lock.
use Rattle.std.proofs.Common.{◌≡◌, ◌≢◌, ℕ, zero, suc, ◌+◌, ◌*◌, ◌%◌, ◌^◌, ◌<◌, ◌≤◌, eqb, true, false, cond, List, [], ◌∷◌, ◌++◌, length, get_or, set, ltb, Option, Some, None, IfSome, unwrap_or, slice_get, sym, refl, ap, ◌∙◌, subst, ⊎_elim, arith, length-set, get_or-set_other, get_or-set_same, eq-eqb, ne_eqb}
use Rattle.std.specs.Prelude.{All}
use Rattle.std.proofs.lemmas.List.Elements.{All-nil, All-cons, All-append}
use mathlib.Core.Logic.{dite}
use mathlib.Core.Option.{none, some, some-ne-none, some-injective}
use native.Mathlib.Decide.{ℕ_discrete}
use lib.ListN.{get_elem?}
use lib.Seq.{set-get_or}
use prog.Atomic.{either}
use Rattle.atomic_table.specs.Table.{State, Me, step, keeps, takes, gives, stepped, Allows, Splits, Joins, opening}
use Rattle.atomic_table.proofs.Lists.{at_set, set_here, set_else, set_again, at_longer, at_snoc}
use Rattle.turn_lock.specs.declared.view.View.{View}
use Rattle.turn_lock.specs.declared.view.Claim.{Claim}
use Rattle.turn_lock.specs.declared.view.Kind.TheVariants.{Look, TakeWon, TakeLost, NumberLook, NumberWon, NumberLost}
use Rattle.turn_lock.specs.Views.{StartsWith, bearing, found_word}
use Rattle.turn_lock.specs.Rule.{Knows, Ruled, first_view}
use Rattle.turn_lock.specs.Steps.{Looked, Takes, GaveBack, CountedPasses, TakesNumber, claims_left, view_left, unnumbered, longer, joined, blank}
use Rattle.turn_lock.proofs.Histories.{starts_self, starts_more, starts_either, place_in, seat_in, is_given, nothing_there, false-true, bears_before, bears_none_yet, settled_whole, at_append}

module _ {B E : Type 0} (entries_of : B → List E) (bearer : E → ℕ) (begins_as : B → B → Type 0) (first : B) where
  abbrev V : Type 0
  V = View B E

  abbrev St : Type 0
  St = State (Option B) V

  abbrev M : Type 0
  M = Me (Option B) V

  abbrev Rule : St → Type 0
  Rule = Ruled entries_of bearer begins_as first

  abbrev word : St → ℕ
  word s = get_or s.words 0 0

  abbrev count : St → ℕ
  count s = get_or s.words 1 0

  in_range : (vs : List V) (i : ℕ) (v : V) → get_elem? vs i ≡ some v → i < length vs
  in_range [] i v e = absurd (some-ne-none v (sym e))
  in_range (x ∷ xs) zero v e = omega arith
  in_range (x ∷ xs) (suc i) v e = omega (arith, in_range xs i v e)

  seats_stay : (K : ℕ → V → Type 0) (vs : List V) (me : ℕ) (w : V) → K me w → ((j : ℕ) (v : V) → j ≢ me → get_elem? vs j ≡ some v → K j v)
      → (j : ℕ) (v : V) → get_elem? (set vs me w) j ≡ some v → K j v
  seats_stay K vs me w mine others j v e = ⊎_elim (λ (t : (j ≡ me) × (w ≡ v)). subst (λ (x : ℕ × V). K x.0 x.1) (λ i. (sym t.0 i, t.1 i)) mine)
      (λ (t : (j ≢ me) × (get_elem? vs j ≡ some v)). others j v t.0 t.1) (at_set vs me j w v e)

  -- the holder's view, where one seat's view is another one with the turn as it was
  holds_still : (vs : List V) (holder id : ℕ) (v w : V) → get_elem? vs id ≡ some v → w.turn ≡ v.turn → (view : V) × (get_elem? vs holder ≡ some view) × (view.turn ≡ true)
      → (view : V) × (get_elem? (set vs id w) holder ≡ some view) × (view.turn ≡ true)
  holds_still vs holder id v w at same h = dite (ℕ_discrete holder id)
      (λ is. let here : some h.0 ≡ some v = sym h.1 ∙ (ap (λ j. get_elem? vs j) is ∙ at) in
      (w, subst (λ j. get_elem? (set vs id w) j ≡ some w) (sym is) (set_here vs id w (in_range vs id v at)), same ∙ (sym (ap (λ x. x.turn) (some-injective h.0 v here)) ∙ h.2)))
      (λ apart. (h.0, set_else vs id holder w apart ∙ h.1, h.2))

  -- a step that changes no word and no slot
  unmoved : (s : St) (r : Rule s) (i id : ℕ) (v w : V) → get_elem? s.views id ≡ some v → w.turn ≡ v.turn → Knows bearer first r.history r.out r.holder r.owner id w
      → Rule record { words = set s.words i (get_or s.words i 0); homes = s.homes; views = set s.views id w }
  unmoved s r i id v w at same known = subst (λ (ws : List ℕ). Rule record { words = ws; homes = s.homes; views = set s.views id w }) (sym (set-get_or s.words i 0)) record {
    history = r.history;
    out = r.out;
    holder = r.holder;
    owner = r.owner;
    wide = r.wide;
    deep = r.deep;
    one_turn = r.one_turn;
    word = r.word;
    short = r.short;
    home = r.home;
    away = r.away;
    held = λ e. holds_still s.views r.holder id v w at same (r.held e);
    given = r.given;
    not_given = r.not_given;
    each_seat = seats_stay (Knows bearer first r.history r.out r.holder r.owner) s.views id w known (λ j v _ at. r.each_seat j v at);
  }

  -- what is known of a view with another list of words found
  found_more : (s : St) (r : Rule s) (id : ℕ) (v w : V) → Knows bearer first r.history r.out r.holder r.owner id v
      → w.first ≡ v.first → w.seen ≡ v.seen → w.told ≡ v.told → w.claims ≡ v.claims → w.turn ≡ v.turn → Knows bearer first r.history r.out r.holder r.owner id w
  found_more s r id v w k e₀ e₁ e₂ e₃ e₄ = record {
    first = subst (λ f. IfSome f (λ f. f ≡ first)) (sym e₀) k.first;
    seen = subst (StartsWith r.history) (sym e₁) k.seen;
    told = subst (All (λ told. StartsWith r.history told)) (sym e₂) k.told;
    turn = λ t. let h = k.turn (sym e₄ ∙ t) in (h.0, h.1, e₁ ∙ h.2);
    claims = λ place claim at. k.claims place claim (ap (λ cs. slice_get cs place) (sym e₃) ∙ at);
  }

  pub looks : (slots id : ℕ) (me : M) → Allows Rule slots id me 0 (λ x. x) (λ found after. Looked bearer me found after)
  looks slots id me s r _ at _ =
      let k = r.each_seat id me.0 at in
      let w : V = record me.0 { seen = r.history; found = me.0.found ++ found_word Look (word s) } in
      let known : Knows bearer first r.history r.out r.holder r.owner id w = record {
        first = k.first;
        seen = starts_self r.history;
        told = k.told;
        turn = λ t. let h = k.turn t in (h.0, h.1, refl);
        claims = k.claims;
      } in (
        w,
        keeps,
        tt,
        unmoved s r 0 id me.0 w at refl known,
        record {
          out = r.out;
          one_turn = r.one_turn;
          more = k.seen;
          count = r.word;
          settled = settled_whole bearer first r.history r.out r.holder r.owner id w refl known;
          view = refl;
          slots = refl;
        },
      )

  begins_from : (f : Option B) (value : B) → IfSome f (λ f. f ≡ first) → begins_as first value → IfSome f (λ f. begins_as f value)
  begins_from (Some f) value e h = subst (λ f. begins_as f value) (sym e) h
  begins_from None value e h = tt

  pub takes_turn : (slots id : ℕ) (me : M) (old new : ℕ) → old % 2 ≡ 0 → new ≡ old + 1
      → Allows Rule slots id me 0 (λ x. either (eqb x old) new x) (λ found after. Takes entries_of bearer begins_as (step slots 0 old new none) me found after)
  takes_turn slots id me old new even up s r _ at _ =
      let k = r.each_seat id me.0 at in
      let x : ℕ = word s in
      dite (ℕ_discrete x old)
      (λ hit.
      let at_rest : r.out ≡ 0 = (let o = r.one_turn in let n = r.word in omega arith) in
      let home = r.home at_rest in
      let w : V = record me.0 { seen = r.history; turn = true; found = me.0.found ++ found_word TakeWon x } in
      let known : Knows bearer first r.history 1 id r.owner id w = record {
        first = k.first;
        seen = starts_self r.history;
        told = k.told;
        turn = λ _. (refl, refl, refl);
        claims = k.claims;
      } in
      let here : get_or (set s.words 0 new) 0 0 ≡ new = get_or-set_same s.words 0 new 0 (omega (arith, r.wide)) in
      let there : get_or (set s.words 0 new) 1 0 ≡ count s = get_or-set_other s.words 0 1 new 0 (λ e. omega arith) in (
        w,
        takes 0 (Some home.0),
        home.1,
        subst (λ b. Rule (stepped s 0 (either b new x) id me.1 w (takes 0 (Some home.0)))) (sym (eq-eqb x old hit)) record {
          history = r.history;
          out = 1;
          holder = id;
          owner = r.owner;
          wide = length-set s.words 0 new ∙ r.wide;
          deep = length-set s.homes 0 none ∙ r.deep;
          one_turn = omega arith;
          word = let n = r.word in here ∙ omega arith;
          short = r.short;
          home = λ e. absurd (omega arith);
          away = λ _. set_here s.homes 0 none (omega (arith, r.deep));
          held = λ _. (w, set_here s.views id w (in_range s.views id me.0 at), refl);
          given = subst (λ n. n ≤ 2 ^ 32) (sym there) r.given;
          not_given = λ number above. r.not_given number (subst (λ n. n ≤ number) there above);
          each_seat = seats_stay (Knows bearer first r.history 1 id r.owner) s.views id w known (λ j v other here. let o = r.each_seat j v here in record {
            first = o.first;
            seen = o.seen;
            told = o.told;
            turn = λ t. let h = (o.turn t).0 in absurd (omega arith);
            claims = o.claims;
          });
        },
        (
          (λ _. record {
            value = home.0;
            more = k.seen;
            entries = home.2;
            begins = begins_from me.0.first home.0 k.first home.3;
            count = let n = r.word in omega arith;
            short = r.short;
            settled = settled_whole bearer first r.history 1 id r.owner id w refl known;
            view = refl;
            slots = refl;
          }),
          λ not. absurd (not hit),
        ),
      ))
      (λ miss.
      let w : V = record me.0 { found = me.0.found ++ found_word TakeLost x } in (
        w,
        keeps,
        tt,
        subst (λ b. Rule (stepped s 0 (either b new x) id me.1 w keeps)) (sym (ne_eqb x old miss)) (unmoved s r 0 id me.0 w at refl (found_more s r id me.0 w k refl refl refl refl refl)),
        ((λ hit. absurd (miss hit)), λ _. refl),
      ))

  -- the claims of a seat, the first of which has more entries
  own_claims : (owner : ℕ → Option (ℕ × ℕ)) (id number : ℕ) (history longer : List E) (entries : List E) (claims : List (Claim E)) → owner number ≡ Some (id, 0)
      → ((other : ℕ) → number ≢ other → bearing bearer other longer ≡ bearing bearer other history)
      → ((place : ℕ) (claim : Claim E) → slice_get (record { number = number; entries = entries } ∷ claims) place ≡ Some claim
      → (owner claim.number ≡ Some (id, place)) × (claim.entries ≡ bearing bearer claim.number history))
      → (place : ℕ) (claim : Claim E) → slice_get (record { number = number; entries = bearing bearer number longer } ∷ claims) place ≡ Some claim
      → (owner claim.number ≡ Some (id, place)) × (claim.entries ≡ bearing bearer claim.number longer)
  own_claims owner id number history longer entries claims mine same old zero claim here =
      let c : Claim E = record { number = number; entries = bearing bearer number longer } in
      let is : c ≡ claim = ap (λ o. unwrap_or o c) here in
      subst (λ (z : Claim E). (owner z.number ≡ Some (id, 0)) × (z.entries ≡ bearing bearer z.number longer)) is (mine, refl)
  own_claims owner id number history longer entries claims mine same old (suc place) claim here =
      let h = old (suc place) claim here in
      (h.0, h.1 ∙ sym (same claim.number (λ is. let apart : 0 ≡ suc place = ap place_in (sym mine ∙ (ap owner is ∙ h.0)) in absurd (omega arith))))

  begins_first : (f : B) (seen : Option B) (value : B) → seen ≡ Some f → begins_as f value → IfSome seen (λ f. f ≡ first) → begins_as first value
  begins_first f seen value is h e = subst (λ z. begins_as z value) (subst (λ o. IfSome o (λ f. f ≡ first)) is e) h

  -- the turn is given back with entries behind those found, which bear the holder's number
  leaves_out : (slots id : ℕ) (view : V) (others : List (ℕ × Option B)) (value f : B) (tail : List E) (number new : ℕ) (entries : List E) (claims : List (Claim E))
      → view.turn ≡ true → view.first ≡ Some f → begins_as f value → view.claims ≡ record { number = number; entries = entries } ∷ claims
      → entries_of value ≡ view.seen ++ tail → All (λ e. bearer e ≡ number) tail → length (entries_of value) < 2 ^ 62 → new ≡ 2 * length (entries_of value)
      → Allows Rule slots id (view, (0, Some value) ∷ others) 0 (λ _. new) (λ _ after. GaveBack entries_of bearer (view, (0, Some value) ∷ others) after)
  leaves_out slots id view others value f tail number new entries claims turn is_first begins own grown bear short half s r _ at _ =
      let k = r.each_seat id view at in
      let mine = k.turn turn in
      let longer : List E = entries_of value in
      let c : Claim E = record { number = number; entries = entries } in
      let c' : Claim E = record { number = number; entries = bearing bearer number longer } in
      let grows : longer ≡ r.history ++ tail = grown ∙ ap (λ h. h ++ tail) mine.2 in
      let known_of : (place : ℕ) (claim : Claim E) → slice_get (c ∷ claims) place ≡ Some claim → (r.owner claim.number ≡ Some (id, place)) × (claim.entries ≡ bearing bearer claim.number r.history) =
      λ place claim here. k.claims place claim (ap (λ cs. slice_get cs place) own ∙ here) in
      let mine_is : r.owner number ≡ Some (id, 0) = (known_of 0 c refl).0 in
      let same : (other : ℕ) → number ≢ other → bearing bearer other longer ≡ bearing bearer other r.history =
      λ other apart. ap (bearing bearer other) grows ∙ bears_before bearer number other r.history tail apart bear in
      let starts : (xs : List E) → StartsWith r.history xs → StartsWith longer xs = λ xs h. subst (λ l. StartsWith l xs) (sym grows) (starts_more r.history xs tail h) in
      let told_of : (v : V) → All (λ told. StartsWith r.history told) v.told → All (λ told. StartsWith longer told) v.told =
      λ v h i d l. starts (get_or v.told i d) (h i d l) in
      let w : V = view_left bearer longer view in
      let claims_are : w.claims ≡ c' ∷ claims = ap (claims_left bearer longer) own in
      let known : Knows bearer first longer 0 id r.owner id w = record {
        first = k.first;
        seen = starts_self longer;
        told = told_of view k.told;
        turn = λ t. absurd (false-true t);
        claims = λ place claim here. own_claims r.owner id number r.history longer entries claims mine_is same known_of place claim (ap (λ cs. slice_get cs place) (sym claims_are) ∙ here);
      } in
      let here : get_or (set s.words 0 new) 0 0 ≡ new = get_or-set_same s.words 0 new 0 (omega (arith, r.wide)) in
      let there : get_or (set s.words 0 new) 1 0 ≡ count s = get_or-set_other s.words 0 1 new 0 (λ e. omega arith) in (
        w,
        gives,
        tt,
        record {
          history = longer;
          out = 0;
          holder = id;
          owner = r.owner;
          wide = length-set s.words 0 new ∙ r.wide;
          deep = length-set s.homes 0 (some (Some value)) ∙ r.deep;
          one_turn = omega arith;
          word = here ∙ omega (arith, half);
          short = short;
          home = λ _. (value, set_here s.homes 0 (some (Some value)) (omega (arith, r.deep)), refl, begins_first f view.first value is_first begins k.first);
          away = λ e. absurd (omega arith);
          held = λ e. absurd (omega arith);
          given = subst (λ n. n ≤ 2 ^ 32) (sym there) r.given;
          not_given = λ other above. let o = r.not_given other (subst (λ n. n ≤ other) there above) in
              (o.0, same other (λ is. let e : 1 ≡ 0 = ap is_given (sym mine_is ∙ (ap r.owner is ∙ o.0)) in absurd (omega arith)) ∙ o.1);
          each_seat = seats_stay (Knows bearer first longer 0 id r.owner) s.views id w known (λ j v other at'. let o = r.each_seat j v at' in record {
            first = o.first;
            seen = starts v.seen o.seen;
            told = told_of v o.told;
            turn = λ t. absurd (other ((o.turn t).1 ∙ sym mine.1));
            claims = λ place claim at''. let h = o.claims place claim at'' in
                (h.0, h.1 ∙ sym (same claim.number (λ is. other (sym (ap seat_in (sym mine_is ∙ (ap r.owner is ∙ h.0)))))));
          });
        },
        (refl, settled_whole bearer first longer 0 id r.owner id w refl known),
      )

  pub leaves : (slots id : ℕ) (me : M) (others : List (ℕ × Option B)) (value f : B) (tail : List E) (number new : ℕ) (entries : List E) (claims : List (Claim E))
      → me.1 ≡ (0, Some value) ∷ others → me.0.turn ≡ true → me.0.first ≡ Some f → begins_as f value → me.0.claims ≡ record { number = number; entries = entries } ∷ claims
      → entries_of value ≡ me.0.seen ++ tail → All (λ e. bearer e ≡ number) tail → length (entries_of value) < 2 ^ 62 → new ≡ 2 * length (entries_of value)
      → Allows Rule slots id me 0 (λ _. new) (λ _ after. GaveBack entries_of bearer me after)
  leaves slots id me others value f tail number new entries claims out turn is_first begins own grown bear short half =
      subst (λ (o : List (ℕ × Option B)). Allows Rule slots id (me.0, o) 0 (λ _. new) (λ _ after. GaveBack entries_of bearer (me.0, o) after)) (sym out)
      (leaves_out slots id me.0 others value f tail number new entries claims turn is_first begins own grown bear short half)

  pub counts : (slots id : ℕ) (me : M) → Allows Rule slots id me 1 (λ x. x) (λ found after. CountedPasses me found after)
  counts slots id me s r _ at _ =
      let w : V = record me.0 { found = me.0.found ++ found_word NumberLook (count s) } in
      (w, keeps, tt, unmoved s r 1 id me.0 w at refl (found_more s r id me.0 w (r.each_seat id me.0 at) refl refl refl refl refl), (refl, r.given))

  -- the owners of numbers, when a seat takes one
  abbrev with_owner : (ℕ → Option (ℕ × ℕ)) → ℕ → ℕ → ℕ → Option (ℕ × ℕ)
  with_owner owner number id other = cond (eqb other number) (Some (id, 0)) (owner other)

  own_claim : (owner : ℕ → Option (ℕ × ℕ)) (id number : ℕ) (history : List E) → owner number ≡ Some (id, 0) → bearing bearer number history ≡ []
      → (place : ℕ) (claim : Claim E) → slice_get (record { number = number; entries = [] } ∷ []) place ≡ Some claim
      → (owner claim.number ≡ Some (id, place)) × (claim.entries ≡ bearing bearer claim.number history)
  own_claim owner id number history mine free zero claim here =
      let c : Claim E = record { number = number; entries = [] } in
      let is : c ≡ claim = ap (λ o. unwrap_or o c) here in
      subst (λ (z : Claim E). (owner z.number ≡ Some (id, 0)) × (z.entries ≡ bearing bearer z.number history)) is (mine, sym free)
  own_claim owner id number history mine free (suc place) claim here = absurd (nothing_there claim here)

  pub takes_number : (slots id : ℕ) (me : M) (old new : ℕ) → old < 2 ^ 32 → new ≡ old + 1 → me.0.claims ≡ []
      → Allows Rule slots id me 1 (λ x. either (eqb x old) new x) (λ found after. TakesNumber bearer (step slots 1 old new none) me found after)
  takes_number slots id me old new low up bare s r _ at _ =
      let k = r.each_seat id me.0 at in
      let x : ℕ = count s in
      dite (ℕ_discrete x old)
      (λ hit.
      let c : Claim E = record { number = x; entries = [] } in
      let free = r.not_given x (omega arith) in
      let owner : ℕ → Option (ℕ × ℕ) = with_owner r.owner x id in
      let others : (number : ℕ) (p : ℕ × ℕ) → r.owner number ≡ Some p → owner number ≡ Some p = λ number p is.
      rw (ne_eqb number x (λ e. let z : 1 ≡ 0 = ap is_given (sym is ∙ (ap r.owner e ∙ free.0)) in absurd (omega arith))) is in
      let w : V = record me.0 { claims = c ∷ []; found = me.0.found ++ found_word NumberWon x } in
      let mine : owner x ≡ Some (id, 0) = rw (eq-eqb x x refl) refl in
      let known : Knows bearer first r.history r.out r.holder owner id w = record {
        first = k.first;
        seen = k.seen;
        told = k.told;
        turn = k.turn;
        claims = own_claim owner id x r.history mine free.1;
      } in
      let here : get_or (set s.words 1 new) 1 0 ≡ new = get_or-set_same s.words 1 new 0 (omega (arith, r.wide)) in
      let there : get_or (set s.words 1 new) 0 0 ≡ word s = get_or-set_other s.words 1 0 new 0 (λ e. omega arith) in (
        w,
        keeps,
        tt,
        subst (λ b. Rule (stepped s 1 (either b new x) id me.1 w keeps)) (sym (eq-eqb x old hit)) record {
          history = r.history;
          out = r.out;
          holder = r.holder;
          owner = owner;
          wide = length-set s.words 1 new ∙ r.wide;
          deep = r.deep;
          one_turn = r.one_turn;
          word = there ∙ r.word;
          short = r.short;
          home = r.home;
          away = r.away;
          held = λ e. holds_still s.views r.holder id me.0 w at refl (r.held e);
          given = omega (arith, here);
          not_given = λ number above. let low : x < number = omega (arith, here, above) in let o = r.not_given number (omega arith) in
              (rw (ne_eqb number x (λ e. absurd (omega arith))) o.0, o.1);
          each_seat = seats_stay (Knows bearer first r.history r.out r.holder owner) s.views id w known (λ j v other at'. let o = r.each_seat j v at' in record {
            first = o.first;
            seen = o.seen;
            told = o.told;
            turn = o.turn;
            claims = λ place claim at''. let h = o.claims place claim at'' in (others claim.number (j, place) h.0, h.1);
          });
        },
        (
          (λ _. (
            refl,
            λ untold. record {
              told = subst (λ told. All (λ told. StartsWith me.0.seen told) told) (sym untold) (All-nil (λ told. StartsWith me.0.seen told));
              claims = All-cons (λ claim. claim.entries ≡ bearing bearer claim.number me.0.seen) c []
                  (sym (bears_none_yet bearer x r.history me.0.seen k.seen free.1)) (All-nil (λ (claim : Claim E). claim.entries ≡ bearing bearer claim.number me.0.seen));
              differ = (All-nil (λ (d : Claim E). x ≡ d.number → ⊥), tt);
            },
          )),
          λ not. absurd (not hit),
        ),
      ))
      (λ miss.
      let w : V = record me.0 { found = me.0.found ++ found_word NumberLost x } in (
        w,
        keeps,
        tt,
        subst (λ b. Rule (stepped s 1 (either b new x) id me.1 w keeps)) (sym (ne_eqb x old miss)) (unmoved s r 1 id me.0 w at refl (found_more s r id me.0 w k refl refl refl refl refl)),
        ((λ hit. absurd (miss hit)), λ _. refl),
      ))

  pub splits : (id : ℕ) (view : V) → Splits Rule id view view (unnumbered view)
  splits id view s r at =
      let k = r.each_seat id view at in record {
        history = r.history;
        out = r.out;
        holder = r.holder;
        owner = r.owner;
        wide = r.wide;
        deep = r.deep;
        one_turn = r.one_turn;
        word = r.word;
        short = r.short;
        home = r.home;
        away = r.away;
        held = λ e. let h = holds_still s.views r.holder id view view at refl (r.held e) in
            (h.0, at_longer (set s.views id view) (unnumbered view ∷ []) r.holder h.0 h.1, h.2);
        given = r.given;
        not_given = r.not_given;
        each_seat = λ j v here. ⊎_elim
            (λ (old : get_elem? (set s.views id view) j ≡ some v). r.each_seat j v (ap (λ vs. get_elem? vs j) (sym (set_again s.views id view at)) ∙ old))
            (λ (is : unnumbered view ≡ v). subst (λ z. Knows bearer first r.history r.out r.holder r.owner j z) is record {
              first = k.first;
              seen = k.seen;
              told = All-nil (λ told. StartsWith r.history told);
              turn = λ t. absurd (false-true t);
              claims = λ place claim e. absurd (nothing_there claim e);
            })
            (at_snoc (set s.views id view) (unnumbered view) v j here);
      }

  -- the owners of numbers, when a seat that has so many claims takes in another one
  abbrev moved : ℕ → ℕ → ℕ → Option (ℕ × ℕ) → Option (ℕ × ℕ)
  moved other id before (Some p) = cond (eqb p.0 other) (Some (id, before + p.1)) (Some p)
  moved other id before None = None

  pub joins : (id : ℕ) (view : V) (other : ℕ) (taken : V) → view.turn ≡ false → taken.turn ≡ false → Joins Rule id view other taken (joined view taken) blank
  joins id view other taken no_turn none_there s r at apart there =
      let k = r.each_seat id view at in
      let o = r.each_seat other taken (sym (set_else s.views id other (joined view taken) apart) ∙ there) in
      let n : ℕ = length view.claims in
      let owner : ℕ → Option (ℕ × ℕ) = λ number. moved other id n (r.owner number) in
      let stays : (number j place : ℕ) → j ≢ other → r.owner number ≡ Some (j, place) → owner number ≡ Some (j, place) = λ number j place away is.
      ap (moved other id n) is ∙ rw (ne_eqb j other away) refl in
      let goes : (number place : ℕ) → r.owner number ≡ Some (other, place) → owner number ≡ Some (id, n + place) = λ number place is.
      ap (moved other id n) is ∙ rw (eq-eqb other other refl) refl in
      let w : V = joined view taken in
      let known : Knows bearer first r.history r.out r.holder owner id w = record {
        first = k.first;
        seen = starts_either (ltb (length view.seen) (length taken.seen)) r.history view.seen taken.seen k.seen o.seen;
        told = All-cons (λ told. StartsWith r.history told) view.seen (taken.seen ∷ (view.told ++ taken.told)) k.seen
            (All-cons (λ told. StartsWith r.history told) taken.seen (view.told ++ taken.told) o.seen
            (All-append (λ told. StartsWith r.history told) view.told taken.told k.told o.told));
        turn = λ t. absurd (false-true (sym no_turn ∙ t));
        claims = λ place claim e. ⊎_elim
            (λ (here : slice_get view.claims place ≡ Some claim). let h = k.claims place claim here in (stays claim.number id place (λ same. apart (sym same)) h.0, h.1))
            (λ (far : (i : ℕ) × (place ≡ n + i) × (slice_get taken.claims i ≡ Some claim)). let h = o.claims far.0 claim far.2 in
            (goes claim.number far.0 h.0 ∙ ap (λ p. Some (id, p)) (sym far.1), h.1))
            (at_append view.claims taken.claims place claim e);
      } in
      let nothing : Knows bearer first r.history r.out r.holder owner other blank = record {
        first = tt;
        seen = (r.history, refl);
        told = All-nil (λ told. StartsWith r.history told);
        turn = λ t. absurd (false-true t);
        claims = λ place claim e. absurd (nothing_there claim e);
      } in record {
        history = r.history;
        out = r.out;
        holder = r.holder;
        owner = owner;
        wide = r.wide;
        deep = r.deep;
        one_turn = r.one_turn;
        word = r.word;
        short = r.short;
        home = r.home;
        away = r.away;
        held = λ e. holds_still (set s.views id w) r.holder other taken blank there (sym none_there)
            (holds_still s.views r.holder id view w at refl (r.held e));
        given = r.given;
        not_given = λ number above. let h = r.not_given number above in (ap (moved other id n) h.0, h.1);
        each_seat = seats_stay (Knows bearer first r.history r.out r.holder owner) (set s.views id w) other blank nothing (λ j v away at'.
            seats_stay (λ i z. i ≢ other → Knows bearer first r.history r.out r.holder owner i z) s.views id w (λ _. known)
            (λ i z far at'' away'. let h = r.each_seat i z at'' in record {
              first = h.first;
              seen = h.seen;
              told = h.told;
              turn = h.turn;
              claims = λ place claim e. let c = h.claims place claim e in (stays claim.number i place away' c.0, c.1);
            }) j v at' away);
      }

  beyond : (v : V) (j : ℕ) (w : V) → get_elem? (v ∷ []) j ≡ some w → (j ≡ 0) × (v ≡ w)
  beyond v zero w e = (refl, some-injective v w e)
  beyond v (suc j) w e = absurd (some-ne-none w (sym e))

  -- a lock is made of a value without entries
  pub starts_so : entries_of first ≡ [] → begins_as first first → Rule (opening (0 ∷ 1 ∷ []) (Some first ∷ []) (first_view first))
  starts_so empty begins =
      let owner : ℕ → Option (ℕ × ℕ) = λ number. cond (eqb number 0) (Some (0, 0)) None in
      let known : Knows bearer first [] 0 0 owner 0 (first_view first) = record {
        first = refl;
        seen = ([], refl);
        told = All-nil (λ told. StartsWith [] told);
        turn = λ t. absurd (false-true t);
        claims = own_claim owner 0 0 [] refl refl;
      } in record {
        history = [];
        out = 0;
        holder = 0;
        owner = owner;
        wide = refl;
        deep = refl;
        one_turn = omega arith;
        word = refl;
        short = omega arith;
        home = λ _. (first, refl, empty, begins);
        away = λ e. absurd (omega arith);
        held = λ e. absurd (omega arith);
        given = omega arith;
        not_given = λ number above. (rw (ne_eqb number 0 (λ e. absurd (omega arith))) refl, refl);
        each_seat = λ j v at. let is = beyond (first_view first) j v at in
            subst (λ (z : ℕ × V). Knows bearer first [] 0 0 owner z.0 z.1) (λ i. (sym is.0 i, is.1 i)) known;
      }
