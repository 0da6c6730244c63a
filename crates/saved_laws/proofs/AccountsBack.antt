-- The names of a user and his account lead back to his association, and what was used comes back.
use Rattle.std.proofs.Common.{ℕ, ◌≡◌, ◌≢◌, ◌∙◌, ◌+◌, ◌<◌, ◌≤◌, zero, suc, Bool, true, false, ◌&&◌, cond, if◌then◌else◌, List, [], ◌∷◌, map, length, All, AllPairs, Option, Some, None, bytes_eq, nat_eq, slice_get, refl, ap, sym, subst, arith}
use Rattle.std.specs.Prelude.{IfSome, codes, filter_map, find, nat_lt, option_and_then, option_map, unwrap_or}
use Rattle.std.specs.List.{cons_option, range_with_len, zip}
use Rattle.std.proofs.lemmas.Bool.{and_from, and_parts, eq-eqb, eqb-true, false_from_ne_true, ltb-false}
use Rattle.std.proofs.lemmas.List.Elements.{All-cons, All-nil, All-weaker}
use Rattle.std.proofs.lemmas.List.Kept.{AllPairs-cons}
use Rattle.plain_data.specs.Assocs.{AreNamedApart, IsAssocFile, StandsUnder}
use Rattle.plain_data.specs.declared.assoc.AssocConf.{AssocConf}
use Rattle.plain_data.specs.declared.assoc.QosConf.{QosConf}
use Rattle.run_limits.specs.declared.record.AssocRecord.{AssocRecord}
use Rattle.run_limits.specs.Accounts.{account_of, is_of_user, is_users_in, opened, place_in}
use Rattle.job_table.specs.Targets.{is_number}
use Rattle.saved_data.specs.declared.parts.SavedUsage.{SavedUsage}
use Rattle.ctl_saved.specs.Saving.{saved_usage, saved_usages}
use Rattle.ctl_restore.specs.Fits.{AreOfOthers}
use Rattle.ctl_restore.specs.Restored.{is_usage_of, restored_usage, restored_usages}
use Rattle.saved_laws.proofs.Named.{own_name}
use Rattle.saved_laws.proofs.Positions.{all_at, one_place, position_only, there, within}
use Rattle.ctl_reconfigure.proofs.NameLists.{bytes-same as same_name}

-- ---- names lead to one association

-- the account at a place, where it is one
opened-at : (assocs : List AssocConf) (k : ℕ) (assoc : AssocRecord) → slice_get (map opened assocs) k ≡ Some assoc
    → slice_get assocs k ≡ Some assoc.conf
opened-at [] k assoc is = absurd (cc)
opened-at (conf ∷ confs) zero assoc is =
    let same : opened conf ≡ assoc = cc in
    ap (λ (assoc : AssocRecord). Some assoc.conf) same
opened-at (conf ∷ confs) (suc k) assoc is = opened-at confs k assoc is

at-opened : (assocs : List AssocConf) (k : ℕ) (conf : AssocConf) → slice_get assocs k ≡ Some conf
    → slice_get (map opened assocs) k ≡ Some (opened conf)
at-opened [] k conf is = absurd (cc)
at-opened (one ∷ confs) zero conf is = let same : one ≡ conf = cc in ap (λ conf. Some (opened conf)) same
at-opened (one ∷ confs) (suc k) conf is = at-opened confs k conf is

-- the account that an association of the file belongs to, with its place; root where it is none
pub record IsAccountAt (assocs : List AssocConf) (place : ℕ) (conf : AssocConf) : Type 0 where
  pub at : slice_get assocs place ≡ Some conf
  pub account : conf.user ≡ false

under-at : (assocs : List AssocConf) (qos : List QosConf) → IsAssocFile assocs qos → (k : ℕ) (conf : AssocConf)
    → slice_get assocs k ≡ Some conf → StandsUnder assocs k conf
under-at assocs qos file k conf is = subst (λ found. IfSome found (StandsUnder assocs k)) is (file.under k)

parent-at : (assocs : List AssocConf) (qos : List QosConf) → IsAssocFile assocs qos → (k : ℕ) (conf : AssocConf)
    → slice_get assocs k ≡ Some conf → (parent : ℕ) → conf.parent ≡ Some parent
    → (account : AssocConf) × IsAccountAt assocs parent account
parent-at assocs qos file k conf is parent of =
    let under = under-at assocs qos file k conf is in
    let before : parent < k = subst (λ found. IfSome found (λ parent. parent < k)) of under.before in
    let here = there assocs parent (omega (arith, before, within assocs k conf is)) in
    let account : here.0.user ≡ false =
    subst (λ found. IfSome found (λ (one : AssocConf). one.user ≡ false)) here.1
    (subst (λ found. IfSome found (λ parent. IfSome (slice_get assocs parent) (λ (one : AssocConf). one.user ≡ false))) of
    under.account) in
    (here.0, record { at = here.1; account = account })

-- the name of the account that is an association's parent
abbrev account-named : List AssocConf → Option ℕ → List ℕ
account-named assocs parent =
    unwrap_or
    (option_map (λ (parent : AssocRecord). parent.conf.name) (option_and_then (slice_get (map opened assocs)) parent))
    (codes "root")

named-at : (assocs : List AssocConf) (parent : ℕ) (account : AssocConf) → slice_get assocs parent ≡ Some account
    → account-named assocs (Some parent) ≡ account.name
named-at assocs parent account is =
    ap (λ (found : Option AssocRecord).
    unwrap_or (option_map (λ (parent : AssocRecord). parent.conf.name) found) (codes "root"))
    (at-opened assocs parent account is)

-- accounts of one name are one
one-parent : (assocs : List AssocConf) (qos : List QosConf) → IsAssocFile assocs qos → (j k : ℕ) (one other : AssocConf)
    → slice_get assocs j ≡ Some one → slice_get assocs k ≡ Some other
    → account-named assocs one.parent ≡ account-named assocs other.parent → one.parent ≡ other.parent
one-parent assocs qos file j k one other at there same = by one.parent other.parent refl refl same
  where
    unrooted : (parent : ℕ) (account : AssocConf) → IsAccountAt assocs parent account → account.name ≢ codes "root"
    unrooted parent account is =
        all_at (λ (assoc : AssocConf). assoc.user ≡ false → assoc.name ≢ codes "root") assocs parent account file.no_root is.at
        is.account

    by : (here hence : Option ℕ) → one.parent ≡ here → other.parent ≡ hence
        → account-named assocs here ≡ account-named assocs hence → here ≡ hence
    by None None is are same = refl
    by None (Some parent) is are same =
        let account = parent-at assocs qos file k other there parent are in
        absurd (unrooted parent account.0 account.1 (sym (named-at assocs parent account.0 account.1.at) ∙ sym same))
    by (Some parent) None is are same =
        let account = parent-at assocs qos file j one at parent is in
        absurd (unrooted parent account.0 account.1 (sym (named-at assocs parent account.0 account.1.at) ∙ same))
    by (Some parent) (Some next) is are same =
        let account = parent-at assocs qos file j one at parent is in
        let beside = parent-at assocs qos file k other there next are in
        let equal : account.0.name ≡ beside.0.name =
        sym (named-at assocs parent account.0 account.1.at) ∙ same ∙ named-at assocs next beside.0 beside.1.at in
        ap Some (one_place AreNamedApart assocs file.apart parent next account.0 beside.0 account.1.at beside.1.at
        (λ apart. apart.accounts account.1.account beside.1.account equal)
        (λ apart. apart.accounts beside.1.account account.1.account (sym equal)))

-- The names of a user's association lead to it.
pub association_back : (assocs : List AssocConf) (qos : List QosConf) → IsAssocFile assocs qos → (k : ℕ) (assoc : AssocRecord)
    → slice_get (map opened assocs) k ≡ Some assoc → assoc.conf.user ≡ true
    → place_in (map opened assocs) assoc.conf.name (account_of (map opened assocs) assoc) ≡ Some k
association_back assocs qos file k assoc is user =
    let all = map opened assocs in
    let name = assoc.conf.name in
    let account = account_of all assoc in
    position_only (is_users_in all name account) all k assoc is
    (and_from (is_of_user name assoc) (bytes_eq account account) (and_from assoc.conf.user (bytes_eq name name) user (own_name name))
    (own_name account))
    (λ j other at passes.
    let halves = and_parts (is_of_user name other) (bytes_eq (account_of all other) account) passes in
    let parts = and_parts other.conf.user (bytes_eq other.conf.name name) halves.0 in
    let named : other.conf.name ≡ name = same_name other.conf.name name parts.1 in
    let parents : other.conf.parent ≡ assoc.conf.parent =
    one-parent assocs qos file j k other.conf assoc.conf (opened-at assocs j other at) (opened-at assocs k assoc is)
    (same_name (account_of all other) account halves.1) in
    one_place AreNamedApart assocs file.apart j k other.conf assoc.conf (opened-at assocs j other at) (opened-at assocs k assoc is)
    (λ apart. apart.users parts.0 user parents named)
    (λ apart. apart.users user parts.0 (sym parents) (sym named)))

-- ---- what was used

-- the names of each user's association in these lead to its place, from a first one on
abbrev pub LeadFrom : List AssocRecord → ℕ → List AssocRecord → Type 0
LeadFrom all first assocs =
    (j : ℕ) (assoc : AssocRecord) → slice_get assocs j ≡ Some assoc → assoc.conf.user ≡ true
    → place_in all assoc.conf.name (account_of all assoc) ≡ Some (first + j)

lead-later : (all : List AssocRecord) (first : ℕ) (assoc : AssocRecord) (assocs : List AssocRecord)
    → LeadFrom all first (assoc ∷ assocs) → LeadFrom all (first + 1) assocs
lead-later all first assoc assocs lead j one at user =
    lead (suc j) one at user ∙ ap Some (omega arith)

-- what an association's line tells
abbrev line-of : List AssocRecord → AssocRecord → ℕ → SavedUsage
line-of all assoc total = record { account = account_of all assoc; user = assoc.conf.name; total = total }

-- what is found of the lines, the first of which is one if this is told
abbrev found-by : List AssocRecord → ℕ → SavedUsage → Bool → List SavedUsage → Option SavedUsage
found-by all place line tells lines =
    find (is_usage_of all place) (cons_option (if tells then Some line else None) lines)

-- the line of the first place is passed by any other one
skipped : (all : List AssocRecord) (first : ℕ) (assoc : AssocRecord) (assocs : List AssocRecord) (total : ℕ)
    (lines : List SavedUsage) → LeadFrom all first (assoc ∷ assocs) → (place : ℕ) → first ≢ place
    → found-by all place (line-of all assoc total) (assoc.conf.user && nat_lt 0 total) lines
    ≡ find (is_usage_of all place) lines
skipped all first assoc assocs total lines lead place differ =
    by (assoc.conf.user && nat_lt 0 total) refl
  where
    by : (tells : Bool) → (assoc.conf.user && nat_lt 0 total) ≡ tells
        → found-by all place (line-of all assoc total) (assoc.conf.user && nat_lt 0 total) lines
        ≡ find (is_usage_of all place) lines
    by true tells =
        let user = (and_parts assoc.conf.user (nat_lt 0 total) tells).0 in
        let not : nat_eq (first + 0) place ≡ false =
        false_from_ne_true (nat_eq (first + 0) place) (λ is. differ (omega (arith, eqb-true (first + 0) place is))) in
        ap (λ (tells : Bool). found-by all place (line-of all assoc total) tells lines) tells
        ∙ ap (λ (found : Option ℕ). cond (is_number place found) (Some (line-of all assoc total))
        (find (is_usage_of all place) lines)) (lead 0 assoc refl user)
        ∙ ap (λ (is : Bool). cond is (Some (line-of all assoc total)) (find (is_usage_of all place) lines)) not
    by false tells = ap (λ (tells : Bool). found-by all place (line-of all assoc total) tells lines) tells

-- no line is of a place before the first
none-before : (all : List AssocRecord) (first : ℕ) (assocs : List AssocRecord) (totals : List ℕ) → LeadFrom all first assocs
    → (place : ℕ) → place < first → find (is_usage_of all place) (filter_map (saved_usage all) (zip assocs totals)) ≡ None
none-before all first [] totals lead place before = refl
none-before all first (assoc ∷ assocs) [] lead place before = refl
none-before all first (assoc ∷ assocs) (total ∷ totals) lead place before =
    skipped all first assoc assocs total (filter_map (saved_usage all) (zip assocs totals)) lead place
    (λ same. absurd (omega (arith, same, before)))
    ∙ none-before all (first + 1) assocs totals (lead-later all first assoc assocs lead) place (omega (arith, before))

-- what the line of a place tells, or nothing
abbrev told-of : Option SavedUsage → ℕ
told-of found = unwrap_or (option_map (λ (line : SavedUsage). line.total) found) 0

-- what is told of each place is what was used, where only users use something
told-at : (all : List AssocRecord) (first : ℕ) (assocs : List AssocRecord) (totals : List ℕ) → LeadFrom all first assocs
    → (k : ℕ) (assoc : AssocRecord) (total : ℕ) → slice_get assocs k ≡ Some assoc → slice_get totals k ≡ Some total
    → (assoc.conf.user ≡ false → total ≡ 0)
    → told-of (find (is_usage_of all (first + k)) (filter_map (saved_usage all) (zip assocs totals))) ≡ total
told-at all first [] totals lead k assoc total at is users = absurd (cc)
told-at all first (one ∷ assocs) [] lead k assoc total at is users = absurd (cc)
told-at all first (one ∷ assocs) (sum ∷ totals) lead zero assoc total at is users =
    let same : one ≡ assoc = cc in
    let equal : sum ≡ total = cc in
    by (one.conf.user && nat_lt 0 sum) refl same equal
  where
    lines : List SavedUsage
    lines = filter_map (saved_usage all) (zip assocs totals)

    nothing : (user : Bool) (sum : ℕ) → (user && nat_lt 0 sum) ≡ false → (user ≡ false → sum ≡ 0) → sum ≡ 0
    nothing false sum is users = users refl
    nothing true sum is users = omega (arith, ltb-false 0 sum is)

    by : (tells : Bool) → (one.conf.user && nat_lt 0 sum) ≡ tells → one ≡ assoc → sum ≡ total
        → told-of (found-by all (first + 0) (line-of all one sum) (one.conf.user && nat_lt 0 sum)
        (filter_map (saved_usage all) (zip assocs totals))) ≡ total
    by true tells same equal =
        ap (λ (tells : Bool). told-of (found-by all (first + 0) (line-of all one sum) tells
        (filter_map (saved_usage all) (zip assocs totals)))) tells
        ∙ ap (λ (found : Option ℕ). told-of (cond (is_number (first + 0) found) (Some (line-of all one sum))
        (find (is_usage_of all (first + 0)) (filter_map (saved_usage all) (zip assocs totals)))))
        (lead 0 one refl ((and_parts one.conf.user (nat_lt 0 sum) tells).0))
        ∙ ap (λ (is : Bool). told-of (cond is (Some (line-of all one sum))
        (find (is_usage_of all (first + 0)) (filter_map (saved_usage all) (zip assocs totals)))))
        (eq-eqb (first + 0) (first + 0) refl)
        ∙ equal
    by false tells same equal =
        ap (λ (tells : Bool). told-of (found-by all (first + 0) (line-of all one sum) tells
        (filter_map (saved_usage all) (zip assocs totals)))) tells
        ∙ ap told-of (none-before all (first + 1) assocs totals (lead-later all first one assocs lead) (first + 0) (omega arith))
        ∙ sym (sym equal ∙ nothing one.conf.user sum tells (λ no.
        equal ∙ users (ap (λ (one : AssocRecord). one.conf.user) (sym same) ∙ no)))
told-at all first (one ∷ assocs) (sum ∷ totals) lead (suc k) assoc total at is users =
    let next : first + suc k ≡ first + 1 + k = omega arith in
    ap told-of (skipped all first one assocs sum (filter_map (saved_usage all) (zip assocs totals)) lead (first + suc k)
    (λ same. absurd (omega (arith, same))))
    ∙ ap (λ place. told-of (find (is_usage_of all place) (filter_map (saved_usage all) (zip assocs totals)))) next
    ∙ told-at all (first + 1) assocs totals (lead-later all first one assocs lead) k assoc total at is users

-- a list is what is found of it place by place
listed : (f : ℕ → ℕ) (first : ℕ) (totals : List ℕ)
    → ((k total : ℕ) → slice_get totals k ≡ Some total → f (first + k) ≡ total)
    → map f (range_with_len first (length totals)) ≡ totals
listed f first [] each = refl
listed f first (total ∷ totals) each =
    ap (λ one. one ∷ map f (range_with_len (first + 1) (length totals))) (ap f (omega arith) ∙ each 0 total refl)
    ∙ ap (λ later. total ∷ later)
    (listed f (first + 1) totals (λ k one is. ap f (omega arith) ∙ each (suc k) one is))

-- What was used comes back, where only users have used something.
pub usage_back : (assocs : List AssocConf) (qos : List QosConf) → IsAssocFile assocs qos → (totals : List ℕ)
    → length totals ≡ length (map opened assocs)
    → ((k : ℕ) (assoc : AssocRecord) (total : ℕ) → slice_get (map opened assocs) k ≡ Some assoc
    → slice_get totals k ≡ Some total → assoc.conf.user ≡ false → total ≡ 0)
    → restored_usages (saved_usages (map opened assocs) totals) (map opened assocs) ≡ totals
unfolding restored_usages saved_usages
usage_back assocs qos file totals long users =
    let all = map opened assocs in
    let lines = filter_map (saved_usage all) (zip all totals) in
    ap (λ count. map (restored_usage lines all) (range_with_len 0 count)) (sym long)
    ∙ listed (restored_usage lines all) 0 totals (λ k total is.
    let here = there all k (omega (arith, long, within totals k total is)) in
    told-at all 0 all totals (λ j assoc at user. association_back assocs qos file j assoc at user ∙ ap Some (omega arith))
    k here.0 total here.1 is (users k here.0 total here.1 is))

-- ---- lines of usage

-- what holds of each line that an association may have
pub lines_all : (P : SavedUsage → Type 0) (all : List AssocRecord) (assocs : List AssocRecord) (totals : List ℕ)
    → ((k : ℕ) (assoc : AssocRecord) (total : ℕ) → slice_get assocs k ≡ Some assoc → slice_get totals k ≡ Some total
    → assoc.conf.user ≡ true → P (line-of all assoc total))
    → All P (filter_map (saved_usage all) (zip assocs totals))
lines_all P all [] totals each = All-nil P
lines_all P all (assoc ∷ assocs) [] each = All-nil P
lines_all P all (assoc ∷ assocs) (total ∷ totals) each =
    by (assoc.conf.user && nat_lt 0 total) refl
    (lines_all P all assocs totals (λ k one sum at is user. each (suc k) one sum at is user))
  where
    by : (tells : Bool) → (assoc.conf.user && nat_lt 0 total) ≡ tells
        → All P (filter_map (saved_usage all) (zip assocs totals))
        → All P (cons_option (if tells then Some (line-of all assoc total) else None)
        (filter_map (saved_usage all) (zip assocs totals)))
    by true tells later =
        All-cons P (line-of all assoc total) (filter_map (saved_usage all) (zip assocs totals))
        (each 0 assoc total refl refl ((and_parts assoc.conf.user (nat_lt 0 total) tells).0)) later
    by false tells later = later

-- the names of a line lead to a place from a first one on
pub record LeadsFrom (all : List AssocRecord) (first : ℕ) (line : SavedUsage) : Type 0 where
  pub place : ℕ
  pub leads : place_in all line.user line.account ≡ Some place
  pub from : first ≤ place

pub lines_lead : (all : List AssocRecord) (first : ℕ) (assocs : List AssocRecord) (totals : List ℕ) → LeadFrom all first assocs
    → All (LeadsFrom all first) (filter_map (saved_usage all) (zip assocs totals))
lines_lead all first assocs totals lead =
    lines_all (LeadsFrom all first) all assocs totals
    (λ k assoc total at is user. record { place = first + k; leads = lead k assoc at user; from = omega arith })

-- lines are of different users, or of different accounts
pub lines_apart : (all : List AssocRecord) (first : ℕ) (assocs : List AssocRecord) (totals : List ℕ)
    → LeadFrom all first assocs → AllPairs AreOfOthers (filter_map (saved_usage all) (zip assocs totals))
lines_apart all first [] totals lead = λ i j d before below. absurd (omega (arith, below))
lines_apart all first (assoc ∷ assocs) [] lead = λ i j d before below. absurd (omega (arith, below))
lines_apart all first (assoc ∷ assocs) (total ∷ totals) lead =
    let later = lead-later all first assoc assocs lead in
    by (assoc.conf.user && nat_lt 0 total) refl (lines_apart all (first + 1) assocs totals later)
    (lines_lead all (first + 1) assocs totals later)
  where
    by : (tells : Bool) → (assoc.conf.user && nat_lt 0 total) ≡ tells
        → AllPairs AreOfOthers (filter_map (saved_usage all) (zip assocs totals))
        → All (LeadsFrom all (first + 1)) (filter_map (saved_usage all) (zip assocs totals))
        → AllPairs AreOfOthers (cons_option (if tells then Some (line-of all assoc total) else None)
        (filter_map (saved_usage all) (zip assocs totals)))
    by true tells pairs leads =
        let user = (and_parts assoc.conf.user (nat_lt 0 total) tells).0 in
        AllPairs-cons AreOfOthers (line-of all assoc total) (filter_map (saved_usage all) (zip assocs totals))
        (All-weaker (LeadsFrom all (first + 1)) (AreOfOthers (line-of all assoc total))
        (λ other of account user_same.
        let places : Some (first + 0) ≡ Some of.place =
        sym (lead 0 assoc refl user)
        ∙ ap (λ account. place_in all assoc.conf.name account) account
        ∙ ap (λ user. place_in all user other.account) user_same
        ∙ of.leads in
        let same : first + 0 ≡ of.place = cc in
        absurd (omega (arith, same, of.from))) (filter_map (saved_usage all) (zip assocs totals)) leads) pairs
    by false tells pairs leads = pairs
