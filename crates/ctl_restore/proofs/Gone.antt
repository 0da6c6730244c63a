-- The names of nodes that are gone, one share and one placement more at a time.
use Rattle.std.proofs.Common.{◌≡◌, ◌∙◌, ℕ, ◌+◌, ◌<◌, Bool, true, false, cond, if◌then◌else◌, List, [], ◌∷◌, ◌++◌, fold, length, map, filter, take, get_or, refl, sym, ap}
use Rattle.std.specs.Prelude.{flat_map, is_none}
use Rattle.std.proofs.lemmas.List.{append-nil, map-append, take_more}
use Rattle.std.proofs.lemmas.List.Concat.{flat_map-append}
use Rattle.std.proofs.lemmas.List.Elements.{filter-append}
use Rattle.std.proofs.lemmas.List.Sums.{fold-append}
use Rattle.host_lists.specs.Hosts.{with_name}
use Rattle.node_state.specs.declared.record.NodeRecord.{NodeRecord}
use Rattle.node_state.specs.Nodes.{place_named}
use Rattle.saved_data.specs.declared.parts.SavedPlaced.{SavedPlaced}
use Rattle.saved_data.specs.declared.parts.SavedShare.{SavedShare}
use Rattle.ctl_restore.specs.Restored.{gone_names, strangers}

one-name : (is : Bool) (names : List (List ℕ)) (name : List ℕ)
    → fold with_name names (cond is (name ∷ []) []) ≡ (if is then with_name names name else names)
one-name true names name = refl
one-name false names name = refl

-- the names so far, with that of one share more, if it is no node's
pub share-more : (nodes : List NodeRecord) (before : List (List ℕ)) (shares : List SavedShare) (i : ℕ) (share : SavedShare)
    → i < length shares → share ≡ get_or shares i share
    → fold with_name before (strangers nodes (take (i + 1) shares))
    ≡ (if is_none (place_named share.node nodes)
    then with_name (fold with_name before (strangers nodes (take i shares))) share.node
    else fold with_name before (strangers nodes (take i shares)))
share-more nodes before shares i share below is =
    let node_of : SavedShare → List ℕ = λ share. share.node in
    let apart : List ℕ → Bool = λ name. is_none (place_named name nodes) in
    ap (λ some. fold with_name before (strangers nodes some)) (take_more shares i share below ∙ ap (λ last. take i shares ++ last ∷ []) (sym is))
    ∙ ap (λ names. fold with_name before (filter apart names)) (map-append node_of (take i shares) (share ∷ []))
    ∙ ap (fold with_name before) (filter-append apart (map node_of (take i shares)) (share.node ∷ []))
    ∙ fold-append with_name before (strangers nodes (take i shares)) (filter apart (share.node ∷ []))
    ∙ one-name (apart share.node) (fold with_name before (strangers nodes (take i shares))) share.node

-- the names so far, with those of one placement more
pub placed-more : (nodes : List NodeRecord) (plan : List SavedPlaced) (i : ℕ) (placed : SavedPlaced)
    → i < length plan → placed ≡ get_or plan i placed
    → gone_names nodes (take (i + 1) plan) ≡ fold with_name (gone_names nodes (take i plan)) (strangers nodes placed.shares)
unfolding gone_names
placed-more nodes plan i placed below is =
    let each : SavedPlaced → List (List ℕ) = λ placed. strangers nodes placed.shares in
    ap (λ some. fold with_name [] (flat_map each some)) (take_more plan i placed below ∙ ap (λ last. take i plan ++ last ∷ []) (sym is))
    ∙ ap (fold with_name []) (flat_map-append each (take i plan) (placed ∷ []))
    ∙ ap (λ last. fold with_name [] (flat_map each (take i plan) ++ last)) (append-nil (each placed))
    ∙ fold-append with_name [] (flat_map each (take i plan)) (each placed)

pub ruleset adding = (share-more, placed-more, fold-append)
