-- Lists of which members change one after the other.
use Rattle.std.proofs.Common.{◌≡◌, ℕ, zero, suc, ◌+◌, ◌<◌, List, [], ◌∷◌, length, get_or, HoldsAt, refl, sym, ap, ◌∙◌, arith}
use Rattle.std.proofs.lemmas.List.{get_or_default}
use Rattle.std.proofs.lemmas.Option.{get_or_from_slice_get, slice_get-get_or}
use Rattle.plain_data.specs.declared.conf.PartState.{PartState}
use Rattle.node_state.specs.declared.record.NodeChange.{NodeChange}
use Rattle.node_state.specs.declared.record.NodeRecord.{NodeRecord}
use Rattle.node_state.specs.declared.partition_record.PartRecord.{PartRecord}
use Rattle.node_state.specs.Nodes.{change_at, changed}
use Rattle.node_state.specs.Partitions.{in_state, in_state_at}
use Rattle.job_table.specs.Walks.{NothingAtPlace, SameAtPlace, TwiceAtPlace, WalkGoesOn, WalkKeepsRest, map_at, walked}

-- a partition that changes is a member that does
pub partition-at : (place : ℕ) (state : PartState) (partitions : List PartRecord)
    → in_state_at place state partitions ≡ map_at place (in_state state) partitions
partition-at place state [] = refl
partition-at zero state (partition ∷ later) = refl
partition-at (suc place) state (partition ∷ later) = ap (λ rest. partition ∷ rest) (partition-at place state later)

-- a walk goes on by a member that becomes what the walk makes of it
pub walk-there : {X : Type 0} → SameAtPlace X → WalkGoesOn X → (f g : X → X) (place : ℕ) (xs before : List X) (x : X)
    → before ≡ walked g place xs → place < length xs → place < length before → x ≡ get_or before place x → f x ≡ g x
    → map_at place f before ≡ walked g (place + 1) xs
walk-there same goes_on f g place xs before x walk inside there is alike =
    same f g place before (λ d. rw (get_or_default before place d x there, ← is) alike)
    ∙ ap (map_at place g) walk ∙ goes_on g place xs inside

-- and past one that stays
pub walk-past : {X : Type 0} → NothingAtPlace X → WalkGoesOn X → (g : X → X) (place : ℕ) (xs before : List X) (x : X)
    → before ≡ walked g place xs → place < length xs → place < length before → x ≡ get_or before place x → g x ≡ x
    → before ≡ walked g (place + 1) xs
walk-past nothing goes_on g place xs before x walk inside there is stays =
    sym (nothing g place before (λ d. rw (get_or_default before place d x there, ← is) stays))
    ∙ ap (map_at place g) walk ∙ goes_on g place xs inside

-- four changes of one member are one
pub four-changes : {X : Type 0} → TwiceAtPlace X → (f g h k : X → X) (place : ℕ) (xs : List X)
    → map_at place k (map_at place h (map_at place g (map_at place f xs)))
    ≡ map_at place (λ x. k (h (g (f x)))) xs
four-changes twice f g h k place xs =
    ap (λ ys. map_at place k (map_at place h ys)) (twice f g place xs)
    ∙ ap (map_at place k) (twice (λ x. g (f x)) h place xs)
    ∙ twice (λ x. h (g (f x))) k place xs
