-- Plans that name nodes which are no longer there.
use Rattle.std.specs.Prelude.{◌≡◌, map}
use Rattle.ctl_saved.specs.Saving.{saved_placed}
use Rattle.ctl_restore.specs.Restored.{gone_names}
use Rattle.ctl_state.specs.State.{State}

-- The plan names each node that is gone, the first of them first. It is so where none is gone, and of each restored state;
-- a node that the plan names no more is forgotten with the next state that is saved.
abbrev pub NamesEachGone : State → Type 0
NamesEachGone s = gone_names s.nodes (map (saved_placed s.nodes s.gone) s.plan) ≡ s.gone
