-- Why a saved state gives no controller.
use Rattle.std.specs.Prelude.{ℕ, List, codes}
use Rattle.ctl_restore.specs.declared.refusal.RestoreRefusal.{RestoreRefusal}
use Rattle.ctl_restore.specs.declared.refusal.RestoreRefusal.TheVariants.{Unfit, Memory}

-- what is printed of a refusal
abbrev pub restore_message : RestoreRefusal → List ℕ
restore_message Unfit = codes "the saved state doesn't fit"
restore_message Memory = codes "out of memory"
