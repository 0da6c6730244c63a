-- A new file that isn't refused is one that nothing stands against.
use Rattle.std.proofs.Common.{◌≡◌, ℕ, Bool, true, false, not, List, [], ◌∷◌, Option, Some, None, refl}
use Rattle.std.specs.Prelude.{option_map}
use Rattle.plain_data.specs.Confs.{ConfView}
use Rattle.reply_data.specs.declared.refusal.Refusal.{Refusal}
use Rattle.reply_data.specs.declared.refusal.Refusal.TheVariants.{AccessDenied, CannotShrink}
use Rattle.ctl_state.specs.Refusals.{first_refusal, is_privileged, refused_if}
use Rattle.ctl_state.specs.State.{State}
use Rattle.ctl_reconfigure.specs.Blocking.{blocked}
use Rattle.ctl_reconfigure.specs.Refusing.{reconfigure_refusals}

pub unblocked : (s : State) (user : List ℕ) (conf : ConfView) → first_refusal (reconfigure_refusals s user conf) ≡ None
    → blocked s conf ≡ None
unblocked s user conf none = by (not (is_privileged s user)) (blocked s conf) none
  where
    by : (denied : Bool) (name : Option (List ℕ))
        → first_refusal (refused_if denied AccessDenied ∷ option_map CannotShrink name ∷ []) ≡ None → name ≡ None
    by true name none = absurd (let never = none in cc)
    by false None none = refl
    by false (Some name) none = absurd (let never = none in cc)
