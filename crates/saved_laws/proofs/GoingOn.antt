-- What comes back is kept, and a restored controller goes on.
use Rattle.std.proofs.Common.{ℕ, ◌≡◌, ◌∙◌, ◌+◌, Bool, false, List, [], ◌++◌, map, length, All, refl, ap, sym, subst, arith}
use Rattle.plain_data.specs.Assocs.{AssocView}
use Rattle.plain_data.specs.Confs.{ConfView}
use Rattle.command_words.specs.declared.header.Meaning.{Meaning}
use Rattle.ctl_state.specs.Soundness.{IsSound}
use Rattle.ctl_state.specs.State.{State, opening}
use Rattle.backfill_planner.specs.declared.Placed.{Placed}
use Rattle.saved_data.specs.declared.parts.SavedPlaced.{SavedPlaced}
use Rattle.ctl_saved.specs.Saving.{saved_of, saved_placed}
use Rattle.ctl_restore.specs.Restored.{gone_names, restored, restored_placed}
use Rattle.saved_laws.specs.Gone.{NamesEachGone}
use Rattle.saved_laws.specs.Kept.{AreFiles, AreGone, IsKept, IsKeptOver, IsOnNodes, confs_of, in_force}
use Rattle.saved_laws.specs.Rooms.{IsNoFuller, sized}
use Rattle.saved_laws.specs.Scripts.{AsksInRange, GoesOnFrom, HaveRoom, KeepConf}
use Rattle.script_run.specs.Script.{state_behind_all, told_all}
use Rattle.saved_laws.proofs.AllBack.{all_back, all_but_plan_back, gone_again, none_is_gone, plan_again, whole_back}
use Rattle.saved_laws.proofs.PlacesBack.{gone_same}
use Rattle.saved_laws.proofs.PlanAgain.{gone_again_kept, plan_again_on, plan_again_saved}
use Rattle.saved_laws.proofs.Telling.{all_told_alike, behind_all_alike, behind_goes_on, told_goes_on}

-- ---- what comes back

-- all is kept of a state before any size and shutdown, and with a plan of nodes that are there or are gone
cleared-kept : (first s : State) (plan : List Placed) (gone : List (List ℕ)) → IsKept first s → AreGone s.nodes gone
    → All (IsOnNodes (length first.nodes + length gone)) plan
    → IsKept first (record s { plan = plan; gone = gone; size = 0; is_shut = false })
cleared-kept first s plan gone kept are planned = record {
  files = record {
    settings = kept.files.settings;
    assocs = kept.files.assocs;
    qos = kept.files.qos;
    partitions = kept.files.partitions;
    nodes = kept.files.nodes;
  };
  standing = kept.standing;
  names = kept.names;
  timed = kept.timed;
  few = kept.few;
  numbered = kept.numbered;
  reserved = kept.reserved;
  used = kept.used;
  dropped = kept.dropped;
  gone = are;
  planned = planned;
}

-- the plan that comes back is on nodes that are there or are gone
planned-back : (first s : State) → confs_of s.nodes ≡ confs_of first.nodes
    → All (IsOnNodes (length first.nodes + length (gone_again s))) (plan_again first.nodes s)
planned-back first s same =
    let saved = map (saved_placed s.nodes s.gone) s.plan in
    subst (λ gone. All (IsOnNodes (length first.nodes + length gone)) (map (restored_placed first.nodes gone) saved))
    (gone_same first.nodes s.nodes (sym same) saved) (plan_again_on first.nodes saved)

-- all is kept of the restored state
pub back_kept : (conf : ConfView) (file : AssocView) (s : State) → AreFiles conf file → IsSound s
    → IsKept (opening conf file) s → IsKept (opening conf file) (restored conf file (saved_of s))
back_kept conf file s files sound kept =
    let one = opening conf file in
    subst (IsKept one) (sym (all_but_plan_back conf file s files.conf files.file sound kept))
    (cleared-kept one s (plan_again one.nodes s) (gone_again s) kept
    (gone_again_kept s.nodes (map (saved_placed s.nodes s.gone) s.plan)) (planned-back one s kept.files.nodes))

-- so it is over the slurm.conf in force
pub back_over : (file : AssocView) (s : State) → IsSound s → IsKeptOver file s
    → IsKeptOver file (restored (in_force s) file (saved_of s))
back_over file s sound over =
    let one = opening (in_force s) file in
    subst (IsKeptOver file) (sym (all_but_plan_back (in_force s) file s over.files.conf over.files.file sound over.kept))
    (record {
      files = over.files;
      kept = cleared-kept one s (plan_again one.nodes s) (gone_again s) over.kept
          (gone_again_kept s.nodes (map (saved_placed s.nodes s.gone) s.plan)) (planned-back one s over.kept.files.nodes);
    })

-- its plan is saved as it was saved before
same-plan : (first s : State) → confs_of s.nodes ≡ confs_of first.nodes
    → map (saved_placed s.nodes (gone_again s)) (plan_again first.nodes s) ≡ map (saved_placed s.nodes s.gone) s.plan
same-plan first s same =
    let saved = map (saved_placed s.nodes s.gone) s.plan in
    ap (λ gone. map (saved_placed s.nodes gone) (map (restored_placed first.nodes gone) saved))
    (gone_same s.nodes first.nodes same saved)
    ∙ plan_again_saved first.nodes s.nodes same saved

-- and names each node that is gone
pub back_named : (conf : ConfView) (file : AssocView) (s : State) → AreFiles conf file → IsSound s
    → IsKept (opening conf file) s → NamesEachGone (restored conf file (saved_of s))
back_named conf file s files sound kept =
    subst NamesEachGone (sym (all_but_plan_back conf file s files.conf files.file sound kept))
    (ap (gone_names s.nodes) (same-plan (opening conf file) s kept.files.nodes))

same-saved : (s : State) (plan : List Placed) (gone : List (List ℕ))
    → map (saved_placed s.nodes gone) plan ≡ map (saved_placed s.nodes s.gone) s.plan
    → saved_of (record s { plan = plan; gone = gone; size = 0; is_shut = false }) ≡ saved_of s
unfolding saved_of
same-saved s plan gone same = ap (λ (plan : List SavedPlaced). record (saved_of s) { plan = plan }) same

-- the same is saved of it
pub saved_again : (conf : ConfView) (file : AssocView) (s : State) → AreFiles conf file → IsSound s
    → IsKept (opening conf file) s → saved_of (restored conf file (saved_of s)) ≡ saved_of s
saved_again conf file s files sound kept =
    let one = opening conf file in
    ap saved_of (all_but_plan_back conf file s files.conf files.file sound kept)
    ∙ same-saved s (plan_again one.nodes s) (gone_again s) (same-plan one s kept.files.nodes)

-- all comes back behind what takes no new slurm.conf
pub behind_back : (conf : ConfView) (file : AssocView) (behind s : State)
    → IsSound behind × IsKeptOver file behind
    → (in_force behind ≡ in_force (opening conf file)) × (behind.gone ≡ (opening conf file).gone)
    → in_force (opening conf file) ≡ conf → behind ≡ s
    → restored conf file (saved_of s) ≡ record s { size = 0; is_shut = false }
behind_back conf file behind s kept stays first there =
    subst (λ (s : State). restored conf file (saved_of s) ≡ record s { size = 0; is_shut = false }) there
    (subst (λ (conf : ConfView). restored conf file (saved_of behind) ≡ record behind { size = 0; is_shut = false })
    (stays.0 ∙ first)
    (whole_back (in_force behind) file behind kept.1.files.conf kept.1.files.file kept.0 kept.1.kept stays.1))

-- ---- going on

-- what openings and scripts keep
pub record AllIsKept : Type 0 where
  pub openings : (conf : ConfView) (file : AssocView) → AreFiles conf file → IsKeptOver file (opening conf file)
  pub first : (conf : ConfView) (file : AssocView) → in_force (opening conf file) ≡ conf
  pub scripts : (file : AssocView) (s : State) (script : List Meaning) → IsSound s → All AsksInRange script
      → IsKeptOver file s → IsSound (state_behind_all s script) × IsKeptOver file (state_behind_all s script)
  pub stays : (s : State) (script : List Meaning) → KeepConf s script
      → (in_force (state_behind_all s script) ≡ in_force s) × ((state_behind_all s script).gone ≡ s.gone)

-- the state that is restored is no fuller
no-fuller : (file : AssocView) (s : State) → IsSound s → IsKeptOver file s → NamesEachGone s → s.is_shut ≡ false
    → IsNoFuller s (restored (in_force s) file (saved_of s))
no-fuller file s sound kept named open_ =
    let same : sized 0 s ≡ restored (in_force s) file (saved_of s) =
    ap (λ (shut : Bool). record s { size = 0; is_shut = shut }) open_
    ∙ sym (all_back (in_force s) file s kept.files.conf kept.files.file sound kept.kept named) in
    subst (IsNoFuller s) same (record { same = refl; size = omega arith })

gone-on : (t : State) (first next : List Meaning) (s again : State) → state_behind_all t first ≡ s → IsNoFuller s again
    → HaveRoom s next → GoesOnFrom again t first next
gone-on t first next s again there fuller room = record {
  told = told_goes_on t first next
      ∙ ap (λ s. told_all t first ++ told_all s next) there
      ∙ ap (λ later. told_all t first ++ later) (sym (all_told_alike s again next fuller room));
  behind = subst (λ one. IsNoFuller one (state_behind_all again next))
      (sym (behind_goes_on t first next ∙ ap (λ s. state_behind_all s next) there))
      (behind_all_alike s again next fuller room);
}

-- all is kept behind the first part
kept-there : AllIsKept → (file : AssocView) (t : State) (first : List Meaning) (s : State) → IsSound t
    → IsKeptOver file t → All AsksInRange first → state_behind_all t first ≡ s → IsSound s × IsKeptOver file s
kept-there all file t first s sound over ranges there =
    subst (λ (s : State). IsSound s × IsKeptOver file s) there (all.scripts file t first sound ranges over)

-- it goes on where the plan names each node that is gone
pub goes_on : AllIsKept → (file : AssocView) (t : State) (first next : List Meaning) (s : State) → IsSound t
    → IsKeptOver file t → All AsksInRange first → state_behind_all t first ≡ s → s.is_shut ≡ false → NamesEachGone s
    → HaveRoom s next → GoesOnFrom (restored (in_force s) file (saved_of s)) t first next
goes_on all file t first next s sound over ranges there open_ named room =
    let kept = kept-there all file t first s sound over ranges there in
    gone-on t first next s (restored (in_force s) file (saved_of s)) there
    (no-fuller file s kept.0 kept.1 named open_) room

-- and where none was gone, and no new slurm.conf is taken
pub goes_on_whole : AllIsKept → (file : AssocView) (t : State) (first next : List Meaning) (s : State) → IsSound t
    → IsKeptOver file t → t.gone ≡ [] → All AsksInRange first → KeepConf t first → state_behind_all t first ≡ s
    → s.is_shut ≡ false → HaveRoom s next → GoesOnFrom (restored (in_force t) file (saved_of s)) t first next
goes_on_whole all file t first next s sound over none ranges keeps there open_ room =
    let kept = kept-there all file t first s sound over ranges there in
    let stays = all.stays t first keeps in
    let force : in_force s ≡ in_force t = ap in_force (sym there) ∙ stays.0 in
    let gone : s.gone ≡ [] = ap (λ (s : State). s.gone) (sym there) ∙ stays.1 ∙ none in
    subst (λ (conf : ConfView). GoesOnFrom (restored conf file (saved_of s)) t first next) force
    (goes_on all file t first next s sound over ranges there open_
    (none_is_gone (in_force s) file s kept.0 kept.1.kept gone) room)

-- so from the opening on
pub goes_on_opened : AllIsKept → (conf : ConfView) (file : AssocView) (first next : List Meaning) (s : State)
    → AreFiles conf file → IsSound (opening conf file) → All AsksInRange first → KeepConf (opening conf file) first
    → state_behind_all (opening conf file) first ≡ s → s.is_shut ≡ false → HaveRoom s next
    → GoesOnFrom (restored conf file (saved_of s)) (opening conf file) first next
goes_on_opened all conf file first next s files sound ranges keeps there open_ room =
    let one = opening conf file in
    subst (λ (conf : ConfView). GoesOnFrom (restored conf file (saved_of s)) one first next) (all.first conf file)
    (goes_on_whole all file one first next s sound (all.openings conf file files) refl ranges keeps there open_ room)
