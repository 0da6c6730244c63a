-- The opening has all that is kept, and each step keeps it.
use Rattle.std.proofs.Common.{ℕ, ◌≡◌, ◌≢◌, ◌∙◌, ◌≤◌, ◌⊎◌, ◌+◌, zero, suc, Bool, true, false, if◌then◌else◌, List, [], map, length, All, Any, Option, None, Some, slice_get, refl, ap, sym, subst, arith, inl, inr}
use Rattle.std.specs.Prelude.{replicate}
use Rattle.std.proofs.lemmas.List.{length-map}
use Rattle.std.proofs.lemmas.List.Elements.{All-map, All-nil, All-replicate}
use Rattle.plain_data.specs.Assocs.{AssocView}
use Rattle.plain_data.specs.Confs.{ConfView}
use Rattle.plain_data.specs.declared.conf.NodeConf.{NodeConf}
use Rattle.plain_data.specs.declared.conf.PartConf.{PartConf}
use Rattle.plain_data.specs.declared.conf.Settings.{Settings}
use Rattle.reply_data.specs.declared.refusal.Refusal.{Refusal}
use Rattle.reply_data.specs.declared.reply.Reply.TheVariants.{Done}
use Rattle.request_data.specs.declared.request.Request.{Request}
use Rattle.request_data.specs.declared.request.Request.TheVariants.{Reconfigure}
use Rattle.node_state.specs.declared.record.DroppedNode.{DroppedNode}
use Rattle.node_state.specs.declared.record.NodeRecord.{NodeRecord}
use Rattle.node_state.specs.Nodes.{opened as opened_node, place_named}
use Rattle.job_table.specs.Usage.{greatest_usage}
use Rattle.ctl_state.specs.Refusals.{first_refusal, unless_refused}
use Rattle.ctl_state.specs.Soundness.{IsSound}
use Rattle.ctl_state.specs.State.{State, last_moment, opening}
use Rattle.ctl_state.specs.Verdicts.{Verdict, Stays, Makes, left_by, reply_by}
use Rattle.ctl_reconfigure.specs.Blocking.{blocked}
use Rattle.ctl_reconfigure.specs.Files.{IsFile}
use Rattle.ctl_reconfigure.specs.Reconfiguring.{reconfigured, settings_after}
use Rattle.ctl_reconfigure.specs.Same.{is_same}
use Rattle.ctl_core.specs.Sizes.{has_room, size_of}
use Rattle.ctl_core.specs.Step.{early_refusals, entered, is_entered, raised, refusals_of, reply_of, state_after, unless_full}
use Rattle.step_lemmas.proofs.Making.{ByAction, ByReconfigure, MayMake}
use Rattle.step_lemmas.proofs.Steps.{step_is}
use Rattle.saved_laws.specs.Kept.{AreFiles, HasTasks, IsAlone, IsInTypes, IsKept, IsKeptOver, IsOfItsNames, IsOnNodes, IsReserved, IsTask, IsTimed, Numbers, OnlyUsersUse, Stands, in_force, is_reconfigure, most_jobs, numbers_of, part_confs_of}
use Rattle.saved_laws.specs.Scripts.{KeepsRanges}
use Rattle.saved_laws.proofs.NamesKept.{fixed_stays, names_fixed, new_names}
use Rattle.saved_laws.proofs.NumbersWalk.{Numbered, made_numbered}
use Rattle.saved_laws.proofs.Opened.{LeavesFiles, left_dropped, left_gone, made_opened, same_force}
use Rattle.saved_laws.proofs.PlanKept.{PlanLaws, Plans, made_plan}
use Rattle.saved_laws.proofs.Renewed.{RenewalLaws, confs_opened, force_after, lines_opened, renewed_force, renewed_kept}
use Rattle.saved_laws.proofs.ReservationsKept.{AreReserved, made_reserved}
use Rattle.saved_laws.proofs.StandingKept.{Standing, all_later, made_standing}
use Rattle.saved_laws.proofs.TimesKept.{new_timed, timed_stays}
use Rattle.saved_laws.proofs.UsageKept.{of_users, made_use}
use Rattle.saved_laws.proofs.Walks.{made_true}
use Rattle.ctl_reconfigure.proofs.Refused.{unblocked as blocks_none}

-- what is known of plans and of new files
pub record KeepLaws : Type 0 where
  pub plans : PlanLaws
  pub renewals : RenewalLaws

-- ---- the opening

-- no node was heard of yet
unheard : (confs : List NodeConf) → All (λ (conf : NodeConf). Stands 0 (opened_node conf)) confs
unheard confs k d below = record { empty = λ is. absurd (cc); heard = tt }

nothing-used : (n k total : ℕ) → slice_get (replicate n 0) k ≡ Some total → total ≡ 0
nothing-used zero k total is = absurd (cc)
nothing-used (suc n) zero total is = cc
nothing-used (suc n) (suc k) total is = nothing-used n k total is

-- the slurm.conf in force is the one that opened
pub opening_force : (conf : ConfView) (file : AssocView) → in_force (opening conf file) ≡ conf
opening_force conf file =
    ap (λ nodes. force conf.settings nodes (part_confs_of (opening conf file).partitions)) (confs_opened conf.nodes)
    ∙ ap (force conf.settings conf.nodes) (lines_opened (map opened_node conf.nodes) conf.partitions)
  where
    force : Settings → List NodeConf → List PartConf → ConfView
    force settings nodes partitions = record { settings = settings; nodes = nodes; partitions = partitions }

opening-kept : (conf : ConfView) (file : AssocView) → IsKept (opening conf file) (opening conf file)
opening-kept conf file = record {
  files = record {
    settings = refl;
    assocs = refl;
    qos = refl;
    partitions = refl;
    nodes = refl;
  };
  standing = All-map (Stands 0) opened_node conf.nodes (unheard conf.nodes);
  names = All-nil (IsOfItsNames (opening conf file));
  timed = All-nil IsTimed;
  few = omega arith;
  numbered = record {
    rising = λ i j d before below. absurd (omega (arith, below));
    arrays = All-nil (HasTasks conf.settings.first_job_id []);
    jobs = All-nil (λ (job : Numbers). IsAlone job ⊎ Any (IsTask job) []);
  };
  reserved = All-nil (IsReserved (opening conf file).nodes);
  used = record {
    users = λ k assoc total at is not. nothing-used (length file.assocs) k total is;
    most = All-replicate (λ (total : ℕ). total ≤ greatest_usage) (length file.assocs) 0 (omega arith);
  };
  dropped = record {
    ordered = λ i j d before below. absurd (omega (arith, below));
    once = λ i j d before below. absurd (omega (arith, below));
    absent = All-nil (λ (node : DroppedNode). place_named node.name (opening conf file).nodes ≡ None);
  };
  gone = record {
    once = λ i j d before below. absurd (omega (arith, below));
    absent = All-nil (λ (name : List ℕ). place_named name (opening conf file).nodes ≡ None);
  };
  planned = All-nil (IsOnNodes (length (opening conf file).nodes + 0));
}

pub opening_kept : (conf : ConfView) (file : AssocView) → AreFiles conf file → IsKeptOver file (opening conf file)
opening_kept conf file files =
    let first = opening conf file in
    let same = sym (opening_force conf file) in
    record {
      files = subst (λ (conf : ConfView). AreFiles conf file) same files;
      kept = subst (λ (conf : ConfView). IsKept (opening conf file) first) same (opening-kept conf file);
    }

-- ---- a step

-- what is kept of jobs, and what of all else
pub record AreJobsKept (opened s : State) : Type 0 where
  pub names : All (IsOfItsNames opened) s.jobs
  pub timed : All IsTimed s.jobs
  pub numbered : Numbered most_jobs s

pub record IsElseKept (opened s : State) (moment : ℕ) : Type 0 where
  pub standing : Standing moment s
  pub reserved : AreReserved opened s
  pub used : OnlyUsersUse s.assocs s.usage
  pub planned : Plans (length opened.nodes + length s.gone) s

-- what a request makes of jobs
jobs-made : (opened s : State) (moment : ℕ) (user : List ℕ) (request : Request) (after : State) → IsSound s
    → s.settings.max_job_count ≤ most_jobs → IsKept opened s → IsInTypes request
    → first_refusal (refusals_of s moment user request) ≡ None → MayMake s moment user request after
    → AreJobsKept opened after
jobs-made opened s moment user request after sound most kept types none kind = record {
  names = made_true (IsOfItsNames opened) (fixed_stays (IsOfItsNames opened) (names_fixed opened)) s moment user request after
      kept.names (λ desc basis asks is. new_names opened s kept.files moment user desc basis is) kind;
  timed = made_true IsTimed timed_stays s moment user request after kept.timed
      (λ desc basis asks is. new_timed s moment user desc basis) kind;
  numbered = made_numbered most_jobs s moment user request after sound most types none
      (record { few = omega (arith, kept.few, length-map s.jobs numbers_of); numbered = kept.numbered }) kind;
}

-- what it makes of all else where it is no new slurm.conf
else-made : PlanLaws → (opened s : State) (moment : ℕ) (user : List ℕ) (request : Request) (after : State)
    → is_reconfigure request ≡ false → first_refusal (refusals_of s moment user request) ≡ None → IsSound s
    → IsKept opened s → IsInTypes request → s.moment ≤ moment → moment ≤ last_moment → LeavesFiles s after
    → MayMake s moment user request after → IsElseKept opened after moment
else-made laws opened s moment user request after other none sound kept types later in_time leaves kind =
    let count : length s.nodes ≡ length opened.nodes =
    sym (length-map s.nodes (λ (node : NodeRecord). node.conf)) ∙ ap length kept.files.nodes
    ∙ length-map opened.nodes (λ (node : NodeRecord). node.conf) in
    record {
      standing = made_standing s moment user request after (all_later s.moment moment s.nodes later kept.standing) kind;
      reserved = made_reserved opened s moment user request after other none kept.files types kept.reserved kind;
      used = made_use s moment user request after (of_users s sound.of_accounts) kept.used kind;
      planned = subst (λ gone. Plans (length opened.nodes + length gone) after) (sym leaves.gone)
          (made_plan laws (length opened.nodes + length s.gone) s moment user request after other sound later in_time
          (omega (arith, count)) kept.planned kind);
    }

-- what is kept of the state that a request makes which is no new slurm.conf, once it bears its moment and size
other-kept : (file : AssocView) (s after : State) (moment size : ℕ) → IsKeptOver file s → LeavesFiles s after
    → AreJobsKept (opening (in_force s) file) after → IsElseKept (opening (in_force s) file) after moment
    → IsKeptOver file (entered moment size after)
other-kept file s after moment size kept leaves jobs all =
    let opened = opening (in_force s) file in
    let same = sym (same_force s after leaves) in
    record {
      files = subst (λ (conf : ConfView). AreFiles conf file) same kept.files;
      kept = subst (λ (conf : ConfView). IsKept (opening conf file) (entered moment size after)) same (record {
        files = record {
          settings = leaves.settings ∙ kept.kept.files.settings;
          assocs = leaves.assocs ∙ kept.kept.files.assocs;
          qos = leaves.qos ∙ kept.kept.files.qos;
          partitions = leaves.partitions ∙ kept.kept.files.partitions;
          nodes = leaves.nodes ∙ kept.kept.files.nodes;
        };
        standing = all.standing;
        names = jobs.names;
        timed = jobs.timed;
        few = omega (arith, jobs.numbered.few, length-map after.jobs numbers_of);
        numbered = jobs.numbered.numbered;
        reserved = all.reserved;
        used = all.used;
        dropped = left_dropped s after leaves kept.kept.dropped;
        gone = left_gone s after leaves kept.kept.gone;
        planned = all.planned;
      });
    }

other-step : PlanLaws → (file : AssocView) (s : State) (now : ℕ) (user : List ℕ) (request : Request)
    → is_reconfigure request ≡ false → IsSound s → IsInTypes request → IsKeptOver file s
    → IsKeptOver file (state_after s now user request)
other-step laws file s now user request other sound types kept =
    let opened = opening (in_force s) file in
    let moment = raised s now in
    step_is (IsKeptOver file) s now user request kept (λ reply after is.
    let leaves = made_opened s moment user request after other is.kind in
    other-kept file s after moment (size_of request) kept leaves
    (jobs-made opened s moment user request after sound kept.files.most kept.kept types is.allowed is.kind)
    (else-made laws opened s moment user request after other is.allowed sound kept.kept types (omega arith)
    (omega (arith, is.in_time, sound.moment)) leaves is.kind))

-- what a new one makes
conf-kept : RenewalLaws → (file : AssocView) (s : State) (moment size : ℕ) (user : List ℕ) (conf : ConfView)
    (bytes : ℕ) (after : State) → IsSound s → IsFile conf → conf.settings.max_job_count ≤ most_jobs → s.moment ≤ moment
    → blocked s conf ≡ None → IsKeptOver file s → AreJobsKept (opening (in_force s) file) after
    → MayMake s moment user (Reconfigure conf bytes) after → IsKeptOver file (entered moment size after)
conf-kept laws file s moment size user conf bytes after sound ranges types later free kept jobs (ByReconfigure new count) =
    let request = Reconfigure conf bytes in
    let kind : MayMake s moment user request after = ByReconfigure conf bytes in
    renewed_kept laws file s moment size conf sound ranges types free kept jobs.names jobs.timed jobs.numbered
    (made_standing s moment user request after (all_later s.moment moment s.nodes later kept.kept.standing) kind)
    (made_use s moment user request after (of_users s sound.of_accounts) kept.kept.used kind)
conf-kept laws file s moment size user conf bytes after sound ranges types later free kept jobs (ByAction action named asks) =
    elim asks [ ]

conf-step : RenewalLaws → (file : AssocView) (s : State) (now : ℕ) (user : List ℕ) (conf : ConfView) (bytes : ℕ)
    → IsSound s → IsFile conf → IsInTypes (Reconfigure conf bytes) → IsKeptOver file s
    → IsKeptOver file (state_after s now user (Reconfigure conf bytes))
conf-step laws file s now user conf bytes sound ranges types kept =
    let opened = opening (in_force s) file in
    let moment = raised s now in
    let request = Reconfigure conf bytes in
    step_is (IsKeptOver file) s now user request kept (λ reply after is.
    conf-kept laws file s moment (size_of request) user conf bytes after sound ranges types (omega arith)
    (blocks_none s user conf is.allowed) kept
    (jobs-made opened s moment user request after sound kept.files.most kept.kept types is.allowed is.kind) is.kind)

-- a request is a new slurm.conf, or isn't
conf-or-other : (request : Request)
    → ((conf : ConfView) × (bytes : ℕ) × (request ≡ Reconfigure conf bytes)) ⊎ (is_reconfigure request ≡ false)
conf-or-other (Reconfigure conf bytes) = inl (conf, bytes, refl)
conf-or-other request = inr refl

pub step_kept : KeepLaws → (file : AssocView) (s : State) (now : ℕ) (user : List ℕ) (request : Request)
    → IsSound s → KeepsRanges request → IsKeptOver file s → IsKeptOver file (state_after s now user request)
step_kept laws file s now user request sound ranges kept = elim (conf-or-other request) [
  | inl found ↦
      let own = subst KeepsRanges found.2 ranges in
      subst (λ (one : Request). IsKeptOver file (state_after s now user one)) (sym found.2)
      (conf-step laws.renewals file s now user found.0 found.1 sound own.0 own.1 kept)
  | inr other ↦ other-step laws.plans file s now user request other sound ranges.1 kept
]

-- ---- the slurm.conf in force

pub force_stays : (s : State) (now : ℕ) (user : List ℕ) (request : Request) → is_reconfigure request ≡ false
    → in_force (state_after s now user request) ≡ in_force s
force_stays s now user request other =
    step_is (λ (t : State). in_force t ≡ in_force s) s now user request refl
    (λ reply after is. same_force s after (made_opened s (raised s now) user request after other is.kind))

-- and no more nodes are gone
pub gone_stays : (s : State) (now : ℕ) (user : List ℕ) (request : Request) → is_reconfigure request ≡ false
    → (state_after s now user request).gone ≡ s.gone
gone_stays s now user request other =
    step_is (λ (t : State). t.gone ≡ s.gone) s now user request refl
    (λ reply after is. (made_opened s (raised s now) user request after other is.kind).gone)

-- one that isn't done leaves all as it was
undone-conf : (s : State) (now : ℕ) (user : List ℕ) (conf : ConfView) (bytes : ℕ)
    → reply_of s now user (Reconfigure conf bytes) ≢ Done → state_after s now user (Reconfigure conf bytes) ≡ s
undone-conf s now user conf bytes undone =
    let request = Reconfigure conf bytes in
    by-early (first_refusal (early_refusals s now request)) (first_refusal (refusals_of s (raised s now) user request))
    (has_room s request) (is_same s conf) undone
  where
    verdict : (early late : Option Refusal) (room same : Bool) → Verdict
    verdict early late room same =
        unless_refused early (unless_refused late (unless_full room
        (if same then Stays else Makes Done (reconfigured s (raised s now) conf))))

    by-early : (early late : Option Refusal) (room same : Bool) → reply_by (verdict early late room same) ≢ Done
        → (if is_entered (reply_by (verdict early late room same))
        then entered (raised s now) (size_of (Reconfigure conf bytes)) (left_by s (verdict early late room same))
        else s) ≡ s
    by-early (Some refusal) late room same undone = refl
    by-early None (Some refusal) room same undone = refl
    by-early None None true true undone = refl
    by-early None None false true undone = refl
    by-early None None false false undone = refl
    by-early None None true false undone = absurd (undone refl)

-- where none is taken, the one in force stays, and no more nodes are gone
pub none_taken : (s : State) (now : ℕ) (user : List ℕ) (request : Request)
    → (is_reconfigure request ≡ true → reply_of s now user request ≢ Done)
    → (in_force (state_after s now user request) ≡ in_force s) × ((state_after s now user request).gone ≡ s.gone)
none_taken s now user request undone = elim (conf-or-other request) [
  | inl found ↦
      let Undone : Request → Type 0 = λ one. is_reconfigure one ≡ true → reply_of s now user one ≢ Done in
      let same : state_after s now user request ≡ s =
      ap (λ (one : Request). state_after s now user one) found.2
      ∙ undone-conf s now user found.0 found.1 (subst Undone found.2 undone refl) in
      (ap in_force same, ap (λ (t : State). t.gone) same)
  | inr other ↦ (force_stays s now user request other, gone_stays s now user request other)
]

-- where a new one is taken it is in force
pub conf_taken : (s : State) (now : ℕ) (user : List ℕ) (conf : ConfView) (bytes : ℕ)
    → reply_of s now user (Reconfigure conf bytes) ≡ Done
    → in_force (state_after s now user (Reconfigure conf bytes))
    ≡ record conf { settings = settings_after s.settings conf.settings }
conf_taken s now user conf bytes done =
    let request = Reconfigure conf bytes in
    let moment = raised s now in
    by-early (first_refusal (early_refusals s now request)) (first_refusal (refusals_of s moment user request))
    (has_room s request) (is_same s conf) done
  where
    Is : State → Type 0
    Is t = in_force t ≡ renewed_force s conf

    left : ℕ → ℕ → Verdict → State
    left moment size verdict = if is_entered (reply_by verdict) then entered moment size (left_by s verdict) else s

    by-early : (early late : Option Refusal) (room same : Bool)
        → reply_by (unless_refused early (unless_refused late (unless_full room
        (if same then Stays else Makes Done (reconfigured s (raised s now) conf))))) ≡ Done
        → Is (left (raised s now) (size_of (Reconfigure conf bytes)) (unless_refused early (unless_refused late
        (unless_full room (if same then Stays else Makes Done (reconfigured s (raised s now) conf))))))
    by-early (Some refusal) late room same done = absurd (cc)
    by-early None (Some refusal) room same done = absurd (cc)
    by-early None None true true done = absurd (cc)
    by-early None None false true done = absurd (cc)
    by-early None None false false done = absurd (cc)
    by-early None None true false done = force_after s (raised s now) conf
