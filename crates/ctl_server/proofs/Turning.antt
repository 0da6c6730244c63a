-- A worker's turns, one by one and one after another.
use Rattle.std.proofs.Common.{◌≡◌, ◌⊎◌, ℕ, List, [], ◌∷◌, ◌++◌, Option, Some, None, refl, sym, ap, ◌∙◌, subst, subst₂, inl, inr, ⊎_elim, append_assoc, append-nil, length}
use Rattle.std.proofs.lemmas.List.{map-append}
use Rattle.std.proofs.lemmas.List.Elements.{All-append, All-nil, All-cons}
use Rattle.slurm_io.specs.Wire.{Wire}
use Rattle.slurm_io.specs.Faults.{CountsOne}
use Rattle.slurm_net.specs.Session.{LinkSession, AddsSession}
use Rattle.ctl_desk.specs.Desk.{seen}
use Rattle.ctl_session.specs.declared.session.How.{How}
use Rattle.ctl_session.specs.declared.session.How.TheVariants as how
use Rattle.ctl_session.specs.Session.{EndsByShut, is_shut, given}
use Rattle.ctl_server.specs.declared.working.WorkerEnd.{WorkerEnd}
use Rattle.ctl_server.specs.declared.working.WorkerEnd.TheVariants.{Shut, DoorFault, Memory}
use Rattle.ctl_server.specs.Serving.{Serving, IsServing, cut_of, session_in, sessions_in}
use Rattle.ctl_server.specs.Standing.{Standing}
use Rattle.ctl_server.specs.Run.{IsRefreshed}
use Rattle.ctl_server.specs.Cause.{EachGoesOn, LastEnds, IsEnd, end_by}
use Rattle.ctl_server.specs.Worked.{AddsSessions, IsWorked}
use Rattle.ctl_server.proofs.Following.{stays, follow_on, sessions_on, sessions_stay, gives_on, gives_none, moments_on}

-- ---- one after another

last_on : (how : How) (xs ys : List Serving) → EachGoesOn xs → LastEnds how ys → LastEnds how (xs ++ ys)
last_on how xs ys go_on last = record {
  earlier = xs ++ last.earlier;
  last = last.last;
  all = ap (λ l. xs ++ l) last.all ∙ sym (append_assoc xs last.earlier (last.last ∷ []));
  go_on = All-append (λ serving. end_by serving.ended.how ≡ None) xs last.earlier go_on last.go_on;
  ends = last.ends;
}

cause_on : (old mid new : Standing) (end : Option WorkerEnd) (xs ys : List Serving)
    → IsEnd None xs old mid → IsEnd end ys mid new → IsEnd end (xs ++ ys) old new
cause_on old mid new None xs ys first next =
    (All-append (λ serving. end_by serving.ended.how ≡ None) xs ys first.0 next.0, next.1 ∙ first.1)
cause_on old mid new (Some Shut) xs ys first next = (
  next.0,
  ⊎_elim (λ go_on. inl (All-append (λ serving. end_by serving.ended.how ≡ None) xs ys first.0 go_on))
      (λ last. inr (last_on how.Shut xs ys first.0 last)) next.1,
  next.2 ∙ first.1,
)
cause_on old mid new (Some DoorFault) xs ys first next = (
  next.0,
  All-append (λ serving. end_by serving.ended.how ≡ None) xs ys first.0 next.1,
  subst (λ n. CountsOne n new.faults) first.1 next.2,
)
cause_on old mid new (Some Memory) xs ys first next = (last_on how.Memory xs ys first.0 next.0, next.1 ∙ first.1)

pub worked_on : (old mid new : Standing) (end : Option WorkerEnd) (xs ys : List Serving)
    → IsWorked old mid None xs → IsWorked mid new end ys → IsWorked old new end (xs ++ ys)
worked_on old mid new end xs ys first next = record {
  follow = follow_on old.desk old.clock xs mid.desk mid.clock ys new.desk new.clock first.follow next.follow;
  sessions = rw (map-append session_in xs ys)
      (sessions_on old.sessions mid.sessions new.sessions (sessions_in xs) (sessions_in ys)
      first.sessions next.sessions);
  gives = rw (moments_on xs ys) (gives_on old.clock mid.clock new.clock _ _ first.gives next.gives);
  cause = cause_on old mid new end xs ys first.cause next.cause;
}

-- ---- a turn without a connection

pub worked_none : (old new : Standing) (end : Option WorkerEnd) → new.sessions ≡ old.sessions
    → IsRefreshed old.desk new.desk → new.clock ≡ old.clock → IsEnd end [] old new → IsWorked old new end []
worked_none old new end same refreshed still cause = record {
  follow = (refreshed, still);
  sessions = sessions_stay old.sessions new.sessions same;
  gives = gives_none old.clock new.clock still;
  cause = cause;
}

pub none_went_on : EachGoesOn []
none_went_on = All-nil (λ serving. end_by serving.ended.how ≡ None)

-- ---- a connection

one_went_on : (serving : Serving) → end_by serving.ended.how ≡ None → EachGoesOn (serving ∷ [])
one_went_on serving none = All-cons (λ serving. end_by serving.ended.how ≡ None) serving [] none none_went_on

-- how the worker goes on after a session, by its end
ends : (old new : Standing) (serving : Serving) (end : How) → new.faults ≡ old.faults → new.desk ≡ serving.desk'
    → serving.ended.how ≡ end → EndsByShut serving.desk' serving.ending end → IsEnd (end_by end) (serving ∷ []) old new
ends old new serving how.Closed same at is minds = (one_went_on serving (ap end_by is), same)
ends old new serving (how.Truncated place) same at is minds = (one_went_on serving (ap end_by is), same)
ends old new serving (how.Bad place) same at is minds = (one_went_on serving (ap end_by is), same)
ends old new serving how.Spent same at is minds = (one_went_on serving (ap end_by is), same)
ends old new serving how.ReadFault same at is minds = (one_went_on serving (ap end_by is), same)
ends old new serving how.WriteFault same at is minds = (one_went_on serving (ap end_by is), same)
ends old new serving how.Shut same at is minds = (
  ap is_shut at ∙ minds.0,
  inr (record {
    earlier = [];
    last = serving;
    all = refl;
    go_on = none_went_on;
    ends = is;
  }),
  same,
)
ends old new serving how.Memory same at is minds = (
  record {
    earlier = [];
    last = serving;
    all = refl;
    go_on = none_went_on;
    ends = is;
  },
  same,
)

adds_one : (old new : Option (List LinkSession)) (out : Option Wire) (serving : Serving) → out ≡ Some serving.came
    → AddsSession old new out serving.back (cut_of serving) → AddsSessions old new (sessions_in (serving ∷ []))
adds_one old new out serving is adds =
    told old new (subst (λ o. AddsSession old new o serving.back (cut_of serving)) is adds)
  where
    told : (old new : Option (List LinkSession)) → AddsSession old new (Some serving.came) serving.back (cut_of serving)
        → AddsSessions old new (sessions_in (serving ∷ []))
    told old None adds = tt
    told None (Some after) adds = absurd adds
    told (Some before) (Some after) adds = adds

pub worked_one : (old new : Standing) (out : Option Wire) (serving : Serving) (before after : ℕ)
    → old.desk ≡ serving.desk → old.clock ≡ serving.clock → new.desk ≡ serving.desk' → new.clock ≡ serving.clock'
    → IsServing serving → before ≡ length (seen serving.desk) → after ≡ length (seen serving.desk')
    → out ≡ Some serving.came
    → AddsSession old.sessions new.sessions out serving.back (record {
      before = before;
      after = after;
      answered = serving.ended.answered;
      readings = serving.ended.readings;
    })
    → new.faults ≡ old.faults → IsWorked old new (end_by serving.ended.how) (serving ∷ [])
worked_one old new out serving before after from by to by' served first last is adds same =
    let adds' : AddsSession old.sessions new.sessions out serving.back (cut_of serving) =
    subst₂ (λ b a. AddsSession old.sessions new.sessions out serving.back (record (cut_of serving) {
      before = b;
      after = a;
    })) first last adds in
    record {
      follow = rw (from, by, to, by') (stays serving.desk, refl, served, (stays serving.desk', refl));
      sessions = adds_one old.sessions new.sessions out serving is adds';
      gives = rw (by, by', append-nil (given serving.ending)) served.served.gives;
      cause = ends old new serving serving.ended.how same to refl served.served.shut;
    }
