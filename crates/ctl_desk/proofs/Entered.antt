-- The entries behind one more, by what its parts are.
use Rattle.std.proofs.Common.{◌≡◌, ◌∙◌, ℕ, List, [], ◌∷◌, ◌++◌, ap, sym, if◌then◌else◌}
use Rattle.reply_data.specs.declared.reply.Reply.{Reply}
use Rattle.request_data.specs.declared.request.Request.{Request}
use Rattle.ctl_core.specs.Step.{is_entered}
use Rattle.ctl_desk.specs.declared.entry.Entry.{Entry}

-- an entry by its parts
abbrev pub entry_with : ℕ → ℕ → List ℕ → Request → Reply → Entry
entry_with session moment user request reply = record {
  session = session;
  moment = moment;
  user = user;
  request = request;
  reply = reply;
}

-- the entries once what was told is entered
abbrev pub entered_behind : List Entry → Entry → Reply → List Entry
entered_behind entries entry told = if is_entered told then entries ++ entry ∷ [] else entries

pub entered_as : (after old were : List Entry) (session moment moment' : ℕ) (user user' : List ℕ) (request : Request)
    (reply reply' told : Reply)
    → after ≡ entered_behind old (entry_with session moment user request reply) reply
    → told ≡ reply → old ≡ were → moment ≡ moment' → user ≡ user' → reply ≡ reply'
    → after ≡ entered_behind were (entry_with session moment' user' request reply') told
entered_as after old were session moment moment' user user' request reply reply' told is telling entries at by said =
    is
    ∙ ap (λ entries. entered_behind entries (entry_with session moment user request reply) reply) entries
    ∙ ap (λ moment. entered_behind were (entry_with session moment user request reply) reply) at
    ∙ ap (λ user. entered_behind were (entry_with session moment' user request reply) reply) by
    ∙ ap (λ one. entered_behind were (entry_with session moment' user' request one) reply) said
    ∙ ap (entered_behind were (entry_with session moment' user' request reply')) (sym telling)
