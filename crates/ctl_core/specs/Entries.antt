-- How the history keeps a reply. Of the proof alone: no public call speaks of it.
use Rattle.reply_data.specs.declared.reply.Reply.{Reply}
use Rattle.reply_data.specs.declared.reply.Reply.TheVariants as told
use Rattle.ctl_core.specs.declared.entered.Kept.{Kept}
use Rattle.ctl_core.specs.declared.entered.Kept.TheVariants.{Submitted, Done, Passed, Orders}

-- the reply that is kept so
abbrev pub reply_kept : Kept → Reply
reply_kept (Submitted id) = told.Submitted id
reply_kept Done = told.Done
reply_kept (Passed ended started planned) = told.Passed ended started planned
reply_kept (Orders orders) = told.Orders orders
