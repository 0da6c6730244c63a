use Rattle.std.proofs.Common.{sym, ◌∙◌}
use Rattle.assoc_reader.proofs.IndexLemmas.{account-more, account-same, user-more, user-same}
use Rattle.assoc_reader.proofs.name_index.NameIndex.add.Goals as goal

pub returns-in_ok-insert-clause-more : goal.returns-in_ok-insert-clause-more
returns-in_ok-insert-clause-more c = λ assocs is size new. record {
  accounts = λ name. is.accounts name ∙ sym (account-same assocs c.args.assoc.now name c.if-assoc.true);
  users = λ parent name.
      let old = is.users parent name in
      c.in_ok-insert.ensures.updates.0 (parent, name) ∙ (rw (c.in_ok-name.ensures, old) (sym (user-more assocs c.args.assoc.now parent name c.if-assoc.true)));
}

pub returns-in_ok-insert-2-clause-more : goal.returns-in_ok-insert-2-clause-more
returns-in_ok-insert-2-clause-more c = λ assocs is size new. record {
  accounts = λ name.
      let old = is.accounts name in
      c.in_ok-insert-2.ensures.updates.0 name ∙ (rw (c.in_ok-name.ensures, old, ← size) (sym (account-more assocs c.args.assoc.now name c.if-assoc.false (new c.if-assoc.false))));
  users = λ parent name. is.users parent name ∙ sym (user-same assocs c.args.assoc.now parent name c.if-assoc.false);
}
