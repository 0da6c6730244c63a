use Rattle.std.proofs.Common.{◌≡◌, ◌≤◌, ◌∙◌, length, take, replicate, get_or, refl, sym, ap, true, Some, None, arith}
use Rattle.std.specs.Prelude.{find, is_some, slice_set}
use Rattle.std.proofs.lemmas.List.Elements.{All-more}
use Rattle.run_limits.specs.Accounts.{place_in}
use Rattle.saved_data.specs.declared.parts.SavedUsage.{SavedUsage}
use Rattle.ctl_restore.specs.Fits.{AreOfOthers, is_user_of}
use Rattle.ctl_restore.specs.Restored.{is_usage_of, restored_usage, restored_usages}
use Rattle.ctl_restore.proofs.Seen.{pairs-next}
use Rattle.ctl_restore.proofs.Usages.{never-none, none-told, told-at, told-none, told-twice, usages-more, usages-none}
use Rattle.ctl_restore.proofs.usage.restored_usages.Goals as goal

pub loop-line-init : goal.loop-line-init
loop-line-init c = record {
  usage = c.in_ok-usage.ensures ∙ ap (λ count. replicate count 0) (ap length c.records.ensures.value)
      ∙ usages-none c.args.assocs.now.records;
  known = λ k d below. absurd (omega (arith, below));
  apart = λ i j d before below. absurd (omega (arith, below));
  some = λ k d below. absurd (omega (arith, below));
}

pub returns-in_default-clause-some : goal.returns-in_default-clause-some
unfolding is_user_of
returns-in_default-clause-some c =
    let assocs = c.args.assocs.now.records in
    let line = c.line-item.result in (
      λ yes. absurd (let never = yes in cc),
      λ both.
          let known : is_some (place_in assocs line.user line.account) ≡ true =
          rw (← c.line-item.is) at (both.0 c.loop-line.line-index line c.loop-line-test.true) in
          let none : place_in assocs line.user line.account ≡ None = sym c.place_in.ensures.place ∙ c.in_default.is in
          absurd (never-none (place_in assocs line.user line.account) none known),
    )

pub returns-then-index-ne0-clause-some : goal.returns-then-index-ne0-clause-some
returns-then-index-ne0-clause-some c =
    let assocs = c.args.assocs.now.records in
    let lines = c.args.lines.now in
    let i = c.loop-line.line-index in
    let line = c.line-item.result in
    let place = c.in-Some.place in
    let leads : place_in assocs line.user line.account ≡ Some place = sym c.place_in.ensures.place ∙ c.in-Some.is in
    let value : c.index.result.now ≡ restored_usage (take i lines) assocs place =
    c.index.ensures ∙ ap (λ xs. get_or xs place c.index.result.now) c.loop-line.invariant.usage
    ∙ told-at assocs (take i lines) place c.index.result.now c.in-Some.ensures.there in (
      λ yes. absurd (let never = yes in cc),
      λ both. absurd (told-twice assocs lines i line place c.loop-line-test.true c.line-item.is leads
          (λ zero. c.if-index-ne0.true (value ∙ zero)) both.1),
    )

pub loop-line-preserved : goal.loop-line-preserved
unfolding is_user_of
loop-line-preserved c =
    let assocs = c.args.assocs.now.records in
    let lines = c.args.lines.now in
    let i = c.loop-line.line-index in
    let line = c.line-item.result in
    let place = c.in-Some.place in
    let leads : place_in assocs line.user line.account ≡ Some place = sym c.place_in.ensures.place ∙ c.in-Some.is in
    let value : c.index.result.now ≡ restored_usage (take i lines) assocs place =
    c.index.ensures ∙ ap (λ xs. get_or xs place c.index.result.now) c.loop-line.invariant.usage
    ∙ told-at assocs (take i lines) place c.index.result.now c.in-Some.ensures.there in
    let none : find (is_usage_of assocs place) (take i lines) ≡ None =
    none-told assocs (take i lines) place c.loop-line.invariant.some (sym value ∙ c.if-index-ne0.false) in
    record {
      usage = ap (λ xs. slice_set xs place c.get.result) c.loop-line.invariant.usage
          ∙ ap (λ total. slice_set (restored_usages (take i lines) assocs) place total) c.get.ensures.value
          ∙ usages-more assocs lines i line place c.loop-line-test.true c.line-item.is leads c.in-Some.ensures.there none;
      known = All-more (λ (line : SavedUsage). is_user_of assocs line.user line.account ≡ true) lines i line
          c.loop-line-test.true c.loop-line.invariant.known (rw (← c.line-item.is, leads) refl);
      apart = pairs-next AreOfOthers lines i line c.loop-line-test.true c.line-item.is c.loop-line.invariant.apart
          (told-none assocs lines i line place leads none);
      some = All-more (λ (line : SavedUsage). 1 ≤ line.total) lines i line c.loop-line-test.true
          c.loop-line.invariant.some (rw (← c.line-item.is) (omega (arith, c.get.ensures.value, c.get.ensures.range.0)));
    }
