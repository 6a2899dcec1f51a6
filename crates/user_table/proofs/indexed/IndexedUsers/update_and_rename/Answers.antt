use Rattle.std.proofs.Common.{List, None, Some, refl, sym, ap, ◌∙◌, subst}
use Rattle.std.specs.Prelude.{IsSome, IsTrue}
use Rattle.std.specs.String.{string_bytes}
use Rattle.user_table.specs.Changes.{AreDistinct, takes_update}
use Rattle.user_table.specs.IndexedView.{AreIndexed}
use Rattle.user_table.specs.Listed.{Listed}
use Rattle.user_table.specs.Renaming.{with_key}
use Rattle.user_table.specs.Tables.{user_by_key, user_by_sid, with_update}
use Rattle.user_table.proofs.IndexedLemmas.{gone-as, indexed-renamed, indexed-undone, indexed-updated, is-err, not-err, not-held, put-as, still-free, user-renewed}
use Rattle.user_table.proofs.NickLemmas.{updated-renamed}
use Rattle.user_table.proofs.RenewalLemmas.{distinct-renewed}
use Rattle.user_table.proofs.indexed.IndexedUsers.update_and_rename.Goals as goal

pub invariant_of-self-then-is_err : goal.invariant_of-self-then-is_err
invariant_of-self-then-is_err c =
    let key = string_bytes c.args.key in
    let users = c.self.inside.roster in
    let nicks = c.self.inside.nicks in
    let cids = c.self.inside.cids in
    let same = is-err c.merge.result (sym c.is_err.ensures.value ∙ c.if-is_err.true) c.merge.ensures.unchanged in
    let free = ap (user_by_key key) c.self.view_is ∙ c.requires.free in
    let put = put-as c.deref.result.now key c.args.sid c.args.sid nicks c.put.new.self c.deref.ensures refl c.in_ok-put.ensures.put in
    let gone = gone-as c.deref-then-is_err.result.now key c.put.new.self c.remove.new.self c.deref-then-is_err.ensures c.remove.ensures in
    subst (λ (us : List Listed). AreIndexed us c.remove.new.self cids) (sym same)
    (indexed-undone key c.args.sid users nicks c.put.new.self c.remove.new.self cids c.self.invariant free put gone)

pub rename-before-requires-clause-present : goal.rename-before-requires-clause-present
rename-before-requires-clause-present c =
    let users = c.self.inside.roster in
    let merged = not-err c.merge.result (sym c.is_err.ensures.value ∙ c.if-is_err.false) c.merge.ensures.merged in
    let takes = subst (λ us. IsTrue (takes_update c.args.sid c.args.update.now us)) (sym c.self.view_is) c.requires.takes in
    let user = user-renewed c.args.sid c.args.update.now users takes in
    subst IsSome (sym (ap (user_by_sid c.args.sid) merged ∙ user.1)) refl

pub rename-before-requires-clause-distinct : goal.rename-before-requires-clause-distinct
rename-before-requires-clause-distinct c =
    let merged = not-err c.merge.result (sym c.is_err.ensures.value ∙ c.if-is_err.false) c.merge.ensures.merged in
    subst AreDistinct (sym merged) (distinct-renewed c.args.sid c.args.update.now None c.self.inside.roster c.self.invariant.distinct refl)

pub invariant_of-self-2 : goal.invariant_of-self-2
invariant_of-self-2 c =
    let key = string_bytes c.args.key in
    let sid = c.args.sid in
    let update = c.args.update.now in
    let users = c.self.inside.roster in
    let nicks = c.self.inside.nicks in
    let cids = c.self.inside.cids in
    let later = with_update sid update None users in
    let merged = not-err c.merge.result (sym c.is_err.ensures.value ∙ c.if-is_err.false) c.merge.ensures.merged in
    let free = ap (user_by_key key) c.self.view_is ∙ c.requires.free in
    let takes = subst (λ us. IsTrue (takes_update sid update us)) (sym c.self.view_is) c.requires.takes in
    let user = user-renewed sid update users takes in
    let distinct = subst AreDistinct (sym (updated-renamed sid update key users)) (distinct-renewed sid update (Some key) users c.self.invariant.distinct (not-held sid key users free)) in
    let put = put-as c.deref.result.now key sid sid nicks c.put.new.self c.deref.ensures refl c.in_ok-put.ensures.put in
    let gone = gone-as c.deref-2.result.now (string_bytes c.rename-before.result) c.put.new.self c.remove-2.new.self c.deref-2.ensures c.remove-2.ensures in
    let before = c.rename-before.ensures.before user.0 (ap (user_by_sid sid) merged ∙ user.1) in
    subst (λ (us : List Listed). AreIndexed us c.remove-2.new.self cids) (sym (c.rename-before.ensures.renamed ∙ ap (with_key sid key) merged))
    (indexed-renamed sid key (string_bytes c.rename-before.result) user.0 later nicks c.put.new.self c.remove-2.new.self cids distinct
    (indexed-updated sid update users nicks cids c.self.invariant) user.1 before (still-free sid update key users free) put gone)

pub returns-clause-updated : goal.returns-clause-updated
returns-clause-updated c =
    let key = string_bytes c.args.key in
    let merged = not-err c.merge.result (sym c.is_err.ensures.value ∙ c.if-is_err.false) c.merge.ensures.merged in
    c.rename-before.ensures.renamed ∙ ap (with_key c.args.sid key) merged ∙ updated-renamed c.args.sid c.args.update.now key c.self.inside.roster
    ∙ ap (with_update c.args.sid c.args.update.now (Some key)) c.self.view_is
