use Rattle.std.proofs.Common.{List, sym, ap, ◌∙◌, subst}
use Rattle.user_table.specs.IndexedView.{AreIndexed}
use Rattle.user_table.specs.Listed.{Listed}
use Rattle.user_table.specs.Tables.{user_by_cid, user_by_key, user_by_sid}
use Rattle.user_table.proofs.IndexedLemmas.{Index, gone-as, indexed-both-undone, indexed-entered, indexed-undone, is-err, not-err, put-as}
use Rattle.user_table.proofs.indexed.IndexedUsers.enter.Goals as goal

pub invariant_of-self-then-is_err-2 : goal.invariant_of-self-then-is_err-2
invariant_of-self-then-is_err-2 c =
    let user = c.args.user in
    let users = c.self.inside.roster in
    let nicks = c.self.inside.nicks in
    let same = is-err c.put-2.result (sym c.is_err-2.ensures.value ∙ c.if-is_err-2.true) c.put-2.ensures.unchanged in
    let done = not-err c.put.result (sym c.is_err.ensures.value ∙ c.if-is_err.false) c.put.ensures.put in
    let put = put-as c.key.result.now user.key c.sid-sid.result user.sid nicks c.put.new.self c.key.ensures c.sid-sid.ensures done in
    let gone = gone-as c.key-then-is_err-2.result.now user.key c.put.new.self c.remove.new.self c.key-then-is_err-2.ensures c.remove.ensures in
    subst (λ (cids : Index). AreIndexed users c.remove.new.self cids) (sym same)
    (indexed-undone user.key user.sid users nicks c.put.new.self c.remove.new.self c.self.inside.cids c.self.invariant (ap (user_by_key user.key) c.self.view_is ∙ c.requires.key) put gone)

pub invariant_of-self-in-Ok : goal.invariant_of-self-in-Ok
invariant_of-self-in-Ok c =
    let user = c.args.user in
    let users = c.self.inside.roster in
    let nicks = c.self.inside.nicks in
    let cids = c.self.inside.cids in
    let done = not-err c.put.result (sym c.is_err.ensures.value ∙ c.if-is_err.false) c.put.ensures.put in
    let done' = not-err c.put-2.result (sym c.is_err-2.ensures.value ∙ c.if-is_err-2.false) c.put-2.ensures.put in
    let put = put-as c.key.result.now user.key c.sid-sid.result user.sid nicks c.put.new.self c.key.ensures c.sid-sid.ensures done in
    let put' = put-as c.cid-cid.result user.cid c.sid-sid.result user.sid cids c.put-2.new.self c.cid-cid.ensures c.sid-sid.ensures done' in
    subst (λ (us : List Listed). AreIndexed us c.put.new.self c.put-2.new.self) (sym c.in-Ok.ensures.entered)
    (indexed-entered user users nicks c.put.new.self cids c.put-2.new.self c.self.invariant (ap (user_by_sid user.sid) c.self.view_is ∙ c.requires.sid)
    (ap (user_by_key user.key) c.self.view_is ∙ c.requires.key) (ap (user_by_cid user.cid) c.self.view_is ∙ c.requires.cid) put put')

pub invariant_of-self-in-Err : goal.invariant_of-self-in-Err
invariant_of-self-in-Err c =
    let user = c.args.user in
    let users = c.self.inside.roster in
    let nicks = c.self.inside.nicks in
    let cids = c.self.inside.cids in
    let back = c.in-Err.ensures.returned in
    let done = not-err c.put.result (sym c.is_err.ensures.value ∙ c.if-is_err.false) c.put.ensures.put in
    let done' = not-err c.put-2.result (sym c.is_err-2.ensures.value ∙ c.if-is_err-2.false) c.put-2.ensures.put in
    let put = put-as c.key.result.now user.key c.sid-sid.result user.sid nicks c.put.new.self c.key.ensures c.sid-sid.ensures done in
    let put' = put-as c.cid-cid.result user.cid c.sid-sid.result user.sid cids c.put-2.new.self c.cid-cid.ensures c.sid-sid.ensures done' in
    let gone' = gone-as c.cid-cid.result user.cid c.put-2.new.self c.remove-in-Err.new.self c.cid-cid.ensures c.remove-in-Err.ensures in
    let key-back = c.key-in-Err.ensures ∙ ap (λ (u : Listed). u.key) back in
    let gone = gone-as c.key-in-Err.result.now user.key c.put.new.self c.remove-in-Err-2.new.self key-back c.remove-in-Err-2.ensures in
    subst (λ (us : List Listed). AreIndexed us c.remove-in-Err-2.new.self c.remove-in-Err.new.self) (sym c.in-Err.ensures.unchanged)
    (indexed-both-undone user.key user.cid user.sid users nicks c.put.new.self c.remove-in-Err-2.new.self cids c.put-2.new.self c.remove-in-Err.new.self c.self.invariant
    (ap (user_by_key user.key) c.self.view_is ∙ c.requires.key) (ap (user_by_cid user.cid) c.self.view_is ∙ c.requires.cid) put gone put' gone')
