use Rattle.std.proofs.Common.{List, Ok, Some, eqb, map, sym, ap, ◌∙◌, subst}
use Rattle.std.specs.List.{IsDistinct}
use Rattle.std.specs.String.{string_bytes}
use Rattle.user_table.specs.Indexes.{sid_at, sid_of}
use Rattle.user_table.specs.Listed.{Listed}
use Rattle.user_table.specs.Tables.{user_by_key}
use Rattle.user_table.proofs.IndexedLemmas.{renewed-own, same-sid}
use Rattle.user_table.proofs.NickLemmas.{own_sid}
use Rattle.user_table.proofs.indexed.IndexedUsers.renew.Goals as goal

pub returns-clause-renewed : goal.returns-clause-renewed
returns-clause-renewed c =
    let key = string_bytes c.args.key in
    let same = same-sid c.in-Some.holder c.args.sid (sym c.ne.ensures ∙ c.if-ne.false) in
    let holds = sym (ap Some same) ∙ c.in-Some.ensures ∙ ap (sid_at c.self.inside.nicks) c.deref.ensures ∙ c.self.invariant.by_key key
    ∙ ap (λ (users : List Listed). sid_of (user_by_key key users)) c.self.view_is in
    renewed-own c.args.sid c.args.update.now key c.args.self.now (subst (λ (users : List Listed). IsDistinct eqb (map own_sid users)) c.self.view_is c.self.invariant.distinct.sids) holds
    ∙ ap Ok (sym c.in_ok-update.ensures.updated)
