use Rattle.std.proofs.Common.{Option, subst}
use Rattle.history_check.specs.declared.written.WrittenReply as written_reply
use Rattle.history_check.specs.Following.{IsMade}
use Rattle.history_check.specs.Written.{call_of}
use Rattle.history_check.proofs.Calls.{demands-other}
use Rattle.history_check.proofs.check.look.Goals as goal

pub returns-else-is_same : goal.returns-else-is_same
returns-else-is_same g c = λ h follows.
    let hash = g.H.SessionHash.digest_of c.args.hash.now in
    demands-other c.args.setup.now hash h c.args.entry.now c.in-Some.reply c.make.new.core c.make.new.joined.items
    (subst (λ (r : Option written_reply.WrittenReply). IsMade c.args.setup.now hash c.args.entry.now.caller (call_of c.args.entry.now.call) r c.args.core.now c.args.joined.now.items c.make.new.core c.make.new.joined.items)
    c.in-Some.is c.in_ok-reply.ensures h follows)
    (c.is_same.ensures.other c.if-is_same.false)
