use Rattle.std.proofs.Common.{refl, sym, subst}
use Rattle.std.specs.Prelude.{Some}
use Rattle.history_check.specs.declared.written.WrittenCall as written_call
use Rattle.history_check.specs.declared.written.WrittenReply.TheVariants.{Left}
use Rattle.history_check.specs.Following.{FollowsHistory, IsSaidLine, MadeAs}
use Rattle.history_check.specs.Written.{call_of}
use Rattle.history_check.proofs.Calls.{made-line, made-quit, made-take}
use Rattle.history_check.proofs.check.make.Goals as goal

pub returns-in_ok-say-in-Some : goal.returns-in_ok-say-in-Some
returns-in_ok-say-in-Some g c = λ h follows.
    let hash = g.H.SessionHash.digest_of c.args.hash.now in
    subst (λ (call : written_call.WrittenCall). MadeAs c.args.setup.now hash h c.args.caller (call_of call) (Some c.in_ok-say-in-Some.field-0) c.say.new.core c.args.joined.now.items) (sym c.in-Line.is)
    (made-line c.args.setup.now hash h c.args.core.now c.say.new.core c.args.joined.now.items c.args.caller c.in-Line.connection c.in-Line.bytes.items c.in-Line.now c.in-Some.found c.in_ok-say-in-Some.field-0
    follows (c.in-Some.ensures.finds c.args.setup.now hash h (subst (FollowsHistory c.args.setup.now hash h c.args.core.now) (sym c.deref.ensures.value) follows)) (subst (λ bs. IsSaidLine c.args.setup.now hash c.in-Some.found.connection c.in-Some.found.challenge bs c.in-Line.now c.in_ok-say-in-Some.field-0 c.args.core.now c.say.new.core) c.deref-in-Some.ensures.value c.in_ok-say-in-Some.ensures))

pub returns-in-Some-find : goal.returns-in-Some-find
returns-in-Some-find g c = λ h follows.
    let hash = g.H.SessionHash.digest_of c.args.hash.now in
    subst (λ (call : written_call.WrittenCall). MadeAs c.args.setup.now hash h c.args.caller (call_of call) (Some Left) c.quit.new.self c.args.joined.now.items) (sym c.in-Quit.is)
    (made-quit c.args.setup.now hash h c.args.core.now c.quit.new.self c.args.joined.now.items c.args.caller c.in-Quit.connection c.in-Some-find.found Left
    follows (c.in-Some-find.ensures.finds c.args.setup.now hash h (subst (FollowsHistory c.args.setup.now hash h c.args.core.now) (sym c.deref-in-Quit.ensures.value) follows)) refl c.quit.ensures.moves)

pub returns-in_ok-take-in-Some-find-2 : goal.returns-in_ok-take-in-Some-find-2
returns-in_ok-take-in-Some-find-2 g c = λ h follows.
    let hash = g.H.SessionHash.digest_of c.args.hash.now in
    subst (λ (call : written_call.WrittenCall). MadeAs c.args.setup.now hash h c.args.caller (call_of call) (Some c.in_ok-take-in-Some-find-2.field-0) c.take.new.core c.args.joined.now.items) (sym c.in-Take.is)
    (made-take c.args.setup.now hash h c.args.core.now c.take.new.core c.args.joined.now.items c.args.caller c.in-Take.connection c.in-Take.count c.in-Some-find-2.found c.in_ok-take-in-Some-find-2.field-0
    follows (c.in-Some-find-2.ensures.finds c.args.setup.now hash h (subst (FollowsHistory c.args.setup.now hash h c.args.core.now) (sym c.deref-in-Take.ensures.value) follows)) c.in_ok-take-in-Some-find-2.ensures)
