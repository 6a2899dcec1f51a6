-- The effect of a message is told by its type alone.
use Rattle.std.proofs.Common.{◌≡◌, ◌∙◌, ap, refl, ℕ, suc, Bool, false, ◌&&◌, ◌==◌, List, [], ◌∷◌, ◌++◌, length, append-nil, arith, inl, inr, cond}
use Rattle.login_state.specs.declared.request.Request.TheVariants.{Message, Search}
use Rattle.login_state.specs.declared.stage.Stage.TheVariants.{Gone, Normal}
use Rattle.hub_laws.proofs.Words.{ConnState, Change, Configured, Effect, Entry, Facts, Kind, None, Nothing, Ok, SenderView, PreparedLine, Reading, Request, Sender, HubView, Some, accepted_effect, audience}
use Rattle.hub_laws.proofs.Words.{by_kind, denial_of, effect_of_line, facts, hears_those, holds, holds_words, if◌then◌else◌, is_present, is_target_here, line_effect, nothing, owes, own_of}
use Rattle.hub_laws.proofs.Words.{passes_on, prepared_line, request_of, sight_of, su_in, with_line_feed, ◌⊎◌}
use Rattle.hub_laws.proofs.Words.lines
use Rattle.hub_laws.proofs.Words.senders
use Rattle.hub_laws.specs.Routes.{EmptyLinesOweNothing, IsMessage, JoinsAndTakesOweNothing, MessagesAreRouted, QuietQuits, WhoIsOutIsNotHeard, is_for}
use Rattle.hub_laws.proofs.Lag.{given-nothing}

-- ---- for whom a message is

by-kind : (kind : Kind) (hub : HubView) (line : Reading) (own sid : ℕ) (su : List ℕ) → line.from ≡ Some own
    → holds (by_kind kind line (is_target_here hub line.target)) sid su ≡ is_for kind line (is_target_here hub line.target) own sid su
unfolding holds_words
by-kind kind hub line own sid su from = grind arith

audience-is : (hub : HubView) (line : Reading) (own sid : ℕ) (su : List ℕ) → line.from ≡ Some own
    → holds (audience line (is_target_here hub line.target)) sid su ≡ is_for line.kind line (is_target_here hub line.target) own sid su
unfolding audience
audience-is hub line own sid su from = by-kind line.kind hub line own sid su from

-- ---- what a message leads to

-- whether it is a search makes no difference to who hears it
abbrev passed_effect : HubView → Reading → Change → Effect
passed_effect hub line change = passes_on hub line change

message-passes : (hub : HubView) (own : SenderView) (prepared_line : PreparedLine) (now : ℕ) (line : Reading) (request : Request)
    → (request ≡ Message) ⊎ (request ≡ Search) → (change : Change) × (accepted_effect hub own prepared_line now line request ≡ passed_effect hub line change)
unfolding accepted_effect
message-passes hub own prepared_line now line request (inl is) = (Nothing, ap (λ (r : Request). accepted_effect hub own prepared_line now line r) is)
message-passes hub own prepared_line now line request (inr is) = (Sender (senders.Searches now), ap (λ (r : Request). accepted_effect hub own prepared_line now line r) is)

more-than-none : (n : ℕ) → (suc n == 0) ≡ false
more-than-none n = grind arith

not-empty : (bytes : List ℕ) → (bytes ≡ [] → ⊥) → (length bytes == 0) ≡ false
not-empty [] some = absurd (some refl)
not-empty (b ∷ bytes) some = more-than-none (length bytes)

abbrev unless_over : Bool → Bool → Effect → Effect
unless_over over empty effect = if over then nothing else if empty then nothing else effect

pub line-heard : (hub : HubView) (own : SenderView) (prepared_line : PreparedLine) (now : ℕ) (line : Reading) → own.stage ≡ Normal → (length prepared_line.bytes == 0) ≡ false
    → lines.reading prepared_line.bytes ≡ Ok line → denial_of hub own prepared_line now line ≡ None
    → line_effect hub own prepared_line now ≡ accepted_effect hub own prepared_line now line (request_of Normal line.kind line.command)
unfolding line_effect
line-heard hub own prepared_line now line present some reading allowed = grind arith

prepared-bytes : (setup : Configured) (hash : List ℕ → List ℕ) (challenge bytes : List ℕ) → (prepared_line setup hash challenge bytes).bytes ≡ bytes
unfolding prepared_line
prepared-bytes setup hash challenge bytes = refl

module _ (setup : Configured) (hash : List ℕ → List ℕ) (h : List Entry) (c : ℕ) (bytes : List ℕ) (now : ℕ) (line : Reading) (message : IsMessage setup hash h c bytes now line) where
  abbrev f : Facts
  f = facts setup hash h

  effect-is : (change : Change) × (effect_of_line setup hash f c bytes now ≡ passed_effect (sight_of setup f) line change)
  effect-is =
      let same = prepared-bytes setup hash (f.about c).sender.challenge bytes in
      let goes = message-passes (sight_of setup f) (own_of (f.about c)) (prepared_line setup hash (f.about c).sender.challenge bytes) now line (request_of Normal line.kind line.command) message.to_users in (
        goes.0,
        line-heard (sight_of setup f) (own_of (f.about c)) (prepared_line setup hash (f.about c).sender.challenge bytes) now line message.present
            (ap (λ (bs : List ℕ). length bs == 0) same ∙ not-empty bytes message.some) (ap lines.reading same ∙ message.reading) message.allowed
            ∙ goes.1,
      )

-- no line
abbrev none : List (List ℕ)
none = []

owes-message : (hub : HubView) (line : Reading) (change : Change) (is_caller : Bool) (own : ℕ) (a : ConnState) → line.from ≡ Some own
    → owes is_caller (passed_effect hub line change) a
    ≡ cond (is_present a.stage && is_for line.kind line (is_target_here hub line.target) own a.sender.sid (su_in a.fields)) (with_line_feed line.text ∷ []) []
owes-message hub line change is_caller own a from = grind (arith, audience-is, given-nothing, append-nil)

pub messages_are_routed : MessagesAreRouted
messages_are_routed setup hash h c d bytes now line message =
    let f : Facts = facts setup hash h in
    let effect = effect-is setup hash h c bytes now line message in
    ap (λ (e : Effect). owes (d == c) e (f.about d)) effect.1
    ∙ owes-message (sight_of setup f) line effect.0 (d == c) (f.about c).sender.sid (f.about d) message.from

-- ---- what owes nobody anything

pub joins_and_takes_owe_nothing : JoinsAndTakesOweNothing
joins_and_takes_owe_nothing setup hash h c d peer challenge now count = (refl, refl)

hears-nothing : (heard_by is_caller : Bool) → (cond heard_by none [] ++ cond is_caller none []) ≡ none
hears-nothing heard_by is_caller = grind arith

owes-nothing : (is_caller : Bool) (a : ConnState) → owes is_caller nothing a ≡ []
owes-nothing is_caller a = hears-nothing (is_present a.stage && hears_those is_caller nothing.hearers a) is_caller

pub silent-over : (hub : HubView) (own : SenderView) (prepared_line : PreparedLine) (now : ℕ) → own.stage ≡ Gone → line_effect hub own prepared_line now ≡ nothing
unfolding line_effect
silent-over hub own prepared_line now over = grind arith

silent-empty : (hub : HubView) (own : SenderView) (prepared_line : PreparedLine) (now : ℕ) → prepared_line.bytes ≡ [] → line_effect hub own prepared_line now ≡ nothing
unfolding line_effect
silent-empty hub own prepared_line now none = grind arith

pub who_is_out_is_not_heard : WhoIsOutIsNotHeard
who_is_out_is_not_heard setup hash h c d bytes now over = grind (arith, silent-over, owes-nothing)

pub empty_lines_owe_nothing : EmptyLinesOweNothing
empty_lines_owe_nothing setup hash h c d now = grind (arith, silent-empty, prepared-bytes, owes-nothing)

pub quiet_quits : QuietQuits
quiet_quits setup hash h c d absent = grind arith
