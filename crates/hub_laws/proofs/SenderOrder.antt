-- An entry adds its share or nothing, and nothing from the first share on that does not fit.
use Rattle.std.proofs.Common.{◌≡◌, ◌∙◌, sym, ap, ap₂, refl, ℕ, Bool, true, false, not, ◌==◌, ◌⊎◌, List, [], ◌∷◌, ◌++◌, length, append-nil, append_assoc, Option, Some, None, Ok, arith}
use Rattle.std.proofs.Math.Seq.{drop-append_seam}
use Rattle.hub_laws.proofs.Words.{Asked, Call, Configured, Deny, Entry, Facts, IsAddressed, Kind, Line, SenderView, PreparedLine, Reading, Reads-of, Request, HubView, Stage, accepted_line, all_fit}
use Rattle.hub_laws.proofs.Words.{and_parts, cond, denial_of, eqb-true, facts, false≢true, if◌then◌else◌, lags, lines_owed, listed_if, names_another, own_of, prepared_line, read_by, refusal_of}
use Rattle.hub_laws.proofs.Words.{request-asks, request_at, request_of, share, shares_that_fit, sid, sight_of}
use Rattle.hub_laws.proofs.Words.denials
use Rattle.hub_laws.proofs.Words.lines
use Rattle.hub_laws.proofs.Words.requests
use Rattle.hub_laws.proofs.Words.stages
use Rattle.hub_laws.specs.SenderOrder.{AreTheFirstOf, CallsKeepTheirOrder, MessagesKeepTheirOrder, OwedGrows, SendersAreNamed, lines_added, heard_of, is_of, is_some_message, messages_for}
use Rattle.hub_laws.specs.SenderOrder.{messages_heard, owed_by, lines_routed, sent_in, to_users}
use Rattle.hub_laws.specs.Routes.{IsMessage}
use Rattle.hub_laws.proofs.Checked.{first-none}
use Rattle.hub_laws.proofs.Lag.{lag_is_the_first, owed_are_shares}
use Rattle.hub_laws.proofs.Routes.{messages_are_routed}

-- ---- what an entry adds

-- no line
abbrev none : List (List ℕ)
none = []

fit-shares : (setup : Configured) (hash : List ℕ → List ℕ) (h : List Entry) (e : Entry) (d : ℕ)
    → shares_that_fit setup hash (e ∷ h) d ≡ shares_that_fit setup hash h d ++ cond (all_fit setup hash (e ∷ h) d) (share setup hash (facts setup hash h) d e.call) []
unfolding shares_that_fit
fit-shares setup hash h e d = refl

owed-next : (setup : Configured) (hash : List ℕ → List ℕ) (h : List Entry) (e : Entry) (d : ℕ)
    → lines_owed setup hash (e ∷ h) d ≡ lines_owed setup hash h d ++ cond (all_fit setup hash (e ∷ h) d) (share setup hash (facts setup hash h) d e.call) []
owed-next setup hash h e d =
    owed_are_shares setup hash (e ∷ h) d ∙ fit-shares setup hash h e d
    ∙ ap (λ ls. ls ++ cond (all_fit setup hash (e ∷ h) d) (share setup hash (facts setup hash h) d e.call) []) (sym (owed_are_shares setup hash h d))

pub added-is : (setup : Configured) (hash : List ℕ → List ℕ) (h : List Entry) (e : Entry) (d : ℕ)
    → lines_added setup hash h e d ≡ cond (all_fit setup hash (e ∷ h) d) (share setup hash (facts setup hash h) d e.call) []
added-is setup hash h e d = grind (arith, owed-next, drop-append_seam)

pub owed_grows : OwedGrows
owed_grows setup hash h e d = owed-next setup hash h e d ∙ ap (λ ls. lines_owed setup hash h d ++ ls) (sym (added-is setup hash h e d))

-- ---- a choice of entries: the shares of all of them, and what they added

-- what was heard is the front of all, and all of it where each share fitted so far
record Follows (fit : Bool) (heard all : List (List ℕ)) : Type 0 where
  rest : List (List ℕ)
  splits : all ≡ heard ++ rest
  whole : fit ≡ true → rest ≡ []

follows-step : (before fit : Bool) (heard all plus lines : List (List ℕ)) → (fit ≡ true → before ≡ true) → plus ≡ cond fit lines [] → Follows before heard all
    → Follows fit (heard ++ plus) (all ++ lines)
follows-step before true heard all plus lines earlier is follows = record {
  rest = [];
  splits = ap₂ ◌++◌ (follows.splits ∙ ap (λ ls. heard ++ ls) (follows.whole (earlier refl)) ∙ append-nil heard) (sym is) ∙ sym (append-nil (heard ++ plus));
  whole = λ fitted. refl;
}
follows-step before false heard all plus lines earlier is follows = record {
  rest = follows.rest ++ lines;
  splits = ap (λ ls. ls ++ lines) follows.splits ∙ append_assoc heard follows.rest lines
      ∙ ap (λ ls. ls ++ (follows.rest ++ lines)) (sym (append-nil heard) ∙ ap (λ ls. heard ++ ls) (sym is));
  whole = λ fitted. absurd (false≢true fitted);
}

fitted-before : (setup : Configured) (hash : List ℕ → List ℕ) (h : List Entry) (e : Entry) (d : ℕ) → all_fit setup hash (e ∷ h) d ≡ true → all_fit setup hash h d ≡ true
unfolding all_fit
fitted-before setup hash h e d is = (and_parts (all_fit setup hash h d) _ is).0

picked : (pick fit : Bool) (plus share : List (List ℕ)) → plus ≡ cond fit share [] → cond pick plus [] ≡ cond fit (cond pick share []) []
picked pick fit plus share is = grind arith

pub not-false : (b : Bool) → not b ≡ false → b ≡ true
not-false b is = grind arith

-- as the law says it
first-of : (setup : Configured) (hash : List ℕ → List ℕ) (h : List Entry) (d : ℕ) (heard all : List (List ℕ)) → Follows (all_fit setup hash h d) heard all
    → AreTheFirstOf heard all × (lags setup hash h d ≡ false → heard ≡ all)
first-of setup hash h d heard all follows = (
  (follows.rest, follows.splits),
  λ fine. sym (follows.splits ∙ ap (λ ls. heard ++ ls) (follows.whole (not-false (all_fit setup hash h d) (sym (lag_is_the_first setup hash h d) ∙ fine))) ∙ append-nil heard),
)

-- ---- all calls of one connection

calls-follow : (setup : Configured) (hash : List ℕ → List ℕ) (h : List Entry) (c d : ℕ) → Follows (all_fit setup hash h d) (heard_of setup hash h c d) (owed_by setup hash h c d)
unfolding heard_of owed_by
calls-follow setup hash [] c d = record { rest = []; splits = refl; whole = λ fitted. refl }
calls-follow setup hash (e ∷ h) c d =
    follows-step (all_fit setup hash h d) (all_fit setup hash (e ∷ h) d) (heard_of setup hash h c d) (owed_by setup hash h c d) _ _ (fitted-before setup hash h e d)
    (picked (is_of c e.call) (all_fit setup hash (e ∷ h) d) (lines_added setup hash h e d) (share setup hash (facts setup hash h) d e.call) (added-is setup hash h e d))
    (calls-follow setup hash h c d)

pub calls_keep_their_order : CallsKeepTheirOrder
calls_keep_their_order setup hash h c d = first-of setup hash h d (heard_of setup hash h c d) (owed_by setup hash h c d) (calls-follow setup hash h c d)

-- ---- an accepted line that is a message to users

-- what is so of a line that was accepted
pub record IsAccepted (hub : HubView) (own : SenderView) (line : PreparedLine) (now : ℕ) (reading : Reading) : Type 0 where
  pub some : (length line.bytes == 0) ≡ false
  pub reads : lines.reading line.bytes ≡ Ok reading
  pub allowed : denial_of hub own line now reading ≡ None

pub is-accepted : (hub : HubView) (own : SenderView) (line : PreparedLine) (now : ℕ) (reading : Reading) → accepted_line hub own line now ≡ Some reading → IsAccepted hub own line now reading
unfolding accepted_line
is-accepted hub own line now reading is = grind arith

-- a message to users, or a search
abbrev is_for_users : Request → Bool
is_for_users requests.Message = true
is_for_users requests.Search = true
is_for_users request = false

here-asks : (stage : Stage) (request : Request) → is_for_users request ≡ true → Asked stage request → stage ≡ stages.Normal
here-asks stage request users at = grind arith

-- a line for users says whom it is from
says-from : (kind : Kind) (command : List ℕ) (ws : List (List ℕ)) (from target : Option ℕ) (features : Option (List ℕ)) → IsAddressed kind ws from target features
    → is_for_users (request_of stages.Normal kind command) ≡ true → (own : ℕ) × (from ≡ Some own)
unfolding request_at
says-from kind command ws from target features is asks = grind arith

not-other : (another : Bool) (more : Option Deny) → (if another then Some denials.WrongSid else more) ≡ None → another ≡ false
not-other another more none_of = grind arith

not-another : (stage : Stage) (own : ℕ) (line : Reading) → refusal_of stage own line ≡ None → names_another own line.from ≡ false
unfolding request_at
not-another stage own line none_of = not-other (names_another own line.from) _ none_of

own-name : (own from : ℕ) → names_another own (Some from) ≡ false → from ≡ own
own-name own from is = eqb-true from own (not-false (from == own) is)

pub from-own : (hub : HubView) (own : SenderView) (line : PreparedLine) (now : ℕ) (reading : Reading) → IsAccepted hub own line now reading
    → is_for_users (request_of stages.Normal reading.kind reading.command) ≡ true → reading.from ≡ Some own.sender.sid
from-own hub own line now reading is asks =
    let reads = Reads-of line.bytes reading is.reads in
    let says = says-from reading.kind reading.command reads.addresses reading.from reading.target reading.features reads.addressed asks in
    let own-line = not-another own.stage own.sender.sid reading (first-none (refusal_of own.stage own.sender.sid reading) _ is.allowed) in
    says.1 ∙ ap Some (own-name own.sender.sid says.0 (ap (names_another own.sender.sid) (sym says.1) ∙ own-line))

either : (request : Request) → is_for_users request ≡ true → (request ≡ requests.Message) ⊎ (request ≡ requests.Search)
either request is = grind arith

not-empty : (bytes : List ℕ) → (length bytes == 0) ≡ false → bytes ≡ [] → ⊥
not-empty bytes some is = false≢true (sym some ∙ ap (λ (bs : List ℕ). length bs == 0) is)

module _ (setup : Configured) (hash : List ℕ → List ℕ) (h : List Entry) (c : ℕ) (bytes : List ℕ) (now : ℕ) where
  abbrev before : Facts
  before = facts setup hash h

  abbrev own : SenderView
  own = own_of (before.about c)

  abbrev line : PreparedLine
  line = prepared_line setup hash (before.about c).sender.challenge bytes

  message-of : (reading : Reading) → IsAccepted (sight_of setup before) own line now reading → is_for_users (request_of own.stage reading.kind reading.command) ≡ true
      → IsMessage setup hash h c bytes now reading
  unfolding prepared_line
  message-of reading is asks =
      let present : own.stage ≡ stages.Normal = here-asks own.stage (request_of own.stage reading.kind reading.command) asks (request-asks own.stage reading.kind reading.command) in
      let asks-here : is_for_users (request_of stages.Normal reading.kind reading.command) ≡ true =
      ap (λ (s : Stage). is_for_users (request_of s reading.kind reading.command)) (sym present) ∙ asks in
      record {
        some = not-empty bytes is.some;
        reading = is.reads;
        present = present;
        from = from-own (sight_of setup before) own line now reading is asks-here;
        to_users = either (request_of stages.Normal reading.kind reading.command) asks-here;
        allowed = is.allowed;
      }

-- a call that says one message says it in a line of its own connection, which was accepted
one-said : (same : Bool) (o : Option Reading) (line : Reading) → listed_if same o ≡ line ∷ [] → (same ≡ true) × (o ≡ Some line)
one-said same o line is = grind arith

one-asked : (of : SenderView) (request : Request) (reading line : Reading) → to_users of request reading ≡ Some line → (is_for_users request ≡ true) × (reading ≡ line)
one-asked of request reading line is = grind arith

named-by : (setup : Configured) (hash : List ℕ → List ℕ) (h : List Entry) (c : ℕ) (bytes : List ℕ) (now : ℕ) (said : Option Reading) (message : Reading)
    → accepted_line (sight_of setup (facts setup hash h)) (own setup hash h c bytes now) (line setup hash h c bytes now) now ≡ said
    → read_by to_users (own setup hash h c bytes now) said ≡ Some message → message.from ≡ Some (sid setup hash h c)
named-by setup hash h c bytes now None message is says = let nothing : ⊥ = cc says in absurd nothing
named-by setup hash h c bytes now (Some reading) message is says =
    let asks = one-asked (own setup hash h c bytes now) (request_of (own setup hash h c bytes now).stage reading.kind reading.command) reading message says in
    let sent = message-of setup hash h c bytes now reading
    (is-accepted (sight_of setup (facts setup hash h)) (own setup hash h c bytes now) (line setup hash h c bytes now) now reading is) asks.0 in
    ap (λ (r : Reading). r.from) (sym asks.1) ∙ sent.from

pub senders_are_named : SendersAreNamed
senders_are_named setup hash h c call message is = grind (arith, one-said, named-by, eqb-true)

-- what it owes is what the law says
by-request : (setup : Configured) (hash : List ℕ → List ℕ) (h : List Entry) (c d : ℕ) (of : SenderView) (reading : Reading) (share : List (List ℕ)) (request : Request)
    → (is_for_users request ≡ true → share ≡ lines_routed setup hash h c d (reading ∷ []))
    → lines_routed setup hash h c d (listed_if true (to_users of request reading)) ≡ cond (is_some_message (listed_if true (to_users of request reading))) share []
by-request setup hash h c d of reading share request is = grind arith

by-accepted : (setup : Configured) (hash : List ℕ → List ℕ) (h : List Entry) (c d : ℕ) (bytes : List ℕ) (now : ℕ) (said : Option Reading)
    → accepted_line (sight_of setup (facts setup hash h)) (own setup hash h c bytes now) (line setup hash h c bytes now) now ≡ said
    → lines_routed setup hash h c d (listed_if true (read_by to_users (own setup hash h c bytes now) said))
    ≡ cond (is_some_message (listed_if true (read_by to_users (own setup hash h c bytes now) said))) (share setup hash (facts setup hash h) d (Line c bytes now)) []
by-accepted setup hash h c d bytes now None is = refl
by-accepted setup hash h c d bytes now (Some reading) is =
    by-request setup hash h c d (own setup hash h c bytes now) reading _ (request_of (own setup hash h c bytes now).stage reading.kind reading.command)
    (λ asks. messages_are_routed setup hash h c d bytes now reading
    (message-of setup hash h c bytes now reading
    (is-accepted (sight_of setup (facts setup hash h)) (own setup hash h c bytes now) (line setup hash h c bytes now) now reading is) asks))

by-caller : (setup : Configured) (hash : List ℕ → List ℕ) (h : List Entry) (c d b : ℕ) (bytes : List ℕ) (now : ℕ) (same : Bool) → (c == b) ≡ same
    → lines_routed setup hash h c d
    (listed_if same
    (read_by to_users (own setup hash h b bytes now)
    (accepted_line (sight_of setup (facts setup hash h)) (own setup hash h b bytes now) (line setup hash h b bytes now) now)))
    ≡ cond (is_some_message
    (listed_if same
    (read_by to_users (own setup hash h b bytes now)
    (accepted_line (sight_of setup (facts setup hash h)) (own setup hash h b bytes now) (line setup hash h b bytes now) now)))) (share setup hash (facts setup hash h) d (Line b bytes now)) []
by-caller setup hash h c d b bytes now same is = grind (arith, eqb-true, by-accepted)

by-call : (setup : Configured) (hash : List ℕ → List ℕ) (h : List Entry) (c d : ℕ) (call : Call)
    → lines_routed setup hash h c d (sent_in setup hash (facts setup hash h) c call)
    ≡ cond (is_some_message (sent_in setup hash (facts setup hash h) c call)) (share setup hash (facts setup hash h) d call) []
by-call setup hash h c d call = grind (arith, by-caller)

-- ---- all messages of one connection

messages-follow : (setup : Configured) (hash : List ℕ → List ℕ) (h : List Entry) (c d : ℕ)
    → Follows (all_fit setup hash h d) (messages_heard setup hash h c d) (messages_for setup hash h c d)
unfolding messages_heard messages_for
messages-follow setup hash [] c d = record { rest = []; splits = refl; whole = λ fitted. refl }
messages-follow setup hash (e ∷ h) c d =
    let is_one : Bool = is_some_message (sent_in setup hash (facts setup hash h) c e.call) in
    follows-step (all_fit setup hash h d) (all_fit setup hash (e ∷ h) d) (messages_heard setup hash h c d) (messages_for setup hash h c d) _ _ (fitted-before setup hash h e d)
    (picked is_one (all_fit setup hash (e ∷ h) d) (lines_added setup hash h e d) (share setup hash (facts setup hash h) d e.call) (added-is setup hash h e d)
    ∙ ap (λ xs. cond (all_fit setup hash (e ∷ h) d) xs []) (sym (by-call setup hash h c d e.call)))
    (messages-follow setup hash h c d)

pub messages_keep_their_order : MessagesKeepTheirOrder
messages_keep_their_order setup hash h c d = first-of setup hash h d (messages_heard setup hash h c d) (messages_for setup hash h c d) (messages-follow setup hash h c d)
