-- The requests of an operator, and the message that makes each.
use Rattle.std.specs.Prelude.{◌≡◌, ℕ, ◌<◌, List, [], ◌∷◌, ◌++◌, codes, chars, length, Some}
use Rattle.std.specs.Fmt.{decimal}
use Rattle.adc_line.specs.Escapes.{escaped_text}
use Rattle.adc_line.specs.Frames.{max_line}
use Rattle.adc_line.specs.Lines.{Reading}
use Rattle.adc_line.specs.declared.fault.LineFault.{LineFault}
use Rattle.adc_line.specs.declared.fault.LineFault.TheVariants as faults
use Rattle.adc_line.specs.declared.header.Kind.TheVariants as kinds
use Rattle.operator_acts.specs.Acts.{act_at}
use Rattle.operator_acts.specs.declared.act.Act.{Act}
use Rattle.operator_acts.specs.declared.act.Act.TheVariants as acts
use Rattle.hub_client.specs.declared.cid_text.CidText.{CidText}
use Rattle.hub_client.specs.declared.nick_text.NickText.{NickText}
use Rattle.hub_client.specs.declared.request.HubRequest.{HubRequest}
use Rattle.hub_client.specs.declared.request.HubRequest.TheVariants.{Kick, Ban, Unban, Topic}

abbrev pub nick_bytes : NickText → List ℕ
nick_bytes nick = nick.text.now

abbrev pub cid_bytes : CidText → List ℕ
cid_bytes cid = cid.text.now

abbrev pub cid_value : CidText → List ℕ
cid_value cid = cid.cid

-- the act that is asked for
abbrev pub act_asked : HubRequest → Act
act_asked (Kick nick reason) = acts.Kick (chars (nick_bytes nick)) reason.now
act_asked (Ban nick seconds reason) = acts.Ban (chars (nick_bytes nick)) seconds reason.now
act_asked (Unban cid) = acts.Unban (cid_value cid)
act_asked (Topic text) = acts.Topic text.now

-- what stands behind the words of a text, with a blank before it where it is not empty
abbrev pub behind : List ℕ → List ℕ
behind [] = []
behind (b ∷ bs) = 32 ∷ b ∷ bs

-- the text that asks for it
unfoldable pub request_bytes : HubRequest → List ℕ
request_bytes (Kick nick reason) = codes "!kick" ++ 32 ∷ (nick_bytes nick ++ behind reason.now)
request_bytes (Ban nick seconds reason) = (codes "!ban" ++ 32 ∷ (nick_bytes nick ++ 32 ∷ decimal seconds)) ++ behind reason.now
request_bytes (Unban cid) = codes "!unban" ++ 32 ∷ cid_bytes cid
request_bytes (Topic text) = codes "!topic" ++ behind text.now

-- the seconds are a number of 32 bits
abbrev pub SecondsFit : HubRequest → Type 0
SecondsFit (Kick nick reason) = Unit {0}
SecondsFit (Ban nick seconds reason) = seconds < 4_294_967_296
SecondsFit (Unban cid) = Unit {0}
SecondsFit (Topic text) = Unit {0}

-- the message is one to the hub, with this text
abbrev pub SaysText : Reading → List ℕ → Type 0
SaysText line text = (line.kind ≡ kinds.Hub) × (line.command ≡ codes "MSG") × (line.params ≡ escaped_text text ∷ [])

-- the message is one to the hub, whose text asks for this act
abbrev pub AsksFor : Reading → Act → Type 0
AsksFor line act = (text : List ℕ) × SaysText line text × (act_at text ≡ Some act)

-- the message as it is written
abbrev pub message_bytes : List ℕ → List ℕ
message_bytes text = codes "HMSG " ++ escaped_text text

-- memory ran out, or the message with this text has too many bytes
abbrev pub IsOverlong : LineFault → List ℕ → Type 0
IsOverlong faults.Memory text = Unit {0}
IsOverlong faults.TooLong text = max_line < length (message_bytes text)
IsOverlong faults.NotUtf8 text = ⊥
IsOverlong faults.Header text = ⊥
IsOverlong faults.Parameter text = ⊥
IsOverlong faults.Escape text = ⊥
