-- The acts of operators on the hub, one by one.
use Rattle.std.specs.Prelude.{◌≡◌, ℕ, List, [], ◌∷◌, ◌++◌}
use Rattle.operator_acts.specs.BanHistory.{BanAct, Banned, Unbanned, last_ban}
use Rattle.operator_acts.specs.Bans.{left_of}
use Rattle.hub_rules.specs.declared.effect.Change.{Change}
use Rattle.hub_rules.specs.declared.effect.Change.TheVariants.{Hub, Nothing}
use Rattle.hub_rules.specs.declared.effect.HubChange.TheVariants as shared
use Rattle.hub_rules.specs.declared.history.Call.{Call}
use Rattle.hub_rules.specs.declared.history.Call.TheVariants.{Line}
use Rattle.hub_rules.specs.declared.history.Entry.{Entry}
use Rattle.hub_rules.specs.Configured.{Configured}
use Rattle.hub_rules.specs.Facts.{Facts, facts, effect_of_line}
use Rattle.hub_rules.specs.History.{ban, topic}

-- what a line changes; no other call is an act of an operator
abbrev pub change_of : Configured → (List ℕ → List ℕ) → Facts → Call → Change
change_of setup hash f (Line c bytes now) = (effect_of_line setup hash f c bytes now).change
change_of setup hash f call = Nothing

abbrev pub ban_act_of : Change → List BanAct
ban_act_of (Hub (shared.Ban banned)) = Banned banned.cid banned.ban ∷ []
ban_act_of (Hub (shared.Unban cid)) = Unbanned cid ∷ []
ban_act_of change = []

-- the bans and unbans that were carried out, oldest first
unfoldable pub ban_acts : Configured → (List ℕ → List ℕ) → List Entry → List BanAct
ban_acts setup hash [] = []
ban_acts setup hash (e ∷ h) = ban_acts setup hash h ++ ban_act_of (change_of setup hash (facts setup hash h) e.call)

-- what is left of a ban is what the last act on the client identifier leaves
abbrev pub BanIsTheLastAct : Type 0
BanIsTheLastAct =
    (setup : Configured) (hash : List ℕ → List ℕ) (h : List Entry) (cid : List ℕ) (now : ℕ)
    → ban setup hash h cid now ≡ left_of (last_ban cid (ban_acts setup hash h)) now

abbrev pub topic_act_of : Change → List (List ℕ)
topic_act_of (Hub (shared.Topic text)) = text ∷ []
topic_act_of change = []

-- the topics that operators set, newest first
unfoldable pub topic_acts : Configured → (List ℕ → List ℕ) → List Entry → List (List ℕ)
topic_acts setup hash [] = []
topic_acts setup hash (e ∷ h) = topic_act_of (change_of setup hash (facts setup hash h) e.call) ++ topic_acts setup hash h

abbrev pub first_or : List (List ℕ) → List ℕ → List ℕ
first_or [] otherwise = otherwise
first_or (text ∷ more) otherwise = text

-- the topic that the last operator set, or that of the settings
abbrev pub last_topic : Configured → (List ℕ → List ℕ) → List Entry → List ℕ
last_topic setup hash h = first_or (topic_acts setup hash h) setup.topic

abbrev pub TopicIsTheLast : Type 0
TopicIsTheLast = (setup : Configured) (hash : List ℕ → List ℕ) (h : List Entry) → topic setup hash h ≡ last_topic setup hash h
