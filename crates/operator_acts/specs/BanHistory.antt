-- The bans that a list of accepted bans and unbans leaves: of each client identifier the last act on it.
use Rattle.std.specs.Prelude.{◌≡◌, ℕ, Bool, List, [], fold, filter, bytes_eq, Option, Some, None, is_some}
use Rattle.std.specs.List.{last_or}
use Rattle.operator_acts.specs.declared.ban.Ban.{Ban}
use Rattle.operator_acts.specs.Bans.{with_ban, without_ban, ban_on, left_of_bans, left_of}

-- an accepted act: a ban on a client identifier, or its end
pub data BanAct : Type 0 where
  Banned : List ℕ → Ban → BanAct
  Unbanned : List ℕ → BanAct

abbrev pub cid_of : BanAct → List ℕ
cid_of (Banned cid ban) = cid
cid_of (Unbanned cid) = cid

abbrev pub is_on : List ℕ → BanAct → Bool
is_on cid act = bytes_eq cid (cid_of act)

-- the last act on a client identifier
abbrev pub last_act : List ℕ → List BanAct → Option BanAct
last_act cid acts = last_or None (filter (is_on cid) acts)

-- the ban that an act leaves
abbrev pub ban_by : Option BanAct → Option Ban
ban_by None = None
ban_by (Some (Banned cid ban)) = Some ban
ban_by (Some (Unbanned cid)) = None

-- the ban that the last act on a client identifier leaves
abbrev pub last_ban : List ℕ → List BanAct → Option Ban
last_ban cid acts = ban_by (last_act cid acts)

-- the bans after one more act
abbrev pub act_on : List (List ℕ × Ban) → BanAct → List (List ℕ × Ban)
act_on bans (Banned cid ban) = with_ban bans cid ban
act_on bans (Unbanned cid) = without_ban bans cid

-- the bans after all acts
abbrev pub bans_after : List BanAct → List (List ℕ × Ban)
bans_after acts = fold act_on [] acts

-- what is left is what the last act on the client identifier leaves
abbrev pub LeftByLastAct : Type 0
LeftByLastAct = (acts : List BanAct) (cid : List ℕ) (now : ℕ) → left_of_bans (bans_after acts) cid now ≡ left_of (last_ban cid acts) now

-- the client identifiers with a ban are those whose last act is one
abbrev pub HeldByLastAct : Type 0
HeldByLastAct = (acts : List BanAct) (cid : List ℕ) → is_some (ban_on (bans_after acts) cid) ≡ is_some (last_ban cid acts)
