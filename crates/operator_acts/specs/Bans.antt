-- The bans that are held: each with the client identifier that it is on, in the order of their bytes, each once.
use Rattle.std.specs.Prelude.{◌≡◌, ℕ, ◌+◌, ◌-◌, ◌^◌, ◌==◌, ◌&&◌, nat_le, nat_lt, min, not, Bool, true, false, List, length, filter, Option, Some, None, is_some, if◌then◌else◌}
use Rattle.std.specs.declared.cmp.Ordering.{Ordering}
use Rattle.std.specs.Ordering.{nat_cmp}
use Rattle.std.specs.Cmp.Lexicographic.{slice_cmp}
use Rattle.std.specs.Map.{lookup}
use Rattle.std.specs.BTreeMap.{insert_entry, is_at}
use Rattle.operator_acts.specs.declared.ban.Ban.{Ban}
use Rattle.operator_acts.specs.declared.fault.BanRefused.{BanRefused}
use Rattle.operator_acts.specs.declared.fault.BanRefused.TheVariants as refusals
use Rattle.operator_acts.specs.declared.left.Left.{Left}
use Rattle.operator_acts.specs.declared.left.Left.TheVariants.{Free, For, Ever}

-- how many client identifiers may have a ban
abbrev pub max_bans : ℕ
max_bans = 1_024

-- the order of client identifiers
abbrev pub cid_cmp : List ℕ → List ℕ → Ordering
cid_cmp = slice_cmp nat_cmp

-- the ban on a client identifier
abbrev pub ban_on : List (List ℕ × Ban) → List ℕ → Option Ban
ban_on bans cid = lookup (is_at (cid_cmp cid)) bans

-- one more ban, in the place of one that is held on the same client identifier
abbrev pub with_ban : List (List ℕ × Ban) → List ℕ → Ban → List (List ℕ × Ban)
with_ban bans cid ban = insert_entry cid_cmp bans cid ban

-- without the ban on a client identifier
abbrev pub without_ban : List (List ℕ × Ban) → List ℕ → List (List ℕ × Ban)
without_ban bans cid = filter (λ (entry : List ℕ × Ban). not (is_at (cid_cmp cid) entry.0)) bans

-- there is no room for a ban on a client identifier that has none
abbrev pub is_full : List (List ℕ × Ban) → List ℕ → Bool
is_full bans cid = not (is_some (ban_on bans cid)) && nat_le max_bans (length bans)

-- why a ban is not taken up: for want of room, or of memory where there is room
abbrev pub WhyRefused : BanRefused → List (List ℕ × Ban) → List ℕ → Type 0
WhyRefused refusals.Memory bans cid = is_full bans cid ≡ false
WhyRefused refusals.Full bans cid = is_full bans cid ≡ true

-- the moment from which a ban refuses nothing more; moments end at 2^64 - 1
abbrev pub end_of : Ban → ℕ
end_of ban = min (ban.moment + ban.seconds) (2 ^ 64 - 1)

-- what is left of a ban: one of 0 seconds is for good, another refuses before its end
abbrev pub left_of : Option Ban → ℕ → Left
left_of None now = Free
left_of (Some ban) now =
    if ban.seconds == 0 then Ever
    else if nat_lt now (end_of ban) then For (end_of ban - now)
    else Free

-- what is left of the ban on a client identifier
unfoldable pub left_of_bans : List (List ℕ × Ban) → List ℕ → ℕ → Left
left_of_bans bans cid now = left_of (ban_on bans cid) now
