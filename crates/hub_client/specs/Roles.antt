-- The role of a user, by the bits of a client type.
use Rattle.std.specs.Prelude.{ℕ, Bool, List, codes, ◌/◌, ◌%◌, ◌==◌, if◌then◌else◌}
use Rattle.hub_client.specs.declared.role.Role.{Role}
use Rattle.hub_client.specs.declared.role.Role.TheVariants.{Hub, Owner, SuperUser, Operator, Registered, Bot, User}

-- the number has the bit of this value
abbrev pub has_bit : ℕ → ℕ → Bool
has_bit number value = number / value % 2 == 1

-- the highest role that is named
abbrev pub role_of : ℕ → Role
role_of bits =
    if has_bit bits 32 then Hub
    else if has_bit bits 16 then Owner
    else if has_bit bits 8 then SuperUser
    else if has_bit bits 4 then Operator
    else if has_bit bits 2 then Registered
    else if has_bit bits 1 then Bot
    else User

-- the name of a role
abbrev pub role_name : Role → List ℕ
role_name Hub = codes "hub"
role_name Owner = codes "owner"
role_name SuperUser = codes "superuser"
role_name Operator = codes "operator"
role_name Registered = codes "registered"
role_name Bot = codes "bot"
role_name User = codes "user"
