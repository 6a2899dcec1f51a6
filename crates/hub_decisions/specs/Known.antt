-- The user of the connection whose line is decided.
use Rattle.std.specs.Prelude.{◌≡◌, [], Option, Some}
use Rattle.login_state.specs.declared.stage.Stage.{Stage}
use Rattle.login_state.specs.declared.stage.Stage.TheVariants as stages
use Rattle.user_table.specs.Listed.{Listed}
use Rattle.hub_rules.specs.Identities.{listed_user}
use Rattle.hub_rules.specs.Views.{SenderView}

-- the user of the connection, known by what its fields say
abbrev pub IsUser : SenderView → Listed → Type 0
IsUser own user = user ≡ listed_user own.sender.sid own.fields

abbrev pub KnownAt : Stage → SenderView → Option Listed → Type 0
KnownAt stages.Identify own user = own.fields ≡ []
KnownAt stages.Verify own user = user ≡ Some (listed_user own.sender.sid own.fields)
KnownAt stages.Normal own user = user ≡ Some (listed_user own.sender.sid own.fields)
KnownAt stage own user = Unit {0}

-- nothing is known of it before its login, and then who it is by what its fields say
abbrev pub IsKnown : SenderView → Option Listed → Type 0
IsKnown own user = KnownAt own.stage own user
