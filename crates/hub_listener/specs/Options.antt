-- What the system is asked to do with sockets.
use Rattle.std.specs.Prelude.{◌≡◌, ℕ, ℤ}
use Rattle.hub_listener.specs.declared.options.OptionCall.{OptionCall}
use Rattle.hub_listener.specs.declared.options.SocketOption.{SocketOption}

-- the system was asked to give an option of this socket this value
abbrev pub Sets : OptionCall → ℤ → SocketOption → ℕ → Type 0
Sets call descriptor option value = (call.descriptor ≡ descriptor) × (call.option ≡ option) × (call.value ≡ value)
