-- How a server opens.
use Rattle.std.specs.Prelude.{◌≡◌, ℕ, List, [], ◌∷◌, ◌++◌, codes, Some}
use Rattle.std.specs.Net.Text.{socket_text}
use Rattle.std.specs.declared.net.socket_addr.SocketAddr.{SocketAddr}
use Rattle.server_tasks.specs.declared.state.ServerFault.TheVariants.{Output}
use Rattle.server_tasks.specs.declared.state.Told.TheVariants as told
use Rattle.server_tasks.specs.declared.startup.Opening.{Opening}
use Rattle.server_tasks.specs.declared.startup.Opening.TheVariants.{Open, Shut}

-- as "listening 127.0.0.1:411", with a line feed
abbrev pub listening_text : SocketAddr → List ℕ
listening_text address = codes "listening " ++ (socket_text address ++ 10 ∷ [])

-- A server was told to open, and its address was said, or it was closed for its output.
abbrev pub IsOpeningSettled : Opening → Type 0 → Type 0
IsOpeningSettled (Open word) IsSaid = (word ≡ told.Open) × IsSaid
IsOpeningSettled (Shut closed) IsSaid = closed ≡ told.Closed (Some Output)
