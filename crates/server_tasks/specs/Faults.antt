-- What a failed call of the listener means, by Linux's numbers.
use Rattle.std.specs.Prelude.{ℕ, ℤ, pos, negsuc, ◌==◌, List, [], ◌∷◌, Option, Some, None, if◌then◌else◌}
use Rattle.std.specs.List.{list_any}
use Rattle.server_tasks.specs.declared.accept_error.AcceptError.{AcceptError}
use Rattle.server_tasks.specs.declared.accept_error.AcceptError.TheVariants.{Room, Gone, Listener}

-- ENFILE, EMFILE, ENOSPC, ENOBUFS
abbrev pub room_numbers : List ℕ
room_numbers = 23 ∷ 24 ∷ 28 ∷ 105 ∷ []

-- EINTR, EAGAIN, ENONET, EPROTO, ENOPROTOOPT, EOPNOTSUPP, ENETDOWN, ENETUNREACH, ECONNABORTED, ENOTCONN, EHOSTDOWN, EHOSTUNREACH
abbrev pub gone_numbers : List ℕ
gone_numbers = 4 ∷ 11 ∷ 64 ∷ 71 ∷ 92 ∷ 95 ∷ 100 ∷ 101 ∷ 103 ∷ 107 ∷ 112 ∷ 113 ∷ []

-- what this number means, if memory is not what lacks
abbrev pub number_error : ℤ → AcceptError
number_error (pos n) =
    if list_any (λ m. m == n) room_numbers then Room else if list_any (λ m. m == n) gone_numbers then Gone else Listener
number_error (negsuc n) = Listener

-- an error without a number is the listener's
abbrev pub error_by : Option ℤ → AcceptError
error_by None = Listener
error_by (Some number) = number_error number
