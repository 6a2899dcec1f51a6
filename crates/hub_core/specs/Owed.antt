-- The shares of an effect: only those that hear something have one, kept with the place of its seat.
use Rattle.std.specs.Prelude.{◌≡◌, ◌≢◌, ◌<◌, ℕ, ◌+◌, false, List, [], ◌∷◌, ◌++◌, get_or, length, if◌then◌else◌}
use Rattle.feature_route.specs.Audiences.{holds_words}
use Rattle.feature_route.specs.declared.receivers.Audience.{Audience}
use Rattle.hub_core.specs.declared.seat.Seat.{Seat}
use Rattle.hub_core.specs.declared.share.Share.{Share}
use Rattle.hub_core.specs.Phases.{phase_hears}
use Rattle.hub_rules.specs.declared.effect.Effect.{Effect}

-- the share of the seat at a place, where it hears something
abbrev pub share_at : ℕ → List (List ℕ) → List Share
share_at place [] = []
share_at place (line ∷ lines) = record { place = place; lines = line ∷ lines } ∷ []

-- the shares of seats, of which the first stands at this place
unfoldable pub shares_from : ℕ → (Seat → List (List ℕ)) → List Seat → List Share
shares_from place owed [] = []
shares_from place owed (seat ∷ seats) = share_at place (owed seat) ++ shares_from (place + 1) owed seats

-- no seat is owed anything but those at these two places
abbrev pub AreQuietBut : ℕ → ℕ → (Seat → List (List ℕ)) → List Seat → Type 0
AreQuietBut one other owed seats =
    (other < length seats) × ((i : ℕ) (d : Seat) → i < length seats → i ≢ one → i ≢ other → owed (get_or seats i d) ≡ [])

-- each user for whom a message is has one of these two session identifiers
abbrev pub IsOnlyFor : ℕ → ℕ → Audience → Type 0
IsOnlyFor one other audience = (sid : ℕ) (words : List (List ℕ)) → sid ≢ one → sid ≢ other → holds_words audience sid words ≡ false

-- whatever others hear of an effect, only who has one of these two session identifiers hears it
abbrev pub IsMeant : ℕ → ℕ → Effect → Type 0
IsMeant one other effect =
    (seat : Seat) → seat.sender.sid ≢ one → seat.sender.sid ≢ other → (if phase_hears seat.phase false effect.hearers seat.sender.sid then effect.others else []) ≡ []
