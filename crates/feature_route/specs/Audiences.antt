-- The audience of a message, by its type (ADC 1.0, "Message types").
use Rattle.std.specs.Prelude.{ℕ, ◌==◌, ◌||◌, Bool, true, false, List, Option, Some, if◌then◌else◌}
use Rattle.std.specs.Option.{option_map_or}
use Rattle.adc_line.specs.Lines.{Reading}
use Rattle.adc_line.specs.declared.header.Kind.{Kind}
use Rattle.adc_line.specs.declared.header.Kind.TheVariants as kinds
use Rattle.feature_route.specs.declared.receivers.Audience.{Audience}
use Rattle.feature_route.specs.declared.receivers.Audience.TheVariants.{All, One, Two, Having, Nobody}
use Rattle.feature_route.specs.Wants.{wants_of}
use Rattle.feature_route.specs.Matching.{meets, su_words}

-- a direct message is for its target, where that user is present
abbrev pub direct_audience : Bool → Option ℕ → Audience
direct_audience true (Some target) = One target
direct_audience present target = Nobody

-- an echoed message is for the target and the sender, once each, and for nobody where the target is away
abbrev pub echo_audience : Bool → Option ℕ → Option ℕ → Audience
echo_audience true (Some target) (Some own) = if target == own then One target else Two target own
echo_audience present target own = Nobody

-- a feature message is for those who have what its feature word wants
abbrev pub by_kind : Kind → Reading → Bool → Audience
by_kind kinds.Broadcast line present = All
by_kind kinds.Direct line present = direct_audience present line.target
by_kind kinds.Echo line present = echo_audience present line.target line.from
by_kind kinds.Feature line present = option_map_or (λ (word : List ℕ). Having (wants_of word)) line.features Nobody
by_kind kind line present = Nobody

-- for whom a message is among the users who are present, by whether its target is one of them
unfoldable pub audience : Reading → Bool → Audience
audience line target_present = by_kind line.kind line target_present

-- whether it is for the user with this identifier and these words of SU
unfoldable pub holds_words : Audience → ℕ → List (List ℕ) → Bool
holds_words All sid words = true
holds_words (One one) sid words = one == sid
holds_words (Two one other) sid words = one == sid || other == sid
holds_words (Having want) sid words = meets want words
holds_words Nobody sid words = false

-- whether it is for the user with this identifier and SU
abbrev pub holds : Audience → ℕ → List ℕ → Bool
holds audience sid su = holds_words audience sid (su_words su)
