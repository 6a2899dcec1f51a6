-- A connection lags from the first share on that does not fit, and is owed the shares before it.
use Rattle.std.proofs.Common.{◌≡◌, ◌∙◌, sym, ap, ap₂, refl, ℕ, ◌<◌, Bool, true, false, not, ◌&&◌, ◌||◌, ◌==◌, List, [], ◌∷◌, ◌++◌, length, append-nil, arith}
use Rattle.std.proofs.Math.Bool.{and-true}
use Rattle.hub_laws.proofs.Words.{ConnState, Becomes, Call, Configured, Effect, Entry, Facts, LagIsTheFirst, OwedAreShares, SenderView, PreparedLine, HubView, Sound, Tidy, about_parts, after, all_fit, becomes}
use Rattle.hub_laws.proofs.Words.{cond, departure, effect_of_line, effect_of_reading, eqb-true, facts, has_room_for, hears_those, if◌then◌else◌, is_over, is_present, joins-grow, lags_with}
use Rattle.hub_laws.proofs.Words.{line_effect, nothing, over-beyond, owed_with, owes, present-over, share, shares_that_fit, sound_of, tidy_of, waiting}
use Rattle.hub_laws.proofs.Words.lines

-- ---- what an effect does to what is owed: it adds its share, or makes the connection lag

lag-step : (lags fit : Bool) → (not (not lags && fit) || lags) ≡ not (not lags && fit)
lag-step lags fit = grind arith

owed-step : (room : Bool) (owed more : List (List ℕ)) → cond room (owed ++ more) owed ≡ owed ++ cond room more []
owed-step room owed more = grind (arith, append-nil)

abbrev pub room_in : ConnState → List (List ℕ) → Bool
room_in a more = not a.lags && has_room_for (waiting a) more

abbrev pub share_by : ℕ → Effect → Facts → ℕ → List (List ℕ)
share_by c effect f d = owes (d == c) effect (f.about d)

about-lags : (c : ℕ) (effect : Effect) (f : Facts) (d : ℕ) → (about_parts c effect f.about d).lags ≡ not (room_in (f.about d) (share_by c effect f d))
unfolding lags_with
about-lags c effect f d = lag-step (f.about d).lags (has_room_for (waiting (f.about d)) (share_by c effect f d))

pub about-owed : (c : ℕ) (effect : Effect) (f : Facts) (d : ℕ)
    → (about_parts c effect f.about d).owed ≡ (f.about d).owed ++ cond (room_in (f.about d) (share_by c effect f d)) (share_by c effect f d) []
unfolding owed_with
about-owed c effect f d = owed-step (room_in (f.about d) (share_by c effect f d)) (f.about d).owed (share_by c effect f d)

-- ---- a share of no lines always fits

room-nothing : (a : ConnState) → Tidy a → has_room_for (waiting a) [] ≡ true
room-nothing a tidy = grind arith

-- ---- one call: how a connection stands, by whether all shares fitted, and by the lines of those that did

record Stood (a : ConnState) (fit : Bool) (lines : List (List ℕ)) : Type 0 where
  lags : a.lags ≡ not fit
  owed : a.owed ≡ lines

double-not : (fit room : Bool) → (not (not fit) && room) ≡ (fit && room)
double-not fit room = grind arith

effect-stood : (c : ℕ) (effect : Effect) (f : Facts) (d : ℕ) (fit : Bool) (lines : List (List ℕ)) → Stood (f.about d) fit lines
    → Stood (about_parts c effect f.about d) (fit && has_room_for (waiting (f.about d)) (share_by c effect f d))
    (lines ++ cond (fit && has_room_for (waiting (f.about d)) (share_by c effect f d)) (share_by c effect f d) [])
effect-stood c effect f d fit lines stood = grind (arith, double-not, about-lags, about-owed)

-- no line
abbrev none : List (List ℕ)
none = []

pub given-nothing : {A : Type 0} (b : Bool) → cond {A = List A} b [] [] ≡ []
given-nothing b = grind arith

-- a call that owes nothing
still-stood : (a b : ConnState) (fit : Bool) (lines : List (List ℕ)) → Tidy a → b.lags ≡ a.lags → b.owed ≡ a.owed → Stood a fit lines
    → Stood b (fit && has_room_for (waiting a) []) (lines ++ cond (fit && has_room_for (waiting a) []) [] [])
still-stood a b fit lines tidy lags owed stood = grind (arith, and-true, room-nothing, append-nil, given-nothing)

-- ---- a connection that has not joined yet is owed nothing

pub record Unowed (a : ConnState) : Type 0 where
  pub lags : a.lags ≡ false
  pub owed : a.owed ≡ []

not-heard : (same : Bool) (effect : Effect) (a : ConnState) → is_present a.stage ≡ false → cond same effect.own [] ≡ [] → owes same effect a ≡ []
not-heard same effect a absent none = ap₂ (λ p own. cond (p && hears_those same effect.hearers a) effect.others [] ++ own) absent none

line-silent : (hub : HubView) (own : SenderView) (line : PreparedLine) (now : ℕ) → is_over own.stage ≡ true → (line_effect hub own line now).own ≡ []
unfolding line_effect
line-silent hub own line now over = ap (λ b. (if b then nothing else if length line.bytes == 0 then nothing else effect_of_reading hub own line now (lines.reading line.bytes)).own) over

own-silent : (setup : Configured) (hash : List ℕ → List ℕ) (f : Facts) (d c : ℕ) (bytes : List ℕ) (now : ℕ) (same : Bool) → (d == c) ≡ same → is_over (f.about d).stage ≡ true
    → cond same (effect_of_line setup hash f c bytes now).own [] ≡ []
own-silent setup hash f d c bytes now same is over = grind (arith, eqb-true, line-silent)

pub share-beyond : (setup : Configured) (hash : List ℕ → List ℕ) (f : Facts) (d : ℕ) (call : Call) → is_over (f.about d).stage ≡ true → share setup hash f d call ≡ []
share-beyond setup hash f d call over = grind (arith, not-heard, present-over, own-silent, given-nothing)

-- ---- each kind of call

module _ {setup : Configured} {hash : List ℕ → List ℕ} {f : Facts} {caller d : ℕ} where
  stood-after : {call : Call} {a : ConnState} → Becomes setup hash f caller d call a → (fit : Bool) (lines : List (List ℕ)) → Tidy (f.about d) → (f.joins < d → Unowed (f.about d))
      → Stood (f.about d) fit lines → Stood a (fit && has_room_for (waiting (f.about d)) (share setup hash f d call))
      (lines ++ cond (fit && has_room_for (waiting (f.about d)) (share setup hash f d call)) (share setup hash f d call) [])
  stood-after (Becomes.joins peer challenge now place is) fit lines tidy fresh stood =
      let none = fresh (omega (arith, is)) in still-stood (f.about d) _ fit lines tidy (sym none.lags) (sym none.owed) stood
  stood-after (Becomes.says c bytes now) fit lines tidy fresh stood = effect-stood c (effect_of_line setup hash f c bytes now) f d fit lines stood
  stood-after (Becomes.quits c) fit lines tidy fresh stood = effect-stood c (departure (f.about c).stage (f.about c).sender.sid) f d fit lines stood
  stood-after _ fit lines tidy fresh stood = still-stood (f.about d) _ fit lines tidy refl refl stood

-- ---- every history

unowed-after : (setup : Configured) (hash : List ℕ → List ℕ) (f : Facts) (caller : ℕ) (call : Call) (d : ℕ) → Sound f → Tidy (f.about d) → f.joins < d → Unowed (f.about d)
    → Unowed ((after setup hash f caller call).about d)
unowed-after setup hash f caller call d sound tidy beyond none =
    let silent : share setup hash f d call ≡ [] = share-beyond setup hash f d call (over-beyond f sound d beyond) in
    let stood = stood-after (becomes setup hash f caller d call) true [] tidy (λ b. none) (record { lags = none.lags; owed = none.owed }) in
    record {
      lags = stood.lags ∙ ap (λ more. not (has_room_for (waiting (f.about d)) more)) silent ∙ ap not (room-nothing (f.about d) tidy);
      owed = stood.owed ∙ ap (λ more. cond (has_room_for (waiting (f.about d)) more) more []) silent ∙ given-nothing _;
    }

pub unowed_of : (setup : Configured) (hash : List ℕ → List ℕ) (h : List Entry) (d : ℕ) → (facts setup hash h).joins < d → Unowed ((facts setup hash h).about d)
unfolding facts
unowed_of setup hash [] d beyond = record { lags = refl; owed = refl }
unowed_of setup hash (e ∷ h) d beyond =
    let f : Facts = facts setup hash h in
    let below : f.joins < d = omega (arith, beyond, joins-grow setup hash f e.caller e.call) in
    unowed-after setup hash f e.caller e.call d (sound_of setup hash h) (tidy_of setup hash h d) below (unowed_of setup hash h d below)

stood_of : (setup : Configured) (hash : List ℕ → List ℕ) (h : List Entry) (d : ℕ) → Stood ((facts setup hash h).about d) (all_fit setup hash h d) (shares_that_fit setup hash h d)
unfolding facts all_fit shares_that_fit
stood_of setup hash [] d = record { lags = refl; owed = refl }
stood_of setup hash (e ∷ h) d =
    stood-after (becomes setup hash (facts setup hash h) e.caller d e.call) (all_fit setup hash h d) (shares_that_fit setup hash h d) (tidy_of setup hash h d) (unowed_of setup hash h d)
    (stood_of setup hash h d)

pub lag_is_the_first : LagIsTheFirst
lag_is_the_first setup hash h d = (stood_of setup hash h d).lags

pub owed_are_shares : OwedAreShares
owed_are_shares setup hash h d = (stood_of setup hash h d).owed
