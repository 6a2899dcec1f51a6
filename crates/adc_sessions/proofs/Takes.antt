-- The last take of a session, and behind what it came.
use Rattle.std.proofs.Common.{◌≡◌, ◌⊎◌, ◌<◌, ◌++◌, ℕ, Bool, true, false, true≢false, leb-false, List, [], ◌∷◌, Option, Some, None, IsSomeAnd, refl, sym, ap, subst, ◌∙◌, inl, inr, ⊎_elim}
use Rattle.std.specs.Prelude.{⊤}
use Rattle.std.specs.List.{All}
use Rattle.std.proofs.lemmas.List.Elements.{All-nil, All-cons, All-head, All-tail, All-weaker}
use Rattle.outboxes.specs.declared.taken.Taken.{Taken}
use Rattle.adc_sessions.specs.Events.{Event, read, met_end, read_failed, wrote, write_failed, handed, took, refused, on_stream, on_port, met_by, told_by, owes_by, fresh_by, after, IsOfStream, IsCaughtUp, IsDrained}

-- a call of the stream by which nothing new may wait
abbrev IsStill : Event → Type 0
IsStill (on_stream (read bytes)) = ⊤
IsStill (on_stream met_end) = ⊥
IsStill (on_stream read_failed) = ⊤
IsStill (on_stream (wrote bytes)) = ⊤
IsStill (on_stream write_failed) = ⊤
IsStill (on_port call) = ⊥

-- a take that gave fewer lines than it asked for, and behind it nothing new
abbrev LastTake : List Event → Type 0
LastTake events =
    (before later : List Event) × (count : ℕ) × (bytes : List ℕ) × (taken : Taken)
    × (events ≡ before ++ on_port (took count bytes taken) ∷ later) × (taken.lines < count) × All IsStill later

behind : (event : Event) (events : List Event) (owes : Bool) → LastTake events ⊎ (All IsStill events × (owes_by owes event ≡ false)) → LastTake (event ∷ events) ⊎ (All IsStill (event ∷ events) × (owes ≡ false))
behind event events owes (inl last) = inl (event ∷ last.0, last.1, last.2, last.3, last.4, ap (λ es. event ∷ es) last.5, last.6, last.7)
behind (on_stream (read bytes)) events owes (inr still) = inr (All-cons IsStill _ events (tt {0}) still.0, still.1)
behind (on_stream met_end) events owes (inr still) = absurd (true≢false still.1)
behind (on_stream read_failed) events owes (inr still) = inr (All-cons IsStill _ events (tt {0}) still.0, still.1)
behind (on_stream (wrote bytes)) events owes (inr still) = inr (All-cons IsStill _ events (tt {0}) still.0, still.1)
behind (on_stream write_failed) events owes (inr still) = inr (All-cons IsStill _ events (tt {0}) still.0, still.1)
behind (on_port (handed line verdict)) events owes (inr still) = absurd (true≢false still.1)
behind (on_port (took count bytes taken)) events owes (inr still) = inl ([], events, count, bytes, taken, refl, leb-false count taken.lines still.1, still.0)
behind (on_port refused) events owes (inr still) = absurd (true≢false still.1)

last_take : (events : List Event) (owes : Bool) → after owes_by owes events ≡ false → LastTake events ⊎ (All IsStill events × (owes ≡ false))
last_take [] owes is = inr (All-nil IsStill, is)
last_take (event ∷ events) owes is = behind event events owes (last_take events (owes_by owes event) is)

after-append : {A : Type 0} (by : A → Event → A) (value : A) (before events : List Event) → after by value (before ++ events) ≡ after by (after by value before) events
after-append by value [] events = refl
after-append by value (event ∷ before) events = after-append by (by value event) before events

met-still : (event : Event) (met : Bool) → IsStill event → met_by met event ≡ met
met-still (on_stream (read bytes)) met still = refl
met-still (on_stream met_end) met still = absurd still
met-still (on_stream read_failed) met still = refl
met-still (on_stream (wrote bytes)) met still = refl
met-still (on_stream write_failed) met still = refl
met-still (on_port call) met still = absurd still

told-still : (event : Event) (told : Option Taken) → IsStill event → told_by told event ≡ told
told-still (on_stream call) told still = refl
told-still (on_port call) told still = absurd still

fresh-still : (event : Event) (fresh : Bool) → IsStill event → fresh_by fresh event ≡ fresh
fresh-still (on_stream call) fresh still = refl
fresh-still (on_port call) fresh still = absurd still

-- what no such call changes stays
after-still : {A : Type 0} (by : A → Event → A) → ((event : Event) (value : A) → IsStill event → by value event ≡ value) → (events : List Event) (value : A) → All IsStill events → after by value events ≡ value
after-still by stays [] value still = refl
after-still by stays (event ∷ events) value still =
    after-still by stays events (by value event) (All-tail IsStill event events still) ∙ stays event value (All-head IsStill event events still)

of_stream : (event : Event) → IsStill event → IsOfStream event
of_stream (on_stream call) still = tt {0}
of_stream (on_port call) still = absurd still

-- the port was called, and no take has to follow
pub caught_up : (events : List Event) (owes : Bool) → after owes_by owes events ≡ false → after fresh_by true events ≡ false → IsCaughtUp events
caught_up events owes none called =
    ⊎_elim (λ last. (last.0, last.1, last.2, last.3, last.4, last.5, last.6, All-weaker IsStill IsOfStream of_stream last.1 last.7))
    (λ still. absurd (true≢false (sym (after-still fresh_by fresh-still events true still.0) ∙ called))) (last_take events owes none)

after-split : {A : Type 0} (by : A → Event → A) (value : A) (events before later : List Event) (event : Event) → events ≡ before ++ event ∷ later → after by value events ≡ after by (by (after by value before) event) later
after-split by value events before later event is = ap (λ (es : List Event). after by value es) is ∙ after-append by value before (event ∷ later)

-- no take has to follow, the end was met, and the last take gave no line
pub drains-last : (events : List Event) → after owes_by true events ≡ false → after met_by false events ≡ true → IsSomeAnd (after told_by None events) (λ taken. taken.lines ≡ 0) → IsDrained events
drains-last events none met gave =
    ⊎_elim (λ last.
    let event : Event = on_port (took last.2 last.3 last.4) in
    let told_now : after told_by None events ≡ Some last.4 = after-split told_by None events last.0 last.1 event last.5 ∙ after-still told_by told-still last.1 (Some last.4) last.7 in
    let met_now : after met_by false events ≡ after met_by false last.0 = after-split met_by false events last.0 last.1 event last.5 ∙ after-still met_by met-still last.1 (after met_by false last.0) last.7 in
    (last.0, last.1, last.2, last.3, last.4, last.5, subst (λ (t : Option Taken). IsSomeAnd t (λ taken. taken.lines ≡ 0)) told_now gave, sym met_now ∙ met, All-weaker IsStill IsOfStream of_stream last.1 last.7))
    (λ still. absurd (true≢false still.1)) (last_take events true none)
