-- The lines that a take gives stand behind those of the takes before it.
use Rattle.std.proofs.Common.{◌≡◌, ◌∙◌, sym, ap, ap₂, refl, ℕ, ◌<◌, ◌≤◌, Bool, ◌==◌, List, [], ◌∷◌, ◌++◌, length, take, append-nil, arith}
use Rattle.hub_laws.proofs.Words.{ConnState, Becomes, Call, Configured, Effect, Facts, Legal, about_parts, becomes, concat, departure, effect_of_line, eqb-sym, eqb-true, facts, fresh-taken}
use Rattle.hub_laws.proofs.Words.{given-bytes, reply, sound_of, take-append-le, take_reply, taken_by}
use Rattle.hub_laws.specs.Delivery.{DeliveredAreTheFirst, bytes_of_take, bytes_taken, bytes_delivered}
use Rattle.hub_laws.proofs.Lag.{Unowed, about-owed, unowed_of}

-- the bytes of the first lines that a connection was owed, of as many as it took
abbrev front : ConnState → List ℕ
front a = concat (take a.taken a.owed)

-- ---- one call

-- an effect takes nothing, and adds to what is owed
front-after : (c : ℕ) (effect : Effect) (f : Facts) (d : ℕ) → (f.about d).taken ≤ length (f.about d).owed → front (about_parts c effect f.about d) ≡ front (f.about d)
front-after c effect f d few = grind (arith, about-owed, take-append-le)

take-front : (f : Facts) (c count d : ℕ) (same other : Bool) → (d == c) ≡ same → same ≡ other
    → front (taken_by same count (f.about d)) ≡ front (f.about d) ++ bytes_of_take other (take_reply count (f.about c))
take-front f c count d same other is alike = grind (arith, given-bytes, eqb-true, append-nil)

module _ {setup : Configured} {hash : List ℕ → List ℕ} {f : Facts} {caller d : ℕ} where
  front-next : {call : Call} {a : ConnState} → Becomes setup hash f caller d call a → (f.joins < d → (f.about d).taken ≡ 0) → (f.joins < d → Unowed (f.about d))
      → (f.about d).taken ≤ length (f.about d).owed → front a ≡ front (f.about d) ++ bytes_taken d call (reply setup hash f caller call)
  unfolding reply
  front-next (Becomes.joins peer challenge now place is) fresh unowed few =
      let beyond : f.joins < d = omega (arith, is) in
      ap₂ (λ n ls. concat (take n ls)) (sym (fresh beyond)) (sym (unowed beyond).owed) ∙ sym (append-nil (front (f.about d)))
  front-next (Becomes.says c bytes now) fresh unowed few = front-after c (effect_of_line setup hash f c bytes now) f d few ∙ sym (append-nil (front (f.about d)))
  front-next (Becomes.quits c) fresh unowed few = front-after c (departure (f.about c).stage (f.about c).sender.sid) f d few ∙ sym (append-nil (front (f.about d)))
  front-next (Becomes.takes c count) fresh unowed few = take-front f c count d (d == c) (c == d) refl (eqb-sym d c (d == c) (c == d) refl refl)
  front-next _ fresh unowed few = sym (append-nil (front (f.about d)))

-- ---- every history

pub delivered_are_the_first : DeliveredAreTheFirst
unfolding facts Legal bytes_delivered
delivered_are_the_first setup hash [] legal c = refl
delivered_are_the_first setup hash (e ∷ h) legal c =
    ap₂ ◌++◌ (delivered_are_the_first setup hash h legal.0 c) (ap (bytes_taken c e.call) legal.2)
    ∙ sym (front-next (becomes setup hash (facts setup hash h) e.caller c e.call) (fresh-taken setup hash h legal.0 c) (unowed_of setup hash h c) ((sound_of setup hash h).taken c))
