-- No two users who are present have the same nick, or the same client identifier.
use Rattle.std.proofs.Common.{◌≡◌, ◌∙◌, sym, ap, refl, ℕ, Bool, true, false, ◌||◌, ◌==◌, List, filter, cond, ◌∷◌, [], arith, subst}
use Rattle.hub_laws.proofs.Words.{Effect, Facts, Field, Sound, about_parts, enters, eq-eqb, eqb-true, fields_after, happens, has, has-append, has-filter, is_present, present_parts, happens-parts}

-- the users who are present have different values of this
abbrev pub Differ : (List Field → List ℕ) → Facts → Type 0
Differ of f = (c d : ℕ) → has c f.present ≡ true → has d f.present ≡ true → of (f.about c).fields ≡ of (f.about d).fields → c ≡ d

-- what an effect leaves of its connection is no other present user's
abbrev pub Clears : (List Field → List ℕ) → Facts → ℕ → Effect → Type 0
Clears of f c effect =
    is_present (about_parts c effect f.about c).stage ≡ true → (d : ℕ) → has d f.present ≡ true → (c == d) ≡ false
    → of (fields_after effect.change (f.about c).fields) ≡ of (f.about d).fields → ⊥

newcomer-other : (enter : Bool) (c d : ℕ) → (c == d) ≡ false → has d (cond enter (c ∷ []) []) ≡ false
newcomer-other enter c d other = grind arith

was-there : (c : ℕ) (effect : Effect) (f : Facts) (d : ℕ) (first : Bool) → has d (filter (λ x. is_present (about_parts c effect f.about x).stage) f.present) ≡ first
    → (c == d) ≡ false → (first || has d (cond (enters effect.change) (c ∷ []) [])) ≡ true → has d f.present ≡ true
was-there c effect f d first is other there = grind (arith, has-filter, newcomer-other)

stays-there : (c : ℕ) (effect : Effect) (f : Facts) (d : ℕ) → (c == d) ≡ false → has d (present_parts c effect f.about f.present) ≡ true → has d f.present ≡ true
stays-there c effect f d other there =
    was-there c effect f d (has d (filter (λ x. is_present (about_parts c effect f.about x).stage) f.present)) refl other
    (sym (has-append d (filter (λ x. is_present (about_parts c effect f.about x).stage) f.present) (cond (enters effect.change) (c ∷ []) [])) ∙ there)

other-fields : (c : ℕ) (effect : Effect) (f : Facts) (d : ℕ) → (d == c) ≡ false → (about_parts c effect f.about d).fields ≡ (f.about d).fields
other-fields c effect f d other = ap (λ b. cond b (fields_after effect.change (f.about d).fields) (f.about d).fields) other

own-fields : (c : ℕ) (effect : Effect) (f : Facts) → (about_parts c effect f.about c).fields ≡ fields_after effect.change (f.about c).fields
own-fields c effect f = ap (λ b. cond b (fields_after effect.change (f.about c).fields) (f.about c).fields) (eq-eqb c c refl)

here-after : (c : ℕ) (effect : Effect) (f : Facts) → Sound (happens c effect f) → has c (present_parts c effect f.about f.present) ≡ true
    → is_present (about_parts c effect f.about c).stage ≡ true
here-after c effect f sound there = sym ((subst Sound (happens-parts c effect f) sound).entered c) ∙ there

differ-by : (of : List Field → List ℕ) (c : ℕ) (effect : Effect) (f : Facts) → Sound (happens c effect f) → Differ of f → Clears of f c effect
    → (a b : ℕ) (first second : Bool) → (c == a) ≡ first → (c == b) ≡ second
    → has a (present_parts c effect f.about f.present) ≡ true → has b (present_parts c effect f.about f.present) ≡ true
    → of (about_parts c effect f.about a).fields ≡ of (about_parts c effect f.about b).fields → a ≡ b
differ-by of c effect f sound differ clears a b first second is-a is-b there-a there-b same = grind (arith, eqb-true, here-after, stays-there, own-fields, other-fields)

pub happens-differ : (of : List Field → List ℕ) (c : ℕ) (effect : Effect) (f : Facts) → Sound (happens c effect f) → Differ of f → Clears of f c effect → Differ of (happens c effect f)
happens-differ of c effect f sound differ clears =
    subst (Differ of) (sym (happens-parts c effect f)) (λ a b there-a there-b same.
    differ-by of c effect f sound differ clears a b (c == a) (c == b) refl refl there-a there-b same)
