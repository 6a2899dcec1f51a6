-- Those who are present stand in the order in which they entered.
use Rattle.std.proofs.Common.{◌≡◌, ◌∙◌, sym, ap, ap₂, refl, subst, ℕ, ◌+◌, Bool, true, false, not, ◌&&◌, ◌||◌, ◌==◌, eqb, ◌≤◌, cond, List, [], ◌∷◌, ◌++◌, filter, append-nil, arith}
use Rattle.std.proofs.lemmas.List.Elements.{filter-append}
use Rattle.hub_laws.specs.EntryOrder.{PresentInOrder, brought_in, entrants}
use Rattle.hub_laws.proofs.Words.{Call, Configured, Effect, Entry, Facts, Fits, Join, Line, Quit, Sound, Stage, Take, about_after, after, departure, effect_of_line, enters, eq-eqb, facts}
use Rattle.hub_laws.proofs.Words.{false≢true, fits-departure, fits-line, happens, happens-open, has, has-append, has_joins, has_place, is_present, newcomer, next_sid, not-over, or-true, sound_of}
use Rattle.hub_laws.proofs.Words.{stage_after, take-facts, with_connection, without_connection}
use Rattle.hub_laws.proofs.StageOrder.{is_settled, keeps-line, keeps-settled}

-- ---- lists

-- two filters one after the other are one, where the second lets through only what the first does
narrower : (p q : ℕ → Bool) (x : ℕ) (xs : List ℕ) (first second : Bool) → p x ≡ first → q x ≡ second → (q x ≡ true → p x ≡ true)
    → filter q (filter p xs) ≡ filter q xs → filter q (cond first (x ∷ filter p xs) (filter p xs)) ≡ cond second (x ∷ filter q xs) (filter q xs)
narrower p q x xs first second is-p is-q only rest = grind arith

filter-narrow : (p q : ℕ → Bool) (xs : List ℕ) → ((d : ℕ) → has d xs ≡ true → q d ≡ true → p d ≡ true) → filter q (filter p xs) ≡ filter q xs
filter-narrow p q [] only = refl
filter-narrow p q (x ∷ xs) only =
    narrower p q x xs (p x) (q x) refl refl (only x (ap (λ b. b || has x xs) (eq-eqb x x refl)))
    (filter-narrow p q xs (λ d there. only d (ap (λ b. eqb x d || b) there ∙ or-true (eqb x d))))

-- ---- stages

settled-present : (s : Stage) → is_present s ≡ true → is_settled s ≡ true
settled-present s here = grind arith

-- ---- one effect

-- an effect under which nobody who entered enters again
pub record Steady (stage : Stage) (effect : Effect) : Type 0 where
  pub settled : is_settled stage ≡ true → is_settled (stage_after effect.change stage) ≡ true

about-settled : (c : ℕ) (effect : Effect) (f : Facts) → Steady (f.about c).stage effect → (d : ℕ) → is_settled (f.about d).stage ≡ true
    → is_settled (about_after c effect f.about d).stage ≡ true
about-settled c effect f steady d settled = grind arith

was-present : (c : ℕ) (effect : Effect) (f : Facts) → Fits (f.about c).stage effect → (d : ℕ) → is_settled (f.about d).stage ≡ true
    → is_present (about_after c effect f.about d).stage ≡ true → is_present (f.about d).stage ≡ true
was-present c effect f suits d settled here = grind arith

entered-here : (c : ℕ) (effect : Effect) (f : Facts) → Fits (f.about c).stage effect → enters effect.change ≡ true → is_present (about_after c effect f.about c).stage ≡ true
entered-here c effect f suits enter = grind arith

enters-is : (c : ℕ) (effect : Effect) (f : Facts) → Fits (f.about c).stage effect
    → enters effect.change ≡ (not (is_present (f.about c).stage) && is_present (about_after c effect f.about c).stage)
enters-is c effect f suits = grind arith

-- ---- every call

pub record Ordered (f : Facts) (cs : List ℕ) : Type 0 where
  pub all_settled : (d : ℕ) → has d cs ≡ true → is_settled (f.about d).stage ≡ true
  pub all_joined : (d : ℕ) → has d cs ≡ true → d ≤ f.joins
  pub in_order : f.present ≡ filter (λ d. is_present (f.about d).stage) cs

either : (a b : Bool) → (a || b) ≡ true → (a ≡ false → b ≡ true)
either a b e other = grind arith

in-newcomer : (enter : Bool) (c d : ℕ) → has d (cond enter (c ∷ []) []) ≡ true → (enter ≡ true) × (c ≡ d)
in-newcomer enter c d there = grind arith

grown : (P : ℕ → Type 0) (cs more : List ℕ) (d : ℕ) (first : Bool) → has d cs ≡ first → (has d cs ≡ true → P d) → (has d more ≡ true → P d) → has d (cs ++ more) ≡ true → P d
grown P cs more d first is old new there = grind (arith, has-append)

newcomer-stays : (p : ℕ → Bool) (enter : Bool) (c : ℕ) → (enter ≡ true → p c ≡ true) → filter p (cond enter (c ∷ []) []) ≡ cond enter (c ∷ []) []
newcomer-stays p enter c here = grind arith

happens-ordered : (c : ℕ) (effect : Effect) (f : Facts) (cs : List ℕ) → Sound f → Fits (f.about c).stage effect → Steady (f.about c).stage effect → Ordered f cs
    → Ordered (happens c effect f) (cs ++ cond (enters effect.change) (c ∷ []) [])
unfolding happens
happens-ordered c effect f cs sound suits steady ordered = record {
  all_settled = λ d there. grown (λ x. is_settled (about_after c effect f.about x).stage ≡ true) cs (cond (enters effect.change) (c ∷ []) []) d (has d cs) refl
      (λ old. about-settled c effect f steady d (ordered.all_settled d old))
      (λ new. let is = in-newcomer (enters effect.change) c d new in
      subst (λ x. is_settled (about_after c effect f.about x).stage ≡ true) is.1
      (settled-present (about_after c effect f.about c).stage (entered-here c effect f suits is.0)))
      there;
  all_joined = λ d there. grown (λ x. x ≤ f.joins) cs (cond (enters effect.change) (c ∷ []) []) d (has d cs) refl
      (ordered.all_joined d)
      (λ new. let is = in-newcomer (enters effect.change) c d new in
      subst (λ x. x ≤ f.joins) is.1
      (sound.counted c (happens-open c effect f sound suits c (not-over (about_after c effect f.about c).stage (entered-here c effect f suits is.0)))))
      there;
  in_order =
      ap (λ xs. filter (λ d. is_present (about_after c effect f.about d).stage) xs ++ cond (enters effect.change) (c ∷ []) []) ordered.in_order
      ∙ ap (λ xs. xs ++ cond (enters effect.change) (c ∷ []) [])
      (filter-narrow (λ d. is_present (f.about d).stage) (λ d. is_present (about_after c effect f.about d).stage) cs
      (λ d there. was-present c effect f suits d (ordered.all_settled d there)))
      ∙ ap (λ xs. filter (λ d. is_present (about_after c effect f.about d).stage) cs ++ xs)
      (sym (newcomer-stays (λ d. is_present (about_after c effect f.about d).stage) (enters effect.change) c (entered-here c effect f suits)))
      ∙ sym (filter-append (λ d. is_present (about_after c effect f.about d).stage) cs (cond (enters effect.change) (c ∷ []) []));
}

-- the same of facts whose stages are the same where somebody entered
filter-same : (p q : ℕ → Bool) (xs : List ℕ) → ((d : ℕ) → has d xs ≡ true → p d ≡ q d) → filter p xs ≡ filter q xs
filter-same p q [] same = refl
filter-same p q (x ∷ xs) same =
    ap₂ (λ b (ys : List ℕ). cond b (x ∷ ys) ys) (same x (ap (λ b. b || has x xs) (eq-eqb x x refl)))
    (filter-same p q xs (λ d there. same d (ap (λ b. eqb x d || b) there ∙ or-true (eqb x d))))

ordered-same : (f g : Facts) (cs : List ℕ) → f.joins ≤ g.joins → g.present ≡ f.present → ((d : ℕ) → d ≤ f.joins → (g.about d).stage ≡ (f.about d).stage)
    → Ordered f cs → Ordered g cs
ordered-same f g cs more present same ordered = grind (arith, filter-same)

join-stage : (f : Facts) (owner : ℕ) (peer challenge : List ℕ) (d : ℕ) (same : Bool) → (d == (f.joins + 1)) ≡ same → d ≤ f.joins
    → (cond same (newcomer owner (next_sid f) peer challenge) (f.about d)).stage ≡ (f.about d).stage
join-stage f owner peer challenge d same is below = grind arith

joined-ordered : (f : Facts) (owner : ℕ) (peer challenge : List ℕ) (cs : List ℕ) → Ordered f cs → Ordered (with_connection f owner peer challenge) cs
unfolding with_connection
joined-ordered f owner peer challenge cs ordered = grind (arith, ordered-same, join-stage)

join-ordered : (f : Facts) (owner : ℕ) (peer challenge : List ℕ) (cs : List ℕ) (accepted : Bool) → Ordered f cs → Ordered (cond accepted (with_connection f owner peer challenge) f) cs
join-ordered f owner peer challenge cs true ordered = joined-ordered f owner peer challenge cs ordered
join-ordered f owner peer challenge cs false ordered = ordered

closed-ordered : (c : ℕ) (f : Facts) (cs : List ℕ) → Ordered f cs → Ordered (without_connection c f) cs
unfolding without_connection
closed-ordered c f cs ordered = record { all_settled = ordered.all_settled; all_joined = ordered.all_joined; in_order = ordered.in_order }

steady-line : (setup : Configured) (hash : List ℕ → List ℕ) (f : Facts) (c : ℕ) (bytes : List ℕ) (now : ℕ) → Steady (f.about c).stage (effect_of_line setup hash f c bytes now)
steady-line setup hash f c bytes now = grind (arith, keeps-settled, keeps-line)

-- a call that brings nobody in
none-brought : (f : Facts) (cs : List ℕ) → Ordered f cs → Ordered f (cs ++ [])
none-brought f cs ordered = subst (Ordered f) (sym (append-nil cs)) ordered

after-ordered : (setup : Configured) (hash : List ℕ → List ℕ) (f : Facts) (caller : ℕ) (call : Call) (cs : List ℕ) → Sound f → Ordered f cs
    → Ordered (after setup hash f caller call) (cs ++ brought_in setup hash f caller call)
unfolding after happens
after-ordered setup hash f caller (Line c bytes now) cs sound ordered =
    let effect : Effect = effect_of_line setup hash f c bytes now in
    subst (λ b. Ordered (happens c effect f) (cs ++ cond b (c ∷ []) [])) (enters-is c effect f (fits-line setup hash f c bytes now))
    (happens-ordered c effect f cs sound (fits-line setup hash f c bytes now) (steady-line setup hash f c bytes now) ordered)
after-ordered setup hash f caller (Join peer challenge now) cs sound ordered =
    none-brought _ cs (join-ordered f caller peer challenge cs (has_place setup f && has_joins f) ordered)
after-ordered setup hash f caller (Quit c) cs sound ordered =
    closed-ordered c (happens c (departure (f.about c).stage (f.about c).sender.sid) f) (cs ++ [])
    (happens-ordered c (departure (f.about c).stage (f.about c).sender.sid) f cs sound
    (fits-departure (f.about c).stage (f.about c).stage (f.about c).sender.sid) (record { settled = λ is. refl }) ordered)
after-ordered setup hash f caller (Take c count) cs sound ordered =
    none-brought _ cs
    (subst (λ g. Ordered g cs) (take-facts c count f) (record { all_settled = ordered.all_settled; all_joined = ordered.all_joined; in_order = ordered.in_order }))

ordered_of : (setup : Configured) (hash : List ℕ → List ℕ) (h : List Entry) → Ordered (facts setup hash h) (entrants setup hash h)
unfolding facts entrants
ordered_of setup hash [] = record { all_settled = λ d there. absurd (false≢true there); all_joined = λ d there. absurd (false≢true there); in_order = refl }
ordered_of setup hash (e ∷ h) =
    after-ordered setup hash (facts setup hash h) e.caller e.call (entrants setup hash h) (sound_of setup hash h) (ordered_of setup hash h)

pub present_in_order : PresentInOrder
present_in_order setup hash h = (ordered_of setup hash h).in_order
