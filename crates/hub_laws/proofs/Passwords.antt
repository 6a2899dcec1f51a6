-- Two hubs that differ in passwords alone come to the same, whatever is called, but for the digests that they wait for.
use Rattle.std.proofs.Common.{◌≡◌, ◌∙◌, sym, ap, ap₂, refl, subst, ℕ, Bool, true, not, ◌&&◌, ◌==◌, ◌⊎◌, inl, inr, List, [], ◌∷◌, map, filter, cond, arith}
use Rattle.hub_laws.proofs.Words.{ConnState, ConfiguredAccount, Ban, Call, Change, Configured, Effect, Entry, Facts, Hearers, Line, Listed, SenderView, HubView, affected_parts, after, bans_after, departure, happens_parts, happens-parts}
use Rattle.hub_laws.proofs.Words.{effect_of_line, facts, happens, has_joins, has_place, lags_with, line_effect, listed_user, next_sid, owed_with, own_of, prepared_line, present_parts, sight_of}
use Rattle.hub_laws.proofs.Words.{topic_after, user_of, with_connection, with_lines_taken, without_connection}
use Rattle.hub_laws.proofs.Words.lines
use Rattle.hub_laws.proofs.Words.stages
use Rattle.hub_laws.specs.Passwords.{AreLikeCalls, AreLikeHistories, PasswordsAreNotTold, is_password, is_right, without_passwords}
use Rattle.hub_laws.proofs.SecretsKept.{AreAlike, other_hub, other_own, passwords-alike, same-line-alike, veiled_effect, veiled_change}

-- what is known of a connection, but for the digest that is waited for
abbrev without_digest : ConnState → ConnState
without_digest a = record a { expected = [] }

record AreSame (f g : Facts) : Type 0 where
  rest : g ≡ record f { about = g.about }
  about : (d : ℕ) → without_digest (f.about d) ≡ without_digest (g.about d)

-- ---- what a decision looks at

own-same : (a b : ConnState) → without_digest a ≡ without_digest b → own_of b ≡ other_own (own_of a) b.expected
own-same a b same = ap (λ (x : ConnState). own_of (record x { expected = b.expected })) (sym same)

users-same : (about others : ℕ → ConnState) (cs : List ℕ) → ((d : ℕ) → without_digest (about d) ≡ without_digest (others d)) → map (user_of others) cs ≡ map (user_of about) cs
users-same about others [] same = refl
users-same about others (c ∷ cs) same =
    ap₂ (λ (user : Listed) users. user ∷ users) (ap (λ (a : ConnState). listed_user a.sender.sid a.fields) (sym (same c))) (users-same about others cs same)

abbrev with_accounts : Configured → List ConfiguredAccount → Configured
with_accounts setup accounts = record setup { accounts = accounts }

closed-same : (c : ℕ) (f g : Facts) → AreSame f g → AreSame (without_connection c f) (without_connection c g)
unfolding without_connection
closed-same c f g same = record { rest = ap (λ (x : Facts). record x { opened = filter (λ d. not (d == c)) x.opened }) same.rest; about = same.about }

chosen-same : (is_accepted : Bool) (f g x y : Facts) → AreSame x y → AreSame f g → AreSame (cond is_accepted x f) (cond is_accepted y g)
chosen-same is_accepted f g x y first second = grind arith

abbrev AreAlikeLines : List ℕ → List ℕ → Type 0
AreAlikeLines bytes others = (bytes ≡ others) ⊎ ((is_password (lines.reading bytes) ≡ true) × (is_password (lines.reading others) ≡ true))

-- calls that are like each other in two hubs
abbrev LikeCalls : (f g : Facts) → Call → Call → Type 0
LikeCalls f g (Line c bytes now) (Line d others later) =
    (c ≡ d) × (now ≡ later) × AreAlikeLines bytes others
    × ((f.about c).stage ≡ stages.Verify → is_right (f.about c).expected (lines.reading bytes) ≡ is_right (g.about c).expected (lines.reading others))
LikeCalls f g call another = call ≡ another

module _ (setup : Configured) (accounts : List ConfiguredAccount) (hash : List ℕ → List ℕ) (f g : Facts) (alike : AreAlike setup.accounts accounts) (same : AreSame f g) where
  sight-same : sight_of (with_accounts setup accounts) g ≡ other_hub (sight_of setup f) accounts
  sight-same = grind (arith, users-same)

  -- ---- what an effect makes of a connection

  by-hearers : (is_caller : Bool) (own others : List (List ℕ)) (hearers : Hearers) (change : Change) (a : ConnState)
      → without_digest (affected_parts is_caller (record { own = own; others = others; hearers = hearers; change = change }) a)
      ≡ without_digest (affected_parts is_caller (record { own = own; others = others; hearers = hearers; change = veiled_change change }) (without_digest a))
  unfolding owed_with lags_with
  by-hearers is_caller own others hearers change a = grind arith

  affected-veiled : (is_caller : Bool) (effect : Effect) (a : ConnState)
      → without_digest (affected_parts is_caller effect a) ≡ without_digest (affected_parts is_caller (veiled_effect effect) (without_digest a))
  affected-veiled is_caller effect a = by-hearers is_caller effect.own effect.others effect.hearers effect.change a

  affected-same : (is_caller : Bool) (effect another : Effect) (a b : ConnState) → veiled_effect effect ≡ veiled_effect another → without_digest a ≡ without_digest b
      → without_digest (affected_parts is_caller effect a) ≡ without_digest (affected_parts is_caller another b)
  affected-same is_caller effect another a b alike same = grind (arith, affected-veiled)

  -- ---- what an effect makes of the hub

  bans-veiled : (bans : List (List ℕ × Ban)) (change : Change) → bans_after change bans ≡ bans_after (veiled_change change) bans
  bans-veiled bans change = grind arith

  topic-veiled : (topic : List ℕ) (change : Change) → topic_after change topic ≡ topic_after (veiled_change change) topic
  topic-veiled topic change = grind arith

  -- what the veil hides makes no difference to it
  read-same : {A : Type 0} (read : Change → A) → ((change : Change) → read change ≡ read (veiled_change change)) → (effect another : Effect)
      → veiled_effect effect ≡ veiled_effect another → read another.change ≡ read effect.change
  read-same read same effect another alike = same another.change ∙ ap (λ (e : Effect). read e.change) (sym alike) ∙ sym (same effect.change)

  filter-same : (p q : ℕ → Bool) (xs : List ℕ) → ((x : ℕ) → p x ≡ q x) → filter p xs ≡ filter q xs
  filter-same p q [] same = refl
  filter-same p q (x ∷ xs) same = ap₂ (λ b ys. cond b (x ∷ ys) (filter p xs)) (same x) (filter-same p q xs same) ∙ ap (λ ys. cond (q x) (x ∷ filter q xs) ys) (filter-same p q xs same)

  present-same : (c : ℕ) (effect another : Effect) (about others : ℕ → ConnState) (present : List ℕ) → veiled_effect effect ≡ veiled_effect another
      → ((d : ℕ) → without_digest (about d) ≡ without_digest (others d)) → present_parts c another others present ≡ present_parts c effect about present
  present-same c effect another about others present alike same = grind arith

  parts-same : (c : ℕ) (effect another : Effect) → veiled_effect effect ≡ veiled_effect another → AreSame (happens_parts c effect f) (happens_parts c another g)
  parts-same c effect another alike = grind (arith, present-same, read-same, bans-veiled, topic-veiled, affected-same)

  happens-same : (c : ℕ) (effect another : Effect) → veiled_effect effect ≡ veiled_effect another → AreSame (happens c effect f) (happens c another g)
  happens-same c effect another alike =
      subst (λ x. AreSame x (happens c another g)) (sym (happens-parts c effect f))
      (subst (AreSame (happens_parts c effect f)) (sym (happens-parts c another g)) (parts-same c effect another alike))

  -- ---- the same line, or two passwords

  decided-same : (hub : HubView) (own : SenderView) (expected challenge bytes others : List ℕ) (now : ℕ) → AreAlike hub.setup.accounts accounts → AreAlikeLines bytes others
      → (own.stage ≡ stages.Verify → is_right own.expected (lines.reading bytes) ≡ is_right expected (lines.reading others))
      → veiled_effect (line_effect hub own (prepared_line setup hash challenge bytes) now)
      ≡ veiled_effect (line_effect (other_hub hub accounts) (other_own own expected) (prepared_line (with_accounts setup accounts) hash challenge others) now)
  unfolding prepared_line
  decided-same hub own expected challenge bytes others now alike (inl same) right =
      same-line-alike hub accounts own expected now alike (prepared_line setup hash challenge bytes) (prepared_line (with_accounts setup accounts) hash challenge bytes).password
      (λ waits. right waits ∙ ap (λ bs. is_right expected (lines.reading bs)) (sym same))
      ∙ ap (λ bs. veiled_effect (line_effect (other_hub hub accounts) (other_own own expected) (prepared_line (with_accounts setup accounts) hash challenge bs) now)) same
  decided-same hub own expected challenge bytes others now alike (inr passwords) right =
      passwords-alike hub accounts own expected now alike (prepared_line setup hash challenge bytes) (prepared_line (with_accounts setup accounts) hash challenge others)
      passwords.0 passwords.1 right

  effect-same : (c : ℕ) (bytes others : List ℕ) (now : ℕ) → AreAlikeLines bytes others
      → ((f.about c).stage ≡ stages.Verify → is_right (f.about c).expected (lines.reading bytes) ≡ is_right (g.about c).expected (lines.reading others))
      → veiled_effect (effect_of_line setup hash f c bytes now) ≡ veiled_effect (effect_of_line (with_accounts setup accounts) hash g c others now)
  effect-same c bytes others now like right =
      decided-same (sight_of setup f) (own_of (f.about c)) (g.about c).expected (f.about c).sender.challenge bytes others now alike like right
      ∙ ap (λ (a : ConnState).
      veiled_effect (line_effect (other_hub (sight_of setup f) accounts) (other_own (own_of (f.about c)) (g.about c).expected)
      (prepared_line (with_accounts setup accounts) hash a.sender.challenge others) now)) (same.about c)
      ∙ ap₂ (λ (hub : HubView) (own : SenderView). veiled_effect (line_effect hub own (prepared_line (with_accounts setup accounts) hash (g.about c).sender.challenge others) now))
      (sym (sight-same)) (sym (own-same (f.about c) (g.about c) (same.about c)))

  -- ---- every call

  next-same : next_sid g ≡ next_sid f
  next-same = grind arith

  newcomer-same : (is_new : Bool) (a b new : ConnState) → without_digest a ≡ without_digest b → without_digest (cond is_new new a) ≡ without_digest (cond is_new new b)
  newcomer-same is_new a b new same = grind arith

  joined-same : (owner : ℕ) (peer challenge : List ℕ) → AreSame (with_connection f owner peer challenge) (with_connection g owner peer challenge)
  unfolding with_connection
  joined-same owner peer challenge = grind (arith, next-same, newcomer-same)

  taken-same : (c count : ℕ)
      → AreSame (record f { about = λ d. cond (d == c) (with_lines_taken count (f.about d)) (f.about d) }) (record g { about = λ d. cond (d == c) (with_lines_taken count (g.about d)) (g.about d) })
  taken-same c count = grind arith

  line-same : (c d : ℕ) (bytes others : List ℕ) (now later : ℕ) → LikeCalls f g (Line c bytes now) (Line d others later)
      → AreSame (happens c (effect_of_line setup hash f c bytes now) f) (happens d (effect_of_line (with_accounts setup accounts) hash g d others later) g)
  line-same c d bytes others now later like = grind (arith, happens-same, effect-same)

  places-same : (has_place (with_accounts setup accounts) g && has_joins g) ≡ (has_place setup f && has_joins f)
  places-same = ap (λ (x : Facts). has_place (with_accounts setup accounts) x && has_joins x) same.rest

  join-same : (caller : ℕ) (peer challenge : List ℕ)
      → AreSame (cond (has_place setup f && has_joins f) (with_connection f caller peer challenge) f)
      (cond (has_place (with_accounts setup accounts) g && has_joins g) (with_connection g caller peer challenge) g)
  join-same caller peer challenge = grind (arith, places-same, chosen-same, joined-same)

  quit-same : (c : ℕ)
      → AreSame (without_connection c (happens c (departure (f.about c).stage (f.about c).sender.sid) f)) (without_connection c (happens c (departure (g.about c).stage (g.about c).sender.sid) g))
  quit-same c = grind (arith, closed-same, happens-same)

  after-same : (caller : ℕ) (call another : Call) → LikeCalls f g call another
      → AreSame (after setup hash f caller call) (after (with_accounts setup accounts) hash g caller another)
  unfolding after
  after-same caller call another like = grind (arith, join-same, line-same, quit-same, taken-same)

-- ---- every history

like-calls : (setup other : Configured) (hash : List ℕ → List ℕ) (h g : List Entry) (call another : Call) → AreLikeCalls setup other hash h g call another
    → LikeCalls (facts setup hash h) (facts other hash g) call another
like-calls setup other hash h g call another like = grind arith

same-of : (setup : Configured) (accounts : List ConfiguredAccount) (hash : List ℕ → List ℕ) (h g : List Entry) → AreAlike setup.accounts accounts
    → AreLikeHistories setup (with_accounts setup accounts) hash h g → AreSame (facts setup hash h) (facts (with_accounts setup accounts) hash g)
unfolding facts AreLikeHistories
same-of setup accounts hash [] [] alike like = record { rest = refl; about = λ d. refl }
same-of setup accounts hash [] (x ∷ g) alike like = absurd like
same-of setup accounts hash (e ∷ h) [] alike like = absurd like
same-of setup accounts hash (e ∷ h) (x ∷ g) alike like =
    subst
    (λ caller. AreSame (after setup hash (facts setup hash h) e.caller e.call) (after (with_accounts setup accounts) hash (facts (with_accounts setup accounts) hash g) caller x.call))
    like.1
    (after-same setup accounts hash (facts setup hash h) (facts (with_accounts setup accounts) hash g) alike (same-of setup accounts hash h g alike like.0) e.caller e.call x.call
    (like-calls setup (with_accounts setup accounts) hash h g e.call x.call like.2))

-- the other hub is this one with other accounts
other-setup : (setup other : Configured) → without_passwords setup ≡ without_passwords other → with_accounts setup other.accounts ≡ other
other-setup setup other alike = ap (λ (s : Configured). with_accounts s other.accounts) alike

pub passwords_are_not_told : PasswordsAreNotTold
passwords_are_not_told setup other hash h g alike like d = grind (arith, other-setup, same-of)
