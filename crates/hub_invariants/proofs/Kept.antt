-- Every history keeps these, from what is sound of its facts.
use Rattle.std.proofs.Common.{◌≡◌, ◌∙◌, sym, ap, ap₂, refl, ℕ, ◌+◌, ◌<◌, ◌≤◌, Bool, true, false, not, ◌||◌, ◌==◌, eqb, List, [], ◌∷◌, ◌++◌, length, take, map, arith, length-take, cond}
use Rattle.std.specs.List.{concat}
use Rattle.std.proofs.Math.Seq.{take-add}
use Rattle.std.proofs.lemmas.List.{take_min}
use Rattle.std.proofs.lemmas.List.Folds.{concat-append}
use Rattle.std.proofs.lemmas.Bool.{false≢true, eqb-true, eq-eqb}
use Rattle.login_state.specs.declared.stage.Stage.{Stage}
use Rattle.login_state.specs.declared.stage.Stage.TheVariants as stages
use Rattle.hub_rules.specs.declared.history.Call.{Call}
use Rattle.hub_rules.specs.declared.history.Entry.{Entry}
use Rattle.hub_rules.specs.declared.history.Reply.{Reply}
use Rattle.hub_rules.specs.Configured.{Configured}
use Rattle.hub_rules.specs.Effects.{is_over, is_present}
use Rattle.hub_rules.specs.Facts.{Facts, facts, after, with_connection, without_connection, happens, with_lines_taken}
use Rattle.hub_rules.specs.Legal.{Legal, MayCall, reply, take_reply}
use Rattle.hub_invariants.specs.Promises.{FewAreOpen, OthersAreOut, PresentAreUsers, SidsAreGiven, SidsDiffer, TakenIsTheSum, UsersAreOpen, lines_of_take, lines_taken, taken_in}
use Rattle.hub_rules.specs.Shares.{ConnState, waiting}
use Rattle.hub_invariants.proofs.CallCases.{Becomes, becomes, taken_by}
use Rattle.hub_invariants.proofs.Calls.{over-unless, sound_of}
use Rattle.hub_invariants.proofs.Members.{apart, both, has}
use Rattle.hub_invariants.proofs.Sids.{Numbered, not-true, numbered_of}
use Rattle.hub_invariants.proofs.Sound.{Sound, eqb-sym}

-- ---- who is present

pub is-normal : (stage : Stage) → is_present stage ≡ true → stage ≡ stages.Normal
is-normal stage here = grind arith

is-gone : (stage : Stage) → is_over stage ≡ true → stage ≡ stages.Gone
is-gone stage over = grind arith

pub present_are_users : PresentAreUsers
present_are_users setup hash h c = (
  (λ there. is-normal ((facts setup hash h).about c).stage (sym ((sound_of setup hash h).entered c) ∙ there)),
  (λ is. (sound_of setup hash h).entered c ∙ ap is_present is),
)

pub users_are_open : UsersAreOpen
users_are_open setup hash h c there = (sound_of setup hash h).are_open c (ap is_over ((present_are_users setup hash h c).0 there))

pub others_are_out : OthersAreOut
others_are_out setup hash h c none =
    is-gone ((facts setup hash h).about c).stage (over-unless (facts setup hash h) (sound_of setup hash h) c none (is_over ((facts setup hash h).about c).stage) refl)

-- ---- session identifiers

head-or-rest : (x c : ℕ) (xs : List ℕ) (same : Bool) → eqb x c ≡ same → has c (x ∷ xs) ≡ true → (same ≡ true → x ≡ c) × (same ≡ false → has c xs ≡ true)
head-or-rest x c xs same is there = ((λ e. eqb-true x c (is ∙ e)), (λ e. sym (ap (λ b. b || has c xs) (is ∙ e)) ∙ there))

has-map-by : (g : ℕ → ℕ) (d x : ℕ) (xs : List ℕ) (same : Bool) → eqb x d ≡ same → (same ≡ false → has (g d) (map g xs) ≡ true) → has (g d) (map g (x ∷ xs)) ≡ true
has-map-by g d x xs same is rest = grind arith

has-map : (g : ℕ → ℕ) (d : ℕ) (xs : List ℕ) → has d xs ≡ true → has (g d) (map g xs) ≡ true
has-map g d [] there = absurd (false≢true there)
has-map g d (x ∷ xs) there =
    has-map-by g d x xs (eqb x d) refl (λ other. has-map g d xs ((head-or-rest x d xs (eqb x d) refl there).1 other))

one-of : (g : ℕ → ℕ) (x c d : ℕ) (xs : List ℕ) (first second : Bool) → eqb x c ≡ first → eqb x d ≡ second → has (g x) (map g xs) ≡ false
    → has c (x ∷ xs) ≡ true → has d (x ∷ xs) ≡ true → g c ≡ g d → (has c xs ≡ true → has d xs ≡ true → c ≡ d) → c ≡ d
one-of g x c d xs first second is-c is-d fresh there-c there-d same rest = grind (arith, eqb-true, head-or-rest, has-map)

pub apart-one : (g : ℕ → ℕ) (c d : ℕ) (xs : List ℕ) → apart (map g xs) ≡ true → has c xs ≡ true → has d xs ≡ true → g c ≡ g d → c ≡ d
apart-one g c d [] once there-c there-d same = absurd (false≢true there-c)
apart-one g c d (x ∷ xs) once there-c there-d same =
    let tests = both (not (has (g x) (map g xs))) (apart (map g xs)) once in
    one-of g x c d xs (eqb x c) (eqb x d) refl refl (not-true (has (g x) (map g xs)) tests.0) there-c there-d same
    (λ later-c later-d. apart-one g c d xs tests.1 later-c later-d same)

pub differs-sid : (setup : Configured) (f : Facts) → Sound f → Numbered setup f → (c d : ℕ) → has c f.opened ≡ true → has d f.opened ≡ true → (c == d) ≡ false → (same : Bool)
    → eqb (f.about d).sender.sid (f.about c).sender.sid ≡ same → same ≡ false
differs-sid setup f sound n c d open-c open-d other same is = grind (arith, eq-eqb, apart-one, eqb-true)

pub sids_differ : SidsDiffer
sids_differ setup hash h small c d there-c there-d same =
    apart-one (λ x. ((facts setup hash h).about x).sender.sid) c d (facts setup hash h).opened (numbered_of setup hash h small).apart_sids there-c there-d same

pub sids_are_given : SidsAreGiven
sids_are_given setup hash h small c there = (numbered_of setup hash h small).given_sids c there

pub few_are_open : FewAreOpen
few_are_open setup hash h small = (numbered_of setup hash h small).few

-- ---- takes

-- so many of the first as are taken of them
take-of_taken : (count : ℕ) (xs : List (List ℕ)) → take (length (take count xs)) xs ≡ take count xs
take-of_taken count xs = rw length-take (take_min count xs)

-- the bytes that were taken after a take: those that were taken before it, and what it gave
pub given-bytes : (count : ℕ) (a : ConnState) → concat (take (with_lines_taken count a).taken (with_lines_taken count a).owed) ≡ concat (take a.taken a.owed) ++ concat (take count (waiting a))
given-bytes count a = grind (arith, take-add, take-of_taken, concat-append)

-- what a connection has taken after one call more
taken-one : (f : Facts) (c count d : ℕ) (same other : Bool) → (d == c) ≡ same → same ≡ other
    → (taken_by same count (f.about d)).taken ≡ (f.about d).taken + lines_of_take other (take_reply count (f.about c))
taken-one f c count d same other is alike = grind arith

module _ {setup : Configured} {hash : List ℕ → List ℕ} {f : Facts} {caller d : ℕ} where
  taken-after : {call : Call} {a : ConnState} → Becomes setup hash f caller d call a → (f.joins < d → (f.about d).taken ≡ 0)
      → a.taken ≡ (f.about d).taken + lines_taken d call (reply setup hash f caller call)
  unfolding reply
  taken-after (Becomes.joins peer challenge now place is) fresh = omega (arith, fresh (omega (arith, is)))
  taken-after (Becomes.takes c count) fresh = taken-one f c count d (d == c) (c == d) refl (eqb-sym d c (d == c) (c == d) refl refl)
  taken-after _ fresh = omega arith

step-taken : (setup : Configured) (hash : List ℕ → List ℕ) (f : Facts) (caller : ℕ) (call : Call) (d : ℕ) → (f.joins < d → (f.about d).taken ≡ 0)
    → ((after setup hash f caller call).about d).taken ≡ (f.about d).taken + lines_taken d call (reply setup hash f caller call)
step-taken setup hash f caller call d = taken-after (becomes setup hash f caller d call)

joins-kept : (f : Facts) (owner : ℕ) (peer challenge : List ℕ) (accepted : Bool) → f.joins ≤ (cond accepted (with_connection f owner peer challenge) f).joins
unfolding with_connection
joins-kept f owner peer challenge accepted = grind arith

pub joins-grow : (setup : Configured) (hash : List ℕ → List ℕ) (f : Facts) (caller : ℕ) (call : Call) → f.joins ≤ (after setup hash f caller call).joins
unfolding after happens without_connection
joins-grow setup hash f caller call = grind (arith, joins-kept)

none-of : (c d : ℕ) (reply : Reply) (same : Bool) → (c == d) ≡ same → c < d → lines_of_take same reply ≡ 0
none-of c d reply same is below = grind arith

none-taken : (f : Facts) → Sound f → (caller : ℕ) (call : Call) (reply : Reply) (d : ℕ) → MayCall f caller call → f.joins < d → lines_taken d call reply ≡ 0
none-taken f sound caller call reply d may above = grind arith

pub fresh-taken : (setup : Configured) (hash : List ℕ → List ℕ) (h : List Entry) → Legal setup hash h → (d : ℕ) → (facts setup hash h).joins < d → ((facts setup hash h).about d).taken ≡ 0
unfolding facts Legal
fresh-taken setup hash [] legal d above = refl
fresh-taken setup hash (e ∷ h) legal d above =
    let below : (facts setup hash h).joins < d = omega (arith, above, joins-grow setup hash (facts setup hash h) e.caller e.call) in
    step-taken setup hash (facts setup hash h) e.caller e.call d (fresh-taken setup hash h legal.0 d)
    ∙ ap₂ ◌+◌ (fresh-taken setup hash h legal.0 d below)
    (none-taken (facts setup hash h) (sound_of setup hash h) e.caller e.call (reply setup hash (facts setup hash h) e.caller e.call) d legal.1 below)

pub taken_is_the_sum : TakenIsTheSum
unfolding facts Legal taken_in
taken_is_the_sum setup hash [] legal c = refl
taken_is_the_sum setup hash (e ∷ h) legal c =
    step-taken setup hash (facts setup hash h) e.caller e.call c (fresh-taken setup hash h legal.0 c)
    ∙ ap₂ ◌+◌ (taken_is_the_sum setup hash h legal.0 c) (ap (lines_taken c e.call) (sym legal.2))
