-- A join is kept: its caller and its challenge stand behind those of the joins before it.
use Rattle.std.proofs.Common.{◌≡◌, ◌∙◌, refl, ap, ap₂, sym, subst, ℕ, ◌+◌, ◌<◌, Bool, true, false, ◌&&◌, ◌==◌, List, [], ◌∷◌, ◌++◌, get_or, length, arith, cond}
use Rattle.std.proofs.lemmas.Bool.{eqb-true, eq-eqb, false≢true}
use Rattle.std.proofs.lemmas.List.{get_or_append_left, length-append}
use Rattle.std.proofs.Math.Seq.{get_or-append_seam}
use Rattle.history_check.specs.declared.check.Joined.{Joined}
use Rattle.history_check.specs.Following.{FollowsHistory, IsJoined}
use Rattle.history_check.proofs.KeptJoins.{facts-after}
use Rattle.hub_core.specs.CoreState.{CoreState}
use Rattle.hub_core.specs.Moves.{StandsAt, entry}
use Rattle.hub_rules.specs.declared.history.Call.TheVariants.{Join}
use Rattle.hub_rules.specs.declared.history.Entry.{Entry}
use Rattle.hub_rules.specs.declared.history.Reply.{Reply}
use Rattle.hub_rules.specs.declared.history.Reply.TheVariants as replies
use Rattle.hub_rules.specs.Configured.{Configured}
use Rattle.hub_rules.specs.Facts.{Facts, after, facts, has_joins, has_place, with_connection, newcomer, next_sid}
use Rattle.hub_rules.specs.Legal.{Legal, join_reply, reply}
use Rattle.hub_rules.specs.Shares.{ConnState}

-- ---- a join that is accepted

abbrev number_of : Reply → ℕ
number_of (replies.Joined c) = c
number_of reply = 0

abbrev pub is_joined : Reply → Bool
is_joined (replies.Joined c) = true
is_joined reply = false

record IsAccepted (setup : Configured) (f : Facts) (c : ℕ) : Type 0 where
  place : has_place setup f ≡ true
  counted : has_joins f ≡ true
  number : c ≡ f.joins + 1

accepted-by : (place counted : Bool) (n c : ℕ) → replies.Joined c ≡ join_reply place counted n → (place ≡ true) × (counted ≡ true) × (c ≡ n + 1)
accepted-by true true n c e = (refl, refl, ap number_of e)
accepted-by true false n c e = absurd (false≢true (sym (ap is_joined e)))
accepted-by false counted n c e = absurd (false≢true (sym (ap is_joined e)))

accepted : (setup : Configured) (hash : List ℕ → List ℕ) (h : List Entry) (caller : ℕ) (peer challenge : List ℕ) (now c : ℕ)
    → Legal setup hash (entry caller (Join peer challenge now) (replies.Joined c) ∷ h) → IsAccepted setup (facts setup hash h) c
unfolding Legal reply
accepted setup hash h caller peer challenge now c legal =
    let f : Facts = facts setup hash h in
    let parts : (has_place setup f ≡ true) × (has_joins f ≡ true) × (c ≡ f.joins + 1) = accepted-by (has_place setup f) (has_joins f) f.joins c legal.2 in
    record { place = parts.0; counted = parts.1; number = parts.2 }

after-accepted : (setup : Configured) (hash : List ℕ → List ℕ) (f : Facts) (caller : ℕ) (peer challenge : List ℕ) (now : ℕ) → has_place setup f ≡ true → has_joins f ≡ true
    → after setup hash f caller (Join peer challenge now) ≡ with_connection f caller peer challenge
unfolding after
after-accepted setup hash f caller peer challenge now place counted = ap₂ (λ a b. cond (a && b) (with_connection f caller peer challenge) f) place counted

joins-after : (f : Facts) (caller : ℕ) (peer challenge : List ℕ) → (with_connection f caller peer challenge).joins ≡ f.joins + 1
unfolding with_connection
joins-after f caller peer challenge = refl

about-other : (f : Facts) (caller : ℕ) (peer challenge : List ℕ) (d : ℕ) → (d == (f.joins + 1)) ≡ false → (with_connection f caller peer challenge).about d ≡ f.about d
unfolding with_connection
about-other f caller peer challenge d is = ap (λ b. cond b (newcomer caller (next_sid f) peer challenge) (f.about d)) is

about-new : (f : Facts) (caller : ℕ) (peer challenge : List ℕ) → (with_connection f caller peer challenge).about (f.joins + 1) ≡ newcomer caller (next_sid f) peer challenge
unfolding with_connection
about-new f caller peer challenge =
    ap (λ b. cond b (newcomer caller (next_sid f) peer challenge) (f.about (f.joins + 1))) (eq-eqb (f.joins + 1) (f.joins + 1) refl)

differs : (d n : ℕ) (same : Bool) → (d == n) ≡ same → d < n → same ≡ false
differs d n true is less = absurd (omega (arith, eqb-true d n is, less))
differs d n false is less = refl

reaches : (d n : ℕ) (same : Bool) → (d == n) ≡ same → same ≡ false → d < n + 1 → d < n
reaches d n same is other less =
    let apart : d ≡ n → ⊥ = λ e. false≢true (sym (is ∙ other) ∙ eq-eqb d n e) in omega (arith, apart, less)

-- those before it are as they were
known-before : (f : Facts) (caller : ℕ) (peer challenge : List ℕ) (i : ℕ) (j : Joined) → i < f.joins → IsJoined f (i + 1) j → IsJoined (with_connection f caller peer challenge) (i + 1) j
known-before f caller peer challenge i j less is =
    let same : (with_connection f caller peer challenge).about (i + 1) ≡ f.about (i + 1) =
    about-other f caller peer challenge (i + 1) (differs (i + 1) (f.joins + 1) ((i + 1) == (f.joins + 1)) refl (omega (arith, less))) in
    record {
      number = is.number;
      owner = ap (λ (a : ConnState). a.owner) same ∙ is.owner;
      challenge = ap (λ (a : ConnState). a.sender.challenge) same ∙ is.challenge;
    }

-- and so is it
known-new : (f : Facts) (caller : ℕ) (peer challenge : List ℕ) (i : ℕ) (j : Joined) → i ≡ f.joins → j.connection ≡ f.joins + 1 → j.caller ≡ caller → j.challenge ≡ challenge
    → IsJoined (with_connection f caller peer challenge) (i + 1) j
known-new f caller peer challenge i j is number owner given =
    subst (λ n. IsJoined (with_connection f caller peer challenge) (n + 1) j) (sym is)
    (record {
      number = number;
      owner = ap (λ (a : ConnState). a.owner) (about-new f caller peer challenge) ∙ sym owner;
      challenge = ap (λ (a : ConnState). a.sender.challenge) (about-new f caller peer challenge) ∙ sym given;
    })

known-all : (f : Facts) (caller : ℕ) (peer challenge : List ℕ) (js : List Joined) (j : Joined) → length js ≡ f.joins
    → ((i : ℕ) (x : Joined) → i < length js → x ≡ get_or js i x → IsJoined f (i + 1) x)
    → j.connection ≡ f.joins + 1 → j.caller ≡ caller → j.challenge ≡ challenge
    → (i : ℕ) (x : Joined) → i < length js + 1 → x ≡ get_or (js ++ j ∷ []) i x → (same : Bool) → (i == length js) ≡ same
    → IsJoined (with_connection f caller peer challenge) (i + 1) x
known-all f caller peer challenge js j counted known number owner given i x within is true e =
    let at : i ≡ length js = eqb-true i (length js) e in
    let it : x ≡ j = is ∙ ap (λ n. get_or (js ++ j ∷ []) n x) at ∙ get_or-append_seam js j [] x in
    subst (λ (y : Joined). IsJoined (with_connection f caller peer challenge) (i + 1) y) (sym it) (known-new f caller peer challenge i j (at ∙ counted) number owner given)
known-all f caller peer challenge js j counted known number owner given i x within is false e =
    let less : i < length js = reaches i (length js) false e refl within in
    known-before f caller peer challenge i x (subst (λ n. i < n) counted less) (known i x less (is ∙ get_or_append_left js (j ∷ []) x i less))

pub follows-join : (setup : Configured) (hash : List ℕ → List ℕ) (h : List Entry) (old new : CoreState) (js now_joined : List Joined) (j : Joined) (caller : ℕ) (peer challenge : List ℕ) (now told : ℕ)
    → FollowsHistory setup hash h old js → j.caller ≡ caller → j.challenge ≡ challenge → now_joined ≡ js ++ j ∷ []
    → StandsAt setup hash (entry caller (Join peer challenge now) (replies.Joined j.connection) ∷ h) new
    → told ≡ (facts setup hash (entry caller (Join peer challenge now) (replies.Joined j.connection) ∷ h)).joins
    → FollowsHistory setup hash (entry caller (Join peer challenge now) (replies.Joined told) ∷ h) new now_joined
follows-join setup hash h old new js now_joined j caller peer challenge now told follows owner given is_joined_now stands is_told =
    let f : Facts = facts setup hash h in
    let yes : IsAccepted setup f j.connection = accepted setup hash h caller peer challenge now j.connection stands.legal in
    let same : (r : Reply) → facts setup hash (entry caller (Join peer challenge now) r ∷ h) ≡ with_connection f caller peer challenge =
    λ r. facts-after setup hash h caller (Join peer challenge now) r ∙ after-accepted setup hash f caller peer challenge now yes.place yes.counted in
    let number : told ≡ j.connection =
    is_told ∙ ap (λ (g : Facts). g.joins) (same (replies.Joined j.connection)) ∙ joins-after f caller peer challenge ∙ sym yes.number in
    let more : length now_joined ≡ length js + 1 = ap length is_joined_now ∙ length-append js (j ∷ []) in
    record {
      stands = subst (λ n. StandsAt setup hash (entry caller (Join peer challenge now) (replies.Joined n) ∷ h) new) (sym number) stands;
      counted = more ∙ ap (λ n. n + 1) follows.counted ∙ sym (joins-after f caller peer challenge) ∙ sym (ap (λ (g : Facts). g.joins) (same (replies.Joined told)));
      known = λ i x within is. subst (λ (g : Facts). IsJoined g (i + 1) x) (sym (same (replies.Joined told)))
          (known-all f caller peer challenge js j follows.counted follows.known yes.number owner given i x (subst (λ n. i < n) more within)
          (is ∙ ap (λ (xs : List Joined). get_or xs i x) is_joined_now) (i == length js) refl);
    }

-- ---- a join that is refused

not-joined : (place counted : Bool) (n : ℕ) (r : Reply) → r ≡ join_reply place counted n → is_joined r ≡ false → (place && counted) ≡ false
not-joined true true n r e none = absurd (false≢true (sym none ∙ ap is_joined e))
not-joined true false n r e none = refl
not-joined false counted n r e none = refl

refused-after : (setup : Configured) (hash : List ℕ → List ℕ) (h : List Entry) (caller : ℕ) (peer challenge : List ℕ) (now : ℕ) (r : Reply) → is_joined r ≡ false
    → Legal setup hash (entry caller (Join peer challenge now) r ∷ h) → after setup hash (facts setup hash h) caller (Join peer challenge now) ≡ facts setup hash h
unfolding Legal reply after
refused-after setup hash h caller peer challenge now r none legal =
    let f : Facts = facts setup hash h in
    ap (λ b. cond b (with_connection f caller peer challenge) f) (not-joined (has_place setup f) (has_joins f) f.joins r legal.2 none)

pub follows-refused : (setup : Configured) (hash : List ℕ → List ℕ) (h : List Entry) (old new : CoreState) (js : List Joined) (caller : ℕ) (peer challenge : List ℕ) (now : ℕ) (r : Reply)
    → is_joined r ≡ false → FollowsHistory setup hash h old js → StandsAt setup hash (entry caller (Join peer challenge now) r ∷ h) new
    → FollowsHistory setup hash (entry caller (Join peer challenge now) r ∷ h) new js
follows-refused setup hash h old new js caller peer challenge now r none follows stands =
    let same : facts setup hash (entry caller (Join peer challenge now) r ∷ h) ≡ facts setup hash h =
    facts-after setup hash h caller (Join peer challenge now) r ∙ refused-after setup hash h caller peer challenge now r none stands.legal in
    record {
      stands = stands;
      counted = follows.counted ∙ sym (ap (λ (g : Facts). g.joins) same);
      known = λ i x within is. subst (λ (g : Facts). IsJoined g (i + 1) x) (sym same) (follows.known i x within is);
    }
