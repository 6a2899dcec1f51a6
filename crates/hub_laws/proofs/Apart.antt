-- After every history, no two users who are present have the same nick or the same client identifier.
use Rattle.std.proofs.Common.{◌≡◌, ◌∙◌, sym, ap, ap₂, refl, ℕ, ◌≤◌, Bool, true, false, not, ◌&&◌, ◌||◌, inl, inr, eqb, List, [], ◌∷◌, map, subst, cond, arith}
use Rattle.hub_laws.specs.Uniqueness.{CidsDiffer, NicksDiffer}
use Rattle.hub_laws.proofs.FreeNames.{IsClear, clear-line, listed-cid, listed-key}
use Rattle.hub_laws.proofs.Distinct.{Clears, Differ, happens-differ}
use Rattle.hub_invariants.proofs.Sids.{Numbered, numbered_of}
use Rattle.hub_laws.proofs.Words.{Call, Change, Configured, Effect, Entry, Facts, Field, Fits, Join, Line, Listed, Quit, Sound, Stage, Take, about_parts, after, bytes_eq, bytes_eq-Decides, cid_in, parts-open}
use Rattle.hub_laws.proofs.Words.{departure, differs-sid, effect_of_line, eq-eqb, facts, false≢true, fields_after, fits-departure, fits-line, happens, happens-sound, has, has_cid}
use Rattle.hub_laws.proofs.Words.{has_joins, has_key, has_place, has_sid, infs, is_present, key_in, list_any, listed-sid, listed_user, most_users, not-over, or-parts, own_of, prepared_line}
use Rattle.hub_laws.proofs.Words.{removed_by, sight_of, sound_of, stage_after, stage_next, take-facts, told_of, user_of, with_connection, without_connection}

-- a user has what it is known by
abbrev Knows : (List Field → List ℕ) → (List ℕ → Listed → Bool) → Type 0
Knows of test = (sid : ℕ) (fields : List Field) → test (of fields) (listed_user sid fields) ≡ true

knows-key : Knows key_in has_key
knows-key sid fields = ap (λ k. bytes_eq k (key_in fields)) (listed-key sid fields) ∙ (bytes_eq-Decides (key_in fields) (key_in fields)).1 refl

knows-cid : Knows cid_in has_cid
knows-cid sid fields = ap (λ k. bytes_eq k (cid_in fields)) (listed-cid sid fields) ∙ (bytes_eq-Decides (cid_in fields) (cid_in fields)).1 refl

none-of : (p : Listed → Bool) (g : ℕ → Listed) (d x : ℕ) (xs : List ℕ) (same : Bool) → eqb x d ≡ same → (same ≡ false → p (g d) ≡ false) → p (g x) ≡ false → p (g d) ≡ false
none-of p g d x xs same is later here = grind arith

-- where no user is so, this one is not
none-at : (p : Listed → Bool) (g : ℕ → Listed) (d : ℕ) (xs : List ℕ) → list_any p (map g xs) ≡ false → has d xs ≡ true → p (g d) ≡ false
none-at p g d [] none there = absurd (false≢true there)
none-at p g d (x ∷ xs) none there =
    let parts = or-parts (p (g x)) (list_any p (map g xs)) none in
    none-of p g d x xs (eqb x d) refl (λ other. none-at p g d xs parts.1 (sym (ap (λ b. b || has d xs) other) ∙ there)) parts.0

after-present : (removed : Bool) (change : Change) (stage : Stage) → is_present (stage_next removed true change stage) ≡ true → is_present (stage_after change stage) ≡ true
after-present removed change stage here = grind arith

clears-from : (of : List Field → List ℕ) (test : List ℕ → Listed → Bool) → Knows of test → (setup : Configured) (f : Facts) (c : ℕ) (effect : Effect)
    → Sound f → Numbered setup f → Fits (f.about c).stage effect → Differ of f → IsClear of test (sight_of setup f) (own_of (f.about c)) effect → Clears of f c effect
clears-from of test knows setup f c effect sound n suits differ (inl away) here d there other same =
    false≢true (sym away ∙ after-present (removed_by effect (f.about c)) effect.change (f.about c).stage
    (ap (λ b. is_present (stage_next (removed_by effect (f.about c)) b effect.change (f.about c).stage)) (sym (eq-eqb c c refl)) ∙ here))
clears-from of test knows setup f c effect sound n suits differ (inr (inl kept)) here d there other same =
    false≢true (sym other ∙ eq-eqb c d (differ c d (sound.entered c ∙ kept.1) there (sym kept.0 ∙ same)))
clears-from of test knows setup f c effect sound n suits differ (inr (inr none)) here d there other same =
    let open-c = parts-open c effect f sound suits c (not-over (about_parts c effect f.about c).stage here) in
    let open-d = sound.are_open d (not-over (f.about d).stage (sym (sound.entered d) ∙ there)) in
    let not_same : has_sid (f.about c).sender.sid (user_of f.about d) ≡ false =
    ap (λ s. eqb s (f.about c).sender.sid) (listed-sid (f.about d).sender.sid (f.about d).fields)
    ∙ differs-sid setup f sound n c d open-c open-d other (eqb (f.about d).sender.sid (f.about c).sender.sid) refl in
    false≢true (sym (none-at (λ (user : Listed). test (of (fields_after effect.change (f.about c).fields)) user && not (has_sid (f.about c).sender.sid user)) (user_of f.about) d f.present none there)
    ∙ ap₂ (λ a b. a && not b)
    (ap (λ k. test k (user_of f.about d)) same ∙ knows (f.about d).sender.sid (f.about d).fields) not_same)

-- ---- every call

closed-differ : (of : List Field → List ℕ) (c : ℕ) (f : Facts) → Differ of f → Differ of (without_connection c f)
unfolding without_connection
closed-differ of c f differ = differ

falls-away : (c : ℕ) (f : Facts) (stage : Stage) (sid : ℕ) (of : List Field → List ℕ) → Clears of f c (departure stage sid)
falls-away c f stage sid of here d there other same = grind arith

joined-differ : (of : List Field → List ℕ) (f : Facts) (owner : ℕ) (peer challenge : List ℕ) → Sound f → Differ of f → Differ of (with_connection f owner peer challenge)
unfolding with_connection
joined-differ of f owner peer challenge sound differ = grind arith

join-differ : (of : List Field → List ℕ) (f : Facts) (owner : ℕ) (peer challenge : List ℕ) (accepted : Bool) → Sound f → Differ of f
    → Differ of (cond accepted (with_connection f owner peer challenge) f)
join-differ of f owner peer challenge true sound differ = joined-differ of f owner peer challenge sound differ
join-differ of f owner peer challenge false sound differ = differ

after-differ : (of : List Field → List ℕ) (setup : Configured) (hash : List ℕ → List ℕ) (f : Facts) (caller : ℕ) (call : Call) → Sound f → Differ of f
    → ((c : ℕ) (bytes : List ℕ) (now : ℕ) → Clears of f c (effect_of_line setup hash f c bytes now)) → Differ of (after setup hash f caller call)
unfolding after
after-differ of setup hash f caller (Join peer challenge now) sound differ clears = join-differ of f caller peer challenge (has_place setup f && has_joins f) sound differ
after-differ of setup hash f caller (Line c bytes now) sound differ clears =
    let effect : Effect = effect_of_line setup hash f c bytes now in
    happens-differ of c effect f (happens-sound c effect f sound (fits-line setup hash f c bytes now)) differ (clears c bytes now)
after-differ of setup hash f caller (Quit c) sound differ clears =
    let effect : Effect = departure (f.about c).stage (f.about c).sender.sid in
    closed-differ of c (happens c effect f)
    (happens-differ of c effect f (happens-sound c effect f sound (fits-departure (f.about c).stage (f.about c).stage (f.about c).sender.sid)) differ
    (falls-away c f (f.about c).stage (f.about c).sender.sid of))
after-differ of setup hash f caller (Take c count) sound differ clears = subst (Differ of) (take-facts c count f) differ

-- ---- every history

pub nicks_differ_in : (setup : Configured) (hash : List ℕ → List ℕ) (h : List Entry) → setup.plain.max_users ≤ most_users → Differ key_in (facts setup hash h)
unfolding facts
nicks_differ_in setup hash [] small = λ c d there-c there-d same. absurd (false≢true there-c)
nicks_differ_in setup hash (e ∷ h) small =
    after-differ key_in setup hash (facts setup hash h) e.caller e.call (sound_of setup hash h) (nicks_differ_in setup hash h small)
    (λ c bytes now. clears-from key_in has_key knows-key setup (facts setup hash h) c (effect_of_line setup hash (facts setup hash h) c bytes now)
    (sound_of setup hash h) (numbered_of setup hash h small) (fits-line setup hash (facts setup hash h) c bytes now) (nicks_differ_in setup hash h small)
    (clear-line (sight_of setup (facts setup hash h)) (own_of ((facts setup hash h).about c)) (prepared_line setup hash ((facts setup hash h).about c).sender.challenge bytes) now
    (infs setup hash h c) (told_of setup hash h c).tells).nick)

pub cids_differ_in : (setup : Configured) (hash : List ℕ → List ℕ) (h : List Entry) → setup.plain.max_users ≤ most_users → Differ cid_in (facts setup hash h)
unfolding facts
cids_differ_in setup hash [] small = λ c d there-c there-d same. absurd (false≢true there-c)
cids_differ_in setup hash (e ∷ h) small =
    after-differ cid_in setup hash (facts setup hash h) e.caller e.call (sound_of setup hash h) (cids_differ_in setup hash h small)
    (λ c bytes now. clears-from cid_in has_cid knows-cid setup (facts setup hash h) c (effect_of_line setup hash (facts setup hash h) c bytes now)
    (sound_of setup hash h) (numbered_of setup hash h small) (fits-line setup hash (facts setup hash h) c bytes now) (cids_differ_in setup hash h small)
    (clear-line (sight_of setup (facts setup hash h)) (own_of ((facts setup hash h).about c)) (prepared_line setup hash ((facts setup hash h).about c).sender.challenge bytes) now
    (infs setup hash h c) (told_of setup hash h c).tells).cid)

pub nicks_differ : NicksDiffer
nicks_differ setup hash h small c d there-c there-d same = nicks_differ_in setup hash h small c d there-c there-d same

pub cids_differ : CidsDiffer
cids_differ setup hash h small c d there-c there-d same = cids_differ_in setup hash h small c d there-c there-d same
