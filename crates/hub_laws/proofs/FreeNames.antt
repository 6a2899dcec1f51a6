-- A line leaves its connection no nick and no identifier of another present user.
use Rattle.std.proofs.Common.{◌≡◌, ◌∙◌, sym, ap, ap₂, refl, ℕ, Bool, true, false, not, ◌&&◌, ◌||◌, ◌⊎◌, inl, inr, List, [], ◌∷◌, Option, None, Ok, arith}
use Rattle.hub_laws.proofs.Words.{Effect, Field, Listed, Outcome, SenderView, PreparedLine, Reading, Request, HubView, cid_in, clean, digest_given, fields_after, greets, has_cid, has_key, has_sid, is_here}
use Rattle.hub_laws.proofs.Words.{is_present, key_in, lets_in, line_effect, list_any, listed_user, login-free, merged_fields, merged_with, or-parts, outcome, password-free, proves, revises}
use Rattle.hub_laws.proofs.Words.{same-cid, shuts_out, stage_after, update-free, update_denied, update_effect, user_after, waits}

-- another user than the one with this session identifier passes the test
abbrev pub another : (Listed → Bool) → HubView → ℕ → Bool
another test hub sid = list_any (λ (user : Listed). test user && not (has_sid sid user)) hub.users

-- Of a user after an effect: it is not present; or what it is known by is as before, and it was present; or nobody else has that.
abbrev pub IsClear : (List Field → List ℕ) → (List ℕ → Listed → Bool) → HubView → SenderView → Effect → Type 0
IsClear of test hub own effect =
    (is_present (stage_after effect.change own.stage) ≡ false)
    ⊎ (((of (fields_after effect.change own.fields) ≡ of own.fields) × (is_present own.stage ≡ true))
    ⊎ (another (test (of (fields_after effect.change own.fields))) hub own.sender.sid ≡ false))

pub record Clear (hub : HubView) (own : SenderView) (effect : Effect) : Type 0 where
  pub nick : IsClear key_in has_key hub own effect
  pub cid : IsClear cid_in has_cid hub own effect

-- ---- effects that change neither

kept-by : (of : List Field → List ℕ) (test : List ℕ → Listed → Bool) (hub : HubView) (own : SenderView) (effect : Effect) (here : Bool)
    → of (fields_after effect.change own.fields) ≡ of own.fields → is_present (stage_after effect.change own.stage) ≡ here → (here ≡ true → is_present own.stage ≡ true)
    → IsClear of test hub own effect
kept-by of test hub own effect here same is before = grind arith

clear-kept : (hub : HubView) (own : SenderView) (effect : Effect) → fields_after effect.change own.fields ≡ own.fields
    → (is_present (stage_after effect.change own.stage) ≡ true → is_present own.stage ≡ true) → Clear hub own effect
clear-kept hub own effect same before = grind arith

clear-absent : (hub : HubView) (own : SenderView) (effect : Effect) → is_present (stage_after effect.change own.stage) ≡ false → Clear hub own effect
clear-absent hub own effect away = record { nick = inl away; cid = inl away }

-- ---- entering

weaker : (test other : Bool) → test ≡ false → (test && other) ≡ false
weaker test other e = grind arith

-- where nobody is so, nobody else is
nobody-else : (test : Listed → Bool) (sid : ℕ) (users : List Listed) → list_any test users ≡ false → list_any (λ (user : Listed). test user && not (has_sid sid user)) users ≡ false
nobody-else test sid [] none = refl
nobody-else test sid (user ∷ users) none =
    let parts = or-parts (test user) (list_any test users) none in
    ap₂ ◌||◌ (weaker (test user) (not (has_sid sid user)) parts.0) (nobody-else test sid users parts.1)

pub listed-fields : (sid : ℕ) (fields : List Field) → (listed_user sid fields).fields ≡ fields
unfolding listed_user
listed-fields sid fields = refl

pub listed-key : (sid : ℕ) (fields : List Field) → (listed_user sid fields).key ≡ key_in fields
unfolding listed_user
listed-key sid fields = refl

pub listed-cid : (sid : ℕ) (fields : List Field) → (listed_user sid fields).cid ≡ cid_in fields
unfolding listed_user
listed-cid sid fields = refl

-- a user with these fields enters, whom nobody is like
clear-entering : (hub : HubView) (own : SenderView) (effect : Effect) (fields : List Field) → fields_after effect.change own.fields ≡ fields
    → (is_here (has_key (listed_user own.sender.sid fields).key) hub ≡ false) × (is_here (has_cid (listed_user own.sender.sid fields).cid) hub ≡ false) → Clear hub own effect
clear-entering hub own effect fields is free = record {
  nick = inr (inr (ap (λ fs. another (has_key (key_in fs)) hub own.sender.sid) is
      ∙ nobody-else (has_key (key_in fields)) own.sender.sid hub.users (ap (λ k. is_here (has_key k) hub) (sym (listed-key own.sender.sid fields)) ∙ free.0)));
  cid = inr (inr (ap (λ fs. another (has_cid (cid_in fs)) hub own.sender.sid) is
      ∙ nobody-else (has_cid (cid_in fields)) own.sender.sid hub.users (ap (λ k. is_here (has_cid k) hub) (sym (listed-cid own.sender.sid fields)) ∙ free.1)));
}

-- ---- updates

clear-update : (hub : HubView) (own : SenderView) (infs : List (List Field)) (u : List Field) → own.fields ≡ merged_fields infs → update_denied hub own (Ok u) ≡ None
    → Clear hub own (update_effect own (clean u own.sender.peer))
clear-update hub own infs u known none =
    let free = update-free hub own u (user_after own u) none in
    record {
      nick = inr (inr (ap (λ k. another (has_key k) hub own.sender.sid) (sym (listed-key own.sender.sid (merged_with own.fields (clean u own.sender.peer)))) ∙ free.0));
      cid = kept-by cid_in has_cid hub own (update_effect own (clean u own.sender.peer)) (is_present own.stage)
          (same-cid own u infs known free.1) refl (λ here. here);
    }

-- ---- every line

module _ {hub : HubView} {own : SenderView} {line : PreparedLine} {now : ℕ} where
  clear : {said : Option Reading} {request : Request} {effect : Effect} → Outcome hub own line now said request effect → (infs : List (List Field)) → own.fields ≡ merged_fields infs
      → Clear hub own effect
  clear (shuts_out deny) infs known = clear-absent hub own _ refl
  clear (greets reading features at applies) infs known = clear-absent hub own _ refl
  clear (waits reading u logs account) infs known = clear-absent hub own _ refl
  clear (lets_in reading u logs account) infs known = clear-entering hub own _ _ (listed-fields own.sender.sid _) (login-free hub own now line.owner u (user_after own u) logs.allowed)
  clear (proves reading at asks none) infs known = clear-entering hub own _ own.fields refl (password-free hub own now (digest_given reading.params) (listed_user own.sender.sid own.fields) none)
  clear (revises reading u at words none) infs known = clear-update hub own infs u known none
  clear _ infs known = clear-kept hub own _ refl (λ here. here)

pub clear-line : (hub : HubView) (own : SenderView) (line : PreparedLine) (now : ℕ) (infs : List (List Field)) → own.fields ≡ merged_fields infs → Clear hub own (line_effect hub own line now)
clear-line hub own line now infs known = clear (outcome hub own line now) infs known
