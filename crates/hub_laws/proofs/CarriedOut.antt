-- Whatever is decided of a line, the table of users and the list of bans take it.
use Rattle.std.proofs.Common.{◌≡◌, ◌∙◌, sym, ap, refl, subst, ℕ, Bool, true, false, not, ◌&&◌, List, [], ◌∷◌, ◌++◌, Option, Some, None, Ok, arith}
use Rattle.user_table.specs.Changes.{cid_taken, given_key, held_by_other, is_other, nick_taken, users_after_entry, users_after_update}
use Rattle.hub_laws.proofs.Words.{Act, Ban, Does, Effect, Field, Hub, HubChange, Listed, Outcome, SenderView, PreparedLine, Reading, Request, HubView, Unclaimed, acts, another_has_key, bans_user, changed_key}
use Rattle.hub_laws.proofs.Words.{chars, clean, cond, digest_given, facts, find, given-after, has_key, has_sid, infs, is_full, key_in, key_of, lets_in, list_any, listed_user, login-free, meaning}
use Rattle.hub_laws.proofs.Words.{merged_fields, nick_name, option_map, or-parts, outcome, own_of, password-free, prepared_line, proves, revises, revision, sight_of, told_of, unwrap_or}
use Rattle.hub_laws.proofs.Words.{update-free, update_denied, user_after, user_by_key, value_or_empty, with_update}
use Rattle.hub_laws.proofs.Words.{false≢true, is_silent, silent}
use Rattle.hub_laws.proofs.Words.shared
use Rattle.hub_laws.proofs.FreeNames.{listed-key}
use Rattle.hub_laws.specs.CarriedOut.{DecidedIsTaken, IsTaken}

-- ---- who is not there is not found

not-found : (test : Listed → Bool) (users : List Listed) → list_any test users ≡ false → find test users ≡ None
not-found test [] none = refl
not-found test (user ∷ users) none =
    let parts = or-parts (test user) (list_any test users) none in
    ap (λ b. cond b (Some user) (find test users)) parts.0 ∙ not-found test users parts.1

-- ---- entries

entered : (user : Listed) (users : List Listed) (nick cid : Bool) → nick_taken user.key users ≡ nick → cid_taken user.cid users ≡ cid → nick ≡ false → cid ≡ false
    → users_after_entry user users ≡ Ok (users ++ user ∷ [])
entered user users nick cid is-nick is-cid no-nick no-cid = grind arith

free-enters : (hub : HubView) (user : Listed) → Unclaimed hub user → users_after_entry user hub.users ≡ Ok (hub.users ++ user ∷ [])
free-enters hub user free = grind (arith, not-found)

-- ---- updates

other-by : (sid : ℕ) (user : Listed) (has : Bool) (rest : Option Listed) → (has && not (has_sid sid user)) ≡ false → is_other sid rest ≡ false
    → is_other sid (cond has (Some user) rest) ≡ false
other-by sid user has rest is later = grind arith

nobody-holds : (sid : ℕ) (key : List ℕ) (users : List Listed) → list_any (λ (user : Listed). has_key key user && not (has_sid sid user)) users ≡ false
    → is_other sid (user_by_key key users) ≡ false
nobody-holds sid key [] none = refl
nobody-holds sid key (user ∷ users) none =
    let parts = or-parts (has_key key user && not (has_sid sid user)) (list_any (λ (u : Listed). has_key key u && not (has_sid sid u)) users) none in
    other-by sid user (has_key key user) (find (has_key key) users) parts.0 (nobody-holds sid key users parts.1)

-- the key that is given is that of the user afterwards
held-by : (hub : HubView) (sid : ℕ) (given : Option (List ℕ)) (before after : List ℕ) → after ≡ changed_key given before → another_has_key hub sid after ≡ false
    → held_by_other sid given hub.users ≡ false
held-by hub sid given before after is none = grind (arith, nobody-holds)

abbrev nick_given : SenderView → List Field → Option (List ℕ)
nick_given own u = given_key (revision own (clean u own.sender.peer)).nick

key-by : (fields : List Field) (nick : Option (List ℕ)) → key_of (meaning (unwrap_or nick (value_or_empty nick_name fields)))
    ≡ changed_key (given_key (option_map (λ (word : List ℕ). chars (meaning word)) nick)) (key_in fields)
key-by fields nick = grind arith

revised-key : (own : SenderView) (infs : List (List Field)) (u : List Field) → own.fields ≡ merged_fields infs
    → (user_after own u).key ≡ changed_key (nick_given own u) (key_in own.fields)
revised-key own infs u known = grind (arith, listed-key, given-after, key-by)

takes-update : (hub : HubView) (own : SenderView) (infs : List (List Field)) (u : List Field) → own.fields ≡ merged_fields infs → update_denied hub own (Ok u) ≡ None
    → users_after_update own.sender.sid (clean u own.sender.peer) (nick_given own u) hub.users ≡ Ok (with_update own.sender.sid (clean u own.sender.peer) (nick_given own u) hub.users)
takes-update hub own infs u known none = grind (arith, held-by, revised-key, update-free)

-- ---- bans

takes-silent : (hub : HubView) (own : SenderView) (change : HubChange) → is_silent change ≡ true → IsTaken hub own (Hub change)
takes-silent hub own (shared.Ban banned) is = absurd (false≢true is)
takes-silent hub own _ is = tt

takes-act : {users : List Listed} {bans : List (List ℕ × Ban)} {operator : ℕ} {act : Act} {others : List (List ℕ)} {change : HubChange} → (hub : HubView) (own : SenderView) → hub.bans ≡ bans
    → Does users bans operator act others change → IsTaken hub own (Hub change)
takes-act hub own same (bans_user nick reason target banned called is room) = subst (λ bs. is_full bs banned.cid ≡ false) (sym same) room
takes-act hub own same (silent change is) = takes-silent hub own change is
takes-act hub own same _ = tt

-- ---- every line

module _ {hub : HubView} {own : SenderView} {line : PreparedLine} {now : ℕ} where
  takes : {said : Option Reading} {request : Request} {effect : Effect} → Outcome hub own line now said request effect → (infs : List (List Field)) → own.fields ≡ merged_fields infs
      → IsTaken hub own effect.change
  takes (lets_in reading u logs account) infs known = free-enters hub (user_after own u) (login-free hub own now line.owner u (user_after own u) logs.allowed)
  takes (proves reading at asks none) infs known =
      free-enters hub (listed_user own.sender.sid own.fields) (password-free hub own now (digest_given reading.params) (listed_user own.sender.sid own.fields) none)
  takes (revises reading u at words none) infs known = takes-update hub own infs u known none
  takes (acts reading done at operator asks does) infs known = takes-act hub own refl does
  takes _ infs known = tt

pub decided_is_taken : DecidedIsTaken
decided_is_taken setup hash h c bytes now =
    takes (outcome (sight_of setup (facts setup hash h)) (own_of ((facts setup hash h).about c)) (prepared_line setup hash ((facts setup hash h).about c).sender.challenge bytes) now)
    (infs setup hash h c) (told_of setup hash h c).tells
