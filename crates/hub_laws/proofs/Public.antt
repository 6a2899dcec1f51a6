-- After every history what is known of a user may be known.
use Rattle.std.proofs.Common.{◌≡◌, sym, subst, ℕ, Bool, true, false, ◌==◌, List, [], ◌∷◌, Option, None, Ok, cond, arith, drop}
use Rattle.hub_rules.specs.Identities as identities
use Rattle.hub_laws.proofs.Words.{ConnState, AllByRecursion, AllFalse, Becomes, Call, Configured, Deny, Effect, Facts, Field, Listed, Outcome, SenderView, PreparedLine, Reading, Request, HubView, address_name, dropped}
use Rattle.hub_laws.proofs.Words.{after, becomes, clean, effect_of_line, eqb-true, facts, fields_after, first_ground, grounds_of, is_wrong_address, lets_in, line-outcome, listed_user}
use Rattle.hub_laws.proofs.Words.{login_denied, login_grounds, merged_with, none-of, revises, update_grounds, user_after, waits}
use Rattle.hub_laws.proofs.Words.denials
use Rattle.hub_laws.specs.Secrets.{InfoIsPublic, IsPublic}
use Rattle.hub_laws.proofs.Secrets.{clean-passed, merged-public}

abbrev ArePublic : List ℕ → List Field → Type 0
ArePublic peer fields = AllByRecursion (IsPublic peer) fields

-- ---- the address of an update that is not denied

-- an address that denies nothing is one that may stand
abbrev pub IsRightAddress : List ℕ → List Field → Type 0
IsRightAddress peer u = is_wrong_address peer (identities.value_or_empty address_name u) ≡ false

abbrev is_address : Deny → Bool
is_address (denials.Address severity peer) = true
is_address deny = false

pub login-right : (hub : HubView) (own : SenderView) (now : ℕ) (digest : Option (List ℕ)) (u : List Field) (user : Listed) → first_ground (login_grounds hub own now digest u user) ≡ None
    → IsRightAddress own.sender.peer u
unfolding login_grounds
login-right hub own now digest u user none =
    let address : AllFalse (grounds_of is_address (drop 9 (login_grounds hub own now digest u user))) =
    none-of is_address (drop 9 (login_grounds hub own now digest u user)) (dropped 9 (login_grounds hub own now digest u user) none) in address.0

pub update-right : (hub : HubView) (own : SenderView) (u : List Field) (user : Listed) → first_ground (update_grounds hub own u user) ≡ None → IsRightAddress own.sender.peer u
unfolding update_grounds
update-right hub own u user none =
    let address : AllFalse (grounds_of is_address (update_grounds hub own u user)) = none-of is_address (update_grounds hub own u user) none in address.0

-- ---- one line

abbrev KeepsPublic : SenderView → Effect → Type 0
KeepsPublic own effect = ArePublic own.sender.peer own.fields → ArePublic own.sender.peer (fields_after effect.change own.fields)

public-merged : (own : SenderView) (u : List Field) → IsRightAddress own.sender.peer u → ArePublic own.sender.peer own.fields
    → ArePublic own.sender.peer (merged_with own.fields (clean u own.sender.peer))
public-merged own u right all = merged-public own.sender.peer own.fields (clean u own.sender.peer) all (clean-passed u own.sender.peer right)

listed-public : (sid : ℕ) (peer : List ℕ) (fields : List Field) → ArePublic peer fields → ArePublic peer (listed_user sid fields).fields
unfolding listed_user
listed-public sid peer fields all = all

login-public : (hub : HubView) (own : SenderView) (line : PreparedLine) (now : ℕ) (u : List Field) → login_denied hub own line.owner now (Ok u) ≡ None → ArePublic own.sender.peer own.fields
    → ArePublic own.sender.peer (user_after own u).fields
login-public hub own line now u none all = grind (arith, listed-public, public-merged, login-right)

module _ {hub : HubView} {own : SenderView} {line : PreparedLine} {now : ℕ} where
  public : {said : Option Reading} {request : Request} {effect : Effect} → Outcome hub own line now said request effect → KeepsPublic own effect
  public (waits reading u logs account) all = login-public hub own line now u logs.allowed all
  public (lets_in reading u logs account) all = login-public hub own line now u logs.allowed all
  public (revises reading u at words none) all =
      public-merged own u (update-right hub own u (user_after own u) none) all
  public _ all = all

-- ---- one call

abbrev AboutIsPublic : ConnState → Type 0
AboutIsPublic a = ArePublic a.sender.peer a.fields

chosen-public : (peer : List ℕ) (same : Bool) (after before : List Field) → (same ≡ true → ArePublic peer after) → ArePublic peer before → ArePublic peer (cond same after before)
chosen-public peer same after before own all = grind arith

module _ {setup : Configured} {hash : List ℕ → List ℕ} {f : Facts} {caller d : ℕ} where
  public-after : {call : Call} {a : ConnState} → Becomes setup hash f caller d call a → AboutIsPublic (f.about d) → AboutIsPublic a
  public-after (Becomes.joins peer challenge now place is) all = tt
  public-after (Becomes.says c bytes now) all =
      let effect : Effect = effect_of_line setup hash f c bytes now in
      chosen-public (f.about d).sender.peer (d == c) (fields_after effect.change (f.about d).fields) (f.about d).fields
      (λ is. subst (λ x. AboutIsPublic (f.about x) → ArePublic (f.about x).sender.peer (fields_after effect.change (f.about x).fields)) (sym (eqb-true d c is))
      (public (line-outcome setup hash f c bytes now)) all) all
  public-after (Becomes.quits c) all = chosen-public (f.about d).sender.peer (d == c) (f.about d).fields (f.about d).fields (λ is. all) all
  public-after _ all = all

-- ---- every history

pub info_is_public : InfoIsPublic
unfolding facts
info_is_public setup hash [] c = tt
info_is_public setup hash (e ∷ h) c = public-after (becomes setup hash (facts setup hash h) e.caller c e.call) (info_is_public setup hash h c)
