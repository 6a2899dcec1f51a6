-- Each line that a call shares out is one of the hub's, or tells of its sender, or is what was sent.
use Rattle.std.proofs.Common.{◌∙◌, sym, ap, refl, subst, ℕ, Bool, true, false, List, [], ◌∷◌, ◌++◌, cond}
use Rattle.hub_rules.specs.Texts.{challenge_line, done_line, hub_line, identifier_line, menu_line, removal_line, support_line, topic_line}
use Rattle.hub_laws.proofs.Words.{AllByRecursion, Configured, Entry, all_fit, facts, share}
use Rattle.hub_laws.specs.Origins.{LinesHaveOrigins, Origin, of_entrant, of_message, of_the_hub, of_update, of_user}
use Rattle.hub_laws.proofs.SenderOrder.{added-is}
use Rattle.hub_laws.proofs.Others.{status}
use Rattle.hub_laws.proofs.Secrets.{all-as}
use Rattle.hub_laws.proofs.Sources.{Source, from_challenge, from_done, from_entrant, from_hub, from_identifier, from_menu, from_message, from_quit, from_removal, from_status, from_support, from_topic, from_update, from_user, share-has}

module _ {setup : Configured} {hash : List ℕ → List ℕ} {h : List Entry} {e : Entry} {d : ℕ} where
  origin-of : {line : List ℕ} → Source setup hash h e d line → Origin setup hash h e line
  unfolding support_line identifier_line hub_line topic_line challenge_line menu_line done_line removal_line
  origin-of from_support = of_the_hub _ refl
  origin-of (from_identifier c) = of_the_hub _ refl
  origin-of (from_hub now features topic) = of_the_hub _ refl
  origin-of (from_topic topic) = of_the_hub _ refl
  origin-of from_challenge = of_the_hub _ refl
  origin-of (from_menu item there) = of_the_hub _ refl
  origin-of from_done = of_the_hub _ refl
  origin-of (from_removal target operator seconds reason small smaller) = of_the_hub _ refl
  origin-of (from_status line is) = of_the_hub _ (is.2 ∙ ap (λ (text : List ℕ). text ++ 10 ∷ []) (status is.0))
  origin-of (from_quit c) = of_the_hub _ refl
  origin-of (from_user c at) = of_user c at refl
  origin-of (from_entrant c at) = of_entrant c at refl
  origin-of (from_update c bytes now u call at told) = of_update c bytes now u call at refl
  origin-of (from_message c bytes now message call is reads from kind command) = of_message c bytes now message call is from kind command refl

pub lines_have_origins : LinesHaveOrigins
lines_have_origins setup hash h e d =
    subst (AllByRecursion (Origin setup hash h e)) (sym (added-is setup hash h e d)) (by-room (all_fit setup hash (e ∷ h) d))
  where
    by-room : (fits : Bool) → AllByRecursion (Origin setup hash h e) (cond fits (share setup hash (facts setup hash h) d e.call) [])
    by-room true = all-as (Source setup hash h e d) (Origin setup hash h e) (share setup hash (facts setup hash h) d e.call) (λ line is. origin-of is) (share-has setup hash h e d)
    by-room false = tt
