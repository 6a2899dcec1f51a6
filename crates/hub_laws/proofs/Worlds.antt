-- Bans and the topic are as the acts of operators left them.
use Rattle.std.proofs.Common.{◌≡◌, ◌∙◌, sym, ap, refl, ℕ, Bool, true, false, List, [], ◌∷◌, ◌++◌, fold, cond, arith}
use Rattle.operator_acts.specs.BanHistory as acts
use Rattle.operator_acts.proofs.LastActs.{left-by_last_act}
use Rattle.hub_laws.proofs.Words.{Ban, BanIsTheLastAct, Call, Change, Configured, Entry, Facts, Hub, TopicIsTheLast, act_on, after, ban_act_of, ban_acts, bans_after, change_of, facts, first_or}
use Rattle.hub_laws.proofs.Words.{fold-append, happens, is_removed, left_of_bans, topic_act_of, topic_acts, topic_after, with_connection, without_connection}

-- an operator's act
abbrev pub is_act : Change → Bool
is_act (Hub change) = true
is_act change = false

pub no-removal : (change : Change) (sid : ℕ) → is_act change ≡ false → is_removed change sid ≡ false
no-removal change sid none = grind arith

pub no-ban : (change : Change) → is_act change ≡ false → ban_act_of change ≡ []
no-ban change none = grind arith

pub no-topic : (change : Change) (before : List ℕ) → is_act change ≡ false → topic_after change before ≡ before
no-topic change before none = grind arith

one-act : (change : Change) (bans : List (List ℕ × Ban)) → bans_after change bans ≡ fold act_on bans (ban_act_of change)
one-act change bans = grind arith

one-topic : (change : Change) (topics : List (List ℕ)) (otherwise : List ℕ) → topic_after change (first_or topics otherwise) ≡ first_or (topic_act_of change ++ topics) otherwise
one-topic change topics otherwise = grind arith

pub join-bans : (f : Facts) (owner : ℕ) (peer challenge : List ℕ) (accepted : Bool) → (cond accepted (with_connection f owner peer challenge) f).bans ≡ f.bans
unfolding with_connection
join-bans f owner peer challenge accepted = grind arith

join-topic : (f : Facts) (owner : ℕ) (peer challenge : List ℕ) (accepted : Bool) → (cond accepted (with_connection f owner peer challenge) f).topic ≡ f.topic
unfolding with_connection
join-topic f owner peer challenge accepted = grind arith

pub step-bans : (setup : Configured) (hash : List ℕ → List ℕ) (f : Facts) (caller : ℕ) (call : Call)
    → (after setup hash f caller call).bans ≡ fold act_on f.bans (ban_act_of (change_of setup hash f call))
unfolding after happens without_connection
step-bans setup hash f caller call = grind (arith, join-bans, one-act)

pub step-topic : (setup : Configured) (hash : List ℕ → List ℕ) (f : Facts) (caller : ℕ) (call : Call)
    → (after setup hash f caller call).topic ≡ topic_after (change_of setup hash f call) f.topic
unfolding after happens without_connection
step-topic setup hash f caller call = grind (arith, join-topic)

bans_are : (setup : Configured) (hash : List ℕ → List ℕ) (h : List Entry) → (facts setup hash h).bans ≡ acts.bans_after (ban_acts setup hash h)
unfolding facts ban_acts
bans_are setup hash [] = refl
bans_are setup hash (e ∷ h) =
    step-bans setup hash (facts setup hash h) e.caller e.call
    ∙ ap (λ (bans : List (List ℕ × Ban)). fold act_on bans (ban_act_of (change_of setup hash (facts setup hash h) e.call))) (bans_are setup hash h)
    ∙ sym (fold-append act_on [] (ban_acts setup hash h) (ban_act_of (change_of setup hash (facts setup hash h) e.call)))

pub ban_is_the_last_act : BanIsTheLastAct
ban_is_the_last_act setup hash h cid now =
    ap (λ (bans : List (List ℕ × Ban)). left_of_bans bans cid now) (bans_are setup hash h) ∙ left-by_last_act (ban_acts setup hash h) cid now

pub topic_is_the_last : TopicIsTheLast
unfolding facts topic_acts
topic_is_the_last setup hash [] = refl
topic_is_the_last setup hash (e ∷ h) =
    step-topic setup hash (facts setup hash h) e.caller e.call
    ∙ ap (topic_after (change_of setup hash (facts setup hash h) e.call)) (topic_is_the_last setup hash h)
    ∙ one-topic (change_of setup hash (facts setup hash h) e.call) (topic_acts setup hash h) setup.topic
