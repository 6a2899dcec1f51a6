-- The bans after a list of acts are those that the last act on each client identifier leaves.
use Rattle.std.proofs.Common.{◌≡◌, ◌∙◌, ap, refl, ℕ, Bool, true, false, cond, List, [], ◌∷◌, Option, Some, None}
use Rattle.std.specs.Prelude.{filter, fold, is_some}
use Rattle.std.specs.List.{last_or}
use Rattle.operator_acts.specs.declared.ban.Ban.{Ban}
use Rattle.operator_acts.specs.Bans.{ban_on, left_of_bans, left_of}
use Rattle.operator_acts.specs.BanHistory.{BanAct, Banned, Unbanned, is_on, last_act, last_ban, ban_by, act_on, bans_after, LeftByLastAct, HeldByLastAct}
use Rattle.operator_acts.proofs.Entries.{equal-bytes, ban_on-with_ban, ban_on-without_ban}

-- the ban that acts leave where one may be held before them
since : Option Ban → Option BanAct → Option Ban
since held None = held
since held (Some act) = ban_by (Some act)

ban_on-act : (bans : List (List ℕ × Ban)) (act : BanAct) (cid : List ℕ) → ban_on (act_on bans act) cid ≡ cond (is_on cid act) (ban_by (Some act)) (ban_on bans cid)
ban_on-act bans (Banned other ban) cid = ban_on-with_ban bans other ban cid ∙ ap (λ b. cond b (Some ban) (ban_on bans cid)) (equal-bytes cid other)
ban_on-act bans (Unbanned other) cid = ban_on-without_ban bans other cid ∙ ap (λ b. cond b None (ban_on bans cid)) (equal-bytes cid other)

-- with an act behind it, what was held before is nothing
forgets : (one other : Option Ban) (act : BanAct) (acts : List BanAct) → since one (last_or (Some act) acts) ≡ since other (last_or (Some act) acts)
unfolding since
forgets one other act [] = refl
forgets one other act (next ∷ acts) = forgets one other next acts

starts : (held : Option Ban) (act : BanAct) (acts : List BanAct) → since (ban_by (Some act)) (last_or None acts) ≡ since held (last_or (Some act) acts)
unfolding since
starts held act [] = refl
starts held act (next ∷ acts) = forgets (ban_by (Some act)) held next acts

ban_on-fold : (acts : List BanAct) (bans : List (List ℕ × Ban)) (cid : List ℕ) → ban_on (fold act_on bans acts) cid ≡ since (ban_on bans cid) (last_act cid acts)
unfolding since
ban_on-fold [] bans cid = refl
ban_on-fold (act ∷ acts) bans cid =
    let go : (b : Bool) → since (cond b (ban_by (Some act)) (ban_on bans cid)) (last_act cid acts) ≡ since (ban_on bans cid) (last_or None (cond b (act ∷ filter (is_on cid) acts) (filter (is_on cid) acts))) =
    elim [
      | true ↦ starts (ban_on bans cid) act (filter (is_on cid) acts)
      | false ↦ refl
    ] in
    ban_on-fold acts (act_on bans act) cid ∙ ap (λ held. since held (last_act cid acts)) (ban_on-act bans act cid) ∙ go (is_on cid act)

since-none : (last : Option BanAct) → since None last ≡ ban_by last
unfolding since
since-none None = refl
since-none (Some act) = refl

-- the ban on a client identifier is what the last act on it leaves
pub ban_on-after : (acts : List BanAct) (cid : List ℕ) → ban_on (bans_after acts) cid ≡ last_ban cid acts
ban_on-after acts cid = ban_on-fold acts [] cid ∙ since-none (last_act cid acts)

pub left-by_last_act : LeftByLastAct
unfolding left_of_bans
left-by_last_act acts cid now = ap (λ ban. left_of ban now) (ban_on-after acts cid)

pub held-by_last_act : HeldByLastAct
held-by_last_act acts cid = ap is_some (ban_on-after acts cid)
