-- The lines owed by an operator's act.
use Rattle.std.proofs.Common.{◌≡◌, ◌∙◌, sym, ap, refl, subst, ℕ, Bool, true, false, ◌⊎◌, inl, inr, ◌==◌, List, [], ◌∷◌, ◌++◌, Option, Some, cond, arith}
use Rattle.hub_laws.proofs.Words.{ConnState, Act, Ban, Call, Change, Configured, Does, Done, Effect, Facts, Hub, HubChange, Line, Listed, Nothing, Outcome, SenderView, PreparedLine, Reading, Request, HubView}
use Rattle.hub_laws.proofs.Words.{Reads-of, Those, acts, bans_user, change_of, done_line, effect_for_all, effect_of_line, facts, holds_words, is_present, kicks, line-outcome, owes, own_of, sets_topic, sight_of, text_in}
use Rattle.hub_laws.proofs.Words.{is_silent, share, silent}
use Rattle.hub_laws.proofs.Words.audiences
use Rattle.adc_line.specs.Grammar.{Reads}
use Rattle.operator_acts.specs.Acts.{act_at}
use Rattle.hub_rules.specs.Prepared.{prepared_line}
use Rattle.hub_laws.specs.OperatorActs.{ActsAreHeard, Asks, news_of, reason_of}
use Rattle.hub_laws.proofs.SenderOrder.{is-accepted}
use Rattle.hub_laws.proofs.AccountPasswords.{prepared-bytes}
use Rattle.hub_laws.proofs.Worlds.{is_act}

-- the line that tells of a change, where it is an operator's act
abbrev news_by : Change → ℕ → List ℕ → List (List ℕ)
news_by (Hub act) operator reason = news_of act operator reason
news_by change operator reason = []

record IsTold (own : SenderView) (effect : Effect) (act : Act) : Type 0 where
  others : effect.others ≡ news_by effect.change own.sender.sid (reason_of act)
  hearers : effect.hearers ≡ Those audiences.All
  done : effect.own ≡ done_line ∷ []

-- an effect that changes something for all is that of a line that was said, and that asks for an act
record Tells (own : SenderView) (said : Option Reading) (effect : Effect) : Type 0 where
  act : Act
  reading : Reading
  is_said : said ≡ Some reading
  asks : act_at (text_in reading.params) ≡ Some act
  told : IsTold own effect act

no-news : (change : HubChange) (operator : ℕ) (reason : List ℕ) → is_silent change ≡ true → news_of change operator reason ≡ []
no-news change operator reason quiet = grind arith

told-act : {users : List Listed} {bans : List (List ℕ × Ban)} {own : SenderView} {act : Act} (done : Done) → Does users bans own.sender.sid act done.others done.change
    → IsTold own (effect_for_all done) act
told-act done (kicks nick reason target called) = record { others = refl; hearers = refl; done = refl }
told-act done (bans_user nick reason target banned called same room) = record { others = refl; hearers = refl; done = refl }
told-act {own = own} {act = act} done (silent change quiet) = record { others = sym (no-news change own.sender.sid (reason_of act) quiet); hearers = refl; done = refl }
told-act done (sets_topic text) = record { others = refl; hearers = refl; done = refl }

module _ {hub : HubView} {own : SenderView} {line : PreparedLine} {now : ℕ} where
  tells : {said : Option Reading} {request : Request} {effect : Effect} → Outcome hub own line now said request effect → (is_act effect.change ≡ false) ⊎ Tells own said effect
  tells (acts {act} reading done at operator asks does) = inr (record { act = act; reading = reading; is_said = refl; asks = asks; told = told-act done does })
  tells _ = inl refl

-- ---- the call

told : (own : SenderView) (said : Option Reading) (effect : Effect) (act : HubChange) → effect.change ≡ Hub act → (is_act effect.change ≡ false) ⊎ Tells own said effect → Tells own said effect
told own said effect act is tells = grind arith

owes-all : (is_caller : Bool) (effect : Effect) (a : ConnState) (ls own : List (List ℕ)) → effect.others ≡ ls → effect.hearers ≡ Those audiences.All → effect.own ≡ own
    → owes is_caller effect a ≡ cond (is_present a.stage) ls [] ++ cond is_caller own []
unfolding holds_words
owes-all is_caller effect a ls own others hearers done = grind arith

abbrev IsHeard : Configured → (List ℕ → List ℕ) → Facts → Call → HubChange → Type 0
IsHeard setup hash f call act =
    (c : ℕ) × (asked : Act) × Asks call c asked
    × ((d : ℕ) → share setup hash f d call ≡ cond (is_present (f.about d).stage) (news_of act (f.about c).sender.sid (reason_of asked)) [] ++ cond (d == c) (done_line ∷ []) [])

no-act : (act : HubChange) → Nothing ≡ Hub act → ⊥
no-act act is = cc is

call-heard : (setup : Configured) (hash : List ℕ → List ℕ) (f : Facts) (call : Call) (act : HubChange) → change_of setup hash f call ≡ Hub act → IsHeard setup hash f call act
call-heard setup hash f (Line c bytes now) act changes =
    let effect : Effect = effect_of_line setup hash f c bytes now in
    let line : PreparedLine = prepared_line setup hash (f.about c).sender.challenge bytes in
    let is = told (own_of (f.about c)) _ effect act changes (tells (line-outcome setup hash f c bytes now)) in
    let accepted = is-accepted (sight_of setup f) (own_of (f.about c)) line now is.reading is.is_said in (
      c,
      is.act,
      record {
        bytes = bytes;
        now = now;
        is_line = refl;
        reading = is.reading;
        grammar = subst (λ (bs : List ℕ). Reads bs is.reading) (prepared-bytes setup hash (f.about c).sender.challenge bytes) (Reads-of line.bytes is.reading accepted.reads);
        asks = is.asks;
      },
      λ d. owes-all (d == c) effect (f.about d) _ (done_line ∷ [])
          (is.told.others ∙ ap (λ change. news_by change (f.about c).sender.sid (reason_of is.act)) changes) is.told.hearers is.told.done,
    )
call-heard setup hash f _ act changes = absurd (no-act act changes)

pub acts_are_heard : ActsAreHeard
acts_are_heard setup hash h e act changes = call-heard setup hash (facts setup hash h) e.call act changes
