-- What an effect does to stages, to fields and to shares, as the list that a user keeps needs it.
use Rattle.std.proofs.Common.{◌≡◌, ◌∙◌, ap, refl, ℕ, suc, Bool, true, false, not, ◌&&◌, ◌==◌, List, [], ◌∷◌, ◌++◌, append-nil, length, cond, arith}
use Rattle.std.specs.Prelude.{if◌then◌else◌}
use Rattle.adc_base32.specs.Sids.{sid_text}
use Rattle.hub_rules.specs.Shares.{lags_with, owed_with}
use Rattle.hub_laws.proofs.Words.{ConnState, Change, Effect, Field, Others, Sender, Stage, Those}
use Rattle.hub_laws.proofs.Words.{after, false≢true, fields_after, hears_those}
use Rattle.hub_laws.proofs.Words.{holds_words, is_over, is_present, is_removed, merged_with, owes}
use Rattle.hub_laws.proofs.Words.{settled_fields, sid, stage_after, stage_next}
use Rattle.hub_laws.proofs.Words.audiences
use Rattle.hub_laws.proofs.Words.senders
use Rattle.hub_laws.proofs.Words.stages
use Rattle.hub_laws.specs.Lists.{Listing}
use Rattle.hub_laws.proofs.Others.{AreOthers, is_early}
use Rattle.hub_laws.proofs.Secrets.{all-append}

-- ---- stages

pub early-absent : (s : Stage) → is_early s ≡ true → is_present s ≡ false
early-absent s is = grind arith

pub early-open : (s : Stage) → is_early s ≡ true → is_over s ≡ false
early-open s is = grind arith

pub early-normal : is_early stages.Normal ≡ true → ⊥
early-normal is = false≢true is

pub next-present : (removed same : Bool) (change : Change) (s : Stage) → removed ≡ false → is_present s ≡ true → (same ≡ true → is_present (stage_after change s) ≡ true)
    → is_present (stage_next (is_present s && removed) same change s) ≡ true
next-present removed same change s kept here own = grind arith

pub before-present : (removed same : Bool) (change : Change) (s : Stage) → (same ≡ true → is_present (stage_after change s) ≡ true → is_present s ≡ true)
    → is_present (stage_next removed same change s) ≡ true → is_present s ≡ true
before-present removed same change s own here = grind arith

pub before-early : (removed same : Bool) (change : Change) (s : Stage) → (same ≡ true → is_early (stage_after change s) ≡ true → is_early s ≡ true)
    → is_early (stage_next removed same change s) ≡ true → is_early s ≡ true
before-early removed same change s own is = grind arith

pub falls-present : (removed same : Bool) (change : Change) (s : Stage) (sid : ℕ) → change ≡ Sender senders.Falls → removed ≡ is_removed change sid
    → is_present (stage_next (is_present s && removed) same change s) ≡ (not same && is_present s)
falls-present removed same change s sid is none = grind arith

pub falls-early : (removed same : Bool) (change : Change) (s : Stage) → change ≡ Sender senders.Falls → is_early (stage_next removed same change s) ≡ true → (same ≡ false) × (is_early s ≡ true)
falls-early removed same change s is early = grind arith

pub gone-present : (removed same : Bool) (change : Change) (s : Stage) → stage_after change s ≡ s → is_present s ≡ true → is_present (stage_next (is_present s && removed) same change s) ≡ not removed
gone-present removed same change s kept here = grind arith

pub chosen-same : {A : Type 0} (same : Bool) (after before : A) → (same ≡ true → after ≡ before) → cond same after before ≡ before
chosen-same true after before is = is refl
chosen-same false after before is = refl

pub not-first : (same rest : Bool) → (not same && rest) ≡ true → same ≡ false
not-first same rest is = grind arith

pub second-of : (a b : Bool) → (a && b) ≡ true → b ≡ true
second-of a b is = grind arith

pub entered-is : (removed same : Bool) (change : Change) (s : Stage) → is_present s ≡ false → is_present (stage_next removed same change s) ≡ true → same ≡ true
entered-is removed same change s was there = grind arith

pub entered-late : (removed same : Bool) (change : Change) (s : Stage) → same ≡ true → stage_after change s ≡ stages.Normal → is_early (stage_next removed same change s) ≡ true → ⊥
entered-late removed same change s is here early = grind arith

-- ---- fields

pub no-length : (u : List Field) → (length u == 0) ≡ true → u ≡ []
no-length [] is = refl
no-length (f ∷ u) is = absurd (more-than-none (length u) is)
  where
    more-than-none : (n : ℕ) → (suc n == 0) ≡ true → ⊥
    more-than-none n is = grind arith

pub settled-none : (fields : List Field) → settled_fields ([] ∷ []) fields ≡ fields
settled-none [] = refl
settled-none (f ∷ fields) = ap (λ fs. f ∷ fs) (settled-none fields)

pub merged-nothing : (fields : List Field) → merged_with fields [] ≡ fields
unfolding merged_with
merged-nothing fields = ap (settled_fields ([] ∷ [])) (append-nil fields) ∙ settled-none fields

abbrev pub listed_as : ℕ → List Field → Listing
listed_as sid fields = (sid_text sid, fields)

pub renewed-none : (same : Bool) (a : ConnState) (u : List Field) → u ≡ [] → (if same then listed_as a.sender.sid (merged_with a.fields u) else listed_as a.sender.sid a.fields) ≡ listed_as a.sender.sid a.fields
renewed-none true a u none = ap (listed_as a.sender.sid) (ap (merged_with a.fields) none ∙ merged-nothing a.fields)
renewed-none false a u none = refl

pub renewed-as : (same : Bool) (a : ConnState) (change : Change) (u : List Field) → fields_after change a.fields ≡ merged_with a.fields u
    → listed_as a.sender.sid (cond same (fields_after change a.fields) a.fields) ≡ (if same then listed_as a.sender.sid (merged_with a.fields u) else listed_as a.sender.sid a.fields)
renewed-as true a change u is = ap (listed_as a.sender.sid) is
renewed-as false a change u is = refl

-- ---- shares

pub others-if : (b : Bool) (lines : List (List ℕ)) → AreOthers lines → AreOthers (cond b lines [])
others-if true lines all = all
others-if false lines all = tt

pub owes-others : (same : Bool) (effect : Effect) (a : ConnState) → AreOthers effect.own → AreOthers effect.others → AreOthers (owes same effect a)
owes-others same effect a own-lines others = all-append _ _ (cond same effect.own []) (others-if _ effect.others others) (others-if same effect.own own-lines)

pub owes-to-others : (same : Bool) (effect : Effect) (a : ConnState) → same ≡ false → effect.hearers ≡ Others → is_present a.stage ≡ true → owes same effect a ≡ effect.others
owes-to-others same effect a other hearers here = grind (arith, append-nil)

pub owes-to-sender : (same : Bool) (effect : Effect) (a : ConnState) → same ≡ true → effect.hearers ≡ Others → owes same effect a ≡ effect.own
owes-to-sender same effect a is hearers = grind arith

pub owes-to-all : (same : Bool) (effect : Effect) (a : ConnState) → effect.hearers ≡ Those audiences.All → is_present a.stage ≡ true → owes same effect a ≡ effect.others ++ cond same effect.own []
unfolding holds_words
owes-to-all same effect a hearers here = grind arith

pub owes-own : (same : Bool) (effect : Effect) (a : ConnState) → is_present a.stage ≡ false → owes same effect a ≡ cond same effect.own []
owes-own same effect a absent = ap (λ p. cond (p && hears_those same effect.hearers a) effect.others [] ++ cond same effect.own []) absent

-- what fits is owed
pub grown : (a : ConnState) (share : List (List ℕ)) → lags_with a share ≡ false → (a.lags ≡ false) × (owed_with a share ≡ a.owed ++ share)
unfolding lags_with owed_with
grown a share fine = grind arith
