-- Features and fields are what the accepted lines of a connection say, taken together.
use Rattle.std.proofs.Common.{◌≡◌, ◌∙◌, sym, ap, refl, subst, ℕ, ◌<◌, Bool, true, false, ◌==◌, List, [], ◌∷◌, ◌++◌, length, append-nil, Option, Some, None, Ok, arith}
use Rattle.std.specs.Prelude.{if◌then◌else◌, cond}
use Rattle.std.proofs.lemmas.Bool.{eqb-true}
use Rattle.adc_line.specs.Lines as lines
use Rattle.adc_line.specs.Lines.{Reading}
use Rattle.inf_fields.specs.Cleaning.{clean}
use Rattle.inf_fields.specs.Field.{Field}
use Rattle.inf_fields.specs.Merging.{merged_fields, merged_with}
use Rattle.inf_fields.specs.Updates as updates
use Rattle.inf_fields.proofs.MergingLaws.{merged-more}
use Rattle.login_state.specs.Support.{features_of, mentions_in, supported_after}
use Rattle.login_state.specs.SupportAnswers.{support_after}
use Rattle.login_state.proofs.LineByLine.{applied-ok}
use Rattle.login_state.proofs.Mentioned.{features_of-nil, features_of-push}
use Rattle.hub_rules.specs.declared.effect.Change.TheVariants.{Sender}
use Rattle.hub_rules.specs.declared.effect.Effect.{Effect}
use Rattle.hub_rules.specs.declared.effect.SenderChange.TheVariants as senders
use Rattle.hub_rules.specs.declared.history.Call.{Call}
use Rattle.hub_rules.specs.declared.history.Entry.{Entry}
use Rattle.login_state.specs.declared.request.Request.{Request}
use Rattle.hub_rules.specs.Configured.{Configured}
use Rattle.hub_rules.specs.Effects.{is_over, line_effect}
use Rattle.hub_rules.specs.Facts.{Facts, facts, effect_of_line, own_of, sight_of}
use Rattle.hub_rules.specs.Identities.{listed_user}
use Rattle.hub_rules.specs.Prepared.{prepared_line}
use Rattle.hub_invariants.specs.Said.{FeaturesAreLastAdded, InfoIsMerged, accepted_line, cleaned_update, inf_update, infs, listed_if, read_by, said_in, sup_words, sups, unless_refused, words_if}
use Rattle.hub_invariants.specs.Afterwards.{features_after, own_change}
use Rattle.hub_rules.specs.Shares.{ConnState}
use Rattle.hub_invariants.specs.Afterwards.{fields_after}
use Rattle.hub_rules.specs.Views.{SenderView, PreparedLine, HubView, user_after}
use Rattle.hub_invariants.proofs.CallCases.{Becomes, becomes}
use Rattle.hub_invariants.proofs.Calls.{above, over-unless, sound_of}
use Rattle.hub_invariants.proofs.Kept.{joins-grow}
use Rattle.hub_invariants.proofs.Members.{has}
use Rattle.hub_invariants.proofs.Outcomes.{Outcome, greets, learns, lets_in, outcome, request_in, revises, waits}
use Rattle.hub_invariants.proofs.Sound.{Sound}

-- ---- what one line says, and what it changes

abbrev with_update : List Field → Option (List Field) → List Field
with_update before None = before
with_update before (Some u) = merged_with before u

abbrev with_sup : List (List ℕ) → Option (List (List ℕ)) → List (List ℕ)
with_sup before None = before
with_sup before (Some words) = supported_after before (mentions_in words)

-- an effect does to features and fields what is said
pub record Says (own : SenderView) (effect : Effect) (sup : Option (List (List ℕ))) (inf : Option (List Field)) : Type 0 where
  pub supports : features_after effect.change own.sender.features ≡ with_sup own.sender.features sup
  pub tells : fields_after effect.change own.fields ≡ with_update own.fields inf

login-fields : (own : SenderView) (u : List Field) → (user_after own u).fields ≡ merged_with own.fields (clean u own.sender.peer)
unfolding listed_user
login-fields own u = refl

-- what was said, as it is read, by what it asks for
abbrev pub said_by : {A : Type 0} → (SenderView → Request → Reading → Option A) → SenderView → Option Reading → Request → Option A
said_by read own None request = None
said_by read own (Some reading) request = read own request reading

pub said-read : {A : Type 0} (read : SenderView → Request → Reading → Option A) (own : SenderView) (mentions_in : Option Reading) → said_by read own mentions_in (request_in own mentions_in) ≡ read_by read own mentions_in
said-read read own mentions_in = grind arith

says-words : (own : SenderView) (words features : List (List ℕ)) → support_after own.sender.features words ≡ Ok features → features ≡ with_sup own.sender.features (words_if (support_after own.sender.features words) words)
says-words own words features is = sym (applied-ok own.sender.features words features is) ∙ ap (λ r. with_sup own.sender.features (words_if r words)) (sym is)

says-cleaned : (own : SenderView) (reading : Reading) (u : List Field) → updates.reading reading.params ≡ Ok u
    → merged_with own.fields (clean u own.sender.peer) ≡ with_update own.fields (cleaned_update own.sender.peer (updates.reading reading.params))
says-cleaned own reading u is = ap (λ r. with_update own.fields (cleaned_update own.sender.peer r)) (sym is)

module _ {hub : HubView} {own : SenderView} {line : PreparedLine} {now : ℕ} where
  says-outcome : {mentions_in : Option Reading} {request : Request} {effect : Effect} → Outcome hub own line now mentions_in request effect → Says own effect (said_by sup_words own mentions_in request) (said_by inf_update own mentions_in request)
  says-outcome (greets reading features at is) = record { supports = says-words own reading.params features is; tells = refl }
  says-outcome (learns reading features at is) = record { supports = says-words own reading.params features is; tells = refl }
  says-outcome (waits reading u logs account) = record { supports = refl; tells = login-fields own u ∙ says-cleaned own reading u logs.words }
  says-outcome (lets_in reading u logs account) = record { supports = refl; tells = login-fields own u ∙ says-cleaned own reading u logs.words }
  says-outcome (revises reading u at words none) = record { supports = refl; tells = says-cleaned own reading u words }
  says-outcome _ = record { supports = refl; tells = refl }

says-line : (hub : HubView) (own : SenderView) (line : PreparedLine) (now : ℕ)
    → Says own (line_effect hub own line now) (read_by sup_words own (accepted_line hub own line now)) (read_by inf_update own (accepted_line hub own line now))
says-line hub own line now =
    let mentions_in = accepted_line hub own line now in
    let says = says-outcome (outcome hub own line now) in record {
      supports = says.supports ∙ ap (with_sup own.sender.features) (said-read sup_words own mentions_in);
      tells = says.tells ∙ ap (with_update own.fields) (said-read inf_update own mentions_in);
    }

merged-none : merged_fields [] ≡ []
unfolding merged_fields
merged-none = refl

-- ---- a list that is one longer where something was said

features-more : (sups : List (List (List ℕ))) (sup : Option (List (List ℕ))) → features_of (sups ++ listed_if true sup) ≡ with_sup (features_of sups) sup
features-more sups sup = grind (arith, append-nil, features_of-push)

fields-more : (infs : List (List Field)) (inf : Option (List Field)) → merged_fields (infs ++ listed_if true inf) ≡ with_update (merged_fields infs) inf
fields-more infs inf = grind (arith, append-nil, merged-more)

-- what is known of a connection is what was said
pub record Told (a : ConnState) (sups : List (List (List ℕ))) (infs : List (List Field)) : Type 0 where
  pub supports : a.sender.features ≡ features_of sups
  pub tells : a.fields ≡ merged_fields infs

said-one : (f : Facts) (c d : ℕ) (effect : Effect) (sup : Option (List (List ℕ))) (inf : Option (List Field)) (same : Bool) → (c == d) ≡ same
    → Says (own_of (f.about d)) effect sup inf → (sups : List (List (List ℕ))) (infs : List (List Field)) → Told (f.about c) sups infs
    → (features_after (own_change same effect.change) (f.about c).sender.features ≡ features_of (sups ++ listed_if same sup))
    × (cond same (fields_after effect.change (f.about c).fields) (f.about c).fields ≡ merged_fields (infs ++ listed_if same inf))
said-one f c d effect sup inf same is says sups infs told = grind (arith, eqb-true, features-more, fields-more, append-nil)

-- ---- every call

pub same-chosen : {A : Type 0} (b : Bool) (x : A) → cond b x x ≡ x
same-chosen b x = grind arith

-- a connection that leaves supports what it did
features-kept : (same : Bool) (features : List (List ℕ)) → features_after (own_change same (Sender senders.Falls)) features ≡ features
features-kept true features = refl
features-kept false features = refl

-- a call that says nothing of it
told-still : (a b : ConnState) (sups : List (List (List ℕ))) (infs : List (List Field)) → b.sender.features ≡ a.sender.features → b.fields ≡ a.fields → Told a sups infs → Told b (sups ++ []) (infs ++ [])
told-still a b sups infs same_features same_fields told = grind (arith, append-nil)

-- ---- a connection that has not joined yet

pub record Untouched (a : ConnState) : Type 0 where
  pub no_features : a.sender.features ≡ []
  pub no_fields : a.fields ≡ []

pub unheard : (hub : HubView) (own : SenderView) (line : PreparedLine) (now : ℕ) → is_over own.stage ≡ true → accepted_line hub own line now ≡ None
unfolding accepted_line
unheard hub own line now over = ap (λ b. if b then None else (if length line.bytes == 0 then None else unless_refused hub own line now (lines.reading line.bytes))) over

quiet-line : (hub : HubView) (own : SenderView) (line : PreparedLine) (now : ℕ) → is_over own.stage ≡ true
    → (features_after (line_effect hub own line now).change own.sender.features ≡ own.sender.features) × (fields_after (line_effect hub own line now).change own.fields ≡ own.fields)
quiet-line hub own line now over =
    let says = says-line hub own line now in (
      says.supports ∙ ap (λ mentions_in. with_sup own.sender.features (read_by sup_words own mentions_in)) (unheard hub own line now over),
      says.tells ∙ ap (λ mentions_in. with_update own.fields (read_by inf_update own mentions_in)) (unheard hub own line now over),
    )

quiet-one : (setup : Configured) (hash : List ℕ → List ℕ) (f : Facts) (d c : ℕ) (bytes : List ℕ) (now : ℕ) (same : Bool) → (d == c) ≡ same → is_over (f.about d).stage ≡ true
    → (features_after (own_change same (effect_of_line setup hash f c bytes now).change) (f.about d).sender.features ≡ (f.about d).sender.features)
    × (cond same (fields_after (effect_of_line setup hash f c bytes now).change (f.about d).fields) (f.about d).fields ≡ (f.about d).fields)
quiet-one setup hash f d c bytes now true is over =
    let e : c ≡ d = sym (eqb-true d c is) in
    subst (λ x. (features_after (effect_of_line setup hash f x bytes now).change (f.about d).sender.features ≡ (f.about d).sender.features)
    × (fields_after (effect_of_line setup hash f x bytes now).change (f.about d).fields ≡ (f.about d).fields)) (sym e)
    (quiet-line (sight_of setup f) (own_of (f.about d)) (prepared_line setup hash (f.about d).sender.challenge bytes) now over)
quiet-one setup hash f d c bytes now false is over = (refl, refl)

pub over-beyond : (f : Facts) → Sound f → (d : ℕ) → f.joins < d → is_over (f.about d).stage ≡ true
over-beyond f sound d beyond = over-unless f sound d (above f sound d beyond (has d f.opened) refl) (is_over (f.about d).stage) refl

untouched-same : (a b : ConnState) → b.sender.features ≡ a.sender.features → b.fields ≡ a.fields → Untouched a → Untouched b
untouched-same a b same_features same_fields none = record { no_features = same_features ∙ none.no_features; no_fields = same_fields ∙ none.no_fields }

module _ {setup : Configured} {hash : List ℕ → List ℕ} {f : Facts} {caller c : ℕ} where
  untouched-after : {call : Call} {a : ConnState} → Becomes setup hash f caller c call a → Sound f → f.joins < c → Untouched (f.about c) → Untouched a
  untouched-after (Becomes.joins peer challenge now place is) sound beyond none = record { no_features = refl; no_fields = refl }
  untouched-after (Becomes.says d bytes now) sound beyond none =
      let quiet = quiet-one setup hash f c d bytes now (c == d) refl (over-beyond f sound c beyond) in untouched-same (f.about c) _ quiet.0 quiet.1 none
  untouched-after (Becomes.quits d) sound beyond none =
      untouched-same (f.about c) _ (features-kept (c == d) (f.about c).sender.features) (same-chosen (c == d) (f.about c).fields) none
  untouched-after _ sound beyond none = untouched-same (f.about c) _ refl refl none

untouched_of : (setup : Configured) (hash : List ℕ → List ℕ) (h : List Entry) (d : ℕ) → (facts setup hash h).joins < d → Untouched ((facts setup hash h).about d)
unfolding facts
untouched_of setup hash [] d beyond = record { no_features = refl; no_fields = refl }
untouched_of setup hash (e ∷ h) d beyond =
    let below : (facts setup hash h).joins < d = omega (arith, beyond, joins-grow setup hash (facts setup hash h) e.caller e.call) in
    untouched-after (becomes setup hash (facts setup hash h) e.caller d e.call) (sound_of setup hash h) below (untouched_of setup hash h d below)

-- ---- every history

module _ {setup : Configured} {hash : List ℕ → List ℕ} {f : Facts} {caller c : ℕ} where
  told-after : {call : Call} {a : ConnState} → Becomes setup hash f caller c call a → (sups : List (List (List ℕ))) (infs : List (List Field)) → (f.joins < c → Untouched (f.about c))
      → Told (f.about c) sups infs → Told a (sups ++ said_in sup_words setup hash f c call) (infs ++ said_in inf_update setup hash f c call)
  told-after (Becomes.joins peer challenge now place is) sups infs fresh told =
      let none = fresh (omega (arith, is)) in told-still (f.about c) _ sups infs (sym none.no_features) (sym none.no_fields) told
  told-after (Becomes.says d bytes now) sups infs fresh told =
      let says = says-line (sight_of setup f) (own_of (f.about d)) (prepared_line setup hash (f.about d).sender.challenge bytes) now in
      let both = said-one f c d (effect_of_line setup hash f d bytes now) _ _ (c == d) refl says sups infs told in record { supports = both.0; tells = both.1 }
  told-after (Becomes.quits d) sups infs fresh told =
      told-still (f.about c) _ sups infs (features-kept (c == d) (f.about c).sender.features) (same-chosen (c == d) (f.about c).fields) told
  told-after _ sups infs fresh told = told-still (f.about c) _ sups infs refl refl told

pub told_of : (setup : Configured) (hash : List ℕ → List ℕ) (h : List Entry) (c : ℕ) → Told ((facts setup hash h).about c) (sups setup hash h c) (infs setup hash h c)
unfolding facts sups infs
told_of setup hash [] c = record { supports = sym features_of-nil; tells = sym merged-none }
told_of setup hash (e ∷ h) c =
    told-after (becomes setup hash (facts setup hash h) e.caller c e.call) (sups setup hash h c) (infs setup hash h c) (untouched_of setup hash h c) (told_of setup hash h c)

pub features_are_last_added : FeaturesAreLastAdded
features_are_last_added setup hash h c = (told_of setup hash h c).supports

pub info_is_merged : InfoIsMerged
info_is_merged setup hash h c = (told_of setup hash h c).tells
