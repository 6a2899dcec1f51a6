-- A connection's last search is the last of its accepted searches.
use Rattle.std.proofs.Common.{◌≡◌, ◌∙◌, sym, ap, ap₂, refl, subst, ℕ, ◌+◌, ◌<◌, Bool, true, false, ◌&&◌, ◌==◌, List, [], ◌∷◌, length, map, Option, None, arith}
use Rattle.user_table.specs.declared.totals.Totals.{Totals}
use Rattle.hub_rules.specs.declared.sender.Notes.{Notes}
use Rattle.hub_rules.specs.declared.sender.SeatChange.{SeatChange}
use Rattle.hub_rules.specs.Shares.{change_at}
use Rattle.hub_laws.specs.Searched.{SearchIsTheLast, TotalsAreSums, is_search, last_search, moment_if, search_in, searches}
use Rattle.hub_laws.proofs.Words.{ConnState, Becomes, Call, Change, Configured, Effect, Entry, Facts, Field, Line, Listed, Outcome, SenderView, PreparedLine, Reading, Request, Sender, HubView, Sound, about_parts}
use Rattle.hub_laws.proofs.Words.{accepted_line, amount, becomes, effect_of_line, eqb-true, facts, is_over, joins-grow, length-map, line_effect, listed_user, option_or, outcome}
use Rattle.hub_laws.proofs.Words.{over-beyond, own_of, prepared_line, request_in, notes_at, own_change, searched_after, share_size_name, shared_files_name, sight_of, sound_of, sum_by, sum_by-cons, unheard}
use Rattle.hub_laws.proofs.Words.{user_of}
use Rattle.hub_laws.proofs.Words.senders

-- ---- one line

-- an effect of a line leaves the moment of the last search, or makes it this one
abbrev Finds : Effect → Option ℕ → Type 0
Finds effect found = (before : Option ℕ) → searched_after effect.change before ≡ option_or found before

module _ {hub : HubView} {own : SenderView} {line : PreparedLine} {now : ℕ} where
  finds : {said : Option Reading} {request : Request} {effect : Effect} → Outcome hub own line now said request effect → Finds effect (moment_if (is_search request) now)
  finds (Outcome.searches reading at) before = refl
  finds _ before = refl

asks-search : (own : SenderView) (said : Option Reading) → is_search (request_in own said) ≡ searches own said
asks-search own said = grind arith

finds-line : (hub : HubView) (own : SenderView) (line : PreparedLine) (now : ℕ) → Finds (line_effect hub own line now) (moment_if (searches own (accepted_line hub own line now)) now)
finds-line hub own line now before =
    finds (outcome hub own line now) before ∙ ap (λ b. option_or (moment_if b now) before) (asks-search own (accepted_line hub own line now))

-- ---- what a call does to the last search of a connection

search-one : (is_caller is_searching : Bool) (now : ℕ) (change : Change) (before : Option ℕ) → searched_after change before ≡ option_or (moment_if is_searching now) before
    → searched_after (own_change is_caller change) before ≡ option_or (moment_if (is_caller && is_searching) now) before
search-one true is_searching now change before is = is
search-one false is_searching now change before is = refl

-- no operator changes it
operator-keeps : (at : Option (ℕ × SeatChange)) (a : ConnState) (notes : Notes) → (notes_at at a notes).searched ≡ notes.searched
operator-keeps at a notes = grind arith

-- a line of connection d
line-searched : (setup : Configured) (hash : List ℕ → List ℕ) (f : Facts) (c d : ℕ) (bytes : List ℕ) (now : ℕ)
    → (about_parts d (effect_of_line setup hash f d bytes now) f.about c).sender.notes.searched ≡ option_or (search_in setup hash f c (Line d bytes now)) (f.about c).sender.notes.searched
line-searched setup hash f c d bytes now =
    operator-keeps (change_at (effect_of_line setup hash f d bytes now).change) (f.about c) _
    ∙ search-one (c == d) _ now (effect_of_line setup hash f d bytes now).change (f.about c).sender.notes.searched
    (finds-line (sight_of setup f) (own_of (f.about d)) (prepared_line setup hash (f.about d).sender.challenge bytes) now (f.about c).sender.notes.searched)

-- a connection that leaves does not search
searched-kept : (same : Bool) (before : Option ℕ) → searched_after (own_change same (Sender senders.Falls)) before ≡ before
searched-kept true before = refl
searched-kept false before = refl

-- ---- a connection that has not joined yet never searched

quiet-one : (setup : Configured) (hash : List ℕ → List ℕ) (f : Facts) (c d : ℕ) (bytes : List ℕ) (now : ℕ) (same : Bool) → (c == d) ≡ same → is_over (f.about c).stage ≡ true
    → moment_if (same && searches (own_of (f.about d)) (accepted_line (sight_of setup f) (own_of (f.about d)) (prepared_line setup hash (f.about d).sender.challenge bytes) now)) now ≡ None
quiet-one setup hash f c d bytes now true is over =
    let e : c ≡ d = eqb-true c d is in
    ap (λ said. moment_if (searches (own_of (f.about d)) said) now)
    (unheard (sight_of setup f) (own_of (f.about d)) (prepared_line setup hash (f.about d).sender.challenge bytes) now (subst (λ x. is_over (f.about x).stage ≡ true) e over))
quiet-one setup hash f c d bytes now false is over = refl

-- ---- every call, and every history

module _ {setup : Configured} {hash : List ℕ → List ℕ} {f : Facts} {caller c : ℕ} where
  searched-after : {call : Call} {a : ConnState} → Becomes setup hash f caller c call a → (f.joins < c → (f.about c).sender.notes.searched ≡ None)
      → a.sender.notes.searched ≡ option_or (search_in setup hash f c call) (f.about c).sender.notes.searched
  searched-after (Becomes.joins peer challenge now place is) fresh = sym (fresh (omega (arith, is)))
  searched-after (Becomes.says d bytes now) fresh = line-searched setup hash f c d bytes now
  searched-after (Becomes.quits d) fresh = searched-kept (c == d) (f.about c).sender.notes.searched
  searched-after _ fresh = refl

no-search : (setup : Configured) (hash : List ℕ → List ℕ) (f : Facts) (call : Call) (c : ℕ) → Sound f → f.joins < c → search_in setup hash f c call ≡ None
no-search setup hash f call c sound beyond = grind (arith, quiet-one, over-beyond)

never-searched : (setup : Configured) (hash : List ℕ → List ℕ) (h : List Entry) (c : ℕ) → (facts setup hash h).joins < c → ((facts setup hash h).about c).sender.notes.searched ≡ None
unfolding facts
never-searched setup hash [] c beyond = refl
never-searched setup hash (e ∷ h) c beyond =
    let f : Facts = facts setup hash h in
    let below : f.joins < c = omega (arith, beyond, joins-grow setup hash f e.caller e.call) in
    searched-after (becomes setup hash f e.caller c e.call) (never-searched setup hash h c)
    ∙ ap₂ option_or (no-search setup hash f e.call c (sound_of setup hash h) below) (never-searched setup hash h c below)

pub search_is_the_last : SearchIsTheLast
unfolding facts last_search
search_is_the_last setup hash [] c = refl
search_is_the_last setup hash (e ∷ h) c =
    searched-after (becomes setup hash (facts setup hash h) e.caller c e.call) (never-searched setup hash h c)
    ∙ ap (option_or (search_in setup hash (facts setup hash h) c e.call)) (search_is_the_last setup hash h c)

-- ---- totals

-- two weights that agree along two lists give one sum
sum-same : (weight : Listed → ℕ) (count : ℕ → ℕ) (user : ℕ → Listed) (cs : List ℕ) → ((c : ℕ) → weight (user c) ≡ count c) → sum_by weight (map user cs) ≡ sum_by count cs
sum-same weight count user [] same = refl
sum-same weight count user (c ∷ cs) same =
    sum_by-cons weight (user c) (map user cs) ∙ ap₂ ◌+◌ (same c) (sum-same weight count user cs same) ∙ sym (sum_by-cons count c cs)

listed-amount : (name : List ℕ) (sid : ℕ) (fields : List Field) → amount name (listed_user sid fields).fields ≡ amount name fields
unfolding listed_user
listed-amount name sid fields = refl

sums : (name : List ℕ) (about : ℕ → ConnState) (cs : List ℕ)
    → sum_by (λ (user : Listed). amount name user.fields) (map (user_of about) cs) ≡ sum_by (λ c. amount name (about c).fields) cs
sums name about cs = grind (arith, sum-same, listed-amount)

abbrev totals_of : ℕ → ℕ → ℕ → Totals
totals_of users ss sf = record { users = users; ss = ss; sf = sf }

pub totals_are_sums : TotalsAreSums
totals_are_sums setup hash h =
    let about = (facts setup hash h).about in
    let cs = (facts setup hash h).present in
    ap₂ (λ n s. totals_of n s (sum_by (λ (user : Listed). amount shared_files_name user.fields) (map (user_of about) cs))) (length-map cs (user_of about)) (sums share_size_name about cs)
    ∙ ap (totals_of (length cs) (sum_by (λ c. amount share_size_name (about c).fields) cs)) (sums shared_files_name about cs)
