-- A search that went out came at least the interval after the last.
use Rattle.std.proofs.Common.{◌≡◌, ◌∙◌, sym, ap, refl, ℕ, ◌-◌, ◌≤◌, Bool, true, not, ◌&&◌, ◌⊎◌, inl, inr, ◌==◌, List, [], ◌∷◌, ◌++◌, Option, Some, None, arith}
use Rattle.std.specs.Prelude.{if◌then◌else◌}
use Rattle.std.specs.Option.{option_or}
use Rattle.std.proofs.lemmas.Bool.{leb-true}
use Rattle.search_pass.specs.Searches.{may_search}
use Rattle.hub_rules.specs.Denied.{is_search_due}
use Rattle.hub_rules.specs.declared.plain_options.PlainOptions.{PlainOptions}
use Rattle.hub_laws.proofs.Words.{Call, Configured, Entry, Facts, Join, Line, SenderView, PreparedLine, Quit, Reading, Request, HubView, Take, accepted_line, and_parts, eqb-true, facts, later-none, own_of}
use Rattle.hub_laws.proofs.Words.{prepared_line, refusal_of, request_denied, request_of, sight_of}
use Rattle.hub_laws.proofs.Words.denials
use Rattle.hub_laws.proofs.Words.requests
use Rattle.hub_laws.specs.Intervals.{SearchesAreApart}
use Rattle.hub_laws.specs.Searched.{is_search, last_search, moment_if, search_in, searches}
use Rattle.hub_laws.proofs.SenderOrder.{is-accepted}
use Rattle.hub_laws.proofs.Searches.{search_is_the_last}

-- ---- a search that went out was not too soon

moment-is : (b : Bool) (now moment : ℕ) → moment_if b now ≡ Some moment → (b ≡ true) × (now ≡ moment)
moment-is b now moment is = grind arith

search-asked : (request : Request) → is_search request ≡ true → request ≡ requests.Search
search-asked request is = grind arith

not-soon : (due : Bool) → (if not due then Some denials.SearchSoon else None) ≡ None → due ≡ true
not-soon due is = grind arith

by-request : (hub : HubView) (own : SenderView) (line : PreparedLine) (now : ℕ) (reading : Reading) (request : Request) → request ≡ requests.Search
    → request_denied hub own line now reading request ≡ None → is_search_due hub.setup.plain own.sender.notes.searched now ≡ true
unfolding request_denied
by-request hub own line now reading request is none =
    not-soon (is_search_due hub.setup.plain own.sender.notes.searched now) (sym (ap (request_denied hub own line now reading) is) ∙ none)

by-said : (hub : HubView) (own : SenderView) (line : PreparedLine) (now : ℕ) (said : Option Reading) → accepted_line hub own line now ≡ said → searches own said ≡ true
    → is_search_due hub.setup.plain own.sender.notes.searched now ≡ true
by-said hub own line now (Some reading) is asks =
    by-request hub own line now reading _ (search-asked (request_of own.stage reading.kind reading.command) asks)
    (later-none (refusal_of own.stage own.sender.sid reading) _ (is-accepted hub own line now reading is).allowed)
by-said hub own line now None is asks = let no : ⊥ = cc asks in absurd no

no-moment : {moment : ℕ} → None ≡ Some moment → ⊥
no-moment is = cc is

went-out : (setup : Configured) (hash : List ℕ → List ℕ) (f : Facts) (c : ℕ) (call : Call) (moment : ℕ) → search_in setup hash f c call ≡ Some moment
    → is_search_due setup.plain (f.about c).sender.notes.searched moment ≡ true
went-out setup hash f c (Line d bytes now) moment is =
    let at = moment-is ((c == d) && searches (own_of (f.about d)) (accepted_line (sight_of setup f) (own_of (f.about d)) (prepared_line setup hash (f.about d).sender.challenge bytes) now)) now moment is in
    let parts = and_parts (c == d) _ at.0 in
    ap (λ x. is_search_due setup.plain (f.about x).sender.notes.searched moment) (eqb-true c d parts.0)
    ∙ ap (λ n. is_search_due setup.plain (f.about d).sender.notes.searched n) (sym at.1)
    ∙ by-said (sight_of setup f) (own_of (f.about d)) (prepared_line setup hash (f.about d).sender.challenge bytes) now _ refl parts.1
went-out setup hash f c (Join peer challenge now) moment is = absurd (no-moment is)
went-out setup hash f c (Quit d) moment is = absurd (no-moment is)
went-out setup hash f c (Take d count) moment is = absurd (no-moment is)

due-apart : (plain : PlainOptions) (last : Option ℕ) (now : ℕ) → is_search_due plain last now ≡ true → may_search last now plain.search_interval ≡ true
due-apart plain last now due = grind arith

-- ---- the last search since one

-- a search is the last, or one that came the interval later
record IsSince (interval moment : ℕ) (last : Option ℕ) : Type 0 where
  before : ℕ
  is : last ≡ Some before
  apart : (before ≡ moment) ⊎ (interval ≤ before - moment)

passed : (interval moment before now : ℕ) → interval ≤ now - before → (before ≡ moment) ⊎ (interval ≤ before - moment) → interval ≤ now - moment
passed interval moment before now later (inl same) = omega (arith, later, same)
passed interval moment before now later (inr since) = omega (arith, later, since)

since-then : (interval moment now : ℕ) (last : Option ℕ) → may_search last now interval ≡ true → IsSince interval moment last → interval ≤ now - moment
since-then interval moment now last may since =
    passed interval moment since.before now (leb-true interval (now - since.before) (ap (λ o. may_search o now interval) (sym since.is) ∙ may)) since.apart

since-next : (interval moment : ℕ) (found last : Option ℕ) → ((now : ℕ) → found ≡ Some now → may_search last now interval ≡ true) → IsSince interval moment last
    → IsSince interval moment (option_or found last)
since-next interval moment None last may since = since
since-next interval moment (Some now) last may since = record { before = now; is = refl; apart = inr (since-then interval moment now last (may now refl) since) }

module _ (setup : Configured) (hash : List ℕ → List ℕ) (c : ℕ) where
  may-by : (h : List Entry) (e : Entry) (now : ℕ) → search_in setup hash (facts setup hash h) c e.call ≡ Some now
      → may_search (last_search setup hash h c) now setup.plain.search_interval ≡ true
  may-by h e now is =
      due-apart setup.plain (last_search setup hash h c) now
      (ap (λ last. is_search_due setup.plain last now) (sym (search_is_the_last setup hash h c)) ∙ went-out setup hash (facts setup hash h) c e.call now is)

  since : (between h : List Entry) (first : Entry) (moment : ℕ) → search_in setup hash (facts setup hash h) c first.call ≡ Some moment
      → IsSince setup.plain.search_interval moment (last_search setup hash (between ++ (first ∷ h)) c)
  unfolding last_search
  since [] h first moment is = record { before = moment; is = ap (λ o. option_or o (last_search setup hash h c)) is; apart = inl refl }
  since (e ∷ between) h first moment is =
      since-next setup.plain.search_interval moment _ _ (may-by (between ++ (first ∷ h)) e) (since between h first moment is)

pub searches_are_apart : SearchesAreApart
searches_are_apart setup hash between h first second c moment later first-out second-out =
    since-then setup.plain.search_interval moment later _ (may-by setup hash c (between ++ (first ∷ h)) second later second-out) (since setup hash c between h first moment first-out)
