-- A session on a pass, told in the words of the hub.
use Rattle.std.proofs.Common.{◌≡◌, ◌∙◌, ◌⊎◌, inl, inr, ℕ, List, [], ◌∷◌, ◌++◌, reverse, refl, sym, ap, ap₂, subst, append_assoc}
use Rattle.std.proofs.lemmas.List.{reverse-append}
use Rattle.adc_sessions.specs.declared.ending.End.{End}
use Rattle.adc_sessions.specs.Events.{StreamCall, PortCall, handed, took, refused, port_calls, Runs}
use Rattle.adc_sessions.specs.Served.{Served}
use Rattle.one_history.specs.Histories.{Begins}
use Rattle.one_history.specs.States.{Caller}
use Rattle.one_history.proofs.Starts.{begins_refl, begins_trans}
use Rattle.hub_core.specs.Moves.{entry}
use Rattle.hub_rules.specs.declared.history.Call.{Call}
use Rattle.hub_rules.specs.declared.history.Call.TheVariants.{Line, Quit, Take}
use Rattle.hub_rules.specs.declared.history.Entry.{Entry}
use Rattle.hub_rules.specs.declared.history.Reply.{Reply}
use Rattle.hub_rules.specs.declared.history.Reply.TheVariants.{Said, Took, Left}
use Rattle.hub_rules.specs.Configured.{Configured}
use Rattle.hub_shared.specs.Callers.{PassState, VisitorState}
use Rattle.hub_shared.specs.Calls.{Made, Saw}
use Rattle.hub_connections.specs.Answers.{AreAnswered}
use Rattle.hub_connections.specs.PortCalls.{IsSamePass, Calls, Leaves}
use Rattle.hub_connections.specs.ServedByHub.{ServedByHub, quit_of}

-- one more call, oldest first, stands behind those that were made before
onto : {E : Type 0} (e : E) (later before : List E) → reverse (e ∷ later) ++ before ≡ reverse later ++ e ∷ before
onto e later before = ap (λ (es : List _). es ++ before) (reverse-append (e ∷ []) later) ∙ append_assoc (reverse later) (e ∷ []) before

module _ {H : Type 0} (setup : Configured) (hash : List ℕ → List ℕ) where
  -- the pass after these calls of the hub: its caller has made them, and may have seen more
  pub record Follows (a : PassState H) (calls : List Entry) (b : PassState H) : Type 0 where
    pub home : b.home ≡ a.home
    pub connection : b.connection ≡ a.connection
    pub number : b.caller.number ≡ a.caller.number
    pub mine : b.caller.mine ≡ reverse calls ++ a.caller.mine
    pub begins : Begins b.caller.seen a.caller.seen

  follows-none : (a b : PassState H) → a ≡ b → Follows a [] b
  follows-none a b same = subst (λ x. Follows a [] x) same record {
    home = refl;
    connection = refl;
    number = refl;
    mine = refl;
    begins = begins_refl a.caller.seen;
  }

  follows-made : (a q b : PassState H) (call : Call) (reply : Reply) (calls : List Entry) → IsSamePass setup hash a q → Made setup hash a.caller call reply q.caller
      → Follows q calls b → Follows a (entry a.caller.number call reply ∷ calls) b
  follows-made a q b call reply calls same made later =
      let e = entry a.caller.number call reply in
      record {
        home = later.home ∙ ap (λ (x : PassState H). x.home) same;
        connection = later.connection ∙ ap (λ (x : PassState H). x.connection) same;
        number = later.number ∙ made.number;
        mine = later.mine ∙ ap (λ es. reverse calls ++ es) made.mine ∙ sym (onto e calls a.caller.mine);
        begins = begins_trans b.caller.seen q.caller.seen a.caller.seen later.begins (e ∷ made.last.0, made.last.1);
      }

  follows-looked : (a q b : PassState H) (calls : List Entry) → IsSamePass setup hash a q → q.caller.number ≡ a.caller.number → q.caller.mine ≡ a.caller.mine
      → Begins q.caller.seen a.caller.seen → Follows q calls b → Follows a calls b
  follows-looked a q b calls same number mine begins later = record {
    home = later.home ∙ ap (λ (x : PassState H). x.home) same;
    connection = later.connection ∙ ap (λ (x : PassState H). x.connection) same;
    number = later.number ∙ number;
    mine = later.mine ∙ ap (λ es. reverse calls ++ es) mine;
    begins = begins_trans b.caller.seen q.caller.seen a.caller.seen later.begins begins;
  }

  follows-refused : (a q b : PassState H) (calls : List Entry) → IsSamePass setup hash a q → (q.caller ≡ a.caller) ⊎ Saw setup hash a.caller q.caller
      → Follows q calls b → Follows a calls b
  follows-refused a q b calls same (inl is) later =
      follows-looked a q b calls same (ap (λ (x : Caller Entry). x.number) is) (ap (λ (x : Caller Entry). x.mine) is) ([], ap (λ (x : Caller Entry). x.seen) is) later
  follows-refused a q b calls same (inr saw) later = follows-looked a q b calls same saw.number saw.mine saw.begins later

  refused-number : (a q : PassState H) → (q.caller ≡ a.caller) ⊎ Saw setup hash a.caller q.caller → q.caller.number ≡ a.caller.number
  refused-number a q (inl is) = ap (λ (x : Caller Entry). x.number) is
  refused-number a q (inr saw) = saw.number

  module _ (may_read : ℕ → Type 0) where
    -- the same caller with the same connection
    renamed : (a q : PassState H) (calls : List PortCall) (entries : List Entry) → IsSamePass setup hash a q → q.caller.number ≡ a.caller.number
        → AreAnswered may_read q.caller.number q.connection calls entries → AreAnswered may_read a.caller.number a.connection calls entries
    renamed a q calls entries same number answered =
        let connection : q.connection ≡ a.connection = ap (λ (x : PassState H). x.connection) same in
        subst (λ c. AreAnswered may_read a.caller.number c calls entries) connection
        (subst (λ p. AreAnswered may_read p q.connection calls entries) number answered)

    -- what these calls of a port come to
    pub record Followed (a : PassState H) (calls : List PortCall) (b : PassState H) : Type 0 where
      pub entries : List Entry
      pub answered : AreAnswered may_read a.caller.number a.connection calls entries
      pub follows : Follows a entries b

    followed : (calls : List PortCall) (a b : PassState H) → Runs (Calls setup hash may_read) a calls b → Followed a calls b
    followed [] a b same = record { entries = []; answered = refl; follows = follows-none a b same }
    followed (handed line verdict ∷ calls) a b h =
        let next = followed calls h.0 b h.2 in
        let now = h.1.1.0 in
        let made = h.1.1.2 in
        record {
          entries = entry a.caller.number (Line a.connection line now) (Said verdict) ∷ next.entries;
          answered = (now, next.entries, h.1.1.1, refl, renamed a h.0 calls next.entries h.1.0 made.number next.answered);
          follows = follows-made a h.0 b (Line a.connection line now) (Said verdict) next.entries h.1.0 made next.follows;
        }
    followed (took count bytes taken ∷ calls) a b h =
        let next = followed calls h.0 b h.2 in
        let made = h.1.1 in
        let reply = Took bytes taken.lines taken.ended in
        record {
          entries = entry a.caller.number (Take a.connection count) reply ∷ next.entries;
          answered = (next.entries, refl, renamed a h.0 calls next.entries h.1.0 made.number next.answered);
          follows = follows-made a h.0 b (Take a.connection count) reply next.entries h.1.0 made next.follows;
        }
    followed (refused ∷ calls) a b h =
        let next = followed calls h.0 b h.2 in
        record {
          entries = next.entries;
          answered = renamed a h.0 calls next.entries h.1.0 (refused-number a h.0 h.1.1) next.answered;
          follows = follows-refused a h.0 b next.entries h.1.0 h.1.1 next.follows;
        }

    module _ {S : Type 0} (reports : S → StreamCall → S → Type 0) where
      -- a session on a pass, told in the words of the hub
      pub told-by_hub : (stream : S) (pass : PassState H) (end : End) (stream' : S) (visitor : VisitorState H)
          → Served reports (Calls setup hash may_read) (Leaves setup hash) stream pass end stream' visitor → ServedByHub setup hash reports may_read stream pass end stream' visitor
      told-by_hub stream pass end stream' visitor served =
          let last = served.port' in
          let f = followed (port_calls served.events) pass last served.called in
          let left = served.quit.1 in
          let follows = f.follows in
          let quits : entry last.caller.number (Quit last.connection) Left ≡ quit_of pass = ap₂ (λ n d. entry n (Quit d) Left) follows.number follows.connection in
          record {
            events = served.events;
            conversed = served.conversed;
            calls = f.entries;
            answered = f.answered;
            home = served.quit.0 ∙ follows.home;
            number = left.number ∙ follows.number;
            mine = left.mine ∙ ap₂ (λ e (es : List Entry). e ∷ es) quits follows.mine;
            seen = (
              left.last.0 ++ follows.begins.0,
              left.last.1 ∙ ap₂ (λ e (es : List Entry). e ∷ left.last.0 ++ es) quits follows.begins.1
                  ∙ ap (λ es. quit_of pass ∷ es) (sym (append_assoc left.last.0 follows.begins.0 pass.caller.seen)),
            );
            legal = left.legal;
            own = left.own;
          }

-- a port that has a pass, and a key that no call changes, by which its hub is known
module _ {H P Rest K : Type 0} (may_read : ℕ → Type 0) (step : P → PortCall → P → Type 0) (leaves : P → Rest → Type 0)
    (key : P → K) (setup : K → Configured) (hash : K → List ℕ → List ℕ) (pass : P → PassState H) (visitor : Rest → VisitorState H)
    (steps : (a b : P) (call : PortCall) → step a call b → (key b ≡ key a) × Calls (setup (key a)) (hash (key a)) may_read (pass a) call (pass b))
    (quits : (a : P) (left : Rest) → leaves a left → Leaves (setup (key a)) (hash (key a)) (pass a) (visitor left)) (now : K) where
  record OnPass (a : P) (calls : List PortCall) (b : P) : Type 0 where
    pub called : Runs (Calls (setup now) (hash now) may_read) (pass a) calls (pass b)
    pub kept : key b ≡ now

  on-pass : (calls : List PortCall) (a b : P) → key a ≡ now → Runs step a calls b → OnPass a calls b
  on-pass [] a b is same = record { called = ap pass same; kept = ap key (sym same) ∙ is }
  on-pass (call ∷ calls) a b is h =
      let made = steps a h.0 call h.1 in
      let next = on-pass calls h.0 b (made.0 ∙ is) h.2 in
      let by_hub = subst (λ (k : K). Calls (setup k) (hash k) may_read (pass a) call (pass h.0)) is made.1 in
      record { called = (pass h.0, by_hub, next.called); kept = next.kept }

  on-hub : {S : Type 0} (reports : S → StreamCall → S → Type 0) (stream : S) (port : P) (end : End) (stream' : S) (left : Rest) → key port ≡ now
      → Served reports step leaves stream port end stream' left → ServedByHub (setup now) (hash now) reports may_read stream (pass port) end stream' (visitor left)
  on-hub reports stream port end stream' left is served =
      let on = on-pass (port_calls served.events) port served.port' is served.called in
      told-by_hub (setup now) (hash now) may_read reports stream (pass port) end stream' (visitor left) record {
        events = served.events;
        conversed = served.conversed;
        port' = pass served.port';
        called = on.called;
        quit = subst (λ (k : K). Leaves (setup k) (hash k) (pass served.port') (visitor left)) on.kept (quits served.port' left served.quit);
      }

pub served-by_hub : {H S P Rest K : Type 0} {reports : S → StreamCall → S → Type 0} {step : P → PortCall → P → Type 0} {leaves : P → Rest → Type 0}
    {stream : S} {port : P} {end : End} {stream' : S} {left : Rest} → Served reports step leaves stream port end stream' left
    → (may_read : ℕ → Type 0) (key : P → K) (setup : K → Configured) (hash : K → List ℕ → List ℕ) (pass : P → PassState H) (visitor : Rest → VisitorState H)
    → ((a b : P) (call : PortCall) → step a call b → (key b ≡ key a) × Calls (setup (key a)) (hash (key a)) may_read (pass a) call (pass b))
    → ((a : P) (rest : Rest) → leaves a rest → Leaves (setup (key a)) (hash (key a)) (pass a) (visitor rest))
    → (now : K) → key port ≡ now → (p : PassState H) → pass port ≡ p
    → ServedByHub (setup now) (hash now) reports may_read stream p end stream' (visitor left)
served-by_hub {reports} {step} {leaves} {stream} {port} {end} {stream'} {left} served may_read key setup hash pass visitor steps quits now is p is_pass =
    subst (λ q. ServedByHub (setup now) (hash now) reports may_read stream q end stream' (visitor left)) is_pass
    (on-hub may_read step leaves key setup hash pass visitor steps quits now reports stream port end stream' left is served)
