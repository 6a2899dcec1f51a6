-- What a connection is owed grows by entries, in their order.
use Rattle.std.proofs.Common.{◌≡◌, ◌∙◌, sym, ap, refl, ℕ, Bool, false, ◌&&◌, ◌==◌, List, [], ◌∷◌, ◌++◌, append-nil, append_assoc, cond, arith}
use Rattle.hub_laws.proofs.Words.{Call, Configured, Effect, Entry, Facts, Join, Line, Quit, Take, all_fit, departure, effect_of_line, facts, hears_those, is_present, lines_owed, share}
use Rattle.hub_laws.specs.CommonOrder.{AllHearInOneOrder, AllHearTheSame}
use Rattle.hub_laws.specs.SenderOrder.{is_of, lines_added}
use Rattle.hub_laws.proofs.SenderOrder.{added-is, owed_grows}
use Rattle.hub_laws.proofs.Outsiders.{other-way}

-- ---- one order

-- what is owed after more entries: more behind what was owed before
behind : (setup : Configured) (hash : List ℕ → List ℕ) (later h : List Entry) (d : ℕ) → (more : List (List ℕ)) × (lines_owed setup hash (later ++ h) d ≡ lines_owed setup hash h d ++ more)
behind setup hash [] h d = ([], sym (append-nil (lines_owed setup hash h d)))
behind setup hash (e ∷ later) h d =
    let rest = behind setup hash later h d in (
      rest.0 ++ lines_added setup hash (later ++ h) e d,
      owed_grows setup hash (later ++ h) e d ∙ ap (λ ls. ls ++ lines_added setup hash (later ++ h) e d) rest.1
          ∙ append_assoc (lines_owed setup hash h d) rest.0 (lines_added setup hash (later ++ h) e d),
    )

four : (a b c d e : List (List ℕ)) → (((a ++ b) ++ c) ++ d) ++ e ≡ a ++ b ++ c ++ d ++ e
four a b c d e = grind (arith, append_assoc)

pub all_hear_in_one_order : AllHearInOneOrder
all_hear_in_one_order setup hash later between h first second d =
    let amid = behind setup hash between (first ∷ h) d in
    let last = behind setup hash later (second ∷ (between ++ (first ∷ h))) d in (
      lines_owed setup hash h d,
      amid.0,
      last.0,
      last.1
          ∙ ap (λ ls. ls ++ last.0) (owed_grows setup hash (between ++ (first ∷ h)) second d
          ∙ ap (λ ls. ls ++ lines_added setup hash (between ++ (first ∷ h)) second d) (amid.1 ∙ ap (λ ls. ls ++ amid.0) (owed_grows setup hash h first d)))
          ∙ four (lines_owed setup hash h d) (lines_added setup hash h first d) amid.0 (lines_added setup hash (between ++ (first ∷ h)) second d) last.0,
    )

-- ---- the same lines

-- what another's call shares out to a connection: what its effect tells others, or nothing
others-by : (same here : Bool) (own others : List (List ℕ)) → same ≡ false → (cond here others [] ++ cond same own []) ≡ cond here others []
others-by same here own others other = ap (λ b. cond here others [] ++ cond b own []) other ∙ append-nil (cond here others [])

-- what a call tells others
abbrev news : Configured → (List ℕ → List ℕ) → Facts → Call → List (List ℕ)
news setup hash f (Line c bytes now) = (effect_of_line setup hash f c bytes now).others
news setup hash f (Quit c) = (departure (f.about c).stage (f.about c).sender.sid).others
news setup hash f call = []

share-news : (setup : Configured) (hash : List ℕ → List ℕ) (f : Facts) (call : Call) (d : ℕ) → is_of d call ≡ false → (here : Bool) × (share setup hash f d call ≡ cond here (news setup hash f call) [])
share-news setup hash f (Line c bytes now) d other =
    let effect : Effect = effect_of_line setup hash f c bytes now in
    (is_present (f.about d).stage && hears_those (d == c) effect.hearers (f.about d), others-by (d == c) _ effect.own effect.others (other-way c d other))
share-news setup hash f (Quit c) d other =
    let effect : Effect = departure (f.about c).stage (f.about c).sender.sid in
    (is_present (f.about d).stage && hears_those (d == c) effect.hearers (f.about d), others-by (d == c) _ effect.own effect.others (other-way c d other))
share-news setup hash f (Join peer challenge now) d other = (false, refl)
share-news setup hash f (Take c count) d other = (false, refl)

-- something is the whole
whole : (fit here : Bool) (lines plus share : List (List ℕ)) → plus ≡ cond fit share [] → share ≡ cond here lines [] → (plus ≡ [] → ⊥) → plus ≡ lines
whole fit here lines plus share is shares some = grind arith

pub all_hear_the_same : AllHearTheSame
all_hear_the_same setup hash h e c d other-c other-d some-c some-d =
    let f : Facts = facts setup hash h in
    let shares-c = share-news setup hash f e.call c other-c in
    let shares-d = share-news setup hash f e.call d other-d in
    whole (all_fit setup hash (e ∷ h) c) shares-c.0 (news setup hash f e.call) _ _ (added-is setup hash h e c) shares-c.1 some-c
    ∙ sym (whole (all_fit setup hash (e ∷ h) d) shares-d.0 (news setup hash f e.call) _ _ (added-is setup hash h e d) shares-d.1 some-d)
