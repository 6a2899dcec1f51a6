-- An entry owes a connection its share, unless it lags.
use Rattle.std.proofs.Common.{◌≡◌, ◌∙◌, sym, ap, refl, subst, ℕ, Bool, true, false, not, List, [], ◌∷◌, ◌++◌, append-nil, cond, arith}
use Rattle.hub_laws.proofs.Words.{Configured, Entry, all_fit, facts, lags, lines_owed, share}
use Rattle.hub_laws.specs.Owed.{IsOwed}
use Rattle.hub_laws.proofs.Lag.{lag_is_the_first}
use Rattle.hub_laws.proofs.SenderOrder.{added-is, not-false, owed_grows}

not-true : (b : Bool) → not b ≡ true → b ≡ false
not-true b is = grind arith

pub is-owed : (setup : Configured) (hash : List ℕ → List ℕ) (h : List Entry) (e : Entry) (d : ℕ) → IsOwed setup hash h e d (share setup hash (facts setup hash h) d e.call)
is-owed setup hash h e d =
    let all : Bool = all_fit setup hash (e ∷ h) d in
    let lag : lags setup hash (e ∷ h) d ≡ not all = lag_is_the_first setup hash (e ∷ h) d in
    let with_added : lines_owed setup hash (e ∷ h) d ≡ lines_owed setup hash h d ++ cond all (share setup hash (facts setup hash h) d e.call) [] =
    owed_grows setup hash h e d ∙ ap (λ ls. lines_owed setup hash h d ++ ls) (added-is setup hash h e d) in
    record {
      told = λ fine. with_added ∙ ap (λ b. lines_owed setup hash h d ++ cond b (share setup hash (facts setup hash h) d e.call) []) (not-false all (sym lag ∙ fine));
      lagging = λ late. with_added ∙ ap (λ b. lines_owed setup hash h d ++ cond b (share setup hash (facts setup hash h) d e.call) []) (not-true all (sym lag ∙ late))
          ∙ append-nil (lines_owed setup hash h d);
    }

-- what it owes is what its call shares out
pub owed-as : (setup : Configured) (hash : List ℕ → List ℕ) (h : List Entry) (e : Entry) (d : ℕ) (lines : List (List ℕ)) → share setup hash (facts setup hash h) d e.call ≡ lines
    → IsOwed setup hash h e d lines
owed-as setup hash h e d lines is = subst (IsOwed setup hash h e d) is (is-owed setup hash h e d)

-- one that is owed no lines is owed what it was owed before, whether it lags or not
by-lag : (setup : Configured) (hash : List ℕ → List ℕ) (h : List Entry) (e : Entry) (d : ℕ) → IsOwed setup hash h e d [] → (b : Bool) → lags setup hash (e ∷ h) d ≡ b
    → lines_owed setup hash (e ∷ h) d ≡ lines_owed setup hash h d
by-lag setup hash h e d owed true is = owed.lagging is
by-lag setup hash h e d owed false is = owed.told is ∙ append-nil (lines_owed setup hash h d)

pub owed-nothing : (setup : Configured) (hash : List ℕ → List ℕ) (h : List Entry) (e : Entry) (d : ℕ) → share setup hash (facts setup hash h) d e.call ≡ []
    → lines_owed setup hash (e ∷ h) d ≡ lines_owed setup hash h d
owed-nothing setup hash h e d is = by-lag setup hash h e d (owed-as setup hash h e d [] is) (lags setup hash (e ∷ h) d) refl
