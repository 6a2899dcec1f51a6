-- No two users who are present have the same nick, or the same client identifier.
use Rattle.std.specs.Prelude.{◌≡◌, ◌≤◌, ℕ, true, List}
use Rattle.inf_fields.specs.Field.{Field}
use Rattle.hub_rules.specs.declared.history.Entry.{Entry}
use Rattle.hub_rules.specs.Configured.{most_users, Configured}
use Rattle.hub_rules.specs.History.{info, present}
use Rattle.hub_rules.specs.Identities.{cid_in, key_in}
use Rattle.hub_invariants.specs.Promises.{is_in}

-- two users who are present differ in this
abbrev pub DifferIn : (List Field → List ℕ) → Type 0
DifferIn of =
    (setup : Configured) (hash : List ℕ → List ℕ) (h : List Entry) → setup.plain.max_users ≤ most_users → (c d : ℕ) → is_in c (present setup hash h) ≡ true → is_in d (present setup hash h) ≡ true
    → of (info setup hash h c) ≡ of (info setup hash h d) → c ≡ d

-- nicks are compared by their normal forms C
abbrev pub NicksDiffer : Type 0
NicksDiffer = DifferIn key_in

abbrev pub CidsDiffer : Type 0
CidsDiffer = DifferIn cid_in
