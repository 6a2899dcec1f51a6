-- A ban is held only where there is room for it, and stands at its place.
use Rattle.std.proofs.Common.{◌≡◌, ◌∙◌, ap, refl, ℕ, ◌+◌, ◌≤◌, Bool, true, false, cond, not, ◌&&◌, List, [], ◌∷◌, length, nat_le, arith, Some, None, is_some}
use Rattle.std.specs.Ordering.{is_eq, match_ordering, ordering_reverse}
use Rattle.std.specs.declared.cmp.Ordering.{Ordering}
use Rattle.std.specs.declared.cmp.Ordering.TheVariants.{Less, Equal, Greater}
use Rattle.std.specs.List.Sorted.{IsStrictlySortedBy}
use Rattle.std.specs.Map.{keys_of}
use Rattle.std.specs.BTreeMap.{is_at}
use Rattle.std.proofs.lemmas.Cmp.{nat_list_cmp_total}
use Rattle.std.proofs.lemmas.Map.Keys.{sorted_head, sorted_tail}
use Rattle.hub_laws.proofs.Words.{AllByRecursion, Ban, ban_on, cid_cmp, is_full, max_bans, with_ban, without_ban}

-- ---- one more ban, and one less, at its place

above-with : (P : List ℕ → Type 0) (bans : List (List ℕ × Ban)) (cid : List ℕ) (ban : Ban) → AllByRecursion P (keys_of bans) → P cid → AllByRecursion P (keys_of (with_ban bans cid ban))
above-with P [] cid ban all one = (one, tt)
above-with P (e ∷ es) cid ban all one =
    let go : (o : Ordering) → AllByRecursion P (keys_of (match_ordering o ((cid, ban) ∷ e ∷ es) ((e.0, ban) ∷ es) (e ∷ with_ban es cid ban))) =
    elim [
      | Less ↦ (one, all)
      | Equal ↦ all
      | Greater ↦ (all.0, above-with P es cid ban all.1 one)
    ] in
    go (cid_cmp cid e.0)

all-above : (low high : List ℕ) (keys : List (List ℕ)) → cid_cmp low high ≡ Less → AllByRecursion (λ (k : List ℕ). cid_cmp high k ≡ Less) keys
    → AllByRecursion (λ (k : List ℕ). cid_cmp low k ≡ Less) keys
all-above low high [] below all = tt
all-above low high (k ∷ keys) below all = (nat_list_cmp_total.trans low high k below all.0, all-above low high keys below all.1)

turned-about : (cid key : List ℕ) → cid_cmp cid key ≡ Greater → cid_cmp key cid ≡ Less
turned-about cid key is = nat_list_cmp_total.antisymm key cid ∙ ap ordering_reverse is

sorted-cons : (k : List ℕ) (keys : List (List ℕ)) → AllByRecursion (λ (y : List ℕ). cid_cmp k y ≡ Less) keys → IsStrictlySortedBy cid_cmp keys → IsStrictlySortedBy cid_cmp (k ∷ keys)
unfolding IsStrictlySortedBy
sorted-cons k keys above sorted = (above, sorted)

sorted-nil : IsStrictlySortedBy cid_cmp []
unfolding IsStrictlySortedBy
sorted-nil = tt

sorted-with : (bans : List (List ℕ × Ban)) (cid : List ℕ) (ban : Ban) → IsStrictlySortedBy cid_cmp (keys_of bans) → IsStrictlySortedBy cid_cmp (keys_of (with_ban bans cid ban))
sorted-with [] cid ban sorted = sorted-cons cid [] tt sorted
sorted-with (e ∷ es) cid ban sorted =
    let head = sorted_head cid_cmp e.0 (keys_of es) sorted in
    let tail = sorted_tail cid_cmp e.0 (keys_of es) sorted in
    let go : (o : Ordering) → cid_cmp cid e.0 ≡ o
    → IsStrictlySortedBy cid_cmp (keys_of (match_ordering o ((cid, ban) ∷ e ∷ es) ((e.0, ban) ∷ es) (e ∷ with_ban es cid ban))) =
    elim [
      | Less ↦ λ is. sorted-cons cid (e.0 ∷ keys_of es) (is, all-above cid e.0 (keys_of es) is head) sorted
      | Equal ↦ λ is. sorted
      | Greater ↦ λ is. sorted-cons e.0 (keys_of (with_ban es cid ban)) (above-with (λ (y : List ℕ). cid_cmp e.0 y ≡ Less) es cid ban head (turned-about cid e.0 is)) (sorted-with es cid ban tail)
    ] in
    go (cid_cmp cid e.0) refl

absent : (cid : List ℕ) (bans : List (List ℕ × Ban)) → AllByRecursion (λ (k : List ℕ). cid_cmp cid k ≡ Less) (keys_of bans) → ban_on bans cid ≡ None
absent cid [] above = refl
absent cid (e ∷ es) above = ap (λ b. cond b (Some e.1) (ban_on es cid)) (ap is_eq above.0) ∙ absent cid es above.1

-- how many more they are
abbrev bans_added : Bool → ℕ
bans_added true = 0
bans_added false = 1

length-with : (bans : List (List ℕ × Ban)) (cid : List ℕ) (ban : Ban) → IsStrictlySortedBy cid_cmp (keys_of bans)
    → length (with_ban bans cid ban) ≡ length bans + bans_added (is_some (ban_on bans cid))
length-with [] cid ban sorted = refl
length-with (e ∷ es) cid ban sorted =
    let head = sorted_head cid_cmp e.0 (keys_of es) sorted in
    let tail = sorted_tail cid_cmp e.0 (keys_of es) sorted in
    let go : (o : Ordering) → cid_cmp cid e.0 ≡ o
    → length (match_ordering o ((cid, ban) ∷ e ∷ es) ((e.0, ban) ∷ es) (e ∷ with_ban es cid ban)) ≡ length (e ∷ es) + bans_added (is_some (cond (is_eq o) (Some e.1) (ban_on es cid))) =
    elim [
      | Less ↦ λ is. let none : ban_on es cid ≡ None = absent cid es (all-above cid e.0 (keys_of es) is head) in omega (arith, ap (λ o. bans_added (is_some o)) none)
      | Equal ↦ λ is. omega arith
      | Greater ↦ λ is. omega (arith, length-with es cid ban tail)
    ] in
    go (cid_cmp cid e.0) refl

keep-all : (P : List ℕ → Type 0) (cid : List ℕ) (bans : List (List ℕ × Ban)) → AllByRecursion P (keys_of bans) → AllByRecursion P (keys_of (without_ban bans cid))
keep-all P cid [] all = tt
keep-all P cid (e ∷ es) all =
    let go : (b : Bool) → AllByRecursion P (keys_of (cond b (e ∷ without_ban es cid) (without_ban es cid))) =
    elim [
      | true ↦ (all.0, keep-all P cid es all.1)
      | false ↦ keep-all P cid es all.1
    ] in
    go (not (is_at (cid_cmp cid) e.0))

sorted-without : (bans : List (List ℕ × Ban)) (cid : List ℕ) → IsStrictlySortedBy cid_cmp (keys_of bans) → IsStrictlySortedBy cid_cmp (keys_of (without_ban bans cid))
sorted-without [] cid sorted = sorted
sorted-without (e ∷ es) cid sorted =
    let head = sorted_head cid_cmp e.0 (keys_of es) sorted in
    let rest = sorted-without es cid (sorted_tail cid_cmp e.0 (keys_of es) sorted) in
    let go : (b : Bool) → IsStrictlySortedBy cid_cmp (keys_of (cond b (e ∷ without_ban es cid) (without_ban es cid))) =
    elim [
      | true ↦ sorted-cons e.0 (keys_of (without_ban es cid)) (keep-all (λ (y : List ℕ). cid_cmp e.0 y ≡ Less) cid es head) rest
      | false ↦ rest
    ] in
    go (not (is_at (cid_cmp cid) e.0))

length-without : (bans : List (List ℕ × Ban)) (cid : List ℕ) → length (without_ban bans cid) ≤ length bans
length-without [] cid = omega arith
length-without (e ∷ es) cid =
    let rest : length (without_ban es cid) ≤ length es = length-without es cid in
    let go : (b : Bool) → length (cond b (e ∷ without_ban es cid) (without_ban es cid)) ≤ length (e ∷ es) =
    elim [
      | true ↦ omega (arith, rest)
      | false ↦ omega (arith, rest)
    ] in
    go (not (is_at (cid_cmp cid) e.0))

-- ---- they are few, and apart

pub record AreHeld (bans : List (List ℕ × Ban)) : Type 0 where
  pub few : length bans ≤ max_bans
  pub apart : IsStrictlySortedBy cid_cmp (keys_of bans)

few-with : (found full : Bool) (n m : ℕ) → m ≡ n + bans_added found → (not found && full) ≡ false → nat_le max_bans n ≡ full → n ≤ max_bans → m ≤ max_bans
few-with found full n m is room tells few = grind arith

pub held-with : (bans : List (List ℕ × Ban)) (cid : List ℕ) (ban : Ban) → is_full bans cid ≡ false → AreHeld bans → AreHeld (with_ban bans cid ban)
held-with bans cid ban room held = grind (arith, few-with, length-with, sorted-with)

pub held-without : (bans : List (List ℕ × Ban)) (cid : List ℕ) → AreHeld bans → AreHeld (without_ban bans cid)
held-without bans cid held = record { few = omega (arith, length-without bans cid, held.few); apart = sorted-without bans cid held.apart }

pub held-none : AreHeld []
held-none = record { few = omega arith; apart = sorted-nil }
