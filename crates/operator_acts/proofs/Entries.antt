-- Look-ups after one more ban and after one less.
use Rattle.std.proofs.Common.{◌≡◌, ◌∙◌, sym, ap, ap₂, refl, ℕ, Bool, true, false, cond, not, List, [], ◌∷◌, Option, Some, None}
use Rattle.std.specs.Prelude.{bytes_eq}
use Rattle.std.specs.Ordering.{nat_cmp, is_eq, match_ordering}
use Rattle.std.specs.declared.cmp.Ordering.{Ordering}
use Rattle.std.specs.declared.cmp.Ordering.TheVariants.{Less, Equal, Greater}
use Rattle.std.specs.List.{AllByRecursion}
use Rattle.std.specs.List.Sorted.{IsStrictlySortedBy}
use Rattle.std.specs.Map.{keys_of, remove_entry}
use Rattle.std.specs.BTreeMap.{is_at}
use Rattle.std.proofs.lemmas.Bool.{false≢true}
use Rattle.std.proofs.lemmas.Bool.Decides.{nat_tests}
use Rattle.std.proofs.lemmas.Cmp.{same_from_slice_cmp, tied_itself, nat_list_cmp_total}
use Rattle.std.proofs.lemmas.Map.Keys.{sorted_head, sorted_tail}
use Rattle.std.proofs.lemmas.Map.Lookups.{exact_bytes}
use Rattle.std.proofs.Common.{arith, subst}
use Rattle.operator_acts.specs.declared.ban.Ban.{Ban}
use Rattle.operator_acts.specs.Bans.{cid_cmp, ban_on, with_ban, without_ban}

-- `==` and the order agree
pub equal-bytes : (x y : List ℕ) → is_eq (cid_cmp x y) ≡ bytes_eq x y
equal-bytes x y = same_from_slice_cmp nat_cmp is_eq bytes_eq refl (λ _ _. refl) (λ _ _. refl) (λ x y xs ys o h. grind (arith, nat_tests)) x y _ refl

equal-from : (o : Ordering) → is_eq o ≡ true → o ≡ Equal
equal-from Less e = absurd (false≢true e)
equal-from Equal e = refl
equal-from Greater e = absurd (false≢true e)

same-cid : (x y : List ℕ) → is_eq (cid_cmp x y) ≡ true → x ≡ y
same-cid x y e = exact_bytes x y (equal-from (cid_cmp x y) e)

cond-twice : {X : Type 0} (b : Bool) (x y z : X) → cond b x z ≡ cond b x (cond b y z)
cond-twice true x y z = refl
cond-twice false x y z = refl

nothing-both : {X : Type 0} (b : Bool) (x : X) → x ≡ cond b x x
nothing-both true x = refl
nothing-both false x = refl

-- an entry before the place of a client identifier is not its own
past : (q cid : List ℕ) (e : List ℕ × Ban) (ban : Ban) (rest : Option Ban) → cid_cmp cid e.0 ≡ Greater
    → cond (is_eq (cid_cmp q e.0)) (Some e.1) (cond (is_eq (cid_cmp q cid)) (Some ban) rest) ≡ cond (is_eq (cid_cmp q cid)) (Some ban) (cond (is_eq (cid_cmp q e.0)) (Some e.1) rest)
past q cid e ban rest is =
    let go : (b c : Bool) → is_eq (cid_cmp q cid) ≡ b → is_eq (cid_cmp q e.0) ≡ c → cond c (Some e.1) (cond b (Some ban) rest) ≡ cond b (Some ban) (cond c (Some e.1) rest) =
    elim [
      | true ↦ elim [
        | true ↦ λ is-q is-e.
            absurd (false≢true (ap is_eq (sym is) ∙ ap (λ k. is_eq (cid_cmp k e.0)) (sym (same-cid q cid is-q)) ∙ is-e))
        | false ↦ λ is-q is-e. refl
      ]
      | false ↦ elim [
        | true ↦ λ is-q is-e. refl
        | false ↦ λ is-q is-e. refl
      ]
    ] in
    go (is_eq (cid_cmp q cid)) (is_eq (cid_cmp q e.0)) refl refl

-- one more ban
pub ban_on-with_ban : (bans : List (List ℕ × Ban)) (cid : List ℕ) (ban : Ban) (q : List ℕ) → ban_on (with_ban bans cid ban) q ≡ cond (is_eq (cid_cmp q cid)) (Some ban) (ban_on bans q)
ban_on-with_ban [] cid ban q = refl
ban_on-with_ban (e ∷ es) cid ban q =
    let old : Option Ban = cond (is_eq (cid_cmp q e.0)) (Some e.1) (ban_on es q) in
    let go : (o : Ordering) → cid_cmp cid e.0 ≡ o
    → ban_on (match_ordering o ((cid, ban) ∷ e ∷ es) ((e.0, ban) ∷ es) (e ∷ with_ban es cid ban)) q ≡ cond (is_eq (cid_cmp q cid)) (Some ban) old =
    elim [
      | Less ↦ λ is. refl
      | Equal ↦ λ is. cond-twice (is_eq (cid_cmp q e.0)) (Some ban) (Some e.1) (ban_on es q) ∙ ap (λ k. cond (is_eq (cid_cmp q k)) (Some ban) old) (sym (exact_bytes cid e.0 is))
      | Greater ↦ λ is. ap (λ rest. cond (is_eq (cid_cmp q e.0)) (Some e.1) rest) (ban_on-with_ban es cid ban q) ∙ past q cid e ban (ban_on es q) is
    ] in
    go (cid_cmp cid e.0) refl

-- an entry that is equal to both makes both equal
back : (q cid k : List ℕ) → is_eq (cid_cmp cid k) ≡ true → is_eq (cid_cmp q k) ≡ true → is_eq (cid_cmp q cid) ≡ true
back q cid k one other =
    let e : q ≡ cid = same-cid q k other ∙ sym (same-cid cid k one) in
    ap (λ x. is_eq (cid_cmp x cid)) e ∙ ap is_eq (tied_itself nat_list_cmp_total cid)

-- one less
pub ban_on-without_ban : (bans : List (List ℕ × Ban)) (cid q : List ℕ) → ban_on (without_ban bans cid) q ≡ cond (is_eq (cid_cmp q cid)) None (ban_on bans q)
ban_on-without_ban [] cid q = nothing-both (is_eq (cid_cmp q cid)) None
ban_on-without_ban (e ∷ es) cid q =
    let rest = ban_on-without_ban es cid q in
    let go : (t b c : Bool) → is_eq (cid_cmp cid e.0) ≡ t → is_eq (cid_cmp q cid) ≡ b → is_eq (cid_cmp q e.0) ≡ c
    → ban_on (without_ban es cid) q ≡ cond b None (ban_on es q)
    → ban_on (cond (not t) (e ∷ without_ban es cid) (without_ban es cid)) q ≡ cond b None (cond c (Some e.1) (ban_on es q)) =
    elim [
      | true ↦ elim [
        | true ↦ λ c is-t is-b is-c before. before
        | false ↦ elim [
          | true ↦ λ is-t is-b is-c before. absurd (false≢true (sym is-b ∙ back q cid e.0 is-t is-c))
          | false ↦ λ is-t is-b is-c before. before
        ]
      ]
      | false ↦ elim [
        | true ↦ elim [
          | true ↦ λ is-t is-b is-c before. absurd (false≢true (sym is-t ∙ ap (λ k. is_eq (cid_cmp k e.0)) (sym (same-cid q cid is-b)) ∙ is-c))
          | false ↦ λ is-t is-b is-c before. ap (λ x. cond x (Some e.1) (ban_on (without_ban es cid) q)) is-c ∙ before
        ]
        | false ↦ λ c is-t is-b is-c before. ap₂ (λ x rest. cond x (Some e.1) rest) is-c before
      ]
    ] in
    go (is_eq (cid_cmp cid e.0)) (is_eq (cid_cmp q cid)) (is_eq (cid_cmp q e.0)) refl refl refl rest

-- keys above are not the one looked for
kept : (cid : List ℕ) (es : List (List ℕ × Ban)) → AllByRecursion (λ (k : List ℕ). cid_cmp cid k ≡ Less) (keys_of es) → es ≡ without_ban es cid
kept cid [] above = refl
kept cid (e ∷ es) above =
    ap (λ xs. e ∷ xs) (kept cid es above.1) ∙ ap (λ b. cond (not b) (e ∷ without_ban es cid) (without_ban es cid)) (sym (ap is_eq above.0))

-- where each client identifier stands once, in order, taking out the first entry takes out all
pub removed-is : (cid : List ℕ) (es : List (List ℕ × Ban)) → IsStrictlySortedBy cid_cmp (keys_of es) → remove_entry (is_at (cid_cmp cid)) es ≡ without_ban es cid
removed-is cid [] sorted = refl
removed-is cid (e ∷ es) sorted =
    let go : (t : Bool) → is_eq (cid_cmp cid e.0) ≡ t → cond t es (e ∷ remove_entry (is_at (cid_cmp cid)) es) ≡ cond (not t) (e ∷ without_ban es cid) (without_ban es cid) =
    elim [
      | true ↦ λ is. kept cid es (subst (λ (k : List ℕ). AllByRecursion (λ (y : List ℕ). cid_cmp k y ≡ Less) (keys_of es)) (sym (same-cid cid e.0 is)) (sorted_head cid_cmp e.0 (keys_of es) sorted))
      | false ↦ λ is. ap (λ xs. e ∷ xs) (removed-is cid es (sorted_tail cid_cmp e.0 (keys_of es) sorted))
    ] in
    go (is_eq (cid_cmp cid e.0)) refl
