-- Indexes that answer what a walk would find still do after an entry, an exit, an update and a change of nick.
use Rattle.std.proofs.Common.{◌≡◌, ℕ, eqb, Bool, true, false, cond, not, List, [], ◌∷◌, ◌++◌, map, refl, sym, ap, ◌∙◌, subst, inl, inr, true≢false}
use Rattle.std.specs.Prelude.{Option, Some, None, is_some, is_err, Result, Ok, Err, IsTrue, OnOk, OnErr}
use Rattle.std.specs.List.{IsDistinct, find}
use Rattle.std.specs.Option.{option_map, unwrap_or}
use Rattle.std.specs.Str.{bytes_eq}
use Rattle.std.proofs.lemmas.Bool.{cases_Bool, cond-false}
use Rattle.std.proofs.lemmas.Bool.Decides.{Decides-eqb}
use Rattle.std.proofs.lemmas.Option.{none-some}
use Rattle.inf_fields.specs.Field.{Field}
use Rattle.user_table.specs.declared.refused.TableRefused.TheVariants.{NickTaken}
use Rattle.user_table.specs.Changes.{AreDistinct, fits_user, held_by_other, is_other, users_after_update, takes_update}
use Rattle.user_table.specs.IndexedView.{AreIndexed}
use Rattle.user_table.specs.Indexes.{IsSetAt, sid_at, sid_of}
use Rattle.user_table.specs.Listed.{Listed}
use Rattle.user_table.specs.Renaming.{renamed_if, with_key}
use Rattle.user_table.specs.Tables.{has_sid, has_key, user_by_cid, user_by_key, user_by_sid, with_update, without_sid, updated_user, updated_if}
use Rattle.user_table.proofs.PlaceLemmas.{first-nobody, nobody-filter}
use Rattle.user_table.proofs.TableLemmas.{no-users, distinct-entered, distinct-without}
use Rattle.user_table.proofs.RenewalLemmas.{distinct-renewed}
use Rattle.user_table.proofs.NickLemmas.{own_key, own_sid, own-key, sid-renamed}
use Rattle.user_table.proofs.SidLemmas.{sid_by, sid-entered, sid-left, sid-kept, put-undone, no-sid, found-again, first-is, first-later}

abbrev pub own_cid : Listed → List ℕ
own_cid user = user.cid

abbrev pub Index : Type 0
Index = List (List ℕ × ℕ)

pub indexed-none : AreIndexed [] [] []
indexed-none = record { distinct = no-users; by_key = λ key. refl; by_cid = λ cid. refl }

none-there : (o : Option Listed) → o ≡ None → is_some o ≡ false
none-there o e = ap is_some e

-- another key answers as before, and the key what was put there
set-at : (key : List ℕ) (found : Option ℕ) (before after : Index) (users : List Listed) (f : Listed → List ℕ) → IsSetAt key found before after
    → ((other : List ℕ) → sid_at before other ≡ sid_by f users other) → (other : List ℕ) → sid_at after other ≡ cond (bytes_eq key other) found (sid_by f users other)
set-at key found before after users f set was other = set other ∙ ap (cond (bytes_eq key other) found) (was other)

pub indexed-entered : (user : Listed) (users : List Listed) (nicks nicks' cids cids' : Index) → AreIndexed users nicks cids → user_by_sid user.sid users ≡ None
    → user_by_key user.key users ≡ None → user_by_cid user.cid users ≡ None → IsSetAt user.key (Some user.sid) nicks nicks' → IsSetAt user.cid (Some user.sid) cids cids'
    → AreIndexed (users ++ user ∷ []) nicks' cids'
indexed-entered user users nicks nicks' cids cids' are sid key cid put-key put-cid = record {
  distinct = distinct-entered user users are.distinct sid (none-there _ key) (none-there _ cid);
  by_key = λ other. set-at user.key (Some user.sid) nicks nicks' users own_key put-key are.by_key other ∙ sym (sid-entered own_key users user other key);
  by_cid = λ other. set-at user.cid (Some user.sid) cids cids' users own_cid put-cid are.by_cid other ∙ sym (sid-entered own_cid users user other cid);
}

pub indexed-left : (sid : ℕ) (user : Listed) (users : List Listed) (nicks nicks' cids cids' : Index) → AreIndexed users nicks cids → user_by_sid sid users ≡ Some user
    → IsSetAt user.key None nicks nicks' → IsSetAt user.cid None cids cids' → AreIndexed (without_sid sid users) nicks' cids'
indexed-left sid user users nicks nicks' cids cids' are found no-nick no-cid = record {
  distinct = distinct-without sid users are.distinct;
  by_key = λ other. set-at user.key None nicks nicks' users own_key no-nick are.by_key other ∙ sym (sid-left own_key sid users user other are.distinct.sids are.distinct.keys found);
  by_cid = λ other. set-at user.cid None cids cids' users own_cid no-cid are.by_cid other ∙ sym (sid-left own_cid sid users user other are.distinct.sids are.distinct.cids found);
}

key-kept : (update : List Field) (b : Bool) (user : Listed) → own_key (updated_if b update None user) ≡ own_key user
key-kept update true user = refl
key-kept update false user = refl

cid-kept : (update : List Field) (b : Bool) (user : Listed) → own_cid (updated_if b update None user) ≡ own_cid user
cid-kept update true user = refl
cid-kept update false user = refl

sid-same : (update : List Field) (b : Bool) (user : Listed) → (updated_if b update None user).sid ≡ user.sid
sid-same update true user = refl
sid-same update false user = refl

pub indexed-updated : (sid : ℕ) (update : List Field) (users : List Listed) (nicks cids : Index) → AreIndexed users nicks cids
    → AreIndexed (with_update sid update None users) nicks cids
indexed-updated sid update users nicks cids are =
    let change = λ (b : Bool) (user : Listed). updated_if b update None user in
    record {
      distinct = distinct-renewed sid update None users are.distinct refl;
      by_key = λ other. are.by_key other ∙ sym (sid-kept own_key change (key-kept update) (sid-same update) (has_sid sid) users other);
      by_cid = λ other. are.by_cid other ∙ sym (sid-kept own_cid change (cid-kept update) (sid-same update) (has_sid sid) users other);
    }

-- whatever became of the update
pub indexed-either : {X Y : Type 0} (answer : Result X Y) (sid : ℕ) (update : List Field) (users after : List Listed) (nicks cids : Index) → AreIndexed users nicks cids
    → OnOk answer (after ≡ with_update sid update None users) → OnErr answer (after ≡ users) → AreIndexed after nicks cids
indexed-either (Ok x) sid update users after nicks cids are done same = subst (λ us. AreIndexed us nicks cids) (sym done) (indexed-updated sid update users nicks cids are)
indexed-either (Err y) sid update users after nicks cids are done same = subst (λ us. AreIndexed us nicks cids) (sym same) are

other-cid-kept : (key : List ℕ) (b : Bool) (user : Listed) → own_cid (renamed_if b key user) ≡ own_cid user
other-cid-kept key true user = refl
other-cid-kept key false user = refl

other-sid-same : (key : List ℕ) (b : Bool) (user : Listed) → (renamed_if b key user).sid ≡ user.sid
other-sid-same key true user = refl
other-sid-same key false user = refl

pub indexed-renamed : (sid : ℕ) (key before : List ℕ) (user : Listed) (users : List Listed) (nicks nicks' nicks'' cids : Index) → AreDistinct (with_key sid key users)
    → AreIndexed users nicks cids → user_by_sid sid users ≡ Some user → before ≡ user.key → user_by_key key users ≡ None → IsSetAt key (Some sid) nicks nicks'
    → IsSetAt before None nicks' nicks'' → AreIndexed (with_key sid key users) nicks'' cids
indexed-renamed sid key before user users nicks nicks' nicks'' cids distinct are found is free put gone = record {
  distinct = distinct;
  by_key = λ other.
      gone other ∙ ap (cond (bytes_eq before other) None) (set-at key (Some sid) nicks nicks' users own_key put are.by_key other)
      ∙ ap (λ k. cond (bytes_eq k other) None (cond (bytes_eq key other) (Some sid) (sid_by own_key users other))) is
      ∙ sym (sid-renamed sid key users user other are.distinct.sids are.distinct.keys found (first-nobody (has_key key) users free));
  by_cid = λ other.
      are.by_cid other ∙ sym (sid-kept own_cid (λ b u. renamed_if b key u) (other-cid-kept key) (other-sid-same key) (has_sid sid) users other);
}

-- a key that is put in and taken out again
pub indexed-undone : (key : List ℕ) (sid : ℕ) (users : List Listed) (nicks nicks' nicks'' cids : Index) → AreIndexed users nicks cids → user_by_key key users ≡ None
    → IsSetAt key (Some sid) nicks nicks' → IsSetAt key None nicks' nicks'' → AreIndexed users nicks'' cids
indexed-undone key sid users nicks nicks' nicks'' cids are free put gone = record {
  distinct = are.distinct;
  by_key = λ other.
      gone other ∙ ap (cond (bytes_eq key other) None) (put other) ∙ put-undone (sid_at nicks) key other sid (are.by_key key ∙ ap sid_of free) ∙ are.by_key other;
  by_cid = are.by_cid;
}

-- the same where a client identifier is put in and taken out again too
pub indexed-both-undone : (key cid : List ℕ) (sid : ℕ) (users : List Listed) (nicks nicks' nicks'' cids cids' cids'' : Index) → AreIndexed users nicks cids
    → user_by_key key users ≡ None → user_by_cid cid users ≡ None → IsSetAt key (Some sid) nicks nicks' → IsSetAt key None nicks' nicks''
    → IsSetAt cid (Some sid) cids cids' → IsSetAt cid None cids' cids'' → AreIndexed users nicks'' cids''
indexed-both-undone key cid sid users nicks nicks' nicks'' cids cids' cids'' are free free' put gone put' gone' =
    let first = indexed-undone key sid users nicks nicks' nicks'' cids are free put gone in
    record {
      distinct = are.distinct;
      by_key = first.by_key;
      by_cid = λ other.
          gone' other ∙ ap (cond (bytes_eq cid other) None) (put' other) ∙ put-undone (sid_at cids) cid other sid (are.by_cid cid ∙ ap sid_of free') ∙ are.by_cid other;
    }

-- an index that answers nobody tells that there is nobody
pub nobody-by-index : (found : Option Listed) (sid : Option ℕ) → sid ≡ sid_of found → sid ≡ None → found ≡ None
nobody-by-index found sid is none = no-sid found (sym none ∙ is)

by-index : (test : Listed → Bool) (users : List Listed) (sid : ℕ) (found : Option Listed) → IsDistinct eqb (map own_sid users) → find test users ≡ found
    → Some sid ≡ sid_of found → user_by_sid sid users ≡ found
by-index test users sid None distinct is e = absurd (none-some sid (sym e))
by-index test users sid (Some user) distinct is e =
    let same : sid ≡ user.sid = ap (λ (o : Option ℕ). unwrap_or o sid) e in
    ap (λ k. user_by_sid k users) same ∙ found-again test users user distinct is

-- whom an index names is whom a walk finds
pub found-by-index : (test : Listed → Bool) (users : List Listed) (sid : ℕ) → IsDistinct eqb (map own_sid users) → Some sid ≡ sid_of (find test users)
    → user_by_sid sid users ≡ find test users
found-by-index test users sid distinct e = by-index test users sid (find test users) distinct refl e

-- where nobody leaves all stay
pub nobody-left : (sid : ℕ) (users : List Listed) → user_by_sid sid users ≡ None → without_sid sid users ≡ users
nobody-left sid users none = nobody-filter (has_sid sid) users (first-nobody (has_sid sid) users none)

-- the user who is updated
pub user-updated : (sid : ℕ) (update : List Field) (users : List Listed) → user_by_sid sid (with_update sid update None users) ≡ option_map (updated_user update None) (user_by_sid sid users)
user-updated sid update [] = refl
user-updated sid update (user ∷ users) =
    let rest = with_update sid update None users in
    elim (cases_Bool (has_sid sid user)) [
      | inl yes' ↦
          ap (λ b. find (has_sid sid) (updated_if b update None user ∷ rest)) yes' ∙ first-is (has_sid sid) (updated_user update None user) rest yes'
          ∙ sym (ap (option_map (updated_user update None)) (first-is (has_sid sid) user users yes'))
      | inr no' ↦
          ap (λ b. find (has_sid sid) (updated_if b update None user ∷ rest)) no' ∙ first-later (has_sid sid) user rest no' ∙ user-updated sid update users
          ∙ sym (ap (option_map (updated_user update None)) (first-later (has_sid sid) user users no'))
    ]

pub taken-user : (update : List Field) (found : Option Listed) → IsTrue (fits_user update found) → (user : Listed) × (found ≡ Some user)
taken-user update None takes = absurd (true≢false (sym takes))
taken-user update (Some user) takes = (user, refl)

-- the user for whom there is room, after the update
pub user-renewed : (sid : ℕ) (update : List Field) (users : List Listed) → IsTrue (takes_update sid update users)
    → (user : Listed) × (user_by_sid sid (with_update sid update None users) ≡ Some user)
user-renewed sid update users takes =
    let user = taken-user update (user_by_sid sid users) takes in
    (updated_user update None user.0, user-updated sid update users ∙ ap (option_map (updated_user update None)) user.1)

-- a key that nobody has is nobody's after an update without a nick
pub still-free : (sid : ℕ) (update : List Field) (key : List ℕ) (users : List Listed) → user_by_key key users ≡ None → user_by_key key (with_update sid update None users) ≡ None
still-free sid update key users free =
    no-sid (user_by_key key (with_update sid update None users))
    (sym (ap sid_of free) ∙ sym (sid-kept own_key (λ b u. updated_if b update None u) (key-kept update) (sid-same update) (has_sid sid) users key))

pub not-held : (sid : ℕ) (key : List ℕ) (users : List Listed) → user_by_key key users ≡ None → held_by_other sid (Some key) users ≡ false
not-held sid key users free = ap (is_other sid) free

pub any-err : {X Y : Type 0} {A : Type 0} (answer : Result X Y) → A → OnErr answer A
any-err (Ok x) a = tt
any-err (Err y) a = a

pub not-err : {X Y : Type 0} {A : Type 0} (answer : Result X Y) → is_err answer ≡ false → OnOk answer A → A
not-err (Ok x) e a = a
not-err (Err y) e a = absurd (true≢false e)

pub is-err : {X Y : Type 0} {A : Type 0} (answer : Result X Y) → is_err answer ≡ true → OnErr answer A → A
is-err (Ok x) e a = absurd (true≢false (sym e))
is-err (Err y) e a = a

pub put-as : (key key' : List ℕ) (sid sid' : ℕ) (before after : Index) → key ≡ key' → sid ≡ sid' → IsSetAt key (Some sid) before after → IsSetAt key' (Some sid') before after
put-as key key' sid sid' before after same-key same-sid set =
    subst (λ k. IsSetAt k (Some sid') before after) same-key (subst (λ n. IsSetAt key (Some n) before after) same-sid set)

pub gone-as : (key key' : List ℕ) (before after : Index) → key ≡ key' → IsSetAt key None before after → IsSetAt key' None before after
gone-as key key' before after same set = subst (λ k. IsSetAt k None before after) same set

pub same-sid : (a b : ℕ) → not (eqb a b) ≡ false → a ≡ b
same-sid a b e =
    elim (cases_Bool (eqb a b)) [
      | inl yes' ↦ (Decides-eqb a b).0 yes'
      | inr no' ↦ absurd (true≢false (sym (ap not no') ∙ e))
    ]

own-found : (sid : ℕ) (update : List Field) (key : List ℕ) (users : List Listed) (found : Option Listed) → IsDistinct eqb (map own_sid users)
    → user_by_key key users ≡ found → Some sid ≡ sid_of found → users_after_update sid update (Some key) users ≡ Ok (with_update sid update None users)
own-found sid update key users None distinct is e = absurd (none-some sid (sym e))
own-found sid update key users (Some user) distinct is e =
    let same : sid ≡ user.sid = ap (λ (o : Option ℕ). unwrap_or o sid) e in
    let mine : held_by_other sid (Some key) users ≡ false = ap (is_other sid) is ∙ ap not ((Decides-eqb user.sid sid).1 (sym same)) in
    cond-false (held_by_other sid (Some key) users) (Err NickTaken) (Ok (with_update sid update (Some key) users)) mine
    ∙ ap Ok (own-key sid update key users user distinct is (sym same))

-- who is given the key that they have is updated as without a nick
pub renewed-own : (sid : ℕ) (update : List Field) (key : List ℕ) (users : List Listed) → IsDistinct eqb (map own_sid users)
    → Some sid ≡ sid_of (user_by_key key users) → users_after_update sid update (Some key) users ≡ Ok (with_update sid update None users)
renewed-own sid update key users distinct e = own-found sid update key users (user_by_key key users) distinct refl e
