-- What stays as it was where connections are settled, and that lines can be given then.
use Rattle.std.proofs.Common.{◌≡◌, ◌∙◌, sym, ap, refl, subst, ℕ, zero, suc, ◌+◌, ◌<◌, ◌≤◌, Bool, true, false, List, [], ◌∷◌, length, get_or, map, arith, Some, inl, inr}
use Rattle.std.specs.Prelude.{slice_get, not, OnOk, Result, Ok, Err}
use Rattle.std.proofs.lemmas.Bool.{cases_lt}
use Rattle.hub_core.specs.declared.share.Share.{Share}
use Rattle.hub_core.specs.Deliveries.{AreSettled, HaveRoom, WaitsAs, given_all, row_given}
use Rattle.hub_core.proofs.Rows.{length-at}
use Rattle.shared_log.specs.Tables.{IsSettled, Row, Table, at_place, at_row, settled_at, settled_but, with_membership, with_rows}

pub waits-self : (a : Table) → WaitsAs a a
waits-self a = record { rows = refl; cap = refl; bytes = refl }

pub waits-then : {a b c : Table} → WaitsAs a b → WaitsAs b c → WaitsAs a c
waits-then first second = record { rows = second.rows ∙ first.rows; cap = second.cap ∙ first.cap; bytes = second.bytes ∙ first.bytes }

pub waits-settled : (place : ℕ) (a b : Table) → b ≡ settled_at place a → WaitsAs a b
waits-settled place a b is = record { rows = ap (λ (t : Table). t.rows) is; cap = ap (λ (t : Table). t.cap) is; bytes = ap (λ (t : Table). t.bytes) is }

-- ---- who is settled

true-kept : (place other : ℕ) (xs : List Bool) → slice_get xs other ≡ Some true → slice_get (at_place place (λ _. true) xs) other ≡ Some true
true-kept place other [] is = is
true-kept zero zero (x ∷ xs) is = refl
true-kept zero (suc other) (x ∷ xs) is = is
true-kept (suc place) zero (x ∷ xs) is = is
true-kept (suc place) (suc other) (x ∷ xs) is = true-kept place other xs is

pub still-settled : (place other : ℕ) (a b : Table) → b ≡ settled_at place a → IsSettled other a → IsSettled other b
still-settled place other a b is settled = subst (IsSettled other) (sym is) (true-kept place other a.settled settled)

pub more-settled : (place : ℕ) (a b : Table) → b ≡ settled_at place a → IsSettled place b → ((other : ℕ) → other < place → IsSettled other a)
    → (other : ℕ) → other < place + 1 → IsSettled other b
more-settled place a b is here before other less =
    elim (cases_lt other place) [
      | inl below ↦ still-settled place other a b is (before other below)
      | inr at_least ↦ let same : place ≡ other = omega (arith, less, at_least) in subst (λ n. IsSettled n b) same here
    ]

-- who was settled and is no member stays settled where the members are told
pub none-waits : (place : ℕ) (rows : List Row) (settled : List Bool) → place < length rows → slice_get settled place ≡ Some true
    → slice_get (settled_but (at_place place (with_membership false) rows) settled) place ≡ Some true
none-waits place [] settled within is = absurd (omega (arith, within))
none-waits place (row ∷ rows) [] within is = absurd (cc)
none-waits zero (row ∷ rows) (here ∷ settled) within is = is
none-waits (suc place) (row ∷ rows) (here ∷ settled) within is = none-waits place rows settled (omega (arith, within)) is

-- ---- shares

pub same-item : {A : Type 0} (xs : List A) (i : ℕ) (d e : A) → i < length xs → get_or xs i d ≡ get_or xs i e
same-item [] i d e within = absurd (omega (arith, within))
same-item (x ∷ xs) zero d e within = refl
same-item (x ∷ xs) (suc i) d e within = same-item xs i d e (omega (arith, within))

-- the first shares have room
abbrev pub HaveRoomTo : ℕ → List Share → Table → Type 0
HaveRoomTo count shares table =
    (k : ℕ) (d : Share) → k < count → k < length shares → (get_or shares k d).place < length table.rows → IsSettled (get_or shares k d).place table

more-room : (count : ℕ) (shares : List Share) (share : Share) (table : Table) → share ≡ get_or shares count share → count < length shares
    → (share.place < length table.rows → IsSettled share.place table) → HaveRoomTo count shares table → HaveRoomTo (count + 1) shares table
more-room count shares share table is within here before k d less inside =
    elim (cases_lt k count) [
      | inl below ↦ before k d below inside
      | inr at_least ↦
          let same : count ≡ k = omega (arith, less, at_least) in
          let item : share ≡ get_or shares k d = is ∙ same-item shares count share d within ∙ ap (λ n. get_or shares n d) same in
          subst (λ (s : Share). s.place < length table.rows → IsSettled s.place table) item here
    ]

-- a share that is settled, and one behind the last place
pub room-settled : (count : ℕ) (shares : List Share) (share : Share) (a b : Table) → share ≡ get_or shares count share → count < length shares → b ≡ settled_at share.place a
    → IsSettled share.place b → HaveRoomTo count shares a → HaveRoomTo (count + 1) shares b
room-settled count shares share a b is within settles here before =
    more-room count shares share b is within (λ _. here)
    (λ k d less inside placed. still-settled share.place (get_or shares k d).place a b settles
    (before k d less inside (subst (λ (t : Table). (get_or shares k d).place < length t.rows) settles placed)))

pub room-past : (count : ℕ) (shares : List Share) (share : Share) (a b : Table) → share ≡ get_or shares count share → count < length shares → b ≡ a → length a.rows ≤ share.place
    → HaveRoomTo count shares a → HaveRoomTo (count + 1) shares b
room-past count shares share a b is within same past before =
    subst (HaveRoomTo (count + 1) shares) (sym same) (more-room count shares share a is within (λ less. absurd (omega (arith, less, past))) before)

pub room-head : (old : List Share) (share : Share) (rest : List Share) (table : Table) → HaveRoom old table → old ≡ share ∷ rest → share.place < length table.rows → IsSettled share.place table
room-head old share rest table room is = subst (λ ss. HaveRoom ss table) is room 0 share (omega arith)

pub room-tail : (old : List Share) (share : Share) (rest : List Share) (table : Table) → HaveRoom old table → old ≡ share ∷ rest → HaveRoom rest table
room-tail old share rest table room is k d less = subst (λ ss. HaveRoom ss table) is room (suc k) d (omega (arith, less))

-- a change of a row leaves the others' room
pub room-kept : (place : ℕ) (change : Row → Row) (shares : List Share) (a b : Table) → b ≡ at_row place change a → HaveRoom shares a → HaveRoom shares b
room-kept place change shares a b is room =
    subst (HaveRoom shares) (sym is) (λ k d less within. room k d less (subst (λ n. (get_or shares k d).place < n) (length-at change place a.rows) within))

pub all-room : (shares : List Share) (table : Table) → AreSettled table → HaveRoom shares table
all-room shares table settled k d less within = settled (get_or shares k d).place within

-- what follows if a call ended well
pub then-both : {A E P Q R : Type 0} (r : Result A E) → OnOk r P → OnOk r Q → (P → Q → R) → OnOk r R
then-both (Ok x) first second follows = follows first second
then-both (Err e) first second follows = tt

pub all-settled : (place : ℕ) (a b : Table) → b ≡ settled_at place a → AreSettled a → AreSettled b
all-settled place a b is settled other within = still-settled place other a b is (settled other (subst (λ (t : Table). other < length t.rows) is within))

pub room-after : (place : ℕ) (shares : List Share) (a b : Table) → b ≡ settled_at place a → HaveRoom shares a → HaveRoom shares b
room-after place shares a b is room k d less within =
    still-settled place (get_or shares k d).place a b is (room k d less (subst (λ (t : Table). (get_or shares k d).place < length t.rows) is within))

-- where shares were given, as many connections are settled
length-given : (shares : List Share) (rows : List Row) → length (given_all shares rows) ≡ length rows
unfolding given_all
length-given [] rows = refl
length-given (share ∷ shares) rows =
    length-given shares (at_place share.place (row_given share.lines) rows) ∙ length-at (row_given share.lines) share.place rows

pub settled-given : (shares : List Share) (a b : Table) → b ≡ with_rows (given_all shares a.rows) a → AreSettled a → AreSettled b
settled-given shares a b is settled =
    subst AreSettled (sym is) (λ place within. settled place (subst (λ n. place < n) (length-given shares a.rows) within))
