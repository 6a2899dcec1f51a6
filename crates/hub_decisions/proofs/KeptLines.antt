-- The lines that are kept of the first users of a list, as users enter, leave and change.
use Rattle.std.proofs.Common.{◌≡◌, ◌∙◌, sym, ap, ap₂, refl, ℕ, ◌+◌, ◌<◌, ◌≤◌, Bool, true, false, cond, not, ◌==◌, List, [], ◌∷◌, ◌++◌, length, map, take, drop, set, get_or, filter, flat_map, slice_get, arith, Option, Some, length-set, length-take, take-append-drop, take_at, get_or-take, get_or-drop, drop-set-lt, drop-drop}
use Rattle.std.proofs.lemmas.List.{get_or-map, length-map, map_more, take-append-le, take_min, take_more, take_more_set}
use Rattle.std.proofs.lemmas.List.Elements.{filter-append}
use Rattle.std.proofs.lemmas.Option.{slice_get-get_or}
use Rattle.inf_fields.specs.Field.{Field}
use Rattle.user_table.specs.Listed.{Listed}
use Rattle.user_table.specs.Tables.{has_sid, updated_if, with_update, without_sid}
use Rattle.hub_rules.specs.Configured.{Configured}
use Rattle.hub_decisions.specs.Present.{AreFirst, kept_line, line_by}
use Rattle.hub_decisions.specs.declared.lines.PresentLine.{PresentLine}

abbrev Kept : Type 0
Kept = List PresentLine

-- ---- of how many users they are

pub first-of : (setup : Configured) (users : List Listed) (lines : Kept) (n : ℕ) → lines ≡ map (kept_line setup) (take n users) → AreFirst setup users lines
first-of setup users lines n is =
    let many = ap (λ (ls : Kept). length ls) is ∙ length-map (take n users) (kept_line setup) ∙ length-take n users in
    is ∙ ap (map (kept_line setup)) (sym (ap (λ m. take m users) many ∙ take_min n users))

pub no-more : (setup : Configured) (users : List Listed) (lines : Kept) → AreFirst setup users lines → length lines ≤ length users
no-more setup users lines first =
    omega (arith, ap (λ (ls : Kept). length ls) first ∙ length-map (take (length lines) users) (kept_line setup) ∙ length-take (length lines) users)

-- ---- what a newcomer is told

pub lines-told : (setup : Configured) (users : List Listed) → flat_map (λ (kept : PresentLine). kept.line) (map (kept_line setup) users) ≡ map (line_by setup) users
lines-told setup [] = refl
lines-told setup (user ∷ users) = ap (λ ls. line_by setup user ∷ ls) (lines-told setup users)

pub first-told : (setup : Configured) (users : List Listed) (lines : Kept) → AreFirst setup users lines
    → flat_map (λ (kept : PresentLine). kept.line) lines ≡ map (line_by setup) (take (length lines) users)
first-told setup users lines first = ap (flat_map (λ (kept : PresentLine). kept.line)) first ∙ lines-told setup (take (length lines) users)

-- ---- an entry

pub first-before : (setup : Configured) (before more users : List Listed) (lines : Kept) → users ≡ before ++ more → AreFirst setup before lines → AreFirst setup users lines
first-before setup before more users lines is first =
    first
    ∙ ap (map (kept_line setup)) (sym (ap (take (length lines)) is ∙ take-append-le (length lines) before more (no-more setup before lines first)))

-- ---- a departure

kept-if : (setup : Configured) (user : Listed) (lines : Kept) (users : List Listed) (stays : Bool) → lines ≡ map (kept_line setup) users
    → cond stays (kept_line setup user ∷ lines) lines ≡ map (kept_line setup) (cond stays (user ∷ users) users)
kept-if setup user lines users true same = ap (λ (ls : Kept). kept_line setup user ∷ ls) same
kept-if setup user lines users false same = same

abbrev stays : ℕ → PresentLine → Bool
stays sid kept = not (kept.sid == sid)

others-kept : (setup : Configured) (sid : ℕ) (users : List Listed) → filter (stays sid) (map (kept_line setup) users) ≡ map (kept_line setup) (without_sid sid users)
others-kept setup sid [] = refl
others-kept setup sid (user ∷ users) =
    kept-if setup user (filter (stays sid) (map (kept_line setup) users)) (without_sid sid users) (not (has_sid sid user)) (others-kept setup sid users)

first-without : (sid n : ℕ) (users : List Listed) → take (length (without_sid sid (take n users))) (without_sid sid users) ≡ without_sid sid (take n users)
first-without sid n users =
    ap (take (length (without_sid sid (take n users))))
    (ap (without_sid sid) (sym (take-append-drop n users)) ∙ filter-append (λ user. not (has_sid sid user)) (take n users) (drop n users))
    ∙ take_at (without_sid sid (take n users)) (without_sid sid (drop n users)) (length (without_sid sid (take n users))) refl

pub first-left : (setup : Configured) (sid : ℕ) (users : List Listed) (lines left : Kept) → left ≡ filter (λ (kept : PresentLine). not (kept.sid == sid)) lines
    → AreFirst setup users lines → AreFirst setup (without_sid sid users) left
first-left setup sid users lines left is first =
    first-of setup (without_sid sid users) left (length (without_sid sid (take (length lines) users)))
    (is ∙ ap (filter (stays sid)) first ∙ others-kept setup sid (take (length lines) users)
    ∙ ap (map (kept_line setup)) (sym (first-without sid (length lines) users)))

-- ---- an update

pub nobody : Listed
nobody = record { sid = 0; cid = []; key = []; fields = [] }

-- lines that were kept before it, the first of which are those of the users after it
pub record AreRenewed (setup : Configured) (users : List Listed) (old lines : Kept) (n : ℕ) : Type 0 where
  pub rest : drop n lines ≡ drop n old
  pub long : length lines ≡ length old
  pub first : take n lines ≡ map (kept_line setup) (take n users)

past : (old lines : Kept) (n : ℕ) → drop n lines ≡ drop n old → drop (n + 1) lines ≡ drop (n + 1) old
past old lines n same = sym (drop-drop 1 n lines) ∙ ap (drop 1) same ∙ drop-drop 1 n old

read-behind : (old lines : Kept) (n : ℕ) (kept : PresentLine) → drop n lines ≡ drop n old → get_or lines n kept ≡ get_or old n kept
read-behind old lines n kept same =
    let here : n + 0 ≡ n = omega arith in
    sym (ap (λ k. get_or lines k kept) here) ∙ sym (get_or-drop n lines 0 kept) ∙ ap (λ (ls : Kept). get_or ls 0 kept) same
    ∙ get_or-drop n old 0 kept ∙ ap (λ k. get_or old k kept) here

module _ (setup : Configured) (sid : ℕ) (update : List Field) (key : Option (List ℕ)) (before users : List Listed) (old lines : Kept) (place : ℕ)
    (changed : users ≡ with_update sid update key before) (were : AreFirst setup before old) (done : AreRenewed setup users old lines place) (within : place < length lines) where
  abbrev change : Listed → Listed
  change user = updated_if (has_sid sid user) update key user

  was-present : place < length before
  was-present = omega (arith, within, done.long, no-more setup before old were)

  present : place < length users
  present = omega (arith, was-present, ap (λ (us : List Listed). length us) changed ∙ length-map before change)

  next : (kept : PresentLine) → kept ≡ kept_line setup (get_or users place nobody) → take place lines ++ kept ∷ [] ≡ map (kept_line setup) (take (place + 1) users)
  next kept is = ap₂ (λ (ls : Kept) (l : PresentLine). ls ++ l ∷ []) done.first is ∙ sym (map_more (kept_line setup) users place nobody present)

  was-line : (kept : PresentLine) → kept ≡ get_or lines place kept → kept ≡ kept_line setup (get_or before place nobody)
  was-line kept is =
      is ∙ read-behind old lines place kept done.rest
      ∙ ap (λ (ls : Kept). get_or ls place kept) were
      ∙ get_or-map (kept_line setup) (take (length old) before) place nobody kept (omega (arith, within, done.long, was-present, length-take (length old) before))
      ∙ ap (kept_line setup) (get_or-take (length old) before place nobody (omega (arith, within, done.long)))

  same-line : (kept : PresentLine) → kept ≡ get_or lines place kept → (kept.sid == sid) ≡ false → kept ≡ kept_line setup (get_or users place nobody)
  same-line kept is other =
      let user : Listed = get_or before place nobody in
      let line : kept ≡ kept_line setup user = was-line kept is in
      let quiet : has_sid sid user ≡ false = sym (ap (λ (l : PresentLine). l.sid == sid) line) ∙ other in
      line
      ∙ ap (kept_line setup) (sym (ap (λ b. updated_if b update key user) quiet) ∙ sym (get_or-map change before place nobody nobody was-present)
      ∙ sym (ap (λ (us : List Listed). get_or us place nobody) changed))

  pub line-stays : (kept : PresentLine) → kept ≡ get_or lines place kept → (kept.sid == sid) ≡ false → AreRenewed setup users old lines (place + 1)
  line-stays kept is other = record {
    rest = past old lines place done.rest;
    long = done.long;
    first = take_more lines place kept within ∙ ap (λ (l : PresentLine). take place lines ++ l ∷ []) (sym is) ∙ next kept (same-line kept is other);
  }

  pub line-renewed : (now : PresentLine) → ((user : Listed) → slice_get users place ≡ Some user → now ≡ kept_line setup user)
      → AreRenewed setup users old (set lines place now) (place + 1)
  line-renewed now is = record {
    rest = drop-set-lt (place + 1) lines place now (omega arith) ∙ past old lines place done.rest;
    long = length-set lines place now ∙ done.long;
    first = take_more_set lines place now within ∙ next now (is (get_or users place nobody) (slice_get-get_or users place nobody present));
  }
