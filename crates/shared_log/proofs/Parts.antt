-- What is left where first lines were taken from where they lie.
use Rattle.std.proofs.Common.{◌≡◌, ◌∙◌, sym, ap, ap₂, refl, subst, ℕ, zero, suc, ◌+◌, ◌-◌, ◌<◌, ◌≤◌, Bool, true, false, List, [], ◌∷◌, ◌++◌, append-nil, append_assoc, length, length-append, length-drop, length-take, take, drop, get_or, map, min, set, arith, Some}
use Rattle.std.specs.Prelude.{◌&&◌, ◌==◌, is_some, slice_get}
use Rattle.std.specs.List.{All, concat}
use Rattle.std.proofs.lemmas.List.Elements.{All-cons, All-head, All-tail}
use Rattle.std.proofs.lemmas.Bool.{false≢true}
use Rattle.std.proofs.lemmas.Bool.Decides.{nat_tests}
use Rattle.std.proofs.lemmas.Grind.{common_steps}
use Rattle.std.proofs.lemmas.List.Folds.{concat-append}
use Rattle.std.proofs.lemmas.List.{drop-drop, drop_all, get_or-drop, take-append-drop, take_more}
use Rattle.std.proofs.lemmas.List.Sums.{sum_by-append}
use Rattle.std.proofs.lemmas.Option.{get_or_from_slice_get}
use Rattle.outboxes.specs.Backlogs.{Backlog, backlog_after, fits, size_of, with_lines}
use Rattle.shared_log.specs.declared.entry.LogEntry.{LogEntry}
use Rattle.shared_log.specs.OwnLines.{own_with}
use Rattle.shared_log.specs.Entries.{after_all, all_lines, entry_lines}
use Rattle.shared_log.specs.declared.cursor.Cursor.{Cursor}
use Rattle.shared_log.specs.declared.part.LogPart.{LogPart}
use Rattle.shared_log.specs.declared.part.LogRun.{LogRun}
use Rattle.shared_log.specs.Cursors.{AreWithin, IsInLog, owed, row_of}
use Rattle.shared_log.specs.Parts.{AreWhole, IsLogPart, IsTakenPart, backlog_of, between}
use Rattle.shared_log.specs.Tables.{Row, at_place, new_row, taken}
use Rattle.shared_log.proofs.Places.{read-map}
use Rattle.shared_log.proofs.Tallies.{given-fits, given-lags, given-not}

abbrev Lines : Type 0
Lines = List (List ℕ)

-- ---- entries

pub all-append : (xs ys : List LogEntry) → all_lines (xs ++ ys) ≡ all_lines xs ++ all_lines ys
all-append [] ys = refl
all-append (x ∷ xs) ys = ap (λ ls. entry_lines x ++ ls) (all-append xs ys) ∙ sym (append_assoc (entry_lines x) (all_lines xs) (all_lines ys))

pub none-between : (log : List LogEntry) (tail : ℕ) → between log tail tail ≡ []
none-between log tail =
    let none : tail - tail ≡ 0 = omega arith in ap (λ n. take n (drop tail log)) none

pub between-more : (log : List LogEntry) (tail place : ℕ) (e : LogEntry) → tail ≤ place → place < length log → Some e ≡ slice_get log place → between log tail (place + 1) ≡ between log tail place ++ e ∷ []
between-more log tail place e from h is =
    let count : place + 1 - tail ≡ (place - tail) + 1 = omega arith in
    let here : tail + (place - tail) ≡ place = omega arith in
    let read : get_or (drop tail log) (place - tail) e ≡ e = get_or-drop tail log (place - tail) e ∙ ap (λ n. get_or log n e) here ∙ get_or_from_slice_get log place e e (sym is) in
    ap (λ n. take n (drop tail log)) count ∙ take_more (drop tail log) (place - tail) e (omega (arith, length-drop tail log))
    ∙ ap (λ f. take (place - tail) (drop tail log) ++ f ∷ []) read

pub lines-more : (log : List LogEntry) (tail place : ℕ) (e : LogEntry) → tail ≤ place → place < length log → Some e ≡ slice_get log place
    → all_lines (between log tail (place + 1)) ≡ all_lines (between log tail place) ++ entry_lines e
lines-more log tail place e from h is =
    ap all_lines (between-more log tail place e from h is) ∙ all-append (between log tail place) (e ∷ []) ∙ ap (λ ls. all_lines (between log tail place) ++ ls) (append-nil (entry_lines e))

-- those from a place on are those up to another, and the others
pub parted : (log : List LogEntry) (tail end : ℕ) → tail ≤ end → drop tail log ≡ between log tail end ++ drop end log
parted log tail end from =
    let there : tail + (end - tail) ≡ end = omega (arith, from) in
    sym (ap (λ es. between log tail end ++ es) (ap (λ n. drop n log) (sym there) ∙ sym (drop-drop (end - tail) tail log)) ∙ take-append-drop (end - tail) (drop tail log))

pub lines-parted : (log : List LogEntry) (tail end : ℕ) → tail ≤ end → all_lines (drop tail log) ≡ all_lines (between log tail end) ++ all_lines (drop end log)
lines-parted log tail end from = ap all_lines (parted log tail end from) ∙ all-append (between log tail end) (drop end log)

-- ---- lists

pub take-both : (xs ys : Lines) (n : ℕ) → take n (xs ++ ys) ≡ take (min (length xs) n) xs ++ take (n - min (length xs) n) ys
take-both [] ys n = grind (arith, common_steps)
take-both (x ∷ xs) ys zero = grind (arith, common_steps)
take-both (x ∷ xs) ys (suc n) =
    let short : min (length (x ∷ xs)) (suc n) ≡ suc (min (length xs) n) = omega arith in
    let rest : suc n - suc (min (length xs) n) ≡ n - min (length xs) n = omega arith in
    rw (short, rest) (ap (λ all. x ∷ all) (take-both xs ys n))

pub drop-both : (xs ys : Lines) (n : ℕ) → drop n (xs ++ ys) ≡ drop (min (length xs) n) xs ++ drop (n - min (length xs) n) ys
drop-both [] ys n = grind (arith, common_steps)
drop-both (x ∷ xs) ys zero = grind (arith, common_steps)
drop-both (x ∷ xs) ys (suc n) =
    let short : min (length (x ∷ xs)) (suc n) ≡ suc (min (length xs) n) = omega arith in
    let rest : suc n - suc (min (length xs) n) ≡ n - min (length xs) n = omega arith in
    rw (short, rest) (drop-both xs ys n)

dropped-front : (xs ys : Lines) → drop (length xs) (xs ++ ys) ≡ ys
dropped-front [] ys = refl
dropped-front (x ∷ xs) ys = dropped-front xs ys

same-rest : (xs ys zs : Lines) → xs ++ ys ≡ xs ++ zs → ys ≡ zs
same-rest xs ys zs same = sym (dropped-front xs ys) ∙ ap (drop (length xs)) same ∙ dropped-front xs zs

-- where the first are these, the others are the rest
pub rest-is : (all xs ys : Lines) (n : ℕ) → all ≡ xs ++ ys → xs ≡ take n all → ys ≡ drop n all
rest-is all xs ys n is first =
    same-rest xs ys (drop n all) (sym is ∙ sym (take-append-drop n all) ∙ ap (λ ls. ls ++ drop n all) (sym first))

-- ---- where all fits

as-told : (b : Backlog) (share : Lines) (lags fit : Bool) → b.lags ≡ lags → fits b share ≡ fit → (backlog_after b share).lags ≡ false
    → (lags ≡ false) × (fit ≡ true)
as-told b share true fit is fitting open' = absurd (false≢true (sym open' ∙ ap (λ (x : Backlog). x.lags) (given-lags b share is) ∙ is))
as-told b share false true is fitting open' = (refl, refl)
as-told b share false false is fitting open' = absurd (false≢true (sym open' ∙ ap (λ (x : Backlog). x.lags) (given-not b share is fitting)))

-- a backlog that does not lag after all
pub open-before : (b : Backlog) (es : List LogEntry) → (after_all b es).lags ≡ false → b.lags ≡ false
unfolding after_all
open-before b [] open' = open'
open-before b (e ∷ es) open' = (as-told b (entry_lines e) b.lags (fits b (entry_lines e)) refl refl (open-before (backlog_after b (entry_lines e)) es open')).0

given-open : (b : Backlog) (share : Lines) → (backlog_after b share).lags ≡ false → backlog_after b share ≡ with_lines b (b.lines ++ share)
given-open b share open' =
    let told = as-told b share b.lags (fits b share) refl refl open' in given-fits b share told.0 told.1

pub all-fit : (b : Backlog) (es : List LogEntry) → (after_all b es).lags ≡ false → after_all b es ≡ with_lines b (b.lines ++ all_lines es)
unfolding after_all
all-fit b [] open' = ap (with_lines b) (sym (append-nil b.lines))
all-fit b (e ∷ es) open' =
    let one : backlog_after b (entry_lines e) ≡ with_lines b (b.lines ++ entry_lines e) = given-open b (entry_lines e) (open-before (backlog_after b (entry_lines e)) es open') in
    all-fit (backlog_after b (entry_lines e)) es open'
    ∙ ap (λ (x : Backlog). with_lines x (x.lines ++ all_lines es)) one
    ∙ ap (with_lines b) (append_assoc b.lines (entry_lines e) (all_lines es))

size-drop : (n : ℕ) (ls : Lines) → size_of (drop n ls) ≤ size_of ls
size-drop n ls = omega (arith, ap size_of (take-append-drop n ls), sum_by-append length (take n ls) (drop n ls))

size-less : (n : ℕ) (ls more : Lines) → size_of (drop n ls) ≤ size_of (ls ++ more)
size-less n ls more = let less = size-drop n ls in omega (arith, less, sum_by-append length ls more)

pub after-append : (b : Backlog) (xs ys : List LogEntry) → after_all b (xs ++ ys) ≡ after_all (after_all b xs) ys
unfolding after_all
after-append b [] ys = refl
after-append b (x ∷ xs) ys = after-append (backlog_after b (entry_lines x)) xs ys

fits-less : (b : Backlog) (fewer share : Lines) → length fewer ≤ length b.lines → size_of fewer ≤ size_of b.lines → fits b share ≡ true → fits (with_lines b fewer) share ≡ true
fits-less b fewer share count size fit = grind (arith, nat_tests)

-- what fits behind more lines fits behind fewer
pub less-fits : (b : Backlog) (es : List LogEntry) (fewer : Lines) → length fewer ≤ length b.lines → size_of fewer ≤ size_of b.lines → (after_all b es).lags ≡ false
    → after_all (with_lines b fewer) es ≡ with_lines b (fewer ++ all_lines es)
unfolding after_all
less-fits b [] fewer count size open' = ap (with_lines b) (sym (append-nil fewer))
less-fits b (e ∷ es) fewer count size open' =
    let told = as-told b (entry_lines e) b.lags (fits b (entry_lines e)) refl refl (open-before (backlog_after b (entry_lines e)) es open') in
    let one : backlog_after b (entry_lines e) ≡ with_lines b (b.lines ++ entry_lines e) = given-fits b (entry_lines e) told.0 told.1 in
    let less : backlog_after (with_lines b fewer) (entry_lines e) ≡ with_lines b (fewer ++ entry_lines e) =
    given-fits (with_lines b fewer) (entry_lines e) told.0 (fits-less b fewer (entry_lines e) count size told.1) in
    ap (λ (x : Backlog). after_all x es) less
    ∙ less-fits (with_lines b (b.lines ++ entry_lines e)) es (fewer ++ entry_lines e)
    (omega (arith, count, length-append fewer (entry_lines e), length-append b.lines (entry_lines e)))
    (omega (arith, size, sum_by-append length fewer (entry_lines e), sum_by-append length b.lines (entry_lines e)))
    (sym (ap (λ (x : Backlog). (after_all x es).lags) one) ∙ open')
    ∙ ap (with_lines b) (append_assoc fewer (entry_lines e) (all_lines es))

-- ---- entries that are taken whole

first-of : (all xs ys : Lines) (n : ℕ) → all ≡ xs ++ ys → length xs ≡ n → xs ≡ take n all
first-of all xs ys n is long = sym (ap (λ ls. take n ls) is ∙ ap (λ m. take m (xs ++ ys)) (sym long) ∙ take-front xs ys) where
  take-front : (xs ys : Lines) → take (length xs) (xs ++ ys) ≡ xs
  take-front [] ys = refl
  take-front (x ∷ xs) ys = ap (λ ls. x ∷ ls) (take-front xs ys)

-- with as many lines as were wanted
pub first-exact : (log : List LogEntry) (tail end count : ℕ) → tail ≤ end → length (all_lines (between log tail end)) ≡ count → all_lines (between log tail end) ≡ take count (all_lines (drop tail log))
first-exact log tail end count from long = first-of (all_lines (drop tail log)) (all_lines (between log tail end)) (all_lines (drop end log)) count (lines-parted log tail end from) long

short-all : (all : Lines) (n : ℕ) → length all ≤ n → take n all ≡ all
short-all [] zero few = refl
short-all [] (suc n) few = refl
short-all (x ∷ xs) zero few = absurd (omega (arith, few))
short-all (x ∷ xs) (suc n) few = ap (λ ls. x ∷ ls) (short-all xs n (omega (arith, few)))

-- with all lines there are
pub first-whole : (log : List LogEntry) (tail end count : ℕ) → tail ≤ end → end ≡ length log → length (all_lines (between log tail end)) ≤ count
    → all_lines (between log tail end) ≡ take count (all_lines (drop tail log))
first-whole log tail end count from over few =
    let none : drop end log ≡ [] = drop_all end log (omega (arith, over)) in
    let all : all_lines (drop tail log) ≡ all_lines (between log tail end) =
    lines-parted log tail end from ∙ ap (λ es. all_lines (between log tail end) ++ all_lines es) none ∙ append-nil (all_lines (between log tail end)) in
    sym (ap (take count) all ∙ short-all (all_lines (between log tail end)) count few)

pub bytes-more : (log : List LogEntry) (tail place : ℕ) (e : LogEntry) → tail ≤ place → place < length log → Some e ≡ slice_get log place
    → concat (all_lines (between log tail (place + 1))) ≡ concat (all_lines (between log tail place)) ++ concat (entry_lines e)
bytes-more log tail place e from h is = ap concat (lines-more log tail place e from h is) ∙ concat-append (all_lines (between log tail place)) (entry_lines e)

-- ---- a part

module _ (log : List LogEntry) (cursor : Cursor) (count tail n : ℕ) (run : LogRun) (member : cursor.tail ≡ Some tail) (open' : (row_of log cursor).backlog.lags ≡ false)
    (own : n ≡ min (length cursor.own.backlog.lines) count) (whole : AreWhole log tail (count - n) run) where
  waits : (row_of log cursor).backlog ≡ with_lines cursor.own.backlog (cursor.own.backlog.lines ++ all_lines (drop tail log))
  waits =
      ap (owed log cursor.own.backlog) member
      ∙ all-fit cursor.own.backlog (drop tail log) (sym (ap (λ t. (owed log cursor.own.backlog t).lags) member) ∙ open')

  lines-are : (row_of log cursor).backlog.lines ≡ cursor.own.backlog.lines ++ all_lines (drop tail log)
  lines-are = ap (λ (b : Backlog). b.lines) waits

  first-is : take n cursor.own.backlog.lines ++ all_lines (between log tail run.end) ≡ take count (row_of log cursor).backlog.lines
  first-is =
      ap (λ ls. take n cursor.own.backlog.lines ++ ls) whole.first
      ∙ ap (λ m. take m cursor.own.backlog.lines ++ take (count - m) (all_lines (drop tail log))) own
      ∙ sym (take-both cursor.own.backlog.lines (all_lines (drop tail log)) count) ∙ sym (ap (take count) lines-are)

  rest-are : drop n cursor.own.backlog.lines ++ all_lines (drop run.end log) ≡ drop count (row_of log cursor).backlog.lines
  rest-are =
      ap (λ ls. drop n cursor.own.backlog.lines ++ ls)
      (rest-is (all_lines (drop tail log)) (all_lines (between log tail run.end)) (all_lines (drop run.end log)) (count - n) (lines-parted log tail run.end whole.from) whole.first)
      ∙ ap (λ m. drop m cursor.own.backlog.lines ++ drop (count - m) (all_lines (drop tail log))) own
      ∙ sym (drop-both cursor.own.backlog.lines (all_lines (drop tail log)) count) ∙ sym (ap (drop count) lines-are)

  pub part-is : IsLogPart log cursor count (record { own = n; tail = tail; end = run.end; lines = count - run.left })
  part-is = record {
    member = member;
    fits = open';
    own = omega (arith, own);
    from = whole.from;
    within = whole.within;
    first = first-is;
    rest = rest-are;
    lines = omega (arith, own, whole.counted, ap length first-is, length-append (take n cursor.own.backlog.lines) (all_lines (between log tail run.end)), length-take n cursor.own.backlog.lines);
  }

module _ (log : List LogEntry) (cursor : Cursor) (count : ℕ) (part : LogPart) (is : IsLogPart log cursor count part) where
  -- what is left where a part was taken
  pub row-after : row_of log (record { own = own_with (with_lines cursor.own.backlog (drop part.own cursor.own.backlog.lines)) cursor.own; tail = Some part.end }) ≡ taken count (row_of log cursor)
  row-after =
      let open' : (after_all cursor.own.backlog (drop part.tail log)).lags ≡ false = sym (ap (λ t. (owed log cursor.own.backlog t).lags) is.member) ∙ is.fits in
      let split : after_all cursor.own.backlog (drop part.tail log) ≡ after_all (after_all cursor.own.backlog (between log part.tail part.end)) (drop part.end log) =
      ap (after_all cursor.own.backlog) (parted log part.tail part.end is.from) ∙ after-append cursor.own.backlog (between log part.tail part.end) (drop part.end log) in
      let later : (after_all (after_all cursor.own.backlog (between log part.tail part.end)) (drop part.end log)).lags ≡ false = sym (ap (λ (b : Backlog). b.lags) split) ∙ open' in
      let first : after_all cursor.own.backlog (between log part.tail part.end) ≡ with_lines cursor.own.backlog (cursor.own.backlog.lines ++ all_lines (between log part.tail part.end)) =
      all-fit cursor.own.backlog (between log part.tail part.end) (open-before (after_all cursor.own.backlog (between log part.tail part.end)) (drop part.end log) later) in
      let whole : (row_of log cursor).backlog ≡ with_lines cursor.own.backlog (cursor.own.backlog.lines ++ all_lines (drop part.tail log)) =
      ap (owed log cursor.own.backlog) is.member ∙ all-fit cursor.own.backlog (drop part.tail log) open' in
      ap₂ (λ b m. record { backlog = b; is_member = m })
      (less-fits (with_lines cursor.own.backlog (cursor.own.backlog.lines ++ all_lines (between log part.tail part.end))) (drop part.end log) (drop part.own cursor.own.backlog.lines)
      (omega (arith, length-drop part.own cursor.own.backlog.lines, length-append cursor.own.backlog.lines (all_lines (between log part.tail part.end))))
      (size-less part.own cursor.own.backlog.lines (all_lines (between log part.tail part.end)))
      (sym (ap (λ (b : Backlog). (after_all b (drop part.end log)).lags) first) ∙ later)
      ∙ ap (with_lines cursor.own.backlog) is.rest
      ∙ sym (ap (λ (b : Backlog). with_lines b (drop count (row_of log cursor).backlog.lines)) whole))
      (sym (ap is_some is.member))

-- ---- at its place

map-changed : {X Y : Type 0} (f : X → Y) (g : Y → Y) (i : ℕ) (xs : List X) (x y : X) → x ≡ get_or xs i x → i < length xs → f y ≡ g (f x) → map f (set xs i y) ≡ at_place i g (map f xs)
map-changed f g i [] x y at within is = absurd (omega (arith, within))
map-changed f g zero (z ∷ zs) x y at within is = ap (λ w. w ∷ map f zs) (is ∙ ap (λ v. g (f v)) at)
map-changed f g (suc i) (z ∷ zs) x y at within is = ap (λ ws. f z ∷ ws) (map-changed f g i zs x y at (omega (arith, within)) is)

all-set : {X : Type 0} (P : X → Type 0) (i : ℕ) (xs : List X) (y : X) → P y → All P xs → All P (set xs i y)
all-set P i [] y holds all = all
all-set P zero (z ∷ zs) y holds all = All-cons P y zs holds (All-tail P z zs all)
all-set P (suc i) (z ∷ zs) y holds all = All-cons P z (set zs i y) (All-head P z zs all) (all-set P i zs y holds (All-tail P z zs all))

and-false : (b : Bool) → (b && false) ≡ false
and-false true = refl
and-false false = refl

pub taken-is : (log : List LogEntry) (cursors : List Cursor) (place count : ℕ) (before : List ℕ) (part : LogPart) (cursor now : Cursor) (after : List ℕ) → cursor ≡ get_or cursors place cursor → place < length cursors
    → IsLogPart log cursor count part → AreWithin log cursors → row_of log now ≡ taken count (row_of log cursor) → IsInLog (length log) now
    → after ≡ before ++ concat (take count (row_of log cursor).backlog.lines) → IsTakenPart log cursors place count before (record { lines = part.lines; ended = false }) (set cursors place now) after
taken-is log cursors place count before part cursor now after at inside is all row within bytes =
    let read : backlog_of log cursors place ≡ (row_of log cursor).backlog = ap (λ (r : Row). r.backlog) (read-map (row_of log) place cursors cursor (new_row 0 0) at inside) in
    record {
      rows = map-changed (row_of log) (taken count) place cursors cursor now at inside row;
      within = all-set (IsInLog (length log)) place cursors now within all;
      bytes = bytes ∙ ap (λ (b : Backlog). before ++ concat (take count b.lines)) (sym read);
      lines = is.lines ∙ ap (λ (b : Backlog). length (take count b.lines)) (sym read);
      ended = sym (ap (λ (b : Backlog). (length (drop count b.lines) == 0) && b.lags) read ∙ ap (λ f. (length (drop count (row_of log cursor).backlog.lines) == 0) && f) is.fits
          ∙ and-false (length (drop count (row_of log cursor).backlog.lines) == 0));
    }

pub same-item : {A : Type 0} (xs : List A) (i : ℕ) (d e : A) → i < length xs → get_or xs i d ≡ get_or xs i e
same-item [] i d e within = absurd (omega (arith, within))
same-item (x ∷ xs) zero d e within = refl
same-item (x ∷ xs) (suc i) d e within = same-item xs i d e (omega (arith, within))

-- the same of the cursor that was read twice
pub taken-at : (log : List LogEntry) (cursors : List Cursor) (place count : ℕ) (before : List ℕ) (part : LogPart) (d e now : Cursor) (after : List ℕ) → place < length cursors
    → IsLogPart log (get_or cursors place d) count part → AreWithin log cursors → row_of log now ≡ taken count (row_of log (get_or cursors place e)) → IsInLog (length log) now
    → after ≡ before ++ concat (take count (row_of log (get_or cursors place e)).backlog.lines)
    → IsTakenPart log cursors place count before (record { lines = part.lines; ended = false }) (set cursors place now) after
taken-at log cursors place count before part d e now after inside is all row within bytes =
    taken-is log cursors place count before part (get_or cursors place e) now after (same-item cursors place e (get_or cursors place e) inside) inside
    (subst (λ (cursor : Cursor). IsLogPart log cursor count part) (same-item cursors place d e inside) is) all row within bytes
