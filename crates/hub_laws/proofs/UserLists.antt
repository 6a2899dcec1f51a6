-- The list of users that a client keeps, by the connections whose users it lists.
use Rattle.std.proofs.Common.{◌≡◌, ◌∙◌, sym, ap, ap₂, refl, subst, ℕ, ◌<◌, Bool, true, false, not, ◌||◌, ◌==◌, eqb, List, [], ◌∷◌, ◌++◌, append_assoc, append-nil, map, filter, fold, Some, cond, arith}
use Rattle.std.specs.Prelude.{if◌then◌else◌}
use Rattle.adc_base32.specs.Sids.{sid_at, sid_count, sid_text}
use Rattle.adc_base32.proofs.Spelling.{sid_at-sid_text}
use Rattle.hub_invariants.proofs.Members.{apart, both}
use Rattle.hub_laws.proofs.Words.{ConnState, AllByRecursion, Field, HubView, bytes_eq, bytes_eq-Decides, eq-eqb, eqb-sym, eqb-true, false≢true, fold-append, has, has-append, line_of, list_any, listed_user, merged_with, or-parts, or-true}
use Rattle.hub_laws.proofs.Words.{user_of}
use Rattle.hub_laws.specs.Lists.{Listing, has_user, heard, list_after, updated_listing, with_user, without_user}
use Rattle.hub_laws.proofs.Others.{AreOthers}
use Rattle.hub_laws.proofs.Pieces.{IsTold, other-heard, user-heard}

abbrev pub entry_of : (ℕ → ConnState) → ℕ → Listing
entry_of about x = (sid_text (about x).sender.sid, (about x).fields)

abbrev pub entries : (ℕ → ConnState) → List ℕ → List Listing
entries about cs = map (entry_of about) cs

-- ---- lines, one after another

pub after-more : (xs ys : List (List ℕ)) → list_after (xs ++ ys) ≡ fold heard (list_after xs) ys
unfolding list_after
after-more xs ys = fold-append heard [] xs ys

pub after-none : list_after [] ≡ []
unfolding list_after
after-none = refl

pub others-heard : (users : List Listing) (lines : List (List ℕ)) → AreOthers lines → fold heard users lines ≡ users
others-heard users [] all = refl
others-heard users (line ∷ lines) all = ap (λ us. fold heard us lines) (other-heard line users all.0) ∙ others-heard users lines all.1

-- ---- who is in a list

pub head-has : (x : ℕ) (cs : List ℕ) → has x (x ∷ cs) ≡ true
head-has x cs = ap (λ b. b || has x cs) (eq-eqb x x refl)

pub tail-has : (x d : ℕ) (cs : List ℕ) → has d cs ≡ true → has d (x ∷ cs) ≡ true
tail-has x d cs there = ap (λ b. eqb x d || b) there ∙ or-true (eqb x d)

pub map-same : (f g : ℕ → Listing) (cs : List ℕ) → ((x : ℕ) → has x cs ≡ true → f x ≡ g x) → map f cs ≡ map g cs
map-same f g [] same = refl
map-same f g (x ∷ cs) same = ap₂ (λ (u : Listing) us. u ∷ us) (same x (head-has x cs)) (map-same f g cs (λ d there. same d (tail-has x d cs there)))

pub filter-same : (p q : ℕ → Bool) (cs : List ℕ) → ((x : ℕ) → has x cs ≡ true → p x ≡ q x) → filter p cs ≡ filter q cs
filter-same p q [] same = refl
filter-same p q (x ∷ cs) same = ap₂ (λ b (ys : List ℕ). cond b (x ∷ ys) ys) (same x (head-has x cs)) (filter-same p q cs (λ d there. same d (tail-has x d cs there)))

pub all-kept : (p : ℕ → Bool) (cs : List ℕ) → ((x : ℕ) → has x cs ≡ true → p x ≡ true) → filter p cs ≡ cs
all-kept p [] all = refl
all-kept p (x ∷ cs) all = ap₂ (λ b (ys : List ℕ). cond b (x ∷ ys) ys) (all x (head-has x cs)) (all-kept p cs (λ d there. all d (tail-has x d cs there)))

pub map-append : (about : ℕ → ConnState) (xs ys : List ℕ) → entries about (xs ++ ys) ≡ entries about xs ++ entries about ys
map-append about [] ys = refl
map-append about (x ∷ xs) ys = ap (λ us. entry_of about x ∷ us) (map-append about xs ys)

-- ---- session identifiers as they are spelt

some-same : (m n : ℕ) → Some m ≡ Some n → m ≡ n
some-same m n is = cc is

spelt-once : (m n : ℕ) → m < sid_count → n < sid_count → sid_text m ≡ sid_text n → m ≡ n
spelt-once m n small-m small-n is = some-same m n (sym (sid_at-sid_text m small-m) ∙ ap sid_at is ∙ sid_at-sid_text n small-n)

by-test : (m n : ℕ) (same spelt : Bool) → m < sid_count → n < sid_count → (m == n) ≡ same → bytes_eq (sid_text m) (sid_text n) ≡ spelt → spelt ≡ same
by-test m n true spelt small-m small-n same is = sym is ∙ (bytes_eq-Decides (sid_text m) (sid_text n)).1 (ap sid_text (eqb-true m n same))
by-test m n false true small-m small-n same is =
    absurd (false≢true (sym same ∙ eq-eqb m n (spelt-once m n small-m small-n ((bytes_eq-Decides (sid_text m) (sid_text n)).0 is))))
by-test m n false false small-m small-n same is = refl

pub spelt-same : (m n : ℕ) → m < sid_count → n < sid_count → bytes_eq (sid_text m) (sid_text n) ≡ (m == n)
spelt-same m n small-m small-n = by-test m n (m == n) _ small-m small-n refl refl

-- ---- the users with this identifier, by a test of their connections

abbrev pub Named : (ℕ → ConnState) → List ℕ → (ℕ → Bool) → List ℕ → Type 0
Named about word test cs = (x : ℕ) → has x cs ≡ true → bytes_eq (sid_text (about x).sender.sid) word ≡ test x

named-tail : (about : ℕ → ConnState) (word : List ℕ) (test : ℕ → Bool) (x : ℕ) (cs : List ℕ) → Named about word test (x ∷ cs) → Named about word test cs
named-tail about word test x cs named d there = named d (tail-has x d cs there)

kept-entry : (about : ℕ → ConnState) (b : Bool) (x : ℕ) (cs : List ℕ) → cond b (entry_of about x ∷ entries about cs) (entries about cs) ≡ entries about (cond b (x ∷ cs) cs)
kept-entry about true x cs = refl
kept-entry about false x cs = refl

pub without-entries : (about : ℕ → ConnState) (word : List ℕ) (test : ℕ → Bool) (cs : List ℕ) → Named about word test cs
    → without_user word (entries about cs) ≡ entries about (filter (λ x. not (test x)) cs)
without-entries about word test [] named = refl
without-entries about word test (x ∷ cs) named =
    ap₂ (λ b us. cond (not b) (entry_of about x ∷ us) us) (named x (head-has x cs)) (without-entries about word test cs (named-tail about word test x cs named))
    ∙ kept-entry about (not (test x)) x (filter (λ y. not (test y)) cs)

pub has-entries : (about : ℕ → ConnState) (word : List ℕ) (test : ℕ → Bool) (cs : List ℕ) → Named about word test cs → has_user word (entries about cs) ≡ list_any test cs
has-entries about word test [] named = refl
has-entries about word test (x ∷ cs) named = ap₂ ◌||◌ (named x (head-has x cs)) (has-entries about word test cs (named-tail about word test x cs named))

-- a user with other fields
abbrev pub renewed : (ℕ → ConnState) → (ℕ → Bool) → List Field → ℕ → Listing
renewed about test u x = if test x then (sid_text (about x).sender.sid, merged_with (about x).fields u) else entry_of about x

pub updated-entries : (about : ℕ → ConnState) (word : List ℕ) (test : ℕ → Bool) (u : List Field) (cs : List ℕ) → Named about word test cs
    → map (updated_listing word u) (entries about cs) ≡ map (renewed about test u) cs
updated-entries about word test u [] named = refl
updated-entries about word test u (x ∷ cs) named =
    ap₂ (λ (b : Bool) us. (if b then (sid_text (about x).sender.sid, merged_with (about x).fields u) else entry_of about x) ∷ us) (named x (head-has x cs))
    (updated-entries about word test u cs (named-tail about word test x cs named))

-- ---- those who enter, one after another

-- connections whose identifiers differ
abbrev pub Differing : (ℕ → ConnState) → List ℕ → Type 0
Differing about cs = (x y : ℕ) → has x cs ≡ true → has y cs ≡ true → bytes_eq (sid_text (about x).sender.sid) (sid_text (about y).sender.sid) ≡ (x == y)

-- a user who is not listed yet is listed last
pub listed-last : (about : ℕ → ConnState) (x : ℕ) (fields : List Field) (cs : List ℕ) → Named about (sid_text (about x).sender.sid) (λ y. y == x) cs → has x cs ≡ false
    → with_user (sid_text (about x).sender.sid) fields (entries about cs) ≡ entries about cs ++ (sid_text (about x).sender.sid, fields) ∷ []
listed-last about x fields cs named none =
    ap (λ b. if b then map (updated_listing (sid_text (about x).sender.sid) fields) (entries about cs) else entries about cs ++ (sid_text (about x).sender.sid, fields) ∷ [])
    (has-entries about (sid_text (about x).sender.sid) (λ y. y == x) cs named ∙ none)

other-first : (x y : ℕ) (rest : Bool) → (eqb x y || rest) ≡ false → eqb y x ≡ false
other-first x y rest none = sym (eqb-sym x y (eqb x y) (eqb y x) refl refl) ∙ (or-parts (eqb x y) rest none).0

not-true : (b : Bool) → not b ≡ true → b ≡ false
not-true b is = grind arith

fresh-in : (done cs : List ℕ) (x : ℕ) → apart (done ++ (x ∷ cs)) ≡ true → has x done ≡ false
fresh-in [] cs x once = refl
fresh-in (y ∷ done) cs x once =
    let tests = both (not (has y (done ++ (x ∷ cs)))) (apart (done ++ (x ∷ cs))) once in
    let none = sym (has-append y done (x ∷ cs)) ∙ not-true (has y (done ++ (x ∷ cs))) tests.0 in
    ap₂ ◌||◌ (other-first x y (has y cs) (or-parts (has y done) (has y (x ∷ cs)) none).1) (fresh-in done cs x tests.1)

in-front : (d : ℕ) (xs ys : List ℕ) → has d xs ≡ true → has d (xs ++ ys) ≡ true
in-front d xs ys there = has-append d xs ys ∙ ap (λ b. b || has d ys) there

in-back : (d : ℕ) (xs ys : List ℕ) → has d ys ≡ true → has d (xs ++ ys) ≡ true
in-back d xs ys there = has-append d xs ys ∙ ap (λ b. has d xs || b) there ∙ or-true (has d xs)

pub welcomed : (about : ℕ → ConnState) (hub : HubView) (done cs : List ℕ) → Differing about (done ++ cs) → apart (done ++ cs) ≡ true
    → ((x : ℕ) → AllByRecursion IsTold (about x).fields) → fold heard (entries about done) (map (line_of hub) (map (user_of about) cs)) ≡ entries about (done ++ cs)
unfolding listed_user
welcomed about hub done [] differ once told = ap (entries about) (sym (append-nil done))
welcomed about hub done (x ∷ cs) differ once told =
    let again : done ++ (x ∷ cs) ≡ (done ++ x ∷ []) ++ cs = sym (append_assoc done (x ∷ []) cs) in
    ap (λ us. fold heard us (map (line_of hub) (map (user_of about) cs)))
    (user-heard (about x).sender.sid (about x).fields _ (entries about done) (told x)
    ∙ listed-last about x (about x).fields done (λ y there. differ y x (in-front y done (x ∷ cs) there) (in-back x done (x ∷ cs) (head-has x cs))) (fresh-in done cs x once)
    ∙ sym (map-append about done (x ∷ [])))
    ∙ welcomed about hub (done ++ x ∷ []) cs (subst (Differing about) again differ) (ap apart (sym again) ∙ once) told
    ∙ ap (entries about) (sym again)
