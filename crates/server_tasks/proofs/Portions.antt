-- A ring of everybody wakes one portion after the other.
use Rattle.std.proofs.Common.{◌≡◌, ◌≢◌, ◌<◌, ◌≤◌, ◌+◌, ◌-◌, ◌∙◌, ◌∷◌, ◌++◌, ◌⊎◌, [], ℕ, zero, suc, Bool, List, Option, Some, None, true, false, arith, refl, sym, subst, ap, inl, inr, IsTrue, is_some, slice_get, get_or, take, drop, length, if◌then◌else◌, ◌==◌}
use Rattle.std.proofs.lemmas.Option.{none-some, same_Some}
use Rattle.std.proofs.lemmas.List.{take-append-le, take_all}
use Rattle.server_tasks.specs.Becomes.{OneBecomes}
use Rattle.server_tasks.specs.Bells.{AreBells, AreDue, is_among, is_unheard, passed_over, woken, woken_if_rung}
use Rattle.server_tasks.specs.Rung.{At, IsRung, IsAwake, IsDue, SameSlots, StaysOrIsWoken}
use Rattle.server_tasks.specs.declared.bells.BellState.{BellState}
use Rattle.server_tasks.specs.declared.bells.Bells.{Bells}
use Rattle.server_tasks.proofs.Indexes.{same_or_not}
use Rattle.server_tasks.proofs.LetGo.{last_there, there_too}

-- where there are as many, there was something
pub there_was : {A : Type 0} (xs ys : List A) → length xs ≡ length ys → (i : ℕ) (x : A) → slice_get xs i ≡ Some x → (y : A) × (slice_get ys i ≡ Some y)
there_was [] ys same i x got = absurd (none-some x got)
there_was (z ∷ xs) [] same i x got = absurd (grind (arith, same))
there_was (z ∷ xs) (y ∷ ys) same zero x got = (y, refl)
there_was (z ∷ xs) (y ∷ ys) same (suc i) x got = there_was xs ys (omega (arith, same)) i x got

nothing_or_some : {A : Type 0} (xs : List A) (i : ℕ) → ((x : A) → slice_get xs i ≡ Some x → ⊥) ⊎ ((x : A) × (slice_get xs i ≡ Some x))
nothing_or_some [] i = inl (λ x got. none-some x got)
nothing_or_some (x ∷ xs) zero = inr (x, refl)
nothing_or_some (x ∷ xs) (suc i) = nothing_or_some xs i

none_or_some : {A : Type 0} (o : Option A) → (o ≡ None) ⊎ IsTrue (is_some o)
none_or_some None = inl refl
none_or_some (Some x) = inr (grind arith)

yes_or_no : (b : Bool) → (b ≡ true) ⊎ (b ≡ false)
yes_or_no true = inl refl
yes_or_no false = inr refl

-- who is rung is awake or due
pub awake_or_due : (bells : Bells) (slot : ℕ) → AreDue bells.bells.items bells.waiting.items bells.due bells.rings → IsRung bells slot → IsAwake bells slot ⊎ IsDue bells slot
awake_or_due bells slot are rung = elim (nothing_or_some bells.bells.items slot) [
  | inl nothing ↦ inl (λ bell got. absurd (nothing bell got))
  | inr some ↦ elim (none_or_some some.0.waker) [
    | inl none ↦ inl (λ bell got. subst (λ b. b.waker ≡ None) (same_Some some.0 bell (sym some.1 ∙ got)) none)
    | inr left ↦ inr (are slot some.0 some.1 left (rung some.0 some.1))
  ]
]

-- nobody hears or forgets a ring as it is woken
pub hears_same : (old new : Bells) (slot : ℕ) (was bell : BellState) → StaysOrIsWoken old new slot → new.rings ≡ old.rings →
    slice_get old.bells.items slot ≡ Some was → slice_get new.bells.items slot ≡ Some bell → is_unheard new.rings bell ≡ is_unheard old.rings was
hears_same old new slot was bell stays rings got there = elim (stays was got) [
  | inl same ↦ ap (is_unheard new.rings) (same_Some bell was (sym there ∙ same)) ∙ ap (λ n. is_unheard n was) rings
  | inr changed ↦ ap (is_unheard new.rings) (same_Some bell (woken was) (sym there ∙ changed.1)) ∙ ap (λ n. is_unheard n was) rings
]

-- so who is rung stays so, and who is not
pub hears_still : (old new : Bells) (slot : ℕ) (is_rung : Bool) → StaysOrIsWoken old new slot → new.rings ≡ old.rings → SameSlots old new →
    At old slot (λ bell. is_unheard old.rings bell ≡ is_rung) → At new slot (λ bell. is_unheard new.rings bell ≡ is_rung)
hears_still old new slot is_rung stays rings slots before bell got =
    let was : _ = there_was new.bells.items old.bells.items slots slot bell got in
    hears_same old new slot was.0 bell stays rings was.1 got ∙ before was.0 was.1

pub woken_again : (old mid new : Bells) (slot : ℕ) → StaysOrIsWoken old mid slot → StaysOrIsWoken mid new slot → mid.rings ≡ old.rings → StaysOrIsWoken old new slot
woken_again old mid new slot first last rings was got = elim (first was got) [
  | inl same ↦ elim (last was same) [
    | inl still ↦ inl still
    | inr changed ↦ inr (subst (λ n. is_unheard n was ≡ true) rings changed.0, changed.1)
  ]
  | inr changed ↦ elim (last (woken was) changed.1) [
    | inl still ↦ inr (changed.0, still)
    | inr more ↦ inr (changed.0, more.1)
  ]
]

pub one_woken : (old new : Bells) (slot : ℕ) → OneBecomes (woken_if_rung old.rings) slot old.bells.items new.bells.items → (place : ℕ) → StaysOrIsWoken old new place
one_woken old new slot becomes place was got = elim (same_or_not slot place) [
  | inl e ↦
      let here : slice_get old.bells.items slot ≡ Some was = subst (λ n. slice_get old.bells.items n ≡ Some was) e got in
      let now : slice_get new.bells.items place ≡ Some (woken_if_rung old.rings was) = subst (λ n. slice_get new.bells.items n ≡ Some (woken_if_rung old.rings was)) (sym e) (becomes.1 was here) in
      elim (yes_or_no (is_unheard old.rings was)) [
        | inl rung ↦ inr (rung, now ∙ ap (λ b. Some (if b then woken was else was)) rung)
        | inr heard ↦ inl (now ∙ ap (λ b. Some (if b then woken was else was)) heard)
      ]
  | inr other ↦ inl (becomes.2 place other ∙ got)
]

-- what holds of each other bell, and of what became of one, holds of each
pub each_become : {A : Type 0} (P : ℕ → A → Type 0) (f : A → A) (slot : ℕ) (old new : List A) → OneBecomes f slot old new →
    ((place : ℕ) (x : A) → slice_get old place ≡ Some x → place ≢ slot → P place x) → ((was : A) → slice_get old slot ≡ Some was → P slot (f was)) →
    (place : ℕ) (x : A) → slice_get new place ≡ Some x → P place x
each_become P f slot old new becomes others here place x got = elim (same_or_not slot place) [
  | inl e ↦
      let at : slice_get new slot ≡ Some x = subst (λ n. slice_get new n ≡ Some x) e got in
      let was : _ = there_was new old becomes.0 slot x at in
      let is : f was.0 ≡ x = same_Some (f was.0) x (sym (becomes.1 was.0 was.1) ∙ at) in
      subst (λ n. P n x) (sym e) (subst (P slot) is (here was.0 was.1))
  | inr ne ↦ others place x (sym (becomes.2 place ne) ∙ got) ne
]

pub front_of : (slots : List ℕ) (slot : ℕ) → 0 < length slots → slot ≡ get_or slots 0 slot → slots ≡ slot ∷ drop 1 slots
front_of [] slot lt is = absurd (omega (arith, lt))
front_of (first ∷ rest) slot lt is = ap (λ n. n ∷ rest) (sym is)

among_rest : (place slot : ℕ) (rest : List ℕ) → place ≢ slot → IsTrue (is_among place (slot ∷ rest)) → IsTrue (is_among place rest)
among_rest place slot rest ne there = grind (arith, ne, there)

less_due : (due place slot : ℕ) (rest : List ℕ) → 0 < due → place ≢ slot → IsTrue (is_among place (take due (slot ∷ rest))) → IsTrue (is_among place (take (due - 1) rest))
less_due zero place slot rest lt ne there = absurd (omega (arith, lt))
less_due (suc due) place slot rest lt ne there =
    let same : suc due - 1 ≡ due = omega arith in
    subst (λ n. IsTrue (is_among place (take n rest))) (sym same) (among_rest place slot (take due rest) ne there)

-- the first was woken, and waits no more
pub gone_are : (bells new : List BellState) (slot : ℕ) (rest : List ℕ) (rings : ℕ) → OneBecomes (woken_if_rung rings) slot bells new →
    ((was : BellState) → slice_get bells slot ≡ Some was → is_unheard rings was ≡ true) → AreBells bells (slot ∷ rest) rings → AreBells new rest rings
gone_are bells new slot rest rings becomes rung are =
    each_become
    (λ place bell. (IsTrue bell.waits → IsTrue (is_among place rest)) × (IsTrue (is_some bell.waker) → IsTrue (is_among place rest)) × (bell.heard ≤ rings))
    (woken_if_rung rings) slot bells new becomes
    (λ place bell got ne.
    (λ w. among_rest place slot rest ne ((are place bell got).0 w), λ w. among_rest place slot rest ne ((are place bell got).1 w), (are place bell got).2))
    (λ was got. subst
    (λ b. (IsTrue (if b then woken was else was).waits → IsTrue (is_among slot rest)) × (IsTrue (is_some (if b then woken was else was).waker) → IsTrue (is_among slot rest))
    × ((if b then woken was else was).heard ≤ rings))
    (sym (rung was got)) (λ w. grind (arith, w), λ w. grind (arith, w), (are slot was got).2))

pub gone_due : (bells new : List BellState) (slot : ℕ) (rest : List ℕ) (due rings : ℕ) → OneBecomes (woken_if_rung rings) slot bells new →
    ((was : BellState) → slice_get bells slot ≡ Some was → is_unheard rings was ≡ true) → 0 < due → AreDue bells (slot ∷ rest) due rings → AreDue new rest (due - 1) rings
gone_due bells new slot rest due rings becomes rung lt are =
    each_become
    (λ place bell. IsTrue (is_some bell.waker) → is_unheard rings bell ≡ true → IsTrue (is_among place (take (due - 1) rest)))
    (woken_if_rung rings) slot bells new becomes
    (λ place bell got ne left unheard. less_due due place slot rest lt ne (are place bell got left unheard))
    (λ was got. subst
    (λ b. IsTrue (is_some (if b then woken was else was).waker) → is_unheard rings (if b then woken was else was) ≡ true → IsTrue (is_among slot (take (due - 1) rest)))
    (sym (rung was got)) (λ left unheard. grind (arith, left)))

-- the first has heard all rings, and waits behind the others
pub kept_are : (bells new : List BellState) (slot : ℕ) (rest : List ℕ) (rings : ℕ) → OneBecomes (woken_if_rung rings) slot bells new →
    ((was : BellState) → slice_get bells slot ≡ Some was → is_unheard rings was ≡ false) → AreBells bells (slot ∷ rest) rings → AreBells new (rest ++ slot ∷ []) rings
kept_are bells new slot rest rings becomes heard are =
    each_become
    (λ place bell. (IsTrue bell.waits → IsTrue (is_among place (rest ++ slot ∷ []))) × (IsTrue (is_some bell.waker) → IsTrue (is_among place (rest ++ slot ∷ []))) × (bell.heard ≤ rings))
    (woken_if_rung rings) slot bells new becomes
    (λ place bell got ne.
    (λ w. there_too place slot rest (among_rest place slot rest ne ((are place bell got).0 w)), λ w. there_too place slot rest (among_rest place slot rest ne ((are place bell got).1 w)), (are place bell got).2))
    (λ was got. subst
    (λ b. (IsTrue (if b then woken was else was).waits → IsTrue (is_among slot (rest ++ slot ∷ []))) × (IsTrue (is_some (if b then woken was else was).waker) → IsTrue (is_among slot (rest ++ slot ∷ [])))
    × ((if b then woken was else was).heard ≤ rings))
    (sym (heard was got)) (λ w. last_there slot rest, λ w. last_there slot rest, (are slot was got).2))

pub kept_due : (bells new : List BellState) (slot : ℕ) (rest : List ℕ) (due rings : ℕ) → OneBecomes (woken_if_rung rings) slot bells new →
    ((was : BellState) → slice_get bells slot ≡ Some was → is_unheard rings was ≡ false) → 0 < due → due ≤ length (slot ∷ rest) → AreDue bells (slot ∷ rest) due rings →
    AreDue new (rest ++ slot ∷ []) (due - 1) rings
kept_due bells new slot rest due rings becomes heard lt le are =
    let same : take (due - 1) (rest ++ slot ∷ []) ≡ take (due - 1) rest = take-append-le (due - 1) rest (slot ∷ []) (omega (arith, lt, le)) in
    each_become
    (λ place bell. IsTrue (is_some bell.waker) → is_unheard rings bell ≡ true → IsTrue (is_among place (take (due - 1) (rest ++ slot ∷ []))))
    (woken_if_rung rings) slot bells new becomes
    (λ place bell got ne left unheard. subst (λ w. IsTrue (is_among place w)) (sym same) (less_due due place slot rest lt ne (are place bell got left unheard)))
    (λ was got. subst
    (λ b. IsTrue (is_some (if b then woken was else was).waker) → is_unheard rings (if b then woken was else was) ≡ true → IsTrue (is_among slot (take (due - 1) (rest ++ slot ∷ []))))
    (sym (heard was got)) (λ left unheard. let all : is_unheard rings was ≡ false = heard was got in grind (arith, unheard, all)))

-- more that wait behind those who are due
pub due_grown : (bells : List BellState) (old new : List ℕ) (due rings : ℕ) → take due new ≡ take due old → AreDue bells old due rings → AreDue bells new due rings
due_grown bells old new due rings same are slot bell got left unheard = subst (λ w. IsTrue (is_among slot w)) (sym same) (are slot bell got left unheard)

passed_bound : (rings : ℕ) (was : BellState) → was.heard < rings → (passed_over rings was).heard ≤ rings
passed_bound rings was lt = elim (yes_or_no (was.heard == rings - 1)) [
  | inl last ↦ subst (λ b. (if b then rings else was.heard) ≤ rings) (sym last) (omega arith)
  | inr earlier ↦ subst (λ b. (if b then rings else was.heard) ≤ rings) (sym earlier) (omega (arith, lt))
]

passed_heard : (before : ℕ) (was : BellState) → was.heard ≤ before → is_unheard (before + 1) (passed_over (before + 1) was) ≡ is_unheard before was
passed_heard before was le =
    let less : before + 1 - 1 ≡ before = omega arith in
    elim (yes_or_no (was.heard == before)) [ inl last ↦ grind (arith, last, less) | inr earlier ↦ grind (arith, earlier, less, le) ]

-- a ring of everybody but one is counted
pub counted_are : (bells new : List BellState) (own : ℕ) (waiting : List ℕ) (rings next : ℕ) → next ≡ rings + 1 → OneBecomes (passed_over next) own bells new →
    AreBells bells waiting rings → AreBells new waiting next
counted_are bells new own waiting rings next is becomes are =
    each_become
    (λ place bell. (IsTrue bell.waits → IsTrue (is_among place waiting)) × (IsTrue (is_some bell.waker) → IsTrue (is_among place waiting)) × (bell.heard ≤ next))
    (passed_over next) own bells new becomes
    (λ place bell got ne. let bound : bell.heard ≤ rings = (are place bell got).2 in ((are place bell got).0, (are place bell got).1, omega (arith, bound, is)))
    (λ was got. let bound : was.heard ≤ rings = (are own was got).2 in ((are own was got).0, (are own was got).1, passed_bound next was (omega (arith, bound, is))))

pub counted_due : (bells : List BellState) (waiting : List ℕ) (due rings : ℕ) → due ≡ length waiting → AreBells bells waiting rings → AreDue bells waiting due rings
counted_due bells waiting due rings all are slot bell got left unheard =
    subst (λ w. IsTrue (is_among slot w)) (sym (take_all due waiting (omega (arith, all)))) ((are slot bell got).1 left)

late : (rings : ℕ) (bell : BellState) → bell.heard < rings → is_unheard rings bell ≡ true
late rings bell lt = grind (arith, lt)

pub others_rung : (bells new : List BellState) (own : ℕ) (waiting : List ℕ) (rings next : ℕ) → next ≡ rings + 1 → OneBecomes (passed_over next) own bells new →
    AreBells bells waiting rings → (slot : ℕ) → slot ≢ own → (bell : BellState) → slice_get new slot ≡ Some bell → is_unheard next bell ≡ true
others_rung bells new own waiting rings next is becomes are slot ne bell got =
    let bound : bell.heard ≤ rings = (are slot bell (sym (becomes.2 slot ne) ∙ got)).2 in
    late next bell (omega (arith, bound, is))

pub own_stays : (bells new : List BellState) (own : ℕ) (waiting : List ℕ) (rings next : ℕ) → next ≡ rings + 1 → OneBecomes (passed_over next) own bells new →
    AreBells bells waiting rings → (was : BellState) → slice_get bells own ≡ Some was → (bell : BellState) → slice_get new own ≡ Some bell → is_unheard next bell ≡ is_unheard rings was
own_stays bells new own waiting rings next is becomes are was got bell there =
    let same : bell ≡ passed_over next was = same_Some bell (passed_over next was) (sym there ∙ becomes.1 was got) in
    ap (is_unheard next) same ∙ subst (λ n. is_unheard n (passed_over n was) ≡ is_unheard rings was) (sym is) (passed_heard rings was (are own was got).2)
