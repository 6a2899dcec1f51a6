-- The lines of a text, read one after another.
use Rattle.std.proofs.Common.{◌≡◌, ◌∙◌, ap, refl, sym, subst, ℕ, suc, ◌+◌, ◌<◌, Bool, true, false, cond, eqb, List, [], ◌∷◌, ◌++◌, length, get_or, take, drop, zero-add, arith}
use Rattle.std.specs.Prelude.{map}
use Rattle.std.proofs.Math.Seq.{split_at, take-length, take-suc}
use Rattle.std.proofs.lemmas.Bool.{eqb-true, false≢true, ne_eqb}
use Rattle.std.proofs.lemmas.Bool.Decides.{Decides-eqb}
use Rattle.std.proofs.lemmas.List.{append-nil, length-take-le, map_push}
use Rattle.std.proofs.lemmas.List.Elements.{filter-append}
use Rattle.std.proofs.lemmas.List.FromFn.{get_or-enumerate_from, length-enumerate_from}
use Rattle.std.proofs.lemmas.Slice.Eq.{starts_is}
use Rattle.std.specs.List.{enumerate_from, filter, slice_split, starts_with}
use Rattle.history_check.specs.declared.written.WrittenEntry as written
use Rattle.history_check.specs.Read.{line_numbers}
use Rattle.history_check.specs.Text.{IsFirstFault, IsHistory, WriteAll, Writes, has_entry, is_line_feed, is_silent}
use Rattle.history_check.specs.Written.{entries_of, entry_of}
use Rattle.hub_rules.specs.declared.history.Entry.{Entry}

-- the lines that have an entry, of lines that are numbered from here on
abbrev pub numbered : ℕ → List (List ℕ) → List (ℕ × List ℕ)
numbered n lines = filter has_entry (enumerate_from n lines)

-- the first so many lines were read
abbrev pub ReadSoFar : List (List ℕ) → ℕ → List written.WrittenEntry → List ℕ → Type 0
ReadSoFar lines count entries numbers =
    WriteAll (numbered 1 (take count lines)) (entries_of entries) × (numbers ≡ map (λ (l : ℕ × List ℕ). l.0) (numbered 1 (take count lines)))

enumerate-append : (n : ℕ) (xs ys : List (List ℕ)) → enumerate_from n (xs ++ ys) ≡ enumerate_from n xs ++ enumerate_from (n + length xs) ys
enumerate-append n [] ys = let k : n ≡ n + 0 = omega arith in ap (λ (m : ℕ). enumerate_from m ys) k
enumerate-append n (x ∷ xs) ys =
    let k : n + 1 + length xs ≡ n + length (x ∷ xs) = omega arith in
    ap (λ (ls : List (ℕ × List ℕ)). (n, x) ∷ ls) (enumerate-append (n + 1) xs ys ∙ ap (λ (m : ℕ). enumerate_from (n + 1) xs ++ enumerate_from m ys) k)

numbered-append : (n : ℕ) (xs ys : List (List ℕ)) → numbered n (xs ++ ys) ≡ numbered n xs ++ numbered (n + length xs) ys
numbered-append n xs ys =
    ap (filter has_entry) (enumerate-append n xs ys) ∙ filter-append has_entry (enumerate_from n xs) (enumerate_from (n + length xs) ys)

length-front : (lines : List (List ℕ)) (k : ℕ) → k < length lines → length (take k lines) ≡ k
length-front lines k within = length-take-le k lines (omega (arith, within))

-- the next line
next-line : (lines : List (List ℕ)) (k : ℕ) (line : List ℕ) → k < length lines → line ≡ get_or lines k line
    → numbered 1 (take (k + 1) lines) ≡ numbered 1 (take k lines) ++ cond (has_entry (k + 1, line)) ((k + 1, line) ∷ []) []
next-line lines k line within is =
    let next : k + 1 ≡ suc k = omega arith in
    let place : 1 + length (take k lines) ≡ k + 1 = omega (arith, length-front lines k within) in
    ap (λ (m : ℕ). numbered 1 (take m lines)) next
    ∙ ap (numbered 1) (take-suc lines k line within ∙ ap (λ (l : List ℕ). take k lines ++ l ∷ []) (sym is))
    ∙ numbered-append 1 (take k lines) (line ∷ [])
    ∙ ap (λ (m : ℕ). numbered 1 (take k lines) ++ cond (has_entry (m, line)) ((m, line) ∷ []) []) place

write-push : (ls : List (ℕ × List ℕ)) (es : List Entry) (l : ℕ × List ℕ) (e : Entry) → WriteAll ls es → Writes l.1 e → WriteAll (ls ++ l ∷ []) (es ++ e ∷ [])
write-push [] [] l e all one = (one, tt)
write-push [] (x ∷ es) l e all one = absurd all
write-push (x ∷ ls) [] l e all one = absurd all
write-push (x ∷ ls) (y ∷ es) l e all one = (all.0, write-push ls es l e all.1 one)

pub read-none : (lines : List (List ℕ)) (entries : List written.WrittenEntry) (numbers : List ℕ) → entries ≡ [] → numbers ≡ [] → ReadSoFar lines 0 entries numbers
read-none lines entries numbers none nothing =
    (subst (λ (es : List written.WrittenEntry). WriteAll [] (entries_of es)) (sym none) tt, nothing)

pub read-silent : (lines : List (List ℕ)) (k : ℕ) (line : List ℕ) (entries : List written.WrittenEntry) (numbers : List ℕ) → k < length lines → line ≡ get_or lines k line
    → is_silent line ≡ true → ReadSoFar lines k entries numbers → ReadSoFar lines (k + 1) entries numbers
read-silent lines k line entries numbers within is silent so =
    let none : cond (has_entry (k + 1, line)) ((k + 1, line) ∷ []) [] ≡ [] = rw silent refl in
    let same : numbered 1 (take (k + 1) lines) ≡ numbered 1 (take k lines) =
    next-line lines k line within is ∙ ap (λ (ls : List (ℕ × List ℕ)). numbered 1 (take k lines) ++ ls) none ∙ append-nil (numbered 1 (take k lines)) in (
      subst (λ (ls : List (ℕ × List ℕ)). WriteAll ls (entries_of entries)) (sym same) so.0,
      so.1 ∙ ap (map (λ (l : ℕ × List ℕ). l.0)) (sym same),
    )

next-entry : (lines : List (List ℕ)) (k : ℕ) (line : List ℕ) → k < length lines → line ≡ get_or lines k line → is_silent line ≡ false
    → numbered 1 (take (k + 1) lines) ≡ numbered 1 (take k lines) ++ (k + 1, line) ∷ []
next-entry lines k line within is spoken =
    let one : cond (has_entry (k + 1, line)) ((k + 1, line) ∷ []) [] ≡ (k + 1, line) ∷ [] = rw spoken refl in
    next-line lines k line within is ∙ ap (λ (ls : List (ℕ × List ℕ)). numbered 1 (take k lines) ++ ls) one

pub read-entry : (lines : List (List ℕ)) (k : ℕ) (line : List ℕ) (entries : List written.WrittenEntry) (numbers : List ℕ) (e : written.WrittenEntry) (number : ℕ)
    → k < length lines → line ≡ get_or lines k line → is_silent line ≡ false → number ≡ k + 1 → Writes line (entry_of e)
    → ReadSoFar lines k entries numbers → ReadSoFar lines (k + 1) (entries ++ e ∷ []) (numbers ++ number ∷ [])
read-entry lines k line entries numbers e number within is spoken at writes so =
    let same = next-entry lines k line within is spoken in
    let more = write-push (numbered 1 (take k lines)) (entries_of entries) (k + 1, line) (entry_of e) so.0 writes in (
      subst (λ (ls : List (ℕ × List ℕ)). WriteAll ls (entries_of (entries ++ e ∷ []))) (sym same)
          (subst (λ (es : List Entry). WriteAll (numbered 1 (take k lines) ++ (k + 1, line) ∷ []) es) (sym (map_push entry_of entries e)) more),
      ap (λ (m : ℕ). numbers ++ m ∷ []) at
          ∙ ap (λ (ns : List ℕ). ns ++ (k + 1) ∷ []) so.1
          ∙ sym (map_push (λ (l : ℕ × List ℕ). l.0) (numbered 1 (take k lines)) (k + 1, line))
          ∙ ap (map (λ (l : ℕ × List ℕ). l.0)) (sym same),
    )

pub read-all : (text : List ℕ) (k : ℕ) (entries : List written.WrittenEntry) (numbers : List ℕ) → k ≡ length (slice_split is_line_feed text)
    → ReadSoFar (slice_split is_line_feed text) k entries numbers → IsHistory text (entries_of entries) × (numbers ≡ line_numbers text)
read-all text k entries numbers all so =
    let lines = slice_split is_line_feed text in
    let whole : take k lines ≡ lines = ap (λ (m : ℕ). take m lines) all ∙ take-length lines in (
      subst (λ (ls : List (List ℕ)). WriteAll (numbered 1 ls) (entries_of entries)) whole so.0,
      so.1 ∙ ap (λ (ls : List (List ℕ)). map (λ (l : ℕ × List ℕ). l.0) (numbered 1 ls)) whole,
    )

pub read-fault : (text : List ℕ) (k : ℕ) (line : List ℕ) (entries : List written.WrittenEntry) (numbers : List ℕ) (number : ℕ) → k < length (slice_split is_line_feed text)
    → line ≡ get_or (slice_split is_line_feed text) k line → is_silent line ≡ false → number ≡ k + 1 → ((e : Entry) → Writes line e → ⊥)
    → ReadSoFar (slice_split is_line_feed text) k entries numbers → IsFirstFault text number
read-fault text k line entries numbers number within is spoken at none so =
    let lines = slice_split is_line_feed text in
    let place : 1 + length (take k lines) ≡ k + 1 = omega (arith, length-front lines k within) in
    let behind = numbered (k + 1 + 1) (drop (suc k) lines) in
    let parts : lines ≡ take k lines ++ line ∷ drop (suc k) lines =
    split_at lines k line within ∙ ap (λ (l : List ℕ). take k lines ++ l ∷ drop (suc k) lines) (sym is) in
    let one : numbered (k + 1) (line ∷ drop (suc k) lines) ≡ (k + 1, line) ∷ behind = rw spoken refl in
    let found : numbered 1 lines ≡ numbered 1 (take k lines) ++ (k + 1, line) ∷ behind =
    ap (numbered 1) parts ∙ numbered-append 1 (take k lines) (line ∷ drop (suc k) lines)
    ∙ ap (λ (m : ℕ). numbered 1 (take k lines) ++ numbered m (line ∷ drop (suc k) lines)) place
    ∙ ap (λ (ls : List (ℕ × List ℕ)). numbered 1 (take k lines) ++ ls) one in
    subst (λ (m : ℕ). IsFirstFault text m) (sym at) (numbered 1 (take k lines), behind, line, entries_of entries, found, so.0, none)

-- ---- a line as the loop has it

pub turn-line : (lines : List (List ℕ)) (k place : ℕ) (line : List ℕ) → k < length (enumerate_from 0 lines) → ◌≡◌ {A = ℕ × List ℕ} (place, line) (get_or (enumerate_from 0 lines) k (place, line))
    → (k < length lines) × (place ≡ k) × (line ≡ get_or lines k line)
turn-line lines k place line within is =
    let inside : k < length lines = omega (arith, within, length-enumerate_from 0 lines) in
    let both = is ∙ get_or-enumerate_from 0 lines k (place, line) inside in
    (inside, ap (λ (p : ℕ × List ℕ). p.0) both ∙ zero-add k, ap (λ (p : ℕ × List ℕ). p.1) both)

pub silent-empty : (line : List ℕ) → eqb (length line) 0 ≡ true → is_silent line ≡ true
silent-empty [] is = refl
silent-empty (c ∷ line) is = let e = eqb-true (length (c ∷ line)) 0 is in absurd (omega (arith, e))

pub silent-hash : (line : List ℕ) (r : Bool) → r ≡ starts_with eqb line (35 ∷ []) → r ≡ true → is_silent line ≡ true
silent-hash line r is so =
    let shown = (starts_is Decides-eqb line (35 ∷ []) r is).0 so in
    ap is_silent shown

pub spoken : (line : List ℕ) (r : Bool) → eqb (length line) 0 ≡ false → r ≡ starts_with eqb line (35 ∷ []) → r ≡ false → is_silent line ≡ false
spoken [] r some is so = absurd (false≢true (sym some))
spoken (c ∷ line) r some is so =
    ne_eqb c 35 (λ hash. false≢true (sym so ∙ (starts_is Decides-eqb (c ∷ line) (35 ∷ []) r is).1 line (ap (λ (x : ℕ). x ∷ line) hash)))
