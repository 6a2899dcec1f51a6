-- A text writes one history at most, and what is at fault in it is not legal.
use Rattle.std.proofs.Common.{◌≡◌, ◌∙◌, ap, refl, sym, subst, ℕ, zero, suc, ◌/◌, ◌%◌, ◌^◌, ◌<◌, ◌||◌, Bool, true, false, cond, eqb, ltb, List, [], ◌∷◌, ◌++◌, inl, inr, length, get_or, take, drop, append_assoc, arith}
use Rattle.std.specs.Prelude.{reverse}
use Rattle.std.proofs.lemmas.Bool.{eqb-false, or_parts}
use Rattle.std.proofs.lemmas.Fmt.{decimal_is_IsNumeral}
use Rattle.std.proofs.lemmas.List.{reverse-append}
use Rattle.std.specs.Fmt.{decimal}
use Rattle.std.proofs.lemmas.List.Elements.{All-head, All-tail}
use Rattle.std.specs.List.{All}
use Rattle.history_check.proofs.Grammar.{one-entry}
use Rattle.history_check.specs.declared.check.Demand.{Demand}
use Rattle.history_check.specs.declared.check.Demand.TheVariants.{NoCall, Gives}
use Rattle.history_check.specs.declared.written.WrittenEntry as written
use Rattle.history_check.specs.Judged.{Demands, IsFaultAt}
use Rattle.history_check.specs.Reported.{written_byte, written_bytes}
use Rattle.history_check.specs.Text.{IsFirstFault, IsHistory, IsNumber, WriteAll, Writes, WritesByte, WritesBytes, entry_lines, hex_digit}
use Rattle.history_check.specs.Written.{entries_of, entry_of, history_of}
use Rattle.hub_rules.specs.declared.history.Entry.{Entry}
use Rattle.hub_rules.specs.Configured.{Configured}
use Rattle.hub_rules.specs.Facts.{facts}
use Rattle.hub_rules.specs.Legal.{Legal, MayCall, reply}

-- ---- one history

one-list : (ls : List (ℕ × List ℕ)) (es others : List Entry) → WriteAll ls es → WriteAll ls others → others ≡ es
one-list [] [] [] is also = refl
one-list [] (e ∷ es) others is also = absurd is
one-list [] [] (x ∷ others) is also = absurd also
one-list (l ∷ ls) [] others is also = absurd is
one-list (l ∷ ls) (e ∷ es) [] is also = absurd also
one-list (l ∷ ls) (e ∷ es) (x ∷ others) is also =
    ap (λ (y : Entry). y ∷ others) (one-entry l.1 e x is.0 also.0) ∙ ap (λ (ys : List Entry). e ∷ ys) (one-list ls es others is.1 also.1)

pub one-history : (text : List ℕ) (es others : List Entry) → IsHistory text es → IsHistory text others → others ≡ es
one-history text es others is also = one-list (entry_lines text) es others is also

-- a line among those that write a history writes an entry
entry-of-line : (before behind : List (ℕ × List ℕ)) (l : ℕ × List ℕ) (es : List Entry) → WriteAll (before ++ l ∷ behind) es → (e : Entry) × Writes l.1 e
entry-of-line [] behind l [] is = absurd is
entry-of-line [] behind l (e ∷ es) is = (e, is.0)
entry-of-line (b ∷ before) behind l [] is = absurd is
entry-of-line (b ∷ before) behind l (e ∷ es) is = entry-of-line before behind l es is.1

pub no-fault : (text : List ℕ) (es : List Entry) (n : ℕ) → IsHistory text es → IsFirstFault text n → ⊥
no-fault text es n is (before, behind, line, entries, parts, so, none) =
    let found = entry-of-line before behind (n, line) es (subst (λ (ls : List (ℕ × List ℕ)). WriteAll ls es) parts is) in
    none found.0 found.1

-- ---- numbers and bytes

pub number-written : (n : ℕ) → n < 2 ^ 64 → IsNumber (decimal n) n
number-written n small = let is = decimal_is_IsNumeral n small in (is.0, is.1, small)

byte-written : (byte : ℕ) (b : Bool) → (ltb byte 32 || eqb byte 37) ≡ b → byte < 256
    → WritesByte (cond b (37 ∷ hex_digit (byte / 16) ∷ hex_digit (byte % 16) ∷ []) (byte ∷ [])) byte
byte-written byte true is small = inr (refl, small)
byte-written byte false is small = inl (refl, eqb-false byte 37 (or_parts (ltb byte 32) (eqb byte 37) is).1)

pub bytes-written : (bytes : List ℕ) → All (λ b. b < 256) bytes → WritesBytes (written_bytes bytes) bytes
unfolding written_bytes
bytes-written [] small = refl
bytes-written (byte ∷ bytes) small =
    (written_byte byte, written_bytes bytes, refl, byte-written byte (ltb byte 32 || eqb byte 37) refl (All-head (λ b. b < 256) byte bytes small), bytes-written bytes (All-tail (λ b. b < 256) byte bytes small))

-- ---- parts of a legal history

pub legal-part : (setup : Configured) (hash : List ℕ → List ℕ) (xs h : List Entry) → Legal setup hash (xs ++ h) → Legal setup hash h
unfolding Legal
legal-part setup hash [] h is = is
legal-part setup hash (x ∷ xs) h is = legal-part setup hash xs h is.0

pub legal-first : (setup : Configured) (hash : List ℕ → List ℕ) (e : Entry) (h : List Entry) → Legal setup hash (e ∷ h)
    → MayCall (facts setup hash h) e.caller e.call × (e.reply ≡ reply setup hash (facts setup hash h) e.caller e.call)
unfolding Legal
legal-first setup hash e h is = (is.1, is.2)

pub reverse-around : (before behind : List Entry) (e : Entry) → reverse (before ++ e ∷ behind) ≡ reverse behind ++ e ∷ reverse before
reverse-around before behind e =
    reverse-append before (e ∷ behind)
    ∙ ap (λ (h : List Entry). h ++ reverse before) (reverse-append (e ∷ []) behind)
    ∙ append_assoc (reverse behind) (e ∷ []) (reverse before)

pub history-reverse : (es : List written.WrittenEntry) (h : List Entry) → history_of es h ≡ reverse (entries_of es) ++ h
unfolding history_of
history-reverse [] h = refl
history-reverse (e ∷ es) h =
    history-reverse es (entry_of e ∷ h)
    ∙ sym (append_assoc (reverse (entries_of es)) (entry_of e ∷ []) h)
    ∙ ap (λ (xs : List Entry). xs ++ h) (sym (reverse-append (entry_of e ∷ []) (entries_of es)))

-- ---- what is at fault

-- an element of a list, between those before it and those behind it
pub at-place : (es : List written.WrittenEntry) (i : ℕ) → i < length es → (e : written.WrittenEntry) × (e ≡ get_or es i e) × (es ≡ take i es ++ e ∷ drop (suc i) es)
at-place [] i within = absurd (omega (arith, within))
at-place (e ∷ es) zero within = (e, refl, refl)
at-place (x ∷ es) (suc i) within =
    let found = at-place es i (omega (arith, within)) in
    (found.0, found.1, ap (λ (xs : List written.WrittenEntry). x ∷ xs) found.2)

pub not-demanded : (setup : Configured) (hash : List ℕ → List ℕ) (h : List Entry) (e : written.WrittenEntry) (demand : Demand) → Demands setup hash h e demand
    → Legal setup hash (entry_of e ∷ h) → ⊥
not-demanded setup hash h e NoCall demands legal = demands (legal-first setup hash (entry_of e) h legal).0
not-demanded setup hash h e (Gives other) demands legal = demands.2 ((legal-first setup hash (entry_of e) h legal).1 ∙ sym demands.1)

history-append : (xs ys : List written.WrittenEntry) (h : List Entry) → history_of (xs ++ ys) h ≡ history_of ys (history_of xs h)
unfolding history_of
history-append [] ys h = refl
history-append (x ∷ xs) ys h = history-append xs ys (entry_of x ∷ h)

history-on : (es : List written.WrittenEntry) (h : List Entry) → (newer : List Entry) × (history_of es h ≡ newer ++ h)
history-on es h = (reverse (entries_of es), history-reverse es h)

cons-history : (e : written.WrittenEntry) (es : List written.WrittenEntry) (h : List Entry) → history_of (e ∷ es) h ≡ history_of es (entry_of e ∷ h)
unfolding history_of
cons-history e es h = refl

pub fault-not-legal : (setup : Configured) (hash : List ℕ → List ℕ) (entries : List written.WrittenEntry) (place : ℕ) (demand : Demand)
    → IsFaultAt setup hash entries place demand → Legal setup hash (history_of entries []) → ⊥
fault-not-legal setup hash entries place demand (within, before, demands) legal =
    let (e, is, parts) = at-place entries place within in
    let h = history_of (take place entries) [] in
    let newer = reverse (entries_of (drop (suc place) entries)) in
    let shown : history_of entries [] ≡ newer ++ entry_of e ∷ h =
    ap (λ (es : List written.WrittenEntry). history_of es []) parts
    ∙ history-append (take place entries) (e ∷ drop (suc place) entries) []
    ∙ cons-history e (drop (suc place) entries) h
    ∙ history-reverse (drop (suc place) entries) (entry_of e ∷ h) in
    not-demanded setup hash h e demand (demands e is) (legal-part setup hash newer (entry_of e ∷ h) (subst (Legal setup hash) shown legal))
