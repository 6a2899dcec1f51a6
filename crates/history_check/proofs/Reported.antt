-- What is reported is so.
use Rattle.std.proofs.Common.{◌≡◌, ◌∙◌, ap, refl, sym, subst, ℕ, suc, List, [], ◌∷◌, ◌++◌, inl, inr, length, get_or, take, drop, append_assoc, arith}
use Rattle.std.specs.Prelude.{codes, reverse, ◌↔◌}
use Rattle.std.proofs.lemmas.List.{append-nil, length-map, length-take-le, map-append}
use Rattle.std.specs.Fmt.{decimal}
use Rattle.history_check.proofs.Histories.{at-place, history-reverse, legal-first, legal-part, no-fault, one-history, reverse-around}
use Rattle.history_check.specs.declared.check.Demand.{Demand}
use Rattle.history_check.specs.declared.check.Demand.TheVariants.{NoCall, Gives}
use Rattle.history_check.specs.declared.check.Judgement.{Judgement}
use Rattle.history_check.specs.declared.check.Judgement.TheVariants as judgements
use Rattle.history_check.specs.declared.reading.Written.{Written}
use Rattle.history_check.specs.declared.written.WrittenEntry as written
use Rattle.history_check.specs.Judged.{Demands, IsJudged}
use Rattle.history_check.specs.Read.{IsReadAs, line_numbers}
use Rattle.history_check.specs.Reported.{IsLegalText, IsLegalUpTo, ReportsHistory, demand_text, judgement_text, line_text}
use Rattle.history_check.specs.Text.{IsHistory}
use Rattle.history_check.specs.Written.{entries_of, entry_of, history_of, reply_of}
use Rattle.hub_rules.specs.declared.history.Entry.{Entry}
use Rattle.hub_rules.specs.Configured.{Configured}
use Rattle.hub_rules.specs.Facts.{facts}
use Rattle.hub_rules.specs.Legal.{Legal, MayCall, reply}

pub line_text_append : (number : ℕ) (what more : List ℕ) → line_text number what ++ more ≡ line_text number (what ++ more)
unfolding line_text
line_text_append number what more = ap (λ (t : List ℕ). codes "line " ++ t) (append_assoc (decimal number) (32 ∷ what) more)

newest-first : (es : List written.WrittenEntry) → history_of es [] ≡ reverse (entries_of es)
newest-first es = history-reverse es [] ∙ append-nil (reverse (entries_of es))

-- ---- what is judged

fault-at : (setup : Configured) (hash : List ℕ → List ℕ) (text : List ℕ) (number : ℕ) (h before : List Entry) (e : written.WrittenEntry) (demand : Demand) → h ≡ reverse before
    → IsLegalUpTo setup hash text number before (entry_of e) → Demands setup hash h e demand → ReportsHistory setup hash text (line_text number (demand_text demand))
fault-at setup hash text number h before e NoCall is upto demands =
    let there = subst (λ (x : List Entry). Demands setup hash x e NoCall) is demands in
    inr (inr (inl (number, before, entry_of e, refl, upto, there)))
fault-at setup hash text number h before e (Gives other) is upto demands =
    let there = subst (λ (x : List Entry). Demands setup hash x e (Gives other)) is demands in
    inr (inr (inr (number, before, entry_of e, reply_of other, refl, upto, there.0, there.1, there.2)))

pub judged-reports : (setup : Configured) (hash : List ℕ → List ℕ) (text : List ℕ) (made : Written) (judgement : Judgement)
    → IsReadAs text made → IsJudged setup hash made.entries.items judgement → ReportsHistory setup hash text (judgement_text made.lines.items judgement)
judged-reports setup hash text made judgements.Legal read legal =
    inl (refl, (entries_of made.entries.items, read.0, subst (Legal setup hash) (newest-first made.entries.items) legal))
judged-reports setup hash text made (judgements.Fault place demand) read (within, legal, demands) =
    let es = made.entries.items in
    let (e, is, parts) = at-place es place within in
    let before = entries_of (take place es) in
    let behind = entries_of (drop (suc place) es) in
    let shown : entries_of es ≡ before ++ entry_of e ∷ behind = ap entries_of parts ∙ map-append entry_of (take place es) (e ∷ drop (suc place) es) in
    let count : length before ≡ place = length-map (take place es) entry_of ∙ length-take-le place es (omega (arith, within)) in
    let number : get_or made.lines.items place 0 ≡ get_or (line_numbers text) (length before) 0 =
    ap (λ (ns : List ℕ). get_or ns place 0) read.1 ∙ ap (λ (k : ℕ). get_or (line_numbers text) k 0) (sym count) in
    fault-at setup hash text (get_or made.lines.items place 0) (history_of (take place es) []) before e demand (newest-first (take place es))
    (behind, subst (IsHistory text) shown read.0, number, subst (Legal setup hash) (newest-first (take place es)) legal)
    (demands e is)

-- ---- `legal` is reported of legal histories alone

other-text : (number : ℕ) (what : List ℕ) → line_text number what ≡ codes "legal" → ⊥
unfolding line_text
other-text number what is = let second : 105 ≡ 101 = ap (λ (t : List ℕ). get_or t 1 0) is in omega (arith, second)

legal-up-to : (setup : Configured) (hash : List ℕ → List ℕ) (text : List ℕ) (number : ℕ) (before : List Entry) (e : Entry)
    → IsLegalUpTo setup hash text number before e → IsLegalText setup hash text
    → MayCall (facts setup hash (reverse before)) e.caller e.call × (e.reply ≡ reply setup hash (facts setup hash (reverse before)) e.caller e.call)
legal-up-to setup hash text number before e (behind, is, at, so-far) (entries, also, legal) =
    let same : reverse entries ≡ reverse behind ++ e ∷ reverse before =
    ap (λ (es : List Entry). reverse es) (one-history text (before ++ e ∷ behind) entries is also) ∙ reverse-around before behind e in
    legal-first setup hash e (reverse before) (legal-part setup hash (reverse behind) (e ∷ reverse before) (subst (Legal setup hash) same legal))

pub reports-legal : (setup : Configured) (hash : List ℕ → List ℕ) (text report : List ℕ) → ReportsHistory setup hash text report → (report ≡ codes "legal") ↔ IsLegalText setup hash text
reports-legal setup hash text report (inl (is, legal)) = (λ said. legal, λ legal. is)
reports-legal setup hash text report (inr (inl (number, is, fault))) = (
  λ said. absurd (other-text number (codes "is no entry") (sym is ∙ said)),
  λ legal. absurd (no-fault text legal.0 number legal.1 fault),
)
reports-legal setup hash text report (inr (inr (inl (number, before, e, is, upto, never)))) = (
  λ said. absurd (other-text number (codes "may not be called there") (sym is ∙ said)),
  λ legal. absurd (never (legal-up-to setup hash text number before e upto legal).0),
)
reports-legal setup hash text report (inr (inr (inr (number, before, e, given, is, upto, may, gives, other)))) = (
  λ said. absurd (other-text number _ (sym is ∙ said)),
  λ legal. absurd (other ((legal-up-to setup hash text number before e upto legal).1 ∙ sym gives)),
)
