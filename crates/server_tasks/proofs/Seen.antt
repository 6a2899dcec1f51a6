-- One client more is seen.
use Rattle.std.proofs.Common.{◌≡◌, ◌++◌, ◌∷◌, [], ◌||◌, ◌&&◌, ◌∙◌, sym, ap, Bool, true, false, List, ℕ, max, Option, None, Some, arith, refl, if◌then◌else◌}
use Rattle.std.proofs.lemmas.List.Folds.{list_any-append}
use Rattle.server_tasks.specs.Amounts.{is_beyond, larger, no_line}
use Rattle.server_tasks.specs.Backlogs.{far_away, is_waited_for, is_reading, what_waits}
use Rattle.server_tasks.specs.Clients.{seen_with, client_is_behind, reader_is_behind, counted_waits, most_waits, IsSightOf}
use Rattle.server_tasks.specs.Sights.{with_client}
use Rattle.server_tasks.specs.declared.amount.Amount.{Amount}
use Rattle.server_tasks.specs.declared.backlog.Backlog.{Backlog}
use Rattle.server_tasks.specs.declared.sight.Sight.{Sight}
use Rattle.server_tasks.specs.declared.slots.Slot.{Slot}

behind_if : (waited : Bool) (waits : Amount) (reads : Bool) (sight : Sight) →
    (if waited then with_client waits reads sight else sight).is_behind ≡ (sight.is_behind || (waited && is_beyond waits far_away))
behind_if true waits reads sight = refl
behind_if false waits reads sight = grind arith

reads_if : (waited : Bool) (waits : Amount) (reads : Bool) (sight : Sight) →
    (if waited then with_client waits reads sight else sight).one_reads ≡ (sight.one_reads || ((waited && is_beyond waits far_away) && reads))
reads_if true waits reads sight = refl
reads_if false waits reads sight = grind arith

same_amount : (lines other_lines bytes other_bytes : ℕ) → lines ≡ other_lines → bytes ≡ other_bytes →
    (let one : Amount = record { lines = lines; bytes = bytes } in
    let other : Amount = record { lines = other_lines; bytes = other_bytes } in one ≡ other)
same_amount lines other_lines bytes other_bytes same also =
    let with_lines : ℕ → Amount = λ n. record { lines = n; bytes = bytes } in
    let with_bytes : ℕ → Amount = λ n. record { lines = other_lines; bytes = n } in
    ap with_lines same ∙ ap with_bytes also

larger-none : (a : Amount) → a ≡ larger a no_line
larger-none a = same_amount a.lines (max a.lines 0) a.bytes (max a.bytes 0) (omega arith) (omega arith)

larger-comm : (a b : Amount) → larger a b ≡ larger b a
larger-comm a b = same_amount (max a.lines b.lines) (max b.lines a.lines) (max a.bytes b.bytes) (max b.bytes a.bytes) (omega arith) (omega arith)

larger-assoc : (a b c : Amount) → larger a (larger b c) ≡ larger (larger a b) c
larger-assoc a b c =
    same_amount (max a.lines (max b.lines c.lines)) (max (max a.lines b.lines) c.lines) (max a.bytes (max b.bytes c.bytes)) (max (max a.bytes b.bytes) c.bytes)
    (omega arith) (omega arith)

most_if : (waited : Bool) (waits : Amount) (reads : Bool) (sight : Sight) →
    (if waited then with_client waits reads sight else sight).most ≡ larger sight.most (if waited then waits else no_line)
most_if true waits reads sight = refl
most_if false waits reads sight = larger-none sight.most

behind_more : (client : Option Backlog) (said : Amount) (sight : Sight) → (seen_with client said sight).is_behind ≡ (sight.is_behind || client_is_behind client said)
behind_more None said sight = grind arith
behind_more (Some client) said sight = behind_if (is_waited_for client) (what_waits client said) (is_reading client) sight

reads_more : (client : Option Backlog) (said : Amount) (sight : Sight) → (seen_with client said sight).one_reads ≡ (sight.one_reads || reader_is_behind client said)
reads_more None said sight = grind arith
reads_more (Some client) said sight = reads_if (is_waited_for client) (what_waits client said) (is_reading client) sight

most_more : (client : Option Backlog) (said : Amount) (sight : Sight) → (seen_with client said sight).most ≡ larger sight.most (counted_waits client said)
most_more None said sight = larger-none sight.most
most_more (Some client) said sight = most_if (is_waited_for client) (what_waits client said) (is_reading client) sight

most_waits-more : (said : Amount) (slots : List Slot) (slot : Slot) →
    most_waits said (slots ++ slot ∷ []) ≡ larger (most_waits said slots) (counted_waits slot.backlog said)
most_waits-more said [] slot = larger-comm (counted_waits slot.backlog said) no_line
most_waits-more said (one ∷ slots) slot =
    ap (larger (counted_waits one.backlog said)) (most_waits-more said slots slot)
    ∙ larger-assoc (counted_waits one.backlog said) (most_waits said slots) (counted_waits slot.backlog said)

pub sight_more : (sight : Sight) (said : Amount) (slots : List Slot) (slot : Slot) → IsSightOf sight said slots →
    IsSightOf (seen_with slot.backlog said sight) said (slots ++ slot ∷ [])
sight_more sight said slots slot seen = (
  (let all : _ = list_any-append (λ one. client_is_behind one.backlog said) slots (slot ∷ []) in
      let more : _ = behind_more slot.backlog said sight in
      grind (arith, all, more, seen.0)),
  (let all : _ = list_any-append (λ one. reader_is_behind one.backlog said) slots (slot ∷ []) in
      let more : _ = reads_more slot.backlog said sight in
      grind (arith, all, more, seen.1)),
  most_more slot.backlog said sight ∙ ap (λ most. larger most (counted_waits slot.backlog said)) seen.2 ∙ sym (most_waits-more said slots slot),
)
