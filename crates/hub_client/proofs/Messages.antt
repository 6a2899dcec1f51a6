-- The line that is written for a text to the hub is a message with this text.
use Rattle.std.proofs.Common.{◌≡◌, ◌≢◌, sym, ap, refl, ℕ, ◌≤◌, List, [], ◌∷◌, length, None, subst}
use Rattle.std.specs.Prelude.{codes, IfOk, IfErr, MatchResult, Result, Ok, Err}
use Rattle.std.specs.Str.{IsUtf8}
use Rattle.std.proofs.lemmas.List.Elements.{All-cons, All-nil}
use Rattle.adc_line.specs.declared.fault.LineFault.{LineFault}
use Rattle.adc_line.specs.declared.fault.LineFault.TheVariants as faults
use Rattle.adc_line.specs.declared.header.Kind.TheVariants as kinds
use Rattle.adc_line.specs.Escapes.{escaped_text}
use Rattle.adc_line.specs.Frames.{max_line}
use Rattle.adc_line.specs.Grammar.{Reads, IsParameter}
use Rattle.adc_line.specs.Lines.{Reading}
use Rattle.hub_client.specs.Requests.{SaysText, IsOverlong, message_bytes}

-- the message with this text
abbrev pub message_saying : List ℕ → Reading
message_saying text = record {
  text = message_bytes text;
  kind = kinds.Hub;
  command = codes "MSG";
  from = None;
  target = None;
  features = None;
  params = escaped_text text ∷ [];
}

pub reads-saying : (text : List ℕ) → text ≢ [] → IsUtf8 (message_bytes text) → length (message_bytes text) ≤ max_line → Reads (message_bytes text) (message_saying text)
reads-saying text some utf8 short = record {
  text = refl;
  short = short;
  utf8 = utf8;
  command = (77, 83, 71, refl, refl, refl, refl);
  addresses = [];
  addressed = (refl, refl, refl, refl);
  params = All-cons IsParameter (escaped_text text) [] (text, some, refl) (All-nil IsParameter);
  spelt = refl;
}

reads-bytes : (bytes text : List ℕ) → bytes ≡ message_bytes text → text ≢ [] → IsUtf8 bytes → length bytes ≤ max_line → Reads bytes (message_saying text)
reads-bytes bytes text is some utf8 short =
    let P : List ℕ → Type 0 = λ bs. IsUtf8 bs → length bs ≤ max_line → Reads bs (message_saying text) in
    let at : P (message_bytes text) = λ u s. reads-saying text some u s in
    subst P (sym is) at utf8 short

-- what is read of it
pub says-read : (bytes text : List ℕ) (r : Result Reading LineFault) → bytes ≡ message_bytes text → text ≢ [] → IsUtf8 bytes → length bytes ≤ max_line
    → ((line : Reading) → Reads bytes line → MatchResult r (λ read. read ≡ line) (λ fault. fault ≡ faults.Memory)) → IfOk r (λ line. SaysText line text)
says-read bytes text (Ok read) is some utf8 short only =
    let reads : Reads bytes (message_saying text) = reads-bytes bytes text is some utf8 short in
    let same : read ≡ message_saying text = only (message_saying text) reads in
    (ap (λ (l : Reading). l.kind) same, ap (λ (l : Reading). l.command) same, ap (λ (l : Reading). l.params) same)
says-read bytes text (Err fault) is some utf8 short only = tt

pub refused-read : (bytes text : List ℕ) (r : Result Reading LineFault) → bytes ≡ message_bytes text → text ≢ [] → IsUtf8 bytes → length bytes ≤ max_line
    → ((line : Reading) → Reads bytes line → MatchResult r (λ read. read ≡ line) (λ fault. fault ≡ faults.Memory)) → IfErr r (λ fault. IsOverlong fault text)
refused-read bytes text (Ok read) is some utf8 short only = tt
refused-read bytes text (Err fault) is some utf8 short only =
    let reads : Reads bytes (message_saying text) = reads-bytes bytes text is some utf8 short in
    subst (λ (f : LineFault). IsOverlong f text) (sym (only (message_saying text) reads)) tt
