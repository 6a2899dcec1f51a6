-- The message that bytes say (ADC 1.0, "Message syntax"), and the first fault of those that say none.
use Rattle.std.specs.Prelude.{ℕ, not, nat_lt, List, drop, length, Option, Some, None, Result, Ok, Err, if◌then◌else◌}
use Rattle.std.specs.Option.{option_map_or}
use Rattle.std.specs.Str.{is_utf8}
use Rattle.adc_line.specs.declared.fault.LineFault.{LineFault}
use Rattle.adc_line.specs.declared.fault.LineFault.TheVariants as faults
use Rattle.adc_line.specs.declared.header.Header.{Header}
use Rattle.adc_line.specs.declared.header.Kind.{Kind}
use Rattle.adc_line.specs.declared.header.Kind.TheVariants as kinds
use Rattle.adc_line.specs.Frames.{max_line}
use Rattle.adc_line.specs.Header.{header_at, header_words}
use Rattle.adc_line.specs.Parameters.{params_fault}
use Rattle.adc_line.specs.Words.{words, word_at}

-- a message: its text whole, and what its words say
pub record Reading : Type 0 where
  pub text : List ℕ
  pub kind : Kind
  pub command : List ℕ
  pub from : Option ℕ
  pub target : Option ℕ
  pub features : Option (List ℕ)
  pub params : List (List ℕ)

-- a message to those with certain features names them in its third word
abbrev pub features_of : Kind → List (List ℕ) → Option (List ℕ)
features_of kinds.Feature ws = Some (word_at ws 2)
features_of kind ws = None

-- the parameters are the words after the header
abbrev pub params_of : Kind → List (List ℕ) → List (List ℕ)
params_of kind ws = drop (header_words kind) ws

-- the message of a text with this header
abbrev pub message : List ℕ → Header → Reading
message text header = record {
  text = text;
  kind = header.head.kind;
  command = header.head.command;
  from = header.from;
  target = header.target;
  features = features_of header.head.kind (words text);
  params = params_of header.head.kind (words text);
}

-- what a text says by its header, or the fault of its header or of its parameters
abbrev pub with_header : List ℕ → Option Header → Result Reading LineFault
with_header text None = Err faults.Header
with_header text (Some header) =
    option_map_or (λ (fault : LineFault). Err fault) (params_fault (params_of header.head.kind (words text))) (Ok (message text header))

-- what bytes say: length and UTF-8, then a header, then the parameters
unfoldable pub reading : List ℕ → Result Reading LineFault
reading bytes =
    if nat_lt max_line (length bytes) then Err faults.TooLong
    else if not (is_utf8 bytes) then Err faults.NotUtf8
    else with_header bytes (header_at (words bytes))
