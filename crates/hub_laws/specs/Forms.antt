-- Each line that a connection is owed is one message of the grammar, with one line feed, which stands at its end.
use Rattle.std.specs.Prelude.{◌≡◌, ℕ, true, false, List, [], ◌∷◌, ◌++◌, codes}
use Rattle.std.specs.List.{All, AllByRecursion, Contains, join_with_byte}
use Rattle.std.specs.Str.{IsUtf8}
use Rattle.adc_line.specs.Frames.{HasNoLf}
use Rattle.adc_line.specs.Grammar.{IsAddressed, IsCommand, IsParameter, Reads}
use Rattle.adc_line.specs.Header.{letter}
use Rattle.adc_line.specs.Lines.{Reading}
use Rattle.adc_line.specs.Words.{blank}
use Rattle.adc_line.specs.declared.header.Kind.TheVariants.{Broadcast, Info}
use Rattle.hub_rules.specs.declared.history.Entry.{Entry}
use Rattle.hub_rules.specs.Configured.{Configured, ConfiguredEntry}
use Rattle.hub_rules.specs.History.{about, lines_owed}
use Rattle.hub_rules.specs.Texts.{challenge_line, menu_line, with_line_feed}
use Rattle.hub_laws.specs.Messages.{goes_to_users, is_hub_command}

-- ---- line feeds

-- a text without line feeds, and one line feed behind it
pub record IsWholeLine (line : List ℕ) : Type 0 where
  pub text : List ℕ
  pub ends : line ≡ with_line_feed text
  pub once : HasNoLf text

-- each line that a connection was owed is such a line
abbrev pub LinesEndOnce : Type 0
LinesEndOnce = (setup : Configured) (hash : List ℕ → List ℕ) (h : List Entry) (c : ℕ) → AllByRecursion IsWholeLine (lines_owed setup hash h c)

-- ---- the grammar

-- The text spells this message, as the grammar says: its type and its command, the words that address it as its type demands, its parameters, and
-- one blank between each two words. Of the whole grammar (`Reads`) two facts are missing: the limit of a line's length, and UTF-8.
pub record Spells (text : List ℕ) (message : Reading) : Type 0 where
  pub same : message.text ≡ text
  pub command : IsCommand message.command
  pub addresses : List (List ℕ)
  pub addressed : IsAddressed message.kind addresses message.from message.target message.features
  pub params : All IsParameter message.params
  pub spelt : text ≡ join_with_byte blank ((letter message.kind ∷ message.command) ∷ (addresses ++ message.params))

-- a message of a user: the whole grammar, the type B, D, E or F, and no command of the hub's
pub record IsOfUser (line : List ℕ) : Type 0 where
  pub text : List ℕ
  pub message : Reading
  pub ends : line ≡ with_line_feed text
  pub grammar : Reads text message
  pub kind : goes_to_users message.kind ≡ true
  pub command : is_hub_command message.command ≡ false

-- a message of the hub, of the type I
pub record IsOfHub (line : List ℕ) : Type 0 where
  pub text : List ℕ
  pub message : Reading
  pub ends : line ≡ with_line_feed text
  pub grammar : Spells text message
  pub kind : message.kind ≡ Info

-- a message of the hub that says who a user is: a BINF, in UTF-8
pub record IsInfo (line : List ℕ) : Type 0 where
  pub text : List ℕ
  pub message : Reading
  pub ends : line ≡ with_line_feed text
  pub grammar : Spells text message
  pub utf8 : IsUtf8 text
  pub kind : message.kind ≡ Broadcast
  pub command : message.command ≡ codes "INF"

-- a line is one of these messages, or one of two in which a word is empty
pub data Form (setup : Configured) (challenge line : List ℕ) : Type 0 where
  of_user : IsOfUser line → Form setup challenge line
  of_hub : IsOfHub line → Form setup challenge line
  of_info : IsInfo line → Form setup challenge line
  -- an entry of the menu whose name is empty
  of_nameless : (entry : ConfiguredEntry) → Contains setup.menu entry → entry.name ≡ [] → line ≡ menu_line entry → Form setup challenge line
  -- the challenge of a connection that joined with an empty one
  of_no_challenge : challenge ≡ [] → line ≡ challenge_line challenge → Form setup challenge line

-- each line that a connection was owed has such a form
abbrev pub LinesAreMessages : Type 0
LinesAreMessages =
    (setup : Configured) (hash : List ℕ → List ℕ) (h : List Entry) (c : ℕ)
    → AllByRecursion (Form setup (about setup hash h c).sender.challenge) (lines_owed setup hash h c)
