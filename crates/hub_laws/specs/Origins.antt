-- No line is forged: each is the hub's own, says who a user is and names that user, or is a message as it was sent, under its sender's own SID.
use Rattle.std.specs.Prelude.{◌≡◌, ℕ, true, false, List, [], ◌∷◌, ◌++◌, Some}
use Rattle.std.specs.List.{AllByRecursion}
use Rattle.adc_line.specs.Lines.{Reading}
use Rattle.adc_line.specs.Header.{letter}
use Rattle.adc_line.specs.declared.header.Kind.TheVariants.{Info}
use Rattle.inf_fields.specs.Field.{Field}
use Rattle.login_state.specs.declared.stage.Stage.TheVariants.{Normal}
use Rattle.hub_rules.specs.declared.history.Call.TheVariants.{Line}
use Rattle.hub_rules.specs.declared.history.Entry.{Entry}
use Rattle.hub_rules.specs.Configured.{Configured}
use Rattle.hub_rules.specs.History.{sid, stage}
use Rattle.hub_rules.specs.Texts.{update_line}
use Rattle.hub_laws.specs.Messages.{goes_to_users, is_hub_command}
use Rattle.hub_laws.specs.SenderOrder.{lines_added}
use Rattle.hub_laws.specs.Refusals.{accepted}
use Rattle.hub_laws.specs.Welcome.{info_line}

-- where a line comes from that the entry e adds
pub data Origin (setup : Configured) (hash : List ℕ → List ℕ) (h : List Entry) (e : Entry) (line : List ℕ) : Type 0 where
  -- it is of type I, which a hub alone sends
  of_the_hub : (rest : List ℕ) → line ≡ letter Info ∷ rest → Origin setup hash h e line
  -- it is the BINF of a user who is present, and names it
  of_user : (c : ℕ) → stage setup hash h c ≡ Normal → line ≡ info_line setup hash h c → Origin setup hash h e line
  -- it is the BINF of the user who enters by this entry, and names it
  of_entrant : (c : ℕ) → stage setup hash (e ∷ h) c ≡ Normal → line ≡ info_line setup hash (e ∷ h) c → Origin setup hash h e line
  -- it is the BINF of fields that its sender changed, and names that sender
  of_update : (c : ℕ) (bytes : List ℕ) (now : ℕ) (u : List Field) → e.call ≡ Line c bytes now → stage setup hash h c ≡ Normal → line ≡ update_line (sid setup hash h c) u
      → Origin setup hash h e line
  -- it is the message that its sender sent, byte for byte, of the type B, D, E or F, under its own SID, and of no command of the hub's
  of_message : (c : ℕ) (bytes : List ℕ) (now : ℕ) (message : Reading) → e.call ≡ Line c bytes now → accepted setup hash h c bytes now ≡ Some message
      → message.from ≡ Some (sid setup hash h c) → goes_to_users message.kind ≡ true → is_hub_command message.command ≡ false → line ≡ bytes ++ 10 ∷ [] → Origin setup hash h e line

-- each line that an entry adds to what a connection is owed has such an origin
abbrev pub LinesHaveOrigins : Type 0
LinesHaveOrigins =
    (setup : Configured) (hash : List ℕ → List ℕ) (h : List Entry) (e : Entry) (d : ℕ) → AllByRecursion (Origin setup hash h e) (lines_added setup hash h e d)
