-- Nobody is present under a CID but who sent the PID of which it is the hash, in the login of its own connection.
use Rattle.std.specs.Prelude.{◌≡◌, ℕ, List, ◌∷◌, ◌++◌, codes, Some, Ok}
use Rattle.adc_base32.specs.Spelled.{spelled_bytes}
use Rattle.adc_line.specs.Lines as lines
use Rattle.adc_line.specs.Lines.{Reading}
use Rattle.adc_line.specs.declared.header.Kind.TheVariants.{Broadcast}
use Rattle.inf_fields.specs.Field.{Field}
use Rattle.inf_fields.specs.FieldNames.{private_id_name}
use Rattle.inf_fields.specs.Updates as updates
use Rattle.login_state.specs.declared.stage.Stage.TheVariants.{Identify, Normal}
use Rattle.hub_rules.specs.declared.history.Call.TheVariants.{Line}
use Rattle.hub_rules.specs.declared.history.Entry.{Entry}
use Rattle.hub_rules.specs.Configured.{Configured}
use Rattle.hub_rules.specs.History.{info, stage}
use Rattle.hub_rules.specs.Identities.{cid_in, value_or_empty}
use Rattle.hub_laws.specs.Refusals.{accepted}

-- in this history the connection sent a login (a BINF) while it could, which was accepted, and whose field PD spells 24 bytes of which this is the hash
pub record HasShown (setup : Configured) (hash : List ℕ → List ℕ) (h : List Entry) (c : ℕ) (cid : List ℕ) : Type 0 where
  pub later : List Entry
  pub entry : Entry
  pub earlier : List Entry
  pub stands : h ≡ later ++ entry ∷ earlier
  pub may : stage setup hash earlier c ≡ Identify
  pub bytes : List ℕ
  pub now : ℕ
  pub call : entry.call ≡ Line c bytes now
  pub line : Reading
  pub reading : lines.reading bytes ≡ Ok line
  pub kind : line.kind ≡ Broadcast
  pub command : line.command ≡ codes "INF"
  pub accepts : accepted setup hash earlier c bytes now ≡ Some line
  pub fields : List Field
  pub words : updates.reading line.params ≡ Ok fields
  pub pid : List ℕ
  pub spells : spelled_bytes 24 (value_or_empty private_id_name fields) ≡ Some pid
  pub hashes : hash pid ≡ cid

-- whoever is present did so, with the hash that is its CID
abbrev pub CidsAreShown : Type 0
CidsAreShown =
    (setup : Configured) (hash : List ℕ → List ℕ) (h : List Entry) (c : ℕ) → stage setup hash h c ≡ Normal → HasShown setup hash h c (cid_in (info setup hash h c))
