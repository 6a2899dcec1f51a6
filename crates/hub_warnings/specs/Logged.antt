-- What a log was given, and what the journal writes of it.
use Rattle.std.specs.Prelude.{ℕ, List, [], Bool, if◌then◌else◌}
use Rattle.log.specs.declared.level.Level.{Level}
use Rattle.log.specs.declared.record.Record.{Record}
use Rattle.log.specs.Record.{metadata_level, record_metadata}
use Rattle.hub_warnings.specs.declared.journal.Journal.{Journal}
use Rattle.hub_warnings.specs.declared.said.Said.{Said}
use Rattle.hub_warnings.specs.Texts.{priority_text}

module _ {D : Type 0} where
  -- the level and the line that a log was given
  abbrev pub said_level : Said D → Level
  said_level said = said.level

  abbrev pub said_line : Said D → D
  said_line said = said.line

-- the priority before a line of this level, where priorities are asked for
abbrev pub priority_if : Bool → Level → List ℕ
priority_if has_priorities level = if has_priorities then priority_text level else []

-- the level of what is to be logged
abbrev pub level_of : {D K S : Type 0} → Record D K S → Level
level_of entry = metadata_level (record_metadata entry)

-- what a journal waits for its lock with
abbrev pub runtime_of : {R W : Type 0} → Journal R W → R
runtime_of journal = journal.rt

-- its lines begin with their priority
abbrev pub is_prioritised : {R W : Type 0} → Journal R W → Bool
is_prioritised journal = journal.has_priorities
