-- The texts of warnings.
use Rattle.std.specs.Prelude.{ℕ, ◌/◌, ◌%◌, Bool, List, [], ◌∷◌, ◌++◌, codes, Option, Some, None, if◌then◌else◌}
use Rattle.std.specs.declared.net.socket_addr.SocketAddrV4.{SocketAddrV4}
use Rattle.std.specs.Net.Text.{socket_v4_text, socket_text}
use Rattle.jiff_core.specs.declared.civil.date.Date.{Date}
use Rattle.jiff_core.specs.declared.civil.time.Time.{Time}
use Rattle.std.specs.Fmt.{decimal, signed_decimal}
use Rattle.hub_warnings.specs.declared.cause.Cause.{Cause}
use Rattle.hub_warnings.specs.declared.cause.Cause.TheVariants as causes
use Rattle.hub_warnings.specs.declared.moment.Moment.{Moment}
use Rattle.hub_warnings.specs.declared.lines.Warning.{Warning}
use Rattle.hub_warnings.specs.declared.lines.Dropped.{Dropped}
use Rattle.hub_warnings.specs.declared.lines.Start.{Start}
use Rattle.hub_warnings.specs.declared.lines.EndLine.{EndLine}
use Rattle.log.specs.declared.level.Level.{Level}
use Rattle.log.specs.declared.level.Level.TheVariants as levels

unfoldable pub cause_text : Cause → List ℕ
cause_text causes.ReadFailed = codes "a session ended by ReadFailed"
cause_text causes.WriteFailed = codes "a session ended by WriteFailed"
cause_text causes.TooLong = codes "a session ended by TooLong"
cause_text causes.OutOfMemory = codes "a session ended by Memory"
cause_text causes.Refused = codes "a connection was refused by Memory"
cause_text causes.Lost = codes "a connection was lost by Memory"

-- a number below 100
abbrev pub two_digits : ℕ → List ℕ
two_digits n = decimal (n / 10) ++ decimal (n % 10)

-- as 2026-11-25
abbrev pub date_text : Date → List ℕ
date_text d = signed_decimal d.year ++ (codes "-" ++ (two_digits d.month ++ (codes "-" ++ two_digits d.day)))

-- as 13:07:11
abbrev pub time_text : Time → List ℕ
time_text t = two_digits t.hour ++ (codes ":" ++ (two_digits t.minute ++ (codes ":" ++ two_digits t.second)))

-- as 2026-11-25T13:07:11Z
abbrev pub moment_text : Moment → List ℕ
moment_text m = date_text m.date ++ (codes "T" ++ (time_text m.time ++ codes "Z"))

-- what stands before a line for the journal
unfoldable pub priority_text : Level → List ℕ
priority_text levels.Error = codes "<3>"
priority_text levels.Warn = codes "<4>"
priority_text levels.Info = codes "<6>"
priority_text levels.Debug = codes "<7>"
priority_text levels.Trace = codes "<7>"

-- a line of the journal: the end of the one before, if that was torn, the priority, the words, and its own end
abbrev pub journal_line : Bool → List ℕ → List ℕ → List ℕ
journal_line is_torn priority words = (if is_torn then 10 ∷ [] else []) ++ (priority ++ (words ++ 10 ∷ []))

-- what follows the time of a warning: the peer where it is known, and the cause
abbrev pub of_peer : Option SocketAddrV4 → List ℕ → List ℕ
of_peer None text = text
of_peer (Some peer) text = socket_v4_text peer ++ (codes " " ++ text)

abbrev pub warning_text : Warning → List ℕ
warning_text w = moment_text w.moment ++ (codes " " ++ of_peer w.peer (cause_text w.cause))

abbrev pub dropped_text : Dropped → List ℕ
dropped_text d = moment_text d.moment ++ (codes " lines dropped for want of room: " ++ decimal d.count)

-- the descriptors that are needed, and those that the system allows where that is known
abbrev pub descriptors_text : ℕ → Option ℕ → List ℕ
descriptors_text needed None = decimal needed ++ codes " needed"
descriptors_text needed (Some allowed) = decimal needed ++ (codes " needed, " ++ (decimal allowed ++ codes " allowed"))

abbrev pub start_text : Start → List ℕ
start_text s =
    moment_text s.moment
    ++ (codes " adc_hub 1.0 serves " ++ (s.settings.now ++ (codes " at " ++ (socket_text s.address
    ++ (codes ", descriptors: " ++ descriptors_text s.needed s.allowed)))))

-- the reason, and the joins where they are known
abbrev pub joins_text : List ℕ → Option ℕ → List ℕ
joins_text why None = why
joins_text why (Some joins) = why ++ (codes ", joins " ++ decimal joins)

abbrev pub end_text : EndLine → List ℕ
end_text e = moment_text e.moment ++ (codes " adc_hub ended: " ++ joins_text e.why.now e.joins)
