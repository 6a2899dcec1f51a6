mod PassSessions
mod VisitCalls
mod Refusals
mod StopAfter
mod Owed
