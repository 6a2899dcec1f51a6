use Rattle.std.proofs.Common.{◌≡◌, true, map, take}
use Rattle.std.specs.List.{list_all}
use Rattle.std.specs.Map.Iter.{deref}
use Rattle.inf_fields.specs.Stored.{fields_of}
use Rattle.inf_fields.specs.Updates.{is_named, update}
use Rattle.inf_fields.proofs.update.Update.read.Given as goal

abbrev pub invariant-loop-word : goal.invariant-loop-word
invariant-loop-word l =
    let seen = take l.word-index (map deref l.words) in
    (fields_of l.entries.entries ≡ update seen) × (list_all is_named seen ≡ true)
