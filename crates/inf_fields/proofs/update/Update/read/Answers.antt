use Rattle.std.proofs.Common.{◌≡◌, ◌<◌, ◌≤◌, length, take, map, ap, refl, arith, take_all}
use Rattle.std.proofs.Math.ListN.{get_or-map}
use Rattle.std.proofs.lemmas.List.{length-map}
use Rattle.std.specs.Map.Iter.{deref}
use Rattle.inf_fields.specs.Field.{field}
use Rattle.inf_fields.specs.Stored.{fields_of}
use Rattle.inf_fields.specs.Updates.{update}
use Rattle.inf_fields.proofs.EntryLemmas.{length-fields}
use Rattle.inf_fields.proofs.UpdateLemmas.{read-step, reading-unnamed, reading-many, reading-few}
use Rattle.inf_fields.proofs.update.Update.read.Goals as goal

pub loop-word-init : goal.loop-word-init
unfolding update
loop-word-init c = (ap fields_of c.in_ok-entries.ensures.empty, refl)

pub returns-in_default : goal.returns-in_default
returns-in_default c =
    let words = map deref c.args.words.now in
    let lt : c.loop-word.word-index < length words = omega (arith, c.loop-word-test.true, length-map c.args.words.now deref) in
    reading-unnamed words c.loop-word.word-index _ lt (get_or-map deref c.args.words.now c.loop-word.word-index _) (rw c.in_default.is at c.read.ensures)

pub loop-word-preserved : goal.loop-word-preserved
loop-word-preserved c =
    let words = map deref c.args.words.now in
    let lt : c.loop-word.word-index < length words = omega (arith, c.loop-word-test.true, length-map c.args.words.now deref) in
    read-step words c.loop-word.word-index _ (field c.in-Some.parameter.name c.in-Some.parameter.value.now) (fields_of c.loop-word.entries.entries) (fields_of c.put.new.entries.entries) lt
    (get_or-map deref c.args.words.now c.loop-word.word-index _) c.loop-word.invariant c.in-Some.ensures c.in_ok-put.ensures

pub returns-then-len-gt-MAX_FIELDS : goal.returns-then-len-gt-MAX_FIELDS
returns-then-len-gt-MAX_FIELDS c =
    let words = map deref c.args.words.now in
    let all : take c.loop-word.word-index words ≡ words = take_all c.loop-word.word-index words (omega (arith, c.loop-word-test.false, length-map c.args.words.now deref)) in
    let many : 40 < length (fields_of c.loop-word.entries.entries) = omega (arith, c.if-len-gt-MAX_FIELDS.true, c.len.ensures.len, length-fields c.loop-word.entries.entries) in
    reading-many words (fields_of c.loop-word.entries.entries) (rw all at c.loop-word.invariant) many

pub returns : goal.returns
returns c =
    let words = map deref c.args.words.now in
    let all : take c.loop-word.word-index words ≡ words = take_all c.loop-word.word-index words (omega (arith, c.loop-word-test.false, length-map c.args.words.now deref)) in
    let few : length (fields_of c.loop-word.entries.entries) ≤ 40 = omega (arith, c.if-len-gt-MAX_FIELDS.false, c.len.ensures.len, length-fields c.loop-word.entries.entries) in
    reading-few words (fields_of c.loop-word.entries.entries) (rw all at c.loop-word.invariant) few
