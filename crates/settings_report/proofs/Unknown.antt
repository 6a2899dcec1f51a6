-- A key of a table that is none of the known ones stands in it.
use Rattle.std.proofs.Common.{◌≡◌, refl, ap, subst, ℕ, List, Option, Some, unwrap_or, IsSome, is_some, Ordering, Less, Equal, Greater, nat_cmp, inl, inr}
use Rattle.std.proofs.lemmas.Bool.{cases_Bool, false≢true}
use Rattle.std.proofs.lemmas.Cmp.{nat_list_cmp_total}
use Rattle.std.specs.Cmp.{tied_itself}
use Rattle.std.specs.Cmp.Lexicographic.{slice_cmp}
use Rattle.std.specs.Ordering.{match_ordering}
use Rattle.toml.specs.Data.{Data, Members, no_members, member, get_member}
use Rattle.hub_settings.specs.Unknown.{first_unknown, is_among}

found_still : (o : Ordering) (rest : Option Data) (value : Data) → IsSome rest → IsSome (match_ordering o rest (Some value) rest)
found_still Less rest value there = there
found_still Equal rest value there = refl
found_still Greater rest value there = there

pub found_itself : (key : List ℕ) (value : Data) (rest : Members) → IsSome (get_member key (member key value rest))
found_itself key value rest = rw (tied_itself nat_list_cmp_total key)

pub some_same : (first key : List ℕ) → Some first ≡ Some key → first ≡ key
some_same first key is = ap (λ found. unwrap_or found first) is

pub unknown_stands : (known : List (List ℕ)) (members : Members) (key : List ℕ) → first_unknown known members ≡ Some key → IsSome (get_member key members)
unknown_stands known no_members key is = absurd (false≢true (ap is_some is))
unknown_stands known (member first value rest) key is =
    elim (cases_Bool (is_among known first)) [
      | inl same ↦ found_still (slice_cmp nat_cmp key first) (get_member key rest) value (unknown_stands known rest key (rw same at is))
      | inr other ↦ subst (λ k. IsSome (get_member k (member first value rest))) (some_same first key (rw other at is)) (found_itself first value rest)
    ]
