-- An index by nick: session identifiers by the nicks' keys.
use Rattle.std.specs.Prelude.{ℕ, List, String, map}
use Rattle.std.specs.String.{string_bytes}
use Rattle.user_table.specs.declared.nick_index.NickIndex.TheInside.{Inside}

abbrev pub key_entries : {A : Type 0} → List (String A × ℕ) → List (List ℕ × ℕ)
key_entries entries = map (λ entry. (string_bytes entry.0, entry.1)) entries

abbrev pub sids_by_key : Inside → List (List ℕ × ℕ)
sids_by_key index = key_entries index.sids.entries
