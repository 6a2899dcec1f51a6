-- Ordered maps as an index.
use Rattle.std.proofs.Common.{◌≡◌, ℕ, cond, List, [], ◌∷◌, refl, sym, ap, ◌∙◌}
use Rattle.std.specs.Prelude.{Option, Some, String}
use Rattle.std.specs.BTreeMap.{BTreeMap, UpdatesBy, is_at}
use Rattle.std.specs.Cmp.Lexicographic.{slice_cmp}
use Rattle.std.specs.Map.{lookup}
use Rattle.std.specs.Ordering.{nat_cmp}
use Rattle.std.specs.Str.{bytes_eq}
use Rattle.std.specs.String.{string_bytes, string_cmp}
use Rattle.std.proofs.lemmas.Map.Text.{is_eq-slice_cmp, btree_map_updates_text}
use Rattle.user_table.specs.Indexes.{IsSetAt, sid_at}
use Rattle.user_table.specs.NickView.{key_entries}

pub sid_at-keyed : {A : Type 0} (entries : List (String A × ℕ)) (key : List ℕ) → sid_at (key_entries entries) key ≡ lookup (is_at (λ k. slice_cmp nat_cmp key (string_bytes k))) entries
sid_at-keyed [] key = refl
sid_at-keyed (entry ∷ entries) key =
    ap (λ o. cond (is_at (slice_cmp nat_cmp key) (string_bytes entry.0)) (Some entry.1) o) (sid_at-keyed entries key)

pub text-set : {A : Type 0} (key : List ℕ) (m n : BTreeMap (String A) ℕ) (found : Option ℕ) → UpdatesBy string_cmp (λ k. slice_cmp nat_cmp key (string_bytes k)) m n found
    → IsSetAt key found (key_entries m.entries) (key_entries n.entries)
text-set key m n found updates = λ other.
    sid_at-keyed n.entries other ∙ btree_map_updates_text key m n found updates other ∙ ap (λ o. cond (bytes_eq key other) found o) (sym (sid_at-keyed m.entries other))

pub bytes-set : (key : List ℕ) (m n : BTreeMap (List ℕ) ℕ) (found : Option ℕ) → UpdatesBy (slice_cmp nat_cmp) (slice_cmp nat_cmp key) m n found → IsSetAt key found m.entries n.entries
bytes-set key m n found updates = λ other. updates.0 other ∙ ap (λ b. cond b found (sid_at m.entries other)) (is_eq-slice_cmp key other)
