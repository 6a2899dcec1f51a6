-- What is shown of a value.
use Rattle.std.proofs.Common.{◌≡◌, sym, ◌||◌, ℕ, List, true, false, is_some}
use Rattle.std.proofs.lemmas.Bool.{false≢true}
use Rattle.toml.specs.Data.{Data, string, integer, float, boolean, datetime, array, table, as_array, as_table}
use Rattle.toml.specs.Text.{IsValueText}
use Rattle.settings_report.specs.FaultWords.{IsShown, kind_words}

pub kind_shown : (value : Data) (words : List ℕ) → words ≡ kind_words value → (is_some (as_array value) || is_some (as_table value)) ≡ true → IsShown value words
kind_shown (array items) words is either = is
kind_shown (table members) words is either = is
kind_shown (string text) words is either = absurd (false≢true either)
kind_shown (integer z) words is either = absurd (false≢true either)
kind_shown (float x) words is either = absurd (false≢true either)
kind_shown (boolean b) words is either = absurd (false≢true either)
kind_shown (datetime d) words is either = absurd (false≢true either)

pub value_shown : (value : Data) (words : List ℕ) → IsValueText false value words → is_some (as_array value) ≡ false → is_some (as_table value) ≡ false
    → IsShown value words
value_shown (array items) words is list_no table_no = absurd (false≢true (sym list_no))
value_shown (table members) words is list_no table_no = absurd (false≢true (sym table_no))
value_shown (string text) words is list_no table_no = is
value_shown (integer z) words is list_no table_no = is
value_shown (float x) words is list_no table_no = is
value_shown (boolean b) words is list_no table_no = is
value_shown (datetime d) words is list_no table_no = is
