-- A history is a list of entries, and every list of entries is written newest first: `e ∷ h` is the history h with one more entry, e.
-- So "h begins with s" says that s is the end of the written list.
use Rattle.std.specs.Prelude.{◌≡◌, ℕ, ◌+◌, ◌==◌, List, [], ◌∷◌, ◌++◌, length, cond, nat_lt}

-- h begins with s
abbrev pub Begins : {E : Type 0} → List E → List E → Type 0
Begins {E} h s = (between : List E) × (h ≡ between ++ s)

-- the entries of h whose caller is p
abbrev pub entries : {E : Type 0} → (E → ℕ) → ℕ → List E → List E
entries by p [] = []
entries by p (e ∷ h) = cond (by e == p) (e ∷ entries by p h) (entries by p h)

-- the longer of two histories
abbrev pub longer : {E : Type 0} → List E → List E → List E
longer s t = cond (nat_lt (length s) (length t)) t s

-- the weights of the elements, added up
abbrev pub total : {X : Type 0} → (X → ℕ) → List X → ℕ
total weight [] = 0
total weight (x ∷ xs) = weight x + total weight xs
