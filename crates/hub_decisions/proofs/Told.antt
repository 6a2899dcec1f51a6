-- Lines for the first users of a list, one after another.
use Rattle.std.proofs.Common.{◌≡◌, ◌∙◌, sym, ap, ap₂, ℕ, ◌+◌, List, [], ◌∷◌, ◌++◌, map, take, get_or, Some, unwrap_or}
use Rattle.std.specs.List.{slice_get}
use Rattle.std.proofs.lemmas.List.{map_push, take_more}
use Rattle.std.proofs.lemmas.Option.{slice_get_within, slice_get-get_or}

got : {A : Type 0} (xs : List A) (k : ℕ) (x : A) → slice_get xs k ≡ Some x → get_or xs k x ≡ x
got xs k x is = ap (λ o. unwrap_or o x) (sym (slice_get-get_or xs k x (slice_get_within xs k x is)) ∙ is)

pub lines-more : {A B : Type 0} (f : A → B) (xs : List A) (k : ℕ) (x : A) (before after : List B) (line : B)
    → after ≡ before ++ line ∷ [] → line ≡ f x → before ≡ map f (take k xs) → slice_get xs k ≡ Some x → after ≡ map f (take (k + 1) xs)
lines-more f xs k x before after line pushed is told found =
    pushed
    ∙ ap₂ (λ ls l. ls ++ l ∷ []) told is
    ∙ sym (map_push f (take k xs) x)
    ∙ ap (λ y. map f (take k xs ++ y ∷ [])) (sym (got xs k x found))
    ∙ sym (ap (map f) (take_more xs k x (slice_get_within xs k x found)))
