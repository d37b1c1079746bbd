-- How many fields a line has.
use Rattle.std.proofs.Common.{◌≡◌, ◌≤◌, false, eqb, List, ◌∷◌, map, length, ap, arith}
use Rattle.std.proofs.lemmas.List.{length-map}
use Rattle.std.proofs.lemmas.Bool.{ne_eqb}

-- behind six fields that end at a comma there may be one field only
pub too_many : {X Y : Type 0} (g : X → Y) (ps qs rs ss ts us vs : List X) (a b c d e f : X)
    → ps ≡ a ∷ qs → qs ≡ b ∷ rs → rs ≡ c ∷ ss → ss ≡ d ∷ ts → ts ≡ e ∷ us → us ≡ f ∷ vs → 2 ≤ length vs → eqb (length (map g ps)) 7 ≡ false
too_many g ps qs rs ss ts us vs a b c d e f one two three four five six many =
    let n = length-map ps g in
    ne_eqb (length (map g ps)) 7
    (λ seven. omega (arith, ap length one, ap length two, ap length three, ap length four, ap length five, ap length six))
