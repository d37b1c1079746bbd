-- A run of requests, and what it is promised to be.
use Rattle.std.specs.Prelude.{List, [], ◌∷◌, Option}
use Rattle.catalogue.specs.declared.row.Row.{Row}
use Rattle.versioning.specs.declared.request.Request.{Request}
use Rattle.versioning.specs.Machine.{State, Answer, History, reply, after}

-- The answers to requests, one after the other.
abbrev pub replies : {V K : Type 0} → (V → Row) → (K → Row → Option V) → State → List (Request V K) → List (Answer V)
replies pack unpack s [] = []
replies pack unpack s (q ∷ qs) = reply pack unpack s q ∷ replies pack unpack (after pack unpack s q) qs

-- Requests beside their answers.
abbrev pub history : {V K : Type 0} → List (Request V K) → List (Answer V) → History V K
history [] answers = []
history (q ∷ qs) [] = []
history (q ∷ qs) (a ∷ answers) = (q, a) ∷ history qs answers
