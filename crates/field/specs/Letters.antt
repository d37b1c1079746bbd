-- Modes as letters.
use Rattle.std.specs.Prelude.{ℕ, cond, List, [], ◌∷◌, length, Some, None, Option, ◌==◌, slice_index_or}
use Rattle.sequencing.specs.Modes.{tables}
use Rattle.sequencing.specs.declared.mode.Mode.{Mode}

-- n stands for none, r for read, w for write; no other byte is a letter.
abbrev pub mode_of : ℕ → Option Mode
mode_of b = cond (b == 110) (Some Mode.None) (cond (b == 114) (Some Mode.Read) (cond (b == 119) (Some Mode.Write) None))

-- A mode at the front of those that follow, where all are known.
abbrev pub followed : Option Mode → Option (List Mode) → Option (List Mode)
followed None ms = None
followed (Some m) None = None
followed (Some m) (Some ms) = Some (m ∷ ms)

abbrev pub all_known : List (Option Mode) → Option (List Mode)
all_known [] = Some []
all_known (m ∷ ms) = followed m (all_known ms)

-- A declaration is eight letters, for tables 0 to 7.
abbrev pub declaration_of : List ℕ → Option (List Mode)
declaration_of bs = cond (length bs == 8) (all_known (tables (λ t. mode_of (slice_index_or bs t 0)))) None
