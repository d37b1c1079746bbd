-- What a contract sees of a list that lies in its value.
use Rattle.std.specs.Prelude.{List}

-- Its items, in order, and what stands in the places that are not used.
pub record ShortList (T : Type 0) : Type 0 where
  pub items : List T
  pub spare : List T
