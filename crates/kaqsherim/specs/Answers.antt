-- What the exported functions answer, and what they leave in the caller's buffer.
use Rattle.std.specs.Prelude.{◌≡◌, ℕ, cond, ◌⊎◌, List, ◌++◌, length, drop, ℤ, pos, negsuc, Ok, Err, Result, nat_le}
use Rattle.report.specs.Reports.{report}
use Rattle.kaqsherim.specs.declared.unwritten.Unwritten.{Unwritten}

-- The library's version: one more with each change of what a function answers.
abbrev pub library_version : ℕ
library_version = 1

-- The number of an answer: the report's length, -1 where the buffer is too short for it, -2 where memory is wanting.
abbrev pub number_of : Result ℕ Unwritten → ℤ
number_of (Ok n) = pos n
number_of (Err Unwritten.BufferTooShort) = negsuc 0
number_of (Err Unwritten.NoMemory) = negsuc 1

-- The answer of a run whose memory suffices: the text's length where there is room for it.
abbrev pub fitting : List ℕ → ℕ → Result ℕ Unwritten
fitting text room = cond (nat_le (length text) room) (Ok (length text)) (Err Unwritten.BufferTooShort)

-- Memory can be wanting for any sheet; else the answer is the one that is due.
abbrev pub Answered : Result ℕ Unwritten → Result ℕ Unwritten → Type 0
Answered due r = (r ≡ Err Unwritten.NoMemory) ⊎ (r ≡ due)

-- The buffer after an answer: the text and then what stood behind it, or all as before.
abbrev pub after : List ℕ → List ℕ → Result ℕ Unwritten → List ℕ
after text before (Ok n) = text ++ drop (length text) before
after text before (Err e) = before

-- What is answered for the length of a sheet's report.
abbrev pub Measured : List ℕ → ℤ → Type 0
Measured sheet r = (a : Result ℕ Unwritten) × (r ≡ number_of a) × Answered (Ok (length (report sheet))) a

-- What is answered for a sheet that is run into a buffer, which held one list of bytes before and holds the other after.
abbrev pub Ran : List ℕ → List ℕ → ℤ → List ℕ → Type 0
Ran sheet before r held =
    (a : Result ℕ Unwritten)
    × (r ≡ number_of a)
    × Answered (fitting (report sheet) (length before)) a
    × (held ≡ after (report sheet) before a)
