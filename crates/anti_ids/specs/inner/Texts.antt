-- How shared text stands for bytes.
use Rattle.std.specs.Prelude.{ℕ, List, [], Option, None, Some}

-- the bytes of a text; no text stands for none
abbrev pub bytes_of : Option (List ℕ) → List ℕ
bytes_of None = []
bytes_of (Some text) = text
