-- Text that stands in a JSON string as it is.
use Rattle.std.specs.Prelude.{◌≡◌, ◌<◌, ℕ, List, ◌∷◌, [], IsAscii}
use Rattle.json.specs.Print.{escape, escape_byte}

abbrev pub IsClear : ℕ → Type 0
IsClear byte = (escape_byte byte ≡ byte ∷ []) × (byte < 128)

pub record AreClear (bytes : List ℕ) : Type 0 where
  pub same : escape bytes ≡ bytes
  pub ascii : IsAscii bytes
