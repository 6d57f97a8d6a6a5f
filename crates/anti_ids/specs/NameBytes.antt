-- How a name stands in its 32 bytes.
use Rattle.std.specs.Prelude.{◌≡◌, ℕ, ◌-◌, ◌≤◌, ◌++◌, List, true, length, take, replicate}
use Rattle.std.proofs.Common.{refl}
use Rattle.anti_ids.specs.Names.{is_name}
use Rattle.anti_ids.specs.declared.limits.TheConstants.{LONGEST_NAME}
use Rattle.anti_ids.specs.declared.name.Name.TheInside.{Inside}

-- a name's bytes, then zeros up to 32
abbrev pub padded : List ℕ → List ℕ
padded name = name ++ replicate (LONGEST_NAME - length name) (let zero_byte : ℕ = 0 in zero_byte)

-- the first `len` bytes are a name, and zeros stand behind it
pub record HoldsName (text : List ℕ) (len : ℕ) : Type 0 where
  pub size : length text ≡ LONGEST_NAME
  pub within : len ≤ LONGEST_NAME
  pub named : is_name (take len text) ≡ true
  pub front : length (take len text) ≡ len
  pub rest : text ≡ padded (take len text)

-- a name's bytes give back how it stands
pub again : (text : List ℕ) (len : ℕ) → HoldsName text len
    → (let inside : Inside = record { text = padded (take len text); len = length (take len text) } in inside) ≡ record { text = text; len = len }
again text len held = rw (← held.rest, held.front) refl
