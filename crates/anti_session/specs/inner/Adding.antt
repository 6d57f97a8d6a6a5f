-- What the entry at a place adds to the members of a span.
use Rattle.std.specs.Prelude.{ℕ, Bool, List, [], ◌∷◌, Option, if◌then◌else◌}
use Rattle.std.specs.Option.{option_and_then, option_map_or}
use Rattle.anti_kind.specs.declared.actor.Birth.{Birth}
use Rattle.anti_kind.specs.declared.entry.Entry.{Entry}
use Rattle.anti_session.specs.Members.{server_of}
use Rattle.anti_session.specs.inner.Calls.{call_at}

-- the server of the call that the entry at a place posted
abbrev pub server_at : List Entry → Birth → ℕ → ℕ → Option Birth
server_at trace birth span x = option_and_then (λ c. server_of trace birth span c.0 c.1) (call_at trace x)

-- a read itself, and else the members of the server
abbrev pub added : (Birth → List ℕ) → Bool → ℕ → Option Birth → List ℕ
added of is_read x server = if is_read then x ∷ [] else option_map_or of server []
